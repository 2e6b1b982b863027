use Rattle.std.proofs.Common.{ap, ◌∙◌}
use Rattle.model.specs.declared.RowNumber.{RowNumber}
use Rattle.runs.specs.Search.{region_at}
use Rattle.runs.specs.Laid.{live}
use Rattle.steps.proofs.SoundRegions.{sound_laid, sound_tiled}
use Rattle.edits.proofs.Growing.{end_place}
use Rattle.edits.proofs.grown.place_after.Goals as goal

pub find_region-requires-clause-laid : goal.find_region-requires-clause-laid
find_region-requires-clause-laid c = sound_laid c.args.m c.requires.sound

pub find_region-requires-clause-tiled : goal.find_region-requires-clause-tiled
find_region-requires-clause-tiled c = sound_tiled c.args.m c.requires.sound

pub returns : goal.returns
returns c =
    let m = c.args.m in
    let e = c.find_region.ensures ∙ ap (λ (x : RowNumber). region_at (live m) x.0) c.end_of.ensures in
    rw c.unwrap_or.ensures (end_place m c.requires.sound c.args.k c.requires.opens c.find_region.result e)
