use Rattle.std.proofs.Common.{◌-◌, ap, ◌∙◌}
use Rattle.model.specs.declared.RowNumber.{RowNumber}
use Rattle.model.specs.Nodes.{direct_of}
use Rattle.runs.specs.Changes.{joined, grown}
use Rattle.runs.specs.Laid.{live, laid}
use Rattle.steps.proofs.SoundRegions.{sound_laid, sound_tiled}
use Rattle.edits.proofs.Growing.{sound_few, room, regions_after}
use Rattle.edits.proofs.grown.grow_regions.Goals as goal

pub grow-requires-clause-laid : goal.grow-requires-clause-laid
grow-requires-clause-laid c = sound_laid c.args.m c.requires.sound

pub grow-requires-clause-tiled : goal.grow-requires-clause-tiled
grow-requires-clause-tiled c = sound_tiled c.args.m c.requires.sound

pub grow-requires-clause-m_len_bound : goal.grow-requires-clause-m_len_bound
grow-requires-clause-m_len_bound c = (sound_few c.args.m c.requires.sound, room c.args.m c.args.k c.args.count c.requires)

pub returns : goal.returns
returns c =
    let m = c.args.m in
    let i = c.place_after-place.result in
    c.grow.ensures
    ∙ ap (λ (x : RowNumber). laid m (joined (grown (live m) i x.0 c.args.k (direct_of m.nodes c.args.k) (c.args.count - direct_of m.nodes c.args.k)))) c.end_of-row.ensures
    ∙ regions_after m c.args.k c.args.count c.requires i c.place_after-place.ensures.1
