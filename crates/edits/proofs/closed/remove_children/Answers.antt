use Rattle.std.proofs.Common.{ℕ, ◌+◌, ◌≡◌, sym, ap, ◌∙◌, arith}
use Rattle.model.specs.declared.Model.{Model}
use Rattle.model.specs.declared.RowNumber.{RowNumber}
use Rattle.model.specs.Rows.{row_of}
use Rattle.runs.specs.Search.{region_at}
use Rattle.runs.specs.Laid.{live}
use Rattle.steps.proofs.SoundRegions.{sound_laid, sound_tiled, sound_total}
use Rattle.edits.proofs.ChildRows.{next_row_fits, next_row_found, children_out, found_below}
use Rattle.edits.proofs.closed.remove_children.Goals as goal

-- the search below the row that was found
below : (m : Model) (x : RowNumber) (r : ℕ) → x ≡ record { 0 = r } → region_at (live m) (r + 1) ≡ region_at (live m) (x.0 + 1)
below m x r e = sym (ap (λ (y : RowNumber). region_at (live m) (y.0 + 1)) e)

pub overflow_add-first : goal.overflow_add-first
overflow_add-first c =
    let e = ap (λ (x : RowNumber). x.0) c.row_of-row.ensures in
    record { fits = omega (arith, next_row_fits c.args.m c.requires.sound c.args.node c.requires.closable) }

pub find_region-requires-clause-laid : goal.find_region-requires-clause-laid
find_region-requires-clause-laid c = sound_laid c.args.m c.requires.sound

pub find_region-requires-clause-tiled : goal.find_region-requires-clause-tiled
find_region-requires-clause-tiled c = sound_tiled c.args.m c.requires.sound

pub returns-in_default : goal.returns-in_default
returns-in_default c =
    absurd
    (next_row_found c.args.m c.requires.sound c.args.node c.requires.closable
    (below c.args.m c.row_of-row.result (row_of c.args.m.nodes c.args.node) c.row_of-row.ensures ∙ sym c.find_region.ensures ∙ c.in_default.is))

pub collapse-requires-clause-laid : goal.collapse-requires-clause-laid
collapse-requires-clause-laid c = sound_laid c.args.m c.requires.sound

pub collapse-requires-clause-tiled : goal.collapse-requires-clause-tiled
collapse-requires-clause-tiled c = sound_tiled c.args.m c.requires.sound

pub collapse-requires-clause-place_in_bounds :
    goal.collapse-requires-clause-place_in_bounds
collapse-requires-clause-place_in_bounds c =
    let at = sym c.find_region.ensures ∙ c.in-Some.is in
    (found_below c.args.m c.requires.sound _ _ at, omega (arith, sound_total c.args.m c.requires.sound, c.requires.sound.limit))

pub returns : goal.returns
returns c =
    let at = sym c.find_region.ensures ∙ c.in-Some.is in
    c.collapse.ensures ∙ children_out c.args.m c.requires.sound c.args.node c.requires.closable _ (below c.args.m c.row_of-row.result (row_of c.args.m.nodes c.args.node) c.row_of-row.ensures ∙ at)
