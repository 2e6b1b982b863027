use Rattle.std.proofs.Common.{◌∙◌, arith}
use Rattle.tree_list.proofs.SoundRows.{place_small, place_parent, place_holds, place_fits, place_index}
use Rattle.tree_list.proofs.rows.row_at.Goals as goal

pub offset_bounds-m-place : goal.offset_bounds-m-place
offset_bounds-m-place c = omega (arith, place_small c.args.m.model c.args.m.sound c.args.row.0 c.args.place c.requires)

pub bounds-m-place : goal.bounds-m-place
bounds-m-place c = place_small c.args.m.model c.args.m.sound c.args.row.0 c.args.place c.requires

pub child_at-requires : goal.child_at-requires
child_at-requires c =
    let h = place_holds c.args.m.model c.args.m.sound c.args.row.0 c.args.place c.requires in
    (h.0, h.1, place_fits c.args.m.model c.args.m.sound c.args.row.0 c.args.place c.requires)

pub returns-clause-parent : goal.returns-clause-parent
returns-clause-parent c = place_parent c.args.m.model c.args.m.sound c.args.row.0 c.args.place c.requires

pub returns-clause-index : goal.returns-clause-index
returns-clause-index c =
    let e = place_index c.args.m.model c.args.m.sound c.args.row.0 c.args.place c.requires in
    c.child_at.ensures ∙ (λ i. record { 0 = e i })
