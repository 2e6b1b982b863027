use Rattle.std.proofs.Common.{arith, ◌≡◌, ◌-◌}
use Rattle.model.specs.Rows.{row_of}
use Rattle.tree.proofs.WellFormed.{used_small}
use Rattle.totals.proofs.Climb.{first_row_climb, first_row_limit, first_row_root}
use Rattle.totals.proofs.row_of.Goals as goal

pub loop-k-init : goal.loop-k-init
loop-k-init c = (c.requires.used, omega arith)

pub offset_bounds-m-k : goal.offset_bounds-m-k
offset_bounds-m-k c =
    let l = c.loop-k in
    omega (arith, used_small c.args.m.nodes c.requires.sound.well l.k l.invariant.0)

pub bounds-m-k : goal.bounds-m-k
bounds-m-k c =
    let l = c.loop-k in
    used_small c.args.m.nodes c.requires.sound.well l.k l.invariant.0

pub rows_between-before-requires-clause-end_bound :
    goal.rows_between-before-requires-clause-end_bound
rows_between-before-requires-clause-end_bound c =
    let l = c.loop-k in
    let r = first_row_climb c.args.m c.requires.sound l.k c.loop-k-test.true l.invariant.0 in
    let h = first_row_limit c.args.m c.requires.sound c.args.node c.requires.node_nonzero c.requires.used in
    omega (arith, r.2, h.1, l.invariant.1)

pub overflow_add-rows : goal.overflow_add-rows
overflow_add-rows c =
    let l = c.loop-k in
    let r = first_row_climb c.args.m c.requires.sound l.k c.loop-k-test.true l.invariant.0 in
    let h = first_row_limit c.args.m c.requires.sound c.args.node c.requires.node_nonzero c.requires.used in
    omega (arith, r.2, h.1, l.invariant.1, c.rows_between-before.ensures)

pub overflow_add-rows-in-loop-k : goal.overflow_add-rows-in-loop-k
overflow_add-rows-in-loop-k c =
    let l = c.loop-k in
    let r = first_row_climb c.args.m c.requires.sound l.k c.loop-k-test.true l.invariant.0 in
    let h = first_row_limit c.args.m c.requires.sound c.args.node c.requires.node_nonzero c.requires.used in
    omega (arith, r.2, h.1, l.invariant.1, c.rows_between-before.ensures)

pub loop-k-smaller : goal.loop-k-smaller
loop-k-smaller c =
    let l = c.loop-k in
    let r = first_row_climb c.args.m c.requires.sound l.k c.loop-k-test.true l.invariant.0 in
    r.3

pub loop-k-preserved : goal.loop-k-preserved
loop-k-preserved c =
    let l = c.loop-k in
    let r = first_row_climb c.args.m c.requires.sound l.k c.loop-k-test.true l.invariant.0 in
    (r.0, omega (arith, r.2, l.invariant.1, c.rows_between-before.ensures))

pub overflow_sub-result : goal.overflow_sub-result
overflow_sub-result c =
    let l = c.loop-k in
    let h = first_row_limit c.args.m c.requires.sound c.args.node c.requires.node_nonzero c.requires.used in
    let z = first_row_root c.args.m.nodes l.k c.loop-k-test.false in
    omega (arith, h.0, z, l.invariant.1)

pub returns : goal.returns
returns c =
    let l = c.loop-k in
    let h = first_row_limit c.args.m c.requires.sound c.args.node c.requires.node_nonzero c.requires.used in
    let z = first_row_root c.args.m.nodes l.k c.loop-k-test.false in
    let e : l.rows - 1 ≡ row_of c.args.m.nodes c.args.node = omega (arith, h.0, z, l.invariant.1) in
    λ i. record { 0 = e i }
