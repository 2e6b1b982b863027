use Rattle.std.proofs.Common.{arith}
use Rattle.totals.proofs.Moves.{climb_start, node_small, above_small, above_movable, above_less, above_step, above_end}
use Rattle.totals.proofs.update_total.Goals as goal

pub loop-k-init : goal.loop-k-init
loop-k-init c = climb_start c.args.expanded c.args.rows c.args.m c.requires.well_formed c.args.node c.requires.used

pub offset_bounds-q-k : goal.offset_bounds-q-k
offset_bounds-q-k c =
    let l = c.loop-k in
    omega (arith, node_small c.args.expanded c.args.rows c.args.m c.requires.well_formed c.args.node l.q l.k l.invariant)

pub bounds-q-k : goal.bounds-q-k
bounds-q-k c =
    let l = c.loop-k in
    node_small c.args.expanded c.args.rows c.args.m c.requires.well_formed c.args.node l.q l.k l.invariant

pub offset_bounds-q-above : goal.offset_bounds-q-above
offset_bounds-q-above c =
    let l = c.loop-k in
    omega (arith, above_small c.args.expanded c.args.rows c.args.m c.requires.well_formed c.args.node l.q l.k c.loop-k-test.true l.invariant)

pub bounds-q-above : goal.bounds-q-above
bounds-q-above c =
    let l = c.loop-k in
    above_small c.args.expanded c.args.rows c.args.m c.requires.well_formed c.args.node l.q l.k c.loop-k-test.true l.invariant

pub moved_total-parent-requires : goal.moved_total-parent-requires
moved_total-parent-requires c =
    let l = c.loop-k in
    above_movable c.args.expanded c.args.rows c.args.m c.requires.well_formed c.args.node l.q l.k c.loop-k-test.true l.invariant c.requires.all_movable

pub loop-k-smaller : goal.loop-k-smaller
loop-k-smaller c =
    let l = c.loop-k in
    above_less c.args.expanded c.args.rows c.args.m c.requires.well_formed c.args.node l.q l.k c.loop-k-test.true l.invariant

pub loop-k-preserved : goal.loop-k-preserved
loop-k-preserved c =
    let l = c.loop-k in
    above_step c.args.expanded c.args.rows c.args.m c.requires.well_formed c.args.node l.q l.k c.moved_total-parent.result c.loop-k-test.true l.invariant c.moved_total-parent.ensures

pub returns : goal.returns
returns c =
    let l = c.loop-k in
    above_end c.args.expanded c.args.rows c.args.m c.requires.well_formed c.args.node l.q l.k c.loop-k-test.false l.invariant
