use Rattle.std.proofs.Common.{◌+◌, ◌<◌, ◌≤◌, arith, length}
use Rattle.model.specs.Nodes.{node_at}
use Rattle.model.proofs.Arrays.{nodes_long, node_fits}
use Rattle.sound.proofs.Formed.{parent_low}
use Rattle.sound.proofs.Totals.{adding_start, adding_next, adding_over, adding_all, tail_node, tail_long}
use Rattle.sound.proofs.child_sums.Goals as goal

pub loop-n-init : goal.loop-n-init
loop-n-init c = adding_start c.args.m.nodes

pub offset_bounds-sums-n : goal.offset_bounds-sums-n
offset_bounds-sums-n c =
    let ns = c.args.m.nodes in
    let size = nodes_long c.args.m _ c.well_formed.0 in
    let low : (node_at ns (c.loop-n.n-index + 1)).parent < 256 = rw size at (parent_low ns c.requires (omega arith) (c.loop-n.n-index + 1)) in
    rw (tail_node ns c.loop-n.n-index) (omega arith)

pub bounds-sums-n : goal.bounds-sums-n
bounds-sums-n c =
    let ns = c.args.m.nodes in
    let size = nodes_long c.args.m _ c.well_formed.0 in
    rw (tail_node ns c.loop-n.n-index) (rw size at (parent_low ns c.requires (omega arith) (c.loop-n.n-index + 1)))

pub returns-in_err-sum : goal.returns-in_err-sum
returns-in_err-sum c =
    let ns = c.args.m.nodes in
    let l = c.loop-n in
    let t = c.open_total in
    let z = tail_node ns l.n-index in
    let size = nodes_long c.args.m _ c.well_formed.0 in
    let low : (node_at ns (l.n-index + 1)).parent < 256 = rw size at (parent_low ns c.requires (omega arith) (l.n-index + 1)) in
    let over = rw z at c.in_err-sum.ensures in
    rw c.from_residual.ensures
    (adding_over ns (l.n-index + 1) l.sums size (omega (arith, tail_long ns)) l.invariant t.result 18446744073709551615 (rw z at t.ensures) c.requires (omega arith) low (omega arith)
    (omega (arith, (node_fits c.args.m _ c.well_formed.0 (node_at ns (l.n-index + 1)).parent).total_fits)))

pub loop-n-preserved : goal.loop-n-preserved
loop-n-preserved c =
    let ns = c.args.m.nodes in
    let l = c.loop-n in
    let t = c.open_total in
    let z = tail_node ns l.n-index in
    let size = nodes_long c.args.m _ c.well_formed.0 in
    let low : (node_at ns (l.n-index + 1)).parent < 256 = rw size at (parent_low ns c.requires (omega arith) (l.n-index + 1)) in
    let e = rw z at c.in_ok-sum.ensures in
    rw (z, e.1)
    (adding_next ns (l.n-index + 1) l.sums size (omega (arith, tail_long ns)) l.invariant t.result (rw z at t.ensures) low (omega arith))

pub returns : goal.returns
returns c =
    let ns = c.args.m.nodes in
    let size = nodes_long c.args.m _ c.well_formed.0 in
    let end : length ns ≤ c.loop-n.n-index + 1 = omega (arith, tail_long ns) in
    adding_all ns (c.loop-n.n-index + 1) c.loop-n.sums end c.loop-n.invariant
