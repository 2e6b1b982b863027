use Rattle.std.proofs.Common.{◌≡◌, sym, ap, ◌∙◌, arith}
use Rattle.model.proofs.Arrays.{nodes_long}
use Rattle.steps.specs.Settled.{with_nodes}
use Rattle.edits.proofs.Freeing.{freed_none, freed_all, free_turn}
use Rattle.edits.proofs.closed.free_children.Goals as goal

pub loop-n-init : goal.loop-n-init
loop-n-init c = freed_none c.args.node c.args.m.nodes

pub loop-n-preserved : goal.loop-n-preserved
loop-n-preserved c =
    let l = c.loop-n in
    let long = nodes_long c.args.m _ c.well_formed.0 in
    free_turn c.args.node c.args.m.nodes l.n-items l.n-index c.unless_child.result (omega arith) l.invariant c.unless_child.ensures

pub returns : goal.returns
returns c =
    let l = c.loop-n in
    let end : l.n-index ≡ 256 = omega arith in
    ap (with_nodes c.args.m) (l.invariant ∙ freed_all c.args.node c.args.m.nodes l.n-index (nodes_long c.args.m _ c.well_formed.0 ∙ sym end))
