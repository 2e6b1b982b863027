use Rattle.std.proofs.Common.{◌≡◌, Bool}
use Rattle.std.specs.Fn.{FnReturnsAt}
use Rattle.model.specs.declared.Node.{Node}
use Rattle.orders.proofs.NextChild.{Search}
use Rattle.orders.proofs.next_child.Given as goal

abbrev pub invariant-loop-k : goal.invariant-loop-k
invariant-loop-k g l =
    (q : Node → Bool) → ((n : Node) (b : Bool) → FnReturnsAt g.F.Fn l.test n b → b ≡ q n) → Search q l.nodes l.node l.low l.limit l.best l.bound l.k
