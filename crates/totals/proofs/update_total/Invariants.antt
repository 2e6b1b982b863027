use Rattle.std.proofs.Common.{length}
use Rattle.tree.specs.Paths.{to}
use Rattle.totals.proofs.Moves.{Climbing}
use Rattle.totals.proofs.update_total.Given as goal

abbrev pub invariant-loop-k : goal.invariant-loop-k
invariant-loop-k l = Climbing l.expanded l.rows l.fn.m l.node l.q l.k

abbrev pub decreases-loop-k : goal.decreases-loop-k
decreases-loop-k l = length (to l.fn.m.nodes l.k)
