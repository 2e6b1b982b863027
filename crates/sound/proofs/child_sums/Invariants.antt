-- The sums, when the nodes before this one are added.
use Rattle.std.proofs.Common.{◌+◌}
use Rattle.sound.proofs.Totals.{Adding}
use Rattle.sound.proofs.child_sums.Given as goal

abbrev pub invariant-loop-n : goal.invariant-loop-n
invariant-loop-n l = Adding l.fn.m.nodes (l.n-index + 1) l.sums
