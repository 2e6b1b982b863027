use Rattle.std.proofs.Common.{◌≡◌}
use Rattle.edits.proofs.Freeing.{freed_to}
use Rattle.edits.proofs.closed.free_children.Given as goal

abbrev pub invariant-loop-n : goal.invariant-loop-n
invariant-loop-n l = l.n-items ≡ freed_to l.fn.node l.fn.m.nodes l.n-index
