use Rattle.std.proofs.Common.{◌≡◌, ◌+◌, length}
use Rattle.tree.specs.Paths.{to, first_row}
use Rattle.tree.specs.WellFormed.{Used}
use Rattle.totals.proofs.row_of.Given as goal

abbrev pub invariant-loop-k : goal.invariant-loop-k
invariant-loop-k l = Used l.m.nodes l.k × (l.rows + first_row l.m.nodes l.k ≡ first_row l.m.nodes l.node)

abbrev pub decreases-loop-k : goal.decreases-loop-k
decreases-loop-k l = length (to l.m.nodes l.k)
