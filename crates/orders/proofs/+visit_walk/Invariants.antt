use Rattle.std.proofs.Common.{◌-◌, ◌*◌, ◌+◌}
use Rattle.model.specs.Nodes.{is_ongoing}
use Rattle.model.specs.Update.{visit}
use Rattle.orders.specs.Order.{items, Holds}
use Rattle.orders.proofs.Along.{Along}
use Rattle.orders.proofs.+visit_walk.Given as goal

-- the allowance falls from a visit to the walk in it, and a walk comes before its visits
abbrev pub decreases-visit : goal.decreases-visit
decreases-visit l = 2 * l.allowance

abbrev pub decreases-walk : goal.decreases-walk
decreases-walk l = 2 * l.allowance + 1

abbrev pub invariant-walk-loop-followed : goal.invariant-walk-loop-followed
invariant-walk-loop-followed l = Holds l.out (items l.out) × Along (visit l.nodes l.allowance) is_ongoing l.nodes l.node l.low l.limit (items l.initial.out) (items l.out)

abbrev pub decreases-walk-loop-followed : goal.decreases-walk-loop-followed
decreases-walk-loop-followed l = l.limit - l.low
