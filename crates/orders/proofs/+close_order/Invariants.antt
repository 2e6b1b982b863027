use Rattle.std.proofs.Common.{◌-◌}
use Rattle.model.specs.Nodes.{is_open}
use Rattle.model.specs.Close.{closing_order}
use Rattle.orders.specs.Order.{items, Holds}
use Rattle.orders.proofs.Along.{Along}
use Rattle.orders.proofs.+close_order.Given as goal

-- the allowance falls
abbrev pub decreases-close_order : goal.decreases-close_order
decreases-close_order l = l.allowance

abbrev pub invariant-loop-child : goal.invariant-loop-child
invariant-loop-child l = Holds l.out (items l.out) × Along (closing_order l.nodes (l.allowance - 1)) is_open l.nodes l.node l.low l.limit (items l.initial.out) (items l.out)

abbrev pub decreases-loop-child : goal.decreases-loop-child
decreases-loop-child l = l.limit - l.low
