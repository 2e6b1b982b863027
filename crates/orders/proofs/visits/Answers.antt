use Rattle.std.proofs.Common.{arith, length, ap}
use Rattle.orders.proofs.Orders.{visits_short}
use Rattle.orders.proofs.visits.Goals as goal

pub visit-requires : goal.visit-requires
visit-requires c = (omega arith, c.new-steps.ensures.short, omega (arith, ap length c.new-steps.ensures.exact, visits_short c.args.m.nodes c.requires))
