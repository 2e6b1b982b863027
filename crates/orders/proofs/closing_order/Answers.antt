use Rattle.std.proofs.Common.{arith, length, ap}
use Rattle.orders.proofs.Answers.{closing_is, closing_fits, closing_inside}
use Rattle.orders.proofs.closing_order.Goals as goal

pub close_order-requires : goal.close_order-requires
close_order-requires c =
    let r = c.requires in
    let x = c.args in
    (closing_inside x.m.nodes r.0 x.k r.1 r.2, c.new-order.ensures.short, omega (arith, ap length c.new-order.ensures.exact, closing_fits x.m.nodes r.0 x.k r.1 r.2))

pub returns : goal.returns
returns c =
    let r = c.requires in
    let x = c.args in
    rw (c.new-order.ensures.exact, closing_is x.m.nodes r.0 x.k r.1 r.2) at c.close_order.ensures
