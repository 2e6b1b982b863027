use Rattle.std.proofs.Common.{◌-◌, arith, rules, append-nil, append_assoc, length, length-append, ap}
use Rattle.model.specs.Nodes.{is_open}
use Rattle.model.specs.Close.{closing_order}
use Rattle.orders.specs.Order.{items}
use Rattle.orders.proofs.Along.{along_begins, along_room, along_next, along_ends, closing_none, closing_some}
use Rattle.orders.proofs.Room.{held, held_again}
use Rattle.orders.proofs.+close_order.Goals as goal

pub returns-then-allowance-eq0 : goal.returns-then-allowance-eq0
returns-then-allowance-eq0 t c =
    let x = c.args in
    rw (closing_none x.nodes.now x.node x.allowance c.if-allowance-eq0.true, append-nil) (held x.out.now (omega arith) c.requires.1)

pub loop-child-init : goal.loop-child-init
loop-child-init t c =
    let x = c.args in
    (held x.out.now (omega arith) c.requires.1, along_begins (closing_order x.nodes.now (x.allowance - 1)) is_open x.nodes.now x.node (items x.out.now))

pub close_order-requires : goal.close_order-requires
close_order-requires t c =
    let x = c.args in
    let f = c.in-Some.ensures is_open (λ n b k. search rules) in
    let e = closing_some x.nodes.now x.node x.allowance c.if-allowance-eq0.false in
    (search rules, (f.small, c.loop-child.invariant.0.short, omega (arith, along_room c.loop-child.invariant.1 _ f, simp length-append at (ap length e), c.requires.2)))

pub loop-child-preserved : goal.loop-child-preserved
loop-child-preserved t c =
    let n = c.close_order.ensures in
    (held_again _ _ n, along_next c.loop-child.invariant.1 _ (c.in-Some.ensures is_open (λ n b k. search rules)) _ n.exact)

-- `node` itself still has a place
pub push-requires : goal.push-requires
push-requires t c =
    let x = c.args in
    let o = along_ends c.loop-child.invariant.1 (c.in_default.ensures is_open (λ n b k. search rules)) in
    let e = closing_some x.nodes.now x.node x.allowance c.if-allowance-eq0.false in
    (omega arith, omega (arith, c.loop-child.invariant.0.count, simp length-append at (ap length o), simp length-append at (ap length e), c.requires.2))

pub returns : goal.returns
returns t c =
    let x = c.args in
    let o = along_ends c.loop-child.invariant.1 (c.in_default.ensures is_open (λ n b k. search rules)) in
    let e = closing_some x.nodes.now x.node x.allowance c.if-allowance-eq0.false in
    rw (e, ← append_assoc, ← o) c.push.ensures
