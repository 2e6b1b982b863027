use Rattle.std.proofs.Common.{arith, rules, append-nil, append_assoc, length, length-append, ap, sym}
use Rattle.model.specs.Nodes.{is_ongoing}
use Rattle.model.specs.Update.{visit}
use Rattle.orders.specs.Order.{items}
use Rattle.orders.proofs.Along.{along_begins, along_room, along_next, along_ends, visit_none, visit_some, followed_none, followed_some}
use Rattle.orders.proofs.Room.{held, held_again}
use Rattle.orders.proofs.+visit_walk.Goals as goal

pub visit-returns-then-allowance-eq0 : goal.visit-returns-then-allowance-eq0
visit-returns-then-allowance-eq0 t c =
    let x = c.args in
    rw (visit_none x.nodes.now x.node x.allowance c.if-allowance-eq0.true, append-nil) (held x.out.now (omega arith) c.requires.1)

-- there are places for the text, the walk and the growth
pub visit-push-requires : goal.visit-push-requires
visit-push-requires t c =
    let x = c.args in
    let e = visit_some x.nodes.now x.node x.allowance c.if-allowance-eq0.false in
    (omega arith, omega (arith, (held x.out.now (omega arith) c.requires.1).count, simp length-append at (ap length e), c.requires.2))

pub visit-walk-requires : goal.visit-walk-requires
visit-walk-requires t c =
    let x = c.args in
    let e = visit_some x.nodes.now x.node x.allowance c.if-allowance-eq0.false in
    (search rules, (c.requires.0, c.push.ensures.short, omega (arith, simp length-append at (ap length e), simp length-append at (ap length c.push.ensures.exact), c.requires.2)))

pub visit-push-requires-2 : goal.visit-push-requires-2
visit-push-requires-2 t c =
    let x = c.args in
    let e = visit_some x.nodes.now x.node x.allowance c.if-allowance-eq0.false in
    (omega arith, omega (arith, simp length-append at (ap length e), simp length-append at (ap length c.push.ensures.exact), simp length-append at c.walk.ensures.count, c.requires.2))

pub visit-returns : goal.visit-returns
visit-returns t c =
    let x = c.args in
    let e = visit_some x.nodes.now x.node x.allowance c.if-allowance-eq0.false in
    rw e (simp append_assoc at (rw (c.walk.ensures.exact, c.push.ensures.exact) at c.push-2.ensures))

pub walk-returns-then-not-nodes-node : goal.walk-returns-then-not-nodes-node
walk-returns-then-not-nodes-node t c =
    let x = c.args in
    rw (followed_none x.nodes.now x.node x.allowance c.if-not-nodes-node.true, append-nil) (held x.out.now (omega arith) c.requires.1)

pub walk-loop-followed-init : goal.walk-loop-followed-init
walk-loop-followed-init t c =
    let x = c.args in
    (held x.out.now (omega arith) c.requires.1, along_begins (visit x.nodes.now x.allowance) is_ongoing x.nodes.now x.node (items x.out.now))

pub walk-visit-requires : goal.walk-visit-requires
walk-visit-requires t c =
    let x = c.args in
    let f = c.in-Some.ensures is_ongoing (λ n b k. search rules) in
    let e = followed_some x.nodes.now x.node x.allowance c.if-not-nodes-node.false in
    (search rules, (f.small, c.loop-followed.invariant.0.short, omega (arith, along_room c.loop-followed.invariant.1 _ f, ap length e, c.requires.2)))

pub walk-loop-followed-preserved : goal.walk-loop-followed-preserved
walk-loop-followed-preserved t c =
    let n = c.visit.ensures in
    (held_again _ _ n, along_next c.loop-followed.invariant.1 _ (c.in-Some.ensures is_ongoing (λ n b k. search rules)) _ n.exact)

pub walk-returns : goal.walk-returns
walk-returns t c =
    let x = c.args in
    let o = along_ends c.loop-followed.invariant.1 (c.in_default.ensures is_ongoing (λ n b k. search rules)) in
    rw (followed_some x.nodes.now x.node x.allowance c.if-not-nodes-node.false, sym o) c.loop-followed.invariant.0
