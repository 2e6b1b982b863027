use Rattle.std.proofs.Common.{arith, refl, sym, ◌∙◌}
use Rattle.std.proofs.lemmas.Fn.{says_at}
use Rattle.std.proofs.lemmas.Bool.{false≢true}
use Rattle.orders.proofs.NextChild.{search_begins, search_better, search_passes, search_ends}
use Rattle.orders.proofs.next_child.Goals as goal
use Rattle.orders.proofs.next_child.Goals.{then-test+then-n-node+then-low-n+then-n-bound, else-test, else-test-via-then-test+then-n-node+then-low-n+else-n-bound, else-test-via-then-test+then-n-node+else-low-n, else-test-via-then-test+else-n-node, else-test-via-else-test}

pub loop-k-init : goal.loop-k-init
loop-k-init g c = λ q tests.
    let x = c.args in
    search_begins q x.nodes.now x.node x.low x.limit

pub loop-k-preserved : goal.loop-k-preserved
loop-k-preserved g c = λ q tests.
    let x = c.args in
    let l = c.loop-k in
    let is = tests _ _ (says_at g.F.Fn c.test.ensures refl) in
    let before = l.invariant q tests in
    elim c.if-test.branch [
      | then-test+then-n-node+then-low-n+then-n-bound w ↦
          rw (w.best-is, w.bound-is)
          (search_better q x.nodes.now x.node x.low x.limit l.best l.bound l.k before (omega arith) (sym is ∙ w.if-test.true, w.if-n-node.true) w.if-low-n.true w.if-n-bound.true)
      | else-test w ↦
          rw (w.best-is, w.bound-is)
          (search_passes q x.nodes.now x.node x.low x.limit l.best l.bound l.k before
          (λ child from. elim w.else-test.branch [
            | else-test-via-then-test+then-n-node+then-low-n+else-n-bound v ↦ v.if-n-bound.false
            | else-test-via-then-test+then-n-node+else-low-n v ↦ absurd (omega (arith, v.if-low-n.false))
            | else-test-via-then-test+else-n-node v ↦ absurd (v.if-n-node.false child.1)
            | else-test-via-else-test v ↦ absurd (false≢true (sym v.if-test.false ∙ is ∙ child.0))
          ]))
    ]

pub returns : goal.returns
returns g c = λ q tests.
    let x = c.args in
    search_ends q x.nodes.now x.node x.low x.limit c.loop-k.best c.loop-k.bound c.loop-k.k (omega arith) (omega arith) (c.loop-k.invariant q tests)
