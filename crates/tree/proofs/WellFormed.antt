-- Well-formed nodes: the statements are what the test says, and a node in use is the child that its parent has there.
use mathlib.Core.Path.{◌≡◌, refl, sym, ◌∙◌, ap}
use mathlib.Core.Logic.{◌⊎◌, inl, inr}
use mathlib.Core.Bool.{Bool, true, false, cond, not, ◌||◌}
use mathlib.Core.List.{List, [], ◌∷◌}
use Prim.Native.Nat.{ℕ, zero, suc, ◌+◌, ◌<◌}
use native.Mathlib.Omega.{arith}
use native.Mathlib.Nat.{add-zero}
use native.Mathlib.Decide.{dec_lt}
use lib.ListN.{length}
use lib.Dec.{eqb, ltb}
use borrow.Author.Tests.{eqb-true, eq-eqb, ltb-true, lt-ltb}
use Rattle.lists.proofs.Bools.{bool, both, all_six, and, neither, implied, imply}
use Rattle.model.specs.declared.Node.{Node}
use Rattle.model.specs.Places.{longest_chain, node_places}
use Rattle.model.specs.Nodes.{no_node, node_at, direct_of, used, is_open, child_by, child}
use Rattle.model.specs.Sound.{reaches, capture_ok, used_ok, blank, node_ok, nodes_ok}
use Rattle.model.proofs.Search.{child_found, child_none, node_past, used_inside}
use Rattle.tree.specs.WellFormed.{Used, Opens, up, ix, Placed, Root, WellFormed}

pub open_used : (ns : List Node) (k : ℕ) → Opens ns k → Used ns k
open_used ns k o = rw o

-- the test, taken apart

nodes_ok_lem : (ns : List Node) (k : ℕ) (ms : List Node) → nodes_ok ns k ms ≡ true → (i : ℕ) → i < length ms → node_ok ns (k + i) (node_at ms i) ≡ true
unfolding nodes_ok
nodes_ok_lem ns k [] e i h = absurd (omega arith)
nodes_ok_lem ns k (m ∷ ms) e zero h = rw add-zero (both (node_ok ns k m) (nodes_ok ns (suc k) ms) e).0
nodes_ok_lem ns k (m ∷ ms) e (suc i) h =
    let d : k + suc i ≡ suc k + i = omega arith in
    rw d (nodes_ok_lem ns (suc k) ms (both (node_ok ns k m) (nodes_ok ns (suc k) ms) e).1 i (omega arith))

ok_nodes : (ns : List Node) (k : ℕ) (ms : List Node) → ((i : ℕ) → i < length ms → node_ok ns (k + i) (node_at ms i) ≡ true) → nodes_ok ns k ms ≡ true
unfolding nodes_ok
ok_nodes ns k [] h = refl
ok_nodes ns k (m ∷ ms) h =
    and
    (rw add-zero at (h 0 (omega arith)))
    (ok_nodes ns (suc k) ms (λ i l. let d : k + suc i ≡ suc k + i = omega arith in rw d at (h (suc i) (omega arith))))

blank_none : (n : Node) → used n ≡ false → blank n ≡ true → n ≡ no_node
blank_none n u b =
    let o = neither n.«open» n.ongoing u in
    let z = all_six (eqb n.parent 0) (eqb n.index 0) (eqb n.entry 0) (eqb n.direct 0) (eqb n.total 0) (eqb n.version 0) b in
    λ i. record {
      parent = eqb-true n.parent 0 z.0 i;
      index = eqb-true n.index 0 z.1 i;
      entry = eqb-true n.entry 0 z.2 i;
      direct = eqb-true n.direct 0 z.3 i;
      total = eqb-true n.total 0 z.4 i;
      version = eqb-true n.version 0 z.5 i;
      «open» = o.0 i;
      ongoing = o.1 i;
    }

root_of : (n : Node) → capture_ok n ≡ true → Root n
unfolding capture_ok
root_of n e =
    let z = all_six true (is_open n) (eqb n.entry 0) (eqb n.parent 0) (eqb n.index 0) (eqb n.version 0) e in
    record { «open» = z.1; entry = eqb-true n.entry 0 z.2; parent = eqb-true n.parent 0 z.3; index = eqb-true n.index 0 z.4; version = eqb-true n.version 0 z.5 }

root_to : (n : Node) → Root n → capture_ok n ≡ true
unfolding capture_ok
root_to n r = and (and (and (and r.«open» (eq-eqb n.entry 0 r.entry)) (eq-eqb n.parent 0 r.parent)) (eq-eqb n.index 0 r.index)) (eq-eqb n.version 0 r.version)

used_of : (ns : List Node) (k : ℕ) → used_ok ns k (node_at ns k) ≡ true → Placed ns k × (child ns (up ns k) (ix ns k) ≡ k)
unfolding used_ok
used_of ns k e =
    let n = node_at ns k in
    let p = n.parent in
    let z = all_six (ltb 0 n.entry) (is_open (node_at ns p)) (reaches ns longest_chain k) (ltb n.index (direct_of ns p)) (eqb (child ns p n.index) k) (not (is_open n) || ltb 0 n.direct) e in (
      record {
        entry = ltb-true 0 n.entry z.0;
        above = z.1;
        reach = z.2;
        inside = ltb-true n.index (direct_of ns p) z.3;
        filled = λ o. ltb-true 0 n.direct (implied (is_open n) (ltb 0 n.direct) z.5 o);
      },
      eqb-true (child ns p n.index) k z.4,
    )

used_to : (ns : List Node) (k : ℕ) → Placed ns k → child ns (up ns k) (ix ns k) ≡ k → used_ok ns k (node_at ns k) ≡ true
unfolding used_ok
used_to ns k r c =
    let n = node_at ns k in
    and (and (and (and (and (lt-ltb 0 n.entry r.entry) r.above) r.reach) (lt-ltb n.index (direct_of ns n.parent) r.inside)) (eq-eqb (child ns n.parent n.index) k c))
    (imply (is_open n) (ltb 0 n.direct) (λ o. lt-ltb 0 n.direct (r.filled o)))

at_used : (ns : List Node) (k : ℕ) → node_ok ns (suc k) (node_at ns (suc k)) ≡ true → Used ns (suc k) → used_ok ns (suc k) (node_at ns (suc k)) ≡ true
unfolding node_ok
at_used ns k e u = rw u at e

at_unused : (ns : List Node) (k : ℕ) → node_ok ns (suc k) (node_at ns (suc k)) ≡ true → used (node_at ns (suc k)) ≡ false → blank (node_at ns (suc k)) ≡ true
unfolding node_ok
at_unused ns k e u = rw u at e

-- the test gives the statements
pub well_formed : (ns : List Node) → length ns ≡ node_places → nodes_ok ns 0 ns ≡ true → WellFormed ns
unfolding node_ok
well_formed ns s e = record {
  size = s;
  root = root_of (node_at ns 0) (ok 0 (omega arith));
  placed = λ k u. (used_of ns (suc k) (at_used ns k (ok (suc k) (rw s at (used_inside ns (suc k) u))) u)).0;
  twin = λ j k u v d f. sym (mine j u) ∙ rw (d, f) (mine k v);
  empty = λ k u. empty k u (dec_lt (suc k) node_places);
}
  where
    ok : (i : ℕ) → i < node_places → node_ok ns i (node_at ns i) ≡ true
    ok i h = let d : 0 + i ≡ i = omega arith in rw d at (nodes_ok_lem ns 0 ns e i (rw s h))

    mine : (k : ℕ) → Used ns (suc k) → child ns (up ns (suc k)) (ix ns (suc k)) ≡ suc k
    mine k u = (used_of ns (suc k) (at_used ns k (ok (suc k) (rw s at (used_inside ns (suc k) u))) u)).1

    empty : (k : ℕ) → used (node_at ns (suc k)) ≡ false → Dec (suc k < node_places) → node_at ns (suc k) ≡ no_node
    empty k u (yes h) = blank_none (node_at ns (suc k)) u (at_unused ns k (ok (suc k) h) u)
    empty k u (no n) = node_past ns (suc k) (omega arith)

module _ (ns : List Node) (w : WellFormed ns) where
  pub zero_open : Opens ns 0
  zero_open = w.root.«open»

  pub used_small : (k : ℕ) → Used ns k → k < 256
  used_small k u = rw w.size at (used_inside ns k u)

  -- a child that passes a test is what is found
  pub child_by_is : (q : Node → Bool) (k : ℕ) → ((n : Node) → q n ≡ true → used n ≡ true) → q (node_at ns (suc k)) ≡ true → child_by q ns (up ns (suc k)) (ix ns (suc k)) ≡ suc k
  child_by_is q k f t = go (child_by q ns (up ns (suc k)) (ix ns (suc k))) refl
    where
      go : (j : ℕ) → child_by q ns (up ns (suc k)) (ix ns (suc k)) ≡ j → child_by q ns (up ns (suc k)) (ix ns (suc k)) ≡ suc k
      go zero e = absurd (child_none q ns (up ns (suc k)) (ix ns (suc k)) k e (used_inside ns (suc k) (f (node_at ns (suc k)) t)) t refl refl)
      go (suc j) e =
          let r = child_found q ns (up ns (suc k)) (ix ns (suc k)) j e in
          e ∙ w.twin j k (f (node_at ns (suc j)) r.0) (f (node_at ns (suc k)) t) r.1 r.2

  pub child_is : (k : ℕ) → Used ns (suc k) → child ns (up ns (suc k)) (ix ns (suc k)) ≡ suc k
  child_is k u = child_by_is used k (λ n t. t) u

  -- and the statements give the test
  pub tested : nodes_ok ns 0 ns ≡ true
  unfolding node_ok
  tested = ok_nodes ns 0 ns (λ i h. let d : 0 + i ≡ i = omega arith in rw d (ok i))
    where
      ok : (i : ℕ) → node_ok ns i (node_at ns i) ≡ true
      ok zero = root_to (node_at ns 0) w.root
      ok (suc k) = go (bool (used (node_at ns (suc k))))
        where
          go : (used (node_at ns (suc k)) ≡ true) ⊎ (used (node_at ns (suc k)) ≡ false) → cond (used (node_at ns (suc k))) (used_ok ns (suc k) (node_at ns (suc k))) (blank (node_at ns (suc k))) ≡ true
          go (inl u) = rw u (used_to ns (suc k) (w.placed k u) (child_is k u))
          go (inr u) = rw u (ap blank (w.empty k u))
