-- The search for the next child: what it knows after the numbers below k, and what it answers.
use Prim.Native.Nat.{ℕ, zero, suc, ◌+◌, ◌-◌, ◌<◌, ◌≤◌}
use native.Mathlib.Omega.{arith}
use native.Mathlib.Decide.{ℕ_discrete}
use mathlib.Core.Logic.{◌≢◌}
use mathlib.Core.Path.{◌≡◌, refl, sym, ap}
use mathlib.Core.Bool.{Bool, true, false, ◌&&◌}
use mathlib.Core.List.{List}
use Rattle.std.specs.Prelude.{Option, Some, None}
use lib.ListN.{length}
use borrow.Author.Tests.{eq-eqb, ne_eqb}
use Rattle.model.specs.declared.Node.{Node}
use Rattle.model.specs.Nodes.{node_at, stands_at, child_by}
use Rattle.orders.specs.Orders.{FirstIs}
use Rattle.orders.proofs.Children.{children_none, children_some}
use Rattle.lists.proofs.Bools.{and}
use Rattle.model.proofs.Search.{seek_is, seek_ends}

-- node j is a child of p that passes q
abbrev pub IsChild : (Node → Bool) → List Node → ℕ → ℕ → Type 0
IsChild q ns p j = (q (node_at ns j) ≡ true) × ((node_at ns j).parent ≡ p)

-- b is the best of the numbers below k: its index is the bound, and no number before it has that index
pub record Best (q : Node → Bool) (ns : List Node) (p low limit bound k b : ℕ) : Type 0 where
  pub above : 1 ≤ b
  pub before : b < k
  pub child : IsChild q ns p b
  pub index : (node_at ns b).index ≡ bound
  pub from : low ≤ bound
  pub under : bound < limit
  pub first : (j : ℕ) → 1 ≤ j → j < b → IsChild q ns p j → (node_at ns j).index ≢ bound

abbrev pub BestIs : (Node → Bool) → List Node → ℕ → ℕ → ℕ → ℕ → ℕ → Option ℕ → Type 0
BestIs q ns p low limit bound k None = bound ≡ limit
BestIs q ns p low limit bound k (Some b) = Best q ns p low limit bound k b

pub record Search (q : Node → Bool) (ns : List Node) (p low limit : ℕ) (best : Option ℕ) (bound k : ℕ) : Type 0 where
  pub best_is : BestIs q ns p low limit bound k best
  pub bounded : (j : ℕ) → 1 ≤ j → j < k → IsChild q ns p j → low ≤ (node_at ns j).index → bound ≤ (node_at ns j).index
  pub within : bound ≤ limit

module _ (q : Node → Bool) (ns : List Node) (p low limit : ℕ) where
  pub search_begins : Search q ns p low limit None limit 1
  search_begins = record { best_is = refl; bounded = λ j a b. absurd (omega arith); within = omega arith }

  module _ (best : Option ℕ) (bound k : ℕ) (g : Search q ns p low limit best bound k) where
    -- node k is a better one, or not
    pub search_better : 1 ≤ k → IsChild q ns p k → low ≤ (node_at ns k).index → (node_at ns k).index < bound → Search q ns p low limit (Some k) (node_at ns k).index (k + 1)
    search_better a c l u = record {
      best_is = record { above = a; before = omega arith; child = c; index = refl; from = l; under = omega (arith, g.within); first = λ j b d e f. omega (arith, g.bounded j b d e (omega arith)) };
      bounded = still;
      within = omega (arith, g.within);
    }
      where
        still : (j : ℕ) → 1 ≤ j → j < k + 1 → IsChild q ns p j → low ≤ (node_at ns j).index → (node_at ns k).index ≤ (node_at ns j).index
        still j b d e f = go (ℕ_discrete j k)
          where
            go : Dec (j ≡ k) → (node_at ns k).index ≤ (node_at ns j).index
            go (yes z) = omega (arith, ap (λ (x : ℕ). (node_at ns x).index) z)
            go (no n) = omega (arith, g.bounded j b (omega arith) e f)

    pub search_passes : (IsChild q ns p k → low ≤ (node_at ns k).index → bound ≤ (node_at ns k).index) → Search q ns p low limit best bound (k + 1)
    search_passes w = record { best_is = later best g.best_is; bounded = still; within = g.within }
      where
        later : (o : Option ℕ) → BestIs q ns p low limit bound k o → BestIs q ns p low limit bound (k + 1) o
        later None e = e
        later (Some b) h = record { above = h.above; before = omega (arith, h.before); child = h.child; index = h.index; from = h.from; under = h.under; first = h.first }

        still : (j : ℕ) → 1 ≤ j → j < k + 1 → IsChild q ns p j → low ≤ (node_at ns j).index → bound ≤ (node_at ns j).index
        still j b d e f = go (ℕ_discrete j k)
          where
            go : Dec (j ≡ k) → bound ≤ (node_at ns j).index
            go (yes z) = rw z (w (rw z at e) (rw z at f))
            go (no n) = g.bounded j b (omega arith) e f

  fails : (x j : ℕ) → (IsChild q ns p j → (node_at ns j).index ≢ x) → (q (node_at ns j) && stands_at p x (node_at ns j)) ≡ false
  fails x j h = go (q (node_at ns j)) refl (ℕ_discrete (node_at ns j).parent p)
    where
      go : (b : Bool) → q (node_at ns j) ≡ b → Dec ((node_at ns j).parent ≡ p) → (b && stands_at p x (node_at ns j)) ≡ false
      go false e d = refl
      go true e (yes d) = rw (eq-eqb _ _ d, ne_eqb _ _ (h (e, d)))
      go true e (no d) = rw (ne_eqb _ _ d)

  child_hit : (x j : ℕ) → 1 ≤ j → j < length ns → IsChild q ns p j → (node_at ns j).index ≡ x → ((i : ℕ) → 1 ≤ i → i < j → IsChild q ns p i → (node_at ns i).index ≢ x) → child_by q ns p x ≡ j
  unfolding child_by
  child_hit x zero a h c e f = absurd (omega arith)
  child_hit x (suc j) a h c e f =
      seek_is (λ n. q n && stands_at p x n) ns j h (and c.0 (and (eq-eqb _ _ c.1) (eq-eqb _ _ e))) (λ i l. fails x (suc i) (f (suc i) (omega arith) (omega arith)))

  child_miss : (x : ℕ) → ((j : ℕ) → 1 ≤ j → j < length ns → IsChild q ns p j → (node_at ns j).index ≢ x) → child_by q ns p x ≡ 0
  unfolding child_by
  child_miss x f = seek_ends (λ n. q n && stands_at p x n) ns (length ns) (omega arith) (λ j l. fails x (suc j) (f (suc j) (omega arith) l))

  pub search_ends : (best : Option ℕ) (bound k : ℕ) → length ns ≡ 256 → k ≡ 256 → Search q ns p low limit best bound k → FirstIs q ns p low limit best
  search_ends None bound k s h g =
      children_none q ns p low (limit - low) (λ x a b. child_miss x (λ j c d e f. absurd (omega (arith, g.best_is, g.bounded j c (omega arith) e (omega arith)))))
  search_ends (Some b) bound k s h g =
      let t = g.best_is in
      let x : ℕ = (node_at ns b).index in
      let e : suc x ≡ x + 1 = omega arith in
      let m : low + (limit - low) - suc x ≡ limit - (x + 1) = omega (arith, t.index, t.from, t.under) in
      record {
        small = omega (arith, t.before);
        from = omega (arith, t.index, t.from);
        under = omega (arith, t.index, t.under);
        rest =
            rw (m, e) at
            (children_some q ns p (limit - low) low x b (omega (arith, t.index, t.from)) (omega (arith, t.index, t.from, t.under))
            (child_hit x b t.above (omega arith) t.child refl (λ i c d v. rw (sym t.index) at (t.first i c d v))) (omega (arith, t.above))
            (λ y c d. child_miss y (λ j i l v z. absurd (omega (arith, t.index, g.bounded j i (omega arith) v (omega arith))))));
      }

  -- no index is from low on and below limit
  pub search_empty : limit ≤ low → FirstIs q ns p low limit None
  search_empty h = children_none q ns p low (limit - low) (λ x a b. absurd (omega arith))
