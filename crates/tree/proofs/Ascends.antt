-- Nodes whose paths ascend are different nodes, so there are no more of them than pass a test that each passes.
use mathlib.Core.Path.{◌≡◌, refl, ◌∙◌, ap}
use mathlib.Core.Logic.{◌⊎◌, inl, inr, ◌≢◌}
use mathlib.Core.Bool.{Bool, true}
use mathlib.Core.List.Memᴰ.{append_cases as split}
use mathlib.Core.List.Memᴰ.{cases_cons as cases}
use mathlib.Core.List.Memᴰ.{not-nil}
use mathlib.Core.List.Memᴰ.{of_map}
use mathlib.Core.List.{
  List,
  [],
  ◌∷◌,
  map,
  flat_map,
  map-append,
  Memᴰ as In,
}
use Prim.Native.Nat.{ℕ, zero, suc, ◌≤◌, ◌<◌}
use native.Mathlib.Omega.{arith}
use lib.ListN.{length, get_or, length-map}
use Rattle.lists.specs.Counts.{count}
use Rattle.lists.proofs.Numbers.{count_le}
use Rattle.lists.proofs.Edits.{get_d_map, get_or_in}
use Rattle.lists.proofs.Pigeonhole.{pigeonhole_count}
use Rattle.paths.specs.Order.{Path, ◌·◌, Lt, Ext, Under}
use Rattle.paths.specs.Listings.{Sorted, nil, cons, At}
use Rattle.paths.proofs.Order.{child_ext, under_ext, ext_lt, branch_lt}
use Rattle.paths.proofs.Sorted.{sorted_append, at_unique}
use Rattle.model.specs.declared.Node.{Node}
use Rattle.model.specs.Nodes.{node_at, direct_of, used, child_by, children_from, children, keep}
use Rattle.model.proofs.Search.{child_found}
use Rattle.tree.specs.WellFormed.{up, ix, WellFormed}
use Rattle.tree.specs.Paths.{to, From}
use Rattle.tree.proofs.WellFormed.{used_small}
use Rattle.tree.proofs.Find.{to_up}

-- the nodes pass a test, and their paths ascend in a part of the tree
pub record Ascends (ns : List Node) (q : Node → Bool) (R : Path → Type 0) (ks : List ℕ) : Type 0 where
  pub sorted : Sorted (map (to ns) ks)
  pub each : (m : ℕ) → In m ks → (q (node_at ns m) ≡ true) × R (to ns m)

pub ascends_none : (ns : List Node) (q : Node → Bool) (R : Path → Type 0) → Ascends ns q R []
ascends_none ns q R = record { sorted = nil; each = λ m z. absurd (not-nil z) }

module _ (ns : List Node) (w : WellFormed ns) (q : Node → Bool) (live : (n : Node) → q n ≡ true → used n ≡ true) where
  -- the nodes below the children of p that pass a test, from the i-th on
  module _ (c : Node → Bool) (pass : (n : Node) → c n ≡ true → q n ≡ true) (g : ℕ → List ℕ) (h : (k : ℕ) → q (node_at ns k) ≡ true → Ascends ns q (Under (to ns k)) (g k)) (p : ℕ) where
    ascends_from : (n i : ℕ) → Ascends ns q (From ns p i) (flat_map g (children_from c ns p i n))
    unfolding children_from keep flat_map
    ascends_from zero i = ascends_none ns q (From ns p i)
    ascends_from (suc n) i = go (child_by c ns p i) refl (ascends_from n (suc i))
      where
        later : (x : Path) → From ns p (suc i) x → From ns p i x
        later x r = (r.0, (omega arith), r.2)

        Rest : List ℕ
        Rest = flat_map g (children_from c ns p (suc i) n)

        go : (j : ℕ) → child_by c ns p i ≡ j → Ascends ns q (From ns p (suc i)) Rest → Ascends ns q (From ns p i) (flat_map g (keep j (children_from c ns p (suc i) n)))
        go zero e B = record { sorted = B.sorted; each = λ m k. let r = B.each m k in (r.0, later (to ns m) r.1) }
        go (suc j) e B = record {
          sorted = rw (map-append (to ns) (g (suc j)) Rest) (sorted_append (map (to ns) (g (suc j))) A.sorted B.sorted (λ x y a b. low x y (of_map (to ns) (g (suc j)) a) (of_map (to ns) Rest b)));
          each = λ m k. side m (split (g (suc j)) k);
        }
          where
            r : (c (node_at ns (suc j)) ≡ true) × (up ns (suc j) ≡ p) × (ix ns (suc j) ≡ i)
            r = child_found c ns p i j e

            v : q (node_at ns (suc j)) ≡ true
            v = pass (node_at ns (suc j)) r.0

            a : to ns (suc j) ≡ to ns p · i
            a = let e₁ = r.1 in let e₂ = r.2 in to_up ns w j (live (node_at ns (suc j)) v) ∙ rw (e₁, e₂)

            A : Ascends ns q (Under (to ns (suc j))) (g (suc j))
            A = h (suc j) v

            low : (x y : Path) → (m : ℕ) × In m (g (suc j)) × (to ns m ≡ x) → (m : ℕ) × In m Rest × (to ns m ≡ y) → Lt x y
            low x y s t =
                let b = (B.each t.0 t.1).1 in
                rw (← s.2, ← t.2) (branch_lt (to ns p) b.1 (rw a at (A.each s.0 s.1).1) b.2)

            side : (m : ℕ) → In m (g (suc j)) ⊎ In m Rest → (q (node_at ns m) ≡ true) × From ns p i (to ns m)
            side m (inl k) = let s = A.each m k in (s.0, (i, (omega arith), rw a at s.1))
            side m (inr k) = let s = B.each m k in (s.0, later (to ns m) s.1)

    pub ascends_children : Ascends ns q (From ns p 0) (flat_map g (children c ns p))
    unfolding children
    ascends_children = ascends_from (direct_of ns p) 0

  -- and the node above them
  pub ascends_add : (k : ℕ) → q (node_at ns k) ≡ true → (ks : List ℕ) → Ascends ns q (From ns k 0) ks → Ascends ns q (Under (to ns k)) (k ∷ ks)
  ascends_add k u ks B = record {
    sorted = cons (λ y m. low y (of_map (to ns) ks m)) B.sorted;
    each = λ m z. side m (cases z);
  }
    where
      below : (m : ℕ) → In m ks → Ext (to ns k) (to ns m)
      below m z = let b = (B.each m z).1 in under_ext (to ns k · b.0) (child_ext (to ns k) b.0) b.2

      low : (y : Path) → (m : ℕ) × In m ks × (to ns m ≡ y) → Lt (to ns k) y
      low y s = rw (← s.2) (ext_lt (below s.0 s.1))

      side : (m : ℕ) → (m ≡ k) ⊎ In m ks → (q (node_at ns m) ≡ true) × Under (to ns k) (to ns m)
      side m (inl e) = (rw e u, inl (ap (to ns) e))
      side m (inr z) = ((B.each m z).0, inr (below m z))

  pub ascends_count : (R : Path → Type 0) (l : List ℕ) → Ascends ns q R l → length l ≤ count (λ k. q (node_at ns k)) 256
  ascends_count R l A =
      pigeonhole_count (λ k. q (node_at ns k)) 256 (length l) (λ i. get_or l i 0)
      (λ i h. used_small ns w (get_or l i 0) (live (node_at ns (get_or l i 0)) (A.each (get_or l i 0) (get_or_in l i 0 h)).0))
      (λ i h. (A.each (get_or l i 0) (get_or_in l i 0 h)).0)
      distinct
    where
      at : (i : ℕ) → i < length l → At (map (to ns) l) i (to ns (get_or l i 0))
      at i h = (rw (length-map l (to ns)) h, get_d_map (to ns) l i 0 [] h)

      distinct : (i j : ℕ) → i < j → j < length l → get_or l i 0 ≢ get_or l j 0
      distinct i j h g e =
          let d : i ≡ j = at_unique A.sorted i j (to ns (get_or l j 0)) (rw e at (at i (omega arith))) (at j g) in
          omega arith

  pub ascends_few : (R : Path → Type 0) (l : List ℕ) → Ascends ns q R l → length l ≤ 256
  ascends_few R l A = omega (arith, ascends_count R l A, count_le (λ k. q (node_at ns k)) 256)
