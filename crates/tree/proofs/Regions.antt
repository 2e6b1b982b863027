-- How many regions there are: at most one more than twice the open nodes besides the capture, so that they have room.
use mathlib.Core.Path.{refl}
use mathlib.Core.List.{List, [], ◌∷◌, ◌++◌, flat_map}
use Prim.Native.Nat.{ℕ, zero, suc, ◌+◌, ◌≤◌}
use native.Mathlib.Omega.{arith}
use lib.ListN.{length, length-append}
use borrow.Author.Tests.{eq-eqb}
use Rattle.lists.specs.Counts.{one}
use Rattle.lists.proofs.Numbers.{sum_first, count_le}
use Rattle.paths.specs.Order.{Under}
use Rattle.model.specs.declared.Node.{Node}
use Rattle.model.specs.Places.{depth}
use Rattle.model.specs.Nodes.{node_at, direct_of, is_open, open_child, children_from, children, keep}
use Rattle.model.specs.Rows.{Row, under, rows_from, rows_of, rows}
use Rattle.model.specs.Regions.{runs}
use Rattle.runs.proofs.Count.{changes, pieces, length_runs, changes_le, pieces_le, changes_append}
use Rattle.tree.specs.WellFormed.{Opens, WellFormed}
use Rattle.tree.specs.Paths.{to, From, open_nodes}
use Rattle.tree.proofs.WellFormed.{zero_open}
use Rattle.tree.proofs.Ascends.{Ascends, ascends_none, ascends_children, ascends_add, ascends_count}

module _ (ns : List Node) where
  -- node k and the open nodes below it
  abbrev opens_below : ℕ → ℕ → List ℕ
  opens_below zero k = k ∷ []
  opens_below (suc f) k = k ∷ flat_map (λ j. opens_below f j) (children is_open ns k)

  -- below p, each open child makes two runs more at most
  few_after :
      (f p : ℕ)
      → ((k : ℕ) → suc (pieces (rows_of ns f k)) ≤ length (opens_below f k) + length (opens_below f k))
      → (n i : ℕ)
      → let l = length (flat_map (λ j. opens_below f j) (children_from is_open ns p i n)) in changes p (rows_from ns (λ k. rows_of ns f k) p i n) ≤ l + l
  unfolding rows_from children_from keep flat_map
  few_after f p h zero i = omega arith
  few_after f p h (suc n) i = rw (eq-eqb p p refl) (go (open_child ns p i) (few_after f p h n (suc i)))
    where
      sub : ℕ → List Row
      sub k = rows_of ns f k

      Rest : List ℕ
      Rest = flat_map (λ j. opens_below f j) (children_from is_open ns p (suc i) n)

      go :
          (j : ℕ)
          → changes p (rows_from ns sub p (suc i) n) ≤ length Rest + length Rest
          → let l = length (flat_map (λ j. opens_below f j) (keep j (children_from is_open ns p (suc i) n))) in changes p (under sub j ++ rows_from ns sub p (suc i) n) ≤ l + l
      go zero ih = ih
      go (suc j) ih =
          omega (arith, ih, changes_append p (sub (suc j)) (rows_from ns sub p (suc i) n), changes_le p (sub (suc j)), pieces_le p (rows_from ns sub p (suc i) n), h (suc j), length-append (opens_below f (suc j)) Rest)

  few_pieces : (f k : ℕ) → suc (pieces (rows_of ns f k)) ≤ length (opens_below f k) + length (opens_below f k)
  unfolding rows_of children
  few_pieces zero k = omega arith
  few_pieces (suc f) k = omega (arith, few_after f k (few_pieces f) (direct_of ns k) 0, pieces_le k (rows_from ns (λ j. rows_of ns f j) k 0 (direct_of ns k)))

module _ (ns : List Node) (w : WellFormed ns) where
  ascends : (f k : ℕ) → Opens ns k → Ascends ns is_open (Under (to ns k)) (opens_below ns f k)
  ascends zero k o = ascends_add ns w is_open (λ n t. rw t) k o [] (ascends_none ns is_open (From ns k 0))
  ascends (suc f) k o =
      ascends_add ns w is_open (λ n t. rw t) k o (flat_map (λ j. opens_below ns f j) (children is_open ns k))
      (ascends_children ns w is_open (λ n t. rw t) is_open (λ n t. t) (λ j. opens_below ns f j) (ascends f) k)

  pub regions_few : length (runs 0 (rows ns)) ≤ open_nodes ns + open_nodes ns + 1
  unfolding rows
  regions_few =
      let a = ascends_count ns w is_open (λ n t. rw t) (Under (to ns 0)) (opens_below ns depth 0) (ascends depth 0 (zero_open ns w)) in
      let b = sum_first (λ k. one (is_open (node_at ns k))) 255 in
      let o = zero_open ns w in
      rw (length_runs 0 (rows_of ns depth 0)) (omega (arith, few_pieces ns depth 0, a, rw o at b))

  pub regions_fit : length (runs 0 (rows ns)) ≤ 511
  regions_fit = omega (arith, regions_few, count_le (λ k. is_open (node_at ns (suc k))) 255)
