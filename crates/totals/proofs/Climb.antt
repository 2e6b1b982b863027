-- The row of a node from the totals that the nodes keep: the sum over the nodes is the sum over the children.
use Prim.Native.Nat.{ℕ, zero, suc, ◌+◌, ◌≤◌, ◌<◌}
use native.Mathlib.Omega.{arith}
use mathlib.Core.Path.{◌≡◌, refl, sym, ap, ◌∙◌}
use mathlib.Core.Logic.{◌⊎◌, inl, inr}
use mathlib.Core.Bool.{Bool, true, false, cond, ◌&&◌}
use mathlib.Core.List.{List}
use lib.Dec.{eqb, ltb, leb, leb-zero}
use lib.ListN.{length, drop, length-drop}
use lib.Seq.{get_or-drop}
use borrow.Author.Tests.{eqb-true, eq-eqb, ne_eqb, lt-ltb, le-ltb}
use Rattle.lists.specs.Counts.{sum}
use Rattle.lists.proofs.Bools.{both, and, refuted}
use Rattle.lists.proofs.Numbers.{three, sum_zero, sum_suc}
use Rattle.paths.proofs.Order.{length_child}
use Rattle.model.specs.declared.Node.{Node}
use Rattle.model.specs.declared.Model.{Model}
use Rattle.model.specs.Places.{row_limit}
use Rattle.model.specs.Nodes.{no_node, node_at, is_open, stands_at, open_child}
use Rattle.model.specs.Rows.{row_of, total_of}
use Rattle.model.proofs.Search.{child_found, child_none, used_inside}
use Rattle.tree.specs.WellFormed.{Used, Opens, up, ix}
use Rattle.tree.specs.Paths.{to, first_row, child_total, total_if}
use Rattle.tree.proofs.WellFormed.{open_used, used_small}
use Rattle.tree.proofs.Find.{to_up, above_used}
use Rattle.tree.proofs.Rows.{row_of_lem, row_of_climb}
use Rattle.steps.specs.Settled.{Sound}
use Rattle.steps.proofs.Settling.{sound_given}
use Rattle.totals.specs.Totals.{sum_if, opens_between, rows_between}
use Rattle.totals.proofs.Sums.{sum_none, sum_one, sum_split}

abbrev open_at : ℕ → ℕ → Node → Bool
open_at p i n = is_open n && stands_at p i n

open_at_lem : (p i : ℕ) (n : Node) → open_at p i n ≡ true → (is_open n ≡ true) × (n.parent ≡ p) × (n.index ≡ i)
open_at_lem p i n t =
    let b = both (is_open n) (stands_at p i n) t in
    let s = both (eqb n.parent p) (eqb n.index i) b.1 in
    (b.0, eqb-true n.parent p s.0, eqb-true n.index i s.1)

nth : (ns : List Node) (i : ℕ) → node_at (drop 1 ns) i ≡ node_at ns (suc i)
nth ns i = let e : 1 + i ≡ suc i = omega arith in get_or-drop 1 ns i no_node ∙ ap (node_at ns) e

-- one index more
between_more : (p b : ℕ) (n : Node) → cond (opens_between p 0 (suc b) n) n.total 0 ≡ cond (opens_between p 0 b n) n.total 0 + cond (open_at p b n) n.total 0
between_more p b n = go (is_open n) (eqb n.parent p)
  where
    index : (n.index < b) ⊎ ((n.index ≡ b) ⊎ (b < n.index)) → cond (leb 0 n.index && ltb n.index (suc b)) n.total 0 ≡ cond (leb 0 n.index && ltb n.index b) n.total 0 + cond (eqb n.index b) n.total 0
    index (inl h) = rw (leb-zero n.index, lt-ltb n.index (suc b) (omega arith), lt-ltb n.index b h, ne_eqb n.index b (omega arith)) (omega arith)
    index (inr (inl e)) = rw (leb-zero n.index, lt-ltb n.index (suc b) (omega arith), le-ltb n.index b (omega arith), eq-eqb n.index b e) (omega arith)
    index (inr (inr h)) = rw (leb-zero n.index, le-ltb n.index (suc b) (omega arith), le-ltb n.index b (omega arith), ne_eqb n.index b (omega arith))

    go : (o e : Bool) → cond (o && (e && (leb 0 n.index && ltb n.index (suc b)))) n.total 0 ≡ cond (o && (e && (leb 0 n.index && ltb n.index b))) n.total 0 + cond (o && (e && eqb n.index b)) n.total 0
    go true true = index (three n.index b)
    go true false = refl
    go false e = refl

between_none : (p : ℕ) (n : Node) → opens_between p 0 0 n ≡ false
between_none p n = go (is_open n) (eqb n.parent p)
  where
    go : (o e : Bool) → o && (e && (leb 0 n.index && ltb n.index 0)) ≡ false
    go true true = rw (leb-zero n.index, le-ltb n.index 0 (omega arith))
    go true false = refl
    go false e = refl

module _ (m : Model) (S : Sound m) where
  abbrev ns : List Node
  ns = m.nodes

  total_kept : (k : ℕ) → Opens ns k → (node_at ns k).total ≡ total_of ns k
  total_kept k o = (sound_given m S).totals.total k (open_used ns k o)

  -- at most one open child stands at an index
  sum_at : (p i : ℕ) → sum_if (open_at p i) (λ n. n.total) (drop 1 ns) ≡ child_total ns p i
  sum_at p i = go (open_child ns p i) refl
    where
      go : (k : ℕ) → open_child ns p i ≡ k → sum_if (open_at p i) (λ n. n.total) (drop 1 ns) ≡ total_if ns k
      go zero e =
          sum_none (open_at p i) (λ n. n.total) (drop 1 ns) no_node
          (λ j h. rw (nth ns j) (refuted (λ t. let s = open_at_lem p i (node_at ns (suc j)) t in child_none is_open ns p i j e (omega (arith, length-drop 1 ns)) s.0 s.1 s.2)))
      go (suc k) e =
          let r = child_found is_open ns p i k e in
          let u = open_used ns (suc k) r.0 in
          sum_one (open_at p i) (λ n. n.total) (drop 1 ns) no_node k
          (omega (arith, length-drop 1 ns, used_inside ns (suc k) u))
          (rw (nth ns k) (and r.0 (and (eq-eqb (up ns (suc k)) p r.1) (eq-eqb (ix ns (suc k)) i r.2))))
          (λ j h t.
          let s = open_at_lem p i (node_at ns (suc j)) (rw (nth ns j) at t) in
          omega (arith, S.well.twin j k (open_used ns (suc j) s.0) u (s.1 ∙ sym r.1) (s.2 ∙ sym r.2)))
          ∙ ap (λ (n : Node). n.total) (nth ns k)
          ∙ total_kept (suc k) r.0

  sum_below : (p b : ℕ) → sum_if (opens_between p 0 b) (λ n. n.total) (drop 1 ns) ≡ sum (child_total ns p) b
  sum_below p zero = sum_none (opens_between p 0 0) (λ n. n.total) (drop 1 ns) no_node (λ j h. between_none p (node_at (drop 1 ns) j)) ∙ sym (sum_zero (child_total ns p))
  sum_below p (suc b) =
      sum_split (opens_between p 0 (suc b)) (opens_between p 0 b) (open_at p b) (λ n. n.total) (between_more p b) (drop 1 ns)
      ∙ rw (sum_below p b, sum_at p b) (sym (sum_suc (child_total ns p) b))

  -- the rows before a node's children, where node k is above 0: one step up the chain
  pub first_row_climb :
      (k : ℕ)
      → 0 < k
      → Used ns k
      → let p = up ns k in Used ns p × (p < 256) × (first_row ns k ≡ suc (first_row ns p + rows_between ns p 0 (ix ns k))) × (length (to ns p) < length (to ns k))
  unfolding rows_between
  first_row_climb zero h u = absurd (omega arith)
  first_row_climb (suc k) h u =
      let p = up ns (suc k) in
      let v = above_used ns S.well k u in (
        v,
        used_small ns S.well p v,
        omega (arith, row_of_climb ns S.well k u, sum_below p (ix ns (suc k))),
        omega (arith, ap length (to_up ns S.well k u), length_child (to ns p) (ix ns (suc k))),
      )

  pub first_row_limit : (k : ℕ) → 0 < k → Used ns k → (first_row ns k ≡ suc (row_of ns k)) × (first_row ns k ≤ row_limit)
  first_row_limit zero h u = absurd (omega arith)
  first_row_limit (suc k) h u = (refl, omega (arith, (row_of_lem ns S.well k u).0, S.limit))

pub first_row_root : (ns : List Node) (k : ℕ) → k ≤ 0 → first_row ns k ≡ 0
first_row_root ns zero h = refl
first_row_root ns (suc k) h = absurd (omega arith)
