-- Row numbers, ends and totals of nodes: as the tree has them, by climbing, and summed up.
use mathlib.Core.Path.{◌≡◌, refl, sym, ◌∙◌, ap}
use mathlib.Core.Logic.{◌⊎◌, inl, inr}
use mathlib.Core.Bool.{Bool, true, false, cond, ◌&&◌}
use mathlib.Core.List.Memᴰ.{head as here}
use mathlib.Core.List.Memᴰ.{tail as there}
use mathlib.Core.List.{List, [], ◌∷◌, map, filter, Memᴰ as In}
use Prim.Native.Nat.{ℕ, zero, suc, ◌+◌, ◌≤◌, ◌<◌}
use native.Mathlib.Omega.{arith}
use native.Mathlib.Nat.{zero-add, le_of_lt}
use native.Mathlib.Decide.{ℕ_discrete, dec_lt}
use lib.ListN.{length, get_or, length-map}
use lib.Dec.{eqb}
use borrow.Author.Tests.{eqb-true, eq-eqb}
use Rattle.lists.specs.Counts.{sum, number}
use Rattle.lists.proofs.Bools.{bool, both, and, differ}
use Rattle.lists.proofs.Numbers.{sum_first, sum_same, sum_up_lem}
use Rattle.lists.proofs.Edits.{get_or_in}
use Rattle.lists.proofs.Filters.{filter_in, filter_has, number_le, number_none, number_map, number_agree, length_by}
use Rattle.paths.specs.Order.{Path, ◌·◌, dec_eq}
use Rattle.paths.specs.Shapes.{Showing}
use Rattle.paths.specs.Listings.{At, lower, total, row, child_paths}
use Rattle.paths.proofs.Sorted.{sorted_unique, sorted_filter, child_paths_in, child_paths_has, child_paths_sorted, child_paths_length, row_at}
use Rattle.paths.proofs.Totals.{row_first, row_root, row_child, row_end}
use Rattle.paths.proofs.Totals.{total_shut as path-total-shut, total_children as path-total-children}
use Rattle.model.specs.declared.Node.{Node}
use Rattle.model.specs.Places.{depth}
use Rattle.model.specs.Nodes.{node_at, direct_of, is_open, open_child}
use Rattle.model.specs.Rows.{Row, rows_from, rows_of, rows, row_total, total_of, place, row_of, path, paths}
use Rattle.model.specs.Update.{end_of}
use Rattle.tree.specs.WellFormed.{Used, Opens, up, ix, WellFormed}
use Rattle.tree.specs.Paths.{shape, to, Shows, front, first_row, total_if, child_total, open_direct}
use Rattle.runs.specs.Regions.{Tidy}
use Rattle.tree.proofs.WellFormed.{open_used, zero_open, used_small}
use Rattle.tree.proofs.Find.{to_up, to_zero, to_inj, rooted}
use Rattle.tree.proofs.Listing.{path_is, front_child, open_child_lem, shut_child, open_at_lem, count_at, showing_row, shows_row, lists, rows_below_lem, length_paths, at_row, row_once, row_there}

-- the place of a row that is there
place_in : (p i : ℕ) (rs : List Row) → In (p, i) rs → (place p i rs < length rs) × (get_or rs (place p i rs) (0, 0) ≡ (p, i))
unfolding place
place_in p i [] m = elim m [ ]
place_in p i (r ∷ rs) m = go (eqb r.0 p && eqb r.1 i) refl m (place_in p i rs)
  where
    pair : (eqb r.0 p && eqb r.1 i) ≡ true → r ≡ (p, i)
    pair e = let d = both (eqb r.0 p) (eqb r.1 i) e in λ t. (eqb-true r.0 p d.0 t, eqb-true r.1 i d.1 t)

    go :
        (b : Bool)
        → (eqb r.0 p && eqb r.1 i) ≡ b
        → In (p, i) (r ∷ rs)
        → (In (p, i) rs → (place p i rs < length rs) × (get_or rs (place p i rs) (0, 0) ≡ (p, i)))
        → (cond b 0 (suc (place p i rs)) < suc (length rs)) × (get_or (r ∷ rs) (cond b 0 (suc (place p i rs))) (0, 0) ≡ (p, i))
    go true e m ih = ((omega arith), pair e)
    go false e (here d) ih =
        let a : r.0 ≡ p = ap (λ (z : Row). z.0) (sym d) in
        let b : r.1 ≡ i = ap (λ (z : Row). z.1) (sym d) in
        absurd (differ (and (eq-eqb r.0 p a) (eq-eqb r.1 i b)) e)
    go false e (there m) ih = let h = ih m in ((omega arith), h.1)

module _ (ns : List Node) (w : WellFormed ns) where
  -- the row of a node
  pub row_of_lem : (k : ℕ) → Used ns (suc k) → (row_of ns (suc k) < length (rows ns)) × (get_or (rows ns) (row_of ns (suc k)) (0, 0) ≡ (up ns (suc k), ix ns (suc k)))
  unfolding row_of
  row_of_lem k u = let s = w.placed k u in place_in (up ns (suc k)) (ix ns (suc k)) (rows ns) (row_there ns w (up ns (suc k)) (ix ns (suc k)) s.above s.inside)

  pub row_of_is : (k r : ℕ) → Used ns (suc k) → r < length (rows ns) → get_or (rows ns) r (0, 0) ≡ (up ns (suc k), ix ns (suc k)) → row_of ns (suc k) ≡ r
  row_of_is k r u h e = let s = row_of_lem k u in row_once ns w (row_of ns (suc k)) r s.0 h (s.1 ∙ sym e)

  pub at_node : (k : ℕ) → Used ns (suc k) → At (paths ns) (row_of ns (suc k)) (to ns (suc k))
  at_node k u = let r = row_of_lem k u in rw (to_up ns w k u) (at_row ns w (row_of ns (suc k)) (up ns (suc k)) (ix ns (suc k)) r.0 r.1)

  pub showing_node : (k : ℕ) → Used ns (suc k) → Showing (shape ns) (to ns (suc k))
  showing_node k u = let s = w.placed k u in rw (to_up ns w k u) (showing_row ns w (up ns (suc k)) (ix ns (suc k)) s.above s.inside)

  pub row_node : (k : ℕ) → Used ns (suc k) → row (paths ns) (to ns (suc k)) ≡ row_of ns (suc k)
  row_node k u = row_at (lists ns w).sorted (row_of ns (suc k)) (to ns (suc k)) (at_node k u)

  -- totals

  pub total_open : (k : ℕ) → Opens ns k → total_of ns k ≡ total (paths ns) (to ns k)
  unfolding total_of
  total_open k o = sym (length-map (rows_of ns depth k) (path ns)) ∙ ap length (rows_below_lem ns w k o)

  -- a node that is not open has no open child, and its total is its count
  pub shut_children : (k i : ℕ) → is_open (node_at ns k) ≡ false → open_child ns k i ≡ 0
  shut_children k i c = go (open_child ns k i) refl
    where
      go : (j : ℕ) → open_child ns k i ≡ j → open_child ns k i ≡ 0
      go zero e = e
      go (suc j) e =
          let r = open_child_lem ns w k i j e in
          let d = r.1 in
          absurd (differ (rw d at (w.placed j (open_used ns (suc j) r.0)).above) c)

  flat_length : (sub : ℕ → List Row) (k : ℕ) → ((i : ℕ) → open_child ns k i ≡ 0) → (n i : ℕ) → length (rows_from ns sub k i n) ≡ n
  unfolding rows_from
  flat_length sub k h zero i = refl
  flat_length sub k h (suc n) i = rw (h i) (ap suc (flat_length sub k h n (suc i)))

  pub total_flat : (k : ℕ) → ((i : ℕ) → open_child ns k i ≡ 0) → total_of ns k ≡ direct_of ns k
  unfolding total_of rows_of
  total_flat k h = flat_length (λ j. rows_of ns 255 j) k h (direct_of ns k) 0

  pub total_shut : (k : ℕ) → is_open (node_at ns k) ≡ false → total_of ns k ≡ direct_of ns k
  total_shut k c = total_flat k (λ i. shut_children k i c)

  -- the total of an open node: its count, and the totals of its open children
  child_total_lem : (p i : ℕ) → Opens ns p → total (paths ns) (to ns p · i) ≡ child_total ns p i
  child_total_lem p i o = go (open_child ns p i) refl
    where
      go : (j : ℕ) → open_child ns p i ≡ j → total (paths ns) (to ns p · i) ≡ total_if ns j
      go zero e = path-total-shut (shape ns) (rooted ns w) (lists ns w) (to ns p · i) (shut_child ns w p i (open_used ns p o) e)
      go (suc j) e = let r = open_child_lem ns w p i j e in let d = r.3 in rw (← d) (sym (total_open (suc j) r.0))

  child_totals : (p n : ℕ) → Opens ns p → sum (λ j. total (paths ns) (to ns p · j)) n ≡ sum (child_total ns p) n
  child_totals p n o = sum_same (λ j. total (paths ns) (to ns p · j)) (child_total ns p) n (λ i h. child_total_lem p i o)

  pub total_children : (k : ℕ) → Opens ns k → total_of ns k ≡ direct_of ns k + sum (child_total ns k) (direct_of ns k)
  total_children k o =
      total_open k o
      ∙ path-total-children (shape ns) (rooted ns w) (lists ns w) (to ns k) (open_at_lem ns w k o)
      ∙ rw (count_at ns w k o, child_totals k (direct_of ns k) o)

  -- climbing: a row's own index, the totals of the open siblings before it, and the same for its parent

  first_row_lem : (p : ℕ) → Opens ns p → row (paths ns) (to ns p · 0) ≡ first_row ns p
  first_row_lem zero o = rw (to_zero ns w) (row_root (shape ns) (rooted ns w) (lists ns w))
  first_row_lem (suc k) o =
      let u = open_used ns (suc k) o in
      row_first (shape ns) (rooted ns w) (lists ns w) (to ns (suc k)) (showing_node k u) ∙ ap suc (row_node k u)

  pub row_climb : (p i : ℕ) → Opens ns p → i ≤ direct_of ns p → row (paths ns) (to ns p · i) ≡ first_row ns p + i + sum (child_total ns p) i
  row_climb p i o h =
      row_child (shape ns) (rooted ns w) (lists ns w) (to ns p) (open_at_lem ns w p o) i (rw (count_at ns w p o) h)
      ∙ rw (first_row_lem p o, child_totals p i o)

  pub row_of_climb : (k : ℕ) → Used ns (suc k) → let p = up ns (suc k) in row_of ns (suc k) ≡ first_row ns p + ix ns (suc k) + sum (child_total ns p) (ix ns (suc k))
  row_of_climb k u =
      let s = w.placed k u in
      sym (row_node k u) ∙ ap (row (paths ns)) (to_up ns w k u) ∙ row_climb (up ns (suc k)) (ix ns (suc k)) s.above (le_of_lt s.inside)

  end_parts : (k : ℕ) → end_of ns k ≡ first_row ns k + total_of ns k
  unfolding end_of rows total_of
  end_parts zero = sym (zero-add (length (rows_of ns depth 0)))
  end_parts (suc k) = refl

  -- the row after the last one below an open node is where its next child would stand
  pub end_of_lem : (k : ℕ) → Opens ns k → end_of ns k ≡ row (paths ns) (to ns k · direct_of ns k)
  end_of_lem k o =
      end_parts k
      ∙ sym ((rw (count_at ns w k o) at (row_end (shape ns) (rooted ns w) (lists ns w) (to ns k))) ∙ rw (first_row_lem k o, ← total_open k o))

  pub end_fits : (k : ℕ) → Opens ns k → end_of ns k ≤ length (rows ns)
  end_fits k o = rw (end_of_lem k o, ← length_paths ns w) (number_le (lower (to ns k · direct_of ns k)) (paths ns))

  -- neighbours with one parent have indices that follow each other

  pub row_follows : (r p i j : ℕ) → suc r < length (rows ns) → get_or (rows ns) r (0, 0) ≡ (p, i) → get_or (rows ns) (suc r) (0, 0) ≡ (p, j) → j ≡ suc i
  row_follows r p i j h d e = go (dec_lt i j)
    where
      s : (x : ℕ) → x < length (rows ns) → (y : ℕ) → get_or (rows ns) x (0, 0) ≡ (p, y) → Shows ns (p, y)
      s x l y f = shows_row ns w (p, y) (rw f at (get_or_in (rows ns) x (0, 0) l))

      a : r ≡ first_row ns p + i + sum (child_total ns p) i
      a =
          let t = s r (omega arith) i d in
          sym (row_at (lists ns w).sorted r (to ns p · i) (at_row ns w r p i (omega arith) d)) ∙ row_climb p i t.0 (le_of_lt t.1)

      b : suc r ≡ first_row ns p + j + sum (child_total ns p) j
      b =
          let t = s (suc r) h j e in
          sym (row_at (lists ns w).sorted (suc r) (to ns p · j) (at_row ns w (suc r) p j h e)) ∙ row_climb p j t.0 (le_of_lt t.1)

      go : Dec (i < j) → j ≡ suc i
      go (yes l) = omega (arith, a, b, sum_up_lem (child_total ns p) i j (le_of_lt l))
      go (no n) = absurd (omega (arith, a, b, sum_up_lem (child_total ns p) j i (omega arith)))

  pub rows_tidy : Tidy (rows ns)
  rows_tidy = go (rows ns) (λ r p i j h d e. row_follows r p i j h d e)
    where
      go : (xs : List Row) → ((r p i j : ℕ) → suc r < length xs → get_or xs r (0, 0) ≡ (p, i) → get_or xs (suc r) (0, 0) ≡ (p, j) → j ≡ suc i) → Tidy xs
      go [] f = tt
      go (x ∷ []) f = (tt, tt)
      go (x ∷ y ∷ xs) f = ((λ e. f 0 x.0 x.1 y.1 (omega arith) refl (λ i. (sym e i, y.1))), go (y ∷ xs) (λ r p i j h d e. f (suc r) p i j (omega arith) d e))

  -- the row total: the capture's count and those of the other open nodes

  children_rows : (k : ℕ) → Opens ns k → filter (λ x. dec_eq (front x) (to ns k)) (map (path ns) (rows ns)) ≡ child_paths (to ns k) 0 (direct_of ns k)
  unfolding paths
  children_rows k o =
      sorted_unique (sorted_filter (λ x. dec_eq (front x) (to ns k)) (lists ns w).sorted) (child_paths_sorted (to ns k) 0 (direct_of ns k))
      (λ x m. let r = filter_in (λ x. dec_eq (front x) (to ns k)) (paths ns) m in of x ((lists ns w).of x r.0) r.1)
      (λ x m. let r = child_paths_in (to ns k) 0 (direct_of ns k) m in back x r.0 r.1 (rw zero-add at r.2))
    where
      of : (x : Path) → Showing (shape ns) x → front x ≡ to ns k → In x (child_paths (to ns k) 0 (direct_of ns k))
      of x s e =
          let d : s.up ≡ to ns k = sym (front_child s.up s.ix) ∙ ap front (sym s.is) ∙ e in
          child_paths_has (to ns k) 0 (direct_of ns k) s.ix (rw (d, count_at ns w k o) at s.inside) (rw (zero-add, ← d) s.is)

      back : (x : Path) (i : ℕ) → i < direct_of ns k → x ≡ to ns k · i → In x (filter (λ x. dec_eq (front x) (to ns k)) (paths ns))
      back x i h e = rw e (filter_has (λ x. dec_eq (front x) (to ns k)) (paths ns) ((lists ns w).to (to ns k · i) (showing_row ns w k i o h)) (front_child (to ns k) i))

  rows_of_parent : (k : ℕ) → number (λ (r : Row). ℕ_discrete r.0 k) (rows ns) ≡ open_direct ns k
  rows_of_parent k = go (bool (is_open (node_at ns k)))
    where
      front_row : (r : Row) → front (path ns r) ≡ to ns r.0
      front_row r = ap front (path_is ns r.0 r.1) ∙ front_child (to ns r.0) r.1

      go : (is_open (node_at ns k) ≡ true) ⊎ (is_open (node_at ns k) ≡ false) → number (λ (r : Row). ℕ_discrete r.0 k) (rows ns) ≡ open_direct ns k
      go (inl o) =
          number_agree (λ (r : Row). ℕ_discrete r.0 k) (λ (r : Row). dec_eq (front (path ns r)) (to ns k)) (rows ns)
          (λ r m e. front_row r ∙ ap (to ns) e)
          (λ r m e. to_inj ns w r.0 k (open_used ns r.0 (shows_row ns w r m).0) (open_used ns k o) (sym (front_row r) ∙ e))
          ∙ sym (number_map (λ x. dec_eq (front x) (to ns k)) (path ns) (rows ns))
          ∙ ap length (children_rows k o)
          ∙ child_paths_length (to ns k) 0 (direct_of ns k)
          ∙ rw o
      go (inr c) = number_none (λ (r : Row). ℕ_discrete r.0 k) (rows ns) (λ r m e. differ (rw e at (shows_row ns w r m).0) c) ∙ rw c

  pub row_total_lem : row_total ns ≡ direct_of ns 0 + sum (λ k. open_direct ns (suc k)) 255
  row_total_lem =
      length_by (λ (r : Row). r.0) (rows ns) 256 (λ r m. used_small ns w r.0 (open_used ns r.0 (shows_row ns w r m).0))
      ∙ sum_same (λ k. number (λ (r : Row). ℕ_discrete r.0 k) (rows ns)) (open_direct ns) 256 (λ k h. rows_of_parent k)
      ∙ sum_first (open_direct ns) 255
      ∙ rw (zero_open ns w)
