-- Totals and row numbers: by climbing, and after rows are put in or cut out.
use mathlib.Core.Path.{◌≡◌, refl, sym, ◌∙◌}
use mathlib.Core.Logic.{◌⊎◌, inl, inr}
use mathlib.Core.Bool.{false, true≢false}
use mathlib.Core.List.{List, [], ◌++◌, filter, Memᴰ as In}
use Prim.Native.Nat.{ℕ, zero, suc, ◌+◌, ◌≤◌, ◌<◌}
use native.Mathlib.Omega.{arith}
use native.Mathlib.Nat.{zero-add}
use native.Mathlib.Decide.{ℕ_discrete}
use lib.ListN.{length, take, drop}
use Rattle.lists.specs.Counts.{sum}
use Rattle.lists.proofs.Numbers.{sum_zero, sum_suc}
use Rattle.lists.proofs.Filters.{filter_in, filter_has, number_all, number_none, number_either, number_insert}
use Rattle.paths.specs.Order.{Path, ◌·◌, Lt, Ext, Under, dec_eq, dec_ext, dec_under}
use Rattle.paths.proofs.Decided.{lt_irrefl, lt_trans}
use Rattle.paths.specs.Shapes.{Shape, Open, Rooted, Showing, Closed}
use Rattle.paths.specs.Listings.{Lists, lower, total, row, child_paths}
use Rattle.paths.proofs.Order.{ext_lt, child_ext, child_lt, ext_trans, ext_irrefl, ext_parent, ext_comparable, ext_branch, branch_lt, branch_below, lt_child}
use Rattle.paths.proofs.Sorted.{sorted_unique, sorted_filter, number_once, in_at, child_paths_in, child_paths_has, child_paths_sorted, child_paths_length}
use Rattle.paths.proofs.Listings.{showing_below, above_open, branch_inside}
use Rattle.paths.proofs.Changes.{close_showing, close_insert}

-- what is in no branch before the first is not below p
first_branch : (p x : Path) → Ext p x → Lt x (p · 0) → ⊥
first_branch p x h k = let r = ext_branch h in omega (arith, branch_below p x 0 r.0 r.1 k)

module _ (t : Shape) (w : Rooted t) {l : List Path} (L : Lists t l) where
  pub total_shut : (p : Path) → t.is_open p ≡ false → total l p ≡ 0
  total_shut p c = number_none (dec_ext p) l (λ x k h. true≢false (sym (above_open t w p x h (L.of x k)) ∙ c))

  -- from a path to its first child, from a child to the next, and past the last

  pub row_first : (p : Path) → Showing t p → row l (p · 0) ≡ suc (row l p)
  row_first p s =
      number_either (lower (p · 0)) (lower p) (λ x. dec_eq x p) l
      (λ x k h. which x h (lt_child p x 0 h))
      (λ x k h. lt_trans h (ext_lt (child_ext p 0)))
      (λ x k e. rw e (ext_lt (child_ext p 0)))
      (λ x k h e. lt_irrefl p (rw e at h))
      ∙ omega (arith, number_once L.sorted p (L.to p s))
    where
      which : (x : Path) → Lt x (p · 0) → Lt x p ⊎ Under p x → Lt x p ⊎ (x ≡ p)
      which x h (inl k) = inl k
      which x h (inr (inl e)) = inr e
      which x h (inr (inr k)) = absurd (first_branch p x k h)

  pub row_root : row l ([] · 0) ≡ 0
  row_root = number_none (lower ([] · 0)) l (λ x k h. first_branch [] x (showing_below x (L.of x k)) h)

  row_next : (p : Path) → Open t p → (i : ℕ) → i < t.count p → row l (p · suc i) ≡ suc (row l (p · i) + total l (p · i))
  row_next p o i h =
      let s : Showing t (p · i) = record { up = p; ix = i; is = refl; open_up = o; inside = h } in
      let a =
      number_either (lower (p · suc i)) (lower (p · i)) (dec_under (p · i)) l
      (λ x k m. which x m (lt_child p x (suc i) m))
      (λ x k m. lt_trans m (child_lt p (omega arith)))
      (λ x k u. branch_lt p {i = i} {j = suc i} (omega arith) u (inl refl))
      (λ x k m u. never x m u)
      in
      let b = number_either (dec_under (p · i)) (λ x. dec_eq x (p · i)) (dec_ext (p · i)) l (λ x k u. u) (λ x k e. inl e) (λ x k e. inr e) (λ x k e m. ext_irrefl (p · i) (rw e at m)) in
      omega (arith, number_once L.sorted (p · i) (L.to (p · i) s))
    where
      never : (x : Path) → Lt x (p · i) → Under (p · i) x → ⊥
      never x m u = let h = branch_below p x i i u m in omega arith

      near : (x : Path) (j : ℕ) → Under (p · j) x → Dec (j ≡ i) → j < suc i → Lt x (p · i) ⊎ Under (p · i) x
      near x j u (yes e) b = inr (rw e at u)
      near x j u (no n) b = inl (branch_lt p {i = j} {j = i} (omega arith) u (inl refl))

      which : (x : Path) → Lt x (p · suc i) → Lt x p ⊎ Under p x → Lt x (p · i) ⊎ Under (p · i) x
      which x m (inl k) = inl (lt_trans k (ext_lt (child_ext p i)))
      which x m (inr (inl e)) = inl (rw e (ext_lt (child_ext p i)))
      which x m (inr (inr k)) = let r = ext_branch k in near x r.0 r.1 (ℕ_discrete r.0 i) (branch_below p x (suc i) r.0 r.1 m)

  -- the children before, and the rows below them
  pub row_child : (p : Path) → Open t p → (i : ℕ) → i ≤ t.count p → row l (p · i) ≡ row l (p · 0) + i + sum (λ j. total l (p · j)) i
  row_child p o zero h = omega (arith, sum_zero (λ j. total l (p · j)))
  row_child p o (suc i) h = omega (arith, row_next p o i (omega arith), row_child p o i (omega arith), sum_suc (λ j. total l (p · j)) i)

  -- the end of the rows of p, where its next child would stand
  pub row_end : (p : Path) → row l (p · t.count p) ≡ row l (p · 0) + total l p
  row_end p =
      number_either (lower (p · t.count p)) (lower (p · 0)) (dec_ext p) l
      (λ x k h. which x (lt_child p x (t.count p) h))
      (λ x k h. before x (t.count p) h)
      (λ x k h. let r = ext_branch h in branch_lt p (branch_inside t w p x r.0 r.1 (L.of x k)) r.1 (inl refl))
      (λ x k h m. first_branch p x m h)
    where
      which : (x : Path) → Lt x p ⊎ Under p x → Lt x (p · 0) ⊎ Ext p x
      which x (inl k) = inl (lt_trans k (ext_lt (child_ext p 0)))
      which x (inr (inl e)) = inl (rw e (ext_lt (child_ext p 0)))
      which x (inr (inr k)) = inr k

      before : (x : Path) (n : ℕ) → Lt x (p · 0) → Lt x (p · n)
      before x zero h = h
      before x (suc n) h = lt_trans h (child_lt p (omega arith))

  -- the root's rows end with the listing
  pub end_root : row l ([] · t.count []) ≡ length l
  end_root = omega (arith, row_end [], row_root, number_all (dec_ext []) l (λ x k. showing_below x (L.of x k)))

  -- the total of an open path: its children, and the rows below them
  pub total_children : (p : Path) → Open t p → total l p ≡ t.count p + sum (λ j. total l (p · j)) (t.count p)
  total_children p o = omega (arith, row_end p, row_child p o (t.count p) (omega arith))

  -- the rows below a path of which no child is open are its children
  pub below_flat : (p : Path) → Open t p → ((i : ℕ) → t.is_open (p · i) ≡ false) → filter (dec_ext p) l ≡ child_paths p 0 (t.count p)
  below_flat p o shut =
      sorted_unique (sorted_filter (dec_ext p) L.sorted) (child_paths_sorted p 0 (t.count p))
      (λ x m. let r = filter_in (dec_ext p) l m in let b = ext_branch r.1 in of x b.0 b.1 (L.of x r.0))
      (λ x m. let r = child_paths_in p 0 (t.count p) m in
      filter_has (dec_ext p) l
      (L.to x (record { up = p; ix = 0 + r.0; is = r.2; open_up = o; inside = rw zero-add r.1 }))
      (rw r.2 (child_ext p (0 + r.0))))
    where
      of : (x : Path) (i : ℕ) → Under (p · i) x → Showing t x → In x (child_paths p 0 (t.count p))
      of x i (inl e) s = child_paths_has p 0 (t.count p) i (branch_inside t w p x i (inl e) s) (rw zero-add e)
      of x i (inr h) s = absurd (true≢false (sym (above_open t w (p · i) x h s) ∙ shut i))

-- rows are put in: the totals of what they extend grow
module _ (l m big : List Path) (e : ℕ) (d : big ≡ take e l ++ m ++ drop e l) where
  total_over : (q p : Path) → Under p q → ((x : Path) → In x m → Ext q x) → total big p ≡ total l p + length m
  total_over q p u each = omega (arith, number_insert (dec_ext p) e l m big d, number_all (dec_ext p) m (λ x k. below x u (each x k)))
    where
      below : (x : Path) → Under p q → Ext q x → Ext p x
      below x (inl e) h = rw e at h
      below x (inr k) h = ext_trans k h

  total_else : (p : Path) → ((x : Path) → In x m → Ext p x → ⊥) → total big p ≡ total l p
  total_else p none = omega (arith, number_insert (dec_ext p) e l m big d, number_none (dec_ext p) m none)

-- c children of q are put in, as when it is opened or grows
module _ (l big : List Path) (e : ℕ) (q : Path) (n c : ℕ) (d : big ≡ take e l ++ child_paths q n c ++ drop e l) where
  pub children_total_over : (p : Path) → Under p q → total big p ≡ total l p + c
  children_total_over p u =
      omega (arith, total_over l (child_paths q n c) big e d q p u (λ x k. let i = child_paths_in q n c k in rw i.2 (child_ext q (n + i.0))), child_paths_length q n c)

  pub children_total_else : (p : Path) → (Under p q → ⊥) → total big p ≡ total l p
  children_total_else p off = total_else l (child_paths q n c) big e d p (λ x k h. let i = child_paths_in q n c k in off (ext_parent p q (n + i.0) (rw i.2 at h)))

-- a row is closed
module _ (t t' : Shape) (q : Path) (o : Closed t t' q) {l k : List Path} (L : Lists t l) (K : Lists t' k) (s : Showing t q) where
  cut : (r : ℕ) × (l ≡ take (suc r) k ++ filter (dec_ext q) l ++ drop (suc r) k)
  cut = let p = in_at (K.to q (close_showing t t' q o q s (ext_irrefl q))) in (p.0, close_insert t t' q o L K p.0 p.1)

  pub closed_total_over : (p : Path) → Ext p q → total l p ≡ total k p + total l q
  closed_total_over p h = total_over k (filter (dec_ext q) l) l (suc cut.0) cut.1 q p (inr h) (λ x m. (filter_in (dec_ext q) l m).1)

  pub closed_total_else : (p : Path) → (Under p q → ⊥) → (Under q p → ⊥) → total k p ≡ total l p
  closed_total_else p n m =
      sym (total_else k (filter (dec_ext q) l) l (suc cut.0) cut.1 p (λ x i h. no_way (ext_comparable p q x h (filter_in (dec_ext q) l i).1)))
    where
      no_way : Under p q ⊎ Under q p → ⊥
      no_way (inl u) = n u
      no_way (inr u) = m u
