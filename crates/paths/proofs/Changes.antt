-- What opening, closing and growing a path do to the listing.
use mathlib.Core.Path.{◌≡◌, refl, sym, ◌∙◌}
use mathlib.Core.Logic.{◌⊎◌, inl, inr, ◌≢◌}
use mathlib.Core.Bool.{true≢false}
use mathlib.Core.List.Memᴰ.{append_right as on-right}
use mathlib.Core.List.{List, ◌++◌, filter, Memᴰ as In}
use Prim.Native.Nat.{ℕ, zero, suc, ◌+◌, ◌-◌, ◌<◌}
use native.Mathlib.Omega.{arith}
use native.Mathlib.Nat.{zero-add, add-zero}
use native.Mathlib.Decide.{dec_lt}
use lib.ListN.{take, drop, take-append-drop}
use Rattle.lists.proofs.Filters.{filter_in, filter_has}
use Rattle.lists.proofs.Edits.{remove_insert}
use Rattle.paths.specs.Order.{Path, ◌·◌, Lt, Ext, Under, dec_eq, dec_ext}
use Rattle.paths.proofs.Decided.{lt_trans, lt_total}
use Rattle.paths.specs.Shapes.{Shape, Open, Rooted, Showing, Opened, Closed, Grown}
use Rattle.paths.specs.Listings.{Lists, At, total, row, child_paths}
use Rattle.paths.proofs.Order.{ext_lt, ext_beyond, ext_irrefl, child_ext, child_lt, ext_parent, under_child, ext_branch, branch_lt}
use Rattle.paths.proofs.Sorted.{sorted_filter, child_paths_in, child_paths_has, child_paths_sorted, cut_low, cut_high, in_at, at_in, at_unique, at_insert}
use Rattle.paths.proofs.Listings.{lists_unique, above_open, branch_inside, lists_insert, lists_insert_below}

-- opening: the children come right after the row
module _ (t t' : Shape) (w : Rooted t) {l : List Path} (L : Lists t l) (q : Path) (c : ℕ) (o : Opened t t' q c) where
  was_shut : Open t q → ⊥
  was_shut h = true≢false (sym h ∙ o.was)

  pub open_lists : (r : ℕ) → At l r q → Lists t' (take (suc r) l ++ child_paths q 0 c ++ drop (suc r) l)
  open_lists r at =
      lists_insert_below t t' L (child_paths q 0 c) r q at (child_paths_sorted q 0 c)
      (λ x k. let i = child_paths_in q 0 c k in rw i.2 (child_ext q (0 + i.0)))
      (λ x s h. was_shut (above_open t w q x h s))
      (λ x s. from x s (dec_eq s.up q))
      (λ x s. let n : s.up ≢ q = λ e. was_shut (rw e at s.open_up) in
      record { up = s.up; ix = s.ix; is = s.is; open_up = rw (o.open_else s.up n) s.open_up; inside = rw (o.count_else s.up n) s.inside })
      (λ x k. let r = child_paths_in q 0 c k in record { up = q; ix = r.0; is = rw zero-add at r.2; open_up = o.now; inside = rw o.many r.1 })
    where
      from : (x : Path) (s : Showing t' x) → Dec (s.up ≡ q) → Showing t x ⊎ In x (child_paths q 0 c)
      from x s (yes e) = inr (child_paths_has q 0 c s.ix (rw (e, o.many) at s.inside) (rw (zero-add, ← e) s.is))
      from x s (no n) = inl (record { up = s.up; ix = s.ix; is = s.is; open_up = rw (o.open_else s.up n) at s.open_up; inside = rw (o.count_else s.up n) at s.inside })

-- closing: what extends the path goes, and stood right after it
module _ (t t' : Shape) (q : Path) (o : Closed t t' q) where
  close_of : (x : Path) → Showing t' x → Showing t x × (Ext q x → ⊥)
  close_of x s =
      let n : Under q s.up → ⊥ = λ u. true≢false (sym s.open_up ∙ o.shut s.up u) in (
        record { up = s.up; ix = s.ix; is = s.is; open_up = rw (o.open_else s.up n) at s.open_up; inside = rw (o.count_else s.up n) at s.inside },
        λ h. n (ext_parent q s.up s.ix (rw s.is at h)),
      )

  -- what does not extend q still shows
  pub close_showing : (x : Path) → Showing t x → (Ext q x → ⊥) → Showing t' x
  close_showing x s m =
      let n : Under q s.up → ⊥ = λ u. m (rw s.is (under_child q s.up s.ix u)) in
      record { up = s.up; ix = s.ix; is = s.is; open_up = rw (o.open_else s.up n) s.open_up; inside = rw (o.count_else s.up n) s.inside }

  -- the listing before, from a listing after
  pub close_insert : {l k : List Path} → Lists t l → Lists t' k → (r : ℕ) → At k r q → l ≡ take (suc r) k ++ filter (dec_ext q) l ++ drop (suc r) k
  close_insert {l} {k} L K r at =
      lists_unique L
      (lists_insert_below t' t K (filter (dec_ext q) l) r q at (sorted_filter (dec_ext q) L.sorted)
      (λ x m. (filter_in (dec_ext q) l m).1)
      (λ x s. (close_of x s).1)
      (λ x s. side x s (dec_ext q x))
      (λ x s. (close_of x s).0)
      (λ x m. L.of x (filter_in (dec_ext q) l m).0))
    where
      side : (x : Path) → Showing t x → Dec (Ext q x) → Showing t' x ⊎ In x (filter (dec_ext q) l)
      side x s (yes h) = inr (filter_has (dec_ext q) l (L.to x s) h)
      side x s (no n) = inl (close_showing x s n)

  pub close_lists : {l : List Path} → Lists t l → (r : ℕ) → At l r q → Lists t' (take (suc r) l ++ drop (suc r + total l q) l)
  close_lists {l} L r at =
      let k = filter (outside q) l in
      let K = rest in
      let p = in_at (K.to q (close_showing q (L.of q (at_in L.sorted r q at)) (ext_irrefl q))) in
      let e = close_insert L K p.0 p.1 in
      let d : p.0 ≡ r = at_unique L.sorted p.0 r q (at_insert q p.0 k (filter (dec_ext q) l) l p.1 e) at in
      let f : k ≡ take (suc r) l ++ drop (suc r + total l q) l = rw d at (remove_insert (suc p.0) k (filter (dec_ext q) l) l p.1.0 e) in
      rw f at K
    where
      outside : (p x : Path) → Dec (Ext p x → ⊥)
      outside p x = go (dec_ext p x)
        where
          go : Dec (Ext p x) → Dec (Ext p x → ⊥)
          go (yes h) = no (λ n. n h)
          go (no n) = yes n

      rest : Lists t' (filter (outside q) l)
      rest = record {
        sorted = sorted_filter (outside q) L.sorted;
        of = λ x m. let r = filter_in (outside q) l m in close_showing x (L.of x r.0) r.1;
        to = λ x s. let r = close_of x s in filter_has (outside q) l (L.to x r.0) r.1;
      }

-- growing: the new children come where the next child would stand
module _ (t t' : Shape) (w : Rooted t) {l : List Path} (L : Lists t l) (p : Path) (c : ℕ) (o : Grown t t' p c) (op : Open t p) where
  abbrev next : Path
  next = p · t.count p

  pub grow_lists : let e = row l (p · t.count p) in Lists t' (take e l ++ child_paths p (t.count p) c ++ drop e l)
  grow_lists =
      lists_insert t t' L (child_paths p (t.count p) c) (row l next) (child_paths_sorted p (t.count p) c)
      (λ x y k n. let r = child_paths_in p (t.count p) c n in rw r.2 (from x r.0 (cut_low next L.sorted x k)))
      (λ x y k n. high x y k (cut_high next L.sorted y n) (L.of y (rw take-append-drop at (on-right (take (row l next) l) n))))
      (λ x s. of x s (dec_eq s.up p) (dec_lt s.ix (t.count p)))
      (λ x s. record { up = s.up; ix = s.ix; is = s.is; open_up = rw (o.open_same s.up) s.open_up; inside = old x s (dec_eq s.up p) })
      (λ x k. let r = child_paths_in p (t.count p) c k in record { up = p; ix = t.count p + r.0; is = r.2; open_up = rw (o.open_same p) op; inside = rw o.many (omega arith) })
    where
      of : (x : Path) (s : Showing t' x) → Dec (s.up ≡ p) → Dec (s.ix < t.count p) → Showing t x ⊎ In x (child_paths p (t.count p) c)
      of x s d h = go d h
        where
          known : s.ix < t.count s.up → Showing t x
          known h = record { up = s.up; ix = s.ix; is = s.is; open_up = rw (o.open_same s.up) at s.open_up; inside = h }

          go : Dec (s.up ≡ p) → Dec (s.ix < t.count p) → Showing t x ⊎ In x (child_paths p (t.count p) c)
          go (no n) d = inl (known (rw (o.count_else s.up n) at s.inside))
          go (yes e) (yes h) = inl (known (rw e h))
          go (yes e) (no n) =
              let h : s.ix < t.count p + c = rw (e, o.many) at s.inside in
              let i : t.count p + (s.ix - t.count p) ≡ s.ix = omega arith in
              inr (child_paths_has p (t.count p) c (s.ix - t.count p) (omega arith) (rw (i, ← e) s.is))

      old : (x : Path) (s : Showing t x) → Dec (s.up ≡ p) → s.ix < t'.count s.up
      old x s (no n) = rw (o.count_else s.up n) s.inside
      old x s (yes e) = let h : s.ix < t.count p = rw e at s.inside in rw (e, o.many) (omega arith)

      from : (x : Path) (i : ℕ) → Lt x next → Lt x (p · (t.count p + i))
      from x zero h = rw add-zero h
      from x (suc i) h = lt_trans h (child_lt p (omega arith))

      -- what is up to p or extends it is before the next child of p
      up_to : (y : Path) → Lt y p ⊎ Under p y → Showing t y → Lt y next
      up_to y (inl h) s = lt_trans h (ext_lt (child_ext p (t.count p)))
      up_to y (inr (inl e)) s = rw e (ext_lt (child_ext p (t.count p)))
      up_to y (inr (inr h)) s = let r = ext_branch h in branch_lt p (branch_inside t w p y r.0 r.1 s) r.1 (inl refl)

      past : (y : Path) → Lt p y ⊎ ((p ≡ y) ⊎ Lt y p) → (Lt y next → ⊥) → Showing t y → Lt p y
      past y (inl h) n s = h
      past y (inr (inl e)) n s = absurd (n (up_to y (inr (inl (sym e))) s))
      past y (inr (inr h)) n s = absurd (n (up_to y (inl h) s))

      high : (x y : Path) → In x (child_paths p (t.count p) c) → (Lt y next → ⊥) → Showing t y → Lt x y
      high x y k n s =
          let r = child_paths_in p (t.count p) c k in
          ext_beyond x (rw r.2 (child_ext p (t.count p + r.0))) (past y (lt_total p y) n s) (λ h. n (up_to y (inr (inr h)) s))
