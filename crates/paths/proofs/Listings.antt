-- A shape has one listing at most; what shows in a rooted shape; rows put into a listing.
use mathlib.Core.Path.{◌≡◌, sym, ◌∙◌}
use mathlib.Core.Logic.{◌⊎◌, inl, inr}
use mathlib.Core.List.Memᴰ.{append_cases as split}
use mathlib.Core.List.Memᴰ.{append_left as on-left}
use mathlib.Core.List.Memᴰ.{append_right as on-right}
use mathlib.Core.List.{List, [], ◌∷◌, ◌++◌, append-nil, Memᴰ as In}
use Prim.Native.Nat.{ℕ, suc, ◌<◌}
use lib.ListN.{take, drop, take-append-drop}
use lib.Seq.{append_snoc}
use Rattle.paths.specs.Order.{Path, ◌·◌, Lt, Ext, stop, Under}
use Rattle.paths.proofs.Decided.{lt_trans}
use Rattle.paths.specs.Shapes.{Shape, Open, Rooted, Showing}
use Rattle.paths.specs.Listings.{Sorted, Lists, At}
use Rattle.paths.proofs.Order.{ext_lt, ext_beyond, ext_rest, ext_parent, child_inj, child_not_nil}
use Rattle.paths.proofs.Sorted.{sorted_unique, sorted_append, sorted_left, sorted_right, sorted_across, at_upto, at_after}

pub lists_unique : {t : Shape} {l m : List Path} → Lists t l → Lists t m → l ≡ m
lists_unique a b = sorted_unique a.sorted b.sorted (λ x k. b.to x (a.of x k)) (λ x k. a.to x (b.of x k))

-- the root itself shows nowhere
pub showing_below : {t : Shape} (x : Path) → Showing t x → Ext [] x
showing_below [] s = absurd (child_not_nil s.up s.ix (sym s.is))
showing_below (i ∷ x) s = stop

module _ (t : Shape) (w : Rooted t) where
  down : (r p : Path) → Open t (p ++ r) → Open t p
  down [] p h = rw append-nil at h
  down (y ∷ r) p h = (w.step p y (down r (p · y) (rw append_snoc h))).0

  -- what an open path extends is open
  pub under_open : (p q : Path) → Under p q → Open t q → Open t p
  under_open p q (inl e) o = rw e at o
  under_open p q (inr h) o = let r = ext_rest h in down r.0 p (rw r.1 at o)

  pub above_open : (p x : Path) → Ext p x → Showing t x → Open t p
  above_open p x h s = under_open p s.up (ext_parent p s.up s.ix (rw s.is at h)) s.open_up

  -- the branch of p in which a showing path stands is one of p's
  pub branch_inside : (p x : Path) (i : ℕ) → Under (p · i) x → Showing t x → i < t.count p
  branch_inside p x i (inl e) s =
      let c = child_inj p s.up i s.ix (sym e ∙ s.is) in
      let e₁ = c.0 in
      let e₂ = c.1 in
      rw (e₁, e₂) s.inside
  branch_inside p x i (inr k) s = (w.step p i (above_open (p · i) x k s)).1

module _ (t t' : Shape) {l : List Path} (L : Lists t l) (m : List Path) where
  -- rows put in at place e
  pub lists_insert :
      (e : ℕ)
      → Sorted m
      → ((x y : Path) → In x (take e l) → In y m → Lt x y)
      → ((x y : Path) → In x m → In y (drop e l) → Lt x y)
      → ((x : Path) → Showing t' x → Showing t x ⊎ In x m)
      → ((x : Path) → Showing t x → Showing t' x)
      → ((x : Path) → In x m → Showing t' x)
      → Lists t' (take e l ++ m ++ drop e l)
  lists_insert e sm low high from old new = record {
    sorted = sorted_append (take e l ++ m) (sorted_append (take e l) (sorted_left (take e l) (drop e l) sl) sm low) (sorted_right (take e l) sl) (λ x y k n. over x y (split (take e l) k) n);
    of = λ x k. of x (split (take e l ++ m) k);
    to = λ x s. to x (from x s);
  }
    where
      sl : Sorted (take e l ++ drop e l)
      sl = rw take-append-drop L.sorted

      over : (x y : Path) → In x (take e l) ⊎ In x m → In y (drop e l) → Lt x y
      over x y (inl k) n = sorted_across (take e l) sl x y k n
      over x y (inr k) n = high x y k n

      part : (x : Path) → In x (take e l) ⊎ In x m → Showing t' x
      part x (inl k) = old x (L.of x (rw take-append-drop at (on-left (drop e l) k)))
      part x (inr k) = new x k

      of : (x : Path) → In x (take e l ++ m) ⊎ In x (drop e l) → Showing t' x
      of x (inl k) = part x (split (take e l) k)
      of x (inr k) = old x (L.of x (rw take-append-drop at (on-right (take e l) k)))

      place : (x : Path) → In x (take e l) ⊎ In x (drop e l) → In x (take e l ++ m ++ drop e l)
      place x (inl k) = on-left (drop e l) (on-left m k)
      place x (inr k) = on-right (take e l ++ m) k

      to : (x : Path) → Showing t x ⊎ In x m → In x (take e l ++ m ++ drop e l)
      to x (inl s) = place x (split (take e l) (rw take-append-drop (L.to x s)))
      to x (inr k) = on-left (drop e l) (on-right (take e l) k)

  -- extensions of a row that has none come right after it
  pub lists_insert_below :
      (r : ℕ) (q : Path)
      → At l r q
      → Sorted m
      → ((x : Path) → In x m → Ext q x)
      → ((x : Path) → Showing t x → Ext q x → ⊥)
      → ((x : Path) → Showing t' x → Showing t x ⊎ In x m)
      → ((x : Path) → Showing t x → Showing t' x)
      → ((x : Path) → In x m → Showing t' x)
      → Lists t' (take (suc r) l ++ m ++ drop (suc r) l)
  lists_insert_below r q at sm ext none =
      lists_insert (suc r) sm
      (λ x y k n. low x y (at_upto L.sorted r q at x k) (ext y n))
      (λ x y k n. ext_beyond x (ext x k) (at_after L.sorted r q at y n) (none y (L.of y (rw take-append-drop at (on-right (take (suc r) l) n)))))
    where
      low : (x y : Path) → (x ≡ q) ⊎ Lt x q → Ext q y → Lt x y
      low x y (inl e) h = rw e (ext_lt h)
      low x y (inr k) h = lt_trans k (ext_lt h)
