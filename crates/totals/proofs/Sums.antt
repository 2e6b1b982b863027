-- Sums over the elements of a list that pass a test.
use Prim.Native.Nat.{ℕ, zero, suc, ◌+◌, ◌≤◌, ◌<◌}
use native.Mathlib.Numerals.{add-one}
use native.Mathlib.Omega.{arith}
use mathlib.Core.Path.{◌≡◌, refl}
use mathlib.Core.Bool.{Bool, true, false, cond}
use mathlib.Core.List.{List, [], ◌∷◌}
use lib.ListN.{length, get_or, drop, drop_of_length-le}
use lib.Seq.{drop-cons}
use Rattle.std.specs.List.{filter, sum_by}
use Rattle.std.proofs.lemmas.List.Sums.{sum_by-cons}
use Rattle.totals.specs.Totals.{sum_if}

module _ {A : Type 0} (q : A → Bool) (f : A → ℕ) where
  pub sum_next : (xs : List A) (k : ℕ) (d : A) → k < length xs → sum_if q f (drop k xs) ≡ cond (q (get_or xs k d)) (f (get_or xs k d)) 0 + sum_if q f (drop (k + 1) xs)
  unfolding sum_if
  sum_next xs k d h = rw (add-one, drop-cons xs k d h)

  pub sum_end : (xs : List A) (k : ℕ) → length xs ≤ k → sum_if q f (drop k xs) ≡ 0
  unfolding sum_if
  sum_end xs k h = rw (drop_of_length-le xs h)

  -- the library's words for it
  pub sum_if-filter : (xs : List A) → sum_by f (filter q xs) ≡ sum_if q f xs
  unfolding sum_if
  sum_if-filter [] = refl
  sum_if-filter (x ∷ xs) = go (q x) (sum_if-filter xs)
    where
      go : (b : Bool) → sum_by f (filter q xs) ≡ sum_if q f xs → sum_by f (cond b (x ∷ filter q xs) (filter q xs)) ≡ cond b (f x) 0 + sum_if q f xs
      go true e = omega (arith, e, sum_by-cons f x (filter q xs))
      go false e = omega (arith, e)

  pub sum_none : (xs : List A) (d : A) → ((i : ℕ) → i < length xs → q (get_or xs i d) ≡ false) → sum_if q f xs ≡ 0
  unfolding sum_if
  sum_none [] d h = refl
  sum_none (x ∷ xs) d h = let e : q x ≡ false = h 0 (omega arith) in rw e (omega (arith, sum_none xs d (λ i l. h (suc i) (omega arith))))

  -- one element passes and no other does
  pub sum_one : (xs : List A) (d : A) (i : ℕ) → i < length xs → q (get_or xs i d) ≡ true → ((j : ℕ) → j < length xs → q (get_or xs j d) ≡ true → j ≡ i) → sum_if q f xs ≡ f (get_or xs i d)
  unfolding sum_if
  sum_one [] d i l t u = absurd (omega arith)
  sum_one (x ∷ xs) d zero l t u =
      let e : q x ≡ true = t in
      rw e (omega (arith, sum_none xs d (λ i h. fails (q (get_or xs i d)) refl (λ v. omega (arith, u (suc i) (omega arith) v)))))
    where
      fails : {b : Bool} (c : Bool) → b ≡ c → (b ≡ true → ⊥) → b ≡ false
      fails true e n = absurd (n e)
      fails false e n = e
  sum_one (x ∷ xs) d (suc i) l t u = first (q x) refl (sum_one xs d i (omega arith) t (λ j h v. omega (arith, u (suc j) (omega arith) v)))
    where
      first : (b : Bool) → q x ≡ b → sum_if q f xs ≡ f (get_or xs i d) → cond b (f x) 0 + sum_if q f xs ≡ f (get_or xs i d)
      first true e r = absurd (omega (arith, u 0 (omega arith) e))
      first false e r = omega (arith, r)

-- two tests that share no element
pub sum_split : {A : Type 0} (s q r : A → Bool) (f : A → ℕ) → ((x : A) → cond (s x) (f x) 0 ≡ cond (q x) (f x) 0 + cond (r x) (f x) 0) → (xs : List A) → sum_if s f xs ≡ sum_if q f xs + sum_if r f xs
unfolding sum_if
sum_split s q r f h [] = refl
sum_split s q r f h (x ∷ xs) = omega (arith, h x, sum_split s q r f h xs)
