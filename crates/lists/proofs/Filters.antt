-- The members of a list that have a property, and how many they are.
use mathlib.Core.Path.{◌≡◌, refl, sym, ◌∙◌, ap}
use mathlib.Core.Logic.{◌⊎◌, inl, inr, ite}
use mathlib.Core.List.Memᴰ.{cases_cons as cases}
use mathlib.Core.List.Memᴰ.{head as here}
use mathlib.Core.List.Memᴰ.{not-nil}
use mathlib.Core.List.Memᴰ.{tail as there}
use mathlib.Core.List.{
  List,
  [],
  ◌∷◌,
  ◌++◌,
  map,
  filter,
  Memᴰ as In,
}
use Prim.Native.Nat.{ℕ, zero, suc, ◌+◌, ◌≤◌, ◌<◌}
use native.Mathlib.Omega.{arith}
use native.Mathlib.Decide.{ℕ_discrete, dec_lt}
use lib.ListN.{length, take, drop, length-append, take-append-drop}
use Rattle.lists.specs.Counts.{sum, number}

module _ {A : Type 0} {P : A → Type 0} (d : (x : A) → Dec (P x)) where
  pub filter_in : (l : List A) {x : A} → In x (filter d l) → In x l × P x
  filter_in [] k = absurd (not-nil k)
  filter_in (y ∷ l) {x} k = step (d y) (λ (m : In x (filter d l)). filter_in l m) k
    where
      step : (c : Dec (P y)) → (In x (filter d l) → In x l × P x) → In x (ite {C = List A} c (y ∷ filter d l) (filter d l)) → In x (y ∷ l) × P x
      step (yes h) ih (here e) = (here e, rw e h)
      step (yes h) ih (there m) = (there (ih m).0, (ih m).1)
      step (no n) ih m = (there (ih m).0, (ih m).1)

  pub filter_has : (l : List A) {x : A} → In x l → P x → In x (filter d l)
  filter_has [] k h = absurd (not-nil k)
  filter_has (y ∷ l) {x} k h = step (d y) (λ (m : In x l). filter_has l m h) (cases k)
    where
      step : (c : Dec (P y)) → (In x l → In x (filter d l)) → (x ≡ y) ⊎ In x l → In x (ite {C = List A} c (y ∷ filter d l) (filter d l))
      step (yes g) ih (inl e) = here e
      step (yes g) ih (inr m) = there (ih m)
      step (no n) ih (inl e) = absurd (n (rw e at h))
      step (no n) ih (inr m) = ih m

  pub filter_none : (l : List A) → ((x : A) → In x l → P x → ⊥) → filter d l ≡ []
  filter_none [] h = refl
  filter_none (y ∷ l) h = step (d y) (filter_none l (λ x k. h x (there k)))
    where
      step : (c : Dec (P y)) → filter d l ≡ [] → ite {C = List A} c (y ∷ filter d l) (filter d l) ≡ []
      step (yes k) e = absurd (h y (here refl) k)
      step (no n) e = e

  pub filter_all : (l : List A) → ((x : A) → In x l → P x) → filter d l ≡ l
  filter_all [] h = refl
  filter_all (y ∷ l) h = step (d y) (filter_all l (λ x k. h x (there k)))
    where
      step : (c : Dec (P y)) → filter d l ≡ l → ite {C = List A} c (y ∷ filter d l) (filter d l) ≡ y ∷ l
      step (yes k) e = rw e
      step (no n) e = absurd (n (h y (here refl)))

  pub filter_append : (l m : List A) → filter d (l ++ m) ≡ filter d l ++ filter d m
  filter_append [] m = refl
  filter_append (y ∷ l) m = step (d y) (filter_append l m)
    where
      step : (c : Dec (P y)) → filter d (l ++ m) ≡ filter d l ++ filter d m → ite {C = List A} c (y ∷ filter d (l ++ m)) (filter d (l ++ m)) ≡ ite {C = List A} c (y ∷ filter d l) (filter d l) ++ filter d m
      step (yes k) e = rw e
      step (no n) e = e

  pub number_append : (l m : List A) → number d (l ++ m) ≡ number d l + number d m
  number_append l m = rw (filter_append, length-append)

  pub number_all : (l : List A) → ((x : A) → In x l → P x) → number d l ≡ length l
  number_all l h = ap length (filter_all l h)

  pub number_none : (l : List A) → ((x : A) → In x l → P x → ⊥) → number d l ≡ 0
  number_none l h = ap length (filter_none l h)

  pub number_le : (l : List A) → number d l ≤ length l
  number_le [] = omega arith
  number_le (y ∷ l) = step (d y) (number_le l)
    where
      step : (c : Dec (P y)) → number d l ≤ length l → length (ite {C = List A} c (y ∷ filter d l) (filter d l)) ≤ suc (length l)
      step (yes h) k = omega arith
      step (no n) k = omega arith

  -- after an insertion
  pub number_insert : (k : ℕ) (l m big : List A) → big ≡ take k l ++ m ++ drop k l → number d big ≡ number d l + number d m
  number_insert k l m big e =
      let e₁ = number_append (take k l ++ m) (drop k l) in
      let e₂ = number_append (take k l) m in
      let e₃ = number_append (take k l) (drop k l) in
      let e₄ = ap (number d) (take-append-drop k l) in
      let e₅ = ap (number d) e in
      omega arith

pub number_map : {A B : Type 0} {P : B → Type 0} (d : (x : B) → Dec (P x)) (f : A → B) (l : List A) → number d (map f l) ≡ number (λ x. d (f x)) l
number_map d f [] = refl
number_map {A} {B} {P} d f (x ∷ l) = step (d (f x)) (number_map d f l)
  where
    step :
        (c : Dec (P (f x)))
        → number d (map f l) ≡ number (λ y. d (f y)) l
        → length (ite {C = List B} c (f x ∷ filter d (map f l)) (filter d (map f l))) ≡ length (ite {C = List A} c (x ∷ filter (λ y. d (f y)) l) (filter (λ y. d (f y)) l))
    step (yes h) e = ap suc e
    step (no n) e = e

pub number_agree :
    {A : Type 0} {P Q : A → Type 0} (d : (x : A) → Dec (P x)) (e : (x : A) → Dec (Q x)) (l : List A)
    → ((x : A) → In x l → P x → Q x)
    → ((x : A) → In x l → Q x → P x)
    → number d l ≡ number e l
number_agree d e [] h k = refl
number_agree {A} {P} {Q} d e (y ∷ l) h k = step (d y) (e y) (number_agree d e l (λ x m. h x (there m)) (λ x m. k x (there m)))
  where
    step : (a : Dec (P y)) (b : Dec (Q y)) → number d l ≡ number e l → length (ite {C = List A} a (y ∷ filter d l) (filter d l)) ≡ length (ite {C = List A} b (y ∷ filter e l) (filter e l))
    step (yes p) (yes q) ih = ap suc ih
    step (yes p) (no q) ih = absurd (q (h y (here refl) p))
    step (no p) (yes q) ih = absurd (p (k y (here refl) q))
    step (no p) (no q) ih = ih

-- a property that is one of two
module _ {A : Type 0} {P Q R : A → Type 0} (d : (x : A) → Dec (P x)) (e : (x : A) → Dec (Q x)) (f : (x : A) → Dec (R x)) where
  pub number_either :
      (l : List A)
      → ((x : A) → In x l → P x → Q x ⊎ R x)
      → ((x : A) → In x l → Q x → P x)
      → ((x : A) → In x l → R x → P x)
      → ((x : A) → In x l → Q x → R x → ⊥)
      → number d l ≡ number e l + number f l
  number_either [] one left right apart = refl
  number_either (y ∷ l) one left right apart =
      step (d y) (e y) (f y) (number_either l (λ x k. one x (there k)) (λ x k. left x (there k)) (λ x k. right x (there k)) (λ x k. apart x (there k)))
    where
      neither : (Q y → ⊥) → (R y → ⊥) → Q y ⊎ R y → ⊥
      neither q r (inl k) = q k
      neither q r (inr k) = r k

      step : (a : Dec (P y)) (b : Dec (Q y)) (c : Dec (R y)) → number d l ≡ number e l + number f l
          → length (ite {C = List A} a (y ∷ filter d l) (filter d l)) ≡ length (ite {C = List A} b (y ∷ filter e l) (filter e l)) + length (ite {C = List A} c (y ∷ filter f l) (filter f l))
      step (yes p) (yes q) (yes r) ih = absurd (apart y (here refl) q r)
      step (yes p) (yes q) (no r) ih = omega arith
      step (yes p) (no q) (yes r) ih = omega arith
      step (yes p) (no q) (no r) ih = absurd (neither q r (one y (here refl) p))
      step (no p) (yes q) c ih = absurd (p (left y (here refl) q))
      step (no p) (no q) (yes r) ih = absurd (p (right y (here refl) r))
      step (no p) (no q) (no r) ih = ih

-- the members of a list, counted by a number below n that each has
module _ {A : Type 0} (g : A → ℕ) (l : List A) where
  number_below : (n : ℕ) → number (λ x. dec_lt (g x) n) l ≡ sum (λ k. number (λ x. ℕ_discrete (g x) k) l) n
  unfolding sum
  number_below zero = number_none (λ x. dec_lt (g x) 0) l (λ x k h. omega arith)
  number_below (suc n) =
      number_either (λ x. dec_lt (g x) (suc n)) (λ x. dec_lt (g x) n) (λ x. ℕ_discrete (g x) n) l
      (λ x k h. which x h (ℕ_discrete (g x) n))
      (λ x k h. omega arith)
      (λ x k h. omega arith)
      (λ x k h e. omega arith)
      ∙ ap (◌+ number (λ x. ℕ_discrete (g x) n) l) (number_below n)
    where
      which : (x : A) → g x < suc n → Dec (g x ≡ n) → (g x < n) ⊎ (g x ≡ n)
      which x h (yes e) = inr e
      which x h (no e) = inl (omega arith)

  pub length_by : (n : ℕ) → ((x : A) → In x l → g x < n) → length l ≡ sum (λ k. number (λ x. ℕ_discrete (g x) k) l) n
  length_by n h = sym (number_all (λ x. dec_lt (g x) n) l h) ∙ number_below n
