-- Strictly sorted lists of paths: two with the same members are equal, and a member's place is the number of members before it.
use mathlib.Core.Path.{◌≡◌, refl, sym, ◌∙◌, ap}
use mathlib.Core.Logic.{◌⊎◌, inl, inr, ite}
use mathlib.Core.List.Memᴰ.{append_cases as split}
use mathlib.Core.List.Memᴰ.{append_left as on-left}
use mathlib.Core.List.Memᴰ.{append_right as on-right}
use mathlib.Core.List.Memᴰ.{cases_cons as cases}
use mathlib.Core.List.Memᴰ.{eq_of_singleton as only}
use mathlib.Core.List.Memᴰ.{head as here}
use mathlib.Core.List.Memᴰ.{not-nil}
use mathlib.Core.List.Memᴰ.{tail as there}
use mathlib.Core.List.{
  List,
  [],
  ◌∷◌,
  ◌++◌,
  filter,
  Memᴰ as In,
}
use Prim.Native.Nat.{ℕ, zero, suc, ◌+◌, ◌<◌}
use native.Mathlib.Omega.{arith}
use native.Mathlib.Nat.{le_of_lt, add-zero}
use lib.ListN.{length, take, drop, length-append}
use lib.Seq.{take-suc, split_at, take-nil, drop-nil, length-take-le, get_or-take}
use Rattle.lists.specs.Counts.{number}
use Rattle.lists.proofs.Filters.{filter_in, filter_none, number_append, number_all, number_none}
use Rattle.lists.proofs.Edits.{take_insert}
use Rattle.paths.specs.Order.{Path, ◌·◌, Lt, dec_eq}
use Rattle.paths.proofs.Decided.{lt_irrefl, lt_trans}
use Rattle.paths.specs.Listings.{Sorted, nil, cons, At, lower, row, child_paths}
use Rattle.paths.proofs.Order.{child_lt}

pub sorted_unique : {l m : List Path} → Sorted l → Sorted m → ((x : Path) → In x l → In x m) → ((x : Path) → In x m → In x l) → l ≡ m
sorted_unique nil nil f g = refl
sorted_unique nil (cons {x = y} b t) f g = absurd (not-nil (g y (here refl)))
sorted_unique (cons {x = x} a s) nil f g = absurd (not-nil (f x (here refl)))
sorted_unique (cons {x = x} {xs = xs} a s) (cons {x = y} {xs = ys} b t) f g =
    let e : x ≡ y = heads (cases (f x (here refl))) (cases (g y (here refl))) in
    let d : xs ≡ ys = sorted_unique s t (λ z m. right z m e (cases (f z (there m)))) (λ z m. left z m e (cases (g z (there m)))) in
    cc
  where
    heads : (x ≡ y) ⊎ In x ys → (y ≡ x) ⊎ In y xs → x ≡ y
    heads (inl e) k = e
    heads (inr m) (inl e) = sym e
    heads (inr m) (inr n) = absurd (lt_irrefl x (lt_trans (a y n) (b x m)))

    right : (z : Path) → In z xs → x ≡ y → (z ≡ y) ⊎ In z ys → In z ys
    right z m e (inl d) = absurd (lt_irrefl x (rw (d ∙ sym e) at (a z m)))
    right z m e (inr k) = k

    left : (z : Path) → In z ys → x ≡ y → (z ≡ x) ⊎ In z xs → In z xs
    left z m e (inl d) = absurd (lt_irrefl y (rw (d ∙ e) at (b z m)))
    left z m e (inr k) = k

pub sorted_append : (l : List Path) {m : List Path} → Sorted l → Sorted m → ((x y : Path) → In x l → In y m → Lt x y) → Sorted (l ++ m)
sorted_append [] s t h = t
sorted_append (x ∷ l) {m} (cons a s) t h =
    cons (λ y k. low y (split l k)) (sorted_append l s t (λ z y k n. h z y (there k) n))
  where
    low : (y : Path) → In y l ⊎ In y m → Lt x y
    low y (inl k) = a y k
    low y (inr k) = h x y (here refl) k

pub sorted_left : (l m : List Path) → Sorted (l ++ m) → Sorted l
sorted_left [] m s = nil
sorted_left (x ∷ l) m (cons a s) = cons (λ y k. a y (on-left m k)) (sorted_left l m s)

pub sorted_right : (l : List Path) {m : List Path} → Sorted (l ++ m) → Sorted m
sorted_right [] s = s
sorted_right (x ∷ l) (cons a s) = sorted_right l s

pub sorted_across : (l : List Path) {m : List Path} → Sorted (l ++ m) → (x y : Path) → In x l → In y m → Lt x y
sorted_across [] {m = m} _ x y x6 n = elim x6 [ ]
sorted_across (z ∷ l) (cons a s) x y (here e) n = rw e (a y (on-right l n))
sorted_across (z ∷ l) (cons a s) x y (there k) n = sorted_across l s x y k n

pub sorted_filter : {P : Path → Type 0} (d : (x : Path) → Dec (P x)) {l : List Path} → Sorted l → Sorted (filter d l)
sorted_filter d nil = nil
sorted_filter {P} d (cons {x = y} {xs = l} a s) = step (d y) (sorted_filter d s)
  where
    step : (c : Dec (P y)) → Sorted (filter d l) → Sorted (ite {C = List Path} c (y ∷ filter d l) (filter d l))
    step (yes h) t = cons (λ z k. a z (filter_in d l k).0) t
    step (no n) t = t

-- children in a row

pub child_paths_in : (p : Path) (n c : ℕ) {x : Path} → In x (child_paths p n c) → (i : ℕ) × (i < c) × (x ≡ p · (n + i))
child_paths_in p n zero k = absurd (not-nil k)
child_paths_in p n (suc c) {x} k = go (cases k) (λ m. child_paths_in p (suc n) c m)
  where
    go : (x ≡ p · n) ⊎ In x (child_paths p (suc n) c) → (In x (child_paths p (suc n) c) → (i : ℕ) × (i < c) × (x ≡ p · (suc n + i))) → (i : ℕ) × (i < suc c) × (x ≡ p · (n + i))
    go (inl e) ih = (0, (omega arith), rw add-zero e)
    go (inr m) ih = let r = ih m in let e : n + suc r.0 ≡ suc n + r.0 = omega arith in (suc r.0, (omega arith), rw e r.2)

pub child_paths_has : (p : Path) (n c : ℕ) {x : Path} (i : ℕ) → i < c → x ≡ p · (n + i) → In x (child_paths p n c)
child_paths_has p n zero i h e = absurd (omega arith)
child_paths_has p n (suc c) zero h e = here (rw add-zero at e)
child_paths_has p n (suc c) (suc i) h e = let d : n + suc i ≡ suc n + i = omega arith in there (child_paths_has p (suc n) c i (omega arith) (rw d at e))

pub child_paths_sorted : (p : Path) (n c : ℕ) → Sorted (child_paths p n c)
child_paths_sorted p n zero = nil
child_paths_sorted p n (suc c) =
    cons {x = p · n} (λ y k. let r = child_paths_in p (suc n) c k in rw r.2 (child_lt p (omega arith))) (child_paths_sorted p (suc n) c)

pub child_paths_length : (p : Path) (n c : ℕ) → length (child_paths p n c) ≡ c
child_paths_length p n zero = refl
child_paths_length p n (suc c) = ap suc (child_paths_length p (suc n) c)

-- places

-- a member has a place
pub in_at : {q : Path} {l : List Path} → In q l → (r : ℕ) × At l r q
in_at (here e) = (0, ((omega arith), sym e))
in_at (there m) = let k = in_at m in (suc k.0, ((omega arith), k.1.1))

-- an insertion after a row leaves it in its place
pub at_insert : (q : Path) (r : ℕ) (l m big : List Path) → At l r q → big ≡ take (suc r) l ++ m ++ drop (suc r) l → At big r q
at_insert q r l m big at e =
    let t = take_insert (suc r) l m big at.0 e in
    let n : length big ≡ suc r + length m + length (drop (suc r) l) = ap length e ∙ rw (length-append, length-append, length-take-le (suc r) l at.0) in
    ((omega arith), sym (get_or-take (suc r) big r [] (omega arith)) ∙ rw t (get_or-take (suc r) l r [] (omega arith)) ∙ at.1)

module _ {l : List Path} (s : Sorted l) (r : ℕ) (q : Path) (at : At l r q) where
  cut : l ≡ take r l ++ q ∷ drop (suc r) l
  cut = let h = at.0 in split_at l r [] h ∙ rw at.1

  at_before : (x : Path) → In x (take r l) → Lt x q
  at_before x k = sorted_across (take r l) (rw cut at s) x q k (here refl)

  pub at_upto : (x : Path) → In x (take (suc r) l) → (x ≡ q) ⊎ Lt x q
  at_upto x k = go (split (take r l) (rw (take-suc l r [] at.0, at.1) at k))
    where
      go : In x (take r l) ⊎ In x (q ∷ []) → (x ≡ q) ⊎ Lt x q
      go (inl m) = inr (at_before x m)
      go (inr m) = inl (only m)

  pub at_after : (x : Path) → In x (drop (suc r) l) → Lt q x
  at_after x k = go (sorted_right (take r l) (rw cut at s))
    where
      go : Sorted (q ∷ drop (suc r) l) → Lt q x
      go (cons a t) = a x k

  pub at_in : In q l
  at_in = rw cut (on-right (take r l) (here refl))

  late : (x : Path) → In x (q ∷ drop (suc r) l) → (x ≡ q) ⊎ Lt q x
  late x m = go (cases m)
    where
      go : (x ≡ q) ⊎ In x (drop (suc r) l) → (x ≡ q) ⊎ Lt q x
      go (inl e) = inl e
      go (inr k) = inr (at_after x k)

  number_cut : {P : Path → Type 0} (d : (x : Path) → Dec (P x)) → number d l ≡ number d (take r l) + number d (q ∷ drop (suc r) l)
  number_cut d = ap (number d) cut ∙ number_append d (take r l) (q ∷ drop (suc r) l)

  -- a row's number is the number of the members before it
  pub row_at : row l q ≡ r
  row_at =
      number_cut (lower q)
      ∙ rw (number_all (lower q) (take r l) at_before, number_none (lower q) (q ∷ drop (suc r) l) (λ x m. not_before x (late x m)), length-take-le r l (le_of_lt at.0), add-zero)
    where
      not_before : (x : Path) → (x ≡ q) ⊎ Lt q x → Lt x q → ⊥
      not_before x (inl e) h = lt_irrefl q (rw e at h)
      not_before x (inr k) h = lt_irrefl q (lt_trans k h)

pub at_unique : {l : List Path} → Sorted l → (r k : ℕ) (q : Path) → At l r q → At l k q → r ≡ k
at_unique s r k q a b = sym (row_at s r q a) ∙ row_at s k q b

-- a member is there once
pub number_once : {l : List Path} → Sorted l → (q : Path) → In q l → number (λ x. dec_eq x q) l ≡ 1
number_once nil q k = elim k [ ]
number_once (cons {x = y} {xs = l} a s) q k = go (cases k) (dec_eq y q) (number_once s q)
  where
    go : (q ≡ y) ⊎ In q l → (c : Dec (y ≡ q)) → (In q l → number (λ x. dec_eq x q) l ≡ 1) → length (ite {C = List Path} c (y ∷ filter (λ x. dec_eq x q) l) (filter (λ x. dec_eq x q) l)) ≡ 1
    go m (yes e) ih = ap suc (number_none (λ x. dec_eq x q) l (λ x k d. lt_irrefl y (rw (d ∙ sym e) at (a x k))))
    go (inl e) (no n) ih = absurd (n (sym e))
    go (inr m) (no n) ih = ih m

-- the members before z are the first ones
module _ (z : Path) where
  pub cut_low : {l : List Path} → Sorted l → (x : Path) → In x (take (row l z) l) → Lt x z
  cut_low nil x k = absurd (not-nil (rw take-nil at k))
  cut_low (cons {x = y} {xs = l} a s) x k = step (lower z y) (cut_low s x) k
    where
      step : (c : Dec (Lt y z)) → (In x (take (row l z) l) → Lt x z) → In x (take (length (ite {C = List Path} c (y ∷ filter (lower z) l) (filter (lower z) l))) (y ∷ l)) → Lt x z
      step (yes h) ih (here e) = rw e h
      step (yes h) ih (there m) = ih m
      step (no n) ih m = absurd (not-nil (rw (filter_none (lower z) l (λ w k h. n (lt_trans (a w k) h))) at m))

  pub cut_high : {l : List Path} → Sorted l → (x : Path) → In x (drop (row l z) l) → Lt x z → ⊥
  cut_high nil x k h = not-nil (rw drop-nil at k)
  cut_high (cons {x = y} {xs = l} a s) x k h = step (lower z y) (cut_high s x) k
    where
      none : (Lt y z → ⊥) → (x ≡ y) ⊎ In x l → ⊥
      none n (inl e) = n (rw e at h)
      none n (inr m) = n (lt_trans (a x m) h)

      step : (c : Dec (Lt y z)) → (In x (drop (row l z) l) → Lt x z → ⊥) → In x (drop (length (ite {C = List Path} c (y ∷ filter (lower z) l) (filter (lower z) l))) (y ∷ l)) → ⊥
      step (yes g) ih m = ih m h
      step (no n) ih m = none n (cases (rw (filter_none (lower z) l (λ w k g. n (lt_trans (a w k) g))) at m))
