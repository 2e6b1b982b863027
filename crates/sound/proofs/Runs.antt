-- The regions of a listing against the places that hold them.
use Prim.Native.Nat.{ℕ, zero, suc, ◌+◌, ◌-◌, ◌<◌, ◌≤◌}
use native.Mathlib.Omega.{arith}
use native.Mathlib.Numerals.{add-one}
use mathlib.Core.Path.{◌≡◌, refl, sym, ap, ap₂, ◌∙◌}
use mathlib.Core.Logic.{◌≢◌}
use mathlib.Core.Bool.{Bool, true, false, cond, ◌&&◌}
use mathlib.Core.List.{List, [], ◌∷◌, ◌++◌}
use lib.ListN.{length, drop, take, get_or, replicate, length-drop}
use lib.Seq.{take-length, drop-cons}
use Rattle.std.specs.List.{list_all}
use lib.Dec.{eqb}
use borrow.Author.Tests.{eq-eqb, ne_eqb}
use Rattle.model.specs.declared.Region.{Region}
use Rattle.model.specs.Places.{pad}
use Rattle.model.specs.Rows.{Row}
use Rattle.model.specs.Regions.{region, no_region, join, runs}
use Rattle.model.specs.Sound.{same_region, same_list}
use Rattle.nodes.proofs.Tests.{and_end, fail_r}

abbrev pub region_at : List Region → ℕ → Region
region_at gs k = get_or gs k no_region

-- places from k on that are not in use
abbrev pub zero_from : List Region → ℕ → Bool
zero_from gs k = same_list same_region (drop k gs) (replicate (512 - k) no_region)

abbrev pub is_no_region : Region → Bool
is_no_region g = same_region g no_region

zero_each : (gs : List Region) (n : ℕ) → length gs ≡ n → list_all is_no_region gs ≡ same_list same_region gs (replicate n no_region)
unfolding same_list
zero_each [] zero e = refl
zero_each [] (suc n) e = absurd (omega arith)
zero_each (g ∷ gs) zero e = absurd (omega arith)
zero_each (g ∷ gs) (suc n) e = ap (λ (b : Bool). is_no_region g && b) (zero_each gs n (omega arith))

pub zero_all : (gs : List Region) (k : ℕ) → length gs ≡ 512 → list_all is_no_region (take (length gs - k) (drop k gs)) ≡ zero_from gs k
zero_all gs k size =
    let e : take (length gs - k) (drop k gs) ≡ drop k gs = ap (λ (n : ℕ). take n (drop k gs)) (sym (length-drop k gs)) ∙ take-length (drop k gs) in
    ap (list_all is_no_region) e ∙ zero_each (drop k gs) (512 - k) (length-drop k gs ∙ ap (λ (n : ℕ). n - k) size)

-- regions and their number against the runs rs, from place j on, of which there are n
unfoldable pub fits : List Region → ℕ → ℕ → ℕ → List Region → Bool
fits gs count n j rs = same_list same_region gs (pad n no_region rs) && eqb count (j + length rs)

pub fits_count : (gs : List Region) (count n j : ℕ) (rs : List Region) → count ≢ j + length rs → fits gs count n j rs ≡ false
unfolding fits
fits_count gs count n j rs d = fail_r (same_list same_region gs (pad n no_region rs)) (eqb count (j + length rs)) (ne_eqb count (j + length rs) d)

take_all : {A : Type 0} (n : ℕ) (x : A) → take n (replicate n x) ≡ replicate n x
take_all zero x = refl
take_all {A} (suc n) x = ap {B = List A} (λ l. x ∷ l) (take_all n x)

pub fits_none : (gs : List Region) (count n j : ℕ) → count ≡ j → fits gs count n j [] ≡ same_list same_region gs (replicate n no_region)
unfolding fits pad
fits_none gs count n j e =
    let y : count ≡ j + 0 = omega arith in
    ap₂ (λ (l : List Region) (b : Bool). same_list same_region gs l && b) (take_all n no_region) (eq-eqb count (j + 0) y) ∙ and_end (same_list same_region gs (replicate n no_region))

enough : {A : Type 0} (z : A) (n k l : ℕ) (xs : List A) → n ≤ k → n ≤ l → take n (xs ++ replicate k z) ≡ take n (xs ++ replicate l z)
enough z zero k l xs a b = refl
enough {A} z (suc n) k l (x ∷ xs) a b = ap {B = List A} (λ l. x ∷ l) (enough z n k l xs (omega arith) (omega arith))
enough {A} z (suc n) zero l [] a b = absurd (omega arith)
enough {A} z (suc n) (suc k) zero [] a b = absurd (omega arith)
enough {A} z (suc n) (suc k) (suc l) [] a b = ap {B = List A} (λ l. z ∷ l) (enough z n k l [] (omega arith) (omega arith))

regroup : (a b c : Bool) → ((a && b) && c) ≡ (a && (b && c))
regroup true b c = refl
regroup false b c = refl

fits_cons : (g : Region) (gs : List Region) (count n j : ℕ) (r : Region) (rs : List Region) → fits (g ∷ gs) count (suc n) j (r ∷ rs) ≡ (same_region g r && fits gs count n (suc j) rs)
unfolding fits same_list pad
fits_cons g gs count n j r rs =
    let y : j + suc (length rs) ≡ suc j + length rs = omega arith in
    ap₂ (λ (l : List Region) (m : ℕ). (same_region g r && same_list same_region gs l) && eqb count m) (enough no_region n (suc n) n rs (omega arith) (omega arith)) y ∙
    regroup (same_region g r) (same_list same_region gs (pad n no_region rs)) (eqb count (suc j + length rs))

pub fits_at : (gs : List Region) (count j : ℕ) (r : Region) (rs : List Region) → length gs ≡ 512 → j < 512
    → fits (drop j gs) count (512 - j) j (r ∷ rs) ≡ (same_region (region_at gs j) r && fits (drop (j + 1) gs) count (512 - (j + 1)) (j + 1) rs)
fits_at gs count j r rs z l =
    let h : j < length gs = omega arith in
    let y : 512 - j ≡ suc (512 - (j + 1)) = omega arith in
    ap₂ (λ (l : List Region) (n : ℕ). fits l count n j (r ∷ rs)) (drop-cons gs j no_region h) y ∙
    fits_cons (region_at gs j) (drop (suc j) gs) count (512 - (j + 1)) j r rs ∙
    ap (λ (x : ℕ). same_region (region_at gs j) r && fits (drop x gs) count (512 - (j + 1)) x rs) (sym (add-one j))

-- n rows of node p from index i on
abbrev pub stretch : ℕ → ℕ → ℕ → List Row
stretch p i zero = []
stretch p i (suc n) = (p, i) ∷ stretch p (suc i) n

pub length_stretch : (p i n : ℕ) (xs : List Row) → length (stretch p i n ++ xs) ≡ n + length xs
length_stretch p i zero xs = omega arith
length_stretch p i (suc n) xs = omega (arith, length_stretch p (suc i) n xs)

-- the first row is not one of node p
abbrev pub HeadNot : ℕ → List Row → Type 0
HeadNot p [] = Unit {0}
HeadNot p (x ∷ xs) = x.0 ≢ p

-- the first region begins with the first row
first_join : (s : ℕ) (r : Row) (gs : List Region) → (n : ℕ) × (rest : List Region) × (join s r gs ≡ region s r.0 r.1 (suc n) ∷ rest)
unfolding join
first_join s r [] = (0, [], refl)
first_join s r (g ∷ gs) = go (eqb g.node r.0)
  where
    go : (b : Bool) → (n : ℕ) × (rest : List Region) × (cond b (region s r.0 r.1 (suc g.length) ∷ gs) (region s r.0 r.1 1 ∷ g ∷ gs) ≡ region s r.0 r.1 (suc n) ∷ rest)
    go true = (g.length, gs, refl)
    go false = (0, g ∷ gs, refl)

join_alone : (s p i : ℕ) (xs : List Row) → HeadNot p xs → join s (p, i) (runs (suc s) xs) ≡ region s p i 1 ∷ runs (suc s) xs
unfolding runs join
join_alone s p i [] d = refl
join_alone s p i (x ∷ xs) d = let f = first_join (suc s) x (runs (suc (suc s)) xs) in rw (f.2, ne_eqb x.0 p d)

-- rows of one node, and then none of it, are one region
pub runs_stretch : (s p i n : ℕ) (xs : List Row) → HeadNot p xs → runs s (stretch p i (suc n) ++ xs) ≡ region s p i (suc n) ∷ runs (s + suc n) xs
unfolding runs join
runs_stretch s p i zero xs d = let q : s + 1 ≡ suc s = omega arith in rw q (join_alone s p i xs d)
runs_stretch s p i (suc n) xs d =
    let q : s + suc (suc n) ≡ suc s + suc n = omega arith in
    rw q (ap (join s (p, i)) (runs_stretch (suc s) p (suc i) n xs d) ∙ rw (eq-eqb p p refl))

pub runs_some : (s : ℕ) (xs : List Row) → 0 < length xs → 0 < length (runs s xs)
unfolding runs
runs_some s [] l = absurd (omega arith)
runs_some s (x ∷ xs) l = let f = first_join s x (runs (suc s) xs) in rw f.2 (omega arith)
