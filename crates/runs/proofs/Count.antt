-- How many regions there are: one for the first row, and one for each row with another parent than the row before it.
use Prim.Native.Nat.{ℕ, suc, ◌+◌, ◌≤◌}
use native.Mathlib.Omega.{arith}
use mathlib.Core.Path.{◌≡◌, refl, ap, sym, subst, ◌∙◌}
use mathlib.Core.Bool.{Bool, true, false, cond}
use mathlib.Core.List.{List, [], ◌∷◌, ◌++◌}
use lib.Dec.{eqb}
use lib.ListN.{length}
use Rattle.model.specs.declared.Region.{Region}
use Rattle.model.specs.Rows.{Row}
use Rattle.model.specs.Regions.{runs}
use Rattle.runs.specs.Changes.{merge, attach}
use Rattle.runs.proofs.Runs.{one, runs_cons}

-- the rows of xs with another parent than the row before, where that of the row before xs is p
abbrev pub changes : ℕ → List Row → ℕ
changes p [] = 0
changes p (x ∷ xs) = cond (eqb x.0 p) (changes x.0 xs) (suc (changes x.0 xs))

abbrev pub pieces : List Row → ℕ
pieces [] = 0
pieces (x ∷ xs) = suc (changes x.0 xs)

-- the first region has the first row's parent, so a row before it makes a region only where the parent changes
length_attach : (s : ℕ) (x y : Row) (gs : List Region) → let hs = attach (one (suc s) y) gs in length (attach (one s x) hs) ≡ cond (eqb y.0 x.0) (length hs) (suc (length hs))
length_attach s x y gs = go gs
  where
    first : (h : Region) (hs : List Region) → h.node ≡ y.0 → length (attach (one s x) (h ∷ hs)) ≡ cond (eqb y.0 x.0) (length (h ∷ hs)) (suc (length (h ∷ hs)))
    first h hs e = subst (λ (n : ℕ). length (cond (eqb h.node x.0) (merge (one s x) h ∷ hs) (one s x ∷ h ∷ hs)) ≡ cond (eqb n x.0) (length (h ∷ hs)) (suc (length (h ∷ hs)))) e (both (eqb h.node x.0))
      where
        both : (b : Bool) → length (cond b (merge (one s x) h ∷ hs) (one s x ∷ h ∷ hs)) ≡ cond b (length (h ∷ hs)) (suc (length (h ∷ hs)))
        both true = refl
        both false = refl

    go : (gs : List Region) → let hs = attach (one (suc s) y) gs in length (attach (one s x) hs) ≡ cond (eqb y.0 x.0) (length hs) (suc (length hs))
    go [] = first (one (suc s) y) [] refl
    go (g ∷ gs) = two (eqb g.node y.0)
      where
        two : (b : Bool) → let hs = cond b (merge (one (suc s) y) g ∷ gs) (one (suc s) y ∷ g ∷ gs) in length (attach (one s x) hs) ≡ cond (eqb y.0 x.0) (length hs) (suc (length hs))
        two true = first (merge (one (suc s) y) g) gs refl
        two false = first (one (suc s) y) (g ∷ gs) refl

pub length_runs : (s : ℕ) (xs : List Row) → length (runs s xs) ≡ pieces xs
length_runs s [] = unfold runs in refl
length_runs s (x ∷ []) = rw runs_cons (unfold runs in refl)
length_runs s (x ∷ y ∷ ys) =
    ap length (runs_cons s x (y ∷ ys) ∙ ap (attach (one s x)) (runs_cons (suc s) y ys))
    ∙ length_attach s x y (runs (suc (suc s)) ys)
    ∙ ap (λ (n : ℕ). cond (eqb y.0 x.0) n (suc n)) (ap length (sym (runs_cons (suc s) y ys)) ∙ length_runs (suc s) (y ∷ ys))
    ∙ both (eqb y.0 x.0)
  where
    both : (b : Bool) → cond b (pieces (y ∷ ys)) (suc (pieces (y ∷ ys))) ≡ suc (cond b (changes y.0 ys) (suc (changes y.0 ys)))
    both true = refl
    both false = refl

-- rows that are not the first, and rows put after others
pub changes_le : (p : ℕ) (xs : List Row) → changes p xs ≤ pieces xs
changes_le p [] = omega arith
changes_le p (x ∷ xs) = go (eqb x.0 p)
  where
    go : (b : Bool) → cond b (changes x.0 xs) (suc (changes x.0 xs)) ≤ suc (changes x.0 xs)
    go true = omega arith
    go false = omega arith

pub pieces_le : (p : ℕ) (xs : List Row) → pieces xs ≤ suc (changes p xs)
pieces_le p [] = omega arith
pieces_le p (x ∷ xs) = go (eqb x.0 p)
  where
    go : (b : Bool) → suc (changes x.0 xs) ≤ suc (cond b (changes x.0 xs) (suc (changes x.0 xs)))
    go true = omega arith
    go false = omega arith

pub changes_append : (p : ℕ) (xs ys : List Row) → changes p (xs ++ ys) ≤ changes p xs + pieces ys
changes_append p [] ys = omega (arith, changes_le p ys)
changes_append p (x ∷ xs) ys = go (eqb x.0 p) (changes_append x.0 xs ys)
  where
    go : (b : Bool) → changes x.0 (xs ++ ys) ≤ changes x.0 xs + pieces ys → cond b (changes x.0 (xs ++ ys)) (suc (changes x.0 (xs ++ ys))) ≤ cond b (changes x.0 xs) (suc (changes x.0 xs)) + pieces ys
    go true h = h
    go false h = omega arith
