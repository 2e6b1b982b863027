-- The neighbours of one node joined, and one region more: it joins the last one, or comes after it.
use Prim.Native.Nat.{ℕ, zero, suc, ◌+◌, ◌≤◌, ◌<◌}
use native.Mathlib.Decide.{ℕ_discrete}
use native.Mathlib.Omega.{arith}
use native.Mathlib.Numerals.{add-one}
use mathlib.Core.Path.{◌≡◌, refl, ap, sym, ◌∙◌}
use mathlib.Core.Logic.{◌≢◌}
use mathlib.Core.Bool.{Bool, true, false, cond}
use mathlib.Core.List.{List, [], ◌∷◌, ◌++◌}
use lib.Dec.{eqb}
use lib.ListN.{length, take, set}
use lib.Seq.{take-suc}
use Rattle.model.specs.declared.Region.{Region}
use Rattle.model.specs.Regions.{no_region}
use Rattle.runs.specs.Regions.{total, at}
use Rattle.runs.specs.Changes.{merge, attach, joined}
use Rattle.runs.proofs.Runs.{attach_same, attach_apart, attach_merge, apart_attach}

-- a region after others, merged with the last of them where that has the same node
abbrev pub attach_last : List Region → Region → List Region
attach_last [] g = g ∷ []
attach_last (y ∷ []) g = attach y (g ∷ [])
attach_last (y ∷ z ∷ ys) g = y ∷ attach_last (z ∷ ys) g

attach_swap : (x : Region) (ys : List Region) (g : Region) → attach x (attach_last ys g) ≡ attach_last (attach x ys) g
attach_swap x [] g = refl
attach_swap x (y ∷ []) g = go (ℕ_discrete y.node x.node)
  where
    go : Dec (y.node ≡ x.node) → attach x (attach y (g ∷ [])) ≡ attach_last (attach x (y ∷ [])) g
    go (yes e) = rw (attach_same x y [] e) (attach_merge x y (g ∷ []) e)
    go (no n) = rw (attach_apart x (y ∷ []) (λ e. n (sym e))) (attach_apart x (attach y (g ∷ [])) (apart_attach x.node y (g ∷ []) (λ e. n (sym e))))
attach_swap x (y ∷ z ∷ ys) g = go (eqb y.node x.node)
  where
    go : (b : Bool) → cond b (merge x y ∷ attach_last (z ∷ ys) g) (x ∷ y ∷ attach_last (z ∷ ys) g) ≡ attach_last (cond b (merge x y ∷ z ∷ ys) (x ∷ y ∷ z ∷ ys)) g
    go true = refl
    go false = refl

joined_snoc : (xs : List Region) (g : Region) → joined (xs ++ g ∷ []) ≡ attach_last (joined xs) g
unfolding joined
joined_snoc [] g = refl
joined_snoc (x ∷ xs) g = ap (attach x) (joined_snoc xs g) ∙ attach_swap x (joined xs) g

pub joined_more : (gs : List Region) (i : ℕ) → i < length gs → joined (take (i + 1) gs) ≡ attach_last (joined (take i gs)) (at gs i)
joined_more gs i h = rw (add-one, take-suc gs i no_region h) (joined_snoc (take i gs) (at gs i))

-- what it is, by the node of the last one
pub last_same : (ys : List Region) (k : ℕ) (g : Region) → suc k ≡ length ys → (at ys k).node ≡ g.node → attach_last ys g ≡ set ys k (merge (at ys k) g)
last_same [] k g h e = absurd (omega arith)
last_same (y ∷ []) zero g h e = attach_same y g [] (sym e)
last_same (y ∷ []) (suc k) g h e = absurd (omega arith)
last_same (y ∷ z ∷ ys) zero g h e = absurd (omega arith)
last_same (y ∷ z ∷ ys) (suc k) g h e = ap (λ (l : List Region). y ∷ l) (last_same (z ∷ ys) k g (omega arith) e)

pub last_apart : (ys : List Region) (g : Region) → ((k : ℕ) → suc k ≡ length ys → (at ys k).node ≢ g.node) → attach_last ys g ≡ ys ++ g ∷ []
last_apart [] g d = refl
last_apart (y ∷ []) g d = attach_apart y (g ∷ []) (d 0 (omega arith))
last_apart (y ∷ z ∷ ys) g d = ap (λ (l : List Region). y ∷ l) (last_apart (z ∷ ys) g (λ k h. d (suc k) (omega arith)))

-- joined, they are no more regions, and as many rows
length_attach : (g : Region) (hs : List Region) → length (attach g hs) ≤ suc (length hs)
length_attach g [] = omega arith
length_attach g (h ∷ hs) = go (eqb h.node g.node)
  where
    go : (b : Bool) → length (cond b (merge g h ∷ hs) (g ∷ h ∷ hs)) ≤ suc (suc (length hs))
    go true = omega arith
    go false = omega arith

total_attach : (g : Region) (hs : List Region) → total (attach g hs) ≡ g.length + total hs
total_attach g [] = refl
total_attach g (h ∷ hs) = go (eqb h.node g.node)
  where
    go : (b : Bool) → total (cond b (merge g h ∷ hs) (g ∷ h ∷ hs)) ≡ g.length + (h.length + total hs)
    go true = omega arith
    go false = omega arith

pub length_joined : (gs : List Region) → length (joined gs) ≤ length gs
unfolding joined
length_joined [] = omega arith
length_joined (g ∷ gs) = omega (arith, length_attach g (joined gs), length_joined gs)

pub total_joined : (gs : List Region) → total (joined gs) ≡ total gs
unfolding joined
total_joined [] = refl
total_joined (g ∷ gs) = total_attach g (joined gs) ∙ ap (λ (n : ℕ). g.length + n) (total_joined gs)

-- the rows of one region, and of those before it and of it
pub one_total : (gs : List Region) (i : ℕ) → i < length gs → (at gs i).length ≤ total gs
one_total [] i h = absurd (omega arith)
one_total (g ∷ gs) zero h = omega arith
one_total (g ∷ gs) (suc i) h = omega (arith, one_total gs i (omega arith))

pub some_total : (gs : List Region) (i : ℕ) → i < length gs → total (take i gs) + (at gs i).length ≤ total gs
some_total [] i h = absurd (omega arith)
some_total (g ∷ gs) zero h = omega arith
some_total (g ∷ gs) (suc i) h = omega (arith, some_total gs i (omega arith))
