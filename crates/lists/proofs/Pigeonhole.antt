-- Different numbers below n are at most n, and at most as many as pass a test that each of them passes.
use mathlib.Core.Path.{◌≡◌, sym, ◌∙◌}
use mathlib.Core.Logic.{◌⊎◌, inl, inr, ◌≢◌}
use mathlib.Core.Bool.{Bool, true}
use Prim.Native.Nat.{ℕ, zero, suc, ◌≤◌, ◌<◌}
use native.Mathlib.Omega.{arith}
use native.Mathlib.Decide.{ℕ_discrete}
use Rattle.lists.specs.Counts.{one, count}
use Rattle.lists.proofs.Numbers.{three, sum_suc, sum_up_lem}

abbrev pick : {a n : ℕ} → Dec (a ≡ n) → ℕ → ℕ → ℕ
pick (yes e) x y = x
pick (no e) x y = y

pub pigeonhole : (n m : ℕ) (f : ℕ → ℕ) → ((i : ℕ) → i < m → f i < n) → ((i j : ℕ) → i < j → j < m → f i ≢ f j) → m ≤ n
pigeonhole zero zero f b d = omega arith
pigeonhole zero (suc m) f b d = omega (arith, b 0 (omega arith))
pigeonhole (suc n) zero f b d = omega arith
pigeonhole (suc n) (suc m) f b d =
    omega (arith, pigeonhole n m (λ i. pick (ℕ_discrete (f i) n) (f m) (f i)) (λ i h. low i h (ℕ_discrete (f i) n)) (λ i j h l. apart i j h l (ℕ_discrete (f i) n) (ℕ_discrete (f j) n)))
  where
    low : (i : ℕ) → i < m → (c : Dec (f i ≡ n)) → pick c (f m) (f i) < n
    low i h (yes e) = omega (arith, b m (omega arith), d i m h (omega arith))
    low i h (no k) = omega (arith, b i (omega arith))

    apart : (i j : ℕ) → i < j → j < m → (c : Dec (f i ≡ n)) (e : Dec (f j ≡ n)) → pick c (f m) (f i) ≢ pick e (f m) (f j)
    apart i j h l (yes c) (yes e) z = d i j h (omega arith) (c ∙ sym e)
    apart i j h l (yes c) (no e) z = d j m l (omega arith) (sym z)
    apart i j h l (no c) (yes e) z = d i m (omega arith) (omega arith) z
    apart i j h l (no c) (no e) z = d i j h (omega arith) z

-- each has a rank: how many numbers before it pass
pub pigeonhole_count :
    (q : ℕ → Bool) (n m : ℕ) (f : ℕ → ℕ)
    → ((i : ℕ) → i < m → f i < n)
    → ((i : ℕ) → i < m → q (f i) ≡ true)
    → ((i j : ℕ) → i < j → j < m → f i ≢ f j)
    → m ≤ count q n
pigeonhole_count q n m f b t d = pigeonhole (count q n) m (λ i. count q (f i)) (λ i h. rank (f i) n (t i h) (b i h)) apart
  where
    rank : (a c : ℕ) → q a ≡ true → a < c → count q a < count q c
    rank a c e h = let s = sum_suc (λ k. one (q k)) a in omega (arith, sum_up_lem (λ k. one (q k)) (suc a) c h, rw e at s)

    apart : (i j : ℕ) → i < j → j < m → count q (f i) ≢ count q (f j)
    apart i j h l e = go (three (f i) (f j))
      where
        go : (f i < f j) ⊎ ((f i ≡ f j) ⊎ (f j < f i)) → ⊥
        go (inl k) = omega (arith, rank (f i) (f j) (t i (omega arith)) k)
        go (inr (inl k)) = d i j h l k
        go (inr (inr k)) = omega (arith, rank (f j) (f i) (t j l) k)
