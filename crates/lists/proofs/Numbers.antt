-- Two numbers, and sums over the numbers below n.
use mathlib.Core.Path.{◌≡◌, refl, ap}
use mathlib.Core.Logic.{◌⊎◌, inl, inr}
use mathlib.Core.Bool.{Bool, true, false}
use Prim.Native.Nat.{ℕ, zero, suc, ◌+◌, ◌≤◌, ◌<◌}
use native.Mathlib.Omega.{arith}
use native.Mathlib.Nat.{eq-or-lt_of_le}
use native.Mathlib.Decide.{dec_lt}
use Rattle.lists.specs.Counts.{sum, one, count}

-- two numbers, three ways
pub three : (m n : ℕ) → (m < n) ⊎ ((m ≡ n) ⊎ (n < m))
three m n = go (dec_lt m n) (dec_lt n m)
  where
    go : Dec (m < n) → Dec (n < m) → (m < n) ⊎ ((m ≡ n) ⊎ (n < m))
    go (yes h) d = inl h
    go (no h) (yes k) = inr (inr k)
    go (no h) (no k) = inr (inl (omega arith))

pub sum_zero : (f : ℕ → ℕ) → sum f 0 ≡ 0
unfolding sum
sum_zero f = refl

pub sum_suc : (f : ℕ → ℕ) (n : ℕ) → sum f (suc n) ≡ sum f n + f n
unfolding sum
sum_suc f n = refl

pub sum_first : (f : ℕ → ℕ) (n : ℕ) → sum f (suc n) ≡ f 0 + sum (λ k. f (suc k)) n
unfolding sum
sum_first f zero = omega arith
sum_first f (suc n) = omega (arith, sum_first f n)

pub sum_same : (f g : ℕ → ℕ) (n : ℕ) → ((i : ℕ) → i < n → f i ≡ g i) → sum f n ≡ sum g n
unfolding sum
sum_same f g zero h = refl
sum_same f g (suc n) h = omega (arith, sum_same f g n (λ i k. h i (omega arith)), h n (omega arith))

pub sum_le : (f g : ℕ → ℕ) (n : ℕ) → ((i : ℕ) → i < n → f i ≤ g i) → sum f n ≤ sum g n
unfolding sum
sum_le f g zero h = omega arith
sum_le f g (suc n) h = omega (arith, sum_le f g n (λ i k. h i (omega arith)), h n (omega arith))

-- strictly, where one is less
pub sum_lt : (f g : ℕ → ℕ) (n k : ℕ) → ((i : ℕ) → i < n → f i ≤ g i) → k < n → f k < g k → sum f n < sum g n
unfolding sum
sum_lt f g zero k h b l = absurd (omega arith)
sum_lt f g (suc n) k h b l = go (eq-or-lt_of_le b) (λ c. sum_lt f g n k (λ i j. h i (omega arith)) c l)
  where
    go : (suc k ≡ suc n) ⊎ (suc k < suc n) → (k < n → sum f n < sum g n) → sum f n + f n < sum g n + g n
    go (inl e) ih = let d : k ≡ n = omega arith in omega (arith, sum_le f g n (λ i j. h i (omega arith)), rw d at l)
    go (inr c) ih = omega (arith, ih (omega arith), h n (omega arith))

pub sum_up_lem : (f : ℕ → ℕ) (m n : ℕ) → m ≤ n → sum f m ≤ sum f n
unfolding sum
sum_up_lem f zero n h = omega (arith, sum_zero f)
sum_up_lem f (suc m) zero h = absurd (omega arith)
sum_up_lem f (suc m) (suc n) h = go (eq-or-lt_of_le h) (λ c. sum_up_lem f (suc m) n c)
  where
    go : (suc m ≡ suc n) ⊎ (suc m < suc n) → (suc m ≤ n → sum f (suc m) ≤ sum f n) → sum f m + f m ≤ sum f n + f n
    go (inl e) ih = let d : m ≡ n = omega arith in rw d (omega arith)
    go (inr c) ih = omega (arith, ih (omega arith), sum_suc f m)

one_le : (b : Bool) → one b ≤ 1
one_le true = omega arith
one_le false = omega arith

pub count_le : (q : ℕ → Bool) (n : ℕ) → count q n ≤ n
unfolding sum
count_le q zero = omega arith
count_le q (suc n) = omega (arith, count_le q n, one_le (q n))

-- a test that fewer numbers pass
pub count_less : (q r : ℕ → Bool) (n k : ℕ) → ((i : ℕ) → r i ≡ true → q i ≡ true) → k < n → q k ≡ true → r k ≡ false → count r n < count q n
count_less q r n k h b t f = sum_lt (λ i. one (r i)) (λ i. one (q i)) n k (λ i l. le (q i) (r i) (h i)) b (rw (t, f) (omega arith))
  where
    le : (a b : Bool) → (b ≡ true → a ≡ true) → one b ≤ one a
    le a true h = rw (h refl) (omega arith)
    le a false h = omega arith

pub count_all : (q : ℕ → Bool) (n : ℕ) → ((k : ℕ) → k < n → q k ≡ true) → count q n ≡ n
unfolding sum
count_all q zero h = refl
count_all q (suc n) h = let e = ap one (h n (omega arith)) in omega (arith, count_all q n (λ k l. h k (omega arith)), e)
