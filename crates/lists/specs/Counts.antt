-- Sums over the numbers below n, and how many pass a test.
use Rattle.std.specs.Prelude.{Bool, true, false, ℕ, zero, suc, ◌+◌, length}
use mathlib.Core.List.{List, filter}

unfoldable pub sum : (ℕ → ℕ) → ℕ → ℕ
sum f zero = 0
sum f (suc n) = sum f n + f n

abbrev pub one : Bool → ℕ
one true = 1
one false = 0

-- how many of the numbers below n pass a test
abbrev pub count : (ℕ → Bool) → ℕ → ℕ
count q n = sum (λ k. one (q k)) n

-- how many members of a list have a property
abbrev pub number : {A : Type 0} {P : A → Type 0} → ((x : A) → Dec (P x)) → List A → ℕ
number d l = length (filter d l)
