-- What holds of each element of a list, and that no element stands twice; d is what is read past the end.
use Prim.Native.Nat.{ℕ, zero, suc, ◌<◌}
use native.Mathlib.Omega.{arith}
use mathlib.Core.Logic.{◌≢◌}
use mathlib.Core.List.{List, [], ◌∷◌, ◌++◌}
use lib.ListN.{length, get_or}

module _ {A : Type 0} (d : A) where
  abbrev pub Each : (A → Type 0) → List A → Type 0
  Each P l = (i : ℕ) → i < length l → P (get_or l i d)

  abbrev pub Distinct : List A → Type 0
  Distinct l = (i j : ℕ) → i < j → j < length l → get_or l i d ≢ get_or l j d

  pub each_one : (P : A → Type 0) (x : A) → P x → Each P (x ∷ [])
  each_one P x p zero h = p
  each_one P x p (suc i) h = absurd (omega arith)

  pub each_append : (P : A → Type 0) (a b : List A) → Each P a → Each P b → Each P (a ++ b)
  each_append P [] b f g i h = g i h
  each_append P (x ∷ a) b f g zero h = f 0 (omega arith)
  each_append P (x ∷ a) b f g (suc i) h = each_append P a b (λ i l. f (suc i) (omega arith)) g i (omega arith)

  pub distinct_one : (x : A) → Distinct (x ∷ [])
  distinct_one x i j h l = absurd (omega arith)

  pub distinct_append : (P Q : A → Type 0) (a b : List A) → Each P a → Each Q b → ((x y : A) → P x → Q y → x ≢ y) → Distinct a → Distinct b → Distinct (a ++ b)
  distinct_append P Q [] b p q n f g i j h l = g i j h l
  distinct_append P Q (x ∷ a) b p q n f g zero zero h l = absurd (omega arith)
  distinct_append P Q (x ∷ a) b p q n f g zero (suc j) h l =
      each_append (λ y. x ≢ y) a b (λ i m. f 0 (suc i) (omega arith) (omega arith)) (λ i m. n x (get_or b i d) (p 0 (omega arith)) (q i m)) j (omega arith)
  distinct_append P Q (x ∷ a) b p q n f g (suc i) zero h l = absurd (omega arith)
  distinct_append P Q (x ∷ a) b p q n f g (suc i) (suc j) h l =
      distinct_append P Q a b (λ i m. p (suc i) (omega arith)) q n (λ i j m o. f (suc i) (suc j) (omega arith) (omega arith)) g i j (omega arith) (omega arith)
