-- A number where 0 says "none", read as an option.
use Prim.Native.Nat.{ℕ, zero, suc, ◌≤◌}
use native.Mathlib.Omega.{arith}
use mathlib.Core.Path.{◌≡◌, refl}
use Rattle.std.proofs.Common.{Some, None}
use Rattle.model.specs.Places.{unless_zero}

-- what is answered is the number, which isn't 0
pub some_is : (k e : ℕ) → Some e ≡ unless_zero k → (e ≡ k) × (e ≡ 0 → ⊥)
some_is zero e h = cc
some_is (suc k) e h = let d : e ≡ suc k = cc in (d, λ z. omega arith)

pub none_is : (k : ℕ) → None ≡ unless_zero k → k ≡ 0
none_is zero h = refl
none_is (suc k) h = cc

pub some_number : (k e : ℕ) → k ≡ e → 1 ≤ e → Some e ≡ unless_zero k
some_number zero e d h = absurd (omega arith)
some_number (suc k) e d h = rw (← d)

pub none_number : (k : ℕ) → k ≡ 0 → None ≡ unless_zero k
none_number k z = rw z

pub some_self : (k e : ℕ) → Some e ≡ unless_zero k → Some e ≡ unless_zero e
some_self zero e h = cc
some_self (suc k) e h = let d : e ≡ suc k = cc in rw d
