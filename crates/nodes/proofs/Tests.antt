-- Tests one after another, left at the first that fails: which of them passed, and what follows of them all.
use Prim.Native.Nat.{ℕ}
use native.Mathlib.Omega.{arith}
use mathlib.Core.Path.{◌≡◌, refl, sym, ◌∙◌}
use borrow.Author.Tests.{eqb-true, ltb-true, eq-eqb, ne_eqb, lt-ltb, le-ltb, le-leb, lt-leb, not-true, not-false}
use mathlib.Core.Bool.{and-eq-true_iff, Bool, true, false, cond, not, ◌&&◌, ◌||◌}
use lib.Dec.{ltb}

pub keep : (t r x : Bool) → t ≡ true → x ≡ r → x ≡ (t && r)
keep t r x e f = rw e f

pub stop : (t r : Bool) → t ≡ false → false ≡ (t && r)
stop t r e = rw e

pub or_keep : (t r x : Bool) → t ≡ true → x ≡ r → x ≡ (not t || r)
or_keep t r x e f = rw e f

pub or_done : (t r : Bool) → t ≡ false → true ≡ (not t || r)
or_done t r e = rw e

pub if_so : {A : Type 0} (b : Bool) (x y : A) → b ≡ true → x ≡ cond b x y
if_so b x y e = rw e

pub if_not : {A : Type 0} (b : Bool) (x y : A) → b ≡ false → y ≡ cond b x y
if_not b x y e = rw e

pub and_both : (a b : Bool) → a ≡ true → b ≡ true → (a && b) ≡ true
and_both a b e f = rw (e, f)

pub fail_l : (a b : Bool) → a ≡ false → (a && b) ≡ false
fail_l a b e = rw e

pub fail_r : (a b : Bool) → b ≡ false → (a && b) ≡ false
fail_r true b e = e
fail_r false b e = refl

pub zero_ltb : (a : ℕ) → a ≡ 0 → ltb 0 a ≡ false
zero_ltb a e = le-ltb 0 a (omega arith)

pub more_ltb : (a : ℕ) → (a ≡ 0 → ⊥) → ltb 0 a ≡ true
more_ltb a e = lt-ltb 0 a (omega arith)

-- what a call answered
pub answered : (r u t : Bool) → r ≡ u → r ≡ t → u ≡ t
answered r u t e f = sym e ∙ f

-- a place where a chain of tests is left: which passed, and which did not
pub ruleset tests = (keep, stop, or_keep, or_done, eq-eqb, ne_eqb, lt-ltb, le-ltb, le-leb, lt-leb, zero_ltb, more_ltb, answered, not-true, not-false)

pub ruleset choices = (answered, if_so, if_not, and_both, fail_l, fail_r, eq-eqb, ne_eqb, lt-ltb, le-ltb, le-leb, lt-leb, not-true, not-false)

pub sides : (t r : Bool) → (t && r) ≡ false → false ≡ (t && r)
sides t r e = sym e

pub ruleset compared = (sides, fail_l, fail_r, keep, and_both, eq-eqb, ne_eqb)

pub both_ways : (a b : Bool) → (a ≡ true → b ≡ true) → (b ≡ true → a ≡ true) → a ≡ b
both_ways true b f g = sym (f refl)
both_ways false true f g = g refl
both_ways false false f g = refl

pub never : {B : Type 0} → true ≡ false → B
never e = let z : ◌≡◌ {A = ℕ} 0 1 = cc in absurd (omega arith)

pub or_false_l : (a b : Bool) → (a || b) ≡ false → a ≡ false
or_false_l true b e = never e
or_false_l false b e = refl

pub or_false_r : (a b : Bool) → (a || b) ≡ false → b ≡ false
or_false_r true b e = never e
or_false_r false b e = e

pub or_right : (x y : Bool) → y ≡ true → (x || y) ≡ true
or_right true y e = refl
or_right false y e = e

pub and_end : (b : Bool) → (b && true) ≡ b
and_end true = refl
and_end false = refl

-- takes a test that passed apart
pub and_l : (a b : Bool) → (a && b) ≡ true → a ≡ true
and_l a b e = ((and-eq-true_iff a b).0 e).0

pub and_r : (a b : Bool) → (a && b) ≡ true → b ≡ true
and_r a b e = ((and-eq-true_iff a b).0 e).1

pub ruleset parted = (and_l, and_r, ltb-true, eqb-true)
