-- Tests one after another, left at the first that fails: rules for `search`.
use mathlib.Core.Path.{◌≡◌, sym, ◌∙◌}
use mathlib.Core.Bool.{Bool, true, false, cond, ◌&&◌}
use borrow.Author.Tests.{eq-eqb, ne_eqb, lt-ltb, le-ltb, le-leb, lt-leb, not-true, not-false}

pub keep : (t r x : Bool) → t ≡ true → x ≡ r → x ≡ (t && r)
keep t r x e f = rw e f

pub stop : (t r : Bool) → t ≡ false → false ≡ (t && r)
stop t r e = rw e

pub if_so : {A : Type 0} (b : Bool) (x y : A) → b ≡ true → x ≡ cond b x y
if_so b x y e = rw e

pub if_not : {A : Type 0} (b : Bool) (x y : A) → b ≡ false → y ≡ cond b x y
if_not b x y e = rw e

-- what a call answered
pub answered : (r u t : Bool) → r ≡ u → r ≡ t → u ≡ t
answered r u t e f = sym e ∙ f

pub ruleset tests = (keep, stop, if_so, if_not, answered, eq-eqb, ne_eqb, lt-ltb, le-ltb, le-leb, lt-leb, not-true, not-false)
