-- Tests and what they say.
use mathlib.Core.Path.{◌≡◌, refl, sym, ◌∙◌}
use mathlib.Core.Logic.{◌⊎◌, inl, inr}
use mathlib.Core.Bool.{Bool, true, false, not, ◌&&◌, ◌||◌, true≢false, false≢true}

pub bool : (b : Bool) → (b ≡ true) ⊎ (b ≡ false)
bool true = inl refl
bool false = inr refl

pub both : (a b : Bool) → a && b ≡ true → (a ≡ true) × (b ≡ true)
both true b e = (refl, e)
both false b e = absurd (false≢true e)

-- six at once; fewer, with `true` before them
pub all_six : (a b c d e f : Bool) → a && b && c && d && e && f ≡ true → (a ≡ true) × (b ≡ true) × (c ≡ true) × (d ≡ true) × (e ≡ true) × (f ≡ true)
all_six a b c d e f h =
    let x₅ = both (a && b && c && d && e) f h in
    let x₄ = both (a && b && c && d) e x₅.0 in
    let x₃ = both (a && b && c) d x₄.0 in
    let x₂ = both (a && b) c x₃.0 in
    let x₁ = both a b x₂.0 in
    (x₁.0, x₁.1, x₂.1, x₃.1, x₄.1, x₅.1)

-- the same, a part at a time, as rules for `search`
pub and_left : (a b : Bool) → a && b ≡ true → a ≡ true
and_left a b e = (both a b e).0

pub and_right : (a b : Bool) → a && b ≡ true → b ≡ true
and_right a b e = (both a b e).1

pub and_true : (a b : Bool) → a ≡ true → b ≡ true → a && b ≡ true
and_true a b d e = rw (d, e)

pub and : {a b : Bool} → a ≡ true → b ≡ true → a && b ≡ true
and d e = rw (d, e)

pub neither : (a b : Bool) → a || b ≡ false → (a ≡ false) × (b ≡ false)
neither true b e = absurd (true≢false e)
neither false b e = (refl, e)

pub differ : {a : Bool} → a ≡ true → a ≡ false → ⊥
differ d e = true≢false (sym d ∙ e)

pub refuted : {a : Bool} → (a ≡ true → ⊥) → a ≡ false
refuted {a = true} n = absurd (n refl)
refuted {a = false} n = refl

-- one test implies another, as a test
pub implied : (a b : Bool) → not a || b ≡ true → a ≡ true → b ≡ true
implied true b e o = e
implied false b e o = absurd (false≢true o)

pub imply : (a b : Bool) → (a ≡ true → b ≡ true) → not a || b ≡ true
imply true b f = f refl
imply false b f = refl
