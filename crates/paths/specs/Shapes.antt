-- Shapes: a tree as two functions of a path, what it shows, and what opening, closing and growing make of it.
use Rattle.std.specs.Prelude.{◌≡◌, ◌≢◌, Bool, true, false, cond, not, ◌&&◌, ◌||◌, [], ℕ, ◌+◌, ◌<◌}
use Rattle.paths.specs.Order.{Path, ◌·◌, Under, dec_eq, dec_under}

pub record Shape : Type 0 where
  pub count : Path → ℕ
  pub is_open : Path → Bool

abbrev pub Open : Shape → Path → Type 0
Open t p = t.is_open p ≡ true

-- the root is open, and an open child is one of its open parent's
pub record Rooted (t : Shape) : Type 0 where
  pub root : Open t []
  pub step : (p : Path) (i : ℕ) → Open t (p · i) → Open t p × (i < t.count p)

-- x is a child of an open path
pub record Showing (t : Shape) (x : Path) : Type 0 where
  pub up : Path
  pub ix : ℕ
  pub is : x ≡ up · ix
  pub open_up : Open t up
  pub inside : ix < t.count up

-- t' is t with the closed path q opened: it has c children
pub record Opened (t t' : Shape) (q : Path) (c : ℕ) : Type 0 where
  pub was : t.is_open q ≡ false
  pub now : Open t' q
  pub many : t'.count q ≡ c
  pub open_else : (x : Path) → x ≢ q → t'.is_open x ≡ t.is_open x
  pub count_else : (x : Path) → x ≢ q → t'.count x ≡ t.count x

-- t' is t with q closed, and all that extends it
pub record Closed (t t' : Shape) (q : Path) : Type 0 where
  pub shut : (x : Path) → Under q x → t'.is_open x ≡ false
  pub open_else : (x : Path) → (Under q x → ⊥) → t'.is_open x ≡ t.is_open x
  pub count_else : (x : Path) → (Under q x → ⊥) → t'.count x ≡ t.count x

-- t' is t with c more children of p
pub record Grown (t t' : Shape) (p : Path) (c : ℕ) : Type 0 where
  pub many : t'.count p ≡ t.count p + c
  pub open_same : (x : Path) → t'.is_open x ≡ t.is_open x
  pub count_else : (x : Path) → x ≢ p → t'.count x ≡ t.count x

-- the same as functions

abbrev pub holds : {P : Type 0} → Dec P → Bool
holds (yes h) = true
holds (no n) = false

abbrev pub open_at : Path → ℕ → Shape → Shape
open_at q c t = record { count = λ x. cond (holds (dec_eq x q)) c (t.count x); is_open = λ x. t.is_open x || holds (dec_eq x q) }

abbrev pub close_at : Path → Shape → Shape
close_at q t = record { count = t.count; is_open = λ x. t.is_open x && not (holds (dec_under q x)) }

abbrev pub grow_at : Path → ℕ → Shape → Shape
grow_at p c t = record { count = λ x. cond (holds (dec_eq x p)) (t.count x + c) (t.count x); is_open = t.is_open }
