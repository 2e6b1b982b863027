-- Listings: the listing of a shape is the strictly sorted list of the paths that show. Totals and row numbers are counts of its members.
use Rattle.std.specs.Prelude.{◌≡◌, ℕ, zero, suc, ◌<◌, length, get_or}
use mathlib.Core.List.{List, [], ◌∷◌, Memᴰ as In}
use Rattle.lists.specs.Counts.{number}
use Rattle.paths.specs.Order.{Path, ◌·◌, Lt, dec_lt_lem, dec_ext}
use Rattle.paths.specs.Shapes.{Shape, Showing}

pub data Sorted : List Path → Type 0 where
  nil : Sorted []
  cons : {x : Path} {xs : List Path} → ((y : Path) → In y xs → Lt x y) → Sorted xs → Sorted (x ∷ xs)

-- l is the listing of t
pub record Lists (t : Shape) (l : List Path) : Type 0 where
  pub sorted : Sorted l
  pub of : (x : Path) → In x l → Showing t x
  pub to : (x : Path) → Showing t x → In x l

-- the r-th row of l is q
abbrev pub At : List Path → ℕ → Path → Type 0
At l r q = (r < length l) × (get_or l r [] ≡ q)

-- the rows below p
abbrev pub total : List Path → Path → ℕ
total l p = number (dec_ext p) l

-- x comes before z
abbrev pub lower : (z x : Path) → Dec (Lt x z)
lower z x = dec_lt_lem x z

-- the rows before z: its row number, if it is a row
abbrev pub row : List Path → Path → ℕ
row l z = number (lower z) l

-- c children of p from the n-th on
abbrev pub child_paths : Path → ℕ → ℕ → List Path
child_paths p n zero = []
child_paths p n (suc c) = (p · n) ∷ child_paths p (suc n) c
