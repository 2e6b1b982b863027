-- Lists of regions: the rows that they stand for, and what makes them the regions of these rows.
use Rattle.std.specs.Prelude.{ℕ, zero, suc, ◌+◌, ◌<◌, ◌≡◌, ◌≢◌, List, [], ◌∷◌, ◌++◌, get_or}
use Rattle.model.specs.declared.Region.{Region}
use Rattle.model.specs.Rows.{Row}
use Rattle.model.specs.Regions.{no_region}

-- n rows of node k, from index i on
abbrev pub stretch : ℕ → ℕ → ℕ → List Row
stretch k i zero = []
stretch k i (suc n) = (k, i) ∷ stretch k (suc i) n

abbrev pub region_rows : Region → List Row
region_rows g = stretch g.node g.offset g.length

-- all rows of a list of regions, and their number
abbrev pub spread : List Region → List Row
spread [] = []
spread (g ∷ gs) = region_rows g ++ spread gs

abbrev pub total : List Region → ℕ
total [] = 0
total (g ∷ gs) = g.length + total gs

abbrev pub at : List Region → ℕ → Region
at gs i = get_or gs i no_region

-- the regions tile the rows from s on: no gap, none without rows
abbrev pub Tiled : ℕ → List Region → Type 0
Tiled s [] = Unit {0}
Tiled s (g ∷ gs) = (g.start ≡ s) × (0 < g.length) × Tiled (s + g.length) gs

-- the first region, if there is one, is not of node k
abbrev pub Apart : ℕ → List Region → Type 0
Apart k [] = Unit {0}
Apart k (g ∷ gs) = k ≢ g.node

-- neighbours are of different nodes
abbrev pub Separate : List Region → Type 0
Separate [] = Unit {0}
Separate (g ∷ gs) = Apart g.node gs × Separate gs

pub record Normal (s : ℕ) (gs : List Region) : Type 0 where
  pub tiled : Tiled s gs
  pub separate : Separate gs

-- no region is of node k, and no row is a child of it
abbrev pub Absent : ℕ → List Region → Type 0
Absent k [] = Unit {0}
Absent k (g ∷ gs) = (k ≢ g.node) × Absent k gs

abbrev pub NoRow : ℕ → List Row → Type 0
NoRow k [] = Unit {0}
NoRow k (x ∷ xs) = (k ≢ x.0) × NoRow k xs

-- a row with the parent of the row before it has the next index, as in every listing
abbrev pub Follows : Row → List Row → Type 0
Follows x [] = Unit {0}
Follows x (y ∷ ys) = x.0 ≡ y.0 → y.1 ≡ suc x.1

abbrev pub Tidy : List Row → Type 0
Tidy [] = Unit {0}
Tidy (x ∷ xs) = Follows x xs × Tidy xs

-- the last of xs and the first of ys, if there are both, have different parents
abbrev pub Parted : List Row → List Row → Type 0
Parted [] ys = Unit {0}
Parted (x ∷ []) [] = Unit {0}
Parted (x ∷ []) (y ∷ ys) = x.0 ≢ y.0
Parted (x ∷ z ∷ xs) ys = Parted (z ∷ xs) ys
