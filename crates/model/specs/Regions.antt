-- Regions: each is a longest run of neighbouring rows with one parent, in ascending start.
use Rattle.std.specs.Prelude.{ℕ, suc, cond, List, [], ◌∷◌, eqb}
use Rattle.model.specs.declared.Region.{Region}
use Rattle.model.specs.Rows.{Row}

abbrev pub region : ℕ → ℕ → ℕ → ℕ → Region
region s p i n = record { start = s; node = p; offset = i; length = n }

-- an unused place is zero
abbrev pub no_region : Region
no_region = region 0 0 0 0

-- the row r, of number s, before the regions of the rows after it
unfoldable pub join : ℕ → Row → List Region → List Region
join s r [] = region s r.0 r.1 1 ∷ []
join s r (g ∷ gs) =
    cond (eqb g.node r.0)
    (region s r.0 r.1 (suc g.length) ∷ gs)
    (region s r.0 r.1 1 ∷ g ∷ gs)

-- the regions of a listing whose first row has the number s
unfoldable pub runs : ℕ → List Row → List Region
runs s [] = []
runs s (r ∷ rs) = join s r (runs (suc s) rs)
