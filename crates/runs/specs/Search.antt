-- The region that holds a row, and the child that the row is there.
use Rattle.std.specs.Prelude.{ℕ, suc, ◌+◌, ◌-◌, ◌≤◌, ◌<◌, Bool, cond, ◌&&◌, List, [], ◌∷◌, length, leb, ltb}
use Rattle.model.specs.declared.Region.{Region}
use Rattle.std.specs.Prelude.{Option, Some, None}
use Rattle.runs.specs.Regions.{at}

abbrev pub holds : Region → ℕ → Bool
holds g r = leb g.start r && ltb r (g.start + g.length)

-- the first of gs that holds row r, where the list's first region has the place k
unfoldable pub region_from : ℕ → List Region → ℕ → Option ℕ
region_from k [] r = None
region_from k (g ∷ gs) r = let later = region_from (suc k) gs r in cond (holds g r) (Some k) later

-- the place of the region that holds row r
unfoldable pub region_at : List Region → ℕ → Option ℕ
region_at gs r = region_from 0 gs r

-- the index below the region's node: the only way from a row's number to a child's
abbrev pub child_at : Region → ℕ → ℕ
child_at g r = g.offset + (r - g.start)

-- region i holds row r
pub record Holds (gs : List Region) (r i : ℕ) : Type 0 where
  pub below : i < length gs
  pub low : (at gs i).start ≤ r
  pub high : r < (at gs i).start + (at gs i).length

-- region i is the last that starts at or before row r
pub record Last (gs : List Region) (r i : ℕ) : Type 0 where
  pub below : i < length gs
  pub low : (at gs i).start ≤ r
  pub next : suc i < length gs → r < (at gs (suc i)).start
