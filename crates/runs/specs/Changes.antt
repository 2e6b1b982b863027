-- What the operations do to a list of regions.
use Rattle.std.specs.Prelude.{ℕ, zero, suc, ◌+◌, ◌-◌, cond, List, [], ◌∷◌, ◌++◌, map, take, drop, eqb}
use Rattle.model.specs.declared.Region.{Region}
use Rattle.model.specs.Regions.{region}
use Rattle.runs.specs.Regions.{at}
use Rattle.runs.specs.Search.{child_at}

-- a region, and one of the same node right after it, as one
abbrev pub merge : Region → Region → Region
merge g h = region g.start g.node g.offset (g.length + h.length)

-- a region before others, merged with the first of them where that has the same node
abbrev pub attach : Region → List Region → List Region
attach g [] = g ∷ []
attach g (h ∷ hs) = cond (eqb h.node g.node) (merge g h ∷ hs) (g ∷ h ∷ hs)

-- all neighbours of one node merged
unfoldable pub joined : List Region → List Region
joined [] = []
joined (g ∷ gs) = attach g (joined gs)

-- a region that starts a rows later and b rows earlier
abbrev pub moved : ℕ → ℕ → Region → Region
moved a b g = region (g.start + a - b) g.node g.offset g.length

-- a region with n rows
abbrev pub resized : ℕ → Region → Region
resized n g = region g.start g.node g.offset n

-- the region of n rows, or none
abbrev pub span : ℕ → ℕ → ℕ → ℕ → List Region
span s k i zero = []
span s k i (suc n) = region s k i (suc n) ∷ []

-- region i cut after its child `last`, with g between the parts; no after-part without rows
unfoldable pub split : List Region → ℕ → ℕ → Region → List Region
split gs i last g =
    let q = at gs i in
    take i gs ++ (resized (last + 1 - q.offset) q ∷ g ∷ (span (g.start + g.length) q.node (last + 1) (q.offset + q.length - (last + 1)) ++ drop (suc i) gs))

-- c rows of node k put in below row r, which region i holds
unfoldable pub expanded : List Region → ℕ → ℕ → ℕ → ℕ → List Region
expanded gs i r k c =
    let q = at gs i in
    take i gs ++
    (resized (r + 1 - q.start) q ∷ region (r + 1) k 0 c ∷ (span (r + 1 + c) q.node (child_at q r + 1) (q.start + q.length - (r + 1)) ++ map (moved c 0) (drop (suc i) gs)))

-- region i taken out
unfoldable pub collapsed : List Region → ℕ → List Region
collapsed gs i = take i gs ++ map (moved 0 (at gs i).length) (drop (suc i) gs)

-- c rows of node k, from index o on, put in at row s, before region i
unfoldable pub grown : List Region → ℕ → ℕ → ℕ → ℕ → ℕ → List Region
grown gs i s k o c = take i gs ++ (region s k o c ∷ map (moved c 0) (drop i gs))
