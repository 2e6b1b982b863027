-- The parts of the soundness test.
use Rattle.std.specs.Prelude.{ℕ, zero, suc, ◌+◌, ◌-◌, ◌<◌, ◌≡◌, Bool, true, false, cond, not, ◌&&◌, ◌||◌, Option, Some, None, List, [], ◌∷◌, length, get_or, drop, replicate, eqb, ltb, leb}
use Rattle.model.specs.declared.Node.{Node}
use Rattle.model.specs.declared.Model.{Model}
use Rattle.model.specs.declared.Region.{Region}
use Rattle.model.specs.Places.{node_places, region_places, pad}
use Rattle.model.specs.Nodes.{node_at, is_open, used, stands_at}
use Rattle.model.specs.Rows.{rows}
use Rattle.model.specs.Regions.{no_region, runs}
use Rattle.model.specs.Sound.{capture_ok, blank, same_region, same_list}

-- each node passes a test that knows its number; the list's first has the number k
unfoldable pub all_from : (ℕ → Node → Bool) → ℕ → List Node → Bool
all_from t k [] = true
all_from t k (n ∷ ns) = t k n && all_from t (suc k) ns

-- a node in use, with its parent p
abbrev pub seated : Node → Node → Bool
seated n p = ltb 0 n.entry && (is_open p && (ltb n.index p.direct && (not (is_open n) || ltb 0 n.direct)))

-- node k with its parent p, whatever the other nodes are
unfoldable pub place_ok : ℕ → Node → Node → Bool
place_ok zero n p = capture_ok n
place_ok (suc k) n p = cond (used n) (seated n p) (blank n)

unfoldable pub places_ok : List Node → Bool
places_ok ns = all_from (λ k n. place_ok k n (node_at ns n.parent)) 0 ns

-- two nodes in use with one parent and one index
abbrev pub is_twin : Node → Node → Bool
is_twin a b = used a && (used b && stands_at a.parent a.index b)

unfoldable pub any_twin : Node → List Node → Bool
any_twin a [] = false
any_twin a (b ∷ bs) = is_twin a b || any_twin a bs

unfoldable pub has_twins : List Node → Bool
has_twins [] = false
has_twins (a ∷ ns) = any_twin a ns || has_twins ns

-- what a node adds to the total of its parent
abbrev pub open_total : Node → ℕ
open_total n = cond (is_open n) n.total 0

-- what nodes add to the total of node p
unfoldable pub parts : ℕ → List Node → ℕ
parts p [] = 0
parts p (n ∷ ns) = cond (eqb n.parent p) (open_total n) 0 + parts p ns

abbrev pub total_is : Node → ℕ → Bool
total_is n s = cond (used n) (eqb n.total (n.direct + s)) true

-- each node in use has its count and its open children's totals for a total
unfoldable pub totals_ok : List Node → Bool
totals_ok ns = all_from (λ k n. total_is n (parts k (drop 1 ns))) 0 ns

-- the sums of the open children's totals, or one of them does not fit, and then some total is wrong
abbrev pub Summed : List Node → Option (List ℕ) → Type 0
Summed ns (Some of) = (p : ℕ) → p < node_places → get_or of p 0 ≡ parts p (drop 1 ns)
Summed ns None = totals_ok ns ≡ false

-- node n, of number c, is the open child of node p at index i
abbrev pub is_next : Node → ℕ → ℕ → ℕ → Bool
is_next n c p i = ltb 0 c && (is_open n && stands_at p i n)

-- the region begins with row s, the child of node p at index i, and has from 1 to `most` rows
abbrev pub begins : Region → ℕ → ℕ → ℕ → ℕ → Bool
begins g s p i most = eqb g.start s && (eqb g.node p && (eqb g.offset i && (ltb 0 g.length && leb g.length most)))

-- the regions end at place j, after s rows
abbrev pub ends_at : Model → ℕ → ℕ → Bool
ends_at m j s = eqb s (node_at m.nodes 0).total && same_list same_region (drop j m.regions) (replicate (region_places - j) no_region)

-- the regions, and how many they are, are those of the rows
unfoldable pub regions_ok : List Node → List Region → ℕ → Bool
regions_ok ns gs count = same_list same_region gs (pad region_places no_region (runs 0 (rows ns))) && eqb count (length (runs 0 (rows ns)))
