-- Rows: each child of an open node in index order, each followed by the rows below it if it is open. A row is its parent node and its index there.
use Rattle.std.specs.Prelude.{ℕ, zero, suc, cond, ◌&&◌, List, [], ◌∷◌, ◌++◌, map, length, get_or, eqb}
use Rattle.model.specs.declared.Node.{Node}
use Rattle.model.specs.Places.{depth}
use Rattle.model.specs.Nodes.{node_at, direct_of, open_child}

abbrev pub Row : Type 0
Row = ℕ × ℕ

-- the rows below the row whose open node has the number k (0: it has none), by what lists the rows of a node
abbrev pub under : (ℕ → List Row) → ℕ → List Row
under sub zero = []
under sub (suc k) = sub (suc k)

-- n children of node p from index i on, each followed by the rows below it
unfoldable pub rows_from : List Node → (ℕ → List Row) → ℕ → ℕ → ℕ → List Row
rows_from ns sub p i zero = []
rows_from ns sub p i (suc n) = (p, i) ∷ (under sub (open_child ns p i) ++ rows_from ns sub p (suc i) n)

-- the rows below node p, to a depth of f
unfoldable pub rows_of : List Node → ℕ → ℕ → List Row
rows_of ns zero p = []
rows_of ns (suc f) p = rows_from ns (λ k. rows_of ns f k) p 0 (direct_of ns p)

-- the listing, from row 0 on
unfoldable pub rows : List Node → List Row
rows ns = rows_of ns depth 0

abbrev pub row_total : List Node → ℕ
row_total ns = length (rows ns)

-- the number of rows below node k
unfoldable pub total_of : List Node → ℕ → ℕ
total_of ns k = length (rows_of ns depth k)

abbrev pub row_at : List Node → ℕ → Row
row_at ns r = get_or (rows ns) r (0, 0)

-- the place of a row in a listing (its length if it is not there)
unfoldable pub place : ℕ → ℕ → List Row → ℕ
place p i [] = 0
place p i (r ∷ rs) = let later = suc (place p i rs) in cond (eqb r.0 p && eqb r.1 i) 0 later

-- the row number of node k's own row
unfoldable pub row_of : List Node → ℕ → ℕ
row_of ns k = place (node_at ns k).parent (node_at ns k).index (rows ns)

-- the chain of child indices down to node k, to a depth of f
unfoldable pub chain : List Node → ℕ → ℕ → List ℕ
chain ns zero k = []
chain ns (suc f) zero = []
chain ns (suc f) (suc k) = chain ns f (node_at ns (suc k)).parent ++ ((node_at ns (suc k)).index ∷ [])

-- a row's path is the chain of child indices down to it
unfoldable pub path : List Node → Row → List ℕ
path ns r = chain ns depth r.0 ++ (r.1 ∷ [])

unfoldable pub paths : List Node → List (List ℕ)
paths ns = map (path ns) (rows ns)
