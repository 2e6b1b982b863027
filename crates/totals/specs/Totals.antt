-- What is worked out from the totals of open nodes, and how they are kept.
use Rattle.std.specs.Prelude.{ℕ, zero, suc, ◌+◌, ◌-◌, ◌^◌, ◌<◌, ◌≤◌, Bool, true, false, cond, ◌&&◌, List, [], ◌∷◌, drop, set, eqb, ltb, leb}
use Rattle.model.specs.declared.Node.{Node}
use Rattle.model.specs.Nodes.{node_at, is_open, with_total}
use Rattle.tree.specs.Paths.{Over}

-- the sum of f over the elements that pass a test
unfoldable pub sum_if : {A : Type 0} → (A → Bool) → (A → ℕ) → List A → ℕ
sum_if q f [] = 0
sum_if q f (x ∷ xs) = cond (q x) (f x) 0 + sum_if q f xs

-- an open child of node p, with an index from start to before end
abbrev pub opens_between : ℕ → ℕ → ℕ → Node → Bool
opens_between p start end n = is_open n && (eqb n.parent p && (leb start n.index && ltb n.index end))

-- the rows from child `start` to before child `end` of node p: the children, and the totals of those that are open; node 0 is nobody's child
unfoldable pub rows_between : List Node → ℕ → ℕ → ℕ → ℕ
rows_between ns p start end = (end - start) + sum_if (opens_between p start end) (λ n. n.total) (drop 1 ns)

-- a total with more rows, or with fewer
abbrev pub moved : Bool → ℕ → ℕ → ℕ
moved true rows total = total + rows
moved false rows total = total - rows

-- and that the total can be so moved
abbrev pub Movable : Bool → ℕ → ℕ → Type 0
Movable true rows total = total + rows < 2 ^ 64
Movable false rows total = rows ≤ total

-- the totals of the nodes above node k, at most f of them, with more rows or with fewer
unfoldable pub moved_above : Bool → ℕ → ℕ → List Node → ℕ → List Node
moved_above more rows zero ns k = ns
moved_above more rows (suc f) ns zero = ns
moved_above more rows (suc f) ns (suc k) =
    let p = (node_at ns (suc k)).parent in
    moved_above more rows f (set ns p (with_total (moved more rows (node_at ns p).total) (node_at ns p))) p

-- node j stands above node k
abbrev pub Above : List Node → ℕ → ℕ → Type 0
Above ns j zero = ⊥
Above ns j (suc k) = Over ns j (node_at ns (suc k)).parent

-- each of them can be so moved
abbrev pub AllMovable : Bool → ℕ → List Node → ℕ → Type 0
AllMovable more rows ns k = (j : ℕ) → Above ns j k → Movable more rows (node_at ns j).total
