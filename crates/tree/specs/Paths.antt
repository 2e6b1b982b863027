-- From paths to nodes and rows, and back.
use Rattle.std.specs.Prelude.{◌≡◌, cond, List, [], ◌∷◌, ℕ, zero, suc, ◌≤◌, ◌<◌}
use Rattle.lists.specs.Counts.{count}
use Rattle.paths.specs.Order.{Path, ◌·◌, Under}
use Rattle.paths.specs.Shapes.{Shape}
use Rattle.model.specs.declared.Node.{Node}
use Rattle.model.specs.Places.{depth}
use Rattle.model.specs.Nodes.{node_at, direct_of, is_open, child, open_child}
use Rattle.model.specs.Rows.{Row, total_of, row_of, chain}
use Rattle.tree.specs.WellFormed.{Opens, up}

-- the number that stands for no node: nothing is read there
abbrev pub lost : ℕ
lost = 256

abbrev pub or_lost : ℕ → ℕ
or_lost zero = lost
or_lost (suc k) = suc k

-- from node k down to its child with index i, and down a path
abbrev pub next : List Node → ℕ → ℕ → ℕ
next ns k i = or_lost (child ns k i)

unfoldable pub find_from : List Node → ℕ → Path → ℕ
find_from ns k [] = k
find_from ns k (i ∷ p) = find_from ns (next ns k i) p

-- the node at a path
abbrev pub find : List Node → Path → ℕ
find ns p = find_from ns 0 p

-- the tree
abbrev pub shape : List Node → Shape
shape ns = record { count = λ p. direct_of ns (find ns p); is_open = λ p. is_open (node_at ns (find ns p)) }

-- the path of node k
abbrev pub to : List Node → ℕ → Path
to ns k = chain ns depth k

-- j is m, or a node above m
pub data Over (ns : List Node) (j : ℕ) : ℕ → Type 0 where
  here : {m : ℕ} → m ≡ j → Over ns j m
  step : {k : ℕ} → Over ns j (up ns (suc k)) → Over ns j (suc k)

-- x is in the branches of node p from the i-th on
abbrev pub From : List Node → ℕ → ℕ → Path → Type 0
From ns p i x = (b : ℕ) × (i ≤ b) × Under (to ns p · b) x

-- a row of an open node
abbrev pub Shows : List Node → Row → Type 0
Shows ns r = Opens ns r.0 × (r.1 < direct_of ns r.0)

-- a path's last index, and what is before it
abbrev pub front : Path → Path
front [] = []
front (x ∷ []) = []
front (x ∷ y ∷ p) = x ∷ front (y ∷ p)

abbrev pub final : Path → ℕ
final [] = 0
final (x ∷ []) = x
final (x ∷ y ∷ p) = final (y ∷ p)

-- the row of a path
unfoldable pub path_row : List Node → Path → Row
path_row ns x = (find ns (front x), final x)

-- the row number that the first child of an open node has
abbrev pub first_row : List Node → ℕ → ℕ
first_row ns zero = 0
first_row ns (suc k) = suc (row_of ns (suc k))

-- the total of the open node of number k (0: there is none)
abbrev pub total_if : List Node → ℕ → ℕ
total_if ns zero = 0
total_if ns (suc k) = total_of ns (suc k)

-- the rows below the i-th child of node p
abbrev pub child_total : List Node → ℕ → ℕ → ℕ
child_total ns p i = total_if ns (open_child ns p i)

-- how many nodes besides the capture are open
abbrev pub open_nodes : List Node → ℕ
open_nodes ns = count (λ k. is_open (node_at ns (suc k))) 255

-- the count of node k, if it is open
abbrev pub open_direct : List Node → ℕ → ℕ
open_direct ns k = cond (is_open (node_at ns k)) (direct_of ns k) 0
