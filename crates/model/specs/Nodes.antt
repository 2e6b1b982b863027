-- Nodes: which are in use, which is whose child, and which number is free.
use Rattle.std.specs.Prelude.{ℕ, zero, suc, Bool, false, cond, not, ◌&&◌, ◌||◌, List, [], ◌∷◌, get_or, eqb}
use Rattle.model.specs.declared.Node.{Node}

-- an unused place is zero
abbrev pub no_node : Node
no_node = record { parent = 0; index = 0; entry = 0; direct = 0; total = 0; version = 0; «open» = false; ongoing = false }

abbrev pub node_at : List Node → ℕ → Node
node_at ns k = get_or ns k no_node

abbrev pub direct_of : List Node → ℕ → ℕ
direct_of ns k = (node_at ns k).direct

abbrev pub is_open : Node → Bool
is_open n = n.«open»

abbrev pub is_ongoing : Node → Bool
is_ongoing n = n.ongoing

-- a node exists only while it is open or followed
abbrev pub used : Node → Bool
used n = n.«open» || n.ongoing

abbrev pub unused : Node → Bool
unused n = not (used n)

-- the node records parent p and index i
abbrev pub stands_at : ℕ → ℕ → Node → Bool
stands_at p i n = eqb n.parent p && eqb n.index i

-- the number of the first node that passes a test, where the list's first node has number k; 0 if none does
unfoldable pub seek_from : (Node → Bool) → List Node → ℕ → ℕ
seek_from q [] k = 0
seek_from q (n ∷ ns) k = let later = seek_from q ns (suc k) in cond (q n) k later

-- the same over nodes 1, 2, ..: the capture is always in use and is nobody's child, so its number says "none"
unfoldable pub seek : (Node → Bool) → List Node → ℕ
seek q [] = 0
seek q (n ∷ ns) = seek_from q ns 1

-- the child node with index i of node p that passes a test, or 0
unfoldable pub child_by : (Node → Bool) → List Node → ℕ → ℕ → ℕ
child_by q ns p i = seek (λ n. q n && stands_at p i n) ns

abbrev pub child : List Node → ℕ → ℕ → ℕ
child ns p i = child_by used ns p i

abbrev pub open_child : List Node → ℕ → ℕ → ℕ
open_child ns p i = child_by is_open ns p i

-- the lowest free number, or 0
abbrev pub free : List Node → ℕ
free ns = seek unused ns

-- a number unless it is 0, before the others
unfoldable pub keep : ℕ → List ℕ → List ℕ
keep zero ks = ks
keep (suc k) ks = suc k ∷ ks

-- the child nodes of p that pass a test, in ascending index: n of the indices, from i on
unfoldable pub children_from : (Node → Bool) → List Node → ℕ → ℕ → ℕ → List ℕ
children_from q ns p i zero = []
children_from q ns p i (suc n) = keep (child_by q ns p i) (children_from q ns p (suc i) n)

unfoldable pub children : (Node → Bool) → List Node → ℕ → List ℕ
children q ns p = children_from q ns p 0 (direct_of ns p)

-- a node with one thing changed
abbrev pub with_open : Bool → Node → Node
with_open b n = record { parent = n.parent; index = n.index; entry = n.entry; direct = n.direct; total = n.total; version = n.version; «open» = b; ongoing = n.ongoing }

abbrev pub with_total : ℕ → Node → Node
with_total c n = record { parent = n.parent; index = n.index; entry = n.entry; direct = n.direct; total = c; version = n.version; «open» = n.«open»; ongoing = n.ongoing }

abbrev pub with_version : ℕ → Node → Node
with_version v n = record { parent = n.parent; index = n.index; entry = n.entry; direct = n.direct; total = n.total; version = v; «open» = n.«open»; ongoing = n.ongoing }

abbrev pub with_direct : ℕ → Node → Node
with_direct c n = record { parent = n.parent; index = n.index; entry = n.entry; direct = c; total = n.total; version = n.version; «open» = n.«open»; ongoing = n.ongoing }

abbrev pub with_ongoing : Bool → Node → Node
with_ongoing b n = record { parent = n.parent; index = n.index; entry = n.entry; direct = n.direct; total = n.total; version = n.version; «open» = n.«open»; ongoing = b }

-- a node that is neither open nor ongoing is freed
abbrev pub or_none : Node → Node
or_none n = cond (used n) n no_node
