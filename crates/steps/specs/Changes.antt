-- How a list of nodes is changed: a node put at a number, nodes closed and freed, a change that no row shows.
use Rattle.std.specs.Prelude.{◌≡◌, true, false, List, ℕ, zero, suc, ◌≤◌, ◌<◌, length, set}
use Rattle.model.specs.declared.Node.{Node}
use Rattle.model.specs.Nodes.{no_node, node_at, direct_of, used, is_open, with_open, with_total, or_none}
use Rattle.model.specs.Close.{free_below}
use Rattle.paths.specs.Order.{Ext, Under}
use Rattle.tree.specs.Pairs.{Alike}
use Rattle.tree.specs.Paths.{to}
use Rattle.tree.specs.WellFormed.{Used, Opens, up, ix, Root, WellFormed}

-- n can stand at number k as a child: at a child of an open node where no other node stands
pub record Seated (ns : List Node) (k : ℕ) (n : Node) : Type 0 where
  pub entry : 0 < n.entry
  pub above : Opens ns n.parent
  pub inside : n.index < direct_of ns n.parent
  pub filled : is_open n ≡ true → 0 < n.direct
  pub sole : (j : ℕ) → Used ns (suc j) → up ns (suc j) ≡ n.parent → ix ns (suc j) ≡ n.index → suc j ≡ k

abbrev pub Seat : List Node → ℕ → Node → Type 0
Seat ns zero n = Root n
Seat ns (suc k) n = Seated ns (suc k) n

-- n may be put at number k: what is in use there has its parent and index, and stays open, if it is, with no fewer children
pub record Put (ns : List Node) (k : ℕ) (n : Node) : Type 0 where
  pub small : k < 256
  pub live : used n ≡ true
  pub same : Used ns k → (up ns k ≡ n.parent) × (ix ns k ≡ n.index)
  pub keeps : Opens ns k → (is_open n ≡ true) × (direct_of ns k ≤ n.direct)
  pub seat : Seat ns k n

-- node k anew, at its own place
pub record Own (ns : List Node) (k : ℕ) (n : Node) : Type 0 where
  pub live : used n ≡ true
  pub parent : n.parent ≡ up ns k
  pub index : n.index ≡ ix ns k
  pub entry : n.entry ≡ (node_at ns k).entry
  pub version : k ≡ 0 → n.version ≡ (node_at ns k).version
  pub keeps : Opens ns k → (is_open n ≡ true) × (direct_of ns k ≤ n.direct)
  pub filled : is_open (node_at ns k) ≡ false → is_open n ≡ true → 0 < n.direct

-- b is what is left of the node a: it may be closed
pub record Left (a b : Node) : Type 0 where
  pub was : used a ≡ true
  pub parent : b.parent ≡ a.parent
  pub index : b.index ≡ a.index
  pub entry : b.entry ≡ a.entry
  pub direct : b.direct ≡ a.direct
  pub opens : is_open b ≡ true → is_open a ≡ true

pub record Shrunk (ns ms : List Node) : Type 0 where
  pub size : length ms ≡ length ns
  pub root : node_at ms 0 ≡ node_at ns 0
  pub node : (j : ℕ) → Used ms (suc j) → Left (node_at ns (suc j)) (node_at ms (suc j))
  pub above : (j : ℕ) → Used ms (suc j) → Opens ms (up ns (suc j))
  pub empty : (j : ℕ) → used (node_at ms (suc j)) ≡ false → node_at ms (suc j) ≡ no_node

-- ms is ns with node k closed and no node left below it
pub record Pruned (ns ms : List Node) (k : ℕ) : Type 0 where
  pub less : Shrunk ns ms
  pub away : (m : ℕ) → (Used ns m → Under (to ns k) (to ns m) → ⊥) → node_at ms m ≡ node_at ns m
  pub gone : (m : ℕ) → Used ns m → Ext (to ns k) (to ns m) → Used ms m → ⊥
  pub shut : is_open (node_at ms k) ≡ false

-- the nodes after the closing of node k alone
unfoldable pub closed_at : List Node → ℕ → List Node
closed_at ns k = set (free_below k ns) k (or_none (with_open false (node_at ns k)))

-- ms is well-formed too, and its open nodes are those of ns
pub record Quiet (ns ms : List Node) : Type 0 where
  pub well : WellFormed ms
  pub alike : Alike ns ms

-- the node, its total aside
abbrev pub bare : Node → Node
bare n = with_total 0 n

-- two lists with the same nodes, totals aside
pub record Bare (ns ms : List Node) : Type 0 where
  pub size : length ns ≡ length ms
  pub node : (j : ℕ) → bare (node_at ns j) ≡ bare (node_at ms j)
