-- Two lists of nodes.
use Rattle.std.specs.Prelude.{◌≡◌, List, ℕ, length}
use Rattle.model.specs.declared.Node.{Node}
use Rattle.model.specs.Nodes.{node_at, direct_of, is_open}
use Rattle.tree.specs.WellFormed.{Used, Opens, up, ix}

-- each node of the first is one of the second, and stands where it stood
pub record Keeps (ns ms : List Node) : Type 0 where
  pub stays : (j : ℕ) → Used ns j → Used ms j
  pub same_up : (j : ℕ) → Used ns j → up ms j ≡ up ns j
  pub same_ix : (j : ℕ) → Used ns j → ix ms j ≡ ix ns j

-- the open nodes are the same, but for what no row depends on
pub record Alike (ns ms : List Node) : Type 0 where
  pub size : length ns ≡ length ms
  pub same_open : (j : ℕ) → is_open (node_at ns j) ≡ is_open (node_at ms j)
  pub same_up : (j : ℕ) → Opens ns j → up ns j ≡ up ms j
  pub same_ix : (j : ℕ) → Opens ns j → ix ns j ≡ ix ms j
  pub same_direct : (j : ℕ) → Opens ns j → direct_of ns j ≡ direct_of ms j
