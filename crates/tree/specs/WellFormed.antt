-- A well-formed list of nodes, as statements.
use Rattle.std.specs.Prelude.{◌≡◌, true, false, List, ℕ, suc, ◌<◌, length}
use Rattle.model.specs.declared.Node.{Node}
use Rattle.model.specs.Places.{longest_chain, node_places}
use Rattle.model.specs.Nodes.{no_node, node_at, direct_of, used, is_open}
use Rattle.model.specs.Sound.{reaches}

abbrev pub Used : List Node → ℕ → Type 0
Used ns k = used (node_at ns k) ≡ true

abbrev pub Opens : List Node → ℕ → Type 0
Opens ns k = is_open (node_at ns k) ≡ true

abbrev pub up : List Node → ℕ → ℕ
up ns k = (node_at ns k).parent

abbrev pub ix : List Node → ℕ → ℕ
ix ns k = (node_at ns k).index

-- what is so of a node in use, of number k above 0
pub record Placed (ns : List Node) (k : ℕ) : Type 0 where
  pub entry : 0 < (node_at ns k).entry
  pub above : Opens ns (up ns k)
  pub reach : reaches ns longest_chain k ≡ true
  pub inside : ix ns k < direct_of ns (up ns k)
  pub filled : Opens ns k → 0 < direct_of ns k

-- what is so of the capture
pub record Root (n : Node) : Type 0 where
  pub «open» : is_open n ≡ true
  pub entry : n.entry ≡ 0
  pub parent : n.parent ≡ 0
  pub index : n.index ≡ 0
  pub version : n.version ≡ 0

pub record WellFormed (ns : List Node) : Type 0 where
  pub size : length ns ≡ node_places
  pub root : Root (node_at ns 0)
  pub placed : (k : ℕ) → Used ns (suc k) → Placed ns (suc k)
  pub twin : (j k : ℕ) → Used ns (suc j) → Used ns (suc k) → up ns (suc j) ≡ up ns (suc k) → ix ns (suc j) ≡ ix ns (suc k) → suc j ≡ suc k
  pub empty : (k : ℕ) → used (node_at ns (suc k)) ≡ false → node_at ns (suc k) ≡ no_node
