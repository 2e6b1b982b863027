-- Growing an open node in place.
use Rattle.std.specs.Prelude.{ℕ, ◌+◌, ◌-◌, ◌^◌, ◌<◌, ◌≤◌, true, List, set}
use Rattle.model.specs.declared.Node.{Node}
use Rattle.model.specs.declared.Model.{Model}
use Rattle.model.specs.Places.{depth, row_limit}
use Rattle.model.specs.Nodes.{node_at, direct_of, with_direct, with_total}
use Rattle.model.specs.Rows.{row_total}
use Rattle.tree.specs.WellFormed.{Opens, WellFormed}
use Rattle.steps.specs.Settled.{Sound}
use Rattle.totals.specs.Totals.{moved_above}

-- open node k can have `count` children, more than it has: there is room for the rows
pub record Growable (m : Model) (k count : ℕ) : Type 0 where
  pub sound : Sound m
  pub opens : Opens m.nodes k
  pub more : direct_of m.nodes k < count
  pub limit : row_total m.nodes + (count - direct_of m.nodes k) ≤ row_limit

-- the same of the nodes alone: the totals fit
pub record Raisable (ns : List Node) (k count : ℕ) : Type 0 where
  pub well : WellFormed ns
  pub opens : Opens ns k
  pub more : direct_of ns k < count
  pub fits : (j : ℕ) → Opens ns j → (node_at ns j).total + (count - direct_of ns k) < 2 ^ 64

-- a node with `count` children, and as many more rows below it
abbrev pub grown_node : ℕ → Node → Node
grown_node count n = with_total (n.total + (count - n.direct)) (with_direct count n)

-- the nodes with the new count, and the totals from node k up
abbrev pub raised : List Node → ℕ → ℕ → List Node
raised ns k count = moved_above true (count - direct_of ns k) depth (set ns k (grown_node count (node_at ns k))) k
