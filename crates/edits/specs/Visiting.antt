-- What an update's growth step does to a node, and what it asks.
use Rattle.std.specs.Prelude.{ℕ, ◌+◌, ◌-◌, ◌≤◌, Bool, ◌&&◌}
use Rattle.model.specs.declared.Node.{Node}
use Rattle.model.specs.declared.Model.{Model}
use Rattle.model.specs.Places.{row_limit}
use Rattle.model.specs.Nodes.{direct_of, with_direct, with_ongoing, or_none}
use Rattle.model.specs.Rows.{row_total}
use Rattle.tree.specs.WellFormed.{Used, Opens}
use Rattle.steps.specs.Settled.{Sound}

-- the node with its item's count and state, as in model's grow_step
abbrev pub visited : ℕ → Bool → Node → Node
visited count ongoing n = or_none (with_direct count (with_ongoing (n.ongoing && ongoing) n))

-- node k can have `count` children, no fewer than it has: there is room for the rows, if it is open
pub record Visitable (m : Model) (k count : ℕ) : Type 0 where
  pub sound : Sound m
  pub live : Used m.nodes k
  pub more : direct_of m.nodes k ≤ count
  pub limit : Opens m.nodes k → row_total m.nodes + (count - direct_of m.nodes k) ≤ row_limit
