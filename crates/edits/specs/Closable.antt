-- A node that can be closed alone.
use Rattle.std.specs.Prelude.{ℕ, ◌<◌, ◌≡◌, List}
use Rattle.model.specs.declared.Node.{Node}
use Rattle.model.specs.Nodes.{open_child}
use Rattle.tree.specs.WellFormed.{Opens}

-- node k is open, is not the capture, and has no open child
pub record Closable (ns : List Node) (k : ℕ) : Type 0 where
  pub above : 0 < k
  pub opens : Opens ns k
  pub none : (i : ℕ) → open_child ns k i ≡ 0
