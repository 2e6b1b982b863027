-- A row that can be opened.
use Rattle.std.specs.Prelude.{ℕ, ◌+◌, ◌≤◌, ◌<◌, ◌≡◌, true, false, Some}
use Rattle.model.specs.declared.Node.{Node}
use Rattle.model.specs.declared.Model.{Model}
use Rattle.model.specs.Places.{row_limit}
use Rattle.model.specs.Nodes.{node_at, is_open, with_open}
use Rattle.model.specs.Rows.{row_total, row_at}
use Rattle.runs.specs.Search.{region_at}
use Rattle.runs.specs.Laid.{live}
use Rattle.steps.specs.Changes.{Put}
use Rattle.steps.specs.Settled.{Sound}

-- node n, of row r, which the region at a place holds, can be put open at number k: none is open there, it has children, and there is room for their rows
pub record Openable (m : Model) (place r k : ℕ) (n : Node) : Type 0 where
  pub whole : Sound m
  pub found : region_at (live m) r ≡ Some place
  pub row : row_at m.nodes r ≡ (n.parent, n.index)
  pub put : Put m.nodes k (with_open true n)
  pub was : is_open (node_at m.nodes k) ≡ false
  pub flat : n.total ≡ n.direct
  pub filled : 0 < n.direct
  pub room : row_total m.nodes + n.direct ≤ row_limit
