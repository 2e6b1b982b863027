-- A row that is opened: its node is put in place, unless the opening is refused.
use Rattle.std.specs.Prelude.{ℕ, ◌+◌, ◌≤◌, ◌≡◌, ◌≢◌, false}
use Rattle.model.specs.declared.Node.{Node}
use Rattle.model.specs.declared.Model.{Model}
use Rattle.model.specs.Places.{row_limit}
use Rattle.model.specs.Nodes.{is_open}
use Rattle.model.specs.Rows.{row_total}
use Rattle.edits.specs.Openable.{Openable}

-- node n, of row r, can be put open at number j, if it is closed and has children, there is such a number, and the rows keep their limit
abbrev pub CanOpen : Model → ℕ → ℕ → ℕ → Node → Type 0
CanOpen m place r j n = is_open n ≡ false → n.direct ≢ 0 → j ≢ 0 → row_total m.nodes + n.direct ≤ row_limit → Openable m place r j n
