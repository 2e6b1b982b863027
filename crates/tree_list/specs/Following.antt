-- A row that is followed: its node is put in place, and nothing else changes.
use Rattle.std.specs.Prelude.{ℕ, suc, ◌≡◌, set}
use Rattle.model.specs.declared.Node.{Node}
use Rattle.model.specs.declared.Model.{Model}
use Rattle.model.specs.Nodes.{free}
use Rattle.model.specs.Settle.{settle}
use Rattle.steps.specs.Settled.{with_nodes}

-- wherever it is put, the model with this node is settled
abbrev pub Followable : Model → Node → Type 0
Followable m n = (j : ℕ) → free m.nodes ≡ suc j → settle (set m.nodes (suc j) n) ≡ with_nodes m (set m.nodes (suc j) n)
