-- A chain of 256 open and ongoing nodes, each but the capture the only child of the one before.
use Rattle.std.specs.Prelude.{ℕ, zero, suc, ◌-◌, true, List, [], ◌∷◌}
use Rattle.model.specs.declared.Node.{Node}

abbrev pub chain_node : ℕ → Node
chain_node k = record { parent = k - 1; index = 0; entry = k; direct = 1; total = 0; version = 0; «open» = true; ongoing = true }

-- n nodes of it, from node k on
unfoldable pub chain_from : ℕ → ℕ → List Node
chain_from k zero = []
chain_from k (suc n) = chain_node k ∷ chain_from (suc k) n

unfoldable pub chain_nodes : List Node
chain_nodes = chain_from 0 256
