-- The rows that an update adds.
use Rattle.std.specs.Prelude.{ℕ, ◌+◌, cond, List, [], ◌∷◌}
use Rattle.model.specs.declared.Node.{Node}
use Rattle.model.specs.Nodes.{node_at, is_open}
use Rattle.model.specs.Update.{added}
use Rattle.model.specs.declared.Step.{Step}
use Rattle.model.specs.declared.Step.TheVariants.{Text, Grow}

-- the added children of an open node become rows, those of a closed one don't
unfoldable pub added_rows : List ℕ → Node → ℕ
added_rows t n = cond (is_open n) (added t n) 0

-- of all growth steps, as the nodes stood at the start
unfoldable pub growth : List ℕ → List Node → List Step → ℕ
growth t ns [] = 0
growth t ns (Text k ∷ es) = growth t ns es
growth t ns (Grow k ∷ es) = added_rows t (node_at ns k) + growth t ns es
