-- The tests of an update, one node and one step at a time.
use Rattle.std.specs.Prelude.{ℕ, Bool, false, ◌||◌, List, ltb, leb}
use Rattle.model.specs.declared.Node.{Node}
use Rattle.model.specs.declared.Step.{Step}
use Rattle.model.specs.declared.Step.TheVariants.{Text, Grow}
use Rattle.model.specs.Table.{entries, item_count}
use Rattle.steps.specs.Growth.{added_rows}

-- the node's item went back
unfoldable pub node_back : List ℕ → Node → Bool
node_back t n = leb (entries t) n.entry || ltb (item_count t n.entry) n.direct

-- what a step says of its node n: a text step whether its item went back, a growth step how many rows come
abbrev pub step_back : List ℕ → Node → Step → Bool
step_back t n (Text k) = node_back t n
step_back t n (Grow k) = false

abbrev pub step_rows : List ℕ → Node → Step → ℕ
step_rows t n (Text k) = 0
step_rows t n (Grow k) = added_rows t n
