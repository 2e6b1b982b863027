-- What the recursions push, and how the search for the next child goes along the children of a node.
use Rattle.std.specs.Prelude.{ℕ, ◌+◌, ◌-◌, ◌<◌, ◌≤◌, ◌≡◌, Bool, Option, Some, None}
use mathlib.Core.List.{List, [], ◌∷◌, flat_map}
use Rattle.model.specs.declared.Node.{Node}
use Rattle.model.specs.Nodes.{node_at, children_from}
use Rattle.model.specs.Update.{visit, followed}
use Rattle.model.specs.declared.Step.{Step}

-- the visits of the followed children of node k
unfoldable pub followed_visits : List Node → ℕ → ℕ → List Step
followed_visits ns f k = flat_map (λ j. visit ns f j) (followed ns k)

-- the children of p that pass q, with an index from low on and below limit, in ascending index
abbrev pub children_between : (Node → Bool) → List Node → ℕ → ℕ → ℕ → List ℕ
children_between q ns p low limit = children_from q ns p low (limit - low)

-- k is the first of these, and the others come after its index
pub record First (q : Node → Bool) (ns : List Node) (p low limit k : ℕ) : Type 0 where
  pub small : k < 256
  pub from : low ≤ (node_at ns k).index
  pub under : (node_at ns k).index < limit
  pub rest : children_between q ns p low limit ≡ k ∷ children_between q ns p ((node_at ns k).index + 1) limit

-- the first of these, if there is one
abbrev pub FirstIs : (Node → Bool) → List Node → ℕ → ℕ → ℕ → Option ℕ → Type 0
FirstIs q ns p low limit None = children_between q ns p low limit ≡ []
FirstIs q ns p low limit (Some k) = First q ns p low limit k
