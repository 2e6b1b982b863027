-- The steps of an update one by one, with what is so of the node of each where it is taken.
use Rattle.std.specs.Prelude.{List, [], ◌∷◌, ℕ, ◌≤◌, ◌<◌}
use Rattle.model.specs.declared.Node.{Node}
use Rattle.model.specs.Table.{entries, item_count}
use Rattle.model.specs.Nodes.{node_at, direct_of}
use Rattle.model.specs.Logs.{State}
use Rattle.model.specs.Update.{step}
use Rattle.model.specs.declared.Step.{Step}
use Rattle.model.specs.declared.Step.TheVariants.{Text, Grow}
use Rattle.tree.specs.WellFormed.{Used, WellFormed}

-- node k is in use, and its item did not go back
pub record Ready (t : List ℕ) (ns : List Node) (k : ℕ) : Type 0 where
  pub well : WellFormed ns
  pub live : Used ns k
  pub listed : (node_at ns k).entry < entries t
  pub more : direct_of ns k ≤ item_count t (node_at ns k).entry

abbrev pub node_of : Step → ℕ
node_of (Text k) = k
node_of (Grow k) = k

pub data Course (t : List ℕ) : State → List Step → Type 0 where
  ends : {s : State} → Course t s []
  goes : {s : State} {e : Step} {es : List Step} → Ready t s.nodes (node_of e) → Course t (step t s e) es → Course t s (e ∷ es)
