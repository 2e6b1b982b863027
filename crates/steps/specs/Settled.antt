-- What a list of nodes gives: totals, regions and published count. A sound model.
use Rattle.std.specs.Prelude.{◌≡◌, false, List, ℕ, ◌+◌, ◌≤◌, length}
use Rattle.model.specs.declared.Node.{Node}
use Rattle.model.specs.declared.Model.{Model}
use Rattle.model.specs.Places.{pad, region_places, row_limit}
use Rattle.model.specs.Nodes.{node_at, used}
use Rattle.model.specs.Rows.{rows, row_total, total_of}
use Rattle.model.specs.Regions.{runs, no_region}
use Rattle.model.specs.Settle.{settle}
use Rattle.steps.specs.Changes.{Bare}
use Rattle.tree.specs.Paths.{Over}
use Rattle.tree.specs.WellFormed.{Used, WellFormed}

-- in ms, every node of ns that is in use has its total, and any other place has none
pub record Totalled (ns ms : List Node) : Type 0 where
  pub total : (j : ℕ) → Used ns j → (node_at ms j).total ≡ total_of ns j
  pub none : (j : ℕ) → used (node_at ns j) ≡ false → (node_at ms j).total ≡ 0

-- m has the nodes ns, totals aside, and all else as these give it
pub record Given (ns : List Node) (m : Model) : Type 0 where
  pub nodes : Bare ns m.nodes
  pub totals : Totalled ns m.nodes
  pub regions : m.regions ≡ pad region_places no_region (runs 0 (rows ns))
  pub region_count : m.region_count ≡ length (runs 0 (rows ns))
  pub published : m.published ≡ row_total ns

-- the model with other nodes, the rest as it was
abbrev pub with_nodes : Model → List Node → Model
with_nodes m ns = record { nodes = ns; regions = m.regions; region_count = m.region_count; published = m.published }

-- what the soundness test decides
pub record Sound (m : Model) : Type 0 where
  pub well : WellFormed m.nodes
  pub is : m ≡ settle m.nodes
  pub limit : row_total m.nodes ≤ row_limit

-- the totals of node k and of those above it, by the parents in ns, are c higher in news than in olds
pub record Raised (ns : List Node) (k c : ℕ) (olds news : List Node) : Type 0 where
  pub over : (j : ℕ) → Over ns j k → (node_at news j).total ≡ (node_at olds j).total + c
  pub else : (j : ℕ) → (Over ns j k → ⊥) → (node_at news j).total ≡ (node_at olds j).total
