-- Totals, regions and published count: what the nodes give.
use Rattle.std.specs.Prelude.{ℕ, suc, cond, List, [], ◌∷◌, length}
use Rattle.model.specs.declared.Node.{Node}
use Rattle.model.specs.declared.Model.{Model}
use Rattle.model.specs.Places.{region_places, pad}
use Rattle.model.specs.Nodes.{used, with_total}
use Rattle.model.specs.Rows.{rows, row_total, total_of}
use Rattle.model.specs.Regions.{runs, no_region}

-- each node with its total, where the list's first node has number k
unfoldable pub totalled : List Node → ℕ → List Node → List Node
totalled ns k [] = []
totalled ns k (m ∷ ms) = with_total (cond (used m) (total_of ns k) 0) m ∷ totalled ns (suc k) ms

-- the published count equals the row total
abbrev pub published_count : List Node → ℕ
published_count ns = row_total ns

-- the model that a list of nodes gives
unfoldable pub settle : List Node → Model
settle ns =
    let rs = runs 0 (rows ns) in
    record {
      nodes = totalled ns 0 ns;
      regions = pad region_places no_region rs;
      region_count = length rs;
      published = published_count ns;
    }
