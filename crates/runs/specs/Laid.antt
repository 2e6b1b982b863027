-- A model's regions as a list: they stand in the first places of its array, and the rest is zero.
use Rattle.std.specs.Prelude.{ℕ, ◌≡◌, List, length, take}
use Rattle.model.specs.declared.Model.{Model}
use Rattle.model.specs.declared.Region.{Region}
use Rattle.model.specs.Places.{region_places, pad}
use Rattle.model.specs.Regions.{no_region}

-- the model with other places, or other places and their count
abbrev pub with_regions : Model → List Region → Model
with_regions m l = record { nodes = m.nodes; regions = l; region_count = m.region_count; published = m.published }

abbrev pub with_counted : Model → List Region → ℕ → Model
with_counted m l c = record { nodes = m.nodes; regions = l; region_count = c; published = m.published }

-- the regions of a model, and a model with the regions gs
abbrev pub live : Model → List Region
live m = take m.region_count m.regions

abbrev pub laid : Model → List Region → Model
laid m gs = with_counted m (pad region_places no_region gs) (length gs)

-- the other places are zero
abbrev pub Laid : Model → Type 0
Laid m = m ≡ laid m (live m)
