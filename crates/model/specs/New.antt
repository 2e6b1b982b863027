-- New (2, 3): no rows, no regions; the capture is ongoing or complete as its state word says. A refused new gives a model of zeros.
use Rattle.std.specs.Prelude.{ℕ, true, not, List, ◌∷◌, replicate, ltb}
use Rattle.model.specs.declared.Node.{Node}
use Rattle.model.specs.declared.Model.{Model}
use Rattle.model.specs.Answers.{ModelAnswer, just_model, refuse_if}
use Rattle.model.specs.Places.{node_places, region_places, longest_chain}
use Rattle.model.specs.Table.{readable, item_count, item_ongoing}
use Rattle.model.specs.Nodes.{no_node}
use Rattle.model.specs.Regions.{no_region}
use Rattle.model.specs.Settle.{settle}

unfoldable pub zeros : Model
zeros = record { nodes = replicate node_places no_node; regions = replicate region_places no_region; region_count = 0; published = 0 }

abbrev pub capture : List ℕ → Node
capture t = record { parent = 0; index = 0; entry = 0; direct = 0; total = 0; version = 0; «open» = true; ongoing = item_ongoing t 0 }

unfoldable pub answer_new : List ℕ → ModelAnswer
answer_new t =
    refuse_if (not (readable t)) (just_model 2 zeros)
    (refuse_if (ltb 0 (item_count t 0)) (just_model 3 zeros)
    (just_model 0 (settle (capture t ∷ replicate longest_chain no_node))))
