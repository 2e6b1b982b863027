-- Release (1, 4, 9): frees a closed followed row's node; a row without a node is done.
use Rattle.std.specs.Prelude.{ℕ, zero, suc, not, set, leb}
use Rattle.model.specs.declared.Model.{Model}
use Rattle.model.specs.Answers.{ModelAnswer, just_model, refuse_if}
use Rattle.model.specs.Nodes.{no_node, node_at, is_open, child}
use Rattle.model.specs.Rows.{row_total, row_at}
use Rattle.model.specs.Settle.{settle}
use Rattle.model.specs.Sound.{sound}

unfoldable pub release_node : Model → ℕ → ModelAnswer
release_node m zero = just_model 0 m
release_node m (suc k) =
    refuse_if (is_open (node_at m.nodes (suc k))) (just_model 9 m)
    (just_model 0 (settle (set m.nodes (suc k) no_node)))

unfoldable pub answer_release : Model → ℕ → ModelAnswer
answer_release m r =
    refuse_if (not (sound m)) (just_model 1 m)
    (refuse_if (leb (row_total m.nodes) r) (just_model 4 m)
    (let x = row_at m.nodes r in release_node m (child m.nodes x.0 x.1)))
