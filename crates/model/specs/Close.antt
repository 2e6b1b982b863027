-- Close (1, 4): the row's open children first, in ascending index, each by this same rule; then every node below is freed, also followed ones.
use Rattle.std.specs.Prelude.{ℕ, zero, suc, false, cond, not, set, eqb, leb}
use mathlib.Core.List.{List, [], ◌∷◌, ◌++◌, flat_map}
use Rattle.model.specs.declared.Node.{Node}
use Rattle.model.specs.declared.Model.{Model}
use Rattle.model.specs.Answers.{ChangeAnswer, no_change, refuse_if}
use Rattle.model.specs.Places.{depth}
use Rattle.model.specs.Nodes.{no_node, node_at, is_open, open_child, children, with_open, or_none}
use Rattle.model.specs.Rows.{row_total, row_at, row_of}
use Rattle.model.specs.Settle.{settle}
use Rattle.model.specs.Sound.{sound}
use Rattle.model.specs.Logs.{rows_change, State, state}
use Rattle.model.specs.Open.{changed}

-- node k and the open nodes below it, inner ones first, to a depth of f
unfoldable pub closing_order : List Node → ℕ → ℕ → List ℕ
closing_order ns zero k = []
closing_order ns (suc f) k = flat_map (λ j. closing_order ns f j) (children is_open ns k) ++ (k ∷ [])

-- the child nodes of p are freed
unfoldable pub free_below : ℕ → List Node → List Node
free_below p [] = []
free_below p (n ∷ ns) = cond (eqb n.parent p) no_node n ∷ free_below p ns

-- node k, none of whose children is open, is closed, and stays only if it is ongoing; logged at its position then
unfoldable pub close_one : State → ℕ → State
close_one s k =
    let n = node_at s.nodes k in
    state
    (set (free_below k s.nodes) k (or_none (with_open false n)))
    (s.log ++ (rows_change (suc (row_of s.nodes k)) n.direct 0 ∷ []))

unfoldable pub close_each : State → List ℕ → State
close_each s [] = s
close_each s (k ∷ ks) = close_each (close_one s k) ks

-- a closed row (0: it has no open node) is done with no change
unfoldable pub close_node : Model → ℕ → ChangeAnswer
close_node m zero = no_change 0 m
close_node m (suc k) =
    let s = close_each (state m.nodes []) (closing_order m.nodes depth (suc k)) in
    changed (settle s.nodes) s.log

unfoldable pub answer_close : Model → ℕ → ChangeAnswer
answer_close m r =
    refuse_if (not (sound m)) (no_change 1 m)
    (refuse_if (leb (row_total m.nodes) r) (no_change 4 m)
    (let x = row_at m.nodes r in close_node m (open_child m.nodes x.0 x.1)))
