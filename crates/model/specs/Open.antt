-- Open (1, 2, 4, 5, 6, 7): the recorded count, or the table's if there is no node, becomes rows below the row. An open row is done with no change.
use Rattle.std.specs.Prelude.{ℕ, zero, suc, ◌+◌, true, cond, not, List, [], ◌∷◌, set, eqb, ltb, leb}
use Rattle.model.specs.declared.Node.{Node}
use Rattle.model.specs.declared.Model.{Model}
use Rattle.model.specs.declared.Record.{Record}
use Rattle.model.specs.Answers.{ChangeAnswer, no_change, refuse_if}
use Rattle.model.specs.Places.{row_limit}
use Rattle.model.specs.Table.{readable}
use Rattle.model.specs.Nodes.{child, free, with_open}
use Rattle.model.specs.Rows.{Row, row_total, row_at}
use Rattle.model.specs.Settle.{settle}
use Rattle.model.specs.Sound.{sound}
use Rattle.model.specs.Logs.{rows_change, log_of}
use Rattle.model.specs.Fetch.{node_or_fresh}

abbrev pub changed : Model → List Record → ChangeAnswer
changed m l = record { refusal = 0; model = m; log = log_of l }

-- the number that a row's node has, or would get (0: none is free)
abbrev pub number_or_free : List Node → ℕ → ℕ
number_or_free ns zero = free ns
number_or_free ns (suc k) = suc k

-- row r, with node n of number j (0: no number is free)
unfoldable pub open_node : Model → ℕ → Node → ℕ → ChangeAnswer
open_node m r n j =
    cond n.«open»
    (no_change 0 m)
    (refuse_if (eqb n.direct 0) (no_change 5 m)
    (refuse_if (eqb j 0) (no_change 6 m)
    (refuse_if (ltb row_limit (row_total m.nodes + n.direct)) (no_change 7 m)
    (changed (settle (set m.nodes j (with_open true n))) (rows_change (suc r) 0 n.direct ∷ [])))))

abbrev pub open_row : List ℕ → Model → ℕ → Row → ChangeAnswer
open_row t m r x =
    let k = child m.nodes x.0 x.1 in
    open_node m r (node_or_fresh t m.nodes x k) (number_or_free m.nodes k)

unfoldable pub answer_open : List ℕ → Model → ℕ → ChangeAnswer
answer_open t m r =
    refuse_if (not (sound m)) (no_change 1 m)
    (refuse_if (not (readable t)) (no_change 2 m)
    (refuse_if (leb (row_total m.nodes) r) (no_change 4 m)
    (open_row t m r (row_at m.nodes r))))
