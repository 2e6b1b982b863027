-- Update (1, 2, 8, 7 in this order): visits the capture, and below each visited open node its ongoing child nodes in ascending index.
use Rattle.std.specs.Prelude.{ℕ, zero, suc, ◌+◌, ◌-◌, Bool, false, cond, not, ◌&&◌, ◌||◌, set, eqb, ltb, leb}
use mathlib.Core.List.{List, [], ◌∷◌, ◌++◌, flat_map}
use Rattle.model.specs.declared.Node.{Node}
use Rattle.model.specs.declared.Model.{Model}
use Rattle.model.specs.declared.Step.{Step}
use Rattle.model.specs.declared.Step.TheVariants.{Text, Grow}
use Rattle.model.specs.Answers.{UpdateAnswer, no_update, refuse_if}
use Rattle.model.specs.Places.{depth, row_limit}
use Rattle.model.specs.Table.{entries, readable, item_count, item_ongoing, item_version}
use Rattle.model.specs.Nodes.{node_at, is_open, is_ongoing, children, with_version, with_direct, with_ongoing, or_none}
use Rattle.model.specs.Rows.{row_total, row_of, total_of}
use Rattle.model.specs.Settle.{settle}
use Rattle.model.specs.Sound.{sound}
use Rattle.model.specs.Logs.{rows_change, text_change, logged_if, State, state, log_of}

-- the children that are visited below a visited node k
abbrev pub followed : List Node → ℕ → List ℕ
followed ns k = cond (is_open (node_at ns k)) (children is_ongoing ns k) []

-- the visit of node k: its text step first, the visits of its children, its growth step last; to a depth of f
unfoldable pub visit : List Node → ℕ → ℕ → List Step
visit ns zero k = []
visit ns (suc f) k = Text k ∷ (flat_map (λ j. visit ns f j) (followed ns k) ++ (Grow k ∷ []))

-- all visits, as the nodes stood at the start
abbrev pub visits : List Node → List Step
visits ns = visit ns depth 0

-- node k's item went back: its entry number isn't in the table, or its count is below the recorded one
unfoldable pub went_back : List ℕ → List Node → ℕ → Bool
went_back t ns k =
    leb (entries t) (node_at ns k).entry || ltb (item_count t (node_at ns k).entry) (node_at ns k).direct

unfoldable pub any_went_back : List ℕ → List Node → List Step → Bool
any_went_back t ns [] = false
any_went_back t ns (Text k ∷ es) = went_back t ns k || any_went_back t ns es
any_went_back t ns (Grow k ∷ es) = any_went_back t ns es

-- how many children were added
abbrev pub added : List ℕ → Node → ℕ
added t n = item_count t n.entry - n.direct

-- the row after the last one below node k
unfoldable pub end_of : List Node → ℕ → ℕ
end_of ns zero = row_total ns
end_of ns (suc k) = suc (row_of ns (suc k)) + total_of ns (suc k)

-- a row's text is due if children were added, or else if the version differs, and only then the new version is recorded. The capture has no row
unfoldable pub text_step : List ℕ → State → ℕ → State
text_step t s zero = s
text_step t s (suc k) =
    let n = node_at s.nodes (suc k) in
    let v = item_version t n.entry in
    let more = ltb 0 (added t n) in
    state
    (cond more s.nodes (set s.nodes (suc k) (with_version v n)))
    (s.log ++ logged_if (more || not (eqb n.version v)) (text_change (row_of s.nodes (suc k))))

-- an open node's added rows come after its last one, a closed node only records its count; one that the table calls complete stops being ongoing, and is freed if closed
unfoldable pub grow_step : List ℕ → State → ℕ → State
grow_step t s k =
    let n = node_at s.nodes k in
    state
    (set s.nodes k (or_none (with_direct (item_count t n.entry) (with_ongoing (n.ongoing && item_ongoing t n.entry) n))))
    (s.log ++ logged_if (n.«open» && ltb 0 (added t n)) (rows_change (end_of s.nodes k) 0 (added t n)))

unfoldable pub step : List ℕ → State → Step → State
step t s (Text k) = text_step t s k
step t s (Grow k) = grow_step t s k

unfoldable pub steps : List ℕ → State → List Step → State
steps t s [] = s
steps t s (e ∷ es) = steps t (step t s e) es

-- what the steps came to, unless there are too many rows; the capture is ongoing until the table has once called it complete
unfoldable pub updated : Model → State → UpdateAnswer
updated m s =
    refuse_if (ltb row_limit (row_total s.nodes)) (no_update 7 m)
    (record { refusal = 0; model = settle s.nodes; log = log_of s.log; ongoing = (node_at s.nodes 0).ongoing })

unfoldable pub answer_update : List ℕ → Model → UpdateAnswer
answer_update t m =
    refuse_if (not (sound m)) (no_update 1 m)
    (refuse_if (not (readable t)) (no_update 2 m)
    (refuse_if (any_went_back t m.nodes (visits m.nodes)) (no_update 8 m)
    (updated m (steps t (state m.nodes []) (visits m.nodes)))))
