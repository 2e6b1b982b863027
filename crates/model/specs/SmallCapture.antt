-- The small capture of document 01: its tables, its calls a to l, and the table of what each gives.
use Rattle.std.specs.Prelude.{ℕ, Bool, true, false, List, [], ◌∷◌, length}
use Rattle.model.specs.declared.Node.{Node}
use Rattle.model.specs.declared.Region.{Region}
use Rattle.model.specs.declared.Model.{Model}
use Rattle.model.specs.declared.Record.{Record}
use Rattle.model.specs.declared.FetchedRow.{FetchedRow}
use Rattle.model.specs.Places.{node_places, region_places, pad, unless_zero}
use Rattle.model.specs.Nodes.{no_node}
use Rattle.model.specs.Regions.{region, no_region}
use Rattle.model.specs.Logs.{rows_change, text_change, log_of}
use Rattle.model.specs.Answers.{no_row}
use Rattle.model.specs.Calls.{Call, new, update, fetch, opening, close, Seen}

abbrev pub T0 : List ℕ
T0 = 0 ∷ 0 ∷ 0 ∷ 0 ∷ 0 ∷ []

abbrev pub T1 : List ℕ
T1 = 0 ∷ 0 ∷ 3 ∷ 0 ∷ 0 ∷ 0 ∷ 0 ∷ 2 ∷ 1 ∷ 0 ∷ 0 ∷ 2 ∷ 1 ∷ 0 ∷ 7 ∷ 1 ∷ 1 ∷ 4 ∷ 1 ∷ 0 ∷ []

abbrev pub T2 : List ℕ
T2 = 0 ∷ 0 ∷ 5 ∷ 1 ∷ 0 ∷ 0 ∷ 0 ∷ 2 ∷ 1 ∷ 0 ∷ 0 ∷ 2 ∷ 3 ∷ 0 ∷ 8 ∷ 1 ∷ 1 ∷ 4 ∷ 1 ∷ 0 ∷ []

abbrev pub node : ℕ → ℕ → ℕ → ℕ → ℕ → ℕ → Bool → Bool → Node
node p i e d t v o g = record { parent = p; index = i; entry = e; direct = d; total = t; version = v; «open» = o; ongoing = g }

-- a model by its first nodes, its regions and its published count: every other place is zero
abbrev pub holding : List Node → List Region → ℕ → Model
holding ns rs c =
    record {
      nodes = pad node_places no_node ns;
      regions = pad region_places no_region rs;
      region_count = length rs;
      published = c;
    }

abbrev pub row : ℕ → ℕ → ℕ → ℕ → ℕ → Bool → Bool → ℕ → FetchedRow
row p i e c v o g k =
    record { parent_entry = p; index = record { 0 = i }; entry = e; count = c; version = v; «open» = o; ongoing = g; node = unless_zero k }

-- the model after each case
abbrev pub model_a : Model
model_a = holding (node 0 0 0 0 0 0 true true ∷ []) [] 0

abbrev pub model_b : Model
model_b = holding (node 0 0 0 3 3 0 true true ∷ []) (region 0 0 0 3 ∷ []) 3

abbrev pub model_c : Model
model_c =
    holding
    (node 0 0 0 3 5 0 true true ∷ node 0 0 1 2 2 0 true false ∷ [])
    (region 0 0 0 1 ∷ region 1 1 0 2 ∷ region 3 0 1 2 ∷ [])
    5

abbrev pub model_d : Model
model_d =
    holding
    (node 0 0 0 3 9 0 true true ∷ node 0 0 1 2 6 0 true false ∷ node 1 1 3 4 4 0 true false ∷ [])
    (region 0 0 0 1 ∷ region 1 1 0 2 ∷ region 3 2 0 4 ∷ region 7 0 1 2 ∷ [])
    9

abbrev pub model_e : Model
model_e =
    holding
    (node 0 0 0 3 9 0 true true ∷ node 0 0 1 2 6 0 true false ∷ node 1 1 3 4 4 0 true false ∷ node 0 2 2 1 1 7 false true ∷ [])
    (region 0 0 0 1 ∷ region 1 1 0 2 ∷ region 3 2 0 4 ∷ region 7 0 1 2 ∷ [])
    9

abbrev pub model_f : Model
model_f =
    holding
    (node 0 0 0 3 10 0 true true ∷ node 0 0 1 2 6 0 true false ∷ node 1 1 3 4 4 0 true false ∷ node 0 2 2 1 1 7 true true ∷ [])
    (region 0 0 0 1 ∷ region 1 1 0 2 ∷ region 3 2 0 4 ∷ region 7 0 1 2 ∷ region 9 3 0 1 ∷ [])
    10

abbrev pub model_g : Model
model_g =
    holding
    (node 0 0 0 5 14 0 true false ∷ node 0 0 1 2 6 0 true false ∷ node 1 1 3 4 4 0 true false ∷ node 0 2 2 3 3 7 true true ∷ [])
    (region 0 0 0 1 ∷ region 1 1 0 2 ∷ region 3 2 0 4 ∷ region 7 0 1 2 ∷ region 9 3 0 3 ∷ region 12 0 3 2 ∷ [])
    14

abbrev pub model_h : Model
model_h =
    holding
    (node 0 0 0 5 14 0 true false ∷ node 0 0 1 2 6 0 true false ∷ node 1 1 3 4 4 0 true false ∷ node 0 2 2 3 3 8 true true ∷ [])
    (region 0 0 0 1 ∷ region 1 1 0 2 ∷ region 3 2 0 4 ∷ region 7 0 1 2 ∷ region 9 3 0 3 ∷ region 12 0 3 2 ∷ [])
    14

abbrev pub model_i : Model
model_i =
    holding
    (node 0 0 0 5 8 0 true false ∷ no_node ∷ no_node ∷ node 0 2 2 3 3 8 true true ∷ [])
    (region 0 0 0 3 ∷ region 3 3 0 3 ∷ region 6 0 3 2 ∷ [])
    8

abbrev pub calls : List Call
calls =
    new T0 ∷
    update T1 ∷
    opening T1 0 ∷
    opening T1 2 ∷
    fetch T1 8 ∷
    opening T1 8 ∷
    update T2 ∷
    update T2 ∷
    update T2 ∷
    close 0 ∷
    opening T2 1 ∷
    fetch T2 8 ∷
    fetch T2 7 ∷
    update T1 ∷
    []

abbrev pub seen : ℕ → Model → List Record → FetchedRow → Bool → Seen
seen n m l w b = record { refusal = n; model = m; log = log_of l; count = 0; row = w; ongoing = b }

-- a line for each call: refusal, model, log, row answer, and whether update says that the capture is still ongoing
abbrev pub table : List Seen
table =
    seen 0 model_a [] no_row false ∷
    seen 0 model_b (rows_change 0 0 3 ∷ []) no_row true ∷
    seen 0 model_c (rows_change 1 0 2 ∷ []) no_row false ∷
    seen 0 model_d (rows_change 3 0 4 ∷ []) no_row false ∷
    seen 0 model_e [] (row 0 2 2 1 7 false true 3) false ∷
    seen 0 model_f (rows_change 9 0 1 ∷ []) no_row false ∷
    seen 0 model_g (text_change 8 ∷ rows_change 10 0 2 ∷ rows_change 12 0 2 ∷ []) no_row false ∷
    seen 0 model_h (text_change 8 ∷ []) no_row false ∷
    seen 0 model_h [] no_row false ∷
    seen 0 model_i (rows_change 3 4 0 ∷ rows_change 1 2 0 ∷ []) no_row false ∷
    seen 5 model_i [] no_row false ∷
    seen 4 model_i [] no_row false ∷
    seen 0 model_i [] (row 0 4 0 0 0 false false 0) false ∷
    seen 8 model_i [] no_row false ∷
    []
