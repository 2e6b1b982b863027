-- More calls, computed from the definitions: refusals 1 to 5, 8 and 9, a closing with followed rows below it, an update three levels deep.
use Prim.Native.Nat.{ℕ}
use mathlib.Core.Path.{◌≡◌, refl}
use mathlib.Core.Bool.{true, false}
use mathlib.Core.List.{List, [], ◌∷◌, map}
use Rattle.model.specs.declared.Record.{Record}
use Rattle.model.specs.Regions.{region}
use Rattle.model.specs.Logs.{rows_change, text_change}
use Rattle.model.specs.New.{zeros}
use Rattle.model.specs.Rows.{paths}
use Rattle.model.specs.Replay.{records_of}
use Rattle.model.specs.Calls.{Call, new, update, count, fetch, opening, close, release, Seen, answers, after, all_replay}
use Rattle.model.specs.SmallCapture.{T0, T1, node, holding, model_b}
use Rattle.model.proofs.Everything.{everything}

abbrev refusals : List Call → List ℕ
refusals cs = map (λ (a : Seen). a.refusal) (answers zeros cs)

abbrev logs : List Call → List (List Record)
logs cs = map (λ (a : Seen). records_of a.log) (answers zeros cs)

-- 2 for tables of 0, 4 and 6 words, 3 for a capture that has children, and then 1 for all that is asked of a model of zeros
pub no_model :
    refusals
    (new [] ∷ new (0 ∷ 0 ∷ 0 ∷ 0 ∷ []) ∷ new (0 ∷ 0 ∷ 0 ∷ 0 ∷ 0 ∷ 0 ∷ []) ∷ new T1 ∷ count ∷ update T1 ∷ fetch T1 0 ∷ opening T1 0 ∷ close 0 ∷ release 0 ∷ [])
    ≡ 2 ∷ 2 ∷ 2 ∷ 3 ∷ 1 ∷ 1 ∷ 1 ∷ 1 ∷ 1 ∷ 1 ∷ []
unfolding everything
no_model = refl

-- 4 past the last row, 2 from the same calls with a bad table, 8 when a visited entry is not listed, 5 on a leaf, 9 on an open row; a row without a node is released
pub past_and_open :
    refusals
    (new T0 ∷ update T1 ∷ opening T1 2 ∷ release 2 ∷ fetch T1 4 ∷ opening T1 4 ∷ close 4 ∷ release 4 ∷ fetch [] 4 ∷ opening [] 4 ∷ update [] ∷ update (0 ∷ 0 ∷ 3 ∷ 0 ∷ 0 ∷ []) ∷ opening T1 1 ∷ close 2 ∷ release 2 ∷ release 2 ∷ [])
    ≡ 0 ∷ 0 ∷ 0 ∷ 9 ∷ 4 ∷ 4 ∷ 4 ∷ 4 ∷ 2 ∷ 2 ∷ 2 ∷ 8 ∷ 5 ∷ 0 ∷ 0 ∷ 0 ∷ []
unfolding everything
past_and_open = refl

-- a closed ongoing row keeps its node, and a release gives back the model of case b
pub close_keeps :
    after zeros (new T0 ∷ update T1 ∷ opening T1 2 ∷ close 2 ∷ [])
    ≡ holding (node 0 0 0 3 3 0 true true ∷ node 0 2 2 1 1 7 false true ∷ []) (region 0 0 0 3 ∷ []) 3
unfolding everything
close_keeps = refl

pub release_back : after zeros (new T0 ∷ update T1 ∷ opening T1 2 ∷ close 2 ∷ release 2 ∷ []) ≡ model_b
unfolding everything
release_back = refl

-- the capture's child 0 is ongoing; of its children, 0 is complete and 1 is ongoing
abbrev T3 : List ℕ
T3 = 0 ∷ 0 ∷ 2 ∷ 0 ∷ 0 ∷ 0 ∷ 0 ∷ 2 ∷ 0 ∷ 1 ∷ 1 ∷ 1 ∷ 1 ∷ 0 ∷ 5 ∷ 1 ∷ 0 ∷ 1 ∷ 1 ∷ 0 ∷ []

-- the capture and both ongoing rows have grown, and the inner one is complete
abbrev T4 : List ℕ
T4 = 0 ∷ 0 ∷ 3 ∷ 1 ∷ 0 ∷ 0 ∷ 0 ∷ 3 ∷ 0 ∷ 2 ∷ 1 ∷ 1 ∷ 3 ∷ 1 ∷ 6 ∷ 1 ∷ 0 ∷ 1 ∷ 1 ∷ 0 ∷ []

-- a closing frees followed rows below, and the row's own node stays, since it is ongoing
abbrev closing : List Call
closing = new T0 ∷ update T3 ∷ opening T3 0 ∷ fetch T3 2 ∷ opening T3 1 ∷ close 0 ∷ []

pub closing_log : logs closing ≡ [] ∷ (rows_change 0 0 2 ∷ []) ∷ (rows_change 1 0 2 ∷ []) ∷ [] ∷ (rows_change 2 0 1 ∷ []) ∷ (rows_change 2 1 0 ∷ rows_change 1 2 0 ∷ []) ∷ []
unfolding everything
closing_log = refl

pub closing_model : after zeros closing ≡ holding (node 0 0 0 2 2 0 true true ∷ node 0 0 1 2 2 1 false true ∷ []) (region 0 0 0 2 ∷ []) 2
unfolding everything
closing_model = refl

-- an update of the capture, a row of it and a row below that, all open: text first, then what is below, then a row's own growth
abbrev updating : List Call
updating = new T0 ∷ update T3 ∷ opening T3 0 ∷ opening T3 2 ∷ opening T3 1 ∷ update T4 ∷ []

pub updating_log :
    logs updating
    ≡ [] ∷
    (rows_change 0 0 2 ∷ []) ∷
    (rows_change 1 0 2 ∷ []) ∷
    (rows_change 3 0 1 ∷ []) ∷
    (rows_change 2 0 1 ∷ []) ∷
    (text_change 0 ∷ text_change 3 ∷ rows_change 5 0 2 ∷ rows_change 7 0 1 ∷ rows_change 9 0 1 ∷ []) ∷
    []
unfolding everything
updating_log = refl

-- versions stay, since children were added; the inner row is complete, and its node stays, since it is open
pub updating_model :
    after zeros updating
    ≡ holding
    (node 0 0 0 3 10 0 true false ∷ node 0 0 1 3 7 1 true true ∷ node 1 1 2 3 3 5 true false ∷ node 1 0 3 1 1 0 true false ∷ [])
    (region 0 0 0 1 ∷ region 1 1 0 1 ∷ region 2 3 0 1 ∷ region 3 1 1 1 ∷ region 4 2 0 3 ∷ region 7 1 2 1 ∷ region 8 0 1 2 ∷ [])
    10
unfolding everything
updating_model = refl

pub closing_replays : all_replay zeros closing ≡ true
unfolding everything
closing_replays = refl

pub updating_replays : all_replay zeros updating ≡ true
unfolding everything
updating_replays = refl

-- from b, rows 0 and 4, or rows 2 and 0, are opened: one listing, of 6 rows
abbrev six : List (List ℕ)
six = (0 ∷ []) ∷ (0 ∷ 0 ∷ []) ∷ (0 ∷ 1 ∷ []) ∷ (1 ∷ []) ∷ (2 ∷ []) ∷ (2 ∷ 0 ∷ []) ∷ []

pub one_order : paths (after model_b (opening T1 0 ∷ opening T1 4 ∷ [])).nodes ≡ six
unfolding everything
one_order = refl

pub other_order : paths (after model_b (opening T1 2 ∷ opening T1 0 ∷ [])).nodes ≡ six
unfolding everything
other_order = refl
