-- Any operation as a call, and all that is seen of its answer.
use Rattle.std.specs.Prelude.{ℕ, Bool, true, false, ◌&&◌, List, [], ◌∷◌}
use Rattle.model.specs.declared.Model.{Model}
use Rattle.model.specs.declared.Log.{Log}
use Rattle.model.specs.declared.FetchedRow.{FetchedRow}
use Rattle.model.specs.Answers.{ModelAnswer, CountAnswer, FetchAnswer, ChangeAnswer, UpdateAnswer, no_row}
use Rattle.model.specs.Logs.{log_of}
use Rattle.model.specs.New.{zeros, answer_new}
use Rattle.model.specs.Count.{answer_count}
use Rattle.model.specs.Fetch.{answer_fetch}
use Rattle.model.specs.Open.{answer_open}
use Rattle.model.specs.Close.{answer_close}
use Rattle.model.specs.Release.{answer_release}
use Rattle.model.specs.Update.{answer_update}
use Rattle.model.specs.Replay.{replays}

-- a call with its table and its row number, where it takes them
pub data Call : Type 0 where
  new update : List ℕ → Call
  count : Call
  fetch opening : List ℕ → ℕ → Call
  close release : ℕ → Call

-- an answer of any operation; what an operation does not answer is empty, zero or false
pub record Seen : Type 0 where
  pub refusal : ℕ
  pub model : Model
  pub log : Log
  pub count : ℕ
  pub row : FetchedRow
  pub ongoing : Bool

abbrev pub of_model : ModelAnswer → Seen
of_model a = record { refusal = a.refusal; model = a.model; log = log_of []; count = 0; row = no_row; ongoing = false }

abbrev pub of_count : Model → CountAnswer → Seen
of_count m a = record { refusal = a.refusal; model = m; log = log_of []; count = a.count; row = no_row; ongoing = false }

abbrev pub of_fetch : FetchAnswer → Seen
of_fetch a = record { refusal = a.refusal; model = a.model; log = log_of []; count = 0; row = a.row; ongoing = false }

abbrev pub of_change : ChangeAnswer → Seen
of_change a = record { refusal = a.refusal; model = a.model; log = a.log; count = 0; row = no_row; ongoing = false }

abbrev pub of_update : UpdateAnswer → Seen
of_update a = record { refusal = a.refusal; model = a.model; log = a.log; count = 0; row = no_row; ongoing = a.ongoing }

unfoldable pub call : Model → Call → Seen
call m (new t) = of_model (answer_new t)
call m (update t) = of_update (answer_update t m)
call m count = of_count m (answer_count m)
call m (fetch t r) = of_fetch (answer_fetch t m r)
call m (opening t r) = of_change (answer_open t m r)
call m (close r) = of_change (answer_close m r)
call m (release r) = of_model (answer_release m r)

-- the model that a call starts from: a new one comes of nothing
abbrev pub before : Model → Call → Model
before m (new t) = zeros
before m (update t) = m
before m count = m
before m (fetch t r) = m
before m (opening t r) = m
before m (close r) = m
before m (release r) = m

-- each call is made on the model that the one before it gave
unfoldable pub answers : Model → List Call → List Seen
answers m [] = []
answers m (c ∷ cs) = let a = call m c in a ∷ answers a.model cs

-- the model after the last call
unfoldable pub after : Model → List Call → Model
after m [] = m
after m (c ∷ cs) = after (call m c).model cs

-- each call's log, replayed on the listing before the call, gives the listing after it
unfoldable pub all_replay : Model → List Call → Bool
all_replay m [] = true
all_replay m (c ∷ cs) = let a = call m c in replays (before m c) a.log a.model && all_replay a.model cs
