-- What a refusal gives back: the model as it came, an empty log, zeros in the row answer, and "not ongoing".
use Rattle.std.specs.Prelude.{ℕ, Bool, true, false, None, Result, Ok, Err, []}
use Rattle.model.specs.declared.Model.{Model}
use Rattle.model.specs.declared.Log.{Log}
use Rattle.model.specs.declared.FetchedRow.{FetchedRow}
use Rattle.model.specs.declared.Refusal.{Refusal}
use Rattle.model.specs.declared.Refusal.TheVariants.{UnsoundModel, UnreadableTable, FilledCapture, PastRows, NothingBelow, NodesFull, TooManyRows, WentBack, RowOpen}
use Rattle.model.specs.declared.Refused.{Refused}
use Rattle.model.specs.declared.Fetched.{Fetched}
use Rattle.model.specs.declared.Changed.{Changed}
use Rattle.model.specs.declared.Updated.{Updated}
use Rattle.model.specs.Logs.{log_of}

-- the answers in document 01's numbers and values: refusal 0 is "done"
pub record ModelAnswer : Type 0 where
  pub refusal : ℕ
  pub model : Model

pub record CountAnswer : Type 0 where
  pub refusal : ℕ
  pub count : ℕ

pub record FetchAnswer : Type 0 where
  pub refusal : ℕ
  pub model : Model
  pub row : FetchedRow

pub record ChangeAnswer : Type 0 where
  pub refusal : ℕ
  pub model : Model
  pub log : Log

pub record UpdateAnswer : Type 0 where
  pub refusal : ℕ
  pub model : Model
  pub log : Log
  pub ongoing : Bool

abbrev pub no_row : FetchedRow
no_row = record { parent_entry = 0; index = record { 0 = 0 }; entry = 0; count = 0; version = 0; «open» = false; ongoing = false; node = None }

-- the answer with refusal n, by what the operation answers
abbrev pub just_model : ℕ → Model → ModelAnswer
just_model n m = record { refusal = n; model = m }

abbrev pub no_fetch : ℕ → Model → FetchAnswer
no_fetch n m = record { refusal = n; model = m; row = no_row }

abbrev pub no_change : ℕ → Model → ChangeAnswer
no_change n m = record { refusal = n; model = m; log = log_of [] }

abbrev pub no_update : ℕ → Model → UpdateAnswer
no_update n m = record { refusal = n; model = m; log = log_of []; ongoing = false }

-- the refusal if its test holds, or else what comes next: so the lowest number that applies is given
abbrev pub refuse_if : {A : Type 0} → Bool → A → A → A
refuse_if true refusal next = refusal
refuse_if false refusal next = next

-- the number of each refusal
abbrev pub number : Refusal → ℕ
number UnsoundModel = 1
number UnreadableTable = 2
number FilledCapture = 3
number PastRows = 4
number NothingBelow = 5
number NodesFull = 6
number TooManyRows = 7
number WentBack = 8
number RowOpen = 9

-- what the code answers, in these numbers and values
abbrev pub model_answer : Result Model Refused → ModelAnswer
model_answer (Ok m) = just_model 0 m
model_answer (Err e) = just_model (number e.refusal) e.model

abbrev pub count_answer : Result ℕ Refusal → CountAnswer
count_answer (Ok c) = record { refusal = 0; count = c }
count_answer (Err e) = record { refusal = number e; count = 0 }

abbrev pub fetch_answer : Result Fetched Refused → FetchAnswer
fetch_answer (Ok a) = record { refusal = 0; model = a.model; row = a.row }
fetch_answer (Err e) = no_fetch (number e.refusal) e.model

abbrev pub change_answer : Result Changed Refused → ChangeAnswer
change_answer (Ok a) = record { refusal = 0; model = a.model; log = a.log }
change_answer (Err e) = no_change (number e.refusal) e.model

abbrev pub update_answer : Result Updated Refused → UpdateAnswer
update_answer (Ok a) = record { refusal = 0; model = a.model; log = a.log; ongoing = a.ongoing }
update_answer (Err e) = no_update (number e.refusal) e.model
