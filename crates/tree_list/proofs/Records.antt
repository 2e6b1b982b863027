-- No record, one, and one more, laid into the log's places.
use Prim.Native.Nat.{◌<◌}
use native.Mathlib.Omega.{arith}
use mathlib.Core.Path.{◌≡◌, sym, ap, ◌∙◌}
use mathlib.Core.List.{List, [], ◌∷◌, ◌++◌}
use lib.ListN.{length, set, replicate, length-append}
use Rattle.model.specs.declared.Record.{Record}
use Rattle.model.specs.declared.Log.{Log}
use Rattle.model.specs.Places.{log_places}
use Rattle.model.specs.Logs.{no_record, log_of}
use Rattle.runs.proofs.Edits.{pad_is, add_pad}
use Rattle.tree_list.specs.Logging.{logged}

pub log_none : (x : Record) → x ≡ no_record → ◌≡◌ {A = Log} (record { records = replicate log_places x; len = 0 }) (log_of [])
unfolding log_of
log_none x e = λ z. record { records = (ap (replicate log_places) e ∙ sym (pad_is log_places no_record [] log_places (omega arith))) z; len = 0 }

pub log_one : (l : Log) (x : Record) → l ≡ log_of [] → ◌≡◌ {A = Log} (record { records = set l.records 0 x; len = 1 }) (log_of (x ∷ []))
unfolding log_of
log_one l x e = λ z. record { records = (ap (λ (a : Log). set a.records 0 x) e ∙ add_pad log_places no_record [] (omega arith) x (omega arith)) z; len = 1 }

pub logged_of : (l : List Record) (x : Record) → length l < log_places → logged (log_of l) x ≡ log_of (l ++ (x ∷ []))
unfolding log_of
logged_of l x h = λ i. record { records = add_pad log_places no_record l (omega arith) x h i; len = sym (length-append l (x ∷ [])) i }
