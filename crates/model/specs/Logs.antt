-- The log: records of kind, position, removed, added; 1 for rows, 2 for text with removed and added 0.
use Rattle.std.specs.Prelude.{ℕ, Bool, true, false, List, [], ◌∷◌, length}
use Rattle.model.specs.declared.Node.{Node}
use Rattle.model.specs.declared.Kind.{Kind}
use Rattle.model.specs.declared.Kind.TheVariants.{Nothing, Rows, Text}
use Rattle.model.specs.declared.Record.{Record}
use Rattle.model.specs.declared.Log.{Log}
use Rattle.model.specs.Places.{log_places, pad}

-- the number of each kind; an unused place is zero
abbrev pub kind_number : Kind → ℕ
kind_number Nothing = 0
kind_number Rows = 1
kind_number Text = 2

abbrev pub no_record : Record
no_record = record { kind = Nothing; position = 0; removed = 0; added = 0 }

abbrev pub rows_change : ℕ → ℕ → ℕ → Record
rows_change r gone come = record { kind = Rows; position = r; removed = gone; added = come }

abbrev pub text_change : ℕ → Record
text_change r = record { kind = Text; position = r; removed = 0; added = 0 }

abbrev pub logged_if : Bool → Record → List Record
logged_if true x = x ∷ []
logged_if false x = []

-- the records laid into the log's places
unfoldable pub log_of : List Record → Log
log_of l = record { records = pad log_places no_record l; len = length l }

-- in the middle of a closing or an update: the nodes as they stand, and what was logged so far
pub record State : Type 0 where
  pub nodes : List Node
  pub log : List Record

abbrev pub state : List Node → List Record → State
state ns l = record { nodes = ns; log = l }
