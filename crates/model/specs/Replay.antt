-- Replay, by GListModel's items-changed rule: the log, applied to the listing before the call, gives the listing after it.
use Rattle.std.specs.Prelude.{ℕ, ◌+◌, Bool, true, ◌&&◌, ◌||◌, List, [], ◌∷◌, ◌++◌, map, length, take, drop, replicate, eqb, ltb, leb}
use Rattle.std.proofs.Math.Option.{Option, none, some}
use Rattle.model.specs.declared.Model.{Model}
use Rattle.model.specs.declared.Record.{Record}
use Rattle.model.specs.declared.Log.{Log}
use Rattle.model.specs.Rows.{paths}
use Rattle.model.specs.Logs.{kind_number}
use Rattle.model.specs.Sound.{same_list}

-- a row that the viewer holds: its path, or none while it is unread
abbrev pub Held : Type 0
Held = Option (List ℕ)

-- the record speaks of rows that are there
unfoldable pub fits : List Held → Record → Bool
fits h x =
    eqb (kind_number x.kind) 1 && leb (x.position + x.removed) (length h) ||
    eqb (kind_number x.kind) 2 && ltb x.position (length h) && eqb x.removed 0 && eqb x.added 0

-- from the position on, rows are removed, and others are added that are not yet read
unfoldable pub replay_one : List Held → Record → List Held
replay_one h x = take x.position h ++ (replicate x.added none ++ drop (x.position + x.removed) h)

unfoldable pub replay_all : List Held → List Record → List Held
replay_all h [] = h
replay_all h (x ∷ xs) = replay_all (replay_one h x) xs

unfoldable pub all_fit : List Held → List Record → Bool
all_fit h [] = true
all_fit h (x ∷ xs) = fits h x && all_fit (replay_one h x) xs

-- an unread row is read from the final listing, at its place
unfoldable pub read_in : List Held → List (List ℕ) → List (List ℕ)
read_in [] ps = []
read_in (h ∷ hs) [] = [] ∷ read_in hs []
read_in (some p ∷ hs) (q ∷ ps) = p ∷ read_in hs ps
read_in (none ∷ hs) (q ∷ ps) = q ∷ read_in hs ps

abbrev pub records_of : Log → List Record
records_of l = take l.len l.records

abbrev pub held : Model → List Held
held m = map some (paths m.nodes)

-- every record fits where it is applied, and the paths held at the end are the model's
unfoldable pub replays : Model → Log → Model → Bool
replays before l after =
    all_fit (held before) (records_of l) &&
    same_list (same_list eqb) (read_in (replay_all (held before) (records_of l)) (paths after.nodes)) (paths after.nodes)
