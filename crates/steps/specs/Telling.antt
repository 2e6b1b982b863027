-- A log that tells how the listing changed.
use Rattle.std.specs.Prelude.{◌≡◌, ◌⊎◌, List, [], ◌∷◌, ◌++◌, ◌+◌, ◌≤◌, ◌<◌, length, take, drop}
use Rattle.model.specs.declared.Model.{Model}
use Rattle.model.specs.declared.Record.{Record}
use Rattle.model.specs.Rows.{paths}
use Rattle.model.specs.Logs.{kind_number, State}
use Rattle.steps.specs.Settled.{Sound}
use Rattle.paths.specs.Order.{Path}

-- what a record says of the listings before and after it
pub record Tells (l : List Path) (x : Record) (m : List Path) : Type 0 where
  pub kind : (kind_number x.kind ≡ 1) ⊎ ((kind_number x.kind ≡ 2) × (x.position < length l) × (x.removed ≡ 0) × (x.added ≡ 0))
  pub room : x.position + x.removed ≤ length l
  pub news : List Path
  pub many : length news ≡ x.added
  pub is : m ≡ take x.position l ++ news ++ drop (x.position + x.removed) l

pub data Told : List Path → List Record → List Path → Type 0 where
  nil : {l : List Path} → Told l [] l
  cons : {l m n : List Path} {x : Record} {xs : List Record} → Tells l x m → Told m xs n → Told l (x ∷ xs) n

-- the log goes on from s to t with records that tell how the listing changed
pub record Tale (s t : State) : Type 0 where
  pub news : List Record
  pub log : t.log ≡ s.log ++ news
  pub told : Told (paths s.nodes) news (paths t.nodes)

-- the model r comes of m, and the records xs tell it
pub record Result (m : Model) (xs : List Record) (r : Model) : Type 0 where
  pub sound : Sound r
  pub told : Told (paths m.nodes) xs (paths r.nodes)
