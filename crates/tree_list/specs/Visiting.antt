-- The steps of an update carried out: what stands between two steps, and what each step asks and does.
use Rattle.std.specs.Prelude.{ℕ, ◌+◌, ◌≤◌, ◌<◌, ◌≡◌, Bool, true, false, List}
use Rattle.model.specs.declared.Record.{Record}
use Rattle.model.specs.declared.Log.{Log}
use Rattle.model.specs.Places.{row_limit}
use Rattle.model.specs.Nodes.{node_at}
use Rattle.model.specs.Rows.{row_total}
use Rattle.model.specs.Settle.{settle}
use Rattle.model.specs.Logs.{State, log_of}
use Rattle.model.specs.Update.{added, step}
use Rattle.model.specs.declared.Step.{Step}
use Rattle.model.specs.declared.Step.TheVariants.{Text, Grow}
use Rattle.tree.specs.WellFormed.{Opens}
use Rattle.steps.specs.Course.{Ready}
use Rattle.steps.specs.Settled.{Sound}
use Rattle.model.specs.declared.Changed.{Changed}
use Rattle.tree_list.specs.Logging.{logged}

-- a record added to a log, if a test holds
abbrev pub logged_when : Bool → Log → Record → Log
logged_when true l x = logged l x
logged_when false l x = l

-- p is the state s: its nodes settled, its records laid into their places
pub record Holding (p : Changed) (s : State) : Type 0 where
  pub model : p.model ≡ settle s.nodes
  pub log : p.log ≡ log_of s.log

-- whatever state p is, r is that state after the step e
abbrev pub Does : List ℕ → Changed → Step → Changed → Type 0
Does t p e r = (s : State) → Holding p s → Holding r (step t s e)

-- node k's text step can be taken
pub record Texted (t : List ℕ) (p : Changed) (k : ℕ) : Type 0 where
  pub sound : Sound p.model
  pub ready : Ready t p.model.nodes k
  pub room : p.log.len < 512

-- and its growth, for which there is room
pub record Grown (t : List ℕ) (p : Changed) (k : ℕ) : Type 0 where
  pub texted : Texted t p k
  pub limit : Opens p.model.nodes k → row_total p.model.nodes + added t (node_at p.model.nodes k) ≤ row_limit

-- the step can be taken
abbrev pub Stepping : List ℕ → Changed → Step → Type 0
Stepping t p (Text k) = Texted t p k
Stepping t p (Grow k) = Grown t p k
