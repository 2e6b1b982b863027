-- Every call, on any model and with any arguments: what it gives back is sound, or is what it was given, and its log replays.
use mathlib.Core.Path.{◌≡◌}
use mathlib.Core.Logic.{◌≢◌}
use mathlib.Core.Bool.{true}
use mathlib.Core.List.{[]}
use Prim.Native.Nat.{◌≤◌}
use native.Mathlib.Omega.{arith}
use Rattle.model.specs.declared.Model.{Model}
use Rattle.model.specs.Sound.{sound}
use Rattle.model.specs.Logs.{log_of}
use Rattle.model.specs.Replay.{replays}
use Rattle.steps.specs.Telling.{nil}
use Rattle.steps.proofs.Settling.{sound_to}
use Rattle.steps.proofs.Replay.{told_replays}
use Rattle.model.specs.Calls.{Call, call, before}
use Rattle.demands.proofs.Outcomes.{Outcome, refused, done, outcome}

-- a call that is done gives a sound model
pub kept : (m : Model) (c : Call) → (call m c).refusal ≡ 0 → sound (call m c).model ≡ true
kept m c e = go (outcome m c)
  where
    go : Outcome (before m c) (call m c) → sound (call m c).model ≡ true
    go (refused n s l) = absurd (n e)
    go (done d xs l h R) = sound_to (call m c).model R.sound

-- a refused one gives back the model as it came, or zeros if it was to be new, and an empty log
pub given_back : (m : Model) (c : Call) → (call m c).refusal ≢ 0 → ((call m c).model ≡ before m c) × ((call m c).log ≡ log_of [])
given_back m c n = go (outcome m c)
  where
    go : Outcome (before m c) (call m c) → ((call m c).model ≡ before m c) × ((call m c).log ≡ log_of [])
    go (refused d s l) = (s, l)
    go (done d xs l h R) = absurd (n d)

-- so a call on a sound model, other than a new one, always gives a sound model
pub kept_sound : (m : Model) (c : Call) → sound (before m c) ≡ true → sound (call m c).model ≡ true
kept_sound m c s = go (outcome m c)
  where
    go : Outcome (before m c) (call m c) → sound (call m c).model ≡ true
    go (refused d e l) = rw e s
    go (done d xs l h R) = sound_to (call m c).model R.sound

-- the log of every call, replayed on the listing before it, gives the listing after it
pub replayed : (m : Model) (c : Call) → replays (before m c) (call m c).log (call m c).model ≡ true
replayed m c = go (outcome m c)
  where
    go : Outcome (before m c) (call m c) → replays (before m c) (call m c).log (call m c).model ≡ true
    go (refused d e l) = rw (e, l) (told_replays (before m c) [] (before m c) nil (omega arith))
    go (done d xs l h R) = rw l (told_replays (before m c) xs (call m c).model R.told (omega arith))

-- no log has more than 511 records, so none is cut off by its 512 places
pub log_short : (m : Model) (c : Call) → (call m c).log.len ≤ 511
unfolding log_of
log_short m c = go (outcome m c)
  where
    go : Outcome (before m c) (call m c) → (call m c).log.len ≤ 511
    go (refused d e l) = rw l (omega arith)
    go (done d xs l h R) = rw l h
