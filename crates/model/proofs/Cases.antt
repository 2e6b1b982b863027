-- Cases a to l, proved from the definitions by one statement over the table, and that every log in them replays.
use mathlib.Core.Path.{◌≡◌, refl}
use mathlib.Core.Bool.{true}
use Rattle.model.specs.New.{zeros}
use Rattle.model.specs.Calls.{answers, all_replay}
use Rattle.model.specs.SmallCapture.{calls, table}
use Rattle.model.proofs.Everything.{everything}

pub cases : answers zeros calls ≡ table
unfolding everything
cases = refl

pub cases_replay : all_replay zeros calls ≡ true
unfolding everything
cases_replay = refl
