use Rattle.std.proofs.Common.{ap}
use Rattle.model.specs.declared.Log.{Log}
use Rattle.model.specs.declared.Model.{Model}
use Rattle.model.specs.Answers.{ChangeAnswer}
use Rattle.tree_list.proofs.logs.unchanged.Goals as goal

abbrev done : Model → Log → ChangeAnswer
done m l = record { refusal = 0; model = m; log = l }

pub returns : goal.returns
returns c = ap (done c.args.m) c.no_log.ensures
