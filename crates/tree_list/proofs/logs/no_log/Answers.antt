use Rattle.std.proofs.Common.{◌∙◌}
use Rattle.model.specs.Logs.{no_record}
use Rattle.model.proofs.Zeros.{record_zero, log_zero}
use Rattle.tree_list.proofs.Records.{log_none}
use Rattle.tree_list.proofs.logs.no_log.Goals as goal

pub returns : goal.returns
returns c = log_zero c.default.result record_zero c.default.ensures ∙ log_none no_record (λ i. no_record)
