use Rattle.tree_list.proofs.Records.{log_one}
use Rattle.tree_list.proofs.logs.log_of_one.Goals as goal

pub returns : goal.returns
returns c = log_one c.no_log-log.result c.args.change c.no_log-log.ensures
