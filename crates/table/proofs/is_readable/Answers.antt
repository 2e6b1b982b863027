use Rattle.std.proofs.Common.{rules}
use Rattle.model.specs.Table.{readable}
use Rattle.table.proofs.is_readable.Goals as goal

pub returns-then-not-is_empty : goal.returns-then-not-is_empty
unfolding readable
returns-then-not-is_empty c = search rules

pub returns-else-not-is_empty : goal.returns-else-not-is_empty
unfolding readable
returns-else-not-is_empty c = search rules
