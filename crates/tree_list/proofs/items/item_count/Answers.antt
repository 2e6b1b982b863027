use Rattle.std.proofs.Common.{rules}
use Rattle.model.specs.Table.{item_count}
use Rattle.tree_list.proofs.items.item_count.Goals as goal

pub returns : goal.returns
unfolding item_count
returns c = search rules
