use Rattle.std.proofs.Common.{rules}
use Rattle.model.specs.Table.{item_version}
use Rattle.tree_list.proofs.items.item_version.Goals as goal

pub returns : goal.returns
unfolding item_version
returns c = search rules
