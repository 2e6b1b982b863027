use Rattle.std.proofs.Common.{refl}
use Rattle.model.specs.Table.{entries}
use Rattle.tree_list.proofs.items.is_listed.Goals as goal

pub returns : goal.returns
unfolding entries
returns c = refl
