use Rattle.std.proofs.Common.{ℕ, nat_eq, ap}
use Rattle.model.specs.Table.{item_ongoing}
use Rattle.tree_list.proofs.items.item_ongoing.Goals as goal

pub returns : goal.returns
unfolding item_ongoing
returns c = ap (λ (x : ℕ). nat_eq x 0) c.item_word.ensures
