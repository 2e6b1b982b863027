use Rattle.std.proofs.Common.{sym, ◌∙◌}
use Rattle.tree_list.proofs.UpdateTests.{back_away, back_there}
use Rattle.tree_list.proofs.updating.went_back.Goals as goal

pub returns-then-not-is_listed : goal.returns-then-not-is_listed
returns-then-not-is_listed c =
    rw c.if-not-is_listed.true (sym (back_away c.args.table.now c.args.n (sym c.is_listed.ensures ∙ c.if-not-is_listed.true)))

pub returns-else-not-is_listed : goal.returns-else-not-is_listed
returns-else-not-is_listed c =
    sym (back_there c.args.table.now c.args.n (sym c.is_listed.ensures ∙ c.if-not-is_listed.false) c.item_count.result c.item_count.ensures)
