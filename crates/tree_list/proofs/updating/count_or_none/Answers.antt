use Rattle.std.proofs.Common.{sym, ◌∙◌}
use Rattle.tree_list.proofs.Entries.{count_none}
use Rattle.tree_list.proofs.updating.count_or_none.Goals as goal

pub returns-else-is_listed : goal.returns-else-is_listed
returns-else-is_listed c =
    sym (count_none c.args.table.now c.args.entry c.requires (sym c.is_listed.ensures ∙ c.if-is_listed.false))
