use Rattle.std.proofs.Common.{rules}
use Rattle.tree_list.proofs.Entries.{entry_inside}
use Rattle.tree_list.proofs.items.item_word.Goals as goal

pub overflow_mul-result : goal.overflow_mul-result
overflow_mul-result c =
    let h = entry_inside c.args.table.now c.args.entry c.requires.bound in
    search rules

pub overflow_add-result : goal.overflow_add-result
overflow_add-result c =
    let h = entry_inside c.args.table.now c.args.entry c.requires.bound in
    search rules

pub offset_bounds-table-entry : goal.offset_bounds-table-entry
offset_bounds-table-entry c =
    let h = entry_inside c.args.table.now c.args.entry c.requires.bound in
    search rules

pub bounds-table-entry : goal.bounds-table-entry
bounds-table-entry c =
    let h = entry_inside c.args.table.now c.args.entry c.requires.bound in
    search rules
