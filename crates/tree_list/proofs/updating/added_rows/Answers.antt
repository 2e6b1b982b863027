use Rattle.std.proofs.Common.{sym, ◌∙◌}
use Rattle.tree_list.proofs.UpdateTests.{rows_closed, rows_open}
use Rattle.tree_list.proofs.updating.added_rows.Goals as goal

pub returns-then-n : goal.returns-then-n
returns-then-n c =
    let n = c.count_or_none in
    c.saturating_sub.ensures ∙ sym (rows_open c.args.table.now c.args.n c.if-n.true n.result n.ensures)

pub returns-else-n : goal.returns-else-n
returns-else-n c = sym (rows_closed c.args.table.now c.args.n c.if-n.false)
