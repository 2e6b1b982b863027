use Rattle.std.proofs.Common.{refl, sym, ◌∙◌, arith}
use Rattle.model.specs.Table.{entries, child_entry}
use Rattle.model.proofs.UnlessZero.{some_number, none_number}
use Rattle.table.proofs.Lookup.{hit, miss_parent, miss_index, end}
use Rattle.table.proofs.child_entry.Goals.{else-table-at-via-then-table-at+else-table-at-2, else-table-at-via-else-table-at}
use Rattle.table.proofs.child_entry.Goals as goal

pub loop-entry-init : goal.loop-entry-init
unfolding child_entry entries
loop-entry-init c = refl

pub returns-then-table-at-2 : goal.returns-then-table-at-2
unfolding entries
returns-then-table-at-2 c =
    let l = c.loop-entry in
    let h = hit c.args.table.now c.args.parent c.args.index.0 _ l.entry c.loop-entry-test.true c.if-table-at.true c.if-table-at-2.true in
    some_number _ l.entry (sym l.invariant ∙ h) (omega arith)

pub loop-entry-preserved : goal.loop-entry-preserved
unfolding entries
loop-entry-preserved c =
    let l = c.loop-entry in
    let t = c.loop-entry-test.true in
    (elim c.else-table-at.branch [
      | else-table-at-via-then-table-at+else-table-at-2 w ↦ sym (miss_index c.args.table.now c.args.parent c.args.index.0 _ l.entry t w.if-table-at-2.false)
      | else-table-at-via-else-table-at w ↦ sym (miss_parent c.args.table.now c.args.parent c.args.index.0 _ l.entry t w.if-table-at.false)
    ]) ∙ l.invariant

pub returns : goal.returns
unfolding entries
returns c =
    let l = c.loop-entry in
    none_number _ (sym l.invariant ∙ end c.args.table.now c.args.parent c.args.index.0 _ l.entry c.loop-entry-test.false)
