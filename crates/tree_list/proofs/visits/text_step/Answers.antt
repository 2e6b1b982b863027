use Rattle.tree_list.proofs.StepsInPlace.{text_root, text_more, text_same, text_new}
use Rattle.tree_list.proofs.visits.text_step.Goals as goal

pub returns-then-k-eq0 : goal.returns-then-k-eq0
returns-then-k-eq0 c = λ s H. text_root c.args.table.now c.args.p.now s H c.args.k c.if-k-eq0.true

pub returns-then-n-item_count : goal.returns-then-n-item_count
returns-then-n-item_count c =
    let n = c.item_count in
    λ s H. text_more c.args.table.now c.args.p.now s H c.args.k c.if-k-eq0.false c.requires.room n.result n.ensures c.if-n-item_count.true _ c.log_text.ensures

pub returns-then-n-version : goal.returns-then-n-version
returns-then-n-version c =
    let n = c.item_count in
    let v = c.item_version-version in
    λ s H. text_same c.args.table.now c.args.p.now s H c.args.k c.if-k-eq0.false c.requires.room n.result n.ensures c.if-n-item_count.false v.result v.ensures c.if-n-version.true

pub returns : goal.returns
returns c =
    let n = c.item_count in
    let v = c.item_version-version in
    λ s H. text_new c.args.table.now c.args.p.now s H c.args.k c.if-k-eq0.false c.requires.room n.result n.ensures c.if-n-item_count.false v.result v.ensures c.if-n-version.false c.set_version-p.result _ c.set_version-p.ensures c.log_text-2.ensures
