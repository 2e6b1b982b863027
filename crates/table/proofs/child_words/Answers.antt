use Rattle.std.proofs.Common.{rules, ◌≡◌, ℕ, ◌*◌, Some, List, take, drop, sym, arith}
use Rattle.model.specs.Places.{unless_zero}
use Rattle.model.specs.Table.{child_entry, child_words}
use Rattle.table.proofs.Lookup.{words_inside, words_none, words_some}
use Rattle.table.proofs.child_words.Goals as goal

-- five words from the entry's first one on
whole : (t : List ℕ) (p i e k : ℕ) → Some e ≡ unless_zero (child_entry t p i) → k ≡ 5 → take k (drop (5 * e) t) ≡ child_words t p i
whole t p i e k listed five = rw five (sym (words_some t p i e listed))

pub returns-in_default : goal.returns-in_default
returns-in_default c = sym (words_none c.args.table.now c.args.parent c.args.index.0 c.in_default.ensures)

pub overflow_mul-start : goal.overflow_mul-start
overflow_mul-start c =
    let h = words_inside c.args.table.now c.args.parent c.args.index.0 c.in-Some.entry c.in-Some.ensures in
    search rules

pub overflow_add-result : goal.overflow_add-result
overflow_add-result c =
    let h = words_inside c.args.table.now c.args.parent c.args.index.0 c.in-Some.entry c.in-Some.ensures in
    search rules

pub offset_bounds-table-start : goal.offset_bounds-table-start
offset_bounds-table-start c =
    let h = words_inside c.args.table.now c.args.parent c.args.index.0 c.in-Some.entry c.in-Some.ensures in
    search rules

pub slice_bounds-result-end-2 : goal.slice_bounds-result-end-2
slice_bounds-result-end-2 c =
    let h = words_inside c.args.table.now c.args.parent c.args.index.0 c.in-Some.entry c.in-Some.ensures in
    search rules

pub returns : goal.returns
returns c = whole c.args.table.now c.args.parent c.args.index.0 c.in-Some.entry _ c.in-Some.ensures (omega arith)
