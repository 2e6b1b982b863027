use Rattle.std.proofs.Common.{arith}
use Rattle.edits.proofs.Growing.{end_root, end_row, end_limit}
use Rattle.edits.proofs.grown.end_of.Goals as goal

pub returns-then-k-eq0 : goal.returns-then-k-eq0
returns-then-k-eq0 c =
    let e = end_root c.args.m c.requires.sound c.args.k c.requires.opens c.if-k-eq0.true in
    λ i. record { 0 = e i }

pub overflow_add-result : goal.overflow_add-result
overflow_add-result c =
    omega (arith, end_limit c.args.m c.requires.sound c.args.k c.requires.opens, end_row c.args.m c.requires.sound c.args.k c.requires.opens c.if-k-eq0.false c.row_of-row.result c.row_of-row.ensures)

pub overflow_add-result-else-k-eq0 : goal.overflow_add-result-else-k-eq0
overflow_add-result-else-k-eq0 c =
    omega (arith, end_limit c.args.m c.requires.sound c.args.k c.requires.opens, end_row c.args.m c.requires.sound c.args.k c.requires.opens c.if-k-eq0.false c.row_of-row.result c.row_of-row.ensures)

pub returns-else-k-eq0 : goal.returns-else-k-eq0
returns-else-k-eq0 c =
    let e = end_row c.args.m c.requires.sound c.args.k c.requires.opens c.if-k-eq0.false c.row_of-row.result c.row_of-row.ensures in
    λ i. record { 0 = e i }
