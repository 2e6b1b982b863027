use Rattle.std.proofs.Common.{rules, arith, ◌≡◌, ◌∙◌, ◌^◌, drop}
use Rattle.std.specs.List.{filter}
use Rattle.std.proofs.lemmas.List.{take_rest}
use Rattle.std.proofs.lemmas.Iterator.{YieldsList-from_slice, YieldsList-from_map}
use Rattle.std.proofs.lemmas.Iterator.Consumers.{YieldsList-at, YieldsList-from_filter, sum_by_from_yields_List, fits_by_from_yields_list}
use borrow.Author.Tests.{tests}
use Rattle.model.specs.declared.Node.{Node}
use Rattle.totals.specs.Totals.{sum_if, opens_between, rows_between}
use Rattle.totals.proofs.Sums.{sum_if-filter}
use Rattle.totals.proofs.rows_between.Goals as goal

pub sum-below-requires-clause-fits : goal.sum-below-requires-clause-fits
unfolding rows_between
sum-below-requires-clause-fits c =
    let q = opens_between c.args.parent c.args.start.0 c.args.end.0 in
    let total = λ (n : Node). n.total in
    let rest = c.iter.ensures.rest ∙ take_rest c.args.m.nodes 1 in
    let sum = sum_if-filter q total (drop 1 c.args.m.nodes) in
    fits_by_from_yields_list total (filter q (drop 1 c.args.m.nodes)) c.map.result (2 ^ 64)
    (YieldsList-from_map _ total (YieldsList-at c.map.ensures.source (YieldsList-from_filter _ q (YieldsList-at c.filter.ensures.source (YieldsList-from_slice (drop 1 c.args.m.nodes) rest)) c.filter.ensures.closure (λ x r f k. search (rules, tests)))) c.map.ensures.closure (λ x r f k. search (rules, tests)))
    (omega (arith, sum, c.requires.end_bound))

-- what the chain sums
below : (c : goal.After-sum-below) → c.sum-below.result ≡ sum_if (opens_between c.args.parent c.args.start.0 c.args.end.0) (λ n. n.total) (drop 1 c.args.m.nodes)
below c =
    let q = opens_between c.args.parent c.args.start.0 c.args.end.0 in
    let total = λ (n : Node). n.total in
    let rest = c.iter.ensures.rest ∙ take_rest c.args.m.nodes 1 in
    sum_by_from_yields_List total (filter q (drop 1 c.args.m.nodes)) c.map.result c.sum-below.result c.sum-below.ensures.ran
    (YieldsList-from_map _ total (YieldsList-at c.map.ensures.source (YieldsList-from_filter _ q (YieldsList-at c.filter.ensures.source (YieldsList-from_slice (drop 1 c.args.m.nodes) rest)) c.filter.ensures.closure (λ x r f k. search (rules, tests)))) c.map.ensures.closure (λ x r f k. search (rules, tests)))
    ∙ sum_if-filter q total (drop 1 c.args.m.nodes)

pub overflow_add-result : goal.overflow_add-result
unfolding rows_between
overflow_add-result c = omega (arith, below c, c.requires.end_bound)

pub returns : goal.returns
unfolding rows_between
returns c = omega (arith, below c)
