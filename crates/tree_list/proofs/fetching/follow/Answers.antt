use Rattle.std.proofs.Common.{sym, ap, set, arith, ◌∙◌}
use Rattle.model.specs.declared.Refused.{Refused}
use Rattle.model.specs.declared.FetchedRow.{FetchedRow}
use Rattle.model.specs.Answers.{number, no_fetch}
use Rattle.model.specs.Fetch.{fetched}
use Rattle.steps.specs.Settled.{with_nodes}
use Rattle.model.proofs.Arrays.{nodes_long}
use Rattle.model.proofs.UnlessZero.{some_self}
use Rattle.tree_list.proofs.AnswerFetch.{fetch_full, fetch_followed, free_small}
use Rattle.tree_list.proofs.fetching.follow.Goals as goal

pub returns-in_default : goal.returns-in_default
returns-in_default c =
    ap (λ (e : Refused). no_fetch (number e.refusal) e.model) c.refused.ensures
    ∙ sym (fetch_full c.args.m c.args.n c.requires.ongoing_value (sym c.in_default.is ∙ c.free_place.ensures))

pub offset_bounds-q-number : goal.offset_bounds-q-number
offset_bounds-q-number c = omega (arith, free_small c.args.m _ (nodes_long c.args.m _ c.well_formed.0) (sym c.in-Some.is ∙ c.free_place.ensures))

pub bounds-q-number : goal.bounds-q-number
bounds-q-number c = free_small c.args.m _ (nodes_long c.args.m _ c.well_formed.0) (sym c.in-Some.is ∙ c.free_place.ensures)

pub returns : goal.returns
returns c =
    let place = sym c.in-Some.is ∙ c.free_place.ensures in
    ap (λ (row : FetchedRow). fetched (with_nodes c.args.m (set c.args.m.nodes c.in-Some.number c.args.n)) row) (c.shown.ensures c.in-Some.number (some_self _ c.in-Some.number place))
    ∙ sym (fetch_followed c.args.m c.args.n c.requires.ongoing_value c.requires.followable c.in-Some.number place)
