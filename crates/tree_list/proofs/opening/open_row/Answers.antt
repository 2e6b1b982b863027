use Rattle.std.proofs.Common.{sym, ap, ◌∙◌}
use Rattle.model.specs.declared.Refused.{Refused}
use Rattle.model.specs.Answers.{number, no_change, ChangeAnswer}
use Rattle.tree_list.proofs.AnswerOpen.{open_already, open_childless, open_full, open_over, open_asks, open_next, open_done, published_limit}
use Rattle.tree_list.proofs.opening.open_row.Goals as goal

abbrev refusing : Refused → ChangeAnswer
refusing e = no_change (number e.refusal) e.model

pub returns-then-n : goal.returns-then-n
returns-then-n c = λ k e. c.unchanged.ensures ∙ sym (open_already c.args.m.model c.args.row.0 c.args.n _ c.if-n.true)

pub returns-then-n-eq0 : goal.returns-then-n-eq0
returns-then-n-eq0 c = λ k e. ap refusing c.refused.ensures ∙ sym (open_childless c.args.m.model c.args.row.0 c.args.n _ c.if-n.false c.if-n-eq0.true)

pub returns-in_default : goal.returns-in_default
returns-in_default c = λ k e.
    ap refusing c.refused-in_default.ensures
    ∙ sym (open_full c.args.m.model c.args.row.0 c.args.n _ c.if-n.false c.if-n-eq0.false (sym c.in_default.is ∙ c.number_or_free.ensures k e))

pub overflow_sub-m : goal.overflow_sub-m
overflow_sub-m c = published_limit c.args.m.model c.args.m.sound

pub returns-then-m-n : goal.returns-then-m-n
returns-then-m-n c = λ k e.
    ap refusing c.refused-then-m-n.ensures
    ∙ sym (open_over c.args.m.model c.args.row.0 c.args.n _ c.if-n.false c.if-n-eq0.false c.in-Some.number (sym c.in-Some.is ∙ c.number_or_free.ensures k e) c.args.m.sound c.if-m-n.true)

pub open_node-opened-requires : goal.open_node-opened-requires
open_node-opened-requires c =
    let g = sym c.in-Some.is ∙ c.number_or_free.ensures c.requires.0 c.requires.1 in
    open_asks c.args.m.model c.args.row.0 c.args.n _ c.if-n.false c.if-n-eq0.false c.in-Some.number g c.args.place c.args.m.sound c.requires.2 c.if-m-n.false

pub grown_below-requires : goal.grown_below-requires
grown_below-requires c =
    let g = sym c.in-Some.is ∙ c.number_or_free.ensures c.requires.0 c.requires.1 in
    open_next c.args.m.model c.args.row.0 c.args.n _ c.if-n.false c.if-n-eq0.false c.in-Some.number g c.args.place c.args.m.sound c.requires.2 c.if-m-n.false

pub returns : goal.returns
returns c = λ k e.
    let g = sym c.in-Some.is ∙ c.number_or_free.ensures k e in
    open_done c.args.m.model c.args.row.0 c.args.n _ c.if-n.false c.if-n-eq0.false c.in-Some.number g _ c.open_node-opened.result c.args.m.sound c.if-m-n.false c.open_node-opened.ensures c.grown_below.ensures
