use Rattle.std.proofs.Common.{sym, ap, ◌∙◌}
use Rattle.std.proofs.lemmas.Result.{err_from_is_err_and}
use Rattle.model.specs.Update.{answer_update}
use Rattle.steps.proofs.Settling.{sound_of}
use Rattle.tree_list.proofs.AnswerUpdate.{update_unsound, update_unreadable, update_back, update_limit, update_done}
use Rattle.tree_list.proofs.UpdateTests.{visits_inside}
use Rattle.tree_list.proofs.updating.update.Goals as goal

pub returns-in_err-checked : goal.returns-in_err-checked
returns-in_err-checked c =
    let p = err_from_is_err_and c.from_residual.result c.from_residual.ensures.1 in
    let e = c.in_err-checked.ensures.err in
    rw (p.1, p.2, e.1) (sym (update_unsound c.args.table.now c.args.m e.0))

pub returns-in_err-check_table : goal.returns-in_err-check_table
returns-in_err-check_table c =
    let p = err_from_is_err_and c.from_residual-in_err-check_table.result c.from_residual-in_err-check_table.ensures.1 in
    let e = c.in_err-check_table.ensures.err in
    let m = c.in_ok-checked.checked in
    let same = c.in_ok-checked.ensures.ok in
    rw (p.1, p.2, e.1, ← same) (sym (update_unreadable c.args.table.now m.model m.sound e.0))

pub visits-order-requires : goal.visits-order-requires
visits-order-requires c =
    let m = c.in_ok-checked.checked in
    (sound_of m.model m.sound).well

pub any_went_back-requires : goal.any_went_back-requires
any_went_back-requires c =
    let m = c.in_ok-checked.checked in
    let steps = c.as_slice-steps in
    visits_inside m.model m.sound steps.result.now (steps.ensures ∙ c.visits-order.ensures.exact)

pub returns-then-any_went_back : goal.returns-then-any_went_back
returns-then-any_went_back c =
    let m = c.in_ok-checked.checked in
    let same = c.in_ok-checked.ensures.ok in
    let steps = c.as_slice-steps in
    rw (c.refused.ensures, ← same)
    (sym (update_back c.args.table.now m.model m.sound c.in_ok-check_table.ensures.ok steps.result.now (steps.ensures ∙ c.visits-order.ensures.exact) (sym c.any_went_back.ensures ∙ c.if-any_went_back.true)))

pub returns-then-passes_limit : goal.returns-then-passes_limit
returns-then-passes_limit c =
    let m = c.in_ok-checked.checked in
    let same = c.in_ok-checked.ensures.ok in
    let steps = c.as_slice-steps in
    rw (c.refused-then-passes_limit.ensures, ← same)
    (sym (update_limit c.args.table.now m.model m.sound c.in_ok-check_table.ensures.ok steps.result.now (steps.ensures ∙ c.visits-order.ensures.exact) (sym c.any_went_back.ensures ∙ c.if-any_went_back.false) (sym c.passes_limit.ensures ∙ c.if-passes_limit.true)))

pub returns : goal.returns
returns c =
    let m = c.in_ok-checked.checked in
    let steps = c.as_slice-steps in
    c.run_visits.ensures
    ∙ sym (update_done c.args.table.now m.model m.sound c.in_ok-check_table.ensures.ok steps.result.now (steps.ensures ∙ c.visits-order.ensures.exact) (sym c.any_went_back.ensures ∙ c.if-any_went_back.false))
    ∙ ap (answer_update c.args.table.now) c.in_ok-checked.ensures.ok
