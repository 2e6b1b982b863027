use Rattle.std.proofs.Common.{sym, ap, subst, ◌∙◌}
use Rattle.std.proofs.lemmas.Result.{err_from_is_err_and}
use Rattle.model.specs.declared.Model.{Model}
use Rattle.model.specs.declared.Refused.{Refused}
use Rattle.model.specs.Answers.{number, no_change}
use Rattle.steps.proofs.Settling.{sound_of}
use Rattle.steps.proofs.SoundRegions.{row_none}
use Rattle.tree_list.proofs.Checked.{checked_sound, checked_laid, checked_tiled, row_found}
use Rattle.model.specs.Close.{close_node}
use Rattle.tree.specs.WellFormed.{Opens}
use Rattle.model.proofs.UnlessZero.{some_is}
use Rattle.tree_list.proofs.AnswerClose.{close_unsound, close_past, close_none, close_answer, open_child_opens}
use Rattle.tree_list.proofs.closing.close.Goals as goal

pub returns-in_err-checked : goal.returns-in_err-checked
returns-in_err-checked c =
    let p = err_from_is_err_and c.from_residual.result c.from_residual.ensures.1 in
    rw (p.1, p.2) (ap (λ (e : Refused). no_change (number e.refusal) e.model) c.in_err-checked.ensures.err.1 ∙ sym (close_unsound c.args.m c.args.row.0 c.in_err-checked.ensures.err.0))

pub find_region-requires-clause-laid : goal.find_region-requires-clause-laid
find_region-requires-clause-laid c = checked_laid c.args.m c.in_ok-checked.checked c.in_ok-checked.ensures.ok

pub find_region-requires-clause-tiled : goal.find_region-requires-clause-tiled
find_region-requires-clause-tiled c = checked_tiled c.args.m c.in_ok-checked.checked c.in_ok-checked.ensures.ok

pub returns-in_default : goal.returns-in_default
returns-in_default c =
    let s = checked_sound c.args.m c.in_ok-checked.checked c.in_ok-checked.ensures.ok in
    ap (λ (e : Refused). no_change (number e.refusal) e.model) c.refused.ensures
    ∙ sym (close_past c.args.m c.args.row.0 s (row_none c.args.m (sound_of c.args.m s) c.args.row.0 (sym c.find_region.ensures ∙ c.in_default.is)))

pub returns-in_default-open_child_of : goal.returns-in_default-open_child_of
returns-in_default-open_child_of c =
    c.unchanged.ensures
    ∙ sym (close_none c.args.m _ (sym c.in_default-open_child_of.is ∙ c.open_child_of.ensures))
    ∙ close_answer c.args.m c.args.row.0 c.row_at-parent.result.0 c.row_at-parent.result.1 (row_found c.args.m c.in_ok-checked.checked c.in_ok-checked.ensures.ok c.args.row.0 c.in-Some.place (sym c.find_region.ensures ∙ c.in-Some.is) c.row_at-parent.result.0 c.row_at-parent.result.1 c.row_at-parent.ensures.parent c.row_at-parent.ensures.index)

pub close_all-requires-clause-node_nonzero : goal.close_all-requires-clause-node_nonzero
close_all-requires-clause-node_nonzero c = (open_child_opens c.args.m _ _ _ (sym c.in-Some-open_child_of.is ∙ c.open_child_of.ensures)).0

pub close_all-requires-clause-opens : goal.close_all-requires-clause-opens
close_all-requires-clause-opens c =
    subst (λ (q : Model). Opens q.nodes c.in-Some-open_child_of.node) (sym c.in_ok-checked.ensures.ok) (open_child_opens c.args.m _ _ _ (sym c.in-Some-open_child_of.is ∙ c.open_child_of.ensures)).1

pub returns : goal.returns
returns c =
    c.close_all.ensures
    ∙ ap (λ (q : Model). close_node q c.in-Some-open_child_of.node) c.in_ok-checked.ensures.ok
    ∙ ap (close_node c.args.m) (some_is _ c.in-Some-open_child_of.node (sym c.in-Some-open_child_of.is ∙ c.open_child_of.ensures)).0
    ∙ close_answer c.args.m c.args.row.0 c.row_at-parent.result.0 c.row_at-parent.result.1 (row_found c.args.m c.in_ok-checked.checked c.in_ok-checked.ensures.ok c.args.row.0 c.in-Some.place (sym c.find_region.ensures ∙ c.in-Some.is) c.row_at-parent.result.0 c.row_at-parent.result.1 c.row_at-parent.ensures.parent c.row_at-parent.ensures.index)
