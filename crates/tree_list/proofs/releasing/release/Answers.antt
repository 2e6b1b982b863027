use Rattle.std.proofs.Common.{sym, ap, ◌∙◌}
use Rattle.std.proofs.lemmas.Result.{err_from_is_err_and}
use Rattle.model.specs.declared.Model.{Model}
use Rattle.model.specs.declared.Refused.{Refused}
use Rattle.model.specs.Answers.{number, just_model}
use Rattle.steps.proofs.Settling.{sound_of}
use Rattle.steps.proofs.SoundRegions.{row_none}
use Rattle.tree_list.proofs.Checked.{checked_sound, checked_laid, checked_tiled, row_found}
use Rattle.model.specs.Nodes.{child}
use Rattle.model.specs.Release.{release_node}
use Rattle.model.proofs.UnlessZero.{some_is}
use Rattle.tree_list.proofs.SoundRows.{child_small}
use Rattle.tree_list.proofs.AnswerRelease.{release_unsound, release_past, release_answer}
use Rattle.tree_list.proofs.releasing.release.Goals as goal

pub returns-in_err-checked : goal.returns-in_err-checked
returns-in_err-checked c =
    let p = err_from_is_err_and c.from_residual.result c.from_residual.ensures.1 in
    rw (p.1, p.2) (ap (λ (e : Refused). just_model (number e.refusal) e.model) c.in_err-checked.ensures.err.1 ∙ sym (release_unsound c.args.m c.args.row.0 c.in_err-checked.ensures.err.0))

pub find_region-requires-clause-laid : goal.find_region-requires-clause-laid
find_region-requires-clause-laid c = checked_laid c.args.m c.in_ok-checked.checked c.in_ok-checked.ensures.ok

pub find_region-requires-clause-tiled : goal.find_region-requires-clause-tiled
find_region-requires-clause-tiled c = checked_tiled c.args.m c.in_ok-checked.checked c.in_ok-checked.ensures.ok

pub returns-in_default : goal.returns-in_default
returns-in_default c =
    let s = checked_sound c.args.m c.in_ok-checked.checked c.in_ok-checked.ensures.ok in
    ap (λ (e : Refused). just_model (number e.refusal) e.model) c.refused.ensures
    ∙ sym (release_past c.args.m c.args.row.0 s (row_none c.args.m (sound_of c.args.m s) c.args.row.0 (sym c.find_region.ensures ∙ c.in_default.is)))

pub release_node-requires : goal.release_node-requires
release_node-requires c =
    λ k e. rw (some_is _ k (sym e ∙ c.child_of.ensures)).0 (child_small c.args.m (checked_sound c.args.m c.in_ok-checked.checked c.in_ok-checked.ensures.ok) _ _)

pub returns : goal.returns
returns c =
    let k = child c.args.m.nodes c.row_at-parent.result.0 c.row_at-parent.result.1.0 in
    c.release_node.ensures k c.child_of.ensures
    ∙ ap (λ (q : Model). release_node q k) c.in_ok-checked.ensures.ok
    ∙ release_answer c.args.m c.args.row.0 c.row_at-parent.result.0 c.row_at-parent.result.1 (row_found c.args.m c.in_ok-checked.checked c.in_ok-checked.ensures.ok c.args.row.0 c.in-Some.place (sym c.find_region.ensures ∙ c.in-Some.is) c.row_at-parent.result.0 c.row_at-parent.result.1 c.row_at-parent.ensures.parent c.row_at-parent.ensures.index)
