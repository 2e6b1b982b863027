use Rattle.std.proofs.Common.{sym, ap, ◌∙◌}
use Rattle.std.proofs.lemmas.Result.{err_from_is_err_and}
use Rattle.model.specs.declared.Refused.{Refused}
use Rattle.model.specs.Answers.{number, no_fetch}
use Rattle.steps.proofs.Settling.{sound_of}
use Rattle.steps.proofs.SoundRegions.{row_none}
use Rattle.tree_list.proofs.Checked.{checked_sound, checked_laid, checked_tiled, row_found}
use Rattle.tree_list.proofs.AnswerFetch.{fetch_unsound, fetch_unreadable, fetch_past, parent_small, number_small, node_parent, node_followable, fetch_asked}
use Rattle.tree_list.proofs.fetching.fetch.Goals as goal

pub returns-in_err-checked : goal.returns-in_err-checked
returns-in_err-checked c =
    let p = err_from_is_err_and c.from_residual.result c.from_residual.ensures.1 in
    rw (p.1, p.2) (ap (λ (e : Refused). no_fetch (number e.refusal) e.model) c.in_err-checked.ensures.err.1 ∙ sym (fetch_unsound c.args.table.now c.args.m c.args.row.0 c.in_err-checked.ensures.err.0))

pub returns-in_err-check_table : goal.returns-in_err-check_table
returns-in_err-check_table c =
    let p = err_from_is_err_and c.from_residual-in_err-check_table.result c.from_residual-in_err-check_table.ensures.1 in
    rw (p.1, p.2) (ap (λ (e : Refused). no_fetch (number e.refusal) e.model) c.in_err-check_table.ensures.err.1 ∙ sym (fetch_unreadable c.args.table.now c.args.m c.args.row.0 (checked_sound c.args.m c.in_ok-checked.checked c.in_ok-checked.ensures.ok) c.in_err-check_table.ensures.err.0))

pub find_region-requires-clause-laid : goal.find_region-requires-clause-laid
find_region-requires-clause-laid c = checked_laid c.args.m c.in_ok-checked.checked c.in_ok-checked.ensures.ok

pub find_region-requires-clause-tiled : goal.find_region-requires-clause-tiled
find_region-requires-clause-tiled c = checked_tiled c.args.m c.in_ok-checked.checked c.in_ok-checked.ensures.ok

pub returns-in_default : goal.returns-in_default
returns-in_default c =
    let s = checked_sound c.args.m c.in_ok-checked.checked c.in_ok-checked.ensures.ok in
    ap (λ (e : Refused). no_fetch (number e.refusal) e.model) c.refused.ensures
    ∙ sym (fetch_past c.args.table.now c.args.m c.args.row.0 s c.in_ok-check_table.ensures.ok (row_none c.args.m (sound_of c.args.m s) c.args.row.0 (sym c.find_region.ensures ∙ c.in_default.is)))

pub node_or_fresh-requires-clause-parent_bound : goal.node_or_fresh-requires-clause-parent_bound
node_or_fresh-requires-clause-parent_bound c =
    parent_small c.args.table.now c.args.m c.args.row.0 c.row_at-parent.result.0 c.row_at-parent.result.1 (row_found c.args.m c.in_ok-checked.checked c.in_ok-checked.ensures.ok c.args.row.0 c.in-Some.place (sym c.find_region.ensures ∙ c.in-Some.is) c.row_at-parent.result.0 c.row_at-parent.result.1 c.row_at-parent.ensures.parent c.row_at-parent.ensures.index)

pub node_or_fresh-requires-clause-node_bound : goal.node_or_fresh-requires-clause-node_bound
node_or_fresh-requires-clause-node_bound c =
    number_small c.args.table.now c.args.m c.args.row.0 c.row_at-parent.result.0 c.row_at-parent.result.1 (row_found c.args.m c.in_ok-checked.checked c.in_ok-checked.ensures.ok c.args.row.0 c.in-Some.place (sym c.find_region.ensures ∙ c.in-Some.is) c.row_at-parent.result.0 c.row_at-parent.result.1 c.row_at-parent.ensures.parent c.row_at-parent.ensures.index)
    c.child_of-node.result c.child_of-node.ensures

pub fetch_node-requires-clause-parent_bound : goal.fetch_node-requires-clause-parent_bound
fetch_node-requires-clause-parent_bound c =
    node_parent c.args.table.now c.args.m c.args.row.0 c.row_at-parent.result.0 c.row_at-parent.result.1 (row_found c.args.m c.in_ok-checked.checked c.in_ok-checked.ensures.ok c.args.row.0 c.in-Some.place (sym c.find_region.ensures ∙ c.in-Some.is) c.row_at-parent.result.0 c.row_at-parent.result.1 c.row_at-parent.ensures.parent c.row_at-parent.ensures.index)
    c.child_of-node.result c.child_of-node.ensures c.node_or_fresh.result (c.node_or_fresh.ensures _ c.child_of-node.ensures)

pub fetch_node-requires-clause-followable : goal.fetch_node-requires-clause-followable
fetch_node-requires-clause-followable c =
    node_followable c.args.table.now c.args.m c.args.row.0 c.row_at-parent.result.0 c.row_at-parent.result.1 (row_found c.args.m c.in_ok-checked.checked c.in_ok-checked.ensures.ok c.args.row.0 c.in-Some.place (sym c.find_region.ensures ∙ c.in-Some.is) c.row_at-parent.result.0 c.row_at-parent.result.1 c.row_at-parent.ensures.parent c.row_at-parent.ensures.index)
    c.child_of-node.result c.child_of-node.ensures c.node_or_fresh.result (c.node_or_fresh.ensures _ c.child_of-node.ensures)

pub returns : goal.returns
returns c =
    c.fetch_node.ensures _ c.child_of-node.ensures
    ∙ fetch_asked c.args.table.now c.args.m c.args.row.0 c.row_at-parent.result.0 c.row_at-parent.result.1 (row_found c.args.m c.in_ok-checked.checked c.in_ok-checked.ensures.ok c.args.row.0 c.in-Some.place (sym c.find_region.ensures ∙ c.in-Some.is) c.row_at-parent.result.0 c.row_at-parent.result.1 c.row_at-parent.ensures.parent c.row_at-parent.ensures.index)
    c.child_of-node.result c.child_of-node.ensures c.node_or_fresh.result (c.node_or_fresh.ensures _ c.child_of-node.ensures) c.in_ok-check_table.ensures.ok
