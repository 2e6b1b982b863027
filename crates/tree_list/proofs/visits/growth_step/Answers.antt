use Rattle.tree_list.proofs.StepsInPlace.{grow_held}
use Rattle.tree_list.proofs.visits.growth_step.Goals as goal

pub returns : goal.returns
returns c =
    let n = c.item_count-count in
    let o = c.item_ongoing-ongoing in
    λ s H. grow_held c.args.table.now c.args.p.now s H c.args.k c.requires.texted.room n.result n.ensures o.result o.ensures _ c.log_rows.ensures c.grow_step-p.result c.grow_step-p.ensures
