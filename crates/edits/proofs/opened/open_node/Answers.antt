use Rattle.std.proofs.Common.{ap, ◌∙◌, arith}
use Rattle.model.specs.declared.Model.{Model}
use Rattle.model.proofs.Arrays.{node_fits}
use Rattle.edits.proofs.Opening.{update_asks, published_fits, expand_asks, open_settled}
use Rattle.edits.proofs.opened.open_node.Goals as goal

pub update_total-raised-requires-clause-well_formed : goal.update_total-raised-requires-clause-well_formed
update_total-raised-requires-clause-well_formed c = (update_asks c.args.m c.args.place c.args.row.0 c.args.n c.args.node c.opened.result c.requires c.opened.ensures).0

pub update_total-raised-requires-clause-all_movable : goal.update_total-raised-requires-clause-all_movable
update_total-raised-requires-clause-all_movable c = (update_asks c.args.m c.args.place c.args.row.0 c.args.n c.args.node c.opened.result c.requires c.opened.ensures).1.1

pub expand-q-requires : goal.expand-q-requires
expand-q-requires c =
    let asks = expand_asks c.args.m c.args.place c.args.row.0 c.args.n c.args.node c.update_total-raised.result _ c.requires c.update_total-raised.ensures (λ j. (node_fits c.args.m _ c.well_formed.0 j).direct_fits) in
    record { laid = asks.0; tiled = asks.1.0; holds = asks.1.1.0; m_len_bound = asks.1.1.1 }

pub overflow_add-q : goal.overflow_add-q
overflow_add-q c =
    let kept = ap (λ (q : Model). q.published) c.expand-q.ensures ∙ ap (λ (q : Model). q.published) c.update_total-raised.ensures in
    omega (arith, kept, published_fits c.args.m c.args.place c.args.row.0 c.args.n c.args.node c.requires)

pub returns : goal.returns
returns c =
    open_settled c.args.m c.args.place c.args.row.0 c.args.n c.args.node
    c.opened.result c.update_total-raised.result c.expand-q.result
    c.requires c.opened.ensures c.update_total-raised.ensures c.expand-q.ensures
