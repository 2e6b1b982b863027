use Rattle.std.proofs.Common.{ap, ◌∙◌, arith}
use Rattle.model.specs.declared.Model.{Model}
use Rattle.edits.proofs.Closing.{totals_ask, published_asks, closed_in_place}
use Rattle.edits.proofs.closed.close_node.Goals as goal

pub update_total-moved-requires-clause-all_movable :
    goal.update_total-moved-requires-clause-all_movable
update_total-moved-requires-clause-all_movable c =
    (totals_ask c.args.m c.requires.sound c.args.node c.requires.closable c.remove_children-rest.result _ c.remove_children-rest.ensures).1.1

pub overflow_sub-q : goal.overflow_sub-q
overflow_sub-q c =
    let kept = ap (λ (q : Model). q.published) c.free_children-q.ensures ∙ ap (λ (q : Model). q.published) c.update_total-moved.ensures ∙ ap (λ (q : Model). q.published) c.remove_children-rest.ensures in
    omega (arith, kept, published_asks c.args.m c.requires.sound c.args.node c.requires.closable)

pub returns : goal.returns
returns c =
    closed_in_place c.args.m c.requires.sound c.args.node c.requires.closable
    c.remove_children-rest.result c.update_total-moved.result c.free_children-q.result c.shut_node.result
    c.remove_children-rest.ensures c.update_total-moved.ensures c.free_children-q.ensures c.shut_node.ensures
