use Rattle.std.proofs.Common.{◌∙◌, arith}
use Rattle.steps.proofs.Settling.{sound_of}
use Rattle.edits.proofs.Closing.{closable_used}
use Rattle.tree_list.proofs.AnswerClose.{closed_start, turn_closable, turn_small, turn_asks, turn_closed, turns_done}
use Rattle.tree_list.proofs.closing.close_all.Goals as goal

pub closing_order-order-requires : goal.closing_order-order-requires
closing_order-order-requires c = ((sound_of c.args.m.model c.args.m.sound).well, c.requires.node_nonzero, c.requires.opens)

pub loop-k-init : goal.loop-k-init
loop-k-init c = closed_start c.args.m.model c.args.m.sound _ c.no_log-log.result c.no_log-log.ensures

pub row_of-row-requires-clause-node_nonzero : goal.row_of-row-requires-clause-node_nonzero
row_of-row-requires-clause-node_nonzero c =
    let l = c.loop-k in
    (turn_closable c.args.m.model c.args.m.sound c.args.node c.requires.node_nonzero c.requires.opens c.as_slice-k-items.result.now (c.as_slice-k-items.ensures ∙ c.closing_order-order.ensures.exact) l.k-index l.q l.log l.invariant c.loop-k-test.true).above

pub row_of-row-requires-clause-used : goal.row_of-row-requires-clause-used
row_of-row-requires-clause-used c =
    let l = c.loop-k in
    closable_used l.q l.invariant.whole _ (turn_closable c.args.m.model c.args.m.sound c.args.node c.requires.node_nonzero c.requires.opens c.as_slice-k-items.result.now (c.as_slice-k-items.ensures ∙ c.closing_order-order.ensures.exact) l.k-index l.q l.log l.invariant c.loop-k-test.true)

pub offset_bounds-m-k : goal.offset_bounds-m-k
offset_bounds-m-k c =
    let l = c.loop-k in
    omega (arith, turn_small c.args.m.model c.args.m.sound c.args.node c.requires.node_nonzero c.requires.opens c.as_slice-k-items.result.now (c.as_slice-k-items.ensures ∙ c.closing_order-order.ensures.exact) l.k-index l.q l.log l.invariant c.loop-k-test.true)

pub bounds-m-k : goal.bounds-m-k
bounds-m-k c =
    let l = c.loop-k in
    turn_small c.args.m.model c.args.m.sound c.args.node c.requires.node_nonzero c.requires.opens c.as_slice-k-items.result.now (c.as_slice-k-items.ensures ∙ c.closing_order-order.ensures.exact) l.k-index l.q l.log l.invariant c.loop-k-test.true

pub log_closing-requires-clause-len_bound : goal.log_closing-requires-clause-len_bound
log_closing-requires-clause-len_bound c =
    let l = c.loop-k in
    (turn_asks c.args.m.model c.args.m.sound c.args.node c.requires.node_nonzero c.requires.opens c.as_slice-k-items.result.now (c.as_slice-k-items.ensures ∙ c.closing_order-order.ensures.exact) l.k-index l.q l.log l.invariant c.loop-k-test.true c.row_of-row.result c.row_of-row.ensures).0

pub log_closing-requires-clause-row_bound : goal.log_closing-requires-clause-row_bound
log_closing-requires-clause-row_bound c =
    let l = c.loop-k in
    (turn_asks c.args.m.model c.args.m.sound c.args.node c.requires.node_nonzero c.requires.opens c.as_slice-k-items.result.now (c.as_slice-k-items.ensures ∙ c.closing_order-order.ensures.exact) l.k-index l.q l.log l.invariant c.loop-k-test.true c.row_of-row.result c.row_of-row.ensures).1

pub close_node-q-requires-clause-closable : goal.close_node-q-requires-clause-closable
close_node-q-requires-clause-closable c =
    let l = c.loop-k in
    turn_closable c.args.m.model c.args.m.sound c.args.node c.requires.node_nonzero c.requires.opens c.as_slice-k-items.result.now (c.as_slice-k-items.ensures ∙ c.closing_order-order.ensures.exact) l.k-index l.q l.log l.invariant c.loop-k-test.true

pub loop-k-preserved : goal.loop-k-preserved
loop-k-preserved c =
    let l = c.loop-k in
    turn_closed c.args.m.model c.args.m.sound c.args.node c.requires.node_nonzero c.requires.opens c.as_slice-k-items.result.now (c.as_slice-k-items.ensures ∙ c.closing_order-order.ensures.exact) l.k-index l.q l.log l.invariant c.loop-k-test.true
    c.row_of-row.result c.close_node-q.result _ c.row_of-row.ensures c.close_node-q.ensures c.log_closing.ensures

pub returns : goal.returns
returns c =
    let l = c.loop-k in
    turns_done c.args.m.model c.args.m.sound c.args.node c.requires.node_nonzero c.requires.opens c.as_slice-k-items.result.now (c.as_slice-k-items.ensures ∙ c.closing_order-order.ensures.exact) l.k-index l.q l.log l.invariant c.loop-k-test.false
