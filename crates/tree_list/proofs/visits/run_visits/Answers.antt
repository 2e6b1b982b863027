use Rattle.steps.proofs.Settling.{sound_of}
use Rattle.tree_list.proofs.StepsInOrder.{run_starts, run_ready, run_goes, run_ends}
use Rattle.tree_list.proofs.visits.run_visits.Goals as goal

pub loop-step-init : goal.loop-step-init
loop-step-init c =
    let m = c.args.m in
    run_starts c.args.table.now m.model (sound_of m.model m.sound) c.args.steps.now c.requires.steps_value c.requires.nodes_value c.no_log.result c.no_log.ensures

pub visit_step-requires : goal.visit_step-requires
visit_step-requires c =
    let m = c.args.m in
    let l = c.loop-step in
    run_ready c.args.table.now m.model (sound_of m.model m.sound) c.args.steps.now c.requires.steps_value l.p l.step-index l.invariant c.loop-step-test.true c.requires.nodes_bound

pub loop-step-preserved : goal.loop-step-preserved
loop-step-preserved c =
    let m = c.args.m in
    let l = c.loop-step in
    run_goes c.args.table.now m.model (sound_of m.model m.sound) c.args.steps.now c.requires.steps_value l.p l.step-index l.invariant c.loop-step-test.true _ c.visit_step.ensures

pub returns : goal.returns
returns c =
    let m = c.args.m in
    let l = c.loop-step in
    run_ends c.args.table.now m.model (sound_of m.model m.sound) c.args.steps.now c.requires.steps_value l.p l.step-index l.invariant c.loop-step-test.false c.requires.nodes_bound
