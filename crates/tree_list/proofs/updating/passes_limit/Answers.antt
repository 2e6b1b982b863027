use Rattle.std.proofs.Common.{arith}
use Rattle.model.specs.declared.Step.TheVariants.{Text}
use Rattle.orders.proofs.Answers.{visits_small}
use Rattle.steps.proofs.Settling.{sound_of}
use Rattle.tree_list.proofs.AnswerOpen.{published_limit}
use Rattle.tree_list.proofs.UpdateTests.{sum_start, sum_next, limit_passed, limit_kept}
use Rattle.tree_list.proofs.updating.passes_limit.Goals as goal

pub loop-step-init : goal.loop-step-init
loop-step-init c =
    (published_limit c.args.m.model c.args.m.sound, sum_start c.args.table.now c.args.m.model c.args.m.sound c.args.steps.now)

pub step_rows-rows-requires-clause-bound : goal.step_rows-rows-requires-clause-bound
step_rows-rows-requires-clause-bound c =
    visits_small c.args.m.model.nodes (sound_of c.args.m.model c.args.m.sound).well c.args.steps.now c.requires.steps_value (Text 0) c.loop-step.step-index c.loop-step-test.true

pub returns-then-sum-rows : goal.returns-then-sum-rows
returns-then-sum-rows c =
    let l = c.loop-step in
    let n = c.step_rows-rows in
    limit_passed c.args.table.now c.args.m.model c.args.m.sound c.args.steps.now c.requires.steps_value l.step-index c.requires.nodes_value c.loop-step-test.true l.sum l.invariant.1 l.invariant.0 n.result n.ensures (omega arith)

pub loop-step-preserved : goal.loop-step-preserved
loop-step-preserved c =
    let l = c.loop-step in
    let n = c.step_rows-rows in
    (omega (arith, l.invariant.0, c.if-sum-rows.false), sum_next c.args.table.now c.args.m.model c.args.m.sound c.args.steps.now c.requires.steps_value l.step-index c.loop-step-test.true l.sum l.invariant.1 n.result n.ensures)

pub returns : goal.returns
returns c =
    let l = c.loop-step in
    limit_kept c.args.table.now c.args.m.model c.args.m.sound c.args.steps.now c.requires.steps_value l.step-index c.requires.nodes_value c.loop-step-test.false l.sum l.invariant.1 l.invariant.0
