use Rattle.tree_list.proofs.StepsInOrder.{Underway}
use Rattle.tree_list.proofs.visits.run_visits.Given as goal

abbrev pub invariant-loop-step : goal.invariant-loop-step
invariant-loop-step l = Underway l.table l.fn.m.model.nodes l.steps l.p l.step-index
