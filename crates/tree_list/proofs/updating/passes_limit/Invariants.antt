use Rattle.std.proofs.Common.{◌≡◌, ◌+◌, ◌≤◌, drop}
use Rattle.model.specs.Places.{row_limit}
use Rattle.model.specs.Rows.{row_total}
use Rattle.steps.specs.Growth.{growth}
use Rattle.tree_list.proofs.updating.passes_limit.Given as goal

abbrev pub invariant-loop-step : goal.invariant-loop-step
invariant-loop-step l =
    (l.sum ≤ row_limit) × (l.sum + growth l.table l.m.model.nodes (drop l.step-index l.steps) ≡ row_total l.m.model.nodes + growth l.table l.m.model.nodes l.steps)
