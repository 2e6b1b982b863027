use Rattle.std.proofs.Common.{◌∙◌}
use Rattle.edits.proofs.Visits.{still_closed, freed}
use Rattle.edits.proofs.visiting.step_closed.Goals as goal
use Rattle.edits.proofs.visiting.step_closed.Goals.{then-ongoing, else-ongoing}

pub returns : goal.returns
returns c =
    elim c.if-ongoing.branch [
      | then-ongoing w ↦ still_closed c.args.m c.args.k c.args.count c.requires.visitable c.requires.k_value c.args.ongoing w.if-ongoing.true c.if-ongoing.q (cc)
      | else-ongoing w ↦ rw (w.q-is ∙ w.no_node.ensures) (freed c.args.m c.args.k c.args.count c.requires.visitable c.requires.k_value c.args.ongoing w.if-ongoing.false)
    ]
