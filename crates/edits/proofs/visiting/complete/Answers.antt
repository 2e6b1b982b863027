use Rattle.edits.proofs.Visits.{complete_settles}
use Rattle.edits.proofs.visiting.complete.Goals as goal

pub returns : goal.returns
returns c = complete_settles c.args.m c.requires.sound c.args.k c.requires.opens
