use Rattle.std.proofs.Common.{◌∙◌}
use Rattle.edits.proofs.Visits.{grown_ready, complete_open}
use Rattle.edits.proofs.visiting.step_open.Goals as goal

pub complete-requires-clause-sound : goal.complete-requires-clause-sound
complete-requires-clause-sound c = (grown_ready c.args.m c.args.k c.args.count c.requires.visitable c.requires.opens c.grow_open-q.result c.grow_open-q.ensures).0

pub complete-requires-clause-opens : goal.complete-requires-clause-opens
complete-requires-clause-opens c = (grown_ready c.args.m c.args.k c.args.count c.requires.visitable c.requires.opens c.grow_open-q.result c.grow_open-q.ensures).1

pub returns-else-ongoing : goal.returns-else-ongoing
returns-else-ongoing c =
    c.complete.ensures
    ∙ complete_open c.args.m c.args.k c.args.count c.requires.visitable c.requires.opens c.args.ongoing c.if-ongoing.false c.grow_open-q.result c.grow_open-q.ensures
