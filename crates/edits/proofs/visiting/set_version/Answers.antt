use Rattle.edits.proofs.Visits.{version_settles}
use Rattle.edits.proofs.visiting.set_version.Goals as goal

pub returns : goal.returns
returns c = version_settles c.args.m c.requires.sound c.args.k c.args.version c.requires.k_nonzero c.requires.used
