-- The walk is on its course.
use Rattle.std.proofs.Common.{length}
use Rattle.sound.proofs.Course.{Course}
use Rattle.tree.specs.Paths.{to}
use Rattle.sound.proofs.regions_ok.Given as goal

abbrev pub invariant-loop-p : goal.invariant-loop-p
invariant-loop-p l = Course l.m.nodes l.m.regions l.m.region_count l.j l.s l.p l.i

abbrev pub decreases-loop-p : goal.decreases-loop-p
decreases-loop-p l = length (to l.m.nodes l.p)

abbrev pub invariant-loop-j : goal.invariant-loop-j
invariant-loop-j l = Course l.m.nodes l.m.regions l.m.region_count l.j l.s l.p l.i
