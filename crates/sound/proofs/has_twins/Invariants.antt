-- The inner invariant restates the outer one: what is left of a's pairs, or of the later nodes', is the answer.
use Rattle.std.proofs.Common.{◌≡◌, ◌+◌, false, drop}
use mathlib.Core.Bool.{◌||◌}
use Rattle.sound.specs.Tests.{any_twin, has_twins}
use Rattle.sound.proofs.has_twins.Given as goal

abbrev pub invariant-loop-j : goal.invariant-loop-j
invariant-loop-j l = (l.found ≡ false) × ((any_twin l.a (drop l.j l.m.nodes) || has_twins (drop (l.i + 1) l.m.nodes)) ≡ has_twins (drop 1 l.m.nodes))

abbrev pub invariant-pairs : goal.invariant-pairs
invariant-pairs l = (l.found ≡ false) × (has_twins (drop l.i l.m.nodes) ≡ has_twins (drop 1 l.m.nodes))
