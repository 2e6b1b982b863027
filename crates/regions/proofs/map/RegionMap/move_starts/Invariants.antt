use Rattle.std.proofs.Common.{◌≡◌, ◌++◌, map, take, drop}
use Rattle.runs.specs.Changes.{moved}
use Rattle.regions.proofs.map.RegionMap.move_starts.Given as goal

abbrev pub invariant-loop-g : goal.invariant-loop-g
invariant-loop-g l =
    l.g-items ≡ map (moved l.later l.earlier) (take l.g-index l.initial.g-items) ++ drop l.g-index l.initial.g-items
