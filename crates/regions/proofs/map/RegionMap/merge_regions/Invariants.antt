use Rattle.std.proofs.Common.{◌≤◌, take}
use Rattle.runs.specs.Changes.{joined}
use Rattle.regions.proofs.Holding.{Holding}
use Rattle.regions.proofs.map.RegionMap.merge_regions.Given as goal

abbrev pub invariant-loop-g : goal.invariant-loop-g
invariant-loop-g l = record { few : l.n ≤ l.g-index; done : Holding l.merged l.n (joined (take l.g-index l.g-items)) }
