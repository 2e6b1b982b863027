use Rattle.std.proofs.Common.{rules}
use Rattle.regions.proofs.Holding.{opened, view_of, kept, inserted}
use Rattle.regions.proofs.map.RegionMap.insert_region.Goals as goal

pub invariant_of-self : goal.invariant_of-self
invariant_of-self c =
    let held = opened c.self.inside.regions _ _ (search rules) c.self.view_is c.self.invariant in
    rw c.copy_within.ensures.after (kept _ _ _ (inserted _ _ _ held c.args.place c.args.new c.requires.0 c.requires.1))

pub returns : goal.returns
returns c =
    let held = opened c.self.inside.regions _ _ (search rules) c.self.view_is c.self.invariant in
    rw c.copy_within.ensures.after (view_of _ _ _ (inserted _ _ _ held c.args.place c.args.new c.requires.0 c.requires.1))
