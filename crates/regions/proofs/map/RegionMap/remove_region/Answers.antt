use Rattle.std.proofs.Common.{◌≡◌, rules}
use Rattle.model.specs.Regions.{no_region}
use Rattle.regions.proofs.Holding.{opened, view_of, kept, removed}
use Rattle.regions.proofs.map.RegionMap.remove_region.Goals as goal

pub invariant_of-self : goal.invariant_of-self
invariant_of-self c =
    let held = opened c.self.inside.regions _ _ (search rules) c.self.view_is c.self.invariant in
    let zero : c.default.result ≡ no_region = search rules in
    rw (c.copy_within.ensures.after, zero) (kept _ _ _ (removed _ _ _ held c.args.place c.requires))

pub returns : goal.returns
returns c =
    let held = opened c.self.inside.regions _ _ (search rules) c.self.view_is c.self.invariant in
    let zero : c.default.result ≡ no_region = search rules in
    rw (c.copy_within.ensures.after, zero) (view_of _ _ _ (removed _ _ _ held c.args.place c.requires))
