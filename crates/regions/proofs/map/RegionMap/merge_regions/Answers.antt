use Rattle.std.proofs.Common.{ℕ, ◌≡◌, ◌<◌, ◌≤◌, ◌^◌, refl, ◌∙◌, ap, ◌-◌, take, length, arith, rules}
use Rattle.std.proofs.Math.Seq.{take-length}
use Rattle.model.specs.Places.{region_places}
use Rattle.model.specs.Regions.{no_region}
use Rattle.runs.specs.Regions.{total}
use Rattle.runs.specs.Changes.{joined}
use Rattle.regions.proofs.Holding.{opened, view_of, kept}
use Rattle.regions.proofs.Merging.{merging_start, merging_fits, merging_same, merging_apart}
use Rattle.regions.proofs.map.RegionMap.merge_regions.Goals as goal
use Rattle.regions.proofs.map.RegionMap.merge_regions.Goals.{then-n-gt0+then-merged-n, else-n-gt0, else-n-gt0-via-then-n-gt0+else-merged-n, else-n-gt0-via-else-n-gt0}

pub loop-g-init : goal.loop-g-init
loop-g-init c =
    let zero : c.default-merged.result ≡ no_region = search rules in
    record { few = omega arith; done = merging_start c.default-merged.result zero }

pub merge-requires : goal.merge-requires
merge-requires c =
    let l = c.loop-g in
    let held = opened c.self.inside.regions _ _ (search rules) refl c.self.invariant in
    let small : total (take c.self.inside.count c.self.inside.regions) < 2 ^ 64 = rw c.self.view_is c.requires in
    merging_fits _ l.merged l.n l.g-index (omega (arith, held.fits, held.count)) _ c.loop-g-test.true refl l.invariant.done _ (omega arith) small

pub loop-g-preserved : goal.loop-g-preserved
loop-g-preserved c =
    let l = c.loop-g in
    let i = l.g-index in
    let k = l.n - 1 in
    let held = opened c.self.inside.regions _ _ (search rules) refl c.self.invariant in
    let few : length (take c.self.inside.count c.self.inside.regions) ≤ region_places = omega (arith, held.fits, held.count) in
    elim c.if-n-gt0.branch [
      | then-n-gt0+then-merged-n w ↦
          record {
            few = omega (arith, w.n-is);
            done =
                rw (w.n-is, w.merged-is, w.merge.ensures)
                (merging_same _ l.merged l.n i few _ c.loop-g-test.true refl l.invariant.done k (omega arith) w.if-merged-n.true);
          }
      | else-n-gt0 w ↦
          record {
            few = omega (arith, w.n-is);
            done =
                rw (w.n-is, w.merged-is)
                (merging_apart _ l.merged l.n i few _ c.loop-g-test.true refl l.invariant.done
                (λ j end same. elim w.else-n-gt0.branch [
                  | else-n-gt0-via-then-n-gt0+else-merged-n v ↦ let e : k ≡ j = omega arith in v.if-merged-n.false (rw e same)
                  | else-n-gt0-via-else-n-gt0 v ↦ omega arith
                ]));
          }
    ]

pub invariant_of-self : goal.invariant_of-self
invariant_of-self c = kept _ _ _ c.loop-g.invariant.done

pub returns : goal.returns
returns c =
    let l = c.loop-g in
    let part = take c.self.inside.count c.self.inside.regions in
    let end : l.g-index ≡ length part = omega arith in
    view_of _ _ _ l.invariant.done ∙ ap (λ (n : ℕ). joined (take n part)) end ∙ ap joined (take-length part ∙ c.self.view_is)
