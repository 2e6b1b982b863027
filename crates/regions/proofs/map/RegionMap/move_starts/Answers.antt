use Rattle.std.proofs.Common.{ℕ, ◌≤◌, List, ◌≡◌, length, map, take, drop, ◌++◌, ◌∙◌, arith, append-nil, rules}
use Rattle.std.proofs.Math.Seq.{drop-length, take-length}
use Rattle.std.proofs.lemmas.List.{get_or_default}
use Rattle.std.proofs.lemmas.List.Edits.{map_over_more}
use Rattle.model.specs.declared.Region.{Region}
use Rattle.runs.specs.Changes.{moved}
use Rattle.regions.proofs.Holding.{opened, view_of, kept, mapped}
use Rattle.regions.proofs.map.RegionMap.move_starts.Goals as goal

-- where the loop ends
all : (f : Region → Region) (part items : List Region) (i : ℕ) → items ≡ map f (take i part) ++ drop i part → i ≤ length part → length part ≤ i → items ≡ map f part
all f part items i e le ge = let end : i ≡ length part = omega arith in e ∙ rw (end, take-length, drop-length) (append-nil (map f part))

pub loop-g-preserved : goal.loop-g-preserved
loop-g-preserved c =
    let l = c.loop-g in
    map_over_more (moved c.args.later c.args.earlier) _ l.g-items l.g-index _ c.loop-g-test.true l.invariant (get_or_default l.g-items l.g-index _ _ (omega arith))

pub invariant_of-self : goal.invariant_of-self
invariant_of-self c =
    let l = c.loop-g in
    let held = opened c.self.inside.regions _ _ (search rules) c.self.view_is c.self.invariant in
    rw (all (moved c.args.later c.args.earlier) _ l.g-items l.g-index l.invariant l.auto.g-index-end c.loop-g-test.false) (kept _ _ _ (mapped _ _ _ held (moved c.args.later c.args.earlier) c.args.place c.requires.0))

pub returns : goal.returns
returns c =
    let l = c.loop-g in
    let held = opened c.self.inside.regions _ _ (search rules) c.self.view_is c.self.invariant in
    rw (all (moved c.args.later c.args.earlier) _ l.g-items l.g-index l.invariant l.auto.g-index-end c.loop-g-test.false) (view_of _ _ _ (mapped _ _ _ held (moved c.args.later c.args.earlier) c.args.place c.requires.0))
