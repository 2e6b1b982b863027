-- One turn of `merge_regions`: the second list holds the regions of gs before the place i, joined, and takes the region g at i.
use Prim.Native.Nat.{ℕ, suc, ◌+◌, ◌≤◌, ◌<◌, ◌^◌}
use native.Mathlib.Omega.{arith}
use mathlib.Core.Path.{◌≡◌, ap, sym, subst, ◌∙◌}
use mathlib.Core.Logic.{◌≢◌}
use mathlib.Core.List.{List, []}
use lib.ListN.{length, get_or, set, take, replicate}
use lib.Seq.{length-take-le}
use Rattle.model.specs.declared.Region.{Region}
use Rattle.model.specs.Places.{region_places}
use Rattle.model.specs.Regions.{no_region}
use Rattle.runs.specs.Regions.{at, total}
use Rattle.runs.specs.Changes.{merge, joined}
use Rattle.runs.proofs.Joins.{attach_last, joined_more, last_same, last_apart, length_joined, total_joined, one_total, some_total}
use Rattle.regions.proofs.Holding.{Holding, held_none, put, pushed, read}

pub merging_start : (g : Region) → g ≡ no_region → Holding (replicate region_places g) 0 (joined [])
unfolding joined
merging_start g e = rw e held_none

module _ (gs l : List Region) (c i : ℕ) (few : length gs ≤ region_places) (g : Region) (lt : i < length gs) (here : at gs i ≡ g) (h : Holding l c (joined (take i gs))) where
  abbrev done : List Region
  done = joined (take i gs)

  done_few : length done ≤ i
  done_few = omega (arith, length_joined (take i gs), length-take-le i gs (omega arith))

  more : attach_last done g ≡ joined (take (i + 1) gs)
  more = ap (attach_last done) (sym here) ∙ sym (joined_more gs i lt)

  module _ (k : ℕ) (end : suc k ≡ c) where
    inside : suc k ≡ length done
    inside = end ∙ h.count

    last_at : get_or l k no_region ≡ at done k
    last_at = read _ _ _ h k (omega (arith, inside))

    pub merging_fits : total gs < 2 ^ 64 → (get_or l k no_region).length + g.length < 2 ^ 64
    merging_fits small =
        rw (last_at, ← here)
        (omega (arith, one_total done k (omega (arith, inside)), total_joined (take i gs), some_total gs i lt))

    pub merging_same : (get_or l k no_region).node ≡ g.node → Holding (set l k (merge (get_or l k no_region) g)) c (joined (take (i + 1) gs))
    merging_same same =
        rw last_at
        (subst (Holding (set l k (merge (at done k) g)) c) (sym (last_same done k g inside (sym (ap (λ (x : Region). x.node) last_at) ∙ same)) ∙ more)
        (put _ _ _ h k (merge (at done k) g) (omega (arith, inside))))

  pub merging_apart : ((k : ℕ) → suc k ≡ c → (get_or l k no_region).node ≢ g.node) → Holding (set l c g) (c + 1) (joined (take (i + 1) gs))
  merging_apart apart = subst (Holding (set l c g) (c + 1)) (sym (last_apart done g other) ∙ more) (pushed _ _ _ h g (omega (arith, done_few)))
    where
      other : (k : ℕ) → suc k ≡ length done → (at done k).node ≢ g.node
      other k end same = apart k (end ∙ sym h.count) (ap (λ (x : Region). x.node) (read _ _ _ h k (omega arith)) ∙ same)
