-- Models whose regions are laid into the array: what a function leaves is laid so again.
use Prim.Native.Nat.{ℕ, ◌≤◌, ◌<◌}
use native.Mathlib.Omega.{arith}
use mathlib.Core.Path.{◌≡◌, ap, sym, ◌∙◌}
use mathlib.Core.List.{List}
use lib.ListN.{length, get_or, length-take}
use lib.Seq.{get_or-take}
use Rattle.model.specs.declared.Model.{Model}
use Rattle.model.specs.declared.Region.{Region}
use Rattle.model.specs.Places.{region_places}
use Rattle.model.specs.Regions.{no_region}
use Rattle.runs.specs.Regions.{at}
use Rattle.runs.specs.Laid.{live, laid, Laid}
use Rattle.runs.proofs.Edits.{take_pad}

module _ (m : Model) (gs : List Region) (fits : length gs ≤ region_places) where
  live_laid : live (laid m gs) ≡ gs
  live_laid = take_pad region_places no_region gs fits

  laid_laid : Laid (laid m gs)
  laid_laid = ap (laid m) (sym live_laid)

-- a step from a model that is laid out already
module _ (m p : Model) (gs : List Region) (fits : length gs ≤ region_places) (e : p ≡ laid m gs) where
  pub live_of : live p ≡ gs
  live_of = ap live e ∙ live_laid m gs fits

  pub laid_of : Laid p
  laid_of = rw e (laid_laid m gs fits)

  -- and what a further function leaves
  pub then : (r : Model) (f : List Region → List Region) (ys : List Region) → r ≡ laid p (f (live p)) → f gs ≡ ys → r ≡ laid m ys
  then r f ys g h =
      g ∙ ap (λ (q : Model). laid q (f (live q))) e ∙ ap (λ (xs : List Region). laid m (f xs)) (live_laid m gs fits) ∙ ap (laid m) h

-- a model whose regions are laid out, as it comes
module _ (m : Model) (long : length m.regions ≡ region_places) (l : Laid m) where
  pub live_count : length (live m) ≡ m.region_count
  live_count = sym (ap (λ (p : Model). p.region_count) l)

  pub live_few : length (live m) ≤ region_places
  live_few = rw length-take (omega (arith, long))

  pub count_few : m.region_count ≤ region_places
  count_few = omega (arith, live_count, live_few)

  pub live_at : (k : ℕ) → k < m.region_count → at (live m) k ≡ get_or m.regions k no_region
  live_at k h = get_or-take m.region_count m.regions k no_region h
