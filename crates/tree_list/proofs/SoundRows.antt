-- A sound model's rows: its region map finds the parent and the index of each, and none past the last.
use Prim.Native.Nat.{ℕ, zero, suc, ◌+◌, ◌^◌, ◌≤◌, ◌<◌}
use native.Mathlib.Omega.{arith}
use mathlib.Core.Path.{◌≡◌, refl, subst, sym, ap, ◌∙◌}
use mathlib.Core.Bool.{true}
use mathlib.Core.List.{List, [], ◌∷◌}
use lib.ListN.{length, get_or, take}
use lib.Seq.{get_or-take}
use Rattle.model.specs.declared.Region.{Region}
use Rattle.model.specs.declared.Model.{Model}
use Rattle.std.specs.Prelude.{Some}
use Rattle.model.specs.Nodes.{used, child}
use Rattle.model.specs.Rows.{Row, row_at}
use Rattle.model.specs.Regions.{no_region}
use Rattle.model.specs.Sound.{sound}
use Rattle.runs.specs.Regions.{at}
use Rattle.runs.specs.Search.{region_at, child_at}
use Rattle.runs.specs.Laid.{live}
use Rattle.runs.proofs.Search.{at_holds}
use Rattle.steps.proofs.Opening.{row_shows}
use Rattle.steps.proofs.SoundRegions.{few, sound_regions, found_inside, found_row, region_children}
use Rattle.steps.specs.Settled.{Sound}
use Rattle.steps.proofs.Settling.{sound_of}
use Rattle.model.proofs.Search.{child_found}
use Rattle.tree.proofs.WellFormed.{used_small}
use Rattle.tree.specs.Paths.{Shows}
use Rattle.tree.specs.WellFormed.{Opens}
use Rattle.tree.proofs.Rows.{total_children}
use Rattle.edits.proofs.Chains.{total_rows}

take_inside : {A : Type 0} (n : ℕ) (l : List A) (i : ℕ) → i < length (take n l) → i < n
take_inside zero l i h = h
take_inside (suc n) [] i h = absurd (omega arith)
take_inside (suc n) (x ∷ l) zero h = omega arith
take_inside (suc n) (x ∷ l) (suc i) h = omega (arith, take_inside n l i (omega arith))

-- the region at the place found, as the array has it
found_at : (m : Model) (r i : ℕ) → region_at (live m) r ≡ Some i → get_or m.regions i no_region ≡ at (live m) i
found_at m r i h = sym (get_or-take m.region_count m.regions i no_region (take_inside m.region_count m.regions i (at_holds (live m) r i h).below))

-- what the code reads of the region at the place found
module _ (m : Model) (sound-m : sound m ≡ true) (r i : ℕ) (h : region_at (live m) r ≡ Some i) where
  S : Sound m
  S = sound_of m sound-m

  abbrev q : Region
  q = get_or m.regions i no_region

  pub place_small : i < 512
  place_small = omega (arith, (at_holds (live m) r i h).below, ap length (sound_regions m S), few m S)

  pub place_parent : q.node ≡ (row_at m.nodes r).0
  place_parent = ap (λ (g : Region). g.node) (found_at m r i h) ∙ sym (ap (λ (x : Row). x.0) (found_row m S r i h))

  pub place_index : child_at q r ≡ (row_at m.nodes r).1
  place_index = ap (λ (g : Region). child_at g r) (found_at m r i h) ∙ sym (ap (λ (x : Row). x.1) (found_row m S r i h))

  pub place_holds : (q.start ≤ r) × (r < q.start + q.length)
  place_holds = rw (found_at m r i h) (((at_holds (live m) r i h).low, (at_holds (live m) r i h).high))

  pub row_there : Shows m.nodes (row_at m.nodes r)
  row_there = row_shows m.nodes S.well r (found_inside m S r i h)

  -- its node is open, and has no more children than there are rows
  pub place_fits : q.offset + q.length < 2 ^ 64
  place_fits =
      let o : Opens m.nodes (at (live m) i).node = subst (λ (x : Row). Opens m.nodes x.0) (found_row m S r i h) row_there.0 in
      rw (found_at m r i h)
      (omega (arith, region_children m S m m.nodes refl i (at_holds (live m) r i h).below, total_children m.nodes S.well (at (live m) i).node o, total_rows m.nodes S.well (at (live m) i).node o, S.limit))

-- a child's number, or 0, is a place of the array
pub child_small : (m : Model) → sound m ≡ true → (p i : ℕ) → child m.nodes p i < 256
child_small m e p i = go (child m.nodes p i) refl
  where
    go : (k : ℕ) → child m.nodes p i ≡ k → child m.nodes p i < 256
    go zero z = rw z (omega arith)
    go (suc k) z = rw z (used_small m.nodes (sound_of m e).well (suc k) (child_found used m.nodes p i k z).0)
