-- A list of regions in fixed places, and zeros in those left: what the methods of `RegionMap` write there.
use Prim.Native.Nat.{ℕ, ◌+◌, ◌-◌, ◌≤◌, ◌<◌}
use native.Mathlib.Omega.{arith}
use mathlib.Core.Path.{◌≡◌, refl, ap, sym, ◌∙◌}
use mathlib.Core.List.{List, [], ◌∷◌, ◌++◌}
use lib.ListN.{length, get_or, set, take, replicate, length-set, length-append}
use lib.Seq.{length-take-le}
use Rattle.std.specs.List.{copy_within}
use Rattle.model.specs.declared.Region.{Region}
use Rattle.model.specs.Places.{region_places, pad}
use Rattle.model.specs.Regions.{no_region}
use Rattle.runs.specs.Edits.{map_from, insert_at, remove_at}
use Rattle.runs.specs.Regions.{at}
use Rattle.runs.proofs.Edits.{map_part, length_map_from, length_insert_at, length_remove_at, pad_is, take_pad, get_pad, set_pad, add_pad, map_pad, insert_pad, remove_pad}

-- the first c places of l hold gs
pub record Holding (l : List Region) (c : ℕ) (gs : List Region) : Type 0 where
  pub fits : c ≤ region_places
  pub count : c ≡ length gs
  pub written : l ≡ pad region_places no_region gs

pub held_none : Holding (replicate region_places no_region) 0 []
held_none = record { fits = omega arith; count = omega arith; written = sym (pad_is region_places no_region [] region_places refl) }

pub opened : (l gs : List Region) (c : ℕ) → length l ≡ region_places → take c l ≡ gs → (c ≤ region_places) × (l ≡ pad region_places no_region (take c l)) → Holding l c gs
opened l gs c long e inv =
    record {
      fits = inv.0;
      count = omega (arith, inv.0, ap length e, length-take-le c l (omega (arith, inv.0)));
      written = inv.1 ∙ ap (pad region_places no_region) e;
    }

module _ (l gs : List Region) (c : ℕ) (h : Holding l c gs) where
  few : length gs ≤ region_places
  few = omega (arith, h.fits, h.count)

  pub view_of : take c l ≡ gs
  view_of = ap (take c) h.written ∙ ap (λ (n : ℕ). take n (pad region_places no_region gs)) h.count ∙ take_pad region_places no_region gs few

  pub kept : (c ≤ region_places) × (l ≡ pad region_places no_region (take c l))
  kept = (h.fits, h.written ∙ ap (pad region_places no_region) (sym view_of))

  pub read : (j : ℕ) → j < length gs → get_or l j no_region ≡ at gs j
  read j lt = ap (λ (k : List Region). get_or k j no_region) h.written ∙ get_pad region_places no_region gs few j lt

  pub put : (j : ℕ) (x : Region) → j < length gs → Holding (set l j x) c (set gs j x)
  put j x lt =
      record {
        fits = h.fits;
        count = h.count ∙ sym (length-set gs j x);
        written = ap (λ (k : List Region). set k j x) h.written ∙ set_pad region_places no_region gs few j x lt;
      }

  pub pushed : (x : Region) → length gs < region_places → Holding (set l c x) (c + 1) (gs ++ x ∷ [])
  pushed x lt =
      record {
        fits = omega (arith, h.count);
        count = rw length-append (omega (arith, h.count));
        written =
            ap (λ (k : List Region). set k c x) h.written
            ∙ ap (λ (n : ℕ). set (pad region_places no_region gs) n x) h.count
            ∙ add_pad region_places no_region gs few x lt;
      }

  pub mapped : (f : Region → Region) (j : ℕ) → j ≤ length gs → Holding (map_part f j (c - j) l) c (map_from f j gs)
  mapped f j le =
      record {
        fits = h.fits;
        count = h.count ∙ sym (length_map_from gs j f le);
        written = ap (map_part f j (c - j)) h.written ∙ ap (λ (n : ℕ). map_part f j (n - j) (pad region_places no_region gs)) h.count ∙ map_pad region_places no_region gs few f j le;
      }

  pub inserted : (j : ℕ) (x : Region) → j ≤ length gs → length gs < region_places → Holding (set (copy_within l j c (j + 1)) j x) (c + 1) (insert_at j x gs)
  inserted j x le lt =
      record {
        fits = omega (arith, h.count);
        count = omega (arith, h.count, length_insert_at gs j x le);
        written =
            ap (λ (k : List Region). set (copy_within k j c (j + 1)) j x) h.written
            ∙ ap (λ (n : ℕ). set (copy_within (pad region_places no_region gs) j n (j + 1)) j x) h.count
            ∙ insert_pad region_places no_region gs few j x le lt;
      }

  pub removed : (j : ℕ) → j < length gs → Holding (set (copy_within l (j + 1) c j) (c - 1) no_region) (c - 1) (remove_at j gs)
  removed j lt =
      record {
        fits = omega (arith, h.fits);
        count = omega (arith, h.count, length_remove_at gs j lt);
        written =
            ap (λ (k : List Region). set (copy_within k (j + 1) c j) (c - 1) no_region) h.written
            ∙ ap (λ (n : ℕ). set (copy_within (pad region_places no_region gs) (j + 1) n j) (n - 1) no_region) h.count
            ∙ remove_pad region_places no_region gs few j lt;
      }
