-- What the tests that come first leave: a sound model, and a row of it.
use Prim.Native.Nat.{ℕ, ◌<◌}
use mathlib.Core.Path.{◌≡◌, ap, sym, ◌∙◌, subst}
use mathlib.Core.Bool.{true}
use Rattle.std.specs.Prelude.{Some}
use Rattle.model.specs.declared.Model.{Model}
use Rattle.model.specs.declared.ChildIndex.{ChildIndex}
use Rattle.model.specs.Rows.{row_at, row_total}
use Rattle.model.specs.Sound.{sound}
use Rattle.runs.specs.Regions.{Tiled}
use Rattle.runs.specs.Search.{region_at}
use Rattle.runs.specs.Laid.{live, Laid}
use Rattle.tree.specs.Paths.{Shows}
use Rattle.steps.proofs.Settling.{sound_of}
use Rattle.steps.proofs.SoundRegions.{sound_laid, sound_tiled, found_inside}
use Rattle.tree_list.specs.declared.checks.SoundModel.{SoundModel}
use Rattle.tree_list.proofs.SoundRows.{row_there}

-- what is known of a row that was found: p and i are where it stands
pub record RowFound (m : Model) (r p : ℕ) (i : ChildIndex) : Type 0 where
  pub whole : sound m ≡ true
  pub inside : r < row_total m.nodes
  pub stands : (p, i.0) ≡ row_at m.nodes r
  pub shows : Shows m.nodes (p, i.0)

-- the model that was checked is sound, and what is looked up in it is the model's
module _ (m : Model) (checked : SoundModel) (e : checked.model ≡ m) where
  pub checked_sound : sound m ≡ true
  checked_sound = sym (ap sound e) ∙ checked.sound

  pub checked_laid : Laid m
  checked_laid = sound_laid m (sound_of m checked_sound)

  pub checked_tiled : Tiled 0 (live m)
  checked_tiled = sound_tiled m (sound_of m checked_sound)

  pub row_found :
      (r place : ℕ)
      → region_at (live m) r ≡ Some place
      → (p : ℕ) (i : ChildIndex)
      → p ≡ (row_at checked.model.nodes r).0
      → i ≡ record { 0 = (row_at checked.model.nodes r).1 }
      → RowFound m r p i
  row_found r place h p i d f =
      let at : (p, i.0) ≡ row_at m.nodes r = (λ s. (d s, (f s).0)) ∙ ap (λ (q : Model). row_at q.nodes r) e in
      record {
        whole = checked_sound;
        inside = found_inside m (sound_of m checked_sound) r place h;
        stands = at;
        shows = subst (Shows m.nodes) (sym at) (row_there m checked_sound r place h);
      }
