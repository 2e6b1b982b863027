-- Release, by its refusals; a closed node freed in place.
use Prim.Native.Nat.{ℕ, zero, suc, ◌≤◌, ◌<◌}
use mathlib.Core.Path.{◌≡◌, refl, sym, ap, ◌∙◌}
use Rattle.std.specs.Prelude.{Some, None}
use Rattle.model.specs.Places.{unless_zero}
use Rattle.model.proofs.UnlessZero.{some_is, none_is}
use mathlib.Core.Bool.{true, false}
use lib.ListN.{set}
use borrow.Author.Tests.{le-leb, lt-leb}
use Rattle.model.specs.declared.Model.{Model}
use Rattle.model.specs.Nodes.{no_node, node_at, is_open, child}
use Rattle.model.specs.declared.ChildIndex.{ChildIndex}
use Rattle.model.specs.Rows.{Row, row_total, row_at}
use Rattle.model.specs.Sound.{sound}
use Rattle.model.specs.Answers.{just_model}
use Rattle.model.specs.Release.{release_node, answer_release}
use Rattle.steps.specs.Settled.{with_nodes}
use Rattle.steps.proofs.Settling.{sound_of}
use Rattle.steps.proofs.Quiet.{quiet_freed}
use Rattle.edits.proofs.InPlace.{quiet_in_place, freed_totals}
use Rattle.tree_list.proofs.Checked.{RowFound}

module _ (m : Model) (r : ℕ) where
  pub release_unsound : sound m ≡ false → answer_release m r ≡ just_model 1 m
  unfolding answer_release
  release_unsound e = rw e

  pub release_past : sound m ≡ true → row_total m.nodes ≤ r → answer_release m r ≡ just_model 4 m
  unfolding answer_release
  release_past e h = rw (e, le-leb (row_total m.nodes) r h)

  pub release_row : sound m ≡ true → r < row_total m.nodes → answer_release m r ≡ release_node m (child m.nodes (row_at m.nodes r).0 (row_at m.nodes r).1)
  unfolding answer_release
  release_row e h = rw (e, lt-leb (row_total m.nodes) r h)

-- the node of a row that was found
pub release_answer : (m : Model) (r p : ℕ) (i : ChildIndex) → RowFound m r p i → release_node m (child m.nodes p i.0) ≡ answer_release m r
release_answer m r p i F = ap (λ (x : Row). release_node m (child m.nodes x.0 x.1)) F.stands ∙ sym (release_row m r F.whole F.inside)

module _ (m : Model) where
  pub release_none : (k : ℕ) → None ≡ unless_zero k → release_node m k ≡ just_model 0 m
  unfolding release_node
  release_none k e = ap (release_node m) (none_is k e)

  -- of a row that has number j
  module _ (k j : ℕ) (g : Some j ≡ unless_zero k) where
    pub release_open : is_open (node_at m.nodes j) ≡ true → release_node m k ≡ just_model 9 m
    unfolding release_node
    release_open o = by j k (some_is k j g) o
      where
        by : (j k : ℕ) → (j ≡ k) × (j ≡ 0 → ⊥) → is_open (node_at m.nodes j) ≡ true → release_node m k ≡ just_model 9 m
        by j zero e o = absurd (e.1 e.0)
        by j (suc k) e o = let z : is_open (node_at m.nodes (suc k)) ≡ true = sym (ap (λ (x : ℕ). is_open (node_at m.nodes x)) e.0) ∙ o in rw z

    pub release_freed : sound m ≡ true → j < 256 → is_open (node_at m.nodes j) ≡ false → release_node m k ≡ just_model 0 (with_nodes m (set m.nodes j no_node))
    unfolding release_node
    release_freed s h c = by j k (some_is k j g) h c
      where
        by : (j k : ℕ) → (j ≡ k) × (j ≡ 0 → ⊥) → j < 256 → is_open (node_at m.nodes j) ≡ false → release_node m k ≡ just_model 0 (with_nodes m (set m.nodes j no_node))
        by zero k e h c = absurd (e.1 refl)
        by (suc j) k e h c =
            let S = sound_of m s in
            ap (release_node m) (sym e.0)
            ∙ rw c (ap (just_model 0) (quiet_in_place m S (set m.nodes (suc j) no_node) (quiet_freed m.nodes S.well j h c) (freed_totals m S j h)))
