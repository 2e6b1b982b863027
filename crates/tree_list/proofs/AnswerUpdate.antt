-- Update, by its refusals.
use Prim.Native.Nat.{ℕ, ◌≤◌}
use mathlib.Core.Path.{◌≡◌, ◌∙◌}
use mathlib.Core.Bool.{true, false}
use mathlib.Core.List.{List, []}
use lib.Dec.{ltb}
use borrow.Author.Tests.{ltb-false}
use Rattle.model.specs.declared.Model.{Model}
use Rattle.model.specs.declared.Step.{Step}
use Rattle.model.specs.Places.{row_limit}
use Rattle.model.specs.Table.{readable}
use Rattle.model.specs.Rows.{row_total}
use Rattle.model.specs.Sound.{sound}
use Rattle.model.specs.Logs.{State, state}
use Rattle.model.specs.Answers.{no_update}
use Rattle.model.specs.Update.{visits, any_went_back, steps, updated, answer_update}

module _ (t : List ℕ) (m : Model) where
  pub update_unsound : sound m ≡ false → answer_update t m ≡ no_update 1 m
  unfolding answer_update
  update_unsound e = rw e

  pub update_unreadable : sound m ≡ true → readable t ≡ false → answer_update t m ≡ no_update 2 m
  unfolding answer_update
  update_unreadable e f = rw (e, f)

  -- with its steps
  module _ (e : sound m ≡ true) (f : readable t ≡ true) (es : List Step) (h : es ≡ visits m.nodes) where
    abbrev later : State
    later = steps t (state m.nodes []) es

    pub update_back : any_went_back t m.nodes es ≡ true → answer_update t m ≡ no_update 8 m
    unfolding answer_update
    update_back g = rw (e, f, ← h, g)

    pub update_done : any_went_back t m.nodes es ≡ false → answer_update t m ≡ updated m later
    unfolding answer_update
    update_done g = rw (e, f, ← h, g)

    pub update_limit : any_went_back t m.nodes es ≡ false → ltb row_limit (row_total later.nodes) ≡ true → answer_update t m ≡ no_update 7 m
    unfolding updated
    update_limit g l = update_done g ∙ rw l

-- what the update may come to
pub update_fits : (t : List ℕ) (m : Model) → ltb row_limit (row_total (steps t (state m.nodes []) (visits m.nodes)).nodes) ≡ false → row_total (steps t (state m.nodes []) (visits m.nodes)).nodes ≤ row_limit
update_fits t m h = ltb-false row_limit (row_total (steps t (state m.nodes []) (visits m.nodes)).nodes) h
