-- Count, by its refusal.
use mathlib.Core.Path.{◌≡◌}
use mathlib.Core.Bool.{true, false}
use Rattle.model.specs.declared.Model.{Model}
use Rattle.model.specs.Sound.{sound}
use Rattle.model.specs.Count.{counted, answer_count}

pub count_unsound : (m : Model) → sound m ≡ false → answer_count m ≡ counted 1 0
unfolding answer_count
count_unsound m e = rw e

pub count_sound : (m : Model) → sound m ≡ true → answer_count m ≡ counted 0 m.published
unfolding answer_count
count_sound m e = rw e
