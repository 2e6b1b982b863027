-- Count (1): the published count; 0 when refused.
use Rattle.std.specs.Prelude.{ℕ, not}
use Rattle.model.specs.declared.Model.{Model}
use Rattle.model.specs.Answers.{CountAnswer, refuse_if}
use Rattle.model.specs.Sound.{sound}

abbrev pub counted : ℕ → ℕ → CountAnswer
counted n c = record { refusal = n; count = c }

unfoldable pub answer_count : Model → CountAnswer
answer_count m = refuse_if (not (sound m)) (counted 1 0) (counted 0 m.published)
