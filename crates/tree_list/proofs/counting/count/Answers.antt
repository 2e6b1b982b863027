use Rattle.std.proofs.Common.{sym, ◌∙◌}
use Rattle.tree_list.proofs.AnswerCount.{count_unsound, count_sound}
use Rattle.tree_list.proofs.counting.count.Goals as goal

pub returns-then-is_sound : goal.returns-then-is_sound
returns-then-is_sound c = sym (count_sound c.args.m (sym c.is_sound.ensures ∙ c.if-is_sound.true))

pub returns-else-is_sound : goal.returns-else-is_sound
returns-else-is_sound c = sym (count_unsound c.args.m (sym c.is_sound.ensures ∙ c.if-is_sound.false))
