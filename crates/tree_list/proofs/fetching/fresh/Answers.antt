use Rattle.std.proofs.Common.{sym, ap, length, arith, ◌∙◌}
use Rattle.model.proofs.Zeros.{node_zero}
use Rattle.tree_list.proofs.AnswerFetch.{fresh_leaf, fresh_listed, listed_five}
use Rattle.tree_list.proofs.fetching.fresh.Goals as goal

pub returns-in_default : goal.returns-in_default
returns-in_default c =
    fresh_leaf c.args.table.now c.args.m.nodes c.args.parent c.args.index.0 c.default.result (node_zero c.default.result c.default.ensures)
    (sym c.in_default.is ∙ c.child_entry.ensures)

pub bounds-words-2 : goal.bounds-words-2
bounds-words-2 c =
    omega (arith, ap length c.child_words-words.ensures, listed_five c.args.table.now c.args.m.nodes c.args.parent c.args.index.0 _ (sym c.in-Some.is ∙ c.child_entry.ensures))

pub bounds-words-4 : goal.bounds-words-4
bounds-words-4 c =
    omega (arith, ap length c.child_words-words.ensures, listed_five c.args.table.now c.args.m.nodes c.args.parent c.args.index.0 _ (sym c.in-Some.is ∙ c.child_entry.ensures))

pub bounds-words-3 : goal.bounds-words-3
bounds-words-3 c =
    omega (arith, ap length c.child_words-words.ensures, listed_five c.args.table.now c.args.m.nodes c.args.parent c.args.index.0 _ (sym c.in-Some.is ∙ c.child_entry.ensures))

pub returns : goal.returns
returns c =
    fresh_listed c.args.table.now c.args.m.nodes c.args.parent c.args.index.0 c.child_words-words.result.now _ c.default.result (node_zero c.default.result c.default.ensures)
    c.child_words-words.ensures (sym c.in-Some.is ∙ c.child_entry.ensures)
