use Rattle.std.proofs.Common.{◌≡◌, ◌-◌}
use Rattle.model.specs.Table.{entries, first_entry, child_entry}
use Rattle.table.proofs.child_entry.Given as goal

abbrev pub invariant-loop-entry : goal.invariant-loop-entry
invariant-loop-entry l =
    first_entry l.table l.parent l.index.0 (entries l.table - l.entry) l.entry ≡ child_entry l.table l.parent l.index.0
