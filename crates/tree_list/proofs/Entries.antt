-- Where a listed entry's words stand in the table, and what is read of one that isn't there.
use Prim.Native.Nat.{ℕ, ◌+◌, ◌*◌, ◌%◌, ◌<◌, ◌≤◌}
use native.Mathlib.Omega.{arith}
use mathlib.Core.Path.{◌≡◌}
use mathlib.Core.Bool.{true, false}
use mathlib.Core.List.{List}
use lib.Dec.{eqb, ltb}
use lib.ListN.{length, get_or-eq_default}
use borrow.Author.Tests.{eqb-true, ltb-false}
use Rattle.model.specs.Table.{entries, readable, item_count}
use Rattle.lists.proofs.Bools.{and_right}

pub entry_inside : (t : List ℕ) (e : ℕ) → e < entries t → 5 * e + 5 ≤ length t
unfolding entries
entry_inside t e h = omega arith

-- an entry that isn't in the table has no children
pub count_none : (t : List ℕ) (e : ℕ) → readable t ≡ true → ltb e (entries t) ≡ false → item_count t e ≡ 0
unfolding item_count readable entries
count_none t e r h =
    let whole : length t % 5 ≡ 0 = eqb-true (length t % 5) 0 (and_right (ltb 0 (length t)) (eqb (length t % 5) 0) r) in
    get_or-eq_default t 0 {n = 5 * e + 2} (omega (arith, ltb-false _ _ h))
