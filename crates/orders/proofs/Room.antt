-- An order holds as many steps as it counts.
use Prim.Native.Nat.{◌≤◌}
use native.Mathlib.Omega.{arith}
use mathlib.Core.Path.{◌≡◌, refl, sym, ◌∙◌, ap}
use mathlib.Core.List.{List}
use lib.ListN.{length}
use lib.Seq.{length-take-le}
use Rattle.orders.specs.declared.order.Order.{Order}
use Rattle.orders.specs.Order.{items, Holds}

-- one that a function is lent, whose places are all there
pub held : {T : Type 0} (o : Order T) → length o.steps ≡ 512 → o.len ≤ 512 → Holds o (items o)
held o long short = record { short = short; count = sym (length-take-le o.len o.steps (omega arith)); exact = refl }

-- one that a call wrote, which says so of it
pub held_again : {T : Type 0} (o : Order T) (l : List T) → Holds o l → Holds o (items o)
held_again o l h = record { short = h.short; count = h.count ∙ ap length (sym h.exact); exact = refl }
