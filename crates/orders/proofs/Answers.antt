-- What closing_order and visits answer, for a caller that goes through the steps.
use Prim.Native.Nat.{ℕ, ◌-◌, ◌<◌, ◌≤◌}
use native.Mathlib.Omega.{arith}
use mathlib.Core.Logic.{◌≢◌}
use mathlib.Core.Path.{◌≡◌, sym}
use mathlib.Core.List.{List}
use lib.ListN.{length, get_or}
use Rattle.model.specs.declared.Node.{Node}
use Rattle.model.specs.declared.Step.{Step}
use Rattle.model.specs.Places.{depth, longest_chain}
use Rattle.model.specs.Close.{closing_order}
use Rattle.model.specs.Update.{visits}
use Rattle.steps.specs.Course.{node_of}
use Rattle.orders.proofs.Orders.{closing_enough, closing_last, closing_each, closing_distinct, closing_short, visits_each, visits_distinct, visits_short}
use Rattle.tree.proofs.WellFormed.{open_used, used_small}
use Rattle.tree.specs.WellFormed.{WellFormed, Used, Opens}

-- what closing_order answers for an open node other than the capture
module _ (ns : List Node) (w : WellFormed ns) (k : ℕ) (above : 0 < k) (opens : Opens ns k) (o : List ℕ) (h : o ≡ closing_order ns depth k) where
  pub closing_len : length o ≤ 255
  closing_len = rw h (closing_short ns w depth k above opens)

  pub closing_open : (i : ℕ) → i < length o → Opens ns (get_or o i 0)
  closing_open = rw h (λ i l. (closing_each ns w depth k above opens i l).0)

  pub closing_above : (i : ℕ) → i < length o → 0 < get_or o i 0
  closing_above = rw h (λ i l. (closing_each ns w depth k above opens i l).1)

  pub closing_small : (i : ℕ) → i < length o → get_or o i 0 < 256
  closing_small i l = used_small ns w (get_or o i 0) (open_used ns (get_or o i 0) (closing_open i l))

  pub closing_once : (i j : ℕ) → i < j → j < length o → get_or o i 0 ≢ get_or o j 0
  closing_once = rw h (closing_distinct ns w depth k above opens)

  pub closing_ends : (0 < length o) × (get_or o (length o - 1) 0 ≡ k)
  closing_ends = rw h (closing_last ns depth k (omega arith))

-- what visits answers
module _ (ns : List Node) (w : WellFormed ns) (o : List Step) (h : o ≡ visits ns) where
  pub visits_len : length o ≤ 512
  visits_len = rw h (visits_short ns w)

  -- whatever is read past the end
  module _ (d : Step) where
    pub visits_used : (i : ℕ) → i < length o → Used ns (node_of (get_or o i d))
    visits_used = rw h (visits_each ns w d)

    pub visits_small : (i : ℕ) → i < length o → node_of (get_or o i d) < 256
    visits_small i l = used_small ns w (node_of (get_or o i d)) (visits_used i l)

    pub visits_once : (i j : ℕ) → i < j → j < length o → get_or o i d ≢ get_or o j d
    visits_once = rw h (visits_distinct ns w d)

-- how closing_order comes to it: 255 levels are enough, and there is room for them
module _ (ns : List Node) (w : WellFormed ns) (k : ℕ) (above : 0 < k) (opens : Opens ns k) where
  pub closing_is : closing_order ns longest_chain k ≡ closing_order ns depth k
  closing_is = sym (closing_enough ns w k above opens)

  pub closing_fits : length (closing_order ns longest_chain k) ≤ 255
  closing_fits = closing_short ns w longest_chain k above opens

  pub closing_inside : k < 256
  closing_inside = used_small ns w k (open_used ns k opens)
