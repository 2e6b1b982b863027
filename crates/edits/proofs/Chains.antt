-- Totals moved up the chain, by the chain as it was before a node was put.
use Prim.Native.Nat.{ℕ, zero, suc, ◌≤◌}
use native.Mathlib.Omega.{arith}
use mathlib.Core.Path.{◌≡◌, refl, sym, ap, ◌∙◌}
use mathlib.Core.Logic.{◌⊎◌, inl, inr}
use mathlib.Core.Bool.{Bool, true, false}
use mathlib.Core.List.{List}
use Rattle.lists.proofs.Bools.{bool, differ}
use Rattle.model.specs.declared.Node.{Node}
use Rattle.model.specs.Places.{depth}
use Rattle.model.specs.Nodes.{node_at, used}
use Rattle.model.specs.Rows.{rows, row_total, total_of}
use Rattle.model.specs.Update.{end_of}
use Rattle.tree.specs.WellFormed.{Used, Opens, up, WellFormed}
use Rattle.tree.specs.Paths.{Over, here, step}
use Rattle.tree.specs.Pairs.{Keeps}
use Rattle.tree.proofs.Find.{above_used}
use Rattle.tree.proofs.Over.{dec_over}
use Rattle.tree.proofs.Rows.{end_fits}
use Rattle.tree.proofs.WellFormed.{open_used}
use Rattle.steps.specs.Changes.{bare, Bare}
use Rattle.steps.proofs.Totals.{over_open}
use Rattle.totals.specs.Totals.{moved_above, Above}
use Rattle.totals.proofs.Moves.{moved_above_lem, kept_else, moved_long}

-- no node has more rows below it than there are
pub total_rows : (ns : List Node) → WellFormed ns → (k : ℕ) → Opens ns k → total_of ns k ≤ row_total ns
unfolding end_of total_of rows
total_rows ns w zero o = end_fits ns w 0 o
total_rows ns w (suc k) o = omega (arith, end_fits ns w (suc k) o)

module _ (ns : List Node) (w : WellFormed ns) where
  -- the chain of a node that is kept is the same in both lists
  module _ (ms : List Node) (K : Keeps ns ms) where
    pub over_to : (j k : ℕ) → Used ns k → Over ns j k → Over ms j k
    over_to j k u (here e) = here e
    over_to j k u (step {k = i} v) = step {k = i} (rw (K.same_up (suc i) u) (over_to j (up ns (suc i)) (above_used ns w i u) v))

    over_from : (j k l : ℕ) → l ≡ k → Used ns k → Over ms j l → Over ns j k
    over_from j k l d u (here e) = here (sym d ∙ e)
    over_from j k l d u (step {k = i} v) =
        let u' : Used ns (suc i) = rw (← d) at u in
        rw (← d) (step {k = i} (over_from j (up ns (suc i)) (up ms (suc i)) (K.same_up (suc i) u') (above_used ns w i u') v))

    pub over_of : (j k : ℕ) → Used ns k → Over ms j k → Over ns j k
    over_of j k u v = over_from j k k refl u v

  -- nothing but totals is moved
  pub moved_bare : (more : Bool) (rows k : ℕ) → Used ns (suc k) → Bare ns (moved_above more rows depth ns (suc k))
  moved_bare more rows k u = record { size = sym (moved_long ns w more rows (suc k) u); node = λ j. node j (bool (used (node_at ns j))) }
    where
      news : List Node
      news = moved_above more rows depth ns (suc k)

      at : (j : ℕ) → Dec (Above ns j (suc k)) → bare (node_at ns j) ≡ bare (node_at news j)
      at j (yes a) = sym (ap bare (moved_above_lem ns w more rows (suc k) u j a))
      at j (no n) = sym (ap bare (kept_else ns w more rows (suc k) u j n))

      node : (j : ℕ) → (used (node_at ns j) ≡ true) ⊎ (used (node_at ns j) ≡ false) → bare (node_at ns j) ≡ bare (node_at news j)
      node j (inl v) = at j (dec_over ns w j (up ns (suc k)) (above_used ns w k u) v)
      node j (inr v) = at j (no (λ a. differ (open_used ns j (over_open ns w j (up ns (suc k)) (w.placed k u).above a)) v))
