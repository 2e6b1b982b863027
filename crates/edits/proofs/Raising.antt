-- An open node with more children, and totals raised from it up.
use Prim.Native.Nat.{ℕ, zero, suc, ◌+◌, ◌-◌, ◌<◌}
use native.Mathlib.Omega.{arith}
use native.Mathlib.Decide.{ℕ_discrete}
use mathlib.Core.Path.{◌≡◌, refl, sym, ap, subst, ◌∙◌}
use mathlib.Core.Logic.{◌⊎◌, inl, inr, ◌≢◌}
use mathlib.Core.Bool.{true, false}
use mathlib.Core.List.{List}
use lib.ListN.{set}
use Rattle.lists.proofs.Bools.{bool, differ}
use Rattle.model.specs.declared.Node.{Node}
use Rattle.model.specs.declared.Model.{Model}
use Rattle.model.specs.Places.{depth}
use Rattle.model.specs.Nodes.{node_at, direct_of, used, with_direct, with_total}
use Rattle.tree.specs.WellFormed.{Used, Opens, up, WellFormed}
use Rattle.tree.specs.Paths.{Over, here, step}
use Rattle.tree.proofs.WellFormed.{open_used, used_small}
use Rattle.tree.proofs.Find.{above_used}
use Rattle.tree.proofs.Over.{dec_over, over_up}
use Rattle.steps.specs.Changes.{Put, bare, Bare}
use Rattle.steps.specs.Settled.{Raised, with_nodes}
use Rattle.steps.proofs.Put.{put_own, put_same, put_other, put_used, put_well}
use Rattle.totals.specs.Totals.{moved_above, Above, AllMovable}
use Rattle.totals.proofs.Moves.{moved_above_lem, kept_else, moved_long}
use Rattle.edits.specs.Growing.{grown_node, raised, Raisable}
use Rattle.edits.proofs.InPlace.{bare_put}

over_same : (ns ms : List Node) → ((i : ℕ) → up ns i ≡ up ms i) → (j k : ℕ) → Over ns j k → Over ms j k
over_same ns ms h j k (here e) = here e
over_same ns ms h j (suc k) (step v) = step (subst (λ (i : ℕ). Over ms j i) (h (suc k)) (over_same ns ms h j (up ns (suc k)) v))

-- the nodes above an open node are open
over_open : (ns : List Node) → WellFormed ns → (j k : ℕ) → Opens ns k → Over ns j k → Opens ns j
over_open ns w j k o (here e) = rw e at o
over_open ns w j (suc k) o (step v) = over_open ns w j (up ns (suc k)) (w.placed k (open_used ns (suc k) o)).above v

module _ (ns : List Node) (w : WellFormed ns) (k : ℕ) (o : Opens ns k) where
  pub above_open : (j : ℕ) → Above ns j k → Opens ns j
  above_open j a = go k o a
    where
      go : (k : ℕ) → Opens ns k → Above ns j k → Opens ns j
      go zero o a = absurd a
      go (suc k) o a = over_open ns w j (up ns (suc k)) (w.placed k (open_used ns (suc k) o)).above a

  above_over : (j : ℕ) → Above ns j k → Over ns j k
  above_over j a = go k a
    where
      go : (k : ℕ) → Above ns j k → Over ns j k
      go zero a = absurd a
      go (suc k) a = step a

  not_above : Above ns k k → ⊥
  not_above a = go k o a
    where
      go : (k : ℕ) → Opens ns k → Above ns k k → ⊥
      go zero o a = a
      go (suc k) o a = over_up ns w k (open_used ns (suc k) o) a

  dec_above : (j : ℕ) → Dec (Above ns j k)
  dec_above j = go k o (bool (used (node_at ns j)))
    where
      go : (k : ℕ) → Opens ns k → (used (node_at ns j) ≡ true) ⊎ (used (node_at ns j) ≡ false) → Dec (Above ns j k)
      go zero o u = no (λ a. a)
      go (suc k) o (inl u) = dec_over ns w j (up ns (suc k)) (above_used ns w k (open_used ns (suc k) o)) u
      go (suc k) o (inr c) = no (λ a. differ (open_used ns j (over_open ns w j (up ns (suc k)) (w.placed k (open_used ns (suc k) o)).above a)) c)

module _ (ns : List Node) (k count : ℕ) (R : Raisable ns k count) where
  abbrev w : WellFormed ns
  w = R.well

  abbrev more : ℕ
  more = count - direct_of ns k

  -- the node with its new count, as it is settled, and with its new total too, as it is stored
  abbrev grown : Node
  grown = with_direct count (node_at ns k)

  abbrev stored : List Node
  stored = set ns k (grown_node count (node_at ns k))

  own : (t : ℕ) → Put ns k (with_total t grown)
  own t = put_own ns w k (with_total t grown) (open_used ns k R.opens) (record {
    live = open_used ns k R.opens;
    parent = refl;
    index = refl;
    entry = refl;
    version = λ z. refl;
    keeps = λ q. (q, omega (arith, R.more));
    filled = λ c q. absurd (differ q c);
  })

  pub grown_own : Put ns k grown
  grown_own = own (node_at ns k).total

  stored_own : Put ns k (grown_node count (node_at ns k))
  stored_own = own ((node_at ns k).total + more)

  pub stored_well : WellFormed stored
  stored_well = put_well ns w k (grown_node count (node_at ns k)) stored_own

  pub stored_used : Used stored k
  stored_used = put_used ns w k (grown_node count (node_at ns k)) stored_own

  stored_same : node_at stored k ≡ grown_node count (node_at ns k)
  stored_same = put_same ns w k (grown_node count (node_at ns k)) stored_own

  stored_other : (j : ℕ) → j ≢ k → node_at stored j ≡ node_at ns j
  stored_other j d = put_other ns w k (grown_node count (node_at ns k)) stored_own j d

  stored_open : Opens stored k
  stored_open = rw stored_same R.opens

  same_up : (j : ℕ) → up stored j ≡ up ns j
  same_up j = go (ℕ_discrete j k)
    where
      go : Dec (j ≡ k) → up stored j ≡ up ns j
      go (yes e) = rw e (ap (λ (n : Node). n.parent) stored_same)
      go (no d) = ap (λ (n : Node). n.parent) (stored_other j d)

  above_other : (j : ℕ) → Above stored j k → j ≢ k
  above_other j a e = not_above stored stored_well k stored_open (rw e at a)

  pub stored_movable : AllMovable true more stored k
  stored_movable j a =
      let e = stored_other j (above_other j a) in
      rw e (R.fits j (rw e at (above_open stored stored_well k stored_open j a)))

  moved : (j : ℕ) → Above stored j k → node_at (raised ns k count) j ≡ with_total ((node_at ns j).total + more) (node_at ns j)
  moved j a = moved_above_lem stored stored_well true more k stored_used j a ∙ ap (λ (n : Node). with_total (n.total + more) n) (stored_other j (above_other j a))

  kept : (j : ℕ) → (Above stored j k → ⊥) → node_at (raised ns k count) j ≡ node_at stored j
  kept j a = kept_else stored stored_well true more k stored_used j a

  pub raised_bare : Bare (set ns k grown) (raised ns k count)
  raised_bare = record {
    size = put.size ∙ sym (moved_long stored stored_well true more k stored_used);
    node = λ j. put.node j ∙ then j (dec_above stored stored_well k stored_open j);
  }
    where
      put : Bare (set ns k grown) stored
      put = bare_put ns k grown (grown_node count (node_at ns k)) refl

      then : (j : ℕ) → Dec (Above stored j k) → bare (node_at stored j) ≡ bare (node_at (raised ns k count) j)
      then j (yes a) = ap bare (stored_other j (above_other j a)) ∙ sym (ap bare (moved j a))
      then j (no a) = sym (ap bare (kept j a))

  pub raised_raised : Raised ns k more (set ns k grown) (raised ns k count)
  raised_raised = record { over = λ j v. over j (ℕ_discrete j k) v; else = else }
    where
      total_own : (node_at (raised ns k count) k).total ≡ (node_at (set ns k grown) k).total + more
      total_own =
          ap (λ (n : Node). n.total) (kept k (not_above stored stored_well k stored_open) ∙ stored_same)
          ∙ sym (ap (λ (n : Node). n.total + more) (put_same ns w k grown grown_own))

      up_stored : (j : ℕ) → j ≢ k → (i : ℕ) → i ≡ k → Over ns j i → Above stored j i
      up_stored j d i e (here f) = absurd (d (sym f ∙ e))
      up_stored j d (suc i) e (step v) = subst (λ (x : ℕ). Over stored j x) (sym (same_up (suc i))) (over_same ns stored (λ x. sym (same_up x)) j (up ns (suc i)) v)

      over : (j : ℕ) → Dec (j ≡ k) → Over ns j k → (node_at (raised ns k count) j).total ≡ (node_at (set ns k grown) j).total + more
      over j (yes e) v = rw e total_own
      over j (no d) v =
          ap (λ (n : Node). n.total) (moved j (up_stored j d k refl v))
          ∙ sym (ap (λ (n : Node). n.total + more) (put_other ns w k grown grown_own j d))

      else : (j : ℕ) → (Over ns j k → ⊥) → (node_at (raised ns k count) j).total ≡ (node_at (set ns k grown) j).total
      else j v =
          let d : j ≢ k = λ e. v (here (sym e)) in
          ap (λ (n : Node). n.total) (kept j (λ a. v (over_same stored ns same_up j k (above_over stored stored_well k stored_open j a))) ∙ stored_other j d ∙ sym (put_other ns w k grown grown_own j d))

  -- what the climb asks, where the node stored is a value that equals it
  pub raise_requires : (n : Node) → n ≡ grown_node count (node_at ns k) → WellFormed (set ns k n) × (Used (set ns k n) k × AllMovable true more (set ns k n) k)
  raise_requires n e = rw e (stored_well, (stored_used, stored_movable))

  -- the grown node's number is a place, and a climb from a value that equals the node stored raises the totals
  pub raise_small : k < 256
  raise_small = used_small ns w k (open_used ns k R.opens)

pub raise_returns : (m : Model) (k count : ℕ) (n : Node) → n ≡ grown_node count (node_at m.nodes k) → with_nodes m (moved_above true (count - direct_of m.nodes k) depth (set m.nodes k n) k) ≡ with_nodes m (raised m.nodes k count)
raise_returns m k count n e = ap (λ (x : Node). with_nodes m (moved_above true (count - direct_of m.nodes k) depth (set m.nodes k x) k)) e
