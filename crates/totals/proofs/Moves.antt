-- Totals moved up the chain: a step of it, and which nodes it changes.
use Prim.Native.Nat.{ℕ, zero, suc, ◌+◌, ◌-◌, ◌^◌, ◌≤◌, ◌<◌}
use native.Mathlib.Omega.{arith}
use mathlib.Core.Path.{◌≡◌, refl, sym, ap, ◌∙◌}
use mathlib.Core.Bool.{Bool, true, false, true≢false, false≢true}
use mathlib.Core.List.{List}
use lib.ListN.{length, set, length-set}
use lib.Seq.{get_or-set_same, get_or-set_other}
use Rattle.model.specs.declared.Node.{Node}
use Rattle.model.specs.declared.Model.{Model}
use Rattle.model.specs.Places.{depth}
use Rattle.model.specs.Nodes.{no_node, node_at, with_total}
use Rattle.model.specs.Sound.{reaches}
use native.Mathlib.Decide.{ℕ_discrete}
use Rattle.steps.specs.Settled.{with_nodes}
use Rattle.totals.specs.Totals.{moved, Movable, moved_above, Above, AllMovable}
use Rattle.paths.proofs.Order.{length_child}
use Rattle.tree.proofs.Find.{to_up, above_used, reach_up, reach_never, reach_deep}
use Rattle.tree.proofs.Over.{over_up}
use Rattle.tree.proofs.WellFormed.{used_small}
use Rattle.tree.specs.Paths.{to, Over, here, step}
use Rattle.tree.specs.WellFormed.{Used, up, ix, WellFormed}

-- a node with another total
abbrev pub total_moved : Bool → ℕ → Node → Node
total_moved more rows n = with_total (moved more rows n.total) n

module _ (ns : List Node) (w : WellFormed ns) where
  -- a node above a node's parent is above the node, and the parent is not above itself
  above_up : (k j : ℕ) → Above ns j (up ns (suc k)) → Above ns j (suc k)
  above_up k j a = go (up ns (suc k)) refl a
    where
      go : (p : ℕ) → up ns (suc k) ≡ p → Above ns j p → Over ns j (up ns (suc k))
      go zero e a = absurd a
      go (suc p) e a = rw e (step a)

  not_above : (k : ℕ) → Used ns k → Above ns k k → ⊥
  not_above zero u a = a
  not_above (suc k) u a = over_up ns w k u a

  parent_above : (k : ℕ) → Above ns (up ns (suc k)) (suc k)
  parent_above k = here refl

  -- the nodes above k have their totals moved, once each, and no other node is changed
  module _ (more : Bool) (rows : ℕ) where
    record Changed (xs : List Node) (k : ℕ) (ys : List Node) : Type 0 where
      moved_at : (j : ℕ) → Above ns j k → node_at ys j ≡ total_moved more rows (node_at xs j)
      kept_at : (j : ℕ) → (Above ns j k → ⊥) → node_at ys j ≡ node_at xs j
      long : length ys ≡ length xs

    -- the parent's total is moved, and then those above the parent
    module _ (k : ℕ) (xs : List Node) (u : Used ns (suc k)) (e : (j : ℕ) → (node_at xs j).parent ≡ up ns j) (l : length xs ≡ 256) where
      abbrev top : ℕ
      top = up ns (suc k)

      abbrev once : List Node
      once = set xs top (total_moved more rows (node_at xs top))

      parent_used : Used ns top
      parent_used = above_used ns w k u

      here_moved : node_at once top ≡ total_moved more rows (node_at xs top)
      here_moved = get_or-set_same xs top (total_moved more rows (node_at xs top)) no_node (rw l (used_small ns w top parent_used))

      same_up : (j : ℕ) → Dec (j ≡ top) → (node_at once j).parent ≡ up ns j
      same_up j (yes z) = ap (λ (i : ℕ). (node_at once i).parent) z ∙ ap (λ (n : Node). n.parent) here_moved ∙ e top ∙ sym (ap (up ns) z)
      same_up j (no n) = ap (λ (x : Node). x.parent) (get_or-set_other xs top j (total_moved more rows (node_at xs top)) no_node n) ∙ e j

      changed_step : (zs : List Node) → Changed once top zs → Changed xs (suc k) zs
      changed_step zs C = record {
        moved_at = λ j a. by_over j a;
        kept_at = λ j n. C.kept_at j (λ a. n (above_up k j a)) ∙ get_or-set_other xs top j (total_moved more rows (node_at xs top)) no_node (λ z. n (here (sym z)));
        long = C.long ∙ length-set xs top (total_moved more rows (node_at xs top));
      }
        where
          further : (j : ℕ) → Above ns j top → node_at zs j ≡ total_moved more rows (node_at xs j)
          further j a = C.moved_at j a ∙ ap (total_moved more rows) (get_or-set_other xs top j (total_moved more rows (node_at xs top)) no_node (λ z. not_above top parent_used (rw z at a)))

          by_over : (j : ℕ) → Over ns j top → node_at zs j ≡ total_moved more rows (node_at xs j)
          by_over j a = go top refl a
            where
              go : (q : ℕ) → top ≡ q → Over ns j q → node_at zs j ≡ total_moved more rows (node_at xs j)
              go q d (here z) = let i : top ≡ j = d ∙ z in rw i at (C.kept_at top (not_above top parent_used) ∙ here_moved)
              go (suc q) d (step b) = further j (rw d b)

    changed_from : (f k : ℕ) (xs : List Node) → reaches ns f k ≡ true → Used ns k → ((j : ℕ) → (node_at xs j).parent ≡ up ns j) → length xs ≡ 256 → Changed xs k (moved_above more rows f xs k)
    unfolding moved_above
    changed_from zero zero xs r u e l = record { moved_at = λ j a. absurd a; kept_at = λ j n. refl; long = refl }
    changed_from (suc f) zero xs r u e l = record { moved_at = λ j a. absurd a; kept_at = λ j n. refl; long = refl }
    changed_from zero (suc k) xs r u e l = absurd (reach_never ns k r)
    changed_from (suc f) (suc k) xs r u e l =
        rw (e (suc k))
        (changed_step k xs u e l (moved_above more rows f (once k xs u e l) (up ns (suc k)))
        (changed_from f (up ns (suc k)) (once k xs u e l) (reach_up ns f k r) (above_used ns w k u) (λ j. same_up k xs u e l j (ℕ_discrete j (up ns (suc k)))) (length-set xs (up ns (suc k)) (total_moved more rows (node_at xs (up ns (suc k)))) ∙ l)))

  pub moved_above_lem : (more : Bool) (rows k : ℕ) → Used ns k → (j : ℕ) → Above ns j k → node_at (moved_above more rows depth ns k) j ≡ total_moved more rows (node_at ns j)
  moved_above_lem more rows k u j a = (changed_from more rows depth k ns (reach_deep ns w k u) u (λ i. refl) w.size).moved_at j a

  pub kept_else : (more : Bool) (rows k : ℕ) → Used ns k → (j : ℕ) → (Above ns j k → ⊥) → node_at (moved_above more rows depth ns k) j ≡ node_at ns j
  kept_else more rows k u j n = (changed_from more rows depth k ns (reach_deep ns w k u) u (λ i. refl) w.size).kept_at j n

  pub moved_long : (more : Bool) (rows k : ℕ) → Used ns k → length (moved_above more rows depth ns k) ≡ length ns
  moved_long more rows k u = (changed_from more rows depth k ns (reach_deep ns w k u) u (λ i. refl) w.size).long

pub record Climbing (more : Bool) (rows : ℕ) (m : Model) (node : ℕ) (q : Model) (k : ℕ) : Type 0 where
  pub fuel : ℕ
  pub is : q ≡ with_nodes m q.nodes
  pub long : length q.nodes ≡ length m.nodes
  pub used : Used m.nodes k
  pub reach : reaches m.nodes fuel k ≡ true
  pub parents : (j : ℕ) → (node_at q.nodes j).parent ≡ (node_at m.nodes j).parent
  pub rest : (j : ℕ) → Above m.nodes j k → node_at q.nodes j ≡ node_at m.nodes j
  pub over : (j : ℕ) → Above m.nodes j k → Above m.nodes j node
  pub goal : moved_above more rows fuel q.nodes k ≡ moved_above more rows depth m.nodes node

module _ (more : Bool) (rows : ℕ) (m : Model) (w : WellFormed m.nodes) (node : ℕ) where
  pub climb_start : Used m.nodes node → Climbing more rows m node m node
  climb_start u = record {
    fuel = depth;
    is = refl;
    long = refl;
    used = u;
    reach = reach_deep m.nodes w node u;
    parents = λ j. refl;
    rest = λ j a. refl;
    over = λ j a. a;
    goal = refl;
  }

  climb_end : (q : Model) → Climbing more rows m node q 0 → q ≡ with_nodes m (moved_above more rows depth m.nodes node)
  unfolding moved_above
  climb_end q C = C.is ∙ ap (with_nodes m) (at C.fuel refl)
    where
      at : (f : ℕ) → C.fuel ≡ f → q.nodes ≡ moved_above more rows depth m.nodes node
      at zero e = rw e at C.goal
      at (suc f) e = rw e at C.goal

  module _ (q : Model) (k : ℕ) (C : Climbing more rows m node q (suc k)) where
    abbrev p : ℕ
    p = up m.nodes (suc k)

    climb_up : (node_at q.nodes (suc k)).parent ≡ p
    climb_up = C.parents (suc k)

    v : Used m.nodes p
    v = above_used m.nodes w k C.used

    climb_small : p < 256
    climb_small = used_small m.nodes w p v

    climb_movable : AllMovable more rows m.nodes node → Movable more rows (node_at q.nodes p).total
    climb_movable h = rw (C.rest p (here refl)) (h p (C.over p (here refl)))

    climb_less : length (to m.nodes p) < length (to m.nodes (suc k))
    climb_less = omega (arith, ap length (to_up m.nodes w k C.used), length_child (to m.nodes p) (ix m.nodes (suc k)))

    climb_step : Climbing more rows m node (with_nodes q (set q.nodes p (total_moved more rows (node_at q.nodes p)))) p
    unfolding moved_above
    climb_step = by C.fuel refl
      where
        new : List Node
        new = set q.nodes p (total_moved more rows (node_at q.nodes p))

        size : p < length q.nodes
        size = omega (arith, C.long, w.size, climb_small)

        parent_at : (j : ℕ) → Dec (j ≡ p) → (node_at new j).parent ≡ (node_at m.nodes j).parent
        parent_at j (yes e) = rw (e, get_or-set_same q.nodes p (total_moved more rows (node_at q.nodes p)) no_node size) (C.parents p)
        parent_at j (no n) = rw (get_or-set_other q.nodes p j (total_moved more rows (node_at q.nodes p)) no_node n) (C.parents j)

        again : (f : ℕ) → moved_above more rows (suc f) q.nodes (suc k) ≡ moved_above more rows depth m.nodes node → moved_above more rows f new p ≡ moved_above more rows depth m.nodes node
        again f g = rw climb_up at g

        by : (f : ℕ) → C.fuel ≡ f → Climbing more rows m node (with_nodes q new) p
        by zero e = absurd (reach_never m.nodes k (rw e at C.reach))
        by (suc f) e = record {
          fuel = f;
          is = ap (λ (z : Model). with_nodes z new) C.is;
          long = length-set q.nodes p (total_moved more rows (node_at q.nodes p)) ∙ C.long;
          used = v;
          reach = reach_up m.nodes f k (rw e at C.reach);
          parents = λ j. parent_at j (ℕ_discrete j p);
          rest = λ j a.
              get_or-set_other q.nodes p j (total_moved more rows (node_at q.nodes p)) no_node (λ z. not_above m.nodes w p v (rw z at a))
              ∙ C.rest j (above_up m.nodes w k j a);
          over = λ j a. C.over j (above_up m.nodes w k j a);
          goal = again f (rw e at C.goal);
        }

-- the same for a number above 0, by what the loop has read
module _ (more : Bool) (rows : ℕ) (m : Model) (w : WellFormed m.nodes) (node : ℕ) (q : Model) where
  abbrev above : ℕ → ℕ
  above k = (node_at q.nodes k).parent

  pub node_small : (k : ℕ) → Climbing more rows m node q k → k < 256
  node_small k C = used_small m.nodes w k C.used

  pub above_small : (k : ℕ) → 0 < k → Climbing more rows m node q k → above k < 256
  above_small zero h C = absurd (omega arith)
  above_small (suc k) h C = rw (climb_up more rows m w node q k C) (climb_small more rows m w node q k C)

  pub above_movable : (k : ℕ) → 0 < k → Climbing more rows m node q k → AllMovable more rows m.nodes node → Movable more rows (node_at q.nodes (above k)).total
  above_movable zero h C f = absurd (omega arith)
  above_movable (suc k) h C f = rw (climb_up more rows m w node q k C) (climb_movable more rows m w node q k C f)

  pub above_less : (k : ℕ) → 0 < k → Climbing more rows m node q k → length (to m.nodes (above k)) < length (to m.nodes k)
  above_less zero h C = absurd (omega arith)
  above_less (suc k) h C = rw (climb_up more rows m w node q k C) (climb_less more rows m w node q k C)

  pub above_step :
      (k t : ℕ)
      → 0 < k
      → Climbing more rows m node q k
      → t ≡ moved more rows (node_at q.nodes (above k)).total
      → Climbing more rows m node (with_nodes q (set q.nodes (above k) (with_total t (node_at q.nodes (above k))))) (above k)
  above_step zero t h C e = absurd (omega arith)
  above_step (suc k) t h C e = rw (e, climb_up more rows m w node q k C) (climb_step more rows m w node q k C)

  pub above_end : (k : ℕ) → k ≤ 0 → Climbing more rows m node q k → q ≡ with_nodes m (moved_above more rows depth m.nodes node)
  above_end zero h C = climb_end more rows m w node q C
  above_end (suc k) h C = absurd (omega arith)

-- what a move asks and gives, where it is known to be one of more rows or one of fewer
pub movable_more : (more : Bool) (rows total : ℕ) → more ≡ true → Movable more rows total → total + rows < 2 ^ 64
movable_more true rows total e h = h
movable_more false rows total e h = absurd (false≢true e)

pub movable_fewer : (more : Bool) (rows total : ℕ) → more ≡ false → Movable more rows total → rows ≤ total
movable_fewer true rows total e h = absurd (true≢false e)
movable_fewer false rows total e h = h

pub moved_more : (more : Bool) (rows total : ℕ) → more ≡ true → total + rows ≡ moved more rows total
moved_more true rows total e = refl
moved_more false rows total e = absurd (false≢true e)

pub moved_fewer : (more : Bool) (rows total : ℕ) → more ≡ false → total - rows ≡ moved more rows total
moved_fewer true rows total e = absurd (true≢false e)
moved_fewer false rows total e = refl
