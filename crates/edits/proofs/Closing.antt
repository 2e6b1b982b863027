-- One node closed in place: the regions without its children, the totals above it, its child nodes freed, and the published count.
use Prim.Native.Nat.{ℕ, zero, suc, ◌+◌, ◌-◌, ◌≤◌, ◌<◌}
use native.Mathlib.Omega.{arith}
use native.Mathlib.Decide.{ℕ_discrete}
use mathlib.Core.Path.{◌≡◌, refl, sym, ap, ◌∙◌}
use mathlib.Core.Logic.{◌⊎◌, inl, inr, ◌≢◌}
use mathlib.Core.Bool.{true, false, cond}
use mathlib.Core.List.{List}
use lib.ListN.{length, set}
use lib.Seq.{get_or-set_same, get_or-set_other}
use lib.Dec.{eqb}
use borrow.Author.Tests.{ne_eqb}
use Rattle.model.specs.declared.Node.{Node}
use Rattle.model.specs.declared.Model.{Model}
use Rattle.model.specs.declared.Region.{Region}
use Rattle.model.specs.Places.{depth, region_places, pad}
use Rattle.model.specs.Nodes.{no_node, node_at, direct_of, is_open, open_child, with_open, or_none}
use Rattle.model.specs.Rows.{rows}
use Rattle.model.specs.Regions.{runs, no_region}
use Rattle.model.specs.Settle.{settle}
use Rattle.model.specs.Close.{free_below}
use Rattle.runs.specs.Laid.{laid}
use Rattle.tree.specs.WellFormed.{Used, Opens, up, WellFormed}
use Rattle.tree.specs.Paths.{Over, here, step}
use Rattle.tree.proofs.Over.{over_up, dec_over}
use Rattle.tree.proofs.Find.{above_used}
use Rattle.lists.proofs.Bools.{bool, differ}
use Rattle.tree.proofs.WellFormed.{open_used, used_small}
use Rattle.steps.specs.Changes.{closed_at, bare, Bare}
use Rattle.steps.specs.Settled.{Given, Raised, Sound, with_nodes}
use Rattle.steps.proofs.Closing.{length_free, free_at, no_open_child, close_row_total, close_total_over}
use Rattle.steps.proofs.Settling.{given_settle, sound_given, bare_closed}
use Rattle.steps.proofs.Totals.{close_totalled}
use Rattle.totals.specs.Totals.{moved_above, Above, AllMovable}
use Rattle.totals.proofs.Moves.{moved_above_lem, kept_else, moved_long}
use Rattle.edits.specs.Closable.{Closable}

-- what a closing leaves at a number depends on the nodes there and at the closed one
same_closed : (xs ys : List Node) (k j : ℕ) → k < length xs → length xs ≡ length ys → node_at xs k ≡ node_at ys k → node_at xs j ≡ node_at ys j → node_at (closed_at xs k) j ≡ node_at (closed_at ys k) j
unfolding closed_at
same_closed xs ys k j h l e f = go (ℕ_discrete j k)
  where
    shut : Node → Node
    shut n = or_none (with_open false n)

    go : Dec (j ≡ k) → node_at (closed_at xs k) j ≡ node_at (closed_at ys k) j
    go (yes d) =
        rw d (get_or-set_same (free_below k xs) k (shut (node_at xs k)) no_node (rw length_free h)
        ∙ ap shut e
        ∙ sym (get_or-set_same (free_below k ys) k (shut (node_at ys k)) no_node (rw (length_free k ys, ← l) h)))
    go (no d) =
        get_or-set_other (free_below k xs) k j (shut (node_at xs k)) no_node d
        ∙ free_at k xs j
        ∙ ap (λ (n : Node). cond (eqb n.parent k) no_node n) f
        ∙ sym (free_at k ys j)
        ∙ sym (get_or-set_other (free_below k ys) k j (shut (node_at ys k)) no_node d)

-- a node that is neither the closed one nor a child of it stays
pub closed_away : (xs : List Node) (k j : ℕ) → j ≢ k → up xs j ≢ k → node_at (closed_at xs k) j ≡ node_at xs j
unfolding closed_at
closed_away xs k j d e = get_or-set_other (free_below k xs) k j (or_none (with_open false (node_at xs k))) no_node d ∙ free_at k xs j ∙ rw (ne_eqb (up xs j) k e)

-- the nodes above an open node are open
over_open : (ns : List Node) → WellFormed ns → (j k : ℕ) → Opens ns k → Over ns j k → Opens ns j
over_open ns w j k o (here e) = rw e at o
over_open ns w j k o (step {k = i} v) = over_open ns w j (up ns (suc i)) (w.placed i (open_used ns (suc i) o)).above v

module _ (m : Model) (S : Sound m) (k : ℕ) (o : Opens m.nodes (suc k)) (none : (i : ℕ) → open_child m.nodes (suc k) i ≡ 0) where
  abbrev ns : List Node
  ns = m.nodes

  abbrev many : ℕ
  many = direct_of ns (suc k)

  w : WellFormed ns
  w = S.well

  u : Used ns (suc k)
  u = open_used ns (suc k) o

  -- the totals above the node, moved
  abbrev lowered : List Node
  lowered = moved_above false many depth ns (suc k)

  abbrev after : List Node
  after = closed_at ns (suc k)

  above_opens : (j : ℕ) → Above ns j (suc k) → Opens ns j
  above_opens j v = over_open ns w j (up ns (suc k)) (w.placed k u).above v

  not_self : (j : ℕ) → Above ns j (suc k) → j ≢ suc k
  not_self j v e = over_up ns w k u (rw e at v)

  not_child : (j : ℕ) → Above ns j (suc k) → up ns j ≢ suc k
  not_child j v = no_open_child ns w k o none j (above_opens j v)

  above_stays : (j : ℕ) → Above ns j (suc k) → node_at after j ≡ node_at ns j
  above_stays j v = closed_away ns (suc k) j (not_self j v) (not_child j v)

  many_above : (j : ℕ) → Above ns j (suc k) → many ≤ (node_at ns j).total
  many_above j v =
      omega (arith, (sound_given m S).totals.total j (open_used ns j (above_opens j v)), close_total_over ns w k o none j (rw (above_stays j v) (above_opens j v)) (step v))

  lowered_self : node_at lowered (suc k) ≡ node_at ns (suc k)
  lowered_self = kept_else ns w false many (suc k) u (suc k) (over_up ns w k u)

  lowered_long : length lowered ≡ length ns
  lowered_long = moved_long ns w false many (suc k) u

  dec_above : (j : ℕ) → Dec (Above ns j (suc k))
  dec_above j = go (bool (is_open (node_at ns j)))
    where
      go : (is_open (node_at ns j) ≡ true) ⊎ (is_open (node_at ns j) ≡ false) → Dec (Above ns j (suc k))
      go (inl t) = dec_over ns w j (up ns (suc k)) (above_used ns w k u) (open_used ns j t)
      go (inr f) = no (λ v. differ (above_opens j v) f)

  lowered_bare : Bare ns lowered
  lowered_bare = record { size = sym lowered_long; node = λ j. node j (dec_above j) }
    where
      node : (j : ℕ) → Dec (Above ns j (suc k)) → bare (node_at ns j) ≡ bare (node_at lowered j)
      node j (yes v) = sym (ap bare (moved_above_lem ns w false many (suc k) u j v))
      node j (no v) = sym (ap bare (kept_else ns w false many (suc k) u j v))

  raised : Raised ns (up ns (suc k)) many (closed_at lowered (suc k)) after
  raised = record { over = λ j v. over j v; else = λ j v. ap (λ (n : Node). n.total) (same_closed ns lowered (suc k) j (rw w.size (used_small ns w (suc k) u)) (sym lowered_long) (sym lowered_self) (sym (kept_else ns w false many (suc k) u j v))) }
    where
      over : (j : ℕ) → Above ns j (suc k) → (node_at after j).total ≡ (node_at (closed_at lowered (suc k)) j).total + many
      over j v =
          let e = moved_above_lem ns w false many (suc k) u j v in
          let stays = closed_away lowered (suc k) j (not_self j v) (λ f. not_child j v (sym (ap (λ (n : Node). n.parent) e) ∙ f)) in
          omega (arith, ap (λ (n : Node). n.total) (above_stays j v), ap (λ (n : Node). n.total) (stays ∙ e), many_above j v)

  many_published : many ≤ m.published
  many_published = omega (arith, (sound_given m S).published, close_row_total ns w k o none)

  -- the model when all is done
  abbrev done : Model → Node → Model
  done q x = record { nodes = set q.nodes (suc k) x; regions = q.regions; region_count = q.region_count; published = q.published - many }

  done_given : Given after (record { nodes = closed_at lowered (suc k); regions = pad region_places no_region (runs 0 (rows after)); region_count = length (runs 0 (rows after)); published = m.published - many })
  done_given = record {
    nodes = bare_closed ns lowered lowered_bare (suc k);
    totals = close_totalled ns w k o none (closed_at lowered (suc k)) (sound_given m S).totals raised;
    regions = refl;
    region_count = refl;
    published = omega (arith, (sound_given m S).published, close_row_total ns w k o none);
  }

  close_done :
      (rest moved q : Model) (x : Node)
      → rest ≡ laid m (runs 0 (rows after))
      → moved ≡ with_nodes rest (moved_above false many depth rest.nodes (suc k))
      → q ≡ with_nodes moved (free_below (suc k) moved.nodes)
      → x ≡ or_none (with_open false (node_at ns (suc k)))
      → done q x ≡ settle after
  unfolding closed_at
  close_done rest moved q x e₁ e₂ e₃ e₄ =
      ap (λ (r : Model). done r x) (e₃ ∙ ap (λ (r : Model). with_nodes r (free_below (suc k) r.nodes)) e₂ ∙ ap (λ (r : Model). with_nodes r (free_below (suc k) (moved_above false many depth r.nodes (suc k)))) e₁)
      ∙ ap (λ (y : Node). done (with_nodes (laid m (runs 0 (rows after))) (free_below (suc k) lowered)) y) (e₄ ∙ ap (λ (n : Node). or_none (with_open false n)) (sym lowered_self))
      ∙ given_settle after _ done_given

-- by the node's number, as the code reads it
module _ (m : Model) (S : Sound m) where
  pub closable_used : (k : ℕ) → Closable m.nodes k → Used m.nodes k
  closable_used k C = open_used m.nodes k C.opens

  -- a model with the same nodes lets the totals be lowered
  pub totals_ask : (k : ℕ) → Closable m.nodes k → (rest : Model) (gs : List Region) → rest ≡ laid m gs → WellFormed rest.nodes × (Used rest.nodes k × AllMovable false (direct_of m.nodes k) rest.nodes k)
  totals_ask zero C rest gs e = absurd (omega (arith, C.above))
  totals_ask (suc k) C rest gs e = rw e (S.well, (closable_used (suc k) C, many_above m S k C.opens C.none))

  pub published_asks : (k : ℕ) → Closable m.nodes k → direct_of m.nodes k ≤ m.published
  published_asks zero C = absurd (omega (arith, C.above))
  published_asks (suc k) C = many_published m S k C.opens C.none

  pub closed_in_place :
      (k : ℕ)
      → Closable m.nodes k
      → (rest moved q : Model) (x : Node)
      → rest ≡ laid m (runs 0 (rows (closed_at m.nodes k)))
      → moved ≡ with_nodes rest (moved_above false (direct_of m.nodes k) depth rest.nodes k)
      → q ≡ with_nodes moved (free_below k moved.nodes)
      → x ≡ or_none (with_open false (node_at m.nodes k))
      → record { nodes = set q.nodes k x; regions = q.regions; region_count = q.region_count; published = q.published - direct_of m.nodes k } ≡ settle (closed_at m.nodes k)
  closed_in_place zero C rest moved q x e₁ e₂ e₃ e₄ = absurd (omega (arith, C.above))
  closed_in_place (suc k) C rest moved q x e₁ e₂ e₃ e₄ = close_done m S k C.opens C.none rest moved q x e₁ e₂ e₃ e₄

  -- the closed node's number is a place
  pub closable_small : (k : ℕ) → Closable m.nodes k → k < 256
  closable_small k C = used_small m.nodes S.well k (closable_used k C)
