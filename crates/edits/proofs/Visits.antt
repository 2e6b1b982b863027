-- The steps of a visit in place, by whether the node is open and whether its item is ongoing.
use Prim.Native.Nat.{ℕ, zero, suc, ◌-◌, ◌<◌}
use native.Mathlib.Omega.{arith}
use mathlib.Core.Path.{◌≡◌, refl, sym, ap, ◌∙◌}
use mathlib.Core.Bool.{Bool, true, false, cond, ◌&&◌, ◌||◌}
use mathlib.Core.List.{List}
use lib.ListN.{set}
use lib.Seq.{set-get_or, set-set}
use Rattle.lists.proofs.Bools.{differ}
use Rattle.model.specs.declared.Node.{Node}
use Rattle.model.specs.declared.Model.{Model}
use Rattle.model.specs.Nodes.{no_node, node_at, direct_of, used, is_open, with_version, with_direct, with_ongoing, with_total, or_none}
use Rattle.model.specs.Rows.{total_of}
use Rattle.model.specs.Settle.{settle}
use Rattle.tree.specs.WellFormed.{Used, Opens, WellFormed}
use Rattle.tree.proofs.WellFormed.{open_used, zero_open, used_small}
use Rattle.steps.specs.Changes.{Put, Quiet}
use Rattle.steps.specs.Settled.{Sound, with_nodes}
use Rattle.steps.proofs.Put.{put_own, put_same, put_well}
use Rattle.steps.proofs.Quiet.{quiet_put, quiet_version, quiet_ongoing, quiet_freed, bare_sym}
use Rattle.steps.proofs.Growing.{grown_put, grow_row_total}
use Rattle.steps.proofs.Settling.{settle_at, settle_given, settle_bare, settle_sound, bare_change}
use Rattle.edits.specs.Growing.{Growable}
use Rattle.edits.specs.Visiting.{visited, Visitable}
use Rattle.edits.proofs.InPlace.{quiet_in_place, put_totals, freed_totals, same_totals, bare_put}

and_true : (b : Bool) → b && true ≡ b
and_true true = refl
and_true false = refl

and_false : (b : Bool) → b && false ≡ false
and_false true = refl
and_false false = refl

-- what becomes of a node
visited_still : (count : ℕ) (n : Node) → used n ≡ true → visited count true n ≡ with_direct count n
visited_still count n u = ap (λ (b : Bool). or_none (with_direct count (with_ongoing b n))) (and_true n.ongoing) ∙ ap (λ (b : Bool). cond b (with_direct count n) no_node) u

visited_complete : (count : ℕ) (n : Node) → visited count false n ≡ cond (is_open n || false) (with_direct count (with_ongoing false n)) no_node
visited_complete count n = ap (λ (b : Bool). or_none (with_direct count (with_ongoing b n))) (and_false n.ongoing)

visited_open : (count : ℕ) (n : Node) → is_open n ≡ true → visited count false n ≡ with_direct count (with_ongoing false n)
visited_open count n o = visited_complete count n ∙ ap (λ (b : Bool). cond (b || false) (with_direct count (with_ongoing false n)) no_node) o

visited_freed : (count : ℕ) (n : Node) → is_open n ≡ false → visited count false n ≡ no_node
visited_freed count n c = visited_complete count n ∙ ap (λ (b : Bool). cond (b || false) (with_direct count (with_ongoing false n)) no_node) c

module _ (m : Model) (S : Sound m) (k : ℕ) where
  pub version_settles : (v : ℕ) → 0 < k → Used m.nodes k → with_nodes m (set m.nodes k (with_version v (node_at m.nodes k))) ≡ settle (set m.nodes k (with_version v (node_at m.nodes k)))
  version_settles v h u = sym (quiet_in_place m S (set m.nodes k (with_version v (node_at m.nodes k))) (quiet k h u) (same_totals m S k (with_version v (node_at m.nodes k)) u refl refl refl))
    where
      quiet : (k : ℕ) → 0 < k → Used m.nodes k → Quiet m.nodes (set m.nodes k (with_version v (node_at m.nodes k)))
      quiet zero h u = absurd (omega arith)
      quiet (suc k) h u = quiet_version m.nodes S.well k v u

  pub complete_settles : Opens m.nodes k → with_nodes m (set m.nodes k (with_ongoing false (node_at m.nodes k))) ≡ settle (set m.nodes k (with_ongoing false (node_at m.nodes k)))
  complete_settles o = sym (quiet_in_place m S (set m.nodes k (with_ongoing false (node_at m.nodes k))) (quiet_ongoing m.nodes S.well k false o) (same_totals m S k (with_ongoing false (node_at m.nodes k)) (open_used m.nodes k o) refl refl refl))

module _ (m : Model) (k count : ℕ) (G : Visitable m k count) where
  abbrev ns : List Node
  ns = m.nodes

  abbrev n : Node
  n = node_at ns k

  abbrev w : WellFormed ns
  w = G.sound.well

  module _ (o : Opens ns k) where
    abbrev after : List Node
    after = set ns k (with_direct count n)

    P : Put ns k (with_direct count n)
    P = grown_put ns w k count n.ongoing o G.more

    after_sound : Sound (settle after)
    after_sound =
        settle_sound after (put_well ns w k (with_direct count n) P)
        (omega (arith, grow_row_total ns w k (with_direct count n) P o (count - n.direct) (omega (arith, G.more)), G.limit o))

    after_open : Opens (settle after).nodes k
    after_open = ap is_open (settle_at after k ∙ ap (with_total (cond (used (node_at after k)) (total_of after k) 0)) (put_same ns w k (with_direct count n) P)) ∙ o

    pub grown_ready : (q : Model) → q ≡ settle after → Sound q × Opens q.nodes k
    grown_ready q e = rw e (after_sound, after_open)

    pub complete_open : (b : Bool) → b ≡ false → (q : Model) → q ≡ settle after → settle (set q.nodes k (with_ongoing false (node_at q.nodes k))) ≡ settle (set ns k (visited count b n))
    complete_open b e q d =
        ap (λ (r : Model). settle (set r.nodes k (with_ongoing false (node_at r.nodes k)))) d
        ∙ settle_bare (set (settle after).nodes k (with_ongoing false (node_at (settle after).nodes k))) (set after k (with_ongoing false (node_at after k)))
        (bare_change (with_ongoing false) (λ x. refl) (settle after).nodes after (bare_sym (settle_given after).nodes) k)
        ∙ ap (λ (x : Node). settle (set after k (with_ongoing false x))) (put_same ns w k (with_direct count n) P)
        ∙ ap settle (set-set ns k (with_direct count n) (with_ongoing false (with_direct count n)))
        ∙ ap (λ (x : Node). settle (set ns k x)) (sym (visited_open count n o) ∙ ap (λ (c : Bool). visited count c n) (sym e))

  module _ (c : is_open n ≡ false) where
    abbrev stored : Node
    stored = with_total count (with_direct count n)

    still_put : Put ns k stored
    still_put = put_own ns w k stored G.live (record {
      live = G.live;
      parent = refl;
      index = refl;
      entry = refl;
      version = λ z. refl;
      keeps = λ o. absurd (differ o c);
      filled = λ z o. absurd (differ o c);
    })

    pub still_closed : (b : Bool) → b ≡ true → (x : Node) → x ≡ stored → with_nodes m (set ns k x) ≡ settle (set ns k (visited count b n))
    still_closed b e x d =
        ap (λ (y : Node). with_nodes m (set ns k y)) d
        ∙ sym (quiet_in_place m G.sound (set ns k stored) (quiet_put ns w k stored still_put refl (λ o. absurd (differ o c))) (put_totals m G.sound k stored (used_small ns w k G.live) c refl))
        ∙ settle_bare (set ns k stored) (set ns k (with_direct count n)) (bare_put ns k stored (with_direct count n) refl)
        ∙ ap (λ (y : Node). settle (set ns k y)) (sym (visited_still count n G.live) ∙ ap (λ (a : Bool). visited count a n) (sym e))

    pub freed : (b : Bool) → b ≡ false → with_nodes m (set ns k no_node) ≡ settle (set ns k (visited count b n))
    freed b e =
        go k c (used_small ns w k G.live)
        ∙ ap (λ (y : Node). settle (set ns k y)) (sym (visited_freed count n c) ∙ ap (λ (a : Bool). visited count a n) (sym e))
      where
        go : (k : ℕ) → is_open (node_at ns k) ≡ false → k < 256 → with_nodes m (set ns k no_node) ≡ settle (set ns k no_node)
        go zero c h = absurd (differ (zero_open ns w) c)
        go (suc k) c h = sym (quiet_in_place m G.sound (set ns (suc k) no_node) (quiet_freed ns w k h c) (freed_totals m G.sound k h))

  -- what the tests of a visited node say: that it grows, that its item is still ongoing, that its number is a place, that its count stays
  module _ (o : Opens ns k) where
    pub visit_growable : (count ≡ n.direct → ⊥) → Growable m k count
    visit_growable d = record { sound = G.sound; opens = o; more = omega (arith, G.more); limit = G.limit o }

    pub still_open : (b : Bool) → b ≡ true → settle (after o) ≡ settle (set ns k (visited count b n))
    still_open b e = ap (λ (x : Node). settle (set ns k x)) (sym (visited_still count n G.live) ∙ ap (λ (c : Bool). visited count c n) (sym e))

module _ (m : Model) (S : Sound m) (k : ℕ) where
  pub used_place : Used m.nodes k → k < 256
  used_place u = used_small m.nodes S.well k u

  pub same_settles : (count : ℕ) → count ≡ direct_of m.nodes k → m ≡ settle (set m.nodes k (with_direct count (node_at m.nodes k)))
  same_settles count e = S.is ∙ sym (ap settle (ap (λ (c : ℕ). set m.nodes k (with_direct c (node_at m.nodes k))) e ∙ set-get_or m.nodes k no_node))
