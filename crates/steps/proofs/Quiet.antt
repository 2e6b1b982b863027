-- Steps that leave the rows and the totals of open nodes as they are: a change of version, of ongoing or of totals, a closed node grown or freed, a row followed.
use mathlib.Core.Path.{◌≡◌, refl, sym, ◌∙◌, ap}
use mathlib.Core.Logic.{inr}
use mathlib.Core.Bool.{Bool, true, false, or-true, false≢true}
use mathlib.Core.List.{List}
use Prim.Native.Nat.{ℕ, suc, ◌≤◌, ◌<◌}
use native.Mathlib.Omega.{arith}
use lib.ListN.{set}
use Rattle.model.specs.declared.Node.{Node}
use Rattle.model.specs.Places.{longest_chain}
use Rattle.model.specs.Nodes.{no_node, node_at, direct_of, used, is_open, child, free, with_total, with_version, with_direct, with_ongoing, or_none}
use Rattle.model.specs.Rows.{rows, total_of, paths}
use Rattle.model.specs.Fetch.{fresh}
use Rattle.steps.specs.Changes.{Put, Quiet, bare, Bare}
use Rattle.steps.proofs.Put.{put_own, put_well, put_fresh, free_unused}
use Rattle.steps.proofs.Opening.{fresh_listed, unused_shut}
use Rattle.steps.proofs.Shrunk.{shrunk_well, freed_shrunk}
use Rattle.lists.proofs.Bools.{differ}
use Rattle.tree.proofs.Find.{reach_all, above_used}
use Rattle.tree.proofs.Pairs.{reach_to, alike_set, alike_rows, alike_total, alike_paths}
use Rattle.tree.proofs.WellFormed.{open_used, used_small, zero_open}
use Rattle.tree.specs.Pairs.{Keeps, Alike}
use Rattle.tree.specs.Paths.{Shows}
use Rattle.tree.specs.WellFormed.{Used, Opens, up, ix, Placed, Root, WellFormed}

module _ (ns ms : List Node) (w : WellFormed ns) (Q : Quiet ns ms) where
  pub quiet_rows : rows ms ≡ rows ns
  quiet_rows = sym (alike_rows ns ms Q.alike (Q.alike.same_direct 0 (zero_open ns w)))

  pub quiet_paths : paths ms ≡ paths ns
  quiet_paths = sym (alike_paths ns ms Q.alike w)

  pub quiet_total : (j : ℕ) → Opens ns j → total_of ms j ≡ total_of ns j
  quiet_total j o = sym (alike_total ns ms Q.alike j (Q.alike.same_direct j o))

pub quiet_refl : (ns : List Node) → WellFormed ns → Quiet ns ns
quiet_refl ns w = record { well = w; alike = record { size = refl; same_open = λ j. refl; same_up = λ j o. refl; same_ix = λ j o. refl; same_direct = λ j o. refl } }

-- a node is put that is open, with the same count, just if there was an open one
pub quiet_put : (ns : List Node) (w : WellFormed ns) (k : ℕ) (n : Node) → Put ns k n → is_open (node_at ns k) ≡ is_open n → (Opens ns k → direct_of ns k ≡ n.direct) → Quiet ns (set ns k n)
quiet_put ns w k n P e f = record {
  well = put_well ns w k n P;
  alike = alike_set ns k n (rw w.size P.small) e (λ o. let s = P.same (open_used ns k o) in (s.0, s.1, f o));
}

pub quiet_version : (ns : List Node) (w : WellFormed ns) (k v : ℕ) → Used ns (suc k) → Quiet ns (set ns (suc k) (with_version v (node_at ns (suc k))))
quiet_version ns w k v u =
    let n = node_at ns (suc k) in
    quiet_put ns w (suc k) (with_version v n)
    (put_own ns w (suc k) (with_version v n) u (record { live = u; parent = refl; index = refl; entry = refl; version = λ z. absurd (omega arith); keeps = λ o. (o, (omega arith)); filled = λ c o. absurd (differ o c) }))
    refl (λ o. refl)

pub quiet_ongoing : (ns : List Node) (w : WellFormed ns) (k : ℕ) (b : Bool) → Opens ns k → Quiet ns (set ns k (with_ongoing b (node_at ns k)))
quiet_ongoing ns w k b o =
    let n = node_at ns k in
    quiet_put ns w k (with_ongoing b n)
    (put_own ns w k (with_ongoing b n) (open_used ns k o) (record { live = rw o; parent = refl; index = refl; entry = refl; version = λ z. refl; keeps = λ q. (q, (omega arith)); filled = λ c q. absurd (differ q c) }))
    refl (λ q. refl)

-- a node that is not open is freed
pub quiet_freed : (ns : List Node) (w : WellFormed ns) (k : ℕ) → suc k < 256 → is_open (node_at ns (suc k)) ≡ false → Quiet ns (set ns (suc k) no_node)
quiet_freed ns w k h c = record {
  well = shrunk_well ns (set ns (suc k) no_node) (freed_shrunk ns w k h c) w;
  alike = alike_set ns (suc k) no_node (rw w.size h) c (λ o. absurd (differ o c));
}

-- a node that is not open grows, and is freed if it is complete
pub quiet_grown :
    (ns : List Node) (w : WellFormed ns) (k c : ℕ) (b : Bool)
    → Used ns (suc k)
    → is_open (node_at ns (suc k)) ≡ false
    → direct_of ns (suc k) ≤ c
    → Quiet ns (set ns (suc k) (or_none (with_direct c (with_ongoing b (node_at ns (suc k))))))
quiet_grown ns w k c true u q h =
    rw (or-true (is_open (node_at ns (suc k))))
    (quiet_put ns w (suc k) n
    (put_own ns w (suc k) n u (record { live = or-true (is_open (node_at ns (suc k))); parent = refl; index = refl; entry = refl; version = λ z. refl; keeps = λ o. (o, h); filled = λ z o. absurd (differ o q) }))
    refl (λ o. absurd (differ o q)))
  where
    n : Node
    n = with_direct c (with_ongoing true (node_at ns (suc k)))
quiet_grown ns w k c false u q h = rw q (quiet_freed ns w k (used_small ns w (suc k) u) q)

-- an ongoing row without a node gets one
pub quiet_followed :
    (t : List ℕ) (ns : List Node) (w : WellFormed ns) (p i k : ℕ)
    → Shows ns (p, i)
    → child ns p i ≡ 0
    → free ns ≡ suc k
    → (fresh t ns p i).ongoing ≡ true
    → Quiet ns (set ns (suc k) (fresh t ns p i))
unfolding fresh
quiet_followed t ns w p i k s e g o =
    let c = unused_shut (node_at ns (suc k)) (free_unused ns k g).1 in
    quiet_put ns w (suc k) (fresh t ns p i)
    (put_fresh ns w k (fresh t ns p i) e g s.0 s.1 o (fresh_listed t ns p i (inr o)) (λ q. absurd (false≢true q)))
    c (λ q. absurd (differ q c))

pub bare_sym : {ns ms : List Node} → Bare ns ms → Bare ms ns
bare_sym B = record { size = sym B.size; node = λ j. sym (B.node j) }

module _ (ns ms : List Node) (B : Bare ns ms) where
  pub bare_used : (j : ℕ) → used (node_at ns j) ≡ used (node_at ms j)
  bare_used j = ap used (B.node j)

  same_open : (j : ℕ) → is_open (node_at ns j) ≡ is_open (node_at ms j)
  same_open j = ap is_open (B.node j)

  same_up : (j : ℕ) → up ns j ≡ up ms j
  same_up j = ap (λ (n : Node). n.parent) (B.node j)

  same_ix : (j : ℕ) → ix ns j ≡ ix ms j
  same_ix j = ap (λ (n : Node). n.index) (B.node j)

  same_direct : (j : ℕ) → direct_of ns j ≡ direct_of ms j
  same_direct j = ap (λ (n : Node). n.direct) (B.node j)

  pub bare_alike : Alike ns ms
  bare_alike = record { size = B.size; same_open = same_open; same_up = λ j o. same_up j; same_ix = λ j o. same_ix j; same_direct = λ j o. same_direct j }

  pub bare_rows : rows ns ≡ rows ms
  bare_rows = alike_rows ns ms bare_alike (same_direct 0)

  pub bare_total : (j : ℕ) → total_of ns j ≡ total_of ms j
  bare_total j = alike_total ns ms bare_alike j (same_direct j)

  keeps : Keeps ns ms
  keeps = record { stays = λ j u. sym (bare_used j) ∙ u; same_up = λ j u. sym (same_up j); same_ix = λ j u. sym (same_ix j) }

  -- if no unused place has a total
  pub bare_quiet : WellFormed ns → ((j : ℕ) → used (node_at ms (suc j)) ≡ false → (node_at ms (suc j)).total ≡ 0) → Quiet ns ms
  bare_quiet w z = record {
    well = record {
      size = sym B.size ∙ w.size;
      root = record { «open» = sym (same_open 0) ∙ R.«open»; entry = sym (ap (λ (n : Node). n.entry) (B.node 0)) ∙ R.entry; parent = sym (same_up 0) ∙ R.parent; index = sym (same_ix 0) ∙ R.index; version = sym (ap (λ (n : Node). n.version) (B.node 0)) ∙ R.version };
      placed = placed;
      twin = λ a b u v d e. w.twin a b (bare_used (suc a) ∙ u) (bare_used (suc b) ∙ v) (same_up (suc a) ∙ d ∙ sym (same_up (suc b))) (same_ix (suc a) ∙ e ∙ sym (same_ix (suc b)));
      empty = λ j u. ap (λ (c : ℕ). with_total c (node_at ms (suc j))) (z j u) ∙ sym (B.node (suc j)) ∙ ap bare (w.empty j (bare_used (suc j) ∙ u));
    };
    alike = bare_alike;
  }
    where
      R : Root (node_at ns 0)
      R = w.root

      placed : (j : ℕ) → Used ms (suc j) → Placed ms (suc j)
      placed j u =
          let v : Used ns (suc j) = bare_used (suc j) ∙ u in
          let s = w.placed j v in
          record {
            entry = rw (← ap (λ (n : Node). n.entry) (B.node (suc j))) s.entry;
            above = rw (← same_up (suc j)) (sym (same_open (up ns (suc j))) ∙ s.above);
            reach = reach_to ns ms (above_used ns w) keeps longest_chain (suc j) v (reach_all ns w (suc j) v);
            inside = rw (← same_ix (suc j), ← same_up (suc j), ← same_direct (up ns (suc j))) s.inside;
            filled = λ o. rw (← same_direct (suc j)) (s.filled (same_open (suc j) ∙ o));
          }
