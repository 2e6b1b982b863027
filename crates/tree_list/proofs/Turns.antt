-- Nodes closed one after another: which are as they were, and how the log grows.
use Prim.Native.Nat.{ℕ, zero, suc, ◌+◌, ◌<◌, ◌≤◌}
use native.Mathlib.Omega.{arith}
use native.Mathlib.Decide.{ℕ_discrete, dec_lt}
use mathlib.Core.Path.{◌≡◌, refl, sym, ap, ◌∙◌}
use mathlib.Core.Logic.{◌≢◌, ⊎_elim}
use mathlib.Core.Bool.{Bool, true, false, cond, false≢true}
use mathlib.Core.List.Memᴰ.{append_cases as split}
use mathlib.Core.List.Memᴰ.{append_right as in_right}
use mathlib.Core.List.Memᴰ.{eq_of_singleton as only}
use mathlib.Core.List.Memᴰ.{head as first}
use mathlib.Core.List.Memᴰ.{not-nil}
use mathlib.Core.List.{List, [], ◌∷◌, Memᴰ as In}
use lib.ListN.{length, get_or, take, set, length-append, get_or-eq_default}
use lib.Seq.{get_or-set_same, get_or-set_other, set_out}
use lib.Dec.{eqb}
use borrow.Author.Tests.{ne_eqb}
use Rattle.model.specs.declared.Node.{Node}
use Rattle.model.specs.Nodes.{no_node, node_at, direct_of, is_open, open_child, with_open, or_none}
use Rattle.model.specs.Rows.{row_of}
use Rattle.model.specs.Logs.{State, state, rows_change}
use Rattle.model.specs.Close.{free_below, close_one, close_each}
use Rattle.model.proofs.Search.{child_found}
use Rattle.lists.proofs.Bools.{differ}
use Rattle.tree.specs.WellFormed.{Opens, up}
use Rattle.steps.specs.Changes.{closed_at, Bare}
use Rattle.steps.proofs.Closing.{length_free, free_at}
use Rattle.edits.specs.Closable.{Closable}
use Rattle.edits.proofs.InnerFirst.{Ready}

-- closing node k leaves any other alone that is no child of it
closed_else : (ns : List Node) (k j : ℕ) → j ≢ k → up ns j ≢ k → node_at (closed_at ns k) j ≡ node_at ns j
unfolding closed_at
closed_else ns k j d e = get_or-set_other (free_below k ns) k j (or_none (with_open false (node_at ns k))) no_node d ∙ free_at k ns j ∙ rw (ne_eqb (up ns j) k e)

-- and what is open then was so before, and is not node k
closed_open : (ns : List Node) (k j : ℕ) → Opens (closed_at ns k) j → (node_at (closed_at ns k) j ≡ node_at ns j) × (j ≢ k)
unfolding closed_at
closed_open ns k j o = go (ℕ_discrete j k) (dec_lt k (length ns))
  where
    n : Node
    n = node_at ns k

    shut : (b : Bool) → is_open (cond b (with_open false n) no_node) ≡ false
    shut true = refl
    shut false = refl

    freed : (b : Bool) (x : Node) → is_open (cond b no_node x) ≡ true → cond b no_node x ≡ x
    freed true x e = absurd (false≢true e)
    freed false x e = refl

    go : Dec (j ≡ k) → Dec (k < length ns) → (node_at (set (free_below k ns) k (or_none (with_open false n))) j ≡ node_at ns j) × (j ≢ k)
    go (no d) h =
        let e = get_or-set_other (free_below k ns) k j (or_none (with_open false n)) no_node d ∙ free_at k ns j in
        (e ∙ freed (eqb (up ns j) k) (node_at ns j) (sym (ap is_open e) ∙ o), d)
    go (yes d) (yes h) = absurd (differ (rw d at o) (ap is_open (get_or-set_same (free_below k ns) k (or_none (with_open false n)) no_node (rw length_free h)) ∙ shut n.ongoing))
    go (yes d) (no h) =
        let l : length (free_below k ns) ≤ k = rw length_free (omega arith) in
        absurd (differ (rw d at o) (ap (λ (l : List Node). is_open (node_at l k)) (set_out (free_below k ns) k (or_none (with_open false n)) l) ∙ ap is_open (get_or-eq_default (free_below k ns) no_node l)))

each_else : (s : State) (ks : List ℕ) (j : ℕ) → (In j ks → ⊥) → (In (up s.nodes j) ks → ⊥) → node_at (close_each s ks).nodes j ≡ node_at s.nodes j
unfolding close_each close_one closed_at
each_else s [] j d e = refl
each_else s (k ∷ ks) j d e =
    let z : node_at (closed_at s.nodes k) j ≡ node_at s.nodes j = closed_else s.nodes k j (λ q. d (first q)) (λ q. e (first q)) in
    each_else (close_one s k) ks j (λ m. d (in_right (k ∷ []) m)) (λ m. e (in_right (k ∷ []) (rw (ap (λ (n : Node). n.parent) z) at m))) ∙ z

each_open : (s : State) (ks : List ℕ) (j : ℕ) → Opens (close_each s ks).nodes j → (node_at (close_each s ks).nodes j ≡ node_at s.nodes j) × (In j ks → ⊥)
unfolding close_each close_one closed_at
each_open s [] j o = (refl, not-nil)
each_open s (k ∷ ks) j o =
    let r = each_open (close_one s k) ks j o in
    let t = closed_open s.nodes k j (sym (ap is_open r.0) ∙ o) in
    (r.0 ∙ t.0, λ m. ⊎_elim (λ a. t.1 (only a)) r.1 (split (k ∷ []) m))

-- when a node's turn has come, it can be closed alone
pub ready_closable : (ns ms : List Node) (ds : List ℕ) → Bare (close_each (state ns []) ds).nodes ms → (k : ℕ) → Ready ns ds k → Closable ms k
ready_closable ns ms ds B k R = record {
  above = R.above;
  opens = sym (ap is_open (B.node k)) ∙ ap is_open (each_else (state ns []) ds k R.fresh R.parent) ∙ R.opens;
  none = λ i. none i (open_child ms k i) refl;
}
  where
    none : (i j : ℕ) → open_child ms k i ≡ j → open_child ms k i ≡ 0
    none i zero e = e
    none i (suc c) e =
        let r = child_found is_open ms k i c e in
        let t = each_open (state ns []) ds (suc c) (ap is_open (B.node (suc c)) ∙ r.0) in
        let same = sym t.0 in
        absurd (t.1 (R.children c (ap is_open same ∙ ap is_open (B.node (suc c)) ∙ r.0) (ap (λ (n : Node). n.parent) same ∙ ap (λ (n : Node). n.parent) (B.node (suc c)) ∙ r.1)))

-- and has the count that it had
pub ready_direct : (ns ms : List Node) (ds : List ℕ) → Bare (close_each (state ns []) ds).nodes ms → (k : ℕ) → Ready ns ds k → direct_of ns k ≡ direct_of ms k
ready_direct ns ms ds B k R = ap (λ (n : Node). n.direct) (sym (each_else (state ns []) ds k R.fresh R.parent)) ∙ ap (λ (n : Node). n.direct) (B.node k)

-- the step after the first i
pub each_next : (s : State) (ks : List ℕ) (i : ℕ) → i < length ks → close_each s (take (suc i) ks) ≡ close_one (close_each s (take i ks)) (get_or ks i 0)
unfolding close_each
each_next s [] i h = absurd (omega arith)
each_next s (k ∷ ks) zero h = refl
each_next s (k ∷ ks) (suc i) h = each_next (close_one s k) ks i (omega arith)

-- one record for each
pub each_logged : (s : State) (ks : List ℕ) → length (close_each s ks).log ≡ length s.log + length ks
unfolding close_each close_one
each_logged s [] = omega arith
each_logged s (k ∷ ks) = omega (arith, each_logged (close_one s k) ks, length-append s.log (rows_change (suc (row_of s.nodes k)) (direct_of s.nodes k) 0 ∷ []))
