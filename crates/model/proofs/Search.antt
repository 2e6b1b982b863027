-- Searching a list of nodes: the first of nodes 1, 2, .. that passes a test, or 0.
use Prim.Native.Nat.{ℕ, zero, suc, ◌+◌, ◌<◌, ◌≤◌}
use native.Mathlib.Omega.{arith}
use native.Mathlib.Decide.{dec_lt}
use mathlib.Core.Logic.{◌≢◌}
use mathlib.Core.Path.{◌≡◌, refl, sym, ap, ◌∙◌, subst}
use mathlib.Core.Bool.{Bool, true, false, cond, ◌&&◌, and-eq-true_iff, true≢false, false≢true}
use mathlib.Core.List.{List, [], ◌∷◌}
use lib.ListN.{length, get_or-eq_default}
use lib.Dec.{eqb}
use borrow.Author.Tests.{eqb-true, eqb-false, eq-eqb}
use Rattle.model.specs.declared.Node.{Node}
use Rattle.model.specs.Nodes.{no_node, node_at, used, stands_at, seek_from, seek, child_by}

-- what a search answers
pub data Found (q : Node → Bool) (ns : List Node) : ℕ → Type 0 where
  nowhere : ((i : ℕ) → suc i < length ns → q (node_at ns (suc i)) ≡ false) → Found q ns 0
  here : {k : ℕ} → suc k < length ns → q (node_at ns (suc k)) ≡ true → ((i : ℕ) → i < k → q (node_at ns (suc i)) ≡ false) → Found q ns (suc k)

data From (q : Node → Bool) (ns : List Node) (k : ℕ) : ℕ → Type 0 where
  none : ((i : ℕ) → i < length ns → q (node_at ns i) ≡ false) → From q ns k 0
  some : {r : ℕ} (i : ℕ) → r ≡ k + i → i < length ns → q (node_at ns i) ≡ true → ((j : ℕ) → j < i → q (node_at ns j) ≡ false) → From q ns k r

seek_from_lem : (q : Node → Bool) (ns : List Node) (k : ℕ) → From q ns k (seek_from q ns k)
unfolding seek_from
seek_from_lem q [] k = none (λ i h. absurd (omega arith))
seek_from_lem q (n ∷ ns) k = go (q n) refl (seek_from q ns (suc k)) (seek_from_lem q ns (suc k))
  where
    go : (b : Bool) → q n ≡ b → (r : ℕ) → From q ns (suc k) r → From q (n ∷ ns) k (cond b k r)
    go true e r v = some {r = k} 0 (omega arith) (omega arith) e (λ j h. absurd (omega arith))
    go false e r (none h) = none (elim [ zero ↦ λ l. e | suc i ↦ λ l. h i (omega arith) ])
    go false e r (some i p l t h) = some {r = r} (suc i) (omega arith) (omega arith) t (elim [ zero ↦ λ l. e | suc j ↦ λ l. h j (omega arith) ])

pub seek_found : (q : Node → Bool) (ns : List Node) → Found q ns (seek q ns)
unfolding seek
seek_found q [] = nowhere (λ i h. absurd (omega arith))
seek_found q (n ∷ ns) = go (seek_from q ns 1) (seek_from_lem q ns 1)
  where
    go : (r : ℕ) → From q ns 1 r → Found q (n ∷ ns) r
    go r (none h) = nowhere (λ i l. h i (omega arith))
    go r (some i p l t h) = let e : suc i ≡ r = omega arith in subst (Found q (n ∷ ns)) e (here (omega arith) t h)

module _ (q : Node → Bool) (ns : List Node) where
  found_at : {k : ℕ} → seek q ns ≡ k → Found q ns k
  found_at e = subst (Found q ns) e (seek_found q ns)

  -- what is found passes, is a node's number, and is the first
  pub seek_passes : (k : ℕ) → seek q ns ≡ suc k → q (node_at ns (suc k)) ≡ true
  seek_passes k e = go (found_at e)
    where
      go : Found q ns (suc k) → q (node_at ns (suc k)) ≡ true
      go (here l t h) = t

  pub seek_fits : seek q ns ≢ 0 → seek q ns < length ns
  seek_fits d = go (seek q ns) (seek_found q ns) d
    where
      go : (r : ℕ) → Found q ns r → r ≢ 0 → r < length ns
      go r (nowhere h) z = absurd (z refl)
      go r (here l t h) z = l

  pub seek_skips : (k : ℕ) → seek q ns ≡ suc k → (i : ℕ) → i < k → q (node_at ns (suc i)) ≡ false
  seek_skips k e = go (found_at e)
    where
      go : Found q ns (suc k) → (i : ℕ) → i < k → q (node_at ns (suc i)) ≡ false
      go (here l t h) = h

  pub seek_none : seek q ns ≡ 0 → (i : ℕ) → suc i < length ns → q (node_at ns (suc i)) ≡ false
  seek_none e = go (found_at e)
    where
      go : Found q ns 0 → (i : ℕ) → suc i < length ns → q (node_at ns (suc i)) ≡ false
      go (nowhere h) = h

  -- the first that passes is found
  pub seek_is : (k : ℕ) → suc k < length ns → q (node_at ns (suc k)) ≡ true → ((i : ℕ) → i < k → q (node_at ns (suc i)) ≡ false) → seek q ns ≡ suc k
  seek_is k l t h = go (seek q ns) (seek_found q ns)
    where
      go : (r : ℕ) → Found q ns r → r ≡ suc k
      go r (nowhere g) = absurd (true≢false (sym t ∙ g k l))
      go r (here {k = m} l' t' g) = ap suc (pick m (λ b. true≢false (sym t ∙ g k b)) (λ b. true≢false (sym t' ∙ h m b)))
        where
          pick : (m : ℕ) → (k < m → ⊥) → (m < k → ⊥) → m ≡ k
          pick m a b = omega arith

  -- the same as a loop over the numbers k from 1 on has it: it stops at a hit, goes on after a miss, and ends
  pub seek_stops : (k : ℕ) → 1 ≤ k → k < length ns → q (node_at ns k) ≡ true → ((x : ℕ) → suc x < k → q (node_at ns (suc x)) ≡ false) → seek q ns ≡ k
  seek_stops zero a b t h = absurd (omega arith)
  seek_stops (suc k) a b t h = seek_is k b t (λ x l. h x (omega arith))

  pub seek_goes_on : (k : ℕ) → q (node_at ns k) ≡ false → ((x : ℕ) → suc x < k → q (node_at ns (suc x)) ≡ false) → (x : ℕ) → suc x < k + 1 → q (node_at ns (suc x)) ≡ false
  seek_goes_on k f h x l = go (eqb (suc x) k) refl
    where
      go : (b : Bool) → eqb (suc x) k ≡ b → q (node_at ns (suc x)) ≡ false
      go true e = ap (λ (m : ℕ). q (node_at ns m)) (eqb-true (suc x) k e) ∙ f
      go false e = let d : suc x ≢ k = eqb-false (suc x) k e in h x (omega arith)

  pub seek_ends : (k : ℕ) → length ns ≤ k → ((x : ℕ) → suc x < k → q (node_at ns (suc x)) ≡ false) → seek q ns ≡ 0
  seek_ends k l h = go (seek q ns) (seek_found q ns)
    where
      go : (r : ℕ) → Found q ns r → r ≡ 0
      go r (nowhere g) = refl
      go r (here {k = m} b t g) = absurd (true≢false (sym t ∙ h m (omega arith)))

-- two lists on which two tests agree
seek_from_same : (q r : Node → Bool) (ns ms : List Node) (k : ℕ) → length ns ≡ length ms → ((i : ℕ) → q (node_at ns i) ≡ r (node_at ms i)) → seek_from q ns k ≡ seek_from r ms k
unfolding seek_from
seek_from_same q r [] [] k e h = refl
seek_from_same q r [] (m ∷ ms) k e h = absurd (omega arith)
seek_from_same q r (n ∷ ns) [] k e h = absurd (omega arith)
seek_from_same q r (n ∷ ns) (m ∷ ms) k e h =
    let d : q n ≡ r m = h 0 in
    rw (d, seek_from_same q r ns ms (suc k) (omega arith) (λ i. h (suc i)))

pub seek_same : (q r : Node → Bool) (ns ms : List Node) → length ns ≡ length ms → ((i : ℕ) → q (node_at ns i) ≡ r (node_at ms i)) → seek q ns ≡ seek r ms
unfolding seek
seek_same q r [] [] e h = refl
seek_same q r [] (m ∷ ms) e h = absurd (omega arith)
seek_same q r (n ∷ ns) [] e h = absurd (omega arith)
seek_same q r (n ∷ ns) (m ∷ ms) e h = seek_from_same q r ns ms 1 (omega arith) (λ i. h (suc i))

-- a child that is found stands where it was sought
pub child_found :
    (q : Node → Bool) (ns : List Node) (p i j : ℕ)
    → child_by q ns p i ≡ suc j
    → (q (node_at ns (suc j)) ≡ true) × ((node_at ns (suc j)).parent ≡ p) × ((node_at ns (suc j)).index ≡ i)
unfolding child_by
child_found q ns p i j e =
    let n = node_at ns (suc j) in
    let r = (and-eq-true_iff (q n) (stands_at p i n)).0 (seek_passes (λ n. q n && stands_at p i n) ns j e) in
    let s = (and-eq-true_iff (eqb n.parent p) (eqb n.index i)).0 r.1 in
    (r.0, eqb-true n.parent p s.0, eqb-true n.index i s.1)

pub child_none :
    (q : Node → Bool) (ns : List Node) (p i j : ℕ)
    → child_by q ns p i ≡ 0
    → suc j < length ns
    → q (node_at ns (suc j)) ≡ true
    → (node_at ns (suc j)).parent ≡ p
    → (node_at ns (suc j)).index ≡ i
    → ⊥
unfolding child_by
child_none q ns p i j e h u d f =
    let n = node_at ns (suc j) in
    true≢false (sym (rw (u, eq-eqb n.parent p d, eq-eqb n.index i f)) ∙ seek_none (λ n. q n && stands_at p i n) ns e j h)

-- nothing is read past the end, so a number in use is inside
pub node_past : (ns : List Node) (k : ℕ) → length ns ≤ k → node_at ns k ≡ no_node
node_past ns k h = get_or-eq_default ns no_node h

pub used_inside : (ns : List Node) (k : ℕ) → used (node_at ns k) ≡ true → k < length ns
used_inside ns k u = go (dec_lt k (length ns))
  where
    go : Dec (k < length ns) → k < length ns
    go (yes h) = h
    go (no n) = let e = node_past ns k (omega arith) in absurd (false≢true (sym (ap used e) ∙ u))
