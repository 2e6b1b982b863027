-- The children of a node in ascending index, and what is gathered from them.
use Prim.Native.Nat.{ℕ, zero, suc, ◌+◌, ◌-◌, ◌<◌, ◌≤◌}
use native.Mathlib.Omega.{arith}
use native.Mathlib.Decide.{ℕ_discrete}
use mathlib.Core.Logic.{◌≢◌}
use mathlib.Core.Path.{◌≡◌, refl, ap, ◌∙◌}
use mathlib.Core.Bool.{Bool, true}
use mathlib.Core.List.{List, [], ◌∷◌, flat_map}
use Rattle.model.specs.declared.Node.{Node}
use Rattle.model.specs.Nodes.{node_at, child_by, keep, children_from}
use Rattle.model.proofs.Search.{child_found}

keep_some : (k : ℕ) (l : List ℕ) → k ≢ 0 → keep k l ≡ k ∷ l
unfolding keep
keep_some zero l d = absurd (d refl)
keep_some (suc k) l d = refl

keep_none : (l : List ℕ) → keep 0 l ≡ l
unfolding keep
keep_none l = refl

module _ (q : Node → Bool) (ns : List Node) (p : ℕ) where
  pub children_none : (i n : ℕ) → ((x : ℕ) → i ≤ x → x < i + n → child_by q ns p x ≡ 0) → children_from q ns p i n ≡ []
  unfolding children_from keep
  children_none i zero h = refl
  children_none i (suc n) h = rw (h i (omega arith) (omega arith)) (children_none (suc i) n (λ x a b. h x (omega arith) (omega arith)))

  -- k, with index x, is the first child from index i on
  pub children_some : (n i x k : ℕ) → i ≤ x → x < i + n → child_by q ns p x ≡ k → k ≢ 0 → ((y : ℕ) → i ≤ y → y < x → child_by q ns p y ≡ 0)
      → children_from q ns p i n ≡ k ∷ children_from q ns p (suc x) (i + n - suc x)
  unfolding children_from
  children_some zero i x k a b e d h = absurd (omega arith)
  children_some (suc n) i x k a b e d h = go (λ c. children_some n (suc i) x k c (omega arith) e d (λ y l r. h y (omega arith) r)) (ℕ_discrete i x)
    where
      go : (suc i ≤ x → children_from q ns p (suc i) n ≡ k ∷ children_from q ns p (suc x) (suc i + n - suc x)) → Dec (i ≡ x)
          → keep (child_by q ns p i) (children_from q ns p (suc i) n) ≡ k ∷ children_from q ns p (suc x) (i + suc n - suc x)
      go ih (yes z) =
          let m : i + suc n - suc x ≡ n = omega arith in
          rw (m, ← z) (rw (ap (child_by q ns p) z ∙ e) (keep_some k (children_from q ns p (suc i) n) d))
      go ih (no z) =
          let m : i + suc n - suc x ≡ suc i + n - suc x = omega arith in
          rw (m, h i (omega arith) (omega arith)) (keep_none (children_from q ns p (suc i) n) ∙ ih (omega arith))

  -- what is gathered from the children agrees where it does for each
  pub gather_same : {A : Type 0} (u v : ℕ → List A) → ((j : ℕ) → q (node_at ns (suc j)) ≡ true → (node_at ns (suc j)).parent ≡ p → u (suc j) ≡ v (suc j)) → (n i : ℕ)
      → flat_map u (children_from q ns p i n) ≡ flat_map v (children_from q ns p i n)
  unfolding children_from keep flat_map
  gather_same u v h zero i = refl
  gather_same u v h (suc n) i = go (child_by q ns p i) refl (gather_same u v h n (suc i))
    where
      go : (k : ℕ) → child_by q ns p i ≡ k → flat_map u (children_from q ns p (suc i) n) ≡ flat_map v (children_from q ns p (suc i) n)
          → flat_map u (keep k (children_from q ns p (suc i) n)) ≡ flat_map v (keep k (children_from q ns p (suc i) n))
      go zero e ih = ih
      go (suc k) e ih = let r = child_found q ns p i k e in rw (h k r.0 r.1, ih)
