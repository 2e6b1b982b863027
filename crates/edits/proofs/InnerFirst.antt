-- The closing order: when a node's turn comes, its open children are done, and neither it nor its parent is.
use Prim.Native.Nat.{ℕ, zero, suc, ◌+◌, ◌≤◌, ◌<◌}
use native.Mathlib.Omega.{arith}
use native.Mathlib.Nat.{zero-add, eq-or-lt_of_le}
use mathlib.Core.Path.{◌≡◌, refl, sym, ap, ◌∙◌}
use mathlib.Core.Logic.{◌⊎◌, inl, inr, ⊎_elim}
use mathlib.Core.List.Memᴰ.{append_cases as split}
use mathlib.Core.List.Memᴰ.{append_left as in_left}
use mathlib.Core.List.Memᴰ.{append_right as in_right}
use mathlib.Core.List.Memᴰ.{eq_of_singleton as only}
use mathlib.Core.List.Memᴰ.{head as first}
use mathlib.Core.List.Memᴰ.{not-nil}
use mathlib.Core.List.{
  List,
  [],
  ◌∷◌,
  ◌++◌,
  flat_map,
  append_assoc,
  append-nil,
  Memᴰ as In,
}
use lib.ListN.{length, get_or, take}
use Rattle.model.specs.declared.Node.{Node}
use Rattle.model.specs.Places.{longest_chain, depth}
use Rattle.model.specs.Nodes.{is_open, direct_of, open_child, keep, children_from, children}
use Rattle.model.specs.Close.{closing_order}
use Rattle.paths.specs.Order.{Path, ◌·◌, Under}
use Rattle.paths.proofs.Decided.{lt_irrefl}
use Rattle.paths.proofs.Order.{child_ext, under_ext, ext_longer, length_child, branch_lt}
use Rattle.tree.specs.Paths.{to, From}
use Rattle.tree.specs.WellFormed.{Opens, up, ix, WellFormed}
use Rattle.tree.proofs.Find.{open_length, to_up}
use Rattle.tree.proofs.Listing.{open_child_lem, open_at_lem}
use Rattle.tree.proofs.WellFormed.{open_used, child_by_is}
use Rattle.steps.proofs.ClosingAll.{not_own}

-- node k's turn has come, when the nodes ds are done
pub record Ready (ns : List Node) (ds : List ℕ) (k : ℕ) : Type 0 where
  pub above : 0 < k
  pub opens : Opens ns k
  pub fresh : In k ds → ⊥
  pub parent : In (up ns k) ds → ⊥
  pub children : (c : ℕ) → Opens ns (suc c) → up ns (suc c) ≡ k → In (suc c) ds

-- so it is with each of a list in its turn
abbrev InOrder : List Node → List ℕ → List ℕ → Type 0
InOrder ns ds [] = Unit {0}
InOrder ns ds (k ∷ ks) = Ready ns ds k × InOrder ns (ds ++ (k ∷ [])) ks

order_append : (ns : List Node) (ds a b : List ℕ) → InOrder ns ds a → InOrder ns (ds ++ a) b → InOrder ns ds (a ++ b)
order_append ns ds [] b h g = rw append-nil at g
order_append ns ds (k ∷ a) b h g = (h.0, order_append ns (ds ++ (k ∷ [])) a b h.1 (rw append_assoc g))

order_at : (ns : List Node) (ds ks : List ℕ) → InOrder ns ds ks → (i : ℕ) → i < length ks → Ready ns (ds ++ take i ks) (get_or ks i 0)
order_at ns ds [] h i l = absurd (omega arith)
order_at ns ds (k ∷ ks) h zero l = rw append-nil h.0
order_at ns ds (k ∷ ks) h (suc i) l = rw append_assoc at (order_at ns (ds ++ (k ∷ [])) ks h.1 i (omega arith))

module _ (ns : List Node) (w : WellFormed ns) where
  abbrev each : ℕ → ℕ → ℕ → ℕ → List ℕ
  each f p i n = flat_map (λ j. closing_order ns f j) (children_from is_open ns p i n)

  later : (p i : ℕ) (x : Path) → From ns p (suc i) x → From ns p i x
  later p i x r = (r.0, (omega arith), r.2)

  -- what is closed with a node stands below it
  abbrev Members : ℕ → Type 0
  Members f = (j x : ℕ) → In x (closing_order ns f j) → Under (to ns j) (to ns x)

  each_in : (f p : ℕ) → Members f → (n i x : ℕ) → In x (each f p i n) → From ns p i (to ns x)
  unfolding children_from keep flat_map
  each_in f p M zero i x m = absurd (not-nil m)
  each_in f p M (suc n) i x m = go (open_child ns p i) refl m (λ y. each_in f p M n (suc i) x y)
    where
      go : (j : ℕ) → open_child ns p i ≡ j → In x (flat_map (λ j. closing_order ns f j) (keep j (children_from is_open ns p (suc i) n))) → (In x (each f p (suc i) n) → From ns p (suc i) (to ns x)) → From ns p i (to ns x)
      go zero e m ih = later p i (to ns x) (ih m)
      go (suc j) e m ih =
          ⊎_elim
          (λ a. let t = (open_child_lem ns w p i j e).3 in (i, (omega arith), rw t at (M (suc j) x a)))
          (λ b. later p i (to ns x) (ih b))
          (split (closing_order ns f (suc j)) m)

  order_in : (f : ℕ) → Members f
  unfolding closing_order children
  order_in zero j x m = absurd (not-nil m)
  order_in (suc f) j x m =
      ⊎_elim
      (λ a. let r = each_in f j (order_in f) (direct_of ns j) 0 x a in inr (under_ext (to ns j · r.0) (child_ext (to ns j) r.0) r.2))
      (λ b. inl (ap (to ns) (only b)))
      (split (each f j 0 (direct_of ns j)) m)

  -- each open child is closed with its parent
  each_has : (f p c : ℕ) → Opens ns (suc c) → up ns (suc c) ≡ p → In (suc c) (closing_order ns f (suc c)) → (n i : ℕ) → i ≤ ix ns (suc c) → ix ns (suc c) < i + n → In (suc c) (each f p i n)
  unfolding children_from keep flat_map
  each_has f p c o u own zero i l h = absurd (omega arith)
  each_has f p c o u own (suc n) i l h = go (open_child ns p i) refl (eq-or-lt_of_le l) (λ a. each_has f p c o u own n (suc i) a (omega arith))
    where
      go : (j : ℕ) → open_child ns p i ≡ j → (i ≡ ix ns (suc c)) ⊎ (i < ix ns (suc c)) → (suc i ≤ ix ns (suc c) → In (suc c) (each f p (suc i) n)) → In (suc c) (flat_map (λ j. closing_order ns f j) (keep j (children_from is_open ns p (suc i) n)))
      go j e (inl g) ih =
          let z : j ≡ suc c = sym e ∙ (rw (u, ← g) at (child_by_is ns w is_open c (λ n t. rw t) o)) in
          rw z (in_left (each f p (suc i) n) own)
      go zero e (inr g) ih = ih g
      go (suc j) e (inr g) ih = in_right (closing_order ns f (suc j)) (ih g)

  order_own : (f k : ℕ) → In k (closing_order ns (suc f) k)
  unfolding closing_order
  order_own f k = in_right (flat_map (λ j. closing_order ns f j) (children is_open ns k)) (first refl)

  abbrev Orders : ℕ → Type 0
  Orders f =
      (j : ℕ)
      → Opens ns (suc j)
      → longest_chain < f + length (to ns (suc j))
      → (ds : List ℕ)
      → ((x : ℕ) → In x ds → Under (to ns (suc j)) (to ns x) → ⊥)
      → (In (up ns (suc j)) ds → ⊥)
      → InOrder ns ds (closing_order ns f (suc j))

  each_order : (f p : ℕ) → longest_chain < suc f + length (to ns p) → Orders f → (n i : ℕ) (ds : List ℕ) → ((x : ℕ) → In x ds → From ns p i (to ns x) → ⊥) → (In p ds → ⊥) → InOrder ns ds (each f p i n)
  unfolding children_from keep flat_map
  each_order f p d orders zero i ds off out = tt
  each_order f p d orders (suc n) i ds off out = go (open_child ns p i) refl (λ es a b. each_order f p d orders n (suc i) es a b)
    where
      go :
          (j : ℕ)
          → open_child ns p i ≡ j
          → ((es : List ℕ) → ((x : ℕ) → In x es → From ns p (suc i) (to ns x) → ⊥) → (In p es → ⊥) → InOrder ns es (each f p (suc i) n))
          → InOrder ns ds (flat_map (λ j. closing_order ns f j) (keep j (children_from is_open ns p (suc i) n)))
      go zero e ih = ih ds (λ x m r. off x m (later p i (to ns x) r)) out
      go (suc j) e ih =
          let own = open_child_lem ns w p i j e in
          let t = own.3 in
          let these = closing_order ns f (suc j) in
          order_append ns ds these (each f p (suc i) n)
          (orders j own.0 (rw t (omega (arith, length_child (to ns p) i))) ds (λ x m v. off x m (i, (omega arith), rw t at v)) (rw own.1 out))
          (ih (ds ++ these)
          (λ x m r. ⊎_elim (λ a. off x a (later p i (to ns x) r)) (λ b. lt_irrefl (to ns x) (branch_lt (to ns p) r.1 (rw t at (order_in f (suc j) x b)) r.2)) (split ds m))
          (λ m. ⊎_elim out (λ b. not_own (to ns p) i (rw t at (order_in f (suc j) p b))) (split ds m)))

  orders : (f : ℕ) → Orders f
  unfolding closing_order children
  orders zero j o d ds off out = tt
  orders (suc f) j o d ds off out =
      let p = to ns (suc j) in
      let inner = each f (suc j) 0 (direct_of ns (suc j)) in
      let below : (x : ℕ) → In x inner → From ns (suc j) 0 (to ns x) = λ x m. each_in f (suc j) (order_in f) (direct_of ns (suc j)) 0 x m in
      order_append ns ds inner (suc j ∷ [])
      (each_order f (suc j) d (orders f) (direct_of ns (suc j)) 0 ds
      (λ x m r. off x m (inr (under_ext (p · r.0) (child_ext p r.0) r.2)))
      (λ m. off (suc j) m (inl refl))) (
        record {
          above = omega arith;
          opens = o;
          fresh = λ m. ⊎_elim (λ a. off (suc j) a (inl refl)) (λ b. let r = below (suc j) b in not_own p r.0 r.2) (split ds m);
          parent = λ m. ⊎_elim out (λ b. let r = below (up ns (suc j)) b in shorter r.0 r.2) (split ds m);
          children = λ c q u. in_right ds (child c q u f d);
        },
        tt,
      )
    where
      shorter : (b : ℕ) → Under (to ns (suc j) · b) (to ns (up ns (suc j))) → ⊥
      shorter b h =
          let e = ap length (to_up ns w j (open_used ns (suc j) o)) in
          let l = length_child (to ns (up ns (suc j))) (ix ns (suc j)) in
          let n = length_child (to ns (suc j)) b in
          ⊎_elim (λ z. let y = ap length z in omega arith) (λ x. let y = ext_longer x in omega arith) h

      child : (c : ℕ) → Opens ns (suc c) → up ns (suc c) ≡ suc j → (g : ℕ) → longest_chain < suc g + length (to ns (suc j)) → In (suc c) (each g (suc j) 0 (direct_of ns (suc j)))
      child c q u zero h =
          let e = ap length (to_up ns w c (open_used ns (suc c) q)) in
          let l = length_child (to ns (up ns (suc c))) (ix ns (suc c)) in
          let z = ap (λ (n : ℕ). length (to ns n)) u in
          absurd (omega (arith, open_length ns w (to ns (suc c)) (open_at_lem ns w (suc c) q)))
      child c q u (suc g) h =
          each_has (suc g) (suc j) c q u (order_own g (suc c)) (direct_of ns (suc j)) 0 (omega arith)
          (rw zero-add (rw u at (w.placed c (open_used ns (suc c) q)).inside))

  -- from the start of a closing
  pub inner_first : (k : ℕ) → 0 < k → Opens ns k → (i : ℕ) → i < length (closing_order ns depth k) → let ks = closing_order ns depth k in Ready ns (take i ks) (get_or ks i 0)
  inner_first zero h o i l = absurd (omega arith)
  inner_first (suc k) h o i l = order_at ns [] (closing_order ns depth (suc k)) (orders depth k o (omega arith) [] (λ x m v. not-nil m) not-nil) i l
