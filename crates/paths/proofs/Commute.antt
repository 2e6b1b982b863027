-- Opening, closing and growing as functions: they do what the records say, keep a shape rooted, and commute for paths apart.
use mathlib.Core.Path.{◌≡◌, refl, sym, ◌∙◌, fun_ext}
use mathlib.Core.Logic.{◌⊎◌, inl, inr, ◌≢◌}
use mathlib.Core.Bool.{Bool, true, false, cond, not, ◌&&◌, ◌||◌, true≢false, false≢true, and-true, and-false, or-true, or-false}
use mathlib.Core.List.{[]}
use Prim.Native.Nat.{ℕ, ◌+◌, ◌<◌}
use native.Mathlib.Omega.{arith}
use Rattle.paths.specs.Order.{Path, ◌·◌, Under, dec_eq, dec_under}
use Rattle.paths.specs.Shapes.{Shape, Open, Rooted, Showing, Opened, Closed, Grown, holds, open_at, close_at, grow_at}
use Rattle.paths.proofs.Order.{child_not_nil, child_inj, under_child, ext_nil}

holds_yes : {P : Type 0} (d : Dec P) → P → holds d ≡ true
holds_yes (yes h) p = refl
holds_yes (no n) p = absurd (n p)

holds_no : {P : Type 0} (d : Dec P) → (P → ⊥) → holds d ≡ false
holds_no (yes h) n = absurd (n h)
holds_no (no k) n = refl

or_holds : {P : Type 0} (v : Bool) (d : Dec P) → v || holds d ≡ true → (v ≡ true) ⊎ P
or_holds true d e = inl refl
or_holds false (yes h) e = inr h
or_holds false (no n) e = absurd (false≢true e)

or_left : (v w : Bool) → v ≡ true → v || w ≡ true
or_left v w e = rw e

and_holds : {P : Type 0} (v : Bool) (d : Dec P) → v && not (holds d) ≡ true → (v ≡ true) × (P → ⊥)
and_holds true (yes h) e = absurd (false≢true e)
and_holds true (no n) e = (refl, n)
and_holds false d e = absurd (false≢true e)

module _ (t : Shape) (q : Path) (c : ℕ) where
  pub open_at_opened : t.is_open q ≡ false → Opened t (open_at q c t) q c
  open_at_opened e = record {
    was = e;
    now = rw (holds_yes (dec_eq q q) refl, or-true);
    many = rw (holds_yes (dec_eq q q) refl);
    open_else = λ x n. rw (holds_no (dec_eq x q) n, or-false);
    count_else = λ x n. rw (holds_no (dec_eq x q) n);
  }

  pub grow_at_grown : Grown t (grow_at q c t) q c
  grow_at_grown = record {
    many = rw (holds_yes (dec_eq q q) refl);
    open_same = λ x. refl;
    count_else = λ x n. rw (holds_no (dec_eq x q) n);
  }

pub close_at_closed : (t : Shape) (q : Path) → Closed t (close_at q t) q
close_at_closed t q = record {
  shut = λ x u. rw (holds_yes (dec_under q x) u, and-false);
  open_else = λ x n. rw (holds_no (dec_under q x) n, and-true);
  count_else = λ x n. refl;
}

module _ (t : Shape) (w : Rooted t) where
  pub open_at_rooted : (q : Path) (c : ℕ) → Showing t q → t.is_open q ≡ false → Rooted (open_at q c t)
  open_at_rooted q c s e = record {
    root = or_left (t.is_open []) (holds (dec_eq [] q)) w.root;
    step = λ p i o. step p i (or_holds (t.is_open (p · i)) (dec_eq (p · i) q) o);
  }
    where
      parent_of : (p : Path) (i : ℕ) → Open t (p · i) ⊎ (p · i ≡ q) → Open t p × (i < t.count p)
      parent_of p i (inl o) = w.step p i o
      parent_of p i (inr d) =
          let k = child_inj p s.up i s.ix (d ∙ s.is) in
          let e₁ = k.0 in
          let e₂ = k.1 in
          (rw e₁ s.open_up, rw (e₁, e₂) s.inside)

      step : (p : Path) (i : ℕ) → Open t (p · i) ⊎ (p · i ≡ q) → Open (open_at q c t) p × (i < (open_at q c t).count p)
      step p i h =
          let k = parent_of p i h in
          let n : p ≢ q = λ d. true≢false (sym k.0 ∙ rw d e) in
          (or_left (t.is_open p) (holds (dec_eq p q)) k.0, rw (holds_no (dec_eq p q) n) k.1)

  pub close_at_rooted : (q : Path) → Showing t q → Rooted (close_at q t)
  close_at_rooted q s = record {
    root = rw (holds_no (dec_under q []) not_root, and-true) w.root;
    step = λ p i o.
        let k = and_holds (t.is_open (p · i)) (dec_under q (p · i)) o in
        let m = w.step p i k.0 in
        (rw (holds_no (dec_under q p) (λ u. k.1 (inr (under_child q p i u))), and-true) m.0, m.1);
  }
    where
      not_root : Under q [] → ⊥
      not_root (inl e) = child_not_nil s.up s.ix (sym s.is ∙ sym e)
      not_root (inr h) = ext_nil q h

  pub grow_at_rooted : (p : Path) (c : ℕ) → Rooted (grow_at p c t)
  grow_at_rooted p c = record {
    root = w.root;
    step = λ x i o. let k = w.step x i o in (k.0, up x i (dec_eq x p) k.1);
  }
    where
      up : (x : Path) (i : ℕ) (d : Dec (x ≡ p)) → i < t.count x → i < cond (holds d) (t.count x + c) (t.count x)
      up x i (yes e) h = omega arith
      up x i (no n) h = h

shape_same : (t t' : Shape) → ((x : Path) → t.count x ≡ t'.count x) → ((x : Path) → t.is_open x ≡ t'.is_open x) → t ≡ t'
shape_same t t' h k = λ i. record { count = fun_ext h i; is_open = fun_ext k i }

-- two paths, neither below the other
module _ (t : Shape) (p q : Path) (apart₁ : Under p q → ⊥) (apart₂ : Under q p → ⊥) where
  pub open_open : (c d : ℕ) → open_at p c (open_at q d t) ≡ open_at q d (open_at p c t)
  open_open c d =
      shape_same (open_at p c (open_at q d t)) (open_at q d (open_at p c t)) (λ x. counts x (dec_eq x p) (dec_eq x q)) (λ x. opens (t.is_open x) (holds (dec_eq x p)) (holds (dec_eq x q)))
    where
      counts : (x : Path) (a : Dec (x ≡ p)) (b : Dec (x ≡ q)) → cond (holds a) c (cond (holds b) d (t.count x)) ≡ cond (holds b) d (cond (holds a) c (t.count x))
      counts x (yes e) (yes f) = absurd (apart₁ (inl (sym f ∙ e)))
      counts x (yes e) (no n) = refl
      counts x (no n) b = refl

      opens : (v a b : Bool) → v || b || a ≡ v || a || b
      opens true a b = refl
      opens false true true = refl
      opens false true false = refl
      opens false false b = or-false b

  pub open_close : (c : ℕ) → open_at p c (close_at q t) ≡ close_at q (open_at p c t)
  open_close c = shape_same (open_at p c (close_at q t)) (close_at q (open_at p c t)) (λ x. refl) (λ x. opens x (t.is_open x) (dec_eq x p) (dec_under q x))
    where
      opens : (x : Path) (v : Bool) (a : Dec (x ≡ p)) (b : Dec (Under q x)) → v && not (holds b) || holds a ≡ (v || holds a) && not (holds b)
      opens x v (yes e) (yes u) = absurd (apart₂ (rw e at u))
      opens x v (yes e) (no n) = simp (and-true, or-true)
      opens x v (no m) (yes u) = simp and-false
      opens x v (no m) (no n) = simp (and-true, or-false)

  pub close_close : close_at p (close_at q t) ≡ close_at q (close_at p t)
  close_close = shape_same (close_at p (close_at q t)) (close_at q (close_at p t)) (λ x. refl) (λ x. opens (t.is_open x) (not (holds (dec_under p x))) (not (holds (dec_under q x))))
    where
      opens : (v a b : Bool) → v && b && a ≡ v && a && b
      opens false a b = refl
      opens true true b = and-true b
      opens true false b = and-false b
