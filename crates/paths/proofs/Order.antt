-- The order of paths: extensions, children and branches.
use mathlib.Core.Path.{◌≡◌, refl, sym, ◌∙◌, ap}
use mathlib.Core.Logic.{◌⊎◌, inl, inr}
use mathlib.Core.List.{[], ◌∷◌, ◌++◌}
use Prim.Native.Nat.{ℕ, suc, ◌<◌}
use native.Mathlib.Omega.{arith}
use lib.ListN.{length, length-append}
use Rattle.lists.proofs.Numbers.{three}
use Rattle.paths.specs.Order.{Path, ◌·◌, Lt, stop, less, same, Ext, Under, dec_ext}
use Rattle.paths.proofs.Decided.{lt_irrefl, lt_trans, lt_total}

-- a path is before what extends it
pub ext_lt : {p q : Path} → Ext p q → Lt p q
ext_lt stop = stop
ext_lt (same e h) = same e (ext_lt h)

-- nothing else lies between a path and its extensions
pub ext_beyond : {p y : Path} (z : Path) → Ext p z → Lt p y → (Ext p y → ⊥) → Lt z y
ext_beyond [] x (less {y = c} {p = p} {q = q} h) n = elim x [ ]
ext_beyond [] x (same {y = y} {p = p} {q = q} d h) n = elim x [ ]
ext_beyond z x stop n = absurd (n stop)
ext_beyond (b ∷ z) (same e x) (less {y = c} h) n = less {x = b} {y = c} (omega arith)
ext_beyond (b ∷ z) (same e x) (same d h) n = same (sym e ∙ d) (ext_beyond z x h (λ k. n (same d k)))

pub ext_longer : {p q : Path} → Ext p q → length p < length q
ext_longer (stop {q = q}) = omega arith
ext_longer (same e h) = let k = ext_longer h in omega arith

pub ext_irrefl : (p : Path) → Ext p p → ⊥
ext_irrefl p h = lt_irrefl p (ext_lt h)

pub ext_nil : (p : Path) → Ext p [] → ⊥
ext_nil [] h = elim h [ ]
ext_nil (x ∷ p) h = elim h [ ]

pub ext_trans : {p q r : Path} → Ext p q → Ext q r → Ext p r
ext_trans stop (same e k) = stop
ext_trans (same e h) (same d k) = same (e ∙ d) (ext_trans h k)

-- an extension, as what is appended
pub ext_rest : {p q : Path} → Ext p q → (r : Path) × (q ≡ p ++ r)
ext_rest (stop {y = y} {q = q}) = (y ∷ q, refl)
ext_rest (same e h) = let r = ext_rest h in (r.0, cc)

pub child_ext : (p : Path) (i : ℕ) → Ext p (p · i)
child_ext [] i = stop
child_ext (x ∷ p) i = same refl (child_ext p i)

pub child_lt : (p : Path) {i j : ℕ} → i < j → Lt (p · i) (p · j)
child_lt [] h = less h
child_lt (x ∷ p) h = same refl (child_lt p h)

pub length_child : (p : Path) (i : ℕ) → length (p · i) ≡ suc (length p)
length_child p i = simp length-append (omega arith)

pub child_not_nil : (p : Path) (i : ℕ) → p · i ≡ [] → ⊥
child_not_nil p i e = let k = ap length e in omega (arith, length_child p i)

pub child_inj : (p q : Path) (i j : ℕ) → p · i ≡ q · j → (p ≡ q) × (i ≡ j)
child_inj [] [] i j e = (refl, cc)
child_inj [] (y ∷ q) i j e = let k = ap length e in absurd (omega (arith, length_child q j))
child_inj (x ∷ p) [] i j e = let k = ap length e in absurd (omega (arith, length_child p i))
child_inj (x ∷ p) (y ∷ q) i j e =
    let d : p · i ≡ q · j = cc in
    let r = child_inj p q i j d in
    (cc, r.1)

-- what a child of q extends is q or extended by q
pub ext_parent : (p q : Path) (i : ℕ) → Ext p (q · i) → Under p q
ext_parent [] [] i h = inl refl
ext_parent [] (y ∷ q) i h = inr stop
ext_parent (x ∷ p) [] i (same e h) = absurd (ext_nil p h)
ext_parent (x ∷ p) (y ∷ q) i (same e h) = go (ext_parent p q i h)
  where
    go : Under p q → Under (x ∷ p) (y ∷ q)
    go (inl d) = inl (cc)
    go (inr k) = inr (same e k)

pub under_child : (p q : Path) (i : ℕ) → Under p q → Ext p (q · i)
under_child p q i (inl e) = rw (← e) (child_ext q i)
under_child p q i (inr h) = ext_trans h (child_ext q i)

pub under_ext : {p x : Path} (q : Path) → Ext p q → Under q x → Ext p x
under_ext q h (inl e) = rw e h
under_ext q h (inr k) = ext_trans h k

-- an extension of p is a child of p or extends one
pub ext_branch : {p x : Path} → Ext p x → (i : ℕ) × Under (p · i) x
ext_branch (stop {y = i} {q = []}) = (i, inl refl)
ext_branch (stop {y = i} {q = j ∷ q}) = (i, inr (same refl stop))
ext_branch (same {x = a} {y = b} {p = p} {q = x} e h) = let r = ext_branch h in (r.0, go r.0 r.1)
  where
    go : (i : ℕ) → Under (p · i) x → Under ((a ∷ p) · i) (b ∷ x)
    go i (inl d) = inl (cc)
    go i (inr k) = inr (same e k)

-- branches stand in the order of their numbers
pub branch_lt : (p : Path) {i j : ℕ} {x y : Path} → i < j → Under (p · i) x → Under (p · j) y → Lt x y
branch_lt p {i} {j} {x} {y} h a b = left b
  where
    right : Under (p · i) x → Lt x (p · j)
    right (inl e) = rw e (child_lt p h)
    right (inr k) = ext_beyond x k (child_lt p h) (λ n. let m = ext_longer n in omega (arith, length_child p i, length_child p j))

    left : Under (p · j) y → Lt x y
    left (inl e) = rw e (right a)
    left (inr k) = lt_trans (right a) (ext_lt k)

-- what is in a branch and before a child is in a branch before
pub branch_below : (p x : Path) (i j : ℕ) → Under (p · j) x → Lt x (p · i) → j < i
branch_below p x i j u a = go (three j i)
  where
    same_branch : Under (p · i) x → ⊥
    same_branch (inl d) = lt_irrefl x (rw (← d) at a)
    same_branch (inr k) = lt_irrefl x (lt_trans a (ext_lt k))

    go : (j < i) ⊎ ((j ≡ i) ⊎ (i < j)) → j < i
    go (inl m) = m
    go (inr (inl e)) = absurd (same_branch (rw e at u))
    go (inr (inr m)) = absurd (lt_irrefl x (lt_trans a (branch_lt p m (inl refl) u)))

-- before a child of p: before p, or p, or below p
pub lt_child : (p x : Path) (i : ℕ) → Lt x (p · i) → Lt x p ⊎ Under p x
lt_child p x i h = go (lt_total x p) (dec_ext p x)
  where
    go : Lt x p ⊎ ((x ≡ p) ⊎ Lt p x) → Dec (Ext p x) → Lt x p ⊎ Under p x
    go (inl k) d = inl k
    go (inr (inl e)) d = inr (inl e)
    go (inr (inr k)) (yes m) = inr (inr m)
    go (inr (inr k)) (no n) = absurd (lt_irrefl x (lt_trans h (ext_beyond (p · i) (child_ext p i) k n)))

-- two paths with a common extension
pub ext_comparable : (p q x : Path) → Ext p x → Ext q x → Under p q ⊎ Under q p
ext_comparable (a ∷ p) (b ∷ q) [] h k = elim h [ ]
ext_comparable [] [] x h k = inl (inl refl)
ext_comparable [] (b ∷ q) x h k = inl (inr stop)
ext_comparable (a ∷ p) [] x h k = inr (inr stop)
ext_comparable (a ∷ p) (b ∷ q) (c ∷ x) (same e h) (same d k) = go (ext_comparable p q x h k)
  where
    go : Under p q ⊎ Under q p → Under (a ∷ p) (b ∷ q) ⊎ Under (b ∷ q) (a ∷ p)
    go (inl (inl f)) = inl (inl (cc))
    go (inl (inr m)) = inl (inr (same (e ∙ sym d) m))
    go (inr (inl f)) = inr (inl (cc))
    go (inr (inr m)) = inr (inr (same (d ∙ sym e) m))
