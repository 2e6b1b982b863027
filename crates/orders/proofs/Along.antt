-- A loop along the children of a node: what is pushed, and what is still to come.
use Prim.Native.Nat.{ℕ, zero, suc, ◌+◌, ◌-◌, ◌<◌, ◌≤◌}
use native.Mathlib.Omega.{arith}
use mathlib.Core.Logic.{◌≢◌}
use mathlib.Core.Path.{◌≡◌, refl, ap, sym, ◌∙◌}
use mathlib.Core.Bool.{Bool, true, false}
use mathlib.Core.List.{List, [], ◌∷◌, ◌++◌, flat_map, append_assoc, append-nil}
use lib.ListN.{length, length-append}
use Rattle.model.specs.declared.Node.{Node}
use Rattle.model.specs.Nodes.{node_at, direct_of, is_open, is_ongoing, children}
use Rattle.model.specs.Close.{closing_order}
use Rattle.model.specs.Update.{visit}
use Rattle.model.specs.declared.Step.TheVariants.{Text, Grow}
use Rattle.orders.specs.Orders.{children_between, First, followed_visits}

-- out is old with what v gives for the children before index low; it is to have that of all children
pub record Along {A : Type 0} (v : ℕ → List A) (q : Node → Bool) (ns : List Node) (p low limit : ℕ) (old out : List A) : Type 0 where
  pub ahead : out ++ flat_map v (children_between q ns p low limit) ≡ old ++ flat_map v (children q ns p)

module _ {A : Type 0} (v : ℕ → List A) (q : Node → Bool) (ns : List Node) (p : ℕ) where
  pub along_begins : (old : List A) → Along v q ns p 0 (direct_of ns p) old old
  unfolding children
  along_begins old = let e : direct_of ns p - 0 ≡ direct_of ns p = omega arith in record { ahead = rw e }

module _ {A : Type 0} {v : ℕ → List A} {q : Node → Bool} {ns : List Node} {p low limit : ℕ} {old out : List A} (g : Along v q ns p low limit old out) where
  module _ (k : ℕ) (f : First q ns p low limit k) where
    step : out ++ (v k ++ flat_map v (children_between q ns p ((node_at ns k).index + 1) limit)) ≡ old ++ flat_map v (children q ns p)
    unfolding flat_map
    step = rw f.rest at g.ahead

    pub along_room : length out + length (v k) ≤ length old + length (flat_map v (children q ns p))
    along_room = omega (arith, simp length-append at (ap length step))

    pub along_next : (out' : List A) → out' ≡ out ++ v k → Along v q ns p ((node_at ns k).index + 1) limit old out'
    along_next out' e = record { ahead = rw (e, append_assoc) step }

  pub along_ends : children_between q ns p low limit ≡ [] → out ≡ old ++ flat_map v (children q ns p)
  unfolding flat_map
  along_ends e = sym (append-nil out) ∙ (rw e at g.ahead)

module _ (ns : List Node) (k : ℕ) where
  -- closing: a node after those below it
  pub closing_none : (a : ℕ) → a ≡ 0 → closing_order ns a k ≡ []
  unfolding closing_order
  closing_none a e = rw e

  pub closing_some : (a : ℕ) → a ≢ 0 → closing_order ns a k ≡ flat_map (closing_order ns (a - 1)) (children is_open ns k) ++ (k ∷ [])
  unfolding closing_order
  closing_some zero n = absurd (n refl)
  closing_some (suc a) n = let e : suc a - 1 ≡ a = omega arith in rw e

  -- updating: a node before and after those that are visited below it
  pub visit_none : (a : ℕ) → a ≡ 0 → visit ns a k ≡ []
  unfolding visit
  visit_none a e = rw e

  pub visit_some : (a : ℕ) → a ≢ 0 → visit ns a k ≡ Text k ∷ (followed_visits ns (a - 1) k ++ (Grow k ∷ []))
  unfolding visit followed_visits
  visit_some zero n = absurd (n refl)
  visit_some (suc a) n = let e : suc a - 1 ≡ a = omega arith in rw e

  pub followed_none : (a : ℕ) → is_open (node_at ns k) ≡ false → followed_visits ns a k ≡ []
  unfolding followed_visits flat_map
  followed_none a e = rw e

  pub followed_some : (a : ℕ) → is_open (node_at ns k) ≡ true → followed_visits ns a k ≡ flat_map (visit ns a) (children is_ongoing ns k)
  unfolding followed_visits
  followed_some a e = rw e

-- the index after one that is below a count
pub next_fits : (x n l : ℕ) → x < n → n < l → x + 1 < l
next_fits x n l h k = omega arith
