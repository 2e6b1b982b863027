-- The nodes on the way up from a node to node 0, by numbers and by paths.
use mathlib.Core.Path.{◌≡◌, refl, sym, ◌∙◌, ap}
use mathlib.Core.Logic.{◌⊎◌, inl, inr, ◌≢◌}
use mathlib.Core.Bool.{true}
use mathlib.Core.List.{List, [], ◌∷◌}
use Prim.Native.Nat.{ℕ, zero, suc}
use native.Mathlib.Omega.{arith}
use lib.ListN.{length}
use Rattle.paths.specs.Order.{Path, stop, Under, dec_under}
use Rattle.paths.proofs.Order.{ext_longer, ext_nil, ext_parent, under_child, length_child}
use Rattle.model.specs.declared.Node.{Node}
use Rattle.model.specs.Places.{depth}
use Rattle.model.specs.Sound.{reaches}
use Rattle.tree.specs.WellFormed.{Used, up, ix, WellFormed}
use Rattle.tree.specs.Paths.{to, Over, here, step}
use Rattle.tree.proofs.Find.{reach_up, reach_never, reach_deep, to_up, to_zero, to_inj, above_used}

module _ (ns : List Node) (w : WellFormed ns) where
  pub over_under : (j m : ℕ) → Used ns m → Over ns j m → Under (to ns j) (to ns m)
  over_under j m u (here e) = inl (ap (to ns) e)
  over_under j m u (step {k = k} o) = inr (rw (to_up ns w k u) (under_child (to ns j) (to ns (up ns (suc k))) (ix ns (suc k)) (over_under j (up ns (suc k)) (above_used ns w k u) o)))

  from_under : (f m j : ℕ) → reaches ns f m ≡ true → Used ns m → Used ns j → Under (to ns j) (to ns m) → Over ns j m
  from_under zero zero j e u v (inl d) = here (to_inj ns w 0 j u v d)
  from_under zero zero j e u v (inr h) = absurd (ext_nil (to ns j) (rw (to_zero ns w) at h))
  from_under (suc f) zero j e u v (inl d) = here (to_inj ns w 0 j u v d)
  from_under (suc f) zero j e u v (inr h) = absurd (ext_nil (to ns j) (rw (to_zero ns w) at h))
  from_under zero (suc m) j e u v h = absurd (reach_never ns m e)
  from_under (suc f) (suc m) j e u v (inl d) = here (to_inj ns w (suc m) j u v d)
  from_under (suc f) (suc m) j e u v (inr h) =
      step (from_under f (up ns (suc m)) j (reach_up ns f m e) (above_used ns w m u) v (ext_parent (to ns j) (to ns (up ns (suc m))) (ix ns (suc m)) (rw (to_up ns w m u) at h)))

  pub under_over : (j m : ℕ) → Used ns m → Used ns j → Under (to ns j) (to ns m) → Over ns j m
  under_over j m u v h = from_under depth m j (reach_deep ns w m u) u v h

  pub dec_over : (j m : ℕ) → Used ns m → Used ns j → Dec (Over ns j m)
  dec_over j m u v = go (dec_under (to ns j) (to ns m))
    where
      go : Dec (Under (to ns j) (to ns m)) → Dec (Over ns j m)
      go (yes h) = yes (under_over j m u v h)
      go (no n) = no (λ o. n (over_under j m u o))

  -- for a climb, one node at a time: what is over a node is the node and what is over its ext_parent, and the node is not over its ext_parent
  pub over_cases : (j k : ℕ) → Over ns j (suc k) → (suc k ≡ j) ⊎ Over ns j (up ns (suc k))
  over_cases j k (here e) = inl e
  over_cases j k (step o) = inr o

  pub over_zero : (j : ℕ) → Over ns j 0 → j ≡ 0
  over_zero j (here e) = sym e

  pub over_up : (k : ℕ) → Used ns (suc k) → Over ns (suc k) (up ns (suc k)) → ⊥
  over_up k u o = go (over_under (suc k) (up ns (suc k)) (above_used ns w k u) o)
    where
      e : length (to ns (suc k)) ≡ suc (length (to ns (up ns (suc k))))
      e = ap length (to_up ns w k u) ∙ length_child (to ns (up ns (suc k))) (ix ns (suc k))

      go : Under (to ns (suc k)) (to ns (up ns (suc k))) → ⊥
      go (inl d) = omega (arith, e, ap length d)
      go (inr h) = omega (arith, e, ext_longer h)

  -- no node is above itself, nor are two each above the other
  pub up≢ : (k : ℕ) → Used ns (suc k) → up ns (suc k) ≢ suc k
  up≢ k u e = over_up k u (here e)

  pub up_up≢ : (j k : ℕ) → Used ns (suc k) → up ns (suc k) ≡ suc j → up ns (suc j) ≢ suc k
  up_up≢ j k u e d = over_up k u (rw e (step (here d)))

  pub root_over : (m : ℕ) → Used ns m → Used ns 0 → Over ns 0 m
  root_over m u z = under_over 0 m u z (rw (to_zero ns w) (all (to ns m)))
    where
      all : (x : Path) → Under [] x
      all [] = inl refl
      all (i ∷ x) = inr stop
