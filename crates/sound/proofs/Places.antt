-- The test of the places, one after another.
use Prim.Native.Nat.{ℕ, zero, suc, ◌+◌, ◌<◌, ◌≤◌}
use native.Mathlib.Omega.{arith}
use native.Mathlib.Numerals.{add-one}
use mathlib.Core.Path.{◌≡◌, refl, sym, ap, ap₂, ◌∙◌}
use mathlib.Core.Logic.{◌≢◌}
use mathlib.Core.Bool.{Bool, true, false, cond, ◌&&◌}
use mathlib.Core.List.{List, [], ◌∷◌}
use lib.ListN.{length}
use lib.Dec.{eqb, ltb}
use Rattle.std.specs.List.{list_all, enumerate_from}
use borrow.Author.Tests.{ltb-false, ne_eqb}
use Rattle.model.specs.declared.Node.{Node}
use Rattle.model.specs.Nodes.{node_at, used}
use Rattle.model.specs.Sound.{capture_ok, blank}
use Rattle.nodes.proofs.Tests.{fail_r}
use Rattle.sound.specs.Tests.{all_from, seated, place_ok, places_ok}
use Rattle.model.proofs.Search.{node_past}

-- one place
module _ (n p : Node) where
  pub place_capture : (k : ℕ) → k ≡ 0 → capture_ok n ≡ place_ok k n p
  unfolding place_ok
  place_capture zero e = refl
  place_capture (suc k) e = absurd (omega arith)

  pub place_used : (k : ℕ) → k ≢ 0 → used n ≡ true → seated n p ≡ place_ok k n p
  unfolding place_ok
  place_used zero d u = absurd (d refl)
  place_used (suc k) d u = rw u

  pub place_unused : (k : ℕ) → k ≢ 0 → used n ≡ false → blank n ≡ place_ok k n p
  unfolding place_ok
  place_unused zero d u = absurd (d refl)
  place_unused (suc k) d u = rw u

pub ruleset places = (place_capture, place_used, place_unused)

-- a parent past the places is none
six : (a b c d e f : Bool) → a ≡ false → (a && b && c && d && e && f) ≡ false
six a b c d e f h = rw h

third : (a b c d e : Bool) → c ≡ false → (a && b && c && d && e) ≡ false
third true true c d e h = rw h
third true false c d e h = refl
third false b c d e h = refl

pub place_lost : (ns : List Node) (k : ℕ) (n : Node) → 0 < length ns → length ns ≤ n.parent → place_ok k n (node_at ns n.parent) ≡ false
unfolding place_ok capture_ok
place_lost ns zero n l h = third n.«open» (eqb n.entry 0) (eqb n.parent 0) _ _ (ne_eqb n.parent 0 (λ e. omega arith))
place_lost ns (suc k) n l h = go (used n)
  where
    go : (b : Bool) → cond b (seated n (node_at ns n.parent)) (blank n) ≡ false
    go true = ap (seated n) (node_past ns n.parent h) ∙ fail_r (ltb 0 n.entry) _ refl
    go false = six (eqb n.parent 0) _ _ _ _ _ (ne_eqb n.parent 0 (λ e. omega arith))

-- the places, each with its number
numbered : (t : ℕ → Node → Bool) (q : ℕ × Node → Bool) → ((k : ℕ) (n : Node) → q (k, n) ≡ t k n) → (k : ℕ) (ns : List Node) → list_all q (enumerate_from k ns) ≡ all_from t k ns
unfolding all_from
numbered t q e k [] = refl
numbered t q e k (n ∷ ns) = ap₂ (λ (a b : Bool). a && b) (e k n) (numbered t q e (k + 1) ns ∙ ap (λ (x : ℕ). all_from t x ns) (add-one k))

abbrev pub place_numbered : List Node → ℕ × Node → Bool
place_numbered ns p = ltb p.1.parent 256 && place_ok p.0 p.1 (node_at ns p.1.parent)

pub places_numbered : (ns : List Node) → length ns ≡ 256 → list_all (place_numbered ns) (enumerate_from 0 ns) ≡ places_ok ns
unfolding places_ok
places_numbered ns size = numbered (λ k n. place_ok k n (node_at ns n.parent)) (place_numbered ns) (λ k n. go k n (ltb n.parent 256) refl) 0 ns
  where
    go : (k : ℕ) (n : Node) (b : Bool) → ltb n.parent 256 ≡ b → (b && place_ok k n (node_at ns n.parent)) ≡ place_ok k n (node_at ns n.parent)
    go k n true e = refl
    go k n false e = sym (place_lost ns k n (omega arith) (omega (arith, ltb-false n.parent 256 e)))
