-- Well-formed nodes: each stands rightly with its parent, no two are twins, and each chain reaches the capture.
use Prim.Native.Nat.{ℕ, zero, suc, ◌+◌, ◌<◌}
use native.Mathlib.Omega.{arith}
use mathlib.Core.Path.{◌≡◌, refl, sym, ap, ◌∙◌}
use mathlib.Core.Logic.{◌⊎◌, inl, inr, ⊎_elim}
use mathlib.Core.Bool.{Bool, true, false, cond, not, ◌&&◌, ◌||◌}
use mathlib.Core.List.{List, [], ◌∷◌}
use lib.ListN.{length, drop}
use lib.Dec.{eqb, ltb}
use borrow.Author.Tests.{eq-eqb, ltb-true, ltb-false}
use Rattle.model.specs.declared.Node.{Node}
use Rattle.model.specs.Places.{longest_chain}
use Rattle.model.specs.Nodes.{node_at, direct_of, is_open, used, stands_at, child_by, child}
use Rattle.model.specs.Sound.{capture_ok, blank, reaches, used_ok, node_ok, nodes_ok}
use Rattle.nodes.proofs.Tests.{never, or_right, parted}
use Rattle.sound.specs.Tests.{all_from, seated, place_ok, places_ok, is_twin, any_twin, has_twins}
use Rattle.lists.proofs.Bools.{both, and, differ}
use Rattle.model.proofs.Search.{seek_is, node_past, used_inside}
use Rattle.tree.specs.WellFormed.{Used, Opens, up, ix, WellFormed}

-- a test of every node
module _ (t : ℕ → Node → Bool) where
  all_at : (k : ℕ) (ms : List Node) → all_from t k ms ≡ true → (i : ℕ) → i < length ms → t (k + i) (node_at ms i) ≡ true
  unfolding all_from
  all_at k [] e i h = absurd (omega arith)
  all_at k (m ∷ ms) e zero h = let z : k + 0 ≡ k = omega arith in rw z (both (t k m) (all_from t (suc k) ms) e).0
  all_at k (m ∷ ms) e (suc i) h = let z : k + suc i ≡ suc k + i = omega arith in rw z (all_at (suc k) ms (both (t k m) (all_from t (suc k) ms) e).1 i (omega arith))

  all_made : (k : ℕ) (ms : List Node) → ((i : ℕ) → i < length ms → t (k + i) (node_at ms i) ≡ true) → all_from t k ms ≡ true
  unfolding all_from
  all_made k [] h = refl
  all_made k (m ∷ ms) h =
      let z : k + 0 ≡ k = omega arith in
      and (rw z at (h 0 (omega arith))) (all_made (suc k) ms (λ i l. let z : suc k + i ≡ k + suc i = omega arith in rw z (h (suc i) (omega arith))))

  pub every : (ns : List Node) → all_from t 0 ns ≡ true → (k : ℕ) → k < length ns → t k (node_at ns k) ≡ true
  every ns e k l = let z : 0 + k ≡ k = omega arith in rw z at (all_at 0 ns e k l)

  pub every_made : (ns : List Node) → ((k : ℕ) → k < length ns → t k (node_at ns k) ≡ true) → all_from t 0 ns ≡ true
  every_made ns h = all_made 0 ns (λ k l. let z : 0 + k ≡ k = omega arith in rw z (h k l))

nodes_all : (ns : List Node) (k : ℕ) (ms : List Node) → nodes_ok ns k ms ≡ all_from (node_ok ns) k ms
unfolding nodes_ok all_from
nodes_all ns k [] = refl
nodes_all ns k (m ∷ ms) = ap (λ (b : Bool). node_ok ns k m && b) (nodes_all ns (suc k) ms)

-- twins, by their numbers
or_cases : (x y : Bool) → (x || y) ≡ true → (x ≡ true) ⊎ (y ≡ true)
or_cases true y e = inl refl
or_cases false y e = inr e

abbrev TwinAt : List Node → ℕ → ℕ → Type 0
TwinAt ns i j = (i < j) × (j < length ns) × (is_twin (node_at ns i) (node_at ns j) ≡ true)

any_found : (a : Node) (ns : List Node) → any_twin a ns ≡ true → (j : ℕ) × ((j < length ns) × (is_twin a (node_at ns j) ≡ true))
unfolding any_twin
any_found a [] e = never (sym e)
any_found a (b ∷ bs) e =
    ⊎_elim
    (λ h. (0, (omega arith, h)))
    (λ h. let r = any_found a bs h in (suc r.0, (omega (arith, r.1.0), r.1.1)))
    (or_cases (is_twin a b) (any_twin a bs) e)

twins_found : (ns : List Node) → has_twins ns ≡ true → (i : ℕ) × ((j : ℕ) × TwinAt ns i j)
unfolding has_twins
twins_found [] e = never (sym e)
twins_found (a ∷ ns) e =
    ⊎_elim
    (λ h. let r = any_found a ns h in (0, (suc r.0, (omega arith, omega (arith, r.1.0), r.1.1))))
    (λ h. let r = twins_found ns h in (suc r.0, (suc r.1.0, (omega (arith, r.1.1.0), omega (arith, r.1.1.1), r.1.1.2))))
    (or_cases (any_twin a ns) (has_twins ns) e)

any_finds : (a : Node) (ns : List Node) (j : ℕ) → j < length ns → is_twin a (node_at ns j) ≡ true → any_twin a ns ≡ true
unfolding any_twin
any_finds a [] j lt e = absurd (omega arith)
any_finds a (b ∷ bs) zero lt e = rw e
any_finds a (b ∷ bs) (suc j) lt e = or_right (is_twin a b) (any_twin a bs) (any_finds a bs j (omega arith) e)

twins_find : (ns : List Node) (i j : ℕ) → TwinAt ns i j → has_twins ns ≡ true
unfolding has_twins
twins_find [] i j t = absurd (omega arith)
twins_find (a ∷ ns) zero zero t = absurd (omega arith)
twins_find (a ∷ ns) zero (suc j) t = rw (any_finds a ns j (omega arith) t.2)
twins_find (a ∷ ns) (suc i) zero t = absurd (omega arith)
twins_find (a ∷ ns) (suc i) (suc j) t = or_right (any_twin a ns) (has_twins ns) (twins_find ns i j (omega arith, omega arith, t.2))

module _ (ns : List Node) (w : WellFormed ns) where
  twin_one : (i j : ℕ) → is_twin (node_at ns (suc i)) (node_at ns (suc j)) ≡ true → i ≡ j
  twin_one i j e =
      let a = node_at ns (suc i) in
      let b = node_at ns (suc j) in
      let u : used a ≡ true = search parted in
      let v : used b ≡ true = search parted in
      let p : b.parent ≡ a.parent = search parted in
      let x : b.index ≡ a.index = search parted in
      let z : suc j ≡ suc i = w.twin j i v u p x in
      omega arith

pub no_twins : (ns : List Node) → WellFormed ns → has_twins (drop 1 ns) ≡ false
unfolding has_twins
no_twins [] w = refl
no_twins (m ∷ ms) w = go (has_twins ms) refl
  where
    go : (b : Bool) → has_twins ms ≡ b → b ≡ false
    go false e = refl
    go true e =
        let r = twins_found ms e in
        absurd (omega (arith, r.1.1.0, twin_one (m ∷ ms) w r.0 r.1.0 r.1.1.2))

first_one : (ns : List Node) → has_twins (drop 1 ns) ≡ false → (k : ℕ) → Used ns (suc k) → child ns (up ns (suc k)) (ix ns (suc k)) ≡ suc k
unfolding child_by
first_one [] h k u = never (sym u)
first_one (m ∷ ms) h k u =
    let n = node_at ms k in
    let q : Node → Bool = λ a. used a && stands_at n.parent n.index a in
    seek_is q (m ∷ ms) k (used_inside (m ∷ ms) (suc k) u) (and u (and (eq-eqb n.parent n.parent refl) (eq-eqb n.index n.index refl))) (λ i b. go i b (q (node_at ms i)) refl)
  where
    go : (i : ℕ) → i < k → (b : Bool) → (used (node_at ms i) && stands_at (node_at ms k).parent (node_at ms k).index (node_at ms i)) ≡ b → b ≡ false
    go i l false e = refl
    go i l true e =
        let a = node_at ms i in
        let n = node_at ms k in
        let v : used a ≡ true = search parted in
        let p : a.parent ≡ n.parent = search parted in
        let x : a.index ≡ n.index = search parted in
        let f = used_inside (m ∷ ms) (suc k) u in
        absurd (differ (twins_find ms i k (l, omega arith, and v (and u (and (eq-eqb _ _ (sym p)) (eq-eqb _ _ (sym x)))))) h)

-- one node
reorder : (a b c d e f : Bool) → (a && b && c && d && e && f) ≡ ((a && (b && (d && f))) && (c && e))
reorder false b c d e f = refl
reorder true false c d e f = refl
reorder true true false false e f = refl
reorder true true true false e f = refl
reorder true true false true e false = refl
reorder true true false true e true = refl
reorder true true true true false false = refl
reorder true true true true false true = refl
reorder true true true true true false = refl
reorder true true true true true true = refl

used_split : (ns : List Node) (k : ℕ) (n : Node) → used_ok ns k n ≡ (seated n (node_at ns n.parent) && (reaches ns longest_chain k && eqb (child ns n.parent n.index) k))
unfolding used_ok
used_split ns k n =
    reorder (ltb 0 n.entry) (is_open (node_at ns n.parent)) (reaches ns longest_chain k) (ltb n.index (node_at ns n.parent).direct)
    (eqb (child ns n.parent n.index) k) (not (is_open n) || ltb 0 n.direct)

node_place : (ns : List Node) (k : ℕ) (n : Node) → node_ok ns k n ≡ true → place_ok k n (node_at ns n.parent) ≡ true
unfolding node_ok place_ok
node_place ns zero n t = t
node_place ns (suc k) n t = go (used n) t
  where
    go : (u : Bool) → cond u (used_ok ns (suc k) n) (blank n) ≡ true → cond u (seated n (node_at ns n.parent)) (blank n) ≡ true
    go true e = (both (seated n (node_at ns n.parent)) _ (sym (used_split ns (suc k) n) ∙ e)).0
    go false e = e

place_node : (ns : List Node) (k : ℕ) (n : Node) → place_ok k n (node_at ns n.parent) ≡ true
    → ((j : ℕ) → k ≡ suc j → used n ≡ true → (reaches ns longest_chain (suc j) ≡ true) × (child ns n.parent n.index ≡ suc j)) → node_ok ns k n ≡ true
unfolding node_ok place_ok
place_node ns zero n t h = t
place_node ns (suc k) n t h = go (used n) t (h k refl)
  where
    go : (u : Bool) → cond u (seated n (node_at ns n.parent)) (blank n) ≡ true
        → (u ≡ true → (reaches ns longest_chain (suc k) ≡ true) × (child ns n.parent n.index ≡ suc k)) → cond u (used_ok ns (suc k) n) (blank n) ≡ true
    go true e a = used_split ns (suc k) n ∙ and e (and (a refl).0 (eq-eqb _ _ (a refl).1))
    go false e a = e

pub nodes_places : (ns : List Node) → nodes_ok ns 0 ns ≡ true → places_ok ns ≡ true
unfolding places_ok
nodes_places ns t = every_made _ ns (λ k l. node_place ns k (node_at ns k) (every (node_ok ns) ns (sym (nodes_all ns 0 ns) ∙ t) k l))

-- what a right place tells
module _ (ns : List Node) (t : places_ok ns ≡ true) where
  at : (k : ℕ) → k < length ns → place_ok k (node_at ns k) (node_at ns (up ns k)) ≡ true
  unfolding places_ok
  at k l = every _ ns t k l

  seat : (k : ℕ) → Used ns (suc k) → seated (node_at ns (suc k)) (node_at ns (up ns (suc k))) ≡ true
  unfolding place_ok
  seat k u = rw u at (at (suc k) (used_inside ns (suc k) u))

  pub parent_open : (k : ℕ) → Used ns (suc k) → Opens ns (up ns (suc k))
  parent_open k u = let e = seat k u in search parted

  pub parent_filled : (k : ℕ) → Used ns (suc k) → 0 < direct_of ns (up ns (suc k))
  parent_filled k u =
      let e = seat k u in
      let l : ix ns (suc k) < direct_of ns (up ns (suc k)) = search parted in
      omega arith

  pub parent_low : 0 < length ns → (k : ℕ) → up ns k < length ns
  unfolding place_ok capture_ok
  parent_low h zero = let e = at 0 h in let z : up ns 0 ≡ 0 = search parted in omega arith
  parent_low h (suc k) = go (used (node_at ns (suc k))) refl
    where
      low : suc k < length ns → used (node_at ns (suc k)) ≡ false → up ns (suc k) < length ns
      low l u = let e : blank (node_at ns (suc k)) ≡ true = rw u at (at (suc k) l) in let z : up ns (suc k) ≡ 0 = search parted in omega arith

      inside : (b : Bool) → ltb (suc k) (length ns) ≡ b → used (node_at ns (suc k)) ≡ false → up ns (suc k) < length ns
      inside true q u = low (ltb-true _ _ q) u
      inside false q u = let z : up ns (suc k) ≡ 0 = ap (λ (n : Node). n.parent) (node_past ns (suc k) (ltb-false _ _ q)) in omega arith

      go : (b : Bool) → used (node_at ns (suc k)) ≡ b → up ns (suc k) < length ns
      go true u = used_inside ns (up ns (suc k)) (rw (parent_open k u))
      go false u = inside (ltb (suc k) (length ns)) refl u

pub places_nodes : (ns : List Node) → has_twins (drop 1 ns) ≡ false → places_ok ns ≡ true → ((k : ℕ) → Used ns (suc k) → reaches ns longest_chain (suc k) ≡ true) → nodes_ok ns 0 ns ≡ true
places_nodes ns none t chains = nodes_all ns 0 ns ∙ every_made (node_ok ns) ns (λ k l. place_node ns k (node_at ns k) (at ns t k l) (go k))
  where
    go : (k j : ℕ) → k ≡ suc j → Used ns k → (reaches ns longest_chain (suc j) ≡ true) × (child ns (up ns k) (ix ns k) ≡ suc j)
    go zero j e u = absurd (omega arith)
    go (suc k) j e u = let z : k ≡ j = omega arith in rw (← z) (chains k u, first_one ns none k u)
