-- Chains of parents, and from a path to its node and back.
use mathlib.Core.Path.{◌≡◌, refl, sym, ◌∙◌, ap}
use mathlib.Core.Logic.{◌⊎◌, inl, inr, ◌≢◌}
use mathlib.Core.Bool.{true, false≢true}
use mathlib.Core.List.{List, [], ◌∷◌, ◌++◌, append-nil}
use Prim.Native.Nat.{ℕ, zero, suc, ◌+◌, ◌-◌, ◌≤◌, ◌<◌}
use native.Mathlib.Omega.{arith}
use native.Mathlib.Nat.{zero-add, suc-add}
use lib.ListN.{length}
use lib.Seq.{append_snoc}
use lib.Dec.{eqb-suc-zero}
use Rattle.lists.proofs.Bools.{differ}
use Rattle.lists.proofs.Pigeonhole.{pigeonhole}
use Rattle.paths.specs.Order.{Path, ◌·◌}
use Rattle.paths.specs.Shapes.{Open, Rooted}
use Rattle.paths.proofs.Order.{length_child}
use Rattle.model.specs.declared.Node.{Node}
use Rattle.model.specs.Places.{depth, longest_chain}
use Rattle.model.specs.Nodes.{no_node, node_at, used, is_open, child}
use Rattle.model.specs.Rows.{chain}
use Rattle.model.specs.Sound.{reaches}
use Rattle.model.proofs.Search.{child_found, node_past}
use Rattle.tree.specs.WellFormed.{Used, up, ix, WellFormed}
use Rattle.tree.specs.Paths.{lost, or_lost, next, find_from, find, shape, to}
use Rattle.tree.proofs.WellFormed.{open_used, zero_open, used_small, child_is}

-- up

pub reach_zero : (ns : List Node) (f : ℕ) → reaches ns f 0 ≡ true
unfolding reaches
reach_zero ns zero = refl
reach_zero ns (suc f) = refl

pub reach_up : (ns : List Node) (f k : ℕ) → reaches ns (suc f) (suc k) ≡ true → reaches ns f (up ns (suc k)) ≡ true
unfolding reaches
reach_up ns f k e = rw (eqb-suc-zero k) at e

pub reach_down : (ns : List Node) (f k : ℕ) → reaches ns f (up ns (suc k)) ≡ true → reaches ns (suc f) (suc k) ≡ true
unfolding reaches
reach_down ns f k e = rw (eqb-suc-zero k) e

pub reach_never : (ns : List Node) (k : ℕ) → reaches ns 0 (suc k) ≡ true → ⊥
unfolding reaches
reach_never ns k e = differ e (eqb-suc-zero k)

reach_more : (ns : List Node) (f k : ℕ) → reaches ns f k ≡ true → reaches ns (suc f) k ≡ true
reach_more ns zero zero e = reach_zero ns 1
reach_more ns (suc f) zero e = reach_zero ns (suc (suc f))
reach_more ns zero (suc k) e = absurd (reach_never ns k e)
reach_more ns (suc f) (suc k) e = reach_down ns (suc f) k (reach_more ns f (up ns (suc k)) (reach_up ns f k e))

pub chain_zero : (ns : List Node) (f : ℕ) → chain ns f 0 ≡ []
unfolding chain
chain_zero ns zero = refl
chain_zero ns (suc f) = refl

pub chain_none : (ns : List Node) (k : ℕ) → chain ns 0 k ≡ []
unfolding chain
chain_none ns k = refl

pub chain_suc : (ns : List Node) (f k : ℕ) → chain ns (suc f) (suc k) ≡ chain ns f (up ns (suc k)) · ix ns (suc k)
unfolding chain
chain_suc ns f k = refl

chain_more : (ns : List Node) (f k : ℕ) → reaches ns f k ≡ true → chain ns (suc f) k ≡ chain ns f k
chain_more ns zero zero e = chain_zero ns 1 ∙ sym (chain_zero ns 0)
chain_more ns (suc f) zero e = chain_zero ns (suc (suc f)) ∙ sym (chain_zero ns (suc f))
chain_more ns zero (suc k) e = absurd (reach_never ns k e)
chain_more ns (suc f) (suc k) e = chain_suc ns (suc f) k ∙ ap (◌· ix ns (suc k)) (chain_more ns f (up ns (suc k)) (reach_up ns f k e)) ∙ sym (chain_suc ns f k)

chain_up : (ns : List Node) (f k : ℕ) → reaches ns (suc f) (suc k) ≡ true → chain ns (suc f) (suc k) ≡ chain ns (suc f) (up ns (suc k)) · ix ns (suc k)
chain_up ns f k e = chain_suc ns f k ∙ ap (◌· ix ns (suc k)) (sym (chain_more ns f (up ns (suc k)) (reach_up ns f k e)))

pub chain_length : (ns : List Node) (f g k : ℕ) → reaches ns f k ≡ true → length (chain ns g k) ≤ f
chain_length ns zero g zero e = rw (chain_zero ns g) (omega arith)
chain_length ns (suc f) g zero e = rw (chain_zero ns g) (omega arith)
chain_length ns zero g (suc k) e = absurd (reach_never ns k e)
chain_length ns (suc f) zero (suc k) e = rw (chain_none ns (suc k)) (omega arith)
chain_length ns (suc f) (suc g) (suc k) e =
    rw (chain_suc ns g k) (omega (arith, length_child (chain ns g (up ns (suc k))) (ix ns (suc k)), chain_length ns f g (up ns (suc k)) (reach_up ns f k e)))

-- down

pub find_child : (ns : List Node) (k : ℕ) (p : Path) (i : ℕ) → find_from ns k (p · i) ≡ next ns (find_from ns k p) i
unfolding find_from
find_child ns k [] i = refl
find_child ns k (j ∷ p) i = find_child ns (next ns k j) p i

find_nil : (ns : List Node) → find ns [] ≡ 0
unfolding find_from
find_nil ns = refl

module _ (ns : List Node) (w : WellFormed ns) where
  pub lost_node : node_at ns lost ≡ no_node
  lost_node = node_past ns lost (omega arith)

  pub lost_used : Used ns lost → ⊥
  lost_used u = let h = used_small ns w lost u in omega arith

  pub reach_all : (k : ℕ) → Used ns k → reaches ns longest_chain k ≡ true
  reach_all zero u = reach_zero ns longest_chain
  reach_all (suc k) u = (w.placed k u).reach

  pub reach_deep : (k : ℕ) → Used ns k → reaches ns depth k ≡ true
  reach_deep k u = reach_more ns longest_chain k (reach_all k u)

  pub to_zero : to ns 0 ≡ []
  to_zero = chain_zero ns depth

  pub to_up : (k : ℕ) → Used ns (suc k) → to ns (suc k) ≡ to ns (up ns (suc k)) · ix ns (suc k)
  to_up k u = chain_up ns longest_chain k (reach_deep (suc k) u)

  pub above_used : (k : ℕ) → Used ns (suc k) → Used ns (up ns (suc k))
  above_used k u = open_used ns (up ns (suc k)) (w.placed k u).above

  find_chain : (f k : ℕ) → reaches ns f k ≡ true → Used ns k → find ns (chain ns f k) ≡ k
  find_chain zero zero e u = rw (chain_zero ns 0) (find_nil ns)
  find_chain (suc f) zero e u = rw (chain_zero ns (suc f)) (find_nil ns)
  find_chain zero (suc k) e u = absurd (reach_never ns k e)
  find_chain (suc f) (suc k) e u =
      let ih = find_chain f (up ns (suc k)) (reach_up ns f k e) (above_used k u) in
      rw (chain_suc ns f k, find_child ns 0 (chain ns f (up ns (suc k))) (ix ns (suc k)), ih, child_is ns w k u)

  -- a node is found at its path
  pub find_to : (k : ℕ) → Used ns k → find ns (to ns k) ≡ k
  find_to k u = find_chain depth k (reach_deep k u) u

  lost_next : (i : ℕ) → next ns lost i ≡ lost
  lost_next i = go (child ns lost i) refl
    where
      go : (j : ℕ) → child ns lost i ≡ j → or_lost (child ns lost i) ≡ lost
      go zero e = rw e
      go (suc j) e =
          let r = child_found used ns lost i j e in
          let d = r.1 in
          absurd (lost_used (rw d at (above_used j r.0)))

  lost_find : (p : Path) → find_from ns lost p ≡ lost
  unfolding find_from
  lost_find [] = refl
  lost_find (i ∷ p) = rw lost_next (lost_find p)

  -- a path leads to a node or to none
  find_from_cases : (k : ℕ) (p : Path) → Used ns k → Used ns (find_from ns k p) ⊎ (find_from ns k p ≡ lost)
  unfolding find_from
  find_from_cases k [] u = inl u
  find_from_cases k (i ∷ p) u = go (child ns k i) refl (λ j v. find_from_cases (suc j) p v)
    where
      go :
          (j : ℕ)
          → child ns k i ≡ j
          → ((j : ℕ) → Used ns (suc j) → Used ns (find_from ns (suc j) p) ⊎ (find_from ns (suc j) p ≡ lost))
          → Used ns (find_from ns (or_lost (child ns k i)) p) ⊎ (find_from ns (or_lost (child ns k i)) p ≡ lost)
      go zero e ih = inr (rw e (lost_find p))
      go (suc j) e ih = rw e (ih j (child_found used ns k i j e).0)

  to_from : (k : ℕ) (p : Path) → Used ns (find_from ns k p) → to ns (find_from ns k p) ≡ to ns k ++ p
  unfolding find_from
  to_from k [] u = sym (append-nil (to ns k))
  to_from k (i ∷ p) u = go (child ns k i) refl u (λ j v. to_from (suc j) p v)
    where
      go :
          (j : ℕ)
          → child ns k i ≡ j
          → Used ns (find_from ns (or_lost (child ns k i)) p)
          → ((j : ℕ) → Used ns (find_from ns (suc j) p) → to ns (find_from ns (suc j) p) ≡ to ns (suc j) ++ p)
          → to ns (find_from ns (or_lost (child ns k i)) p) ≡ to ns k ++ i ∷ p
      go zero e v ih = absurd (lost_used (rw (e, lost_find p) at v))
      go (suc j) e v ih =
          let r = child_found used ns k i j e in
          let d : up ns (suc j) ≡ k = r.1 in
          let f : ix ns (suc j) ≡ i = r.2 in
          let g : to ns (suc j) ≡ to ns k · i = to_up j r.0 ∙ rw (d, f) in
          rw e (ih j (rw e at v) ∙ rw g (append_snoc (to ns k) i p))

  -- and the path of the node found is the path
  pub to_find : (p : Path) → Used ns (find ns p) → to ns (find ns p) ≡ p
  to_find p u = to_from 0 p u ∙ rw to_zero

  pub find_cases : (p : Path) → Used ns (find ns p) ⊎ (find ns p ≡ lost)
  find_cases p = find_from_cases 0 p (open_used ns 0 (zero_open ns w))

  -- two nodes with one path are one
  pub to_inj : (j k : ℕ) → Used ns j → Used ns k → to ns j ≡ to ns k → j ≡ k
  to_inj j k u v e = sym (find_to j u) ∙ rw e (find_to k v)

  -- an open path's child that is open
  step_open_lem : (p : Path) (i : ℕ) → Open (shape ns) (p · i) → Open (shape ns) p × (i < (shape ns).count p)
  step_open_lem p i o = go (child ns (find ns p) i) refl
    where
      go : (j : ℕ) → child ns (find ns p) i ≡ j → Open (shape ns) p × (i < (shape ns).count p)
      go zero e = absurd (false≢true (sym (ap is_open lost_node) ∙ rw (find_child, e) at o))
      go (suc j) e =
          let r = child_found used ns (find ns p) i j e in
          let d = r.1 in
          let f = r.2 in
          let s = w.placed j r.0 in
          (rw d at s.above, rw (d, f) at s.inside)

  -- the tree is rooted, and no deeper than there are nodes besides the capture
  pub rooted : Rooted (shape ns)
  rooted = record { root = rw find_nil (zero_open ns w); step = step_open_lem }

  pub open_length : (p : Path) → Open (shape ns) p → length p ≤ longest_chain
  open_length p o =
      let u = open_used ns (find ns p) o in
      rw (to_find p u) at (chain_length ns longest_chain depth (find ns p) (reach_all (find ns p) u))

-- a chain does not repeat a node

-- d steps up
abbrev iter : (ℕ → ℕ) → ℕ → ℕ → ℕ
iter g k zero = k
iter g k (suc d) = iter g (g k) d

iter_add : (g : ℕ → ℕ) (i m k : ℕ) → iter g k (i + m) ≡ iter g (iter g k i) m
iter_add g zero m k = rw zero-add
iter_add g (suc i) m k = rw suc-add (iter_add g i m (g k))

module _ (ns : List Node) where
  -- the first step at which the chain is at 0
  first_zero : (f k : ℕ) → reaches ns f k ≡ true → (d : ℕ) × (iter (up ns) k d ≡ 0) × ((i : ℕ) → i < d → iter (up ns) k i ≢ 0)
  first_zero zero zero e = (0, refl, (λ i h z. omega arith))
  first_zero (suc f) zero e = (0, refl, (λ i h z. omega arith))
  first_zero zero (suc k) e = absurd (reach_never ns k e)
  first_zero (suc f) (suc k) e =
      let r = first_zero f (up ns (suc k)) (reach_up ns f k e) in
      (suc r.0, r.1, least r.0 r.2)
    where
      least : (d : ℕ) → ((i : ℕ) → i < d → iter (up ns) (up ns (suc k)) i ≢ 0) → (i : ℕ) → i < suc d → iter (up ns) (suc k) i ≢ 0
      least d h zero l z = omega arith
      least d h (suc i) l z = h i (omega arith) z

  at_zero : (f d k : ℕ) → iter (up ns) k d ≡ 0 → d ≤ f → reaches ns f k ≡ true
  at_zero zero d zero e h = reach_zero ns 0
  at_zero (suc f) d zero e h = reach_zero ns (suc f)
  at_zero zero zero (suc k) e h = absurd (omega arith)
  at_zero zero (suc d) (suc k) e h = absurd (omega arith)
  at_zero (suc f) zero (suc k) e h = absurd (omega arith)
  at_zero (suc f) (suc d) (suc k) e h = reach_down ns f k (at_zero f d (up ns (suc k)) e (omega arith))

  -- however it is measured, a chain that gets to node 0 is short: its nodes are different
  pub reach_short : ((j : ℕ) → up ns j < 256) → (f k : ℕ) → k < 256 → reaches ns f k ≡ true → reaches ns longest_chain k ≡ true
  reach_short b f k s e =
      let r = first_zero f k e in
      at_zero longest_chain r.0 k r.1 (fits r.0 r.1 r.2)
    where
      low : (i k : ℕ) → k < 256 → iter (up ns) k i < 256
      low zero k h = h
      low (suc i) k h = low i (up ns k) (b k)

      fits : (d : ℕ) → iter (up ns) k d ≡ 0 → ((i : ℕ) → i < d → iter (up ns) k i ≢ 0) → d ≤ 255
      fits d z least = omega (arith, pigeonhole 256 (suc d) (iter (up ns) k) (λ i h. low i k s) apart)
        where
          apart : (i j : ℕ) → i < j → j < suc d → iter (up ns) k i ≢ iter (up ns) k j
          apart i j h l q =
              let g : j + (d - j) ≡ d = omega arith in
              least (i + (d - j)) (omega arith) (iter_add (up ns) i (d - j) k ∙ ap (λ (m : ℕ). iter (up ns) m (d - j)) q ∙ sym (iter_add (up ns) j (d - j) k) ∙ ap (iter (up ns) k) g ∙ z)
