-- The closing order and the visits of well-formed nodes: no step twice, each of a node in use, so at most 255 and 512 steps.
use Prim.Native.Nat.{ℕ, zero, suc, ◌+◌, ◌-◌, ◌*◌, ◌<◌, ◌≤◌}
use native.Mathlib.Omega.{arith}
use mathlib.Core.Logic.{◌≢◌, ◌⊎◌, inl, inr}
use mathlib.Core.Path.{◌≡◌, refl, sym, ap, ◌∙◌}
use mathlib.Core.Bool.{Bool, true, false, cond, or-true}
use mathlib.Core.List.{List, [], ◌∷◌, ◌++◌, flat_map}
use lib.ListN.{length, get_or, length-append}
use lib.Seq.{get_or-append-add}
use Rattle.model.specs.declared.Node.{Node}
use Rattle.model.specs.Places.{depth, longest_chain}
use Rattle.model.specs.Nodes.{node_at, direct_of, is_open, is_ongoing, child_by, keep, children_from, children}
use Rattle.model.specs.Close.{closing_order}
use Rattle.model.specs.Update.{visit, visits, followed}
use Rattle.model.specs.declared.Step.{Step}
use Rattle.model.specs.declared.Step.TheVariants.{Text, Grow}
use Rattle.steps.specs.Course.{node_of}
use Rattle.orders.proofs.Distinct.{Each, Distinct, each_one, each_append, distinct_one, distinct_append}
use Rattle.orders.proofs.Children.{gather_same}
use Rattle.lists.proofs.Pigeonhole.{pigeonhole}
use Rattle.model.proofs.Search.{child_found}
use Rattle.paths.proofs.Order.{child_ext, under_ext, branch_lt, ext_irrefl, length_child}
use Rattle.paths.specs.Order.{Path, ◌·◌, Ext, Under}
use Rattle.paths.proofs.Decided.{lt_irrefl}
use Rattle.tree.proofs.Find.{to_up, chain_length, reach_all}
use Rattle.tree.proofs.WellFormed.{open_used, used_small, zero_open}
use Rattle.tree.specs.Paths.{to, From}
use Rattle.tree.specs.WellFormed.{WellFormed, Used, Opens, up, ix}

-- the last step of a closing is the node itself
ends_with : (l : List ℕ) (k : ℕ) → (0 < length (l ++ (k ∷ []))) × (get_or (l ++ (k ∷ [])) (length (l ++ (k ∷ [])) - 1) 0 ≡ k)
ends_with l k =
    let e : length (l ++ (k ∷ [])) - 1 ≡ length l + 0 = omega (arith, length-append l (k ∷ [])) in
    (omega (arith, length-append l (k ∷ [])), rw e (get_or-append-add l (k ∷ []) 0 0))

pub closing_last : (ns : List Node) (f k : ℕ) → f ≢ 0 → (0 < length (closing_order ns f k)) × (get_or (closing_order ns f k) (length (closing_order ns f k) - 1) 0 ≡ k)
unfolding closing_order
closing_last ns zero k n = absurd (n refl)
closing_last ns (suc f) k n = ends_with (flat_map (λ j. closing_order ns f j) (children is_open ns k)) k

-- two numbers to each node
abbrev number : Step → ℕ
number (Text k) = 2 * k
number (Grow k) = 2 * k + 1

number_small : (x : Step) → node_of x < 256 → number x < 512
number_small (Text k) h = omega arith
number_small (Grow k) h = omega arith

number_once : (x y : Step) → number x ≡ number y → x ≡ y
number_once (Text k) (Text j) e = ap Text (omega arith)
number_once (Text k) (Grow j) e = absurd (omega arith)
number_once (Grow k) (Text j) e = absurd (omega arith)
number_once (Grow k) (Grow j) e = ap Grow (omega arith)

module _ (ns : List Node) (w : WellFormed ns) where
  child_deeper : (j p : ℕ) → Used ns (suc j) → up ns (suc j) ≡ p → length (to ns (suc j)) ≡ suc (length (to ns p))
  child_deeper j p u e = rw (← e) (ap length (to_up ns w j u) ∙ length_child (to ns (up ns (suc j))) (ix ns (suc j)))

  -- no more is closed with one more level, where the allowance gets past the longest chain
  closing_more : (f k : ℕ) → Used ns k → longest_chain < f + length (to ns k) → closing_order ns (suc f) k ≡ closing_order ns f k
  unfolding closing_order children
  closing_more zero k u h = absurd (omega (arith, chain_length ns longest_chain depth k (reach_all ns w k u)))
  closing_more (suc f) k u h =
      ap (λ (l : List ℕ). l ++ (k ∷ []))
      (gather_same is_open ns k (λ j. closing_order ns (suc f) j) (λ j. closing_order ns f j)
      (λ j o e. closing_more f (suc j) (open_used ns (suc j) o) (omega (arith, child_deeper j k (open_used ns (suc j) o) e))) (direct_of ns k) 0)

  -- so 255 levels are enough for a node other than the capture
  pub closing_enough : (k : ℕ) → 0 < k → Opens ns k → closing_order ns depth k ≡ closing_order ns longest_chain k
  closing_enough zero h o = absurd (omega arith)
  closing_enough (suc k) h o = closing_more longest_chain (suc k) (open_used ns (suc k) o) (omega (arith, child_deeper k (up ns (suc k)) (open_used ns (suc k) o) refl))

  below : (p : ℕ) (x : Path) → From ns p 0 x → Ext (to ns p) x
  below p x r = under_ext (to ns p · r.0) (child_ext (to ns p) r.0) r.2

  -- steps, of which x belongs to node h x: each of a node of which Q holds, in a part of the tree, and none twice
  module _ {A : Type 0} (d : A) (h : A → ℕ) (Q : ℕ → Type 0) where
    record Part (R : Path → Type 0) (l : List A) : Type 0 where
      each : Each d (λ x. Q (h x) × R (to ns (h x))) l
      once : Distinct d l

    part_none : (R : Path → Type 0) → Part R []
    part_none R = record { each = λ i l. absurd (omega arith); once = λ i j a b. absurd (omega arith) }

    module _ (q : Node → Bool) (uses : (j : ℕ) → q (node_at ns (suc j)) ≡ true → Used ns (suc j)) (passes : (j : ℕ) → q (node_at ns (suc j)) ≡ true → Q (suc j)) (g : ℕ → List A) (parts : (j : ℕ) → Q j → Part (Under (to ns j)) (g j)) (p : ℕ) where
      part_children : (n i : ℕ) → Part (From ns p i) (flat_map g (children_from q ns p i n))
      unfolding children_from keep flat_map
      part_children zero i = part_none (From ns p i)
      part_children (suc n) i = go (child_by q ns p i) refl (part_children n (suc i))
        where
          Rest : List A
          Rest = flat_map g (children_from q ns p (suc i) n)

          later : Part (From ns p (suc i)) Rest → Each d (λ x. Q (h x) × From ns p i (to ns (h x))) Rest
          later B j l = let r = B.each j l in (r.0, (r.1.0, (omega arith), r.1.2))

          go : (j : ℕ) → child_by q ns p i ≡ j → Part (From ns p (suc i)) Rest → Part (From ns p i) (flat_map g (keep j (children_from q ns p (suc i) n)))
          go zero e B = record { each = later B; once = B.once }
          go (suc j) e B = record {
            each = each_append d (λ x. Q (h x) × From ns p i (to ns (h x))) (g (suc j)) Rest (λ m l. let r = own.each m l in (r.0, (i, (omega arith), rw a at r.1))) (later B);
            once =
                distinct_append d (λ x. Under (to ns p · i) (to ns (h x))) (λ x. From ns p (suc i) (to ns (h x))) (g (suc j)) Rest (λ m l. rw a at (own.each m l).1) (λ m l. (B.each m l).1)
                (λ x y b c e. lt_irrefl (to ns (h y)) (rw (ap (λ (z : A). to ns (h z)) e) at (branch_lt (to ns p) c.1 b c.2))) own.once B.once;
          }
            where
              r : (q (node_at ns (suc j)) ≡ true) × (up ns (suc j) ≡ p) × (ix ns (suc j) ≡ i)
              r = child_found q ns p i j e

              a : to ns (suc j) ≡ to ns p · i
              a = let d = r.1 in let f = r.2 in to_up ns w j (uses j r.0) ∙ rw (d, f)

              own : Part (Under (to ns (suc j))) (g (suc j))
              own = parts (suc j) (passes j r.0)

  -- closing: the part below the node, then the node
  open_uses : (j : ℕ) → is_open (node_at ns (suc j)) ≡ true → Used ns (suc j)
  open_uses j o = open_used ns (suc j) o

  abbrev Closing : ℕ → Type 0
  Closing j = Opens ns j × (0 < j)

  closing_part : (f k : ℕ) → Closing k → Part 0 (λ x. x) Closing (Under (to ns k)) (closing_order ns f k)
  unfolding closing_order children
  closing_part zero k c = part_none 0 (λ x. x) Closing (Under (to ns k))
  closing_part (suc f) k c = go (part_children 0 (λ x. x) Closing is_open open_uses (λ j o. (o, (omega arith))) (λ j. closing_order ns f j) (λ j d. closing_part f j d) k (direct_of ns k) 0)
    where
      Inner : List ℕ
      Inner = flat_map (λ j. closing_order ns f j) (children_from is_open ns k 0 (direct_of ns k))

      go : Part 0 (λ x. x) Closing (From ns k 0) Inner → Part 0 (λ x. x) Closing (Under (to ns k)) (Inner ++ (k ∷ []))
      go B = record {
        each =
            each_append 0 (λ x. Closing x × Under (to ns k) (to ns x)) Inner (k ∷ []) (λ i l. let r = B.each i l in (r.0, inr (below k (to ns (get_or Inner i 0)) r.1)))
            (each_one 0 (λ x. Closing x × Under (to ns k) (to ns x)) k (c, inl refl));
        once =
            distinct_append 0 (λ x. Ext (to ns k) (to ns x)) (λ x. x ≡ k) Inner (k ∷ []) (λ i l. below k (to ns (get_or Inner i 0)) (B.each i l).1) (each_one 0 (λ x. x ≡ k) k refl)
            (λ x y b d e. ext_irrefl (to ns k) (rw (e ∙ d) at b)) B.once (distinct_one 0 k);
      }

  pub closing_each : (f k : ℕ) → 0 < k → Opens ns k → Each 0 (λ j. Opens ns j × (0 < j)) (closing_order ns f k)
  closing_each f k h o i l = ((closing_part f k (o, h)).each i l).0

  pub closing_distinct : (f k : ℕ) → 0 < k → Opens ns k → Distinct 0 (closing_order ns f k)
  closing_distinct f k h o = (closing_part f k (o, h)).once

  pub closing_short : (f k : ℕ) → 0 < k → Opens ns k → length (closing_order ns f k) ≤ 255
  closing_short f k h o =
      let l = closing_order ns f k in
      pigeonhole 255 (length l) (λ i. get_or l i 0 - 1)
      (λ i a. let c = closing_each f k h o i a in omega (arith, c.1, used_small ns w (get_or l i 0) (open_used ns (get_or l i 0) c.0)))
      (λ i j a b. omega (arith, (closing_each f k h o i (omega arith)).1, (closing_each f k h o j b).1, closing_distinct f k h o i j a b))

  -- a visit: the text step, the part below the node, the growth step
  ongoing_uses : (j : ℕ) → is_ongoing (node_at ns (suc j)) ≡ true → Used ns (suc j)
  ongoing_uses j o = rw o (or-true (is_open (node_at ns (suc j))))

  module _ (d : Step) where
    abbrev Visited : (Path → Type 0) → List Step → Type 0
    Visited R l = Part d node_of (Used ns) R l

    followed_part : (g : ℕ → List Step) → ((j : ℕ) → Used ns j → Visited (Under (to ns j)) (g j)) → (k : ℕ) → Visited (From ns k 0) (flat_map g (followed ns k))
    unfolding children flat_map
    followed_part g parts k = go (is_open (node_at ns k))
      where
        go : (b : Bool) → Visited (From ns k 0) (flat_map g (cond b (children is_ongoing ns k) []))
        go true = part_children d node_of (Used ns) is_ongoing ongoing_uses ongoing_uses g parts k (direct_of ns k) 0
        go false = part_none d node_of (Used ns) (From ns k 0)

    visit_part : (f k : ℕ) → Used ns k → Visited (Under (to ns k)) (visit ns f k)
    unfolding visit
    visit_part zero k u = part_none d node_of (Used ns) (Under (to ns k))
    visit_part (suc f) k u = go (followed_part (λ j. visit ns f j) (λ j v. visit_part f j v) k)
      where
        Inner : List Step
        Inner = flat_map (λ j. visit ns f j) (followed ns k)

        Here : Step → Type 0
        Here x = Used ns (node_of x) × Under (to ns k) (to ns (node_of x))

        Inside : Step → Type 0
        Inside x = Ext (to ns k) (to ns (node_of x))

        Later : Step → Type 0
        Later x = Inside x ⊎ (x ≡ Grow k)

        other : (x y : Step) → Inside x → node_of y ≡ k → x ≢ y
        other x y b c e = ext_irrefl (to ns k) (rw (ap node_of e ∙ c) at b)

        first : (x y : Step) → x ≡ Text k → Later y → x ≢ y
        first x y e (inl b) c = other y x b (ap node_of e) (sym c)
        first x y e (inr b) c = cc

        go : Visited (From ns k 0) Inner → Visited (Under (to ns k)) (Text k ∷ (Inner ++ (Grow k ∷ [])))
        go B = record {
          each =
              each_append d Here (Text k ∷ []) (Inner ++ (Grow k ∷ [])) (each_one d Here (Text k) (u, inl refl))
              (each_append d Here Inner (Grow k ∷ []) (λ i l. let r = B.each i l in (r.0, inr (inside i l))) (each_one d Here (Grow k) (u, inl refl)));
          once =
              distinct_append d (λ x. x ≡ Text k) Later (Text k ∷ []) (Inner ++ (Grow k ∷ [])) (each_one d (λ x. x ≡ Text k) (Text k) refl)
              (each_append d Later Inner (Grow k ∷ []) (λ i l. inl (inside i l)) (each_one d Later (Grow k) (inr refl)))
              first (distinct_one d (Text k))
              (distinct_append d Inside (λ x. x ≡ Grow k) Inner (Grow k ∷ []) inside (each_one d (λ x. x ≡ Grow k) (Grow k) refl)
              (λ x y b c. other x y b (ap node_of c)) B.once (distinct_one d (Grow k)));
        }
          where
            inside : Each d Inside Inner
            inside i l = below k (to ns (node_of (get_or Inner i d))) (B.each i l).1

    pub visits_each : Each d (λ x. Used ns (node_of x)) (visits ns)
    visits_each i l = ((visit_part depth 0 (open_used ns 0 (zero_open ns w))).each i l).0

    pub visits_distinct : Distinct d (visits ns)
    visits_distinct = (visit_part depth 0 (open_used ns 0 (zero_open ns w))).once

  pub visits_short : length (visits ns) ≤ 512
  visits_short =
      let l = visits ns in
      let d : Step = Text 0 in
      pigeonhole 512 (length l) (λ i. number (get_or l i d)) (λ i a. number_small (get_or l i d) (used_small ns w (node_of (get_or l i d)) (visits_each d i a)))
      (λ i j a b e. visits_distinct d i j a b (number_once (get_or l i d) (get_or l j d) e))
