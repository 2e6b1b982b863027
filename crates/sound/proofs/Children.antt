-- The rows below a node are its children, each with the rows below it; and so their number is a sum over the open children.
use Prim.Native.Nat.{ℕ, zero, suc, ◌+◌, ◌<◌, ◌≤◌}
use native.Mathlib.Omega.{arith}
use mathlib.Core.Path.{◌≡◌, refl, sym, ap, ap₂, ◌∙◌}
use mathlib.Core.Logic.{◌≢◌}
use mathlib.Core.Bool.{Bool, true, false, cond, ◌&&◌, ◌||◌}
use mathlib.Core.List.{List, [], ◌∷◌}
use lib.ListN.{length, drop, length-append}
use lib.Seq.{get_or-drop}
use lib.Dec.{eqb}
use borrow.Author.Tests.{eqb-true, eqb-false, eq-eqb, ne_eqb}
use Rattle.model.specs.declared.Node.{Node}
use Rattle.model.specs.Places.{depth, longest_chain}
use Rattle.model.specs.Nodes.{no_node, node_at, direct_of, is_open, stands_at, seek_from, seek, child_by, open_child}
use Rattle.model.specs.Rows.{Row, under, rows_from, rows_of, total_of}
use Rattle.nodes.proofs.Tests.{or_false_l, or_false_r}
use Rattle.sound.specs.Tests.{is_twin, any_twin, has_twins, parts}
use Rattle.sound.proofs.Formed.{no_twins}
use Rattle.lists.proofs.Bools.{both, and}
use Rattle.paths.proofs.Order.{length_child}
use Rattle.tree.proofs.Find.{chain_length, reach_all}
use Rattle.tree.proofs.Listing.{open_child_lem}
use Rattle.tree.proofs.WellFormed.{open_used, child_by_is}
use Rattle.tree.specs.Paths.{to}
use Rattle.tree.specs.WellFormed.{Used, Opens, up, ix, WellFormed}

-- sums by index
sum_up : (ℕ → ℕ) → ℕ → ℕ → ℕ
sum_up F i zero = 0
sum_up F i (suc n) = F i + sum_up F (suc i) n

sum_zero : (F : ℕ → ℕ) → ((i : ℕ) → F i ≡ 0) → (i n : ℕ) → sum_up F i n ≡ 0
unfolding sum_up
sum_zero F h i zero = refl
sum_zero F h i (suc n) = omega (arith, h i, sum_zero F h (suc i) n)

sum_same : (F G : ℕ → ℕ) → ((i : ℕ) → G i ≡ F i) → (i n : ℕ) → sum_up G i n ≡ sum_up F i n
unfolding sum_up
sum_same F G h i zero = refl
sum_same F G h i (suc n) = omega (arith, h i, sum_same F G h (suc i) n)

-- one place more
module _ (F G : ℕ → ℕ) (x v : ℕ) (here : G x ≡ v + F x) (else : (i : ℕ) → i ≢ x → G i ≡ F i) where
  sum_past : (i n : ℕ) → x < i → sum_up G i n ≡ sum_up F i n
  unfolding sum_up
  sum_past i zero l = refl
  sum_past i (suc n) l = omega (arith, else i (λ e. omega arith), sum_past (suc i) n (omega arith))

  sum_more : (i n : ℕ) → i ≤ x → x < i + n → sum_up G i n ≡ v + sum_up F i n
  unfolding sum_up
  sum_more i zero a b = absurd (omega arith)
  sum_more i (suc n) a b = go (eqb i x) refl (λ l r. sum_more (suc i) n l r)
    where
      go : (t : Bool) → eqb i x ≡ t → (suc i ≤ x → x < suc i + n → sum_up G (suc i) n ≡ v + sum_up F (suc i) n) → G i + sum_up G (suc i) n ≡ v + (F i + sum_up F (suc i) n)
      go true e ih =
          let z : i ≡ x = eqb-true i x e in
          omega (arith, sum_past (suc i) n (omega arith), ap G z, ap F z, here)
      go false e ih =
          let z : i ≢ x = eqb-false i x e in
          omega (arith, else i z, ih (omega arith) (omega arith))

-- the open children of node p, by index and by number
abbrev is_kid : ℕ → Node → Bool
is_kid p n = is_open n && eqb n.parent p

abbrev weigh : (ℕ → ℕ) → ℕ → ℕ
weigh g zero = 0
weigh g (suc c) = g (suc c)

unfoldable pub kids_sum : (ℕ → ℕ) → ℕ → ℕ → List Node → ℕ
kids_sum g p k [] = 0
kids_sum g p k (n ∷ ms) = cond (is_kid p n) (g k) 0 + kids_sum g p (suc k) ms

pick : ℕ → ℕ → List Node → ℕ → ℕ
pick p k ms i = seek_from (λ n. is_open n && stands_at p i n) ms k

and_left : (a b c : Bool) → (a && b) ≡ false → (a && (b && c)) ≡ false
and_left true b c e = rw e
and_left false b c e = refl

-- no twin of m stands in ms, so at m's index nothing is picked
no_pick : (m : Node) (ms : List Node) (k : ℕ) → is_open m ≡ true → any_twin m ms ≡ false → pick m.parent k ms m.index ≡ 0
unfolding pick seek_from any_twin
no_pick m [] k o e = refl
no_pick m (n ∷ ms) k o e =
    rw (off (is_open n) n.ongoing (stands_at m.parent m.index n) (rw o at (or_false_l (is_twin m n) (any_twin m ms) e)))
    (no_pick m ms (suc k) o (or_false_r (is_twin m n) (any_twin m ms) e))
  where
    off : (a b c : Bool) → ((a || b) && c) ≡ false → (a && c) ≡ false
    off true b c h = h
    off false b c h = refl

kids_by_index : (g : ℕ → ℕ) (p n k : ℕ) (ms : List Node) → has_twins ms ≡ false
    → ((j : ℕ) → j < length ms → is_kid p (node_at ms j) ≡ true → (node_at ms j).index < n)
    → sum_up (λ i. weigh g (pick p (suc k) ms i)) 0 n ≡ kids_sum g p (suc k) ms
unfolding pick seek_from has_twins kids_sum
kids_by_index g p n k [] t h = sum_zero (λ i. weigh g 0) (λ i. refl) 0 n
kids_by_index g p n k (m ∷ ms) t h =
    go (is_kid p m) refl (kids_by_index g p n (suc k) ms (or_false_r (any_twin m ms) (has_twins ms) t) (λ j l. h (suc j) (omega arith)))
  where
    F : ℕ → ℕ
    F i = weigh g (pick p (suc (suc k)) ms i)

    G : ℕ → ℕ
    G i = weigh g (cond (is_open m && stands_at p i m) (suc k) (pick p (suc (suc k)) ms i))

    go : (b : Bool) → is_kid p m ≡ b → sum_up F 0 n ≡ kids_sum g p (suc (suc k)) ms → sum_up G 0 n ≡ cond b (g (suc k)) 0 + kids_sum g p (suc (suc k)) ms
    go false e ih =
        omega (arith, ih, sum_same F G (λ i. ap (λ (b : Bool). weigh g (cond b (suc k) (pick p (suc (suc k)) ms i))) (and_left (is_open m) (eqb m.parent p) (eqb m.index i) e)) 0 n)
    go true e ih =
        let o : is_open m ≡ true = (both (is_open m) (eqb m.parent p) e).0 in
        let q : m.parent ≡ p = eqb-true _ _ (both (is_open m) (eqb m.parent p) e).1 in
        let none : F m.index ≡ 0 = ap (weigh g) (rw q at (no_pick m ms (suc (suc k)) o (or_false_l (any_twin m ms) (has_twins ms) t))) in
        let at : (is_open m && stands_at p m.index m) ≡ true = and o (and (eq-eqb m.parent p q) (eq-eqb m.index m.index refl)) in
        let here : G m.index ≡ g (suc k) = ap (λ (b : Bool). weigh g (cond b (suc k) (pick p (suc (suc k)) ms m.index))) at in
        omega (arith, ih, sum_more F G m.index (g (suc k)) (omega arith) (λ i d. off i d) 0 n (omega arith) (omega (arith, h 0 (omega arith) e)))
      where
        off : (i : ℕ) → i ≢ m.index → G i ≡ F i
        off i d = ap (λ (b : Bool). weigh g (cond b (suc k) (pick p (suc (suc k)) ms i))) (last (is_open m) (eqb m.parent p) (eqb m.index i) (ne_eqb m.index i (λ z. d (sym z))))
          where
            last : (a b c : Bool) → c ≡ false → (a && (b && c)) ≡ false
            last true true c z = z
            last true false c z = refl
            last false b c z = refl

kids_same : (g h : ℕ → ℕ) (p k : ℕ) (ms : List Node) → ((j : ℕ) → j < length ms → is_kid p (node_at ms j) ≡ true → g (k + j) ≡ h (k + j)) → kids_sum g p k ms ≡ kids_sum h p k ms
unfolding kids_sum
kids_same g h p k [] e = refl
kids_same g h p k (m ∷ ms) e =
    ap₂ (λ (a b : ℕ). a + b) (go (is_kid p m) refl)
    (kids_same g h p (suc k) ms (λ j l t. let z : suc k + j ≡ k + suc j = omega arith in rw z (e (suc j) (omega arith) t)))
  where
    go : (b : Bool) → is_kid p m ≡ b → cond b (g k) 0 ≡ cond b (h k) 0
    go true q = let z : k + 0 ≡ k = omega arith in rw z at (e 0 (omega arith) q)
    go false q = refl

kids_parts : (g : ℕ → ℕ) (p k : ℕ) (ms : List Node) → ((j : ℕ) → j < length ms → g (k + j) ≡ (node_at ms j).total) → kids_sum g p k ms ≡ parts p ms
unfolding kids_sum parts
kids_parts g p k [] e = refl
kids_parts g p k (m ∷ ms) e =
    let z : k + 0 ≡ k = omega arith in
    let here : g k ≡ m.total = rw z at (e 0 (omega arith)) in
    ap₂ (λ (a b : ℕ). a + b) (ap (λ (v : ℕ). cond (is_kid p m) v 0) here ∙ turn (is_open m) (eqb m.parent p))
    (kids_parts g p (suc k) ms (λ j l. let z : suc k + j ≡ k + suc j = omega arith in rw z (e (suc j) (omega arith))))
  where
    turn : (a b : Bool) → cond (a && b) m.total 0 ≡ cond b (cond a m.total 0) 0
    turn true b = refl
    turn false true = refl
    turn false false = refl

-- rows of well-formed nodes need no more depth than they are given
rows_agree : (ns : List Node) (sub sub' : ℕ → List Row) (p : ℕ) → ((i : ℕ) → under sub (open_child ns p i) ≡ under sub' (open_child ns p i))
    → (i n : ℕ) → rows_from ns sub p i n ≡ rows_from ns sub' p i n
unfolding rows_from
rows_agree ns sub sub' p h i zero = refl
rows_agree ns sub sub' p h i (suc n) = rw (h i, rows_agree ns sub sub' p h (suc i) n)

module _ (ns : List Node) (w : WellFormed ns) where
  pub deeper : (p i c : ℕ) → open_child ns p i ≡ suc c → length (to ns (suc c)) ≡ suc (length (to ns p))
  deeper p i c e = ap length (open_child_lem ns w p i c e).3 ∙ length_child (to ns p) i

  pub not_deep : (k : ℕ) → Used ns k → length (to ns k) ≤ longest_chain
  not_deep k u = chain_length ns longest_chain depth k (reach_all ns w k u)

  rows_stable : (f p : ℕ) → Used ns p → longest_chain < f + length (to ns p) → rows_of ns (suc f) p ≡ rows_of ns f p
  unfolding rows_of
  rows_stable zero p u l = absurd (omega (arith, not_deep p u))
  rows_stable (suc f) p u l =
      rows_agree ns (λ k. rows_of ns (suc f) k) (λ k. rows_of ns f k) p (λ i. go (λ c v h. rows_stable f c v h) i (open_child ns p i) refl) 0 (direct_of ns p)
    where
      go : ((c : ℕ) → Used ns c → longest_chain < f + length (to ns c) → rows_of ns (suc f) c ≡ rows_of ns f c) → (i c : ℕ) → open_child ns p i ≡ c
          → under (λ k. rows_of ns (suc f) k) c ≡ under (λ k. rows_of ns f k) c
      go ih i zero e = refl
      go ih i (suc c) e = ih (suc c) (open_used ns (suc c) (open_child_lem ns w p i c e).0) (omega (arith, deeper p i c e))

  pub rows_are : (p : ℕ) → Used ns p → rows_of ns depth p ≡ rows_from ns (λ k. rows_of ns depth k) p 0 (direct_of ns p)
  rows_are p u = sym (rows_stable depth p u (omega arith)) ∙ unfold rows_of in refl

  length_from : (sub : ℕ → List Row) (p i n : ℕ) → length (rows_from ns sub p i n) ≡ n + sum_up (λ x. weigh (λ k. length (sub k)) (open_child ns p x)) i n
  unfolding rows_from sum_up
  length_from sub p i zero = refl
  length_from sub p i (suc n) =
      omega (arith, length-append (under sub (open_child ns p i)) (rows_from ns sub p (suc i) n), length_from sub p (suc i) n, go (open_child ns p i))
    where
      go : (c : ℕ) → length (under sub c) ≡ weigh (λ k. length (sub k)) c
      go zero = refl
      go (suc c) = refl

kids_all : (g : ℕ → ℕ) (ns : List Node) → WellFormed ns → (p : ℕ) → sum_up (λ i. weigh g (open_child ns p i)) 0 (direct_of ns p) ≡ kids_sum g p 1 (drop 1 ns)
unfolding child_by seek pick
kids_all g [] w p = unfold kids_sum in sum_zero (λ i. 0) (λ i. refl) 0 (direct_of [] p)
kids_all g (r ∷ ms) w p = kids_by_index g p (direct_of (r ∷ ms) p) 0 ms (no_twins (r ∷ ms) w) (λ j l k. go j k)
  where
    go : (j : ℕ) → is_kid p (node_at ms j) ≡ true → (node_at ms j).index < direct_of (r ∷ ms) p
    go j k =
        let e = both (is_open (node_at ms j)) (eqb (node_at ms j).parent p) k in
        let q : (node_at ms j).parent ≡ p = eqb-true _ _ e.1 in
        rw q at (w.placed j (open_used (r ∷ ms) (suc j) e.0)).inside

module _ (ns : List Node) (w : WellFormed ns) where
  totals_are : (p : ℕ) → Used ns p → total_of ns p ≡ direct_of ns p + kids_sum (total_of ns) p 1 (drop 1 ns)
  unfolding total_of
  totals_are p u =
      ap length (rows_are ns w p u) ∙ length_from ns w (λ k. rows_of ns depth k) p 0 (direct_of ns p) ∙
      ap (λ (s : ℕ). direct_of ns p + s) (kids_all (λ k. length (rows_of ns depth k)) ns w p)

  abbrev total : ℕ → ℕ
  total k = (node_at ns k).total

  parts_are : (p : ℕ) → kids_sum total p 1 (drop 1 ns) ≡ parts p (drop 1 ns)
  parts_are p = kids_parts total p 1 (drop 1 ns) (λ j l. ap (λ (n : Node). n.total) (sym (get_or-drop 1 ns j no_node)))

  -- an open child of p is deeper
  kid : (p j : ℕ) → is_kid p (node_at (drop 1 ns) j) ≡ true → Opens ns (1 + j) × (length (to ns (1 + j)) ≡ suc (length (to ns p)))
  kid p j k =
      let z : 1 + j ≡ suc j = omega arith in
      let e : node_at (drop 1 ns) j ≡ node_at ns (suc j) = get_or-drop 1 ns j no_node ∙ ap (node_at ns) z in
      let v = both (is_open (node_at ns (suc j))) (eqb (up ns (suc j)) p) (ap (is_kid p) (sym e) ∙ k) in
      let q : up ns (suc j) ≡ p = eqb-true _ _ v.1 in
      rw z (v.0, deeper ns w p (ix ns (suc j)) j (rw q at (child_by_is ns w is_open j (λ n o. rw o) v.0)))

  abbrev Right : ℕ → Type 0
  Right k = total k ≡ direct_of ns k + parts k (drop 1 ns)

  -- where each total is its count and the totals of its open children, it is the number of rows below
  pub totals_rows : ((k : ℕ) → Used ns k → Right k) → (f k : ℕ) → longest_chain < f + length (to ns k) → Used ns k → total k ≡ total_of ns k
  totals_rows h zero k l u = absurd (omega (arith, not_deep ns w k u))
  totals_rows h (suc f) k l u =
      h k u ∙
      ap (λ (s : ℕ). direct_of ns k + s) (
      sym (parts_are k) ∙
      kids_same total (total_of ns) k 1 (drop 1 ns) (λ j b v. let q = kid k j v in totals_rows h f (1 + j) (omega (arith, q.1)) (open_used ns (1 + j) q.0))
      ) ∙
      sym (totals_are k u)

  pub rows_totals : ((k : ℕ) → Used ns k → total k ≡ total_of ns k) → (k : ℕ) → Used ns k → Right k
  rows_totals h k u =
      h k u ∙ totals_are k u ∙
      ap (λ (s : ℕ). direct_of ns k + s) (
      kids_same (total_of ns) total k 1 (drop 1 ns) (λ j b v. sym (h (1 + j) (open_used ns (1 + j) (kid k j v).0))) ∙
      parts_are k
      )
