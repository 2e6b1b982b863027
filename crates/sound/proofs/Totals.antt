-- Totals: the test of each against its count and its open children's totals, and what that says of the rows and of the chains.
use Prim.Native.Nat.{ℕ, zero, suc, ◌+◌, ◌-◌, ◌<◌, ◌≤◌}
use native.Mathlib.Omega.{arith}
use native.Mathlib.Nat.{zero-add}
use native.Mathlib.Numerals.{add-one}
use mathlib.Core.Path.{◌≡◌, refl, sym, ap, ap₂, ◌∙◌}
use mathlib.Core.Bool.{Bool, true, false, cond, ◌&&◌, beq}
use mathlib.Core.List.{List, [], ◌∷◌}
use lib.ListN.{length, drop, take, get_or, set, replicate, length-set, length-drop, drop_of_length-le, length-replicate, get_or-replicate}
use lib.Seq.{take-length, drop-cons, get_or-drop, get_or-set_same, get_or-set_other}
use lib.Dec.{eqb}
use Rattle.std.specs.List.{list_all, zip}
use borrow.Author.Tests.{eqb-true, eqb-false, eq-eqb, ne_eqb}
use Rattle.model.specs.declared.Node.{Node}
use Rattle.model.specs.Places.{longest_chain}
use Rattle.model.specs.Nodes.{no_node, node_at, direct_of, is_open, used, with_total}
use Rattle.model.specs.Rows.{total_of}
use Rattle.model.specs.Settle.{totalled}
use Rattle.model.specs.Sound.{reaches, same_node, same_list}
use Rattle.nodes.proofs.Tests.{both_ways}
use Rattle.sound.specs.Tests.{all_from, places_ok, open_total, parts, total_is, totals_ok}
use Rattle.sound.proofs.Formed.{every, every_made, parent_open, parent_filled, parent_low}
use Rattle.sound.proofs.Children.{totals_rows, rows_totals}
use Rattle.lists.proofs.Bools.{differ}
use Rattle.model.proofs.Search.{used_inside}
use Rattle.tree.proofs.Find.{reach_zero, reach_down, reach_short}
use Rattle.tree.proofs.WellFormed.{open_used, zero_open}
use Rattle.tree.specs.WellFormed.{Used, Opens, up, WellFormed}

-- one total
module _ (n : Node) (s : ℕ) where
  total_right : used n ≡ true → total_is n s ≡ true → n.total ≡ n.direct + s
  total_right u e = eqb-true n.total (n.direct + s) (rw u at e)

  right_total : (used n ≡ true → n.total ≡ n.direct + s) → total_is n s ≡ true
  right_total h = go (used n) h
    where
      go : (b : Bool) → (b ≡ true → n.total ≡ n.direct + s) → cond b (eqb n.total (n.direct + s)) true ≡ true
      go true g = eq-eqb _ _ (g refl)
      go false g = refl

module _ (ns : List Node) (t : totals_ok ns ≡ true) where
  total_at : (k : ℕ) → Used ns k → (node_at ns k).total ≡ direct_of ns k + parts k (drop 1 ns)
  unfolding totals_ok
  total_at k u = total_right (node_at ns k) (parts k (drop 1 ns)) u (every _ ns t k (used_inside ns k u))

-- what an open node adds is a part of its parent's sum
parts_part : (p : ℕ) (ms : List Node) (j : ℕ) → j < length ms → (node_at ms j).parent ≡ p → open_total (node_at ms j) ≤ parts p ms
unfolding parts
parts_part p [] j l e = absurd (omega arith)
parts_part p (m ∷ ms) zero l e = rw (eq-eqb m.parent p e) (omega arith)
parts_part p (m ∷ ms) (suc j) l e = omega (arith, parts_part p ms j (omega arith) e)

-- a total is below its parent's, so no chain goes round
module _ (ns : List Node) (size : length ns ≡ 256) (t : places_ok ns ≡ true) (h : totals_ok ns ≡ true) where
  rises : (k : ℕ) → Opens ns (suc k) → (node_at ns (suc k)).total < (node_at ns (up ns (suc k))).total
  rises k o =
      let u = open_used ns (suc k) o in
      let p = up ns (suc k) in
      let l = used_inside ns (suc k) u in
      let one : 1 + k ≡ suc k = omega arith in
      let e : node_at (drop 1 ns) k ≡ node_at ns (suc k) = get_or-drop 1 ns k no_node ∙ ap (node_at ns) one in
      let a = parts_part p (drop 1 ns) k (omega (arith, length-drop 1 ns)) (ap (λ (n : Node). n.parent) e) in
      let b : open_total (node_at (drop 1 ns) k) ≡ (node_at ns (suc k)).total = ap open_total e ∙ ap (λ (b : Bool). cond b (node_at ns (suc k)).total 0) o in
      omega (arith, parent_filled ns t k u, total_at ns h p (open_used ns p (parent_open ns t k u)))

  climbs : (b : ℕ) → ((k : ℕ) → (node_at ns k).total < b) → (f k : ℕ) → Opens ns k → b ≤ (node_at ns k).total + f → reaches ns f k ≡ true
  climbs b low zero zero o l = reach_zero ns 0
  climbs b low (suc f) zero o l = reach_zero ns (suc f)
  climbs b low zero (suc k) o l = absurd (omega (arith, low (suc k)))
  climbs b low (suc f) (suc k) o l = reach_down ns f k (climbs b low f (up ns (suc k)) (parent_open ns t k (open_used ns (suc k) o)) (omega (arith, rises k o)))

  pub totals_chains : (b : ℕ) → ((k : ℕ) → (node_at ns k).total < b) → (k : ℕ) → Used ns (suc k) → reaches ns longest_chain (suc k) ≡ true
  totals_chains b low k u =
      reach_short ns (λ j. rw size at (parent_low ns t (omega arith) j)) (suc b) (suc k) (rw size at (used_inside ns (suc k) u))
      (reach_down ns b k (climbs b low b (up ns (suc k)) (parent_open ns t k u) (omega arith)))

-- the test of the definition
beq_self : (b : Bool) → beq b b ≡ true
beq_self true = refl
beq_self false = refl

eqb_self : (a : ℕ) → eqb a a ≡ true
eqb_self a = eq-eqb a a refl

alone : (x : Bool) → (true && true && true && true && x && true && true && true) ≡ x
alone true = refl
alone false = refl

same_node_lem : (n : Node) (v : ℕ) → same_node n (with_total v n) ≡ eqb n.total v
same_node_lem n v =
    rw (eqb_self n.parent, eqb_self n.index, eqb_self n.entry, eqb_self n.direct, eqb_self n.version, beq_self n.«open», beq_self n.ongoing)
    (alone (eqb n.total v))

abbrev settled_total : List Node → ℕ → Node → Bool
settled_total ns k n = eqb n.total (cond (used n) (total_of ns k) 0)

same_totals : (ns : List Node) (k : ℕ) (ms : List Node) → same_list same_node ms (totalled ns k ms) ≡ all_from (settled_total ns) k ms
unfolding same_list totalled all_from
same_totals ns k [] = refl
same_totals ns k (m ∷ ms) = ap₂ (λ (a b : Bool). a && b) (same_node_lem m (cond (used m) (total_of ns k) 0)) (same_totals ns (suc k) ms)

module _ (ns : List Node) (w : WellFormed ns) where
  unused_total : (k : ℕ) → used (node_at ns k) ≡ false → (node_at ns k).total ≡ 0
  unused_total zero u = absurd (differ (open_used ns 0 (zero_open ns w)) u)
  unused_total (suc k) u = ap (λ (n : Node). n.total) (w.empty k u)

  pub total_rows : totals_ok ns ≡ true → (k : ℕ) → Used ns k → (node_at ns k).total ≡ total_of ns k
  total_rows t k u = totals_rows ns w (total_at ns t) 256 k (omega arith) u

  -- for well-formed nodes the totals are those of the definition
  pub totals_settled : totals_ok ns ≡ same_list same_node ns (totalled ns 0 ns)
  unfolding totals_ok
  totals_settled = both_ways (totals_ok ns) (all_from (settled_total ns) 0 ns) to from ∙ sym (same_totals ns 0 ns)
    where
      to : totals_ok ns ≡ true → all_from (settled_total ns) 0 ns ≡ true
      to t = every_made _ ns (λ k l. go k (used (node_at ns k)) refl)
        where
          go : (k : ℕ) (b : Bool) → used (node_at ns k) ≡ b → eqb (node_at ns k).total (cond b (total_of ns k) 0) ≡ true
          go k true u = eq-eqb _ _ (total_rows t k u)
          go k false u = eq-eqb _ _ (unused_total k u)

      from : all_from (settled_total ns) 0 ns ≡ true → totals_ok ns ≡ true
      from t = every_made _ ns (λ k l. right_total (node_at ns k) (parts k (drop 1 ns)) (rows_totals ns w right k))
        where
          right : (k : ℕ) → Used ns k → (node_at ns k).total ≡ total_of ns k
          right k u = eqb-true (node_at ns k).total (cond (used (node_at ns k)) (total_of ns k) 0) (every _ ns t k (used_inside ns k u)) ∙ ap (λ (b : Bool). cond b (total_of ns k) 0) u

-- the sums, when nodes 1 to k - 1 are added
pub record Adding (ns : List Node) (k : ℕ) (of : List ℕ) : Type 0 where
  pub long : length of ≡ 256
  pub small : (p : ℕ) → get_or of p 0 ≤ 18446744073709551615
  pub left : (p : ℕ) → p < 256 → get_or of p 0 + parts p (drop k ns) ≡ parts p (drop 1 ns)

pub adding_start : (ns : List Node) → Adding ns 1 (replicate 256 0)
adding_start ns = record { long = length-replicate {A = ℕ} 256 0; left = λ p l. ap (λ (x : ℕ). x + parts p (drop 1 ns)) (get_or-replicate {A = ℕ} 256 p 0 0 l) ∙ zero-add (parts p (drop 1 ns)); small = λ p. omega (arith, zero_everywhere 256 p) }
  where
    zero_everywhere : (n p : ℕ) → get_or (replicate n 0) p 0 ≤ 0
    zero_everywhere zero p = omega arith
    zero_everywhere (suc n) zero = omega arith
    zero_everywhere (suc n) (suc p) = zero_everywhere n p

-- the nodes after the capture, as a slice
tail_all : (ns : List Node) → take (length ns - 1) (drop 1 ns) ≡ drop 1 ns
tail_all ns = ap (λ (n : ℕ). take n (drop 1 ns)) (sym (length-drop 1 ns)) ∙ take-length (drop 1 ns)

pub tail_long : (ns : List Node) → length (take (length ns - 1) (drop 1 ns)) ≡ length ns - 1
tail_long ns = ap length (tail_all ns) ∙ length-drop 1 ns

pub tail_node : (ns : List Node) (i : ℕ) → get_or (take (length ns - 1) (drop 1 ns)) i no_node ≡ node_at ns (i + 1)
tail_node ns i = ap (λ (ms : List Node). get_or ms i no_node) (tail_all ns) ∙ get_or-drop 1 ns i no_node ∙ ap (node_at ns) (omega arith)

module _ (ns : List Node) (k : ℕ) (of : List ℕ) (size : length ns ≡ 256) (l : k < 256) (a : Adding ns k of) where
  abbrev n : Node
  n = node_at ns k

  parts_next : (p : ℕ) → parts p (drop k ns) ≡ cond (eqb n.parent p) (open_total n) 0 + parts p (drop (k + 1) ns)
  unfolding parts
  parts_next p = let h : k < length ns = omega arith in rw (drop-cons ns k no_node h, add-one)

  parts_parent : parts n.parent (drop k ns) ≡ open_total n + parts n.parent (drop (k + 1) ns)
  parts_parent = parts_next n.parent ∙ ap (λ (b : Bool). cond b (open_total n) 0 + parts n.parent (drop (k + 1) ns)) (eq-eqb n.parent n.parent refl)

  pub adding_next : (t : ℕ) → t ≡ open_total n → n.parent < 256 → get_or of n.parent 0 + t ≤ 18446744073709551615 → Adding ns (k + 1) (set of n.parent (get_or of n.parent 0 + t))
  adding_next t e h f = record { long = length-set of n.parent _ ∙ a.long; small = λ p. low p (eqb n.parent p) refl; left = λ p b. go p b (eqb n.parent p) refl }
    where
      low : (p : ℕ) (b : Bool) → eqb n.parent p ≡ b → get_or (set of n.parent (get_or of n.parent 0 + t)) p 0 ≤ 18446744073709551615
      low p true q =
          let z : n.parent ≡ p = eqb-true _ _ q in
          rw (← z) (omega (arith, get_or-set_same of n.parent (get_or of n.parent 0 + t) 0 (rw a.long h)))
      low p false q = omega (arith, get_or-set_other of n.parent p (get_or of n.parent 0 + t) 0 (λ z. eqb-false _ _ q (sym z)), a.small p)

      go : (p : ℕ) → p < 256 → (b : Bool) → eqb n.parent p ≡ b → get_or (set of n.parent (get_or of n.parent 0 + t)) p 0 + parts p (drop (k + 1) ns) ≡ parts p (drop 1 ns)
      go p b true q =
          let z : n.parent ≡ p = eqb-true _ _ q in
          rw (← z) (omega (arith, get_or-set_same of n.parent (get_or of n.parent 0 + t) 0 (rw a.long h), a.left n.parent h, parts_parent))
      go p b false q =
          omega (arith, get_or-set_other of n.parent p (get_or of n.parent 0 + t) 0 (λ z. eqb-false _ _ q (sym z)), a.left p b, parts_next p ∙ ap (λ (b : Bool). cond b (open_total n) 0 + parts p (drop (k + 1) ns)) q)

  -- a sum that does not fit is no total
  pub adding_over : (t m : ℕ) → t ≡ open_total n → places_ok ns ≡ true → 1 ≤ k → n.parent < 256 → m - get_or of n.parent 0 < t → (node_at ns n.parent).total ≤ m → totals_ok ns ≡ false
  adding_over t m e places h low over fits = go (totals_ok ns) refl
    where
      opens : (j : ℕ) → k ≡ suc j → Opens ns n.parent
      opens j z = rw (← z) at (parent_open ns places j (rw (← z) (open_used ns k (added (is_open n) refl))))
        where
          added : (b : Bool) → is_open n ≡ b → b ≡ true
          added true q = refl
          added false q = absurd (omega (arith, e ∙ ap (λ (b : Bool). cond b n.total 0) q))

      back : (j : ℕ) → j ≡ k → Opens ns n.parent
      back zero z = absurd (omega arith)
      back (suc j) z = opens j (sym z)

      go : (b : Bool) → totals_ok ns ≡ b → b ≡ false
      go false q = refl
      go true q = absurd (omega (arith, total_at ns q n.parent (open_used ns n.parent (back k refl)), a.left n.parent low, parts_parent, e))

pub adding_all : (ns : List Node) (k : ℕ) (of : List ℕ) → length ns ≤ k → Adding ns k of → (p : ℕ) → p < 256 → get_or of p 0 ≡ parts p (drop 1 ns)
unfolding parts
adding_all ns k of l a p b = omega (arith, a.left p b, ap (parts p) (drop_of_length-le ns l))

-- the nodes, each with its sum
abbrev pub total_pair : Node × ℕ → Bool
total_pair p = total_is p.0 p.1

paired : (s : ℕ → ℕ) (k : ℕ) (ns : List Node) (of : List ℕ) → length of ≡ length ns → ((p : ℕ) → p < length ns → get_or of p 0 ≡ s (k + p)) → list_all total_pair (zip ns of) ≡ all_from (λ k n. total_is n (s k)) k ns
unfolding all_from
paired s k [] of e h = refl
paired s k (n ∷ ns) [] e h = absurd (omega arith)
paired s k (n ∷ ns) (v ∷ vs) e h =
    ap₂ (λ (a b : Bool). a && b) (ap (total_is n) (h 0 (omega arith) ∙ ap s (omega arith)))
    (paired s (suc k) ns vs (omega arith) (λ p l. h (suc p) (omega arith) ∙ ap s (omega arith)))

pub totals_paired : (ns : List Node) (of : List ℕ) → length ns ≡ 256 → length of ≡ 256 → ((p : ℕ) → p < 256 → get_or of p 0 ≡ parts p (drop 1 ns)) → list_all total_pair (zip ns of) ≡ totals_ok ns
unfolding totals_ok
totals_paired ns of size long h = paired (λ p. parts p (drop 1 ns)) 0 ns of (omega arith) (λ p l. h p (omega arith) ∙ ap (λ (x : ℕ). parts x (drop 1 ns)) (omega arith))

-- what comparing a total with the node's children says of the test of it
module _ (n : Node) (s : ℕ) where
  pub total_short : used n ≡ true → n.total < n.direct → false ≡ total_is n s
  total_short u l = rw u (sym (ne_eqb n.total (n.direct + s) (λ e. omega arith)))

  pub total_rest : used n ≡ true → n.direct ≤ n.total → eqb (n.total - n.direct) s ≡ total_is n s
  total_rest u l =
      rw u
      (both_ways (eqb (n.total - n.direct) s) (eqb n.total (n.direct + s))
      (λ e. eq-eqb n.total (n.direct + s) (omega (arith, eqb-true (n.total - n.direct) s e)))
      (λ e. eq-eqb (n.total - n.direct) s (omega (arith, eqb-true n.total (n.direct + s) e))))
