-- The regions against the walk: it is on course, or it has passed over an open child and stays short of rows.
use Prim.Native.Nat.{ℕ, zero, suc, ◌+◌, ◌-◌, ◌<◌, ◌≤◌}
use native.Mathlib.Omega.{arith}
use native.Mathlib.Numerals.{add-one}
use native.Mathlib.Decide.{ℕ_discrete, dec_lt}
use mathlib.Core.Path.{◌≡◌, refl, sym, ap, ◌∙◌}
use mathlib.Core.Logic.{◌≢◌}
use mathlib.Core.Bool.{Bool, true, false, ◌&&◌}
use mathlib.Core.List.{List, [], ◌∷◌, ◌++◌}
use lib.ListN.{length, drop}
use lib.Dec.{eqb, ltb, leb}
use borrow.Author.Tests.{eqb-true, eq-eqb, ne_eqb, ltb-true, lt-ltb, leb-true, le-leb}
use Rattle.model.specs.declared.Node.{Node}
use Rattle.model.specs.declared.Region.{Region}
use Rattle.model.specs.Places.{pad}
use Rattle.model.specs.Nodes.{node_at, direct_of, is_open, open_child}
use Rattle.model.specs.Rows.{Row, rows}
use Rattle.model.specs.Regions.{region, no_region, runs}
use Rattle.model.specs.Sound.{same_region, same_list}
use Rattle.nodes.proofs.Tests.{fail_l, fail_r, parted}
use Rattle.sound.specs.Tests.{is_next, begins, regions_ok}
use Rattle.sound.proofs.Runs.{region_at, zero_from, fits, fits_count, fits_none, fits_at, stretch, length_stretch, HeadNot, runs_some, runs_stretch}
use Rattle.sound.proofs.Walk.{rest, Place, Next, to_end, to_child, next, rest_up, rest_none, rest_all, open_length, skip_length, over_child, end_not, child_not}
use Rattle.lists.proofs.Bools.{both, and, differ}
use Rattle.tree.proofs.Listing.{open_child_lem}
use Rattle.tree.proofs.Regions.{regions_fit}
use Rattle.tree.proofs.WellFormed.{open_used, zero_open, child_by_is}
use Rattle.model.proofs.Search.{node_past}
use Rattle.tree.specs.WellFormed.{Opens, up, ix, WellFormed}

-- where the walk is on course, the regions from place j on are to be those of the rows from the walk's place on
pub record On (ns : List Node) (gs : List Region) (count j s p i : ℕ) : Type 0 where
  pub there : Place ns p i
  pub left : s + length (rest ns p i) ≡ length (rows ns)
  pub verdict : fits (drop j gs) count (512 - j) j (runs s (rest ns p i)) ≡ regions_ok ns gs count

pub data Course (ns : List Node) (gs : List Region) (count j s p i : ℕ) : Type 0 where
  on : On ns gs count j s p i → Course ns gs count j s p i
  off : Place ns p i → s + length (rest ns p i) < length (rows ns) → regions_ok ns gs count ≡ false → Course ns gs count j s p i

-- a region that begins rightly is the right one if its length is right
module _ (g : Region) (s p i n most : ℕ) where
  same_parts : same_region g (region s p i n) ≡ true → (g.start ≡ s) × (g.node ≡ p) × (g.offset ≡ i) × (g.length ≡ n)
  same_parts e = (search parted, search parted, search parted, search parted)

  begins_parts : begins g s p i most ≡ true → (g.start ≡ s) × (g.node ≡ p) × (g.offset ≡ i) × (0 < g.length) × (g.length ≤ most)
  begins_parts e =
      let a = both (eqb g.start s) (eqb g.node p && (eqb g.offset i && (ltb 0 g.length && leb g.length most))) e in
      let b = both (eqb g.node p) (eqb g.offset i && (ltb 0 g.length && leb g.length most)) a.1 in
      let c = both (eqb g.offset i) (ltb 0 g.length && leb g.length most) b.1 in
      let d = both (ltb 0 g.length) (leb g.length most) c.1 in
      (eqb-true _ _ a.0, eqb-true _ _ b.0, eqb-true _ _ c.0, ltb-true _ _ d.0, leb-true _ _ d.1)

  unlike : (same_region g (region s p i n) ≡ true → ⊥) → same_region g (region s p i n) ≡ false
  unlike h = go (same_region g (region s p i n)) refl
    where
      go : (b : Bool) → same_region g (region s p i n) ≡ b → b ≡ false
      go true e = absurd (h e)
      go false e = refl

  begins_not : begins g s p i most ≡ false → 0 < n → n ≤ most → same_region g (region s p i n) ≡ false
  begins_not e a b =
      unlike (λ t. let q = same_parts t in
      differ (and (eq-eqb _ _ q.0) (and (eq-eqb _ _ q.1) (and (eq-eqb _ _ q.2) (and (lt-ltb 0 g.length (omega (arith, q.3))) (le-leb g.length most (omega (arith, q.3))))))) e)

  begins_same : begins g s p i most ≡ true → g.length ≡ n → same_region g (region s p i n) ≡ true
  begins_same e z = let q = begins_parts e in and (and (and (eq-eqb _ _ q.0) (eq-eqb _ _ q.1)) (eq-eqb _ _ q.2)) (eq-eqb _ _ z)

  length_not : g.length ≢ n → same_region g (region s p i n) ≡ false
  length_not d = unlike (λ t. d (same_parts t).3)

  node_not : g.node ≢ p → same_region g (region s p i n) ≡ false
  node_not d = unlike (λ t. d (same_parts t).1)

-- the open child that the next region names
next_parts : (n : Node) (c p y : ℕ) → is_next n c p y ≡ true → (0 < c) × (n.«open» ≡ true) × (n.parent ≡ p) × (n.index ≡ y)
next_parts n c p y e = (search parted, search parted, search parted, search parted)

module _ (ns : List Node) (w : WellFormed ns) (gs : List Region) (size : length gs ≡ 512) (count : ℕ) where
  -- the test of all regions
  abbrev whole : Bool
  whole = regions_ok ns gs count

  next_child_lem : (c p y : ℕ) → is_next (node_at ns (suc c)) (suc c) p y ≡ true → open_child ns p y ≡ suc c
  next_child_lem c p y e = let q = next_parts (node_at ns (suc c)) (suc c) p y e in rw (q.2, q.3) at (child_by_is ns w is_open c (λ n o. rw o) q.1)

  next_none : (d p y : ℕ) → is_next (node_at ns d) d p y ≡ false → (k : ℕ) → open_child ns p y ≡ suc k → d ≢ suc k
  next_none d p y f k o z =
      let q = open_child_lem ns w p y k o in
      differ (rw z (and (lt-ltb 0 (suc k) (omega arith)) (and q.0 (and (eq-eqb _ _ q.1) (eq-eqb _ _ q.2))))) f

  -- a number past the nodes names no open child
  pub next_past : (d p y : ℕ) → length ns ≤ d → is_next (node_at ns d) d p y ≡ false
  next_past d p y l = ap (λ (n : Node). is_next n d p y) (node_past ns d l) ∙ fail_r (ltb 0 d) _ refl

  pub course_place : (j s p i : ℕ) → Course ns gs count j s p i → Place ns p i
  course_place j s p i (on a) = a.there
  course_place j s p i (off h l e) = h

  pub course_start : Course ns gs count 0 0 0 0
  unfolding fits regions_ok
  course_start = on (record {
    there = record { opened = zero_open ns w; within = omega arith };
    left = omega (arith, ap length (rest_all ns w));
    verdict =
        let z : 0 + length (runs 0 (rows ns)) ≡ length (runs 0 (rows ns)) = omega arith in
        ap (λ (xs : List Row). fits gs count 512 0 (runs 0 xs)) (rest_all ns w) ∙ rw z;
  })

  pub course_up : (j s p i : ℕ) → p ≢ 0 → direct_of ns p ≤ i → Course ns gs count j s p i → Course ns gs count j s (up ns p) (ix ns p + 1)
  course_up j s zero i d l c = absurd (d refl)
  course_up j s (suc k) i d l c = go c
    where
      place : Opens ns (suc k) → Place ns (up ns (suc k)) (ix ns (suc k) + 1)
      place o = let q = w.placed k (open_used ns (suc k) o) in record { opened = q.above; within = omega (arith, q.inside) }

      same : Opens ns (suc k) → rest ns (up ns (suc k)) (ix ns (suc k) + 1) ≡ rest ns (suc k) i
      same o = ap (rest ns (up ns (suc k))) (add-one (ix ns (suc k))) ∙ rest_up ns w k i o l

      go : Course ns gs count j s (suc k) i → Course ns gs count j s (up ns (suc k)) (ix ns (suc k) + 1)
      go (on a) =
          let e = same a.there.opened in
          on (record {
            there = place a.there.opened;
            left = ap (λ (xs : List Row). s + length xs) e ∙ a.left;
            verdict = ap (λ (xs : List Row). fits (drop j gs) count (512 - j) j (runs s xs)) e ∙ a.verdict;
          })
      go (off h b e) = off (place h.opened) (omega (arith, ap length (same h.opened))) e

  -- the rows have ended, and a region is left
  pub course_ended : (j s p i : ℕ) → p ≡ 0 → direct_of ns p ≤ i → j < count → Course ns gs count j s p i → false ≡ whole
  unfolding runs
  course_ended j s (suc p) i z l b c = absurd (omega arith)
  course_ended j s zero i z l b (on a) =
      sym (fits_count (drop j gs) count (512 - j) j [] (λ e. omega arith)) ∙
      ap (λ (xs : List Row). fits (drop j gs) count (512 - j) j (runs s xs)) (sym (rest_none ns w i l)) ∙ a.verdict
  course_ended j s zero i z l b (off h q e) = sym e

  -- the regions have ended
  pub course_end : (j s p i : ℕ) → j ≡ count → Course ns gs count j s p i → (eqb s (length (rows ns)) && zero_from gs j) ≡ whole
  unfolding runs
  course_end j s p i z (off h q e) = fail_l _ _ (ne_eqb s (length (rows ns)) (λ d. omega arith)) ∙ sym e
  course_end j s p i z (on a) = go (ℕ_discrete s (length (rows ns)))
    where
      none : (xs : List Row) → length xs ≡ 0 → xs ≡ []
      none [] e = refl
      none (x ∷ xs) e = absurd (omega arith)

      go : Dec (s ≡ length (rows ns)) → (eqb s (length (rows ns)) && zero_from gs j) ≡ whole
      go (yes d) =
          ap (λ (b : Bool). b && zero_from gs j) (eq-eqb s (length (rows ns)) d) ∙ sym (fits_none (drop j gs) count (512 - j) j (sym z)) ∙
          ap (λ (xs : List Row). fits (drop j gs) count (512 - j) j (runs s xs)) (sym (none (rest ns p i) (omega (arith, a.left)))) ∙ a.verdict
      go (no d) =
          fail_l _ _ (ne_eqb s (length (rows ns)) d) ∙
          sym (fits_count (drop j gs) count (512 - j) j (runs s (rest ns p i)) (λ e. omega (arith, runs_some s (rest ns p i) (omega (arith, a.left))))) ∙ a.verdict

  -- on course, the next region is to be the next run of rows
  module _ (j s p i n q x : ℕ) (l : j < 512) (a : On ns gs count j s p i) (e : rest ns p i ≡ stretch p i (suc n) ++ rest ns q x) (h : HeadNot p (rest ns q x)) where
    turn : (same_region (region_at gs j) (region s p i (suc n)) && fits (drop (j + 1) gs) count (512 - (j + 1)) (j + 1) (runs (s + suc n) (rest ns q x))) ≡ whole
    turn =
        sym (fits_at gs count j (region s p i (suc n)) (runs (s + suc n) (rest ns q x)) size l) ∙
        ap (fits (drop j gs) count (512 - j) j) (sym (ap (runs s) e ∙ runs_stretch s p i n (rest ns q x) h)) ∙ a.verdict

    bad : same_region (region_at gs j) (region s p i (suc n)) ≡ false → whole ≡ false
    bad f = sym turn ∙ fail_l _ _ f

    good : same_region (region_at gs j) (region s p i (suc n)) ≡ true → Place ns q x → On ns gs count (j + 1) (s + suc n) q x
    good f there = record {
      there = there;
      left = omega (arith, a.left, ap length e, length_stretch p i (suc n) (rest ns q x));
      verdict = sym (ap (λ (b : Bool). b && fits (drop (j + 1) gs) count (512 - (j + 1)) (j + 1) (runs (s + suc n) (rest ns q x))) f) ∙ turn;
    }

  ahead : (p i : ℕ) → i < direct_of ns p → Next ns w p i
  ahead p i l = next ns w p (direct_of ns p - suc i) i (omega arith)

  child_place : (p z c : ℕ) → open_child ns p z ≡ suc c → Place ns (suc c) 0
  child_place p z c e = record { opened = (open_child_lem ns w p z c e).0; within = omega arith }

  -- the next region names another node than the walk's
  lost : (j s c : ℕ) → j < 512 → 0 < direct_of ns (suc c) → (region_at gs j).node ≢ suc c → On ns gs count j s (suc c) 0 → whole ≡ false
  lost j s c l f d a = go (ahead (suc c) 0 f)
    where
      go : Next ns w (suc c) 0 → whole ≡ false
      go (to_end n q h r) = bad j s (suc c) 0 n (suc c) (direct_of ns (suc c)) l a r (end_not ns w (suc c) a.there.opened) (node_not (region_at gs j) s (suc c) 0 (suc n) 0 d)
      go (to_child n k q z h r) = bad j s (suc c) 0 n (suc k) 0 l a r (child_not ns w (suc c) (0 + n) k z) (node_not (region_at gs j) s (suc c) 0 (suc n) 0 d)

  module _ (j s p i : ℕ) (l : j + 1 < 512) (inside : i < direct_of ns p) where
    abbrev g : Region
    g = region_at gs j

    -- the region does not begin here, or has no rows, or too many
    pub course_bad : begins (region_at gs j) s p i (direct_of ns p - i) ≡ false → Course ns gs count j s p i → false ≡ whole
    course_bad b (off h q e) = sym e
    course_bad b (on a) = sym (go (ahead p i inside))
      where
        go : Next ns w p i → whole ≡ false
        go (to_end n q h r) = bad j s p i n p (direct_of ns p) (omega arith) a r (end_not ns w p a.there.opened) (begins_not (region_at gs j) s p i (suc n) (direct_of ns p - i) b (omega arith) (omega arith))
        go (to_child n c q z h r) = bad j s p i n (suc c) 0 (omega arith) a r (child_not ns w p (i + n) c z) (begins_not (region_at gs j) s p i (suc n) (direct_of ns p - i) b (omega arith) (omega arith))

    module _ (b : begins (region_at gs j) s p i (direct_of ns p - i) ≡ true) where
      facts : (g.start ≡ s) × (g.node ≡ p) × (g.offset ≡ i) × (0 < g.length) × (g.length ≤ direct_of ns p - i)
      facts = begins_parts g s p i 0 (direct_of ns p - i) b

      pub course_length : (0 < (region_at gs j).length) × ((region_at gs j).length ≤ direct_of ns p - i)
      course_length = (facts.3, facts.4)

      pub course_fits : Course ns gs count j s p i → s + (region_at gs j).length ≤ length (rows ns)
      course_fits (on a) = omega (arith, a.left, skip_length ns w p g.length i (omega (arith, facts.4)))
      course_fits (off h q e) = omega (arith, q, skip_length ns w p g.length i (omega (arith, facts.4)))

      -- the region's last row is an open child's
      enters : (y c : ℕ) → y + 1 ≡ i + (region_at gs j).length → open_child ns p y ≡ suc c → Course ns gs count j s p i → Course ns gs count (j + 1) (s + (region_at gs j).length) (suc c) 0
      enters y c k o (off h q e) =
          let z : i + (y - i) ≡ y = omega (arith, facts.3) in
          off (child_place p y c o) (omega (arith, facts.4, facts.3, rw z at (skip_length ns w p (y - i) i (omega (arith, facts.4, facts.3))), open_length ns w p y c (omega (arith, facts.4, facts.3)) o)) e
      enters y c k o (on a) = go (ahead p i inside)
        where
          z : i + (y - i) ≡ y
          z = omega (arith, facts.3)

          low : y < direct_of ns p
          low = omega (arith, facts.4, facts.3)

          go : Next ns w p i → Course ns gs count (j + 1) (s + g.length) (suc c) 0
          go (to_end n q h r) = absurd (omega (arith, h y (omega (arith, facts.3)) low))
          go (to_child n d q f h r) = three (ℕ_discrete (i + n) y) (dec_lt (i + n) y)
            where
              three : Dec (i + n ≡ y) → Dec (i + n < y) → Course ns gs count (j + 1) (s + g.length) (suc c) 0
              three (yes m) v =
                  let same : suc d ≡ suc c = sym f ∙ ap (open_child ns p) m ∙ o in
                  let e : g.length ≡ suc n = omega (arith, facts.3) in
                  rw (e, ← same) (on (good j s p i n (suc d) 0 (omega arith) a r (child_not ns w p (i + n) d f) (begins_same g s p i (suc n) (direct_of ns p - i) b e) (child_place p (i + n) d f)))
              three (no m) (yes v) =
                  off (child_place p y c o)
                  (omega (arith, a.left, facts.3, rw z at (over_child ns w p (y - i) i (i + n) d (omega (arith, low)) (omega arith) (omega arith) f), open_length ns w p y c low o))
                  (bad j s p i n (suc d) 0 (omega arith) a r (child_not ns w p (i + n) d f) (length_not g s p i (suc n) 0 (λ e. omega arith)))
              three (no m) (no v) = absurd (omega (arith, h y (omega (arith, facts.3)) (omega arith)))

      pub course_in : (c : ℕ) → is_next (node_at ns c) c p (i + (region_at gs j).length - 1) ≡ true → Course ns gs count j s p i → Course ns gs count (j + 1) (s + (region_at gs j).length) c 0
      course_in zero e a = absurd (omega (arith, (next_parts (node_at ns 0) 0 p (i + (region_at gs j).length - 1) e).0))
      course_in (suc c) e a = enters (i + (region_at gs j).length - 1) c (omega (arith, facts.3)) (next_child_lem c p (i + (region_at gs j).length - 1) e) a

      -- the next region names no open child at the region's last row
      module _ (none : is_next (node_at ns (region_at gs (j + 1)).node) (region_at gs (j + 1)).node p (i + (region_at gs j).length - 1) ≡ false) where
        -- an open child at the region's end, or before it
        missed : (n c : ℕ) → i + n < direct_of ns p → open_child ns p (i + n) ≡ suc c → rest ns p i ≡ stretch p i (suc n) ++ rest ns (suc c) 0 → On ns gs count j s p i → whole ≡ false
        missed n c q f r a = go (ℕ_discrete g.length (suc n))
          where
            go : Dec (g.length ≡ suc n) → whole ≡ false
            go (yes e) =
                let o = (open_child_lem ns w p (i + n) c f).0 in
                let y : i + (region_at gs j).length - 1 ≡ i + n = omega arith in
                lost (j + 1) (s + suc n) c l ((w.placed c (open_used ns (suc c) o)).filled o) (next_none (region_at gs (j + 1)).node p (i + n) (rw y at none) c f)
                (good j s p i n (suc c) 0 (omega arith) a r (child_not ns w p (i + n) c f) (begins_same g s p i (suc n) (direct_of ns p - i) b e) (child_place p (i + n) c f))
            go (no e) = bad j s p i n (suc c) 0 (omega arith) a r (child_not ns w p (i + n) c f) (length_not g s p i (suc n) 0 e)

        pub course_along : i + (region_at gs j).length ≡ direct_of ns p → Course ns gs count j s p i → Course ns gs count (j + 1) (s + (region_at gs j).length) p (i + (region_at gs j).length)
        course_along z (off h q e) = off (record { opened = h.opened; within = omega arith }) (omega (arith, q, skip_length ns w p g.length i (omega arith))) e
        course_along z (on a) = go (ahead p i inside)
          where
            place : Place ns p (i + g.length)
            place = record { opened = a.there.opened; within = omega arith }

            go : Next ns w p i → Course ns gs count (j + 1) (s + g.length) p (i + g.length)
            go (to_end n q h r) =
                let e : g.length ≡ suc n = omega arith in
                let y : direct_of ns p ≡ i + suc n = omega arith in
                rw e (on (good j s p i n p (i + suc n) (omega arith) a (r ∙ ap (λ (x : ℕ). stretch p i (suc n) ++ rest ns p x) y) (rw (← y) (end_not ns w p a.there.opened)) (begins_same g s p i (suc n) (direct_of ns p - i) b e) (rw (← e) place)))
            go (to_child n c q f h r) =
                off place (omega (arith, a.left, over_child ns w p g.length i (i + n) c (omega arith) (omega arith) (omega arith) f)) (missed n c q f r a)

        pub course_stuck : i + (region_at gs j).length ≢ direct_of ns p → Course ns gs count j s p i → false ≡ whole
        course_stuck z (off h q e) = sym e
        course_stuck z (on a) = sym (go (ahead p i inside))
          where
            go : Next ns w p i → whole ≡ false
            go (to_end n q h r) = bad j s p i n p (direct_of ns p) (omega arith) a r (end_not ns w p a.there.opened) (length_not g s p i (suc n) 0 (λ e. z (omega arith)))
            go (to_child n c q f h r) = missed n c q f r a

-- there are never so many regions
pub regions_many : (ns : List Node) → WellFormed ns → (gs : List Region) (count : ℕ) → 512 ≤ count → regions_ok ns gs count ≡ false
unfolding regions_ok
regions_many ns w gs count l =
    fail_r (same_list same_region gs (pad 512 no_region (runs 0 (rows ns)))) (eqb count (length (runs 0 (rows ns)))) (ne_eqb count (length (runs 0 (rows ns))) (λ e. omega (arith, regions_fit ns w)))
