-- The region that holds a row: what the search answers for regions that tile the rows, and which row it is.
use mathlib.Core.Path.{◌≡◌, refl, sym, ap, ◌∙◌}
use mathlib.Core.Bool.{Bool, true, false, cond, ◌&&◌}
use mathlib.Core.List.{List, [], ◌∷◌}
use Prim.Native.Nat.{ℕ, zero, suc, ◌+◌, ◌-◌, ◌≤◌, ◌<◌}
use native.Mathlib.Decide.{dec_lt}
use native.Mathlib.Omega.{arith}
use native.Mathlib.Nat.{sub-zero, add-zero, zero-add}
use lib.Dec.{leb, ltb}
use lib.ListN.{length, get_or, get_or-append}
use lib.Seq.{get_or-append-add}
use borrow.Author.Tests.{ltb-true, leb-true, leb-false, le-leb, lt-ltb, le-ltb}
use Rattle.model.specs.declared.Region.{Region}
use Rattle.std.specs.Prelude.{Some, None}
use Rattle.std.specs.List.Sorted.{IsPartitionedBy, IsPartitionPoint}
use Rattle.std.proofs.lemmas.List.Sorted.{IsNonDecreasingBy-from_default, IsPartitionedBy-leb}
use Rattle.model.specs.Rows.{Row}
use Rattle.model.specs.Regions.{no_region}
use Rattle.runs.specs.Regions.{stretch, region_rows, spread, total, at, Tiled}
use Rattle.runs.specs.Search.{holds, region_from, region_at, child_at, Holds, Last}

-- where regions start
start_least : (s : ℕ) (gs : List Region) → Tiled s gs → (i : ℕ) → i < length gs → s ≤ (at gs i).start
start_least s [] t i h = absurd (omega arith)
start_least s (q ∷ gs) t zero h = omega arith
start_least s (q ∷ gs) t (suc i) h = omega (arith, start_least (s + q.length) gs t.2 i (omega arith))

start_next : (s : ℕ) (gs : List Region) → Tiled s gs → (i : ℕ) → suc i < length gs → (at gs (suc i)).start ≡ (at gs i).start + (at gs i).length
start_next s [] t i h = absurd (omega arith)
start_next s (q ∷ []) t i h = absurd (omega arith)
start_next s (q ∷ z ∷ gs) t zero h = omega arith
start_next s (q ∷ z ∷ gs) t (suc i) h = start_next (s + q.length) (z ∷ gs) t.2 i (omega arith)

start_last : (s : ℕ) (gs : List Region) → Tiled s gs → (i : ℕ) → suc i ≡ length gs → (at gs i).start + (at gs i).length ≡ s + total gs
start_last s [] t i h = absurd (omega arith)
start_last s (q ∷ []) t zero h = omega arith
start_last s (q ∷ []) t (suc i) h = absurd (omega arith)
start_last s (q ∷ z ∷ gs) t zero h = absurd (omega arith)
start_last s (q ∷ z ∷ gs) t (suc i) h = omega (arith, start_last (s + q.length) (z ∷ gs) t.2 i (omega arith))

pub end_le : (s : ℕ) (gs : List Region) → Tiled s gs → (i : ℕ) → i < length gs → (at gs i).start + (at gs i).length ≤ s + total gs
end_le s [] t i h = absurd (omega arith)
end_le s (q ∷ gs) t zero h = omega arith
end_le s (q ∷ gs) t (suc i) h = omega (arith, end_le (s + q.length) gs t.2 i (omega arith))

pub start_after : (s : ℕ) (gs : List Region) → Tiled s gs → (i k : ℕ) → i < k → k < length gs → (at gs i).length ≤ (at gs k).start
start_after s [] t i k h l = absurd (omega arith)
start_after s (q ∷ gs) t i zero h l = absurd (omega arith)
start_after s (q ∷ gs) t zero (suc k) h l = omega (arith, start_least (s + q.length) gs t.2 k (omega arith))
start_after s (q ∷ gs) t (suc i) (suc k) h l = start_after (s + q.length) gs t.2 i k (omega arith) (omega arith)

start_rises : (s : ℕ) (gs : List Region) → Tiled s gs → (i j : ℕ) → i ≤ j → j < length gs → (at gs i).start ≤ (at gs j).start
start_rises s [] t i j h l = absurd (omega arith)
start_rises s (q ∷ gs) t zero zero h l = omega arith
start_rises s (q ∷ gs) t zero (suc j) h l = omega (arith, start_least (s + q.length) gs t.2 j (omega arith))
start_rises s (q ∷ gs) t (suc i) zero h l = absurd (omega arith)
start_rises s (q ∷ gs) t (suc i) (suc j) h l = start_rises (s + q.length) gs t.2 i j (omega arith) (omega arith)

pub first_start : (s : ℕ) (gs : List Region) → Tiled s gs → 0 < length gs → (at gs 0).start ≡ s
first_start s [] t h = absurd (omega arith)
first_start s (q ∷ gs) t h = t.0

no_rows : (gs : List Region) → ¬ 0 < length gs → total gs ≡ 0
no_rows [] b = refl
no_rows (g ∷ gs) b = absurd (omega arith)

-- what the search answers
region_hit : (s k : ℕ) (gs : List Region) → Tiled s gs → (r i : ℕ) → Holds gs r i → region_from k gs r ≡ Some (k + i)
unfolding region_from
region_hit s k [] t r i h = absurd (omega (arith, h.below))
region_hit s k (g ∷ gs) t r zero h = rw (le-leb g.start r h.low, lt-ltb r (g.start + g.length) h.high, add-zero)
region_hit s k (g ∷ gs) t r (suc i) h =
    let past : s + g.length ≤ r = omega (arith, start_least (s + g.length) gs t.2 i (omega (arith, h.below)), h.low) in
    let e : suc k + i ≡ k + suc i = omega arith in
    rw (le-leb g.start r (omega arith), le-ltb r (g.start + g.length) (omega arith))
    (region_hit (s + g.length) (suc k) gs t.2 r i (record { below = omega (arith, h.below); low = h.low; high = h.high }) ∙ ap Some e)

region_none : (s k : ℕ) (gs : List Region) → Tiled s gs → (r : ℕ) → s + total gs ≤ r → region_from k gs r ≡ None
unfolding region_from
region_none s k [] t r h = refl
region_none s k (g ∷ gs) t r h =
    rw (le-leb g.start r (omega arith), le-ltb r (g.start + g.length) (omega arith)) (region_none (s + g.length) (suc k) gs t.2 r (omega arith))

and_true : (a b : Bool) → (a && b) ≡ true → (a ≡ true) × (b ≡ true)
and_true true b e = (refl, e)
and_true false b e = let z : ◌≡◌ {A = ℕ} 0 1 = cc in absurd (omega arith)

-- an answer holds the row, in any list
region_holds : (k : ℕ) (gs : List Region) (r i : ℕ) → region_from k gs r ≡ Some i → (k ≤ i) × Holds gs r (i - k)
unfolding region_from
region_holds k [] r i e = let z : ◌≡◌ {A = ℕ} 0 1 = cc in absurd (omega arith)
region_holds k (g ∷ gs) r i e = go (λ f. region_holds (suc k) gs r i f) (holds g r) refl e
  where
    go : (region_from (suc k) gs r ≡ Some i → (suc k ≤ i) × Holds gs r (i - suc k)) → (b : Bool) → holds g r ≡ b → cond b (Some k) (region_from (suc k) gs r) ≡ Some i → (k ≤ i) × Holds (g ∷ gs) r (i - k)
    go rest true q f =
        let ki : k ≡ i = cc in
        let z : i - k ≡ 0 = omega arith in
        let b = and_true (leb g.start r) (ltb r (g.start + g.length)) q in
        (omega arith, rw z (record { below = omega arith; low = leb-true _ _ b.0; high = ltb-true _ _ b.1 }))
    go rest false q f =
        let h = rest f in
        let z : i - k ≡ suc (i - suc k) = omega (arith, h.0) in
        (omega (arith, h.0), rw z (record { below = omega (arith, h.1.below); low = h.1.low; high = h.1.high }))

-- a row of the total is held
some_holds : (s : ℕ) (gs : List Region) → Tiled s gs → (r : ℕ) → s ≤ r → r < s + total gs → (i : ℕ) × Holds gs r i
some_holds s [] t r l h = absurd (omega arith)
some_holds s (g ∷ gs) t r l h = go (dec_lt r (s + g.length)) (λ b. some_holds (s + g.length) gs t.2 r b (omega arith))
  where
    go : Dec (r < s + g.length) → (s + g.length ≤ r → (i : ℕ) × Holds gs r i) → (i : ℕ) × Holds (g ∷ gs) r i
    go (yes b) f = (0, record { below = omega arith; low = omega arith; high = omega arith })
    go (no b) f = let w = f (omega arith) in (suc w.0, record { below = omega (arith, w.1.below); low = w.1.low; high = w.1.high })

module _ (gs : List Region) (t : Tiled 0 gs) (r : ℕ) where
  pub hit_at : (i : ℕ) → Holds gs r i → region_at gs r ≡ Some i
  unfolding region_at
  hit_at i h = region_hit 0 0 gs t r i h ∙ ap Some (zero-add i)

  pub none_at : total gs ≤ r → region_at gs r ≡ None
  unfolding region_at
  none_at h = region_none 0 0 gs t r (omega arith)

  -- region i is the last that starts at or before row r: it holds the row, or the row is past them all
  last_total : (i : ℕ) → Last gs r i → (at gs i).start + (at gs i).length ≤ r → total gs ≤ r
  last_total i l h = go (dec_lt (suc i) (length gs))
    where
      go : Dec (suc i < length gs) → total gs ≤ r
      go (yes b) = absurd (omega (arith, l.next b, start_next 0 gs t i b))
      go (no b) = omega (arith, start_last 0 gs t i (omega (arith, l.below)))

  pub last_holds : (i : ℕ) → Last gs r i → r < total gs → Holds gs r i
  last_holds i l h = record { below = l.below; low = l.low; high = go (dec_lt r ((at gs i).start + (at gs i).length)) }
    where
      go : Dec (r < (at gs i).start + (at gs i).length) → r < (at gs i).start + (at gs i).length
      go (yes b) = b
      go (no b) = absurd (omega (arith, last_total i l (omega arith)))

  pub last_hit : (i : ℕ) → Last gs r i → r - (at gs i).start < (at gs i).length → Some i ≡ region_at gs r
  last_hit i l h = sym (hit_at i (record { below = l.below; low = l.low; high = omega (arith, l.low) }))

  pub last_none : (i : ℕ) → Last gs r i → (at gs i).length ≤ r - (at gs i).start → None ≡ region_at gs r
  last_none i l h = sym (none_at (last_total i l (omega (arith, l.low))))

  -- cut where the starts pass row r: what comes before the cut has the last region that starts at or before it
  abbrev pub Cut : ℕ → Type 0
  Cut n = IsPartitionPoint (λ (g : Region). leb g.start r ≡ true) (λ (g : Region). leb g.start r ≡ false) gs n

  pub starts_parted : IsPartitionedBy (λ (g : Region). leb g.start r) gs
  starts_parted = IsPartitionedBy-leb (λ (g : Region). g.start) gs r (IsNonDecreasingBy-from_default (λ (g : Region). g.start) gs no_region (start_rises 0 gs t))

  pub cut_last : (n : ℕ) → Cut n → 0 < n → n ≤ length gs → Last gs r (n - 1)
  cut_last n p some fits =
      record {
        below = omega arith;
        low = leb-true _ _ (p.0 (n - 1) no_region (omega arith) (omega arith));
        next = λ h. leb-false _ _ (p.1 (suc (n - 1)) no_region (omega arith) h);
      }

  pub cut_none : Cut 0 → None ≡ region_at gs r
  cut_none p = go (dec_lt 0 (length gs))
    where
      go : Dec (0 < length gs) → None ≡ region_at gs r
      go (yes b) = absurd (omega (arith, first_start 0 gs t b, leb-false _ _ (p.1 0 no_region (omega arith) b)))
      go (no b) = sym (none_at (omega (arith, no_rows gs b)))

  -- None exactly at and past the total
  pub none_past : region_at gs r ≡ None → total gs ≤ r
  none_past e = go (dec_lt r (total gs))
    where
      go : Dec (r < total gs) → total gs ≤ r
      go (yes b) =
          let w = some_holds 0 gs t r (omega arith) (omega arith) in
          let f : Some w.0 ≡ None = sym (hit_at w.0 w.1) ∙ e in
          let z : ◌≡◌ {A = ℕ} 0 1 = cc in
          absurd (omega arith)
      go (no b) = omega arith

pub at_holds : (gs : List Region) (r i : ℕ) → region_at gs r ≡ Some i → Holds gs r i
unfolding region_at
at_holds gs r i e = rw sub-zero at (region_holds 0 gs r i e).1

-- the row that a region holds
pub length_stretch : (k i n : ℕ) → length (stretch k i n) ≡ n
length_stretch k i zero = refl
length_stretch k i (suc n) = ap suc (length_stretch k (suc i) n)

get_or_stretch : (k i n j : ℕ) (d : Row) → j < n → get_or (stretch k i n) j d ≡ (k, i + j)
get_or_stretch k i zero j d h = absurd (omega arith)
get_or_stretch k i (suc n) zero d h = ap (λ (m : ℕ). (k, m)) (omega arith)
get_or_stretch k i (suc n) (suc j) d h = get_or_stretch k (suc i) n j d (omega arith) ∙ ap (λ (m : ℕ). (k, m)) (omega arith)

row_from : (s : ℕ) (gs : List Region) → Tiled s gs → (r i : ℕ) (d : Row) → Holds gs r i → get_or (spread gs) (r - s) d ≡ ((at gs i).node, child_at (at gs i) r)
row_from s [] t r i d h = absurd (omega (arith, h.below))
row_from s (q ∷ gs) t r zero d h =
    rw (← t.0, get_or-append (region_rows q) (spread gs) d (r - q.start) (rw length_stretch (omega (arith, h.low, h.high)))) (get_or_stretch q.node q.offset q.length (r - q.start) d (omega (arith, h.low, h.high)))
row_from s (q ∷ gs) t r (suc i) d h =
    ap (λ (m : ℕ). get_or (spread (q ∷ gs)) m d) e ∙ get_or-append-add (region_rows q) (spread gs) (r - (s + q.length)) d
    ∙ row_from (s + q.length) gs t.2 r i d (record { below = omega (arith, h.below); low = h.low; high = h.high })
  where
    e : r - s ≡ length (region_rows q) + (r - (s + q.length))
    e = rw length_stretch (omega (arith, start_least (s + q.length) gs t.2 i (omega (arith, h.below)), h.low))

-- the row that the search finds: its parent, and its index there
pub row_at : (gs : List Region) → Tiled 0 gs → (r i : ℕ) (d : Row) → region_at gs r ≡ Some i → get_or (spread gs) r d ≡ ((at gs i).node, child_at (at gs i) r)
row_at gs t r i d e = rw sub-zero at (row_from 0 gs t r i d (at_holds gs r i e))
