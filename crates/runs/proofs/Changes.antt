-- What the operations do to the rows: each result, with neighbours merged, is `runs 0` of the changed rows.
use mathlib.Core.Path.{◌≡◌, refl, sym, ap, ◌∙◌}
use mathlib.Core.Logic.{◌≢◌}
use mathlib.Core.List.{List, [], ◌∷◌, ◌++◌, map, append_assoc}
use Prim.Native.Nat.{ℕ, zero, suc, ◌+◌, ◌-◌, ◌≤◌, ◌<◌}
use native.Mathlib.Omega.{arith}
use native.Mathlib.Nat.{add_assoc, add-zero}
use lib.ListN.{length, take, drop, length-append, take-append-drop}
use lib.Seq.{split_at}
use Rattle.model.specs.declared.Region.{Region}
use Rattle.model.specs.Rows.{Row}
use Rattle.model.specs.Regions.{region, no_region, runs}
use Rattle.runs.specs.Edits.{insert, remove}
use Rattle.runs.specs.Regions.{stretch, region_rows, spread, total, at, Tiled, Apart, Separate, Normal, Absent}
use Rattle.runs.specs.Search.{child_at, Holds}
use Rattle.runs.specs.Changes.{joined, moved, resized, span, expanded, collapsed, grown}
use Rattle.runs.proofs.Edits.{insert_between, remove_between}
use Rattle.runs.proofs.Runs.{stretch_append, joined_runs, runs_spread}
use Rattle.runs.proofs.Search.{length_stretch}

-- lists of regions end to end
pub length_spread : (gs : List Region) → length (spread gs) ≡ total gs
length_spread [] = refl
length_spread (g ∷ gs) = rw (length-append, length_stretch, length_spread gs)

spread_append : (ps qs : List Region) → spread (ps ++ qs) ≡ spread ps ++ spread qs
spread_append [] qs = refl
spread_append (p ∷ ps) qs = rw (spread_append ps qs, append_assoc)

total_append : (ps qs : List Region) → total (ps ++ qs) ≡ total ps + total qs
total_append [] qs = omega arith
total_append (p ∷ ps) qs = omega (arith, total_append ps qs)

tiled_split : (s : ℕ) (ps qs : List Region) → Tiled s (ps ++ qs) → Tiled s ps × Tiled (s + total ps) qs
tiled_split s [] qs t = (tt, rw add-zero t)
tiled_split s (p ∷ ps) qs t = let r = tiled_split (s + p.length) ps qs t.2 in ((t.0, t.1, r.0), rw (← add_assoc) r.1)

tiled_append : (s : ℕ) (ps qs : List Region) → Tiled s ps → Tiled (s + total ps) qs → Tiled s (ps ++ qs)
tiled_append s [] qs t u = rw add-zero at u
tiled_append s (p ∷ ps) qs t u = (t.0, t.1, tiled_append (s + p.length) ps qs t.2 (rw add_assoc u))

separate_after : (ps qs : List Region) → Separate (ps ++ qs) → Separate qs
separate_after [] qs h = h
separate_after (p ∷ ps) qs h = separate_after ps qs h.1

-- what stands before a region stays, where one of the same node takes its place
separate_swap : (ps : List Region) (q z : Region) (ns zs : List Region) → z.node ≡ q.node → Separate (ps ++ q ∷ ns) → Separate (z ∷ zs) → Separate (ps ++ z ∷ zs)
separate_swap [] q z ns zs e h k = k
separate_swap (p ∷ []) q z ns zs e h k = (rw e h.0, k)
separate_swap (p ∷ o ∷ ps) q z ns zs e h k = (h.0, separate_swap (o ∷ ps) q z ns zs e h.1 k)

-- starts moved
module _ (a b : ℕ) where
  tiled_moved : (s : ℕ) (gs : List Region) → b ≤ s + a → Tiled s gs → Tiled (s + a - b) (map (moved a b) gs)
  tiled_moved s [] h t = tt
  tiled_moved s (g ∷ gs) h t =
      let e : s + g.length + a - b ≡ s + a - b + g.length = omega arith in
      (ap (λ (x : ℕ). x + a - b) t.0, t.1, rw e at (tiled_moved (s + g.length) gs (omega arith) t.2))

  spread_moved : (gs : List Region) → spread (map (moved a b) gs) ≡ spread gs
  spread_moved [] = refl
  spread_moved (g ∷ gs) = ap (λ (l : List Row). region_rows g ++ l) (spread_moved gs)

  total_moved_lem : (gs : List Region) → total (map (moved a b) gs) ≡ total gs
  total_moved_lem [] = refl
  total_moved_lem (g ∷ gs) = ap (λ (n : ℕ). g.length + n) (total_moved_lem gs)

  apart_moved : (k : ℕ) (gs : List Region) → Apart k gs → Apart k (map (moved a b) gs)
  apart_moved k [] h = tt
  apart_moved k (g ∷ gs) h = h

  separate_moved : (gs : List Region) → Separate gs → Separate (map (moved a b) gs)
  separate_moved [] h = tt
  separate_moved (g ∷ gs) h = (apart_moved g.node gs h.0, separate_moved gs h.1)

-- a part that may be without rows
module _ (s k i : ℕ) where
  tiled_span : (n : ℕ) (zs : List Region) → Tiled (s + n) zs → Tiled s (span s k i n ++ zs)
  tiled_span zero zs t = rw add-zero at t
  tiled_span (suc n) zs t = (refl, omega arith, t)

  spread_span : (n : ℕ) (zs : List Region) → spread (span s k i n ++ zs) ≡ stretch k i n ++ spread zs
  spread_span zero zs = refl
  spread_span (suc n) zs = refl

  separate_span : (n : ℕ) (zs : List Region) → Apart k zs → Separate zs → Separate (span s k i n ++ zs)
  separate_span zero zs a h = h
  separate_span (suc n) zs a h = (a, h)

  apart_span : (o n : ℕ) (zs : List Region) → o ≢ k → Apart o zs → Apart o (span s k i n ++ zs)
  apart_span o zero zs h a = a
  apart_span o (suc n) zs h a = h

-- region q, between ps and ns, cut after row r, and c rows of node k put in
module _ (ps : List Region) (q : Region) (ns : List Region) (r k c : ℕ) (low : q.start ≤ r) (high : r < q.start + q.length) (c0 : 0 < c) where
  abbrev before : ℕ
  before = r + 1 - q.start

  abbrev after : ℕ
  after = q.start + q.length - (r + 1)

  abbrev opened : List Region
  opened = resized before q ∷ region (r + 1) k 0 c ∷ (span (r + 1 + c) q.node (child_at q r + 1) after ++ map (moved c 0) ns)

  tiled_opened : (s : ℕ) → Tiled s (ps ++ q ∷ ns) → Tiled s (ps ++ opened)
  tiled_opened s t =
      let u = tiled_split s ps (q ∷ ns) t in
      let f : s + total ps + before ≡ r + 1 = omega (arith, u.1.0) in
      let e : s + total ps + q.length + c - 0 ≡ r + 1 + c + after = omega (arith, u.1.0) in
      tiled_append s ps opened u.0
      (u.1.0, omega arith, rw f (refl, c0, tiled_span (r + 1 + c) _ _ after (map (moved c 0) ns) (rw e at (tiled_moved c 0 (s + total ps + q.length) ns (omega arith) u.1.2))))

  abbrev kept : List Row
  kept = stretch q.node q.offset before

  abbrev rest : List Row
  rest = stretch q.node (child_at q r + 1) after

  spread_cut : spread (ps ++ q ∷ ns) ≡ (spread ps ++ kept) ++ (rest ++ spread ns)
  spread_cut =
      let e : q.length ≡ before + after = omega arith in
      let f : q.offset + before ≡ child_at q r + 1 = omega arith in
      let cut : region_rows q ≡ kept ++ rest = ap (stretch q.node q.offset) e ∙ stretch_append q.node q.offset before after ∙ ap (λ (n : ℕ). kept ++ stretch q.node n after) f in
      rw (spread_append ps (q ∷ ns), cut) (simp append_assoc)

  spread_opened : spread (ps ++ opened) ≡ insert (total ps + before) (stretch k 0 c) (spread (ps ++ q ∷ ns))
  spread_opened =
      rw (spread_append ps opened, spread_span, spread_moved c 0) (sym (append_assoc (spread ps) kept _))
      ∙ sym (insert_between (spread ps ++ kept) (rest ++ spread ns) (stretch k 0 c) (total ps + before) (rw (length-append, length_spread, length_stretch)))
      ∙ ap (insert (total ps + before) (stretch k 0 c)) (sym spread_cut)

  separate_opened : Separate (ps ++ q ∷ ns) → k ≢ q.node → Apart k ns → Separate (ps ++ opened)
  separate_opened h kq kn =
      let u = separate_after ps (q ∷ ns) h in
      separate_swap ps q (resized before q) ns _ refl h
      (λ e. kq (sym e), (apart_span _ _ _ k after _ kq (apart_moved c 0 k ns kn), separate_span _ _ _ after _ (apart_moved c 0 q.node ns u.0) (separate_moved c 0 ns u.1)))

-- by the region's place
parts : (gs : List Region) (i : ℕ) → i < length gs → take i gs ++ at gs i ∷ drop (suc i) gs ≡ gs
parts gs i h = sym (split_at gs i no_region h)

pub total_take : (s : ℕ) (gs : List Region) → Tiled s gs → (i : ℕ) → i < length gs → s + total (take i gs) ≡ (at gs i).start
total_take s [] t i h = absurd (omega arith)
total_take s (g ∷ gs) t zero h = omega arith
total_take s (g ∷ gs) t (suc i) h = omega (arith, total_take (s + g.length) gs t.2 i (omega arith))

absent_at : (k : ℕ) (gs : List Region) → Absent k gs → (i : ℕ) → i < length gs → k ≢ (at gs i).node
absent_at k [] a i h = absurd (omega arith)
absent_at k (g ∷ gs) a zero h = a.0
absent_at k (g ∷ gs) a (suc i) h = absent_at k gs a.1 i (omega arith)

absent_apart : (k : ℕ) (gs : List Region) → Absent k gs → (i : ℕ) → Apart k (drop i gs)
absent_apart k [] a zero = tt
absent_apart k [] a (suc i) = tt
absent_apart k (g ∷ gs) a zero = a.0
absent_apart k (g ∷ gs) a (suc i) = absent_apart k gs a.1 i

-- a node opened below row r
pub expand_rows : (gs : List Region) → Normal 0 gs → (i r k c : ℕ) → Holds gs r i → 0 < c → Absent k gs → expanded gs i r k c ≡ runs 0 (insert (suc r) (stretch k 0 c) (spread gs))
unfolding expanded
expand_rows gs n i r k c h c0 a =
    let ps = take i gs in
    let q = at gs i in
    let ns = drop (suc i) gs in
    let p = parts gs i h.below in
    let e : total ps + (r + 1 - q.start) ≡ suc r = omega (arith, h.low, total_take 0 gs n.tiled i h.below) in
    sym (runs_spread 0 (ps ++ opened ps q ns r k c h.low h.high c0)
    (record { tiled = tiled_opened ps q ns r k c h.low h.high c0 0 (rw p n.tiled); separate = separate_opened ps q ns r k c h.low h.high c0 (rw p n.separate) (absent_at k gs a i h.below) (absent_apart k gs a (suc i)) }))
    ∙ ap (runs 0) (spread_opened ps q ns r k c h.low h.high c0)
    ∙ rw (e, p)

-- the rows of region i taken out
module _ (gs : List Region) (t : Tiled 0 gs) (i : ℕ) (h : i < length gs) where
  collapse_tiled : Tiled 0 (collapsed gs i)
  unfolding collapsed
  collapse_tiled =
      let n = (at gs i).length in
      let u = tiled_split 0 (take i gs) (at gs i ∷ drop (suc i) gs) (rw (parts gs i h) t) in
      let e : 0 + total (take i gs) + n + 0 - n ≡ 0 + total (take i gs) = omega arith in
      tiled_append 0 (take i gs) _ u.0 (rw e at (tiled_moved 0 n (0 + total (take i gs) + n) (drop (suc i) gs) (omega arith) u.1.2))

  collapse_spread : spread (collapsed gs i) ≡ remove (at gs i).start (at gs i).length (spread gs)
  unfolding collapsed
  collapse_spread =
      let q = at gs i in
      let long : length (spread (take i gs)) ≡ (at gs i).start = length_spread (take i gs) ∙ omega (arith, total_take 0 gs t i h) in
      spread_append (take i gs) _ ∙ ap (λ (l : List Row). spread (take i gs) ++ l) (spread_moved _ _ (drop (suc i) gs))
      ∙ sym (remove_between (spread (take i gs)) (region_rows q) (spread (drop (suc i) gs)) q.start q.length long (length_stretch q.node q.offset q.length))
      ∙ ap (remove q.start q.length) (sym (spread_append (take i gs) (q ∷ drop (suc i) gs)) ∙ ap spread (parts gs i h))

  pub collapse_rows : joined (collapsed gs i) ≡ runs 0 (remove (at gs i).start (at gs i).length (spread gs))
  collapse_rows = joined_runs 0 (collapsed gs i) collapse_tiled ∙ ap (runs 0) collapse_spread

pub collapse_total : (gs : List Region) (i : ℕ) → i < length gs → total (collapsed gs i) ≤ total gs
unfolding collapsed
collapse_total gs i h =
    let n = (at gs i).length in
    omega (arith, total_append (take i gs) (map (moved 0 n) (drop (suc i) gs)), total_moved_lem 0 n (drop (suc i) gs), total_append (take i gs) (at gs i ∷ drop (suc i) gs), ap total (parts gs i h))

-- rows put in at row s, before region i
module _ (gs : List Region) (i s k o c : ℕ) where
  module _ (t : Tiled 0 gs) (e : total (take i gs) ≡ s) (c0 : 0 < c) where
    grow_tiled : Tiled 0 (grown gs i s k o c)
    unfolding grown
    grow_tiled =
        let u = tiled_split 0 (take i gs) (drop i gs) (rw (take-append-drop i gs) t) in
        let f : 0 + total (take i gs) + c - 0 ≡ 0 + total (take i gs) + c = omega arith in
        tiled_append 0 (take i gs) _ u.0 (omega arith, c0, rw f at (tiled_moved c 0 (0 + total (take i gs)) (drop i gs) (omega arith) u.1))

    grow_spread : spread (grown gs i s k o c) ≡ insert s (stretch k o c) (spread gs)
    unfolding grown
    grow_spread =
        spread_append (take i gs) _ ∙ ap (λ (l : List Row). spread (take i gs) ++ (stretch k o c ++ l)) (spread_moved _ _ (drop i gs))
        ∙ sym (insert_between (spread (take i gs)) (spread (drop i gs)) (stretch k o c) s (length_spread (take i gs) ∙ e))
        ∙ ap (insert s (stretch k o c)) (sym (spread_append (take i gs) (drop i gs)) ∙ ap spread (take-append-drop i gs))

    pub grow_rows : joined (grown gs i s k o c) ≡ runs 0 (insert s (stretch k o c) (spread gs))
    grow_rows = joined_runs 0 (grown gs i s k o c) grow_tiled ∙ ap (runs 0) grow_spread

  pub grow_total : total (grown gs i s k o c) ≡ total gs + c
  unfolding grown
  grow_total =
      omega (arith, total_append (take i gs) (region s k o c ∷ map (moved c 0) (drop i gs)), total_moved_lem c 0 (drop i gs), total_append (take i gs) (drop i gs), ap total (take-append-drop i gs))
