-- What `split_parent`, `expand`, `collapse` and `grow` ask of their calls, and what these leave, as lists.
use Prim.Native.Nat.{ℕ, suc, ◌+◌, ◌-◌, ◌≤◌, ◌<◌, ◌^◌}
use native.Mathlib.Omega.{arith}
use mathlib.Core.Path.{◌≡◌, ap, sym, ◌∙◌}
use mathlib.Core.List.{List, [], ◌∷◌, ◌++◌, map}
use lib.ListN.{length, set, take, drop}
use lib.Seq.{split_at, set_at, get_or_at, take_at, length-take-le}
use Rattle.model.specs.declared.Region.{Region}
use Rattle.model.specs.Regions.{no_region, region}
use Rattle.runs.specs.Edits.{map_from, insert_at, remove_at}
use Rattle.runs.specs.Regions.{at, total, Tiled}
use Rattle.runs.specs.Search.{child_at, Holds}
use Rattle.runs.specs.Changes.{moved, resized, split, expanded, collapsed, grown}
use Rattle.runs.proofs.Edits.{length_map_from, map_next, insert_between, insert_next, insert_third, drop_next, remove_seam}
use Rattle.runs.proofs.Search.{end_le, start_after}

-- split_parent: others in the place of region i
abbrev around : List Region → ℕ → List Region → List Region
around gs i xs = take i gs ++ (xs ++ drop (suc i) gs)

module _ (gs : List Region) (i : ℕ) (h : i < length gs) where
  front : length (take i gs) ≡ i
  front = length-take-le i gs (omega arith)

  around_one : (x : Region) → set gs i x ≡ around gs i (x ∷ [])
  around_one x = ap (λ (l : List Region). set l i x) (split_at gs i no_region h) ∙ set_at (take i gs) (at gs i) (drop (suc i) gs) x i front

  around_two : (x y : Region) → insert_at (i + 1) y (around gs i (x ∷ [])) ≡ around gs i (x ∷ y ∷ [])
  around_two x y = insert_next (take i gs) i front x y (drop (suc i) gs)

  around_three : (x y z : Region) → insert_at (i + 2) z (around gs i (x ∷ y ∷ [])) ≡ around gs i (x ∷ y ∷ z ∷ [])
  around_three x y z = insert_third (take i gs) i front x y z (drop (suc i) gs)

  module _ (last : ℕ) (g : Region) where
    split_whole : last + 1 ≡ (at gs i).offset + (at gs i).length → around gs i (resized (last + 1 - (at gs i).offset) (at gs i) ∷ g ∷ []) ≡ split gs i last g
    unfolding split
    split_whole e = let z : (at gs i).offset + (at gs i).length - (last + 1) ≡ 0 = omega arith in rw z

    split_parts : last + 1 < (at gs i).offset + (at gs i).length
        → around gs i (resized (last + 1 - (at gs i).offset) (at gs i) ∷ g ∷ region (g.start + g.length) (at gs i).node (last + 1) ((at gs i).offset + (at gs i).length - (last + 1)) ∷ []) ≡ split gs i last g
    unfolding split
    split_parts lt = let z : (at gs i).offset + (at gs i).length - (last + 1) ≡ suc ((at gs i).offset + (at gs i).length - (last + 1) - 1) = omega arith in rw z

    -- with p for region i, as it is read
    pub split_last : (p : Region) → p ≡ at gs i → last + 1 ≡ p.offset + p.length → insert_at (i + 1) g (set gs i (resized (last + 1 - p.offset) (at gs i))) ≡ split gs i last g
    split_last p e f = rw (e, around_one) (around_two _ g ∙ split_whole (rw e at f))

    pub split_between : (p : Region) → p ≡ at gs i → last + 1 < p.offset + p.length
        → insert_at (i + 2) (region (g.start + g.length) p.node (last + 1) (p.offset + p.length - (last + 1))) (insert_at (i + 1) g (set gs i (resized (last + 1 - p.offset) (at gs i)))) ≡ split gs i last g
    split_between p e f = rw (e, around_one, around_two) (around_three _ g _ ∙ split_parts (rw e at f))

-- the regions after region i changed by f, and then region i split or taken out
module _ (f : Region → Region) (gs : List Region) (i : ℕ) (h : i < length gs) where
  abbrev beyond : List Region
  beyond = take i gs ++ (at gs i ∷ map f (drop (suc i) gs))

  beyond_is : map_from f (i + 1) gs ≡ beyond
  beyond_is = ap (map_from f (i + 1)) (split_at gs i no_region h) ∙ map_next (take i gs) i (front gs i h) (at gs i) f (drop (suc i) gs)

  length_beyond : length (map_from f (i + 1) gs) ≡ length gs
  length_beyond = length_map_from gs (i + 1) f (omega arith)

  at_beyond : at (map_from f (i + 1) gs) i ≡ at gs i
  at_beyond = rw beyond_is (get_or_at (take i gs) (at gs i) (map f (drop (suc i) gs)) no_region i (front gs i h))

  remove_beyond : remove_at i (map_from f (i + 1) gs) ≡ take i gs ++ map f (drop (suc i) gs)
  remove_beyond = rw beyond_is (remove_seam (take i gs) i (front gs i h) (at gs i) (map f (drop (suc i) gs)))

split_beyond : (gs : List Region) (i r k c : ℕ) → Holds gs r i → split (map_from (moved c 0) (i + 1) gs) i (child_at (at gs i) r) (region (r + 1) k 0 c) ≡ expanded gs i r k c
unfolding split expanded
split_beyond gs i r k c h =
    let p = front gs i h.below in
    let e : child_at (at gs i) r + 1 - (at gs i).offset ≡ r + 1 - (at gs i).start = omega (arith, h.low) in
    let f : (at gs i).offset + (at gs i).length - (child_at (at gs i) r + 1) ≡ (at gs i).start + (at gs i).length - (r + 1) = omega (arith, h.low) in
    rw (beyond_is (moved c 0) gs i h.below, take_at (take i gs) (at gs i ∷ map (moved c 0) (drop (suc i) gs)) i p, get_or_at (take i gs) (at gs i) (map (moved c 0) (drop (suc i) gs)) no_region i p, drop_next (take i gs) i p (at gs i) (map (moved c 0) (drop (suc i) gs)), e, f)

-- expand: c rows of node k below row r, in the list a that stands for gs
module _ (gs : List Region) (i r k c last : ℕ) (h : Holds gs r i) (el : last ≡ child_at (at gs i) r) (a : List Region) (ea : a ≡ map_from (moved c 0) (i + 1) gs) where
  open_at_lem : at a i ≡ at gs i
  open_at_lem = ap (λ (l : List Region). at l i) ea ∙ at_beyond (moved c 0) gs i h.below

  pub open_length : length a ≡ length gs
  open_length = ap length ea ∙ length_beyond (moved c 0) gs i h.below

  pub open_cut : ((at a i).offset ≤ last) × (last < (at a i).offset + (at a i).length)
  open_cut = (rw open_at_lem (omega arith), rw open_at_lem (omega (arith, h.low, h.high)))

  pub open_small : (at gs i).offset + (at gs i).length < 2 ^ 64 → (at a i).offset + (at a i).length < 2 ^ 64
  open_small small = rw open_at_lem small

  pub expand_done : split a i last (region (r + 1) k 0 c) ≡ expanded gs i r k c
  expand_done = rw (ea, el) (split_beyond gs i r k c h)

-- starts moved later stay in range
pub later_asks : (gs : List Region) → Tiled 0 gs → (c : ℕ) → total gs + c < 2 ^ 64 → (k : ℕ) → k < length gs → ((at gs k).start + c < 2 ^ 64) × (0 ≤ (at gs k).start + c)
later_asks gs t c small k lt = (omega (arith, end_le 0 gs t k lt), omega arith)

-- collapse: region i, of n rows, out
module _ (gs : List Region) (i n : ℕ) (h : i < length gs) (en : (at gs i).length ≡ n) where
  pub earlier_asks : Tiled 0 gs → total gs < 2 ^ 64 → (k : ℕ) → i + 1 ≤ k → k < length gs → ((at gs k).start + 0 < 2 ^ 64) × (n ≤ (at gs k).start + 0)
  earlier_asks t small k le lt = (omega (arith, end_le 0 gs t k lt), omega (arith, start_after 0 gs t i k (omega arith) lt))

  pub gone_length : length (map_from (moved 0 n) (i + 1) gs) ≡ length gs
  gone_length = length_beyond (moved 0 n) gs i h

  pub collapse_done : remove_at i (map_from (moved 0 n) (i + 1) gs) ≡ collapsed gs i
  unfolding collapsed
  collapse_done = remove_beyond (moved 0 n) gs i h ∙ ap (λ (x : ℕ). take i gs ++ map (moved 0 x) (drop (suc i) gs)) (sym en)

-- grow: c rows of node k, from index o on, at row s
module _ (gs : List Region) (i s k o c : ℕ) (h : i ≤ length gs) where
  pub gap_length : length (map_from (moved c 0) i gs) ≡ length gs
  gap_length = length_map_from gs i (moved c 0) h

  pub grow_done : insert_at i (region s k o c) (map_from (moved c 0) i gs) ≡ grown gs i s k o c
  unfolding grown
  grow_done = insert_between (take i gs) (map (moved c 0) (drop i gs)) (region s k o c ∷ []) i (length-take-le i gs h)
