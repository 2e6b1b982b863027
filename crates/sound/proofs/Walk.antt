-- The walk along the rows: the rows from a place on, the way up from a node's end, and the run of rows from a place to the next.
use Prim.Native.Nat.{ℕ, zero, suc, ◌+◌, ◌-◌, ◌<◌, ◌≤◌}
use native.Mathlib.Omega.{arith}
use native.Mathlib.Nat.{add-zero}
use native.Mathlib.Decide.{ℕ_discrete}
use mathlib.Core.Path.{◌≡◌, refl, sym, ap, ap₂, ◌∙◌, subst}
use mathlib.Core.Logic.{◌≢◌}
use mathlib.Core.Bool.{Bool, true, false, cond}
use mathlib.Core.List.{List, [], ◌∷◌, ◌++◌, append_assoc, append-nil}
use lib.ListN.{length, length-append}
use lib.Dec.{ltb}
use borrow.Author.Tests.{ltb-true}
use Rattle.model.specs.declared.Node.{Node}
use Rattle.model.specs.Places.{depth, longest_chain}
use Rattle.model.specs.Nodes.{direct_of, open_child}
use Rattle.model.specs.Rows.{Row, under, rows_from, rows_of, rows}
use Rattle.model.specs.Sound.{reaches}
use Rattle.sound.proofs.Runs.{stretch, HeadNot}
use Rattle.sound.proofs.Children.{deeper, rows_are}
use Rattle.paths.proofs.Order.{length_child}
use Rattle.tree.proofs.Find.{to_up, reach_up, reach_never, reach_all}
use Rattle.tree.proofs.Listing.{open_child_lem}
use Rattle.tree.proofs.WellFormed.{open_used, zero_open}
use Rattle.tree.specs.Paths.{to}
use Rattle.tree.specs.WellFormed.{Opens, up, ix, WellFormed}

-- the children of node p from index i on, each with the rows below it
abbrev tail : List Node → ℕ → ℕ → List Row
tail ns p i = rows_from ns (λ k. rows_of ns depth k) p i (direct_of ns p - i)

-- the rows after those below node p
unfoldable pub after : List Node → ℕ → ℕ → List Row
after ns zero p = []
after ns (suc f) zero = []
after ns (suc f) (suc k) = tail ns (up ns (suc k)) (suc (ix ns (suc k))) ++ after ns f (up ns (suc k))

-- the rows from a place on
unfoldable pub rest : List Node → ℕ → ℕ → List Row
rest ns p i = tail ns p i ++ after ns longest_chain p

-- an index of an open node, or the end of its rows
pub record Place (ns : List Node) (p i : ℕ) : Type 0 where
  pub opened : Opens ns p
  pub within : i ≤ direct_of ns p

module _ (ns : List Node) (w : WellFormed ns) where
  depth_up : (k : ℕ) → Opens ns (suc k) → length (to ns (suc k)) ≡ suc (length (to ns (up ns (suc k))))
  depth_up k o = ap length (to_up ns w k (open_used ns (suc k) o)) ∙ length_child (to ns (up ns (suc k))) (ix ns (suc k))

  pub depth_less : (p : ℕ) → p ≢ 0 → Opens ns p → length (to ns (up ns p)) < length (to ns p)
  depth_less zero d o = absurd (d refl)
  depth_less (suc k) d o = omega (arith, depth_up k o)

  pub place_index : (p : ℕ) → p ≢ 0 → Opens ns p → ix ns p < direct_of ns (up ns p)
  place_index zero d o = absurd (d refl)
  place_index (suc k) d o = (w.placed k (open_used ns (suc k) o)).inside

  -- the way up
  after_stable : (f p : ℕ) → reaches ns f p ≡ true → after ns (suc f) p ≡ after ns f p
  unfolding after
  after_stable zero zero r = refl
  after_stable zero (suc k) r = absurd (reach_never ns k r)
  after_stable (suc f) zero r = refl
  after_stable (suc f) (suc k) r =
      ap (λ (l : List Row). tail ns (up ns (suc k)) (suc (ix ns (suc k))) ++ l) (after_stable f (up ns (suc k)) (reach_up ns f k r))

  after_up : (k : ℕ) → Opens ns (suc k) → after ns longest_chain (suc k) ≡ rest ns (up ns (suc k)) (suc (ix ns (suc k)))
  unfolding after rest
  after_up k o =
      ap (λ (l : List Row). tail ns (up ns (suc k)) (suc (ix ns (suc k))) ++ l)
      (sym (after_stable 254 (up ns (suc k)) (reach_up ns 254 k (reach_all ns w (suc k) (open_used ns (suc k) o)))))

  rest_end : (p i : ℕ) → direct_of ns p ≤ i → rest ns p i ≡ after ns longest_chain p
  unfolding rest rows_from
  rest_end p i l = let z : direct_of ns p - i ≡ 0 = omega arith in rw z

  pub rest_up : (k i : ℕ) → Opens ns (suc k) → direct_of ns (suc k) ≤ i → rest ns (up ns (suc k)) (suc (ix ns (suc k))) ≡ rest ns (suc k) i
  rest_up k i o l = sym (after_up k o) ∙ sym (rest_end (suc k) i l)

  pub rest_none : (i : ℕ) → direct_of ns 0 ≤ i → rest ns 0 i ≡ []
  unfolding after
  rest_none i l = rest_end 0 i l

  pub rest_all : rest ns 0 0 ≡ rows ns
  unfolding rest after rows
  rest_all =
      let z : direct_of ns 0 - 0 ≡ direct_of ns 0 = omega arith in
      append-nil (tail ns 0 0) ∙ ap (rows_from ns (λ k. rows_of ns depth k) 0 0) z ∙ sym (rows_are ns w 0 (open_used ns 0 (zero_open ns w)))

  -- from a row to the next
  rest_row : (p i : ℕ) → i < direct_of ns p → rest ns p i ≡ (p, i) ∷ (under (λ k. rows_of ns depth k) (open_child ns p i) ++ rest ns p (suc i))
  unfolding rest rows_from
  rest_row p i l =
      let z : direct_of ns p - i ≡ suc (direct_of ns p - suc i) = omega arith in
      rw z (ap {B = List Row} ((p, i) ∷◌) (append_assoc (under (λ k. rows_of ns depth k) (open_child ns p i)) (tail ns p (suc i)) (after ns longest_chain p)))

  rest_shut : (p i : ℕ) → i < direct_of ns p → open_child ns p i ≡ 0 → rest ns p i ≡ (p, i) ∷ rest ns p (suc i)
  rest_shut p i l e = rest_row p i l ∙ ap (λ (c : ℕ). (p, i) ∷ (under (λ k. rows_of ns depth k) c ++ rest ns p (suc i))) e

  rest_in : (p i c : ℕ) → open_child ns p i ≡ suc c → rest ns (suc c) 0 ≡ rows_of ns depth (suc c) ++ rest ns p (suc i)
  unfolding rest
  rest_in p i c e =
      let o = open_child_lem ns w p i c e in
      let z : direct_of ns (suc c) - 0 ≡ direct_of ns (suc c) = omega arith in
      ap₂ {C = List Row} (λ a b. a ++ b)
      (ap (rows_from ns (λ k. rows_of ns depth k) (suc c) 0) z ∙ sym (rows_are ns w (suc c) (open_used ns (suc c) o.0)))
      (after_up c o.0 ∙ ap₂ (λ (a b : ℕ). rest ns a (suc b)) o.1 o.2)

  rest_open : (p i c : ℕ) → i < direct_of ns p → open_child ns p i ≡ suc c → rest ns p i ≡ (p, i) ∷ rest ns (suc c) 0
  rest_open p i c l e =
      rest_row p i l ∙ ap (λ (c : ℕ). (p, i) ∷ (under (λ k. rows_of ns depth k) c ++ rest ns p (suc i))) e ∙ ap {B = List Row} ((p, i) ∷◌) (sym (rest_in p i c e))

  -- how many rows are left
  row_length : (p i : ℕ) → i < direct_of ns p → suc (length (rest ns p (suc i))) ≤ length (rest ns p i)
  row_length p i l = omega (arith, ap length (rest_row p i l), length-append (under (λ k. rows_of ns depth k) (open_child ns p i)) (rest ns p (suc i)))

  pub open_length : (p i c : ℕ) → i < direct_of ns p → open_child ns p i ≡ suc c → length (rest ns p i) ≡ suc (length (rest ns (suc c) 0))
  open_length p i c l e = ap length (rest_open p i c l e)

  from_length : (sub : ℕ → List Row) (p i n : ℕ) → 0 < n → 0 < length (rows_from ns sub p i n)
  unfolding rows_from
  from_length sub p i zero h = absurd (omega arith)
  from_length sub p i (suc n) h = omega arith

  over_length : (p i c : ℕ) → i < direct_of ns p → open_child ns p i ≡ suc c → suc (length (rest ns p (suc i))) < length (rest ns p i)
  over_length p i c l e =
      let o = (open_child_lem ns w p i c e).0 in
      let u = open_used ns (suc c) o in
      omega (
        arith,
        open_length p i c l e,
        ap length (rest_in p i c e),
        length-append (rows_of ns depth (suc c)) (rest ns p (suc i)),
        ap length (rows_are ns w (suc c) u),
        from_length (λ k. rows_of ns depth k) (suc c) 0 (direct_of ns (suc c)) ((w.placed c u).filled o),
      )

  pub skip_length : (p n i : ℕ) → i + n ≤ direct_of ns p → n + length (rest ns p (i + n)) ≤ length (rest ns p i)
  skip_length p zero i l = rw add-zero (omega arith)
  skip_length p (suc n) i l =
      let z : i + suc n ≡ suc i + n = omega arith in
      rw z (omega (arith, skip_length p n (suc i) (omega arith), row_length p i (omega arith)))

  pub over_child : (p n i z c : ℕ) → i + n ≤ direct_of ns p → i ≤ z → z < i + n → open_child ns p z ≡ suc c → n + length (rest ns p (i + n)) < length (rest ns p i)
  over_child p n i z c l a b e =
      let x : i + (z - i) ≡ z = omega arith in
      let y : suc z + (i + n - suc z) ≡ i + n = omega arith in
      omega (arith, rw x at (skip_length p (z - i) i (omega arith)), over_length p z c (omega arith) e, rw y at (skip_length p (i + n - suc z) (suc z) (omega arith)))

  -- the run of rows from a place on: to the node's end, or to the first open child
  pub data Next (p i : ℕ) : Type 0 where
    to_end : (n : ℕ) → i + suc n ≡ direct_of ns p → ((x : ℕ) → i ≤ x → x < direct_of ns p → open_child ns p x ≡ 0) → rest ns p i ≡ stretch p i (suc n) ++ rest ns p (direct_of ns p) → Next p i
    to_child : (n c : ℕ) → i + n < direct_of ns p → open_child ns p (i + n) ≡ suc c → ((x : ℕ) → i ≤ x → x < i + n → open_child ns p x ≡ 0) → rest ns p i ≡ stretch p i (suc n) ++ rest ns (suc c) 0 → Next p i

  module _ (p i : ℕ) where
    quiet : open_child ns p i ≡ 0 → (x : ℕ) → i ≤ x → (suc i ≤ x → open_child ns p x ≡ 0) → open_child ns p x ≡ 0
    quiet e x a h = side (ℕ_discrete x i)
      where
        side : Dec (x ≡ i) → open_child ns p x ≡ 0
        side (yes z) = ap (open_child ns p) z ∙ e
        side (no z) = h (omega arith)

    next_open : (c : ℕ) → i < direct_of ns p → open_child ns p i ≡ suc c → Next p i
    next_open c l e =
        let z : i + 0 ≡ i = omega arith in
        to_child 0 c (omega arith) (ap (open_child ns p) z ∙ e) (λ x a b. absurd (omega arith)) (rest_open p i c l e)

    next_last : suc i ≡ direct_of ns p → open_child ns p i ≡ 0 → Next p i
    next_last z e =
        to_end 0 (omega arith) (λ x a b. quiet e x a (λ y. absurd (omega arith))) (rest_shut p i (omega arith) e ∙ ap (λ (x : ℕ). (p, i) ∷ rest ns p x) z)

    next_longer : open_child ns p i ≡ 0 → Next p (suc i) → Next p i
    next_longer e (to_end n q h r) =
        to_end (suc n) (omega arith) (λ x a b. quiet e x a (λ c. h x c b)) (rest_shut p i (omega arith) e ∙ ap {B = List Row} ((p, i) ∷◌) r)
    next_longer e (to_child n c q d h r) =
        let z : i + suc n ≡ suc i + n = omega arith in
        to_child (suc n) c (omega arith) (ap (open_child ns p) z ∙ d) (λ x a b. quiet e x a (λ y. h x y (omega arith))) (rest_shut p i (omega arith) e ∙ ap {B = List Row} ((p, i) ∷◌) r)

  pub next : (p f i : ℕ) → i + suc f ≡ direct_of ns p → Next p i
  next p zero i l = go (open_child ns p i) refl
    where
      go : (c : ℕ) → open_child ns p i ≡ c → Next p i
      go zero e = next_last p i (omega arith) e
      go (suc c) e = next_open p i c (omega arith) e
  next p (suc f) i l = go (open_child ns p i) refl (next p f (suc i) (omega arith))
    where
      go : (c : ℕ) → open_child ns p i ≡ c → Next p (suc i) → Next p i
      go zero e later = next_longer p i e later
      go (suc c) e later = next_open p i c (omega arith) e

  -- the next run is of another node
  abbrev HeadAbove : ℕ → List Row → Type 0
  HeadAbove v [] = Unit {0}
  HeadAbove v (x ∷ xs) = length (to ns x.0) < v

  above_more : (u v : ℕ) (xs : List Row) → u ≤ v → HeadAbove u xs → HeadAbove v xs
  above_more u v [] l h = tt
  above_more u v (x ∷ xs) l h = omega arith

  after_above : (f k : ℕ) → Opens ns k → HeadAbove (length (to ns k)) (after ns f k)
  unfolding after rows_from
  after_above zero k o = tt
  after_above (suc f) zero o = tt
  after_above (suc f) (suc k) o =
      let q = up ns (suc k) in
      let i = suc (ix ns (suc k)) in
      go q i (direct_of ns q - i) (omega (arith, depth_up k o)) (after_above f q (w.placed k (open_used ns (suc k) o)).above)
    where
      go : (q i n : ℕ) → length (to ns q) < length (to ns (suc k)) → HeadAbove (length (to ns q)) (after ns f q) → HeadAbove (length (to ns (suc k))) (rows_from ns (λ k. rows_of ns depth k) q i n ++ after ns f q)
      go q i zero l h = above_more (length (to ns q)) (length (to ns (suc k))) (after ns f q) (omega arith) h
      go q i (suc n) l h = l

  above_not : (p : ℕ) (xs : List Row) → HeadAbove (length (to ns p)) xs → HeadNot p xs
  above_not p [] h = tt
  above_not p (x ∷ xs) h = λ e. omega (arith, ap (λ (k : ℕ). length (to ns k)) e)

  pub end_not : (p : ℕ) → Opens ns p → HeadNot p (rest ns p (direct_of ns p))
  end_not p o = subst (HeadNot p) (sym (rest_end p (direct_of ns p) (omega arith))) (above_not p (after ns longest_chain p) (after_above longest_chain p o))

  pub child_head : (p i c : ℕ) → open_child ns p i ≡ suc c → (l : List Row) × (rest ns (suc c) 0 ≡ (suc c, 0) ∷ l)
  child_head p i c e =
      let o = (open_child_lem ns w p i c e).0 in
      (_, rest_row (suc c) 0 ((w.placed c (open_used ns (suc c) o)).filled o))

  pub child_not : (p i c : ℕ) → open_child ns p i ≡ suc c → HeadNot p (rest ns (suc c) 0)
  child_not p i c e = subst (HeadNot p) (sym (child_head p i c e).1) (λ z. omega (arith, ap (λ (k : ℕ). length (to ns k)) z, deeper ns w p i c e))

-- a number that is no node's counts as 0
pub number_low : (c d : ℕ) → c ≡ cond (ltb d 256) d 0 → c < 256
number_low c d e = go (ltb d 256) refl e
  where
    go : (b : Bool) → ltb d 256 ≡ b → c ≡ cond b d 0 → c < 256
    go true q z = omega (arith, ltb-true d 256 q)
    go false q z = omega arith
