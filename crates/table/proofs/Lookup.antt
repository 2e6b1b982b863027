-- The search for an entry: a hit, a miss and the end; and that what is found is an entry of the table.
use Prim.Native.Nat.{ℕ, zero, suc, ◌+◌, ◌-◌, ◌*◌, ◌≤◌, ◌<◌, ◌%◌}
use native.Mathlib.Nat.{add-zero}
use native.Mathlib.Numerals.{add-one}
use native.Mathlib.Omega.{arith}
use mathlib.Core.Path.{◌≡◌, refl, ap, sym, ◌∙◌}
use mathlib.Core.Logic.{◌⊎◌, inl, inr}
use mathlib.Core.Bool.{Bool, true, false, cond, ◌&&◌, and-false}
use mathlib.Core.List.{List, []}
use lib.Dec.{eqb}
use lib.ListN.{length, get_or, take, drop, length-drop}
use lib.Seq.{length-take-le}
use borrow.Author.Tests.{eq-eqb, ne_eqb, lt-ltb}
use Rattle.std.proofs.Common.{Some, None}
use Rattle.model.proofs.UnlessZero.{some_is, none_is, some_number, none_number}
use Rattle.model.specs.Places.{unless_zero}
use Rattle.model.specs.Table.{word, entries, readable, first_entry, child_entry, entry_words, child_words}

module _ (t : List ℕ) (p i n e : ℕ) (inside : e < n) where
  left : n - e ≡ suc (n - (e + 1))
  left = omega arith

  pub hit : get_or t (5 * e) 0 ≡ p → get_or t (5 * e + 1) 0 ≡ i → first_entry t p i (n - e) e ≡ e
  unfolding first_entry
  hit a b = rw (left, add-zero, eq-eqb _ _ a, eq-eqb _ _ b)

  miss : eqb (word t e 0) p && eqb (word t e 1) i ≡ false → first_entry t p i (n - e) e ≡ first_entry t p i (n - (e + 1)) (e + 1)
  unfolding first_entry
  miss f = rw (left, f, add-one)

  pub miss_parent : (get_or t (5 * e) 0 ≡ p → ⊥) → first_entry t p i (n - e) e ≡ first_entry t p i (n - (e + 1)) (e + 1)
  miss_parent f = miss (rw (add-zero, ne_eqb _ _ f))

  pub miss_index : (get_or t (5 * e + 1) 0 ≡ i → ⊥) → first_entry t p i (n - e) e ≡ first_entry t p i (n - (e + 1)) (e + 1)
  miss_index f = miss (rw (ne_eqb _ _ f, and-false))

pub end : (t : List ℕ) (p i n e : ℕ) → n ≤ e → first_entry t p i (n - e) e ≡ 0
unfolding first_entry
end t p i n e past = let z : n - e ≡ 0 = omega arith in rw z

first_below : (t : List ℕ) (p i n e : ℕ) → (first_entry t p i n e ≡ 0) ⊎ (first_entry t p i n e < e + n)
unfolding first_entry
first_below t p i zero e = inl refl
first_below t p i (suc n) e = by (eqb (word t e 0) p && eqb (word t e 1) i) (first_below t p i n (suc e))
  where
    later : ℕ
    later = first_entry t p i n (suc e)

    by : (b : Bool) → (later ≡ 0) ⊎ (later < suc e + n) → (cond b e later ≡ 0) ⊎ (cond b e later < e + suc n)
    by true h = inr (omega arith)
    by false (inl z) = inl z
    by false (inr h) = inr (omega arith)

-- the words of a listed child are there
pub words_inside : (t : List ℕ) (p i e : ℕ) → Some e ≡ unless_zero (child_entry t p i) → 5 * e + 5 ≤ length t
unfolding child_entry entries
words_inside t p i e listed = by (first_below t p i (entries t - 1) 1) (some_is _ e listed)
  where
    first : ℕ
    first = first_entry t p i (entries t - 1) 1

    by : (first ≡ 0) ⊎ (first < 1 + (entries t - 1)) → (e ≡ first) × (e ≡ 0 → ⊥) → 5 * e + 5 ≤ length t
    by (inl z) n = absurd (n.1 (n.0 ∙ z))
    by (inr h) n = omega (arith, n.0, n.1)

-- and they are what the lookup gives: five from the entry's first one on, or none
pub words_none : (t : List ℕ) (p i : ℕ) → None ≡ unless_zero (child_entry t p i) → child_words t p i ≡ []
unfolding child_words entry_words
words_none t p i unlisted = rw (none_is (child_entry t p i) unlisted)

pub words_some : (t : List ℕ) (p i e : ℕ) → Some e ≡ unless_zero (child_entry t p i) → child_words t p i ≡ take 5 (drop (5 * e) t)
unfolding child_words entry_words
words_some t p i e listed = by e (some_is (child_entry t p i) e listed)
  where
    by : (e : ℕ) → (e ≡ child_entry t p i) × (e ≡ 0 → ⊥) → entry_words t (child_entry t p i) ≡ take 5 (drop (5 * e) t)
    by zero n = absurd (n.1 refl)
    by (suc e) n = rw (← n.0)

pub readable_empty : (t : List ℕ) → length t ≡ 0 → readable t ≡ false
unfolding readable
readable_empty t z = rw z

pub readable_some : (t : List ℕ) → (length t ≡ 0 → ⊥) → readable t ≡ eqb (length t % 5) 0
unfolding readable
readable_some t some = rw (lt-ltb 0 (length t) (omega arith))

-- a child has five words or none
pub words_whole : (t : List ℕ) (p i : ℕ) → (child_words t p i ≡ []) ⊎ (length (child_words t p i) ≡ 5)
words_whole t p i = by (child_entry t p i) refl
  where
    by : (e : ℕ) → e ≡ child_entry t p i → (child_words t p i ≡ []) ⊎ (length (child_words t p i) ≡ 5)
    by zero is = inl (words_none t p i (none_number _ (sym is)))
    by (suc e) is =
        let listed = some_number _ (suc e) (sym is) (omega arith) in
        let h = words_inside t p i (suc e) listed in
        inr (ap length (words_some t p i (suc e) listed) ∙ length-take-le 5 (drop (5 * suc e) t) (rw length-drop (omega arith)))
