-- The source table: a lent list of words, five to an entry: parent, index, count, state, version.
use Rattle.std.specs.Prelude.{ℕ, zero, suc, ◌+◌, ◌*◌, ◌-◌, ◌/◌, ◌%◌, Bool, cond, ◌&&◌, List, [], length, get_or, take, drop, eqb, ltb}

-- word k of entry e
abbrev pub word : List ℕ → ℕ → ℕ → ℕ
word t e k = get_or t (5 * e + k) 0

-- how many entries there are: they are numbered from 0, and entry 0 is the capture
unfoldable pub entries : List ℕ → ℕ
entries t = length t / 5

-- an entry at least, and a length that is a multiple of 5: refusal 2 is given where this fails
unfoldable pub readable : List ℕ → Bool
readable t = ltb 0 (length t) && eqb (length t % 5) 0

-- what the table says of an entry's item. State 0 is ongoing, any other value complete
unfoldable pub item_count : List ℕ → ℕ → ℕ
item_count t e = word t e 2

unfoldable pub item_ongoing : List ℕ → ℕ → Bool
item_ongoing t e = eqb (word t e 3) 0

unfoldable pub item_version : List ℕ → ℕ → ℕ
item_version t e = word t e 4

-- the first of n entries, from entry e on, with parent p and index i, or 0
unfoldable pub first_entry : List ℕ → ℕ → ℕ → ℕ → ℕ → ℕ
first_entry t p i zero e = 0
first_entry t p i (suc n) e =
    let later = first_entry t p i n (suc e) in
    cond (eqb (word t e 0) p && eqb (word t e 1) i) e later

-- child i of item p is the first entry, from entry 1 on, with parent p and index i; 0 if none is listed
unfoldable pub child_entry : List ℕ → ℕ → ℕ → ℕ
child_entry t p i = first_entry t p i (entries t - 1) 1

-- the five words of an entry, none for the mark 0
unfoldable pub entry_words : List ℕ → ℕ → List ℕ
entry_words t zero = []
entry_words t (suc e) = take 5 (drop (5 * suc e) t)

-- the child lookup: the words of child i of item p, none if it is not listed
unfoldable pub child_words : List ℕ → ℕ → ℕ → List ℕ
child_words t p i = entry_words t (child_entry t p i)

-- a child that is not listed is a complete leaf: count 0, version 0, and a state that is not 0
unfoldable pub child_count : List ℕ → ℕ → ℕ → ℕ
child_count t p i = get_or (child_words t p i) 2 0

unfoldable pub child_ongoing : List ℕ → ℕ → ℕ → Bool
child_ongoing t p i = eqb (get_or (child_words t p i) 3 1) 0

unfoldable pub child_version : List ℕ → ℕ → ℕ → ℕ
child_version t p i = get_or (child_words t p i) 4 0
