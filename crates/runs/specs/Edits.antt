-- Edits of a list at a place, for any element type.
use Rattle.std.specs.Prelude.{ℕ, suc, ◌+◌, List, ◌∷◌, ◌++◌, map, take, drop}

-- the elements from the place j on changed by f
abbrev pub map_from : {A : Type 0} → (A → A) → ℕ → List A → List A
map_from f j l = take j l ++ map f (drop j l)

-- one element put in or taken out at the place j
abbrev pub insert_at : {A : Type 0} → ℕ → A → List A → List A
insert_at j x l = take j l ++ (x ∷ drop j l)

abbrev pub remove_at : {A : Type 0} → ℕ → List A → List A
remove_at j l = take j l ++ drop (suc j) l

-- several put in, and c taken out, from the place j on
abbrev pub insert : {A : Type 0} → ℕ → List A → List A → List A
insert j ys l = take j l ++ (ys ++ drop j l)

abbrev pub remove : {A : Type 0} → ℕ → ℕ → List A → List A
remove j c l = take j l ++ drop (j + c) l
