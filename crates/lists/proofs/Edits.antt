-- Lists mapped, read, cut and put together.
use mathlib.Core.Path.{◌≡◌, refl, sym, ◌∙◌, ap}
use mathlib.Core.List.Memᴰ.{head as here}
use mathlib.Core.List.Memᴰ.{tail as there}
use mathlib.Core.List.{List, [], ◌∷◌, ◌++◌, map, append_assoc, Memᴰ as In}
use Prim.Native.Nat.{ℕ, zero, suc, ◌+◌, ◌≤◌, ◌<◌}
use native.Mathlib.Omega.{arith}
use lib.ListN.{length, take, drop, get_or, length-append, take-append-drop}
use lib.Seq.{length-take-le, take_at, drop_at}

module _ {A B : Type 0} where
  pub map_agree : (f g : A → B) (l : List A) → ((x : A) → In x l → f x ≡ g x) → map f l ≡ map g l
  map_agree f g [] h = refl
  map_agree f g (x ∷ l) h = rw (h x (here refl), map_agree f g l (λ y m. h y (there m)))

  pub map_take : (f : A → B) (n : ℕ) (l : List A) → map f (take n l) ≡ take n (map f l)
  map_take f zero l = refl
  map_take f (suc n) [] = refl
  map_take f (suc n) (x ∷ l) = ap (f x ∷◌) (map_take f n l)

  pub map_drop : (f : A → B) (n : ℕ) (l : List A) → map f (drop n l) ≡ drop n (map f l)
  map_drop f zero l = refl
  map_drop f (suc n) [] = refl
  map_drop f (suc n) (x ∷ l) = map_drop f n l

  -- inside the list, whatever stands for what is outside
  pub get_d_map : (f : A → B) (l : List A) (r : ℕ) (d : A) (e : B) → r < length l → get_or (map f l) r e ≡ f (get_or l r d)
  get_d_map f [] r d e h = absurd (omega arith)
  get_d_map f (x ∷ l) zero d e h = refl
  get_d_map f (x ∷ l) (suc r) d e h = get_d_map f l r d e (omega arith)

module _ {A : Type 0} where
  pub map_same : (f : A → A) (l : List A) → ((x : A) → In x l → f x ≡ x) → map f l ≡ l
  map_same f [] h = refl
  map_same f (x ∷ l) h = rw (h x (here refl), map_same f l (λ y m. h y (there m)))

  pub get_or_in : (l : List A) (r : ℕ) (d : A) → r < length l → In (get_or l r d) l
  get_or_in [] r d h = absurd (omega arith)
  get_or_in (x ∷ l) zero d h = here refl
  get_or_in (x ∷ l) (suc r) d h = there (get_or_in l r d (omega arith))

  -- what was put in at k is taken out again
  pub take_insert : (k : ℕ) (l m big : List A) → k ≤ length l → big ≡ take k l ++ m ++ drop k l → take k big ≡ take k l
  take_insert k l m big h e = rw (e, append_assoc, take_at (take k l) (m ++ drop k l) k (length-take-le k l h))

  pub remove_insert : (k : ℕ) (l m big : List A) → k ≤ length l → big ≡ take k l ++ m ++ drop k l → l ≡ take k big ++ drop (k + length m) big
  remove_insert k l m big h e =
      sym (take-append-drop k l)
      ∙ rw (take_insert k l m big h e, e, drop_at (take k l ++ m) (drop k l) (k + length m) (rw (length-append, length-take-le k l h)))
