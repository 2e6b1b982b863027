-- Edits of a list, for any element type: a part mapped, an element put in, one taken out; and the same in a list laid into places.
use Prim.Native.Nat.{ℕ, zero, suc, ◌+◌, ◌-◌, ◌≤◌, ◌<◌}
use native.Mathlib.Nat.{zero-add, suc-add}
use native.Mathlib.Numerals.{add-one}
use native.Mathlib.Omega.{arith}
use mathlib.Core.Path.{◌≡◌, refl, ap, sym, subst, ◌∙◌}
use mathlib.Core.List.{List, [], ◌∷◌, ◌++◌, map, append_assoc}
use lib.ListN.{length, take, drop, get_or, set, replicate, get_or-append, take-append-drop, length-drop, length-append, length-map, length-set, length-replicate}
use lib.Seq.{length-take-le, get_or-drop, get_or-append-add, take-suc, append_snoc, set_at, take-append-add, take-append-le, drop-append-le, drop_at, take_at, drop-cons, set-append_left}
use Rattle.std.specs.List.{copy_within}
use Rattle.model.specs.Places.{pad}
use Rattle.runs.specs.Edits.{map_from, insert_at, remove_at, insert, remove}

module _ {A : Type 0} where
  -- the elements before a place stay, where one at or after it is set or read
  set_after : (p q : List A) (n k : ℕ) (v : A) → length p ≡ n → set (p ++ q) (n + k) v ≡ p ++ set q k v
  set_after p q n k v e = subst (λ (m : ℕ). set (p ++ q) (m + k) v ≡ p ++ set q k v) e (go p) where
    go : (p : List A) → set (p ++ q) (length p + k) v ≡ p ++ set q k v
    go [] = rw zero-add
    go (x ∷ p) = rw suc-add (ap (λ (t : List A). x ∷ t) (go p))

  get_d_after : (p q : List A) (n k : ℕ) (d : A) → length p ≡ n → get_or (p ++ q) (n + k) d ≡ get_or q k d
  get_d_after p q n k d e = subst (λ (m : ℕ). get_or (p ++ q) (m + k) d ≡ get_or q k d) e (get_or-append-add p q k d)

  -- the k elements from the place j on changed by f: what a loop that maps from j on has done so far
  abbrev pub map_part : (A → A) → ℕ → ℕ → List A → List A
  map_part f j k l = take j l ++ (map f (take k (drop j l)) ++ drop k (drop j l))

  module _ (f : A → A) (d : A) where
    front_more : (l : List A) (k : ℕ) → k < length l → set (map f (take k l) ++ drop k l) k (f (get_or l k d)) ≡ map f (take (suc k) l) ++ drop (suc k) l
    front_more [] k lt = absurd (omega arith)
    front_more (x ∷ xs) zero lt = refl
    front_more (x ∷ xs) (suc k) lt = ap (λ (t : List A). f x ∷ t) (front_more xs k (omega arith))

    front_at : (l : List A) (k : ℕ) → k < length l → get_or (map f (take k l) ++ drop k l) k d ≡ get_or l k d
    front_at [] k lt = absurd (omega arith)
    front_at (x ∷ xs) zero lt = refl
    front_at (x ∷ xs) (suc k) lt = front_at xs k (omega arith)

    module _ (l : List A) (j : ℕ) where
      pub part_none : map_part f j (j - j) l ≡ l
      part_none = let e : j - j ≡ 0 = omega arith in rw e (take-append-drop j l)

      module _ (i : ℕ) (le : j ≤ i) (lt : i < length l) where
        before : j + (i - j) ≡ i
        before = omega arith

        within : i - j < length (drop j l)
        within = simp length-drop (omega arith)

        long : length (take j l) ≡ j
        long = length-take-le j l (omega arith)

        pub part_at : get_or (map_part f j (i - j) l) i d ≡ get_or l i d
        part_at =
            subst (λ (n : ℕ). get_or (map_part f j (i - j) l) n d ≡ get_or l n d) before
            (get_d_after (take j l) _ j (i - j) d long ∙ front_at (drop j l) (i - j) within ∙ get_or-drop j l (i - j) d)

        pub part_more : set (map_part f j (i - j) l) i (f (get_or l i d)) ≡ map_part f j (i + 1 - j) l
        part_more =
            let more : i + 1 - j ≡ suc (i - j) = omega arith in
            rw more
            (subst (λ (n : ℕ). set (map_part f j (i - j) l) n (f (get_or l n d)) ≡ map_part f j (suc (i - j)) l) before
            (rw (← get_or-drop)
            (set_after (take j l) _ j (i - j) _ long ∙ ap (λ (t : List A). take j l ++ t) (front_more (drop j l) (i - j) within))))

  -- room made for an element at the place j, by moving those of j to c up by one, and the element put there
  put_open : (l : List A) (j c : ℕ) (x d : A) → j ≤ c → c < length l
      → set (copy_within l j c (j + 1)) j x ≡ take j l ++ (x ∷ (take (c - j) (drop j l) ++ drop (suc c) l))
  put_open l j c x d le fits =
      let e : j + 1 ≡ suc j = omega arith in
      let f : suc j + (c - j) ≡ suc c = omega arith in
      rw (e, f, append_assoc, take-suc l j d (omega arith), append_snoc) (set_at (take j l) _ _ x j (length-take-le j l (omega arith)))

  -- the elements after the place j, up to c, moved down by one, and x put in the place that falls free
  put_shut : (l : List A) (j c : ℕ) (x d : A) → j < c → c ≤ length l
      → set (copy_within l (j + 1) c j) (c - 1) x ≡ take j l ++ (take (c - (j + 1)) (drop (j + 1) l) ++ (x ∷ drop c l))
  put_shut l j c x d lt fits =
      let e : j + (c - (j + 1)) ≡ c - 1 = omega arith in
      let f : suc (c - 1) ≡ c = omega arith in
      let front : length (take j l ++ take (c - (j + 1)) (drop (j + 1) l)) ≡ c - 1 =
      rw (length-append, length-take-le j l (omega arith), length-take-le (c - (j + 1)) (drop (j + 1) l) (rw length-drop (omega arith))) (omega arith) in
      rw (e, drop-cons l (c - 1) d (omega arith), f, ← append_assoc) (set_at (take j l ++ take (c - (j + 1)) (drop (j + 1) l)) _ (drop c l) x (c - 1) front)

  module _ (xs : List A) (j : ℕ) where
    pub length_map_from : (f : A → A) → j ≤ length xs → length (map_from f j xs) ≡ length xs
    length_map_from f h = rw (length-append, length-take-le j xs h, length-map, length-drop) (omega arith)

    pub length_insert_at : (x : A) → j ≤ length xs → length (insert_at j x xs) ≡ length xs + 1
    length_insert_at x h = rw (length-append, length-take-le j xs h, length-drop) (omega arith)

    pub length_remove_at : j < length xs → length (remove_at j xs) + 1 ≡ length xs
    length_remove_at h = rw (length-append, length-take-le j xs (omega arith), length-drop) (omega arith)

  -- a list laid into n places, with z in those left
  module _ (n : ℕ) (z : A) where
    take_replicate : (m k : ℕ) → m ≤ k → take m (replicate k z) ≡ replicate m z
    take_replicate zero k h = refl
    take_replicate (suc m) zero h = absurd (omega arith)
    take_replicate (suc m) (suc k) h = ap (λ (t : List A). z ∷ t) (take_replicate m k (omega arith))

    pub pad_is : (xs : List A) (k : ℕ) → length xs + k ≡ n → pad n z xs ≡ xs ++ replicate k z
    unfolding pad
    pad_is xs k e =
        subst (λ (m : ℕ). take m (xs ++ replicate n z) ≡ xs ++ replicate k z) e
        (take-append-add xs (replicate n z) k ∙ ap (λ (t : List A). xs ++ t) (take_replicate k n (omega arith)))

    module _ (xs : List A) (fits : length xs ≤ n) where
      split : pad n z xs ≡ xs ++ replicate (n - length xs) z
      split = pad_is xs (n - length xs) (omega arith)

      pub take_pad : take (length xs) (pad n z xs) ≡ xs
      take_pad = rw split (take_at xs _ (length xs) refl)

      pub get_pad : (i : ℕ) → i < length xs → get_or (pad n z xs) i z ≡ get_or xs i z
      get_pad i h = rw split (get_or-append xs _ z i h)

      pub set_pad : (i : ℕ) (x : A) → i < length xs → set (pad n z xs) i x ≡ pad n z (set xs i x)
      set_pad i x h =
          rw split (set-append_left xs _ i x h)
          ∙ sym (pad_is (set xs i x) (n - length xs) (rw length-set (omega arith)))

      pub map_pad : (f : A → A) (j : ℕ) → j ≤ length xs → map_part f j (length xs - j) (pad n z xs) ≡ pad n z (map_from f j xs)
      map_pad f j h =
          let long : length (drop j xs) ≡ length xs - j = length-drop j xs in
          rw (split, take-append-le j xs _ h, drop-append-le j xs _ h, take_at (drop j xs) _ (length xs - j) long, drop_at (drop j xs) _ (length xs - j) long)
          (sym (append_assoc (take j xs) _ _) ∙ sym (pad_is (map_from f j xs) (n - length xs) (omega (arith, length_map_from xs j f h))))

      pub add_pad : (x : A) → length xs < n → set (pad n z xs) (length xs) x ≡ pad n z (xs ++ x ∷ [])
      add_pad x lt =
          let e : n - length xs ≡ suc (n - suc (length xs)) = omega arith in
          rw (split, e) (set_at xs z _ x (length xs) refl ∙ sym (append_snoc xs x _))
          ∙ sym (pad_is (xs ++ x ∷ []) (n - suc (length xs)) (rw length-append (omega arith)))

      pub insert_pad : (j : ℕ) (x : A) → j ≤ length xs → length xs < n → set (copy_within (pad n z xs) j (length xs) (j + 1)) j x ≡ pad n z (insert_at j x xs)
      insert_pad j x h lt =
          let e : n - length xs ≡ suc (n - suc (length xs)) = omega arith in
          let long : length (pad n z xs) ≡ n = rw (split, length-append, length-replicate) (omega arith) in
          put_open (pad n z xs) j (length xs) x z h (omega arith)
          ∙ rw (split, take-append-le j xs _ h, drop-append-le j xs _ h, take_at (drop j xs) _ (length xs - j) (length-drop j xs), e, ← append_snoc xs z, drop_at (xs ++ z ∷ []) _ (suc (length xs)) (rw (length-append) (omega arith)))
          (sym (append_assoc (take j xs) _ _) ∙ sym (pad_is (insert_at j x xs) (n - suc (length xs)) (omega (arith, length_insert_at xs j x h))))

      pub remove_pad : (j : ℕ) → j < length xs → set (copy_within (pad n z xs) (j + 1) (length xs) j) (length xs - 1) z ≡ pad n z (remove_at j xs)
      remove_pad j h =
          let long : length (pad n z xs) ≡ n = rw (split, length-append, length-replicate) (omega arith) in
          let s : j + 1 ≡ suc j = omega arith in
          put_shut (pad n z xs) j (length xs) z z h (omega arith)
          ∙ rw (split, take-append-le j xs _ (omega arith), drop-append-le (j + 1) xs _ (omega arith), take_at (drop (j + 1) xs) _ (length xs - (j + 1)) (length-drop (j + 1) xs), drop_at xs _ (length xs) refl, s)
          (sym (append_assoc (take j xs) _ _) ∙ sym (pad_is (remove_at j xs) (suc (n - length xs)) (omega (arith, length_remove_at xs j h))))

  -- edits at the seam of two lists
  pub insert_between : (p q ys : List A) (i : ℕ) → length p ≡ i → insert i ys (p ++ q) ≡ p ++ (ys ++ q)
  insert_between p q ys i h = rw (take_at p q i h, drop_at p q i h)

  pub remove_between : (p m q : List A) (i c : ℕ) → length p ≡ i → length m ≡ c → remove i c (p ++ (m ++ q)) ≡ p ++ q
  remove_between p m q i c h k = rw (take_at p (m ++ q) i h, ← append_assoc p m q, drop_at (p ++ m) q (i + c) (rw length-append (omega arith)))

  past : (p : List A) (i : ℕ) → length p ≡ i → (x : A) → length (p ++ x ∷ []) ≡ i + 1
  past p i long x = rw length-append (omega arith)

  map_seam : (p : List A) (i : ℕ) → length p ≡ i → (f : A → A) (t : List A) → map_from f i (p ++ t) ≡ p ++ map f t
  map_seam p i long f t = rw (take_at p t i long, drop_at p t i long)

  module _ (p : List A) (i : ℕ) (long : length p ≡ i) (x : A) where
    pub drop_next : (t : List A) → drop (suc i) (p ++ x ∷ t) ≡ t
    drop_next t = let e : i + 1 ≡ suc i = add-one i in rw (← append_snoc p x t, ← e) (drop_at (p ++ x ∷ []) t (i + 1) (past p i long x))

    pub remove_seam : (t : List A) → remove_at i (p ++ x ∷ t) ≡ p ++ t
    remove_seam t = rw (take_at p (x ∷ t) i long, drop_next t)

    pub map_next : (f : A → A) (t : List A) → map_from f (i + 1) (p ++ x ∷ t) ≡ p ++ (x ∷ map f t)
    map_next f t = rw (← append_snoc p x t, map_seam (p ++ x ∷ []) (i + 1) (past p i long x) f t) (append_snoc p x (map f t))

    pub insert_next : (y : A) (t : List A) → insert_at (i + 1) y (p ++ x ∷ t) ≡ p ++ (x ∷ y ∷ t)
    insert_next y t = rw (← append_snoc p x t, insert_between (p ++ x ∷ []) t (y ∷ []) (i + 1) (past p i long x)) (append_snoc p x (y ∷ t))

  pub insert_third : (p : List A) (i : ℕ) → length p ≡ i → (x y z : A) (t : List A) → insert_at (i + 2) z (p ++ x ∷ y ∷ t) ≡ p ++ (x ∷ y ∷ z ∷ t)
  insert_third p i long x y z t =
      let e : i + 2 ≡ i + 1 + 1 = omega arith in
      rw (e, ← append_snoc p x (y ∷ t), insert_next (p ++ x ∷ []) (i + 1) (past p i long x) y z t) (append_snoc p x (y ∷ z ∷ t))
