-- Regions that tile the rows, with neighbours of one node merged, are the runs of their rows; and runs give such regions back.
use mathlib.Core.Path.{◌≡◌, refl, sym, ap, ◌∙◌}
use mathlib.Core.Logic.{◌≢◌}
use mathlib.Core.Bool.{Bool, true, false, cond}
use mathlib.Core.List.{List, [], ◌∷◌, ◌++◌, append_assoc, append-nil}
use Prim.Native.Nat.{ℕ, zero, suc, ◌+◌, ◌<◌}
use native.Mathlib.Decide.{ℕ_discrete}
use native.Mathlib.Omega.{arith}
use native.Mathlib.Numerals.{add-one}
use native.Mathlib.Nat.{zero-add, suc-add, add-suc, add-zero, add_assoc}
use lib.Dec.{eqb}
use lib.ListN.{length}
use borrow.Author.Tests.{eq-eqb, ne_eqb}
use Rattle.model.specs.declared.Region.{Region}
use Rattle.model.specs.Rows.{Row}
use Rattle.model.specs.Regions.{region, join, runs}
use Rattle.runs.specs.Regions.{stretch, region_rows, spread, at, Tiled, Apart, Separate, Normal, Absent, NoRow, Follows, Tidy, Parted}
use Rattle.runs.specs.Changes.{merge, attach, joined}

-- a region before others
pub attach_same : (g h : Region) (hs : List Region) → h.node ≡ g.node → attach g (h ∷ hs) ≡ merge g h ∷ hs
attach_same g h hs e = rw (eq-eqb h.node g.node e)

pub attach_apart : (g : Region) (hs : List Region) → Apart g.node hs → attach g hs ≡ g ∷ hs
attach_apart g [] n = refl
attach_apart g (h ∷ hs) n = rw (ne_eqb h.node g.node (λ e. n (sym e)))

attach_cases : (P : List Region → Type 0) (g h : Region) (hs : List Region)
    → (h.node ≡ g.node → P (merge g h ∷ hs)) → (h.node ≢ g.node → P (g ∷ h ∷ hs)) → P (attach g (h ∷ hs))
attach_cases P g h hs a b = go (ℕ_discrete h.node g.node)
  where
    go : Dec (h.node ≡ g.node) → P (attach g (h ∷ hs))
    go (yes e) = rw (attach_same g h hs e) (a e)
    go (no n) = rw (ne_eqb h.node g.node n) (b n)

pub apart_attach : (k : ℕ) (g : Region) (hs : List Region) → k ≢ g.node → Apart k (attach g hs)
apart_attach k g [] n = n
apart_attach k g (h ∷ hs) n = attach_cases (Apart k) g h hs (λ _. n) (λ _. n)

absent_attach : (k : ℕ) (g : Region) (hs : List Region) → k ≢ g.node → Absent k hs → Absent k (attach g hs)
absent_attach k g [] n a = (n, tt)
absent_attach k g (h ∷ hs) n a = attach_cases (Absent k) g h hs (λ _. (n, a.1)) (λ _. (n, a))

merge_assoc : (g h z : Region) → merge g (merge h z) ≡ merge (merge g h) z
merge_assoc g h z = ap (λ (n : ℕ). region g.start g.node g.offset n) (sym (add_assoc g.length h.length z.length))

pub attach_merge : (g h : Region) (zs : List Region) → h.node ≡ g.node → attach g (attach h zs) ≡ attach (merge g h) zs
attach_merge g h [] e = attach_same g h [] e
attach_merge g h (z ∷ zs) e =
    attach_cases (λ (l : List Region). attach g l ≡ attach (merge g h) (z ∷ zs)) h z zs
    (λ f. attach_same g (merge h z) zs e ∙ ap (λ (x : Region). x ∷ zs) (merge_assoc g h z) ∙ sym (attach_same (merge g h) z zs (f ∙ e)))
    (λ n. attach_same g h (z ∷ zs) e ∙ sym (attach_apart (merge g h) (z ∷ zs) (λ f. n (sym f ∙ sym e))))

attach_append : (g h : Region) (hs zs : List Region) → attach g ((h ∷ hs) ++ zs) ≡ attach g (h ∷ hs) ++ zs
attach_append g h hs zs =
    attach_cases (λ (l : List Region). attach g (h ∷ (hs ++ zs)) ≡ l ++ zs) g h hs
    (λ e. attach_same g h (hs ++ zs) e)
    (λ n. attach_apart g (h ∷ (hs ++ zs)) (λ e. n (sym e)))

attach_front : (g h : Region) (hs zs : List Region) → attach g (attach h hs ++ zs) ≡ attach g (attach h hs) ++ zs
attach_front g h [] zs = attach_append g h [] zs
attach_front g h (z ∷ hs) zs =
    attach_cases (λ (l : List Region). attach g (l ++ zs) ≡ attach g l ++ zs) h z hs (λ _. attach_append g (merge h z) hs zs) (λ _. attach_append g h (z ∷ hs) zs)

-- the runs of rows, by regions of one row
abbrev pub one : ℕ → Row → Region
one s x = region s x.0 x.1 1

pub runs_cons : (s : ℕ) (x : Row) (xs : List Row) → runs s (x ∷ xs) ≡ attach (one s x) (runs (suc s) xs)
unfolding runs join
runs_cons s x xs = go (runs (suc s) xs)
  where
    go : (gs : List Region) → join s x gs ≡ attach (one s x) gs
    go [] = refl
    go (g ∷ gs) = same (eqb g.node x.0)
      where
        same : (b : Bool) → cond b (region s x.0 x.1 (suc g.length) ∷ gs) (one s x ∷ g ∷ gs) ≡ cond b (merge (one s x) g ∷ gs) (one s x ∷ g ∷ gs)
        same true = ap (λ (n : ℕ). region s x.0 x.1 n ∷ gs) (omega arith)
        same false = refl

pub runs_stretch : (s k i n : ℕ) (ys : List Row) → 0 < n → runs s (stretch k i n ++ ys) ≡ attach (region s k i n) (runs (s + n) ys)
runs_stretch s k i zero ys h = absurd (omega arith)
runs_stretch s k i (suc zero) ys h = rw (runs_cons, add-one)
runs_stretch s k i (suc (suc n)) ys h =
    let e : suc s + suc n ≡ s + suc (suc n) = omega arith in
    let f : 1 + suc n ≡ suc (suc n) = omega arith in
    runs_cons s (k, i) (stretch k (suc i) (suc n) ++ ys)
    ∙ rw (runs_stretch (suc s) k (suc i) (suc n) ys (omega arith), e) (attach_merge (one s (k, i)) (region (suc s) k (suc i) (suc n)) (runs (s + suc (suc n)) ys) refl)
    ∙ ap (λ (m : ℕ). attach (region s k i m) (runs (s + suc (suc n)) ys)) f

-- neighbours merged, the regions are the runs of their rows
pub joined_runs : (s : ℕ) (gs : List Region) → Tiled s gs → joined gs ≡ runs s (spread gs)
unfolding joined
joined_runs s [] t = unfold runs in refl
joined_runs s (g ∷ gs) t =
    rw (joined_runs (s + g.length) gs t.2)
    (λ i. attach (region (t.0 i) g.node g.offset g.length) (runs (s + g.length) (spread gs)))
    ∙ sym (runs_stretch s g.node g.offset g.length (spread gs) t.1)

joined_separate : (gs : List Region) → Separate gs → joined gs ≡ gs
unfolding joined
joined_separate [] h = refl
joined_separate (g ∷ gs) h = rw (joined_separate gs h.1) (attach_apart g gs h.0)

pub runs_spread : (s : ℕ) (gs : List Region) → Normal s gs → runs s (spread gs) ≡ gs
runs_spread s gs n = sym (joined_runs s gs n.tiled) ∙ joined_separate gs n.separate

normal_attach : (s : ℕ) (g : Region) (hs : List Region) → g.start ≡ s → 0 < g.length → Normal (s + g.length) hs → Normal s (attach g hs)
normal_attach s g [] e p n = record { tiled = (e, p, tt); separate = (tt, tt) }
normal_attach s g (h ∷ hs) e p n =
    attach_cases (Normal s) g h hs
    (λ f. record { tiled = (e, omega arith, rw (← add_assoc) n.tiled.2); separate = (rw (← f) n.separate.0, n.separate.1) })
    (λ d. record { tiled = (e, p, n.tiled); separate = (λ f. d (sym f), n.separate) })

pub runs_normal : (s : ℕ) (xs : List Row) → Normal s (runs s xs)
runs_normal s [] = unfold runs in record { tiled = tt; separate = tt }
runs_normal s (x ∷ xs) = rw runs_cons (normal_attach s (one s x) (runs (suc s) xs) refl (omega arith) (rw add-one (runs_normal (suc s) xs)))

pub runs_joined : (s : ℕ) (xs : List Row) → joined (runs s xs) ≡ runs s xs
runs_joined s xs = joined_separate (runs s xs) (runs_normal s xs).separate

-- none has the length 0
pub tiled_length : (s : ℕ) (gs : List Region) → Tiled s gs → (i : ℕ) → i < length gs → 0 < (at gs i).length
tiled_length s [] t i h = absurd (omega arith)
tiled_length s (g ∷ gs) t zero h = t.1
tiled_length s (g ∷ gs) t (suc i) h = tiled_length (s + g.length) gs t.2 i (omega arith)

pub runs_length : (s : ℕ) (xs : List Row) (i : ℕ) → i < length (runs s xs) → 0 < (at (runs s xs) i).length
runs_length s xs i h = tiled_length s (runs s xs) (runs_normal s xs).tiled i h

pub stretch_append : (k i m n : ℕ) → stretch k i (m + n) ≡ stretch k i m ++ stretch k (i + m) n
stretch_append k i zero n = rw (zero-add, add-zero)
stretch_append k i (suc m) n = rw (suc-add m n, stretch_append k (suc i) m n, suc-add i m, add-suc)

abbrev Fits : Region → List Region → Type 0
Fits g [] = Unit {0}
Fits g (h ∷ hs) = h.node ≡ g.node → h.offset ≡ g.offset + g.length

spread_attach : (g : Region) (hs : List Region) → Fits g hs → spread (attach g hs) ≡ region_rows g ++ spread hs
spread_attach g [] f = refl
spread_attach g (h ∷ hs) f =
    attach_cases (λ (l : List Region). spread l ≡ region_rows g ++ (region_rows h ++ spread hs)) g h hs
    (λ e. rw (stretch_append, append_assoc, f e, e))
    (λ n. refl)

fits_runs : (s : ℕ) (x : Row) (xs : List Row) → Follows x xs → Fits (one s x) (runs (suc s) xs)
fits_runs s x [] h = unfold runs in tt
fits_runs s x (y ∷ ys) h = rw runs_cons (go (runs (suc (suc s)) ys))
  where
    go : (gs : List Region) → Fits (one s x) (attach (one (suc s) y) gs)
    go [] = λ e. omega (arith, h (sym e))
    go (z ∷ zs) = attach_cases (Fits (one s x)) (one (suc s) y) z zs (λ _ e. omega (arith, h (sym e))) (λ _ e. omega (arith, h (sym e)))

pub spread_runs : (s : ℕ) (xs : List Row) → Tidy xs → spread (runs s xs) ≡ xs
spread_runs s [] h = unfold runs in refl
spread_runs s (x ∷ xs) h =
    rw runs_cons (spread_attach (one s x) (runs (suc s) xs) (fits_runs s x xs h.0) ∙ ap (λ (l : List Row). x ∷ l) (spread_runs (suc s) xs h.1))

-- a node without a row has no region
pub absent_runs : (k s : ℕ) (xs : List Row) → NoRow k xs → Absent k (runs s xs)
absent_runs k s [] h = unfold runs in tt
absent_runs k s (x ∷ xs) h = rw runs_cons (absent_attach k _ (runs (suc s) xs) h.0 (absent_runs k (suc s) xs h.1))

pub apart_runs : (k s : ℕ) (y : Row) (ys : List Row) → k ≢ y.0 → Apart k (runs s (y ∷ ys))
apart_runs k s y ys n = rw runs_cons (apart_attach k _ (runs (suc s) ys) n)

-- rows parted between two parents have their regions side by side
pub runs_parted : (s : ℕ) (xs ys : List Row) → Parted xs ys → runs s (xs ++ ys) ≡ runs s xs ++ runs (s + length xs) ys
runs_parted s [] ys h = unfold runs in rw add-zero
runs_parted s (x ∷ []) [] h = unfold runs in sym (append-nil _)
runs_parted s (x ∷ []) (y ∷ ys) h =
    let e : s + 1 ≡ suc s = omega arith in
    rw e (runs_cons s x (y ∷ ys) ∙ attach_apart _ (runs (suc s) (y ∷ ys)) (apart_runs x.0 (suc s) y ys h) ∙ ap (λ (l : List Region). l ++ runs (suc s) (y ∷ ys)) (sym single))
  where
    single : runs s (x ∷ []) ≡ one s x ∷ []
    single = unfold runs join in refl
runs_parted s (x ∷ z ∷ xs) ys h =
    let e : suc s + length (z ∷ xs) ≡ s + length (x ∷ z ∷ xs) = omega arith in
    runs_cons s x ((z ∷ xs) ++ ys)
    ∙ ap (attach _) (runs_parted (suc s) (z ∷ xs) ys h)
    ∙ rw (runs_cons (suc s) z xs, e) (attach_front _ _ (runs (suc (suc s)) xs) (runs (s + length (x ∷ z ∷ xs)) ys))
    ∙ ap (λ (l : List Region). l ++ runs (s + length (x ∷ z ∷ xs)) ys) (sym (runs_cons s x (z ∷ xs) ∙ ap (attach _) (runs_cons (suc s) z xs)))
