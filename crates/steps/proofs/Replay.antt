-- Replay: records each of which tells how the listing changed give, replayed on the first listing, the last one.
use mathlib.Core.Path.{◌≡◌, refl, sym, ◌∙◌, ap}
use mathlib.Core.Logic.{◌⊎◌, inl, inr}
use mathlib.Core.Bool.{Bool, true, false, ◌&&◌, ◌||◌, or-true}
use mathlib.Core.List.{List, [], ◌∷◌, ◌++◌, map, append-nil, append_assoc}
use mathlib.Core.Option.{none, some}
use Prim.Native.Nat.{ℕ, zero, suc, ◌+◌, ◌≤◌, ◌<◌}
use native.Mathlib.Omega.{arith}
use native.Mathlib.Nat.{add-zero}
use lib.ListN.{length, take, drop, replicate, take-append-drop}
use lib.Dec.{eqb, ltb, leb}
use lib.Seq.{take-take, take_at}
use borrow.Author.Tests.{eq-eqb, lt-ltb, le-leb}
use Rattle.model.specs.declared.Record.{Record}
use Rattle.model.specs.declared.Node.{Node}
use Rattle.model.specs.declared.Model.{Model}
use Rattle.model.specs.Places.{pad, log_places}
use Rattle.model.specs.Rows.{paths}
use Rattle.model.specs.Sound.{same_list}
use Rattle.model.specs.Logs.{kind_number, State, state, logged_if, rows_change, text_change, log_of, no_record}
use Rattle.model.specs.Replay.{records_of, held, replays, Held, fits, replay_one, replay_all, all_fit, read_in}
use Rattle.steps.specs.Telling.{Tells, Told, nil, cons, Tale}
use Rattle.steps.proofs.Settling.{list_same}
use Rattle.lists.proofs.Bools.{and}
use Rattle.paths.specs.Order.{Path}

told_append : {l m n : List Path} {xs ys : List Record} → Told l xs m → Told m ys n → Told l (xs ++ ys) n
told_append nil u = u
told_append (cons t s) u = cons t (told_append s u)

pub tale_refl : (s : State) → Tale s s
tale_refl s = record { news = []; log = sym (append-nil s.log); told = nil }

pub tale_trans : {s t u : State} → Tale s t → Tale t u → Tale s u
tale_trans {s} a b = record { news = a.news ++ b.news; log = b.log ∙ ap (λ (l : List Record). l ++ b.news) a.log ∙ append_assoc s.log a.news b.news; told = told_append a.told b.told }

-- a record is logged, or else the listing is the same
pub tale_if : (s t : State) (b : Bool) (x : Record) → t.log ≡ s.log ++ logged_if b x → (b ≡ true → Tells (paths s.nodes) x (paths t.nodes)) → (b ≡ false → paths t.nodes ≡ paths s.nodes) → Tale s t
tale_if s t true x l y n = record { news = x ∷ []; log = l; told = cons (y refl) nil }
tale_if s t false x l y n = record { news = []; log = l; told = rw (n refl) nil }

pub tale_told : (ns : List Node) (t : State) → Tale (state ns []) t → Told (paths ns) t.log (paths t.nodes)
tale_told ns t a = rw a.log a.told

-- what is held is what is listed, where it is read
data Holds : List Held → List Path → Type 0 where
  empty : Holds [] []
  kept : {p : Path} {h : List Held} {l : List Path} → Holds h l → Holds (some p ∷ h) (p ∷ l)
  unread : {p : Path} {h : List Held} {l : List Path} → Holds h l → Holds (none ∷ h) (p ∷ l)

holds_start : (l : List Path) → Holds (map some l) l
holds_start [] = empty
holds_start (p ∷ l) = kept (holds_start l)

holds_length : {h : List Held} {l : List Path} → Holds h l → length h ≡ length l
holds_length empty = refl
holds_length (kept s) = ap suc (holds_length s)
holds_length (unread s) = ap suc (holds_length s)

holds_append : {a b : List Held} {l m : List Path} → Holds a l → Holds b m → Holds (a ++ b) (l ++ m)
holds_append empty t = t
holds_append (kept s) t = kept (holds_append s t)
holds_append (unread s) t = unread (holds_append s t)

holds_take : (n : ℕ) {h : List Held} {l : List Path} → Holds h l → Holds (take n h) (take n l)
holds_take zero s = empty
holds_take (suc n) empty = empty
holds_take (suc n) (kept s) = kept (holds_take n s)
holds_take (suc n) (unread s) = unread (holds_take n s)

holds_drop : (n : ℕ) {h : List Held} {l : List Path} → Holds h l → Holds (drop n h) (drop n l)
holds_drop zero s = s
holds_drop (suc n) empty = empty
holds_drop (suc n) (kept s) = holds_drop n s
holds_drop (suc n) (unread s) = holds_drop n s

holds_new : (l : List Path) → Holds (replicate (length l) none) l
holds_new [] = empty
holds_new (p ∷ l) = unread (holds_new l)

-- read at the end, it is the listing
holds_read : {h : List Held} {l : List Path} → Holds h l → read_in h l ≡ l
unfolding read_in
holds_read empty = refl
holds_read (kept {p = p} s) = ap (p ∷◌) (holds_read s)
holds_read (unread {p = p} s) = ap (p ∷◌) (holds_read s)

holds_one : {h : List Held} {l m : List Path} (x : Record) → Tells l x m → Holds h l → Holds (replay_one h x) m
unfolding replay_one
holds_one {h} {l} {m} x t s =
    let e : m ≡ take x.position l ++ (t.news ++ drop (x.position + x.removed) l) = t.is ∙ append_assoc (take x.position l) t.news (drop (x.position + x.removed) l) in
    rw e (holds_append (holds_take x.position s) (holds_append (rw t.many at (holds_new t.news)) (holds_drop (x.position + x.removed) s)))

fits_one : {h : List Held} {l m : List Path} (x : Record) → Tells l x m → Holds h l → fits h x ≡ true
unfolding fits
fits_one {h} {l} x t s = go t.kind
  where
    e : length h ≡ length l
    e = holds_length s

    go : (kind_number x.kind ≡ 1) ⊎ ((kind_number x.kind ≡ 2) × (x.position < length l) × (x.removed ≡ 0) × (x.added ≡ 0)) → eqb (kind_number x.kind) 1 && leb (x.position + x.removed) (length h) || eqb (kind_number x.kind) 2 && ltb x.position (length h) && eqb x.removed 0 && eqb x.added 0 ≡ true
    go (inl k) = rw (and (eq-eqb (kind_number x.kind) 1 k) (le-leb (x.position + x.removed) (length h) (rw e t.room)))
    go (inr k) = rw (and (and (and (eq-eqb (kind_number x.kind) 2 k.0) (lt-ltb x.position (length h) (rw e k.1))) (eq-eqb x.removed 0 k.2)) (eq-eqb x.added 0 k.3)) (or-true (eqb (kind_number x.kind) 1 && leb (x.position + x.removed) (length h)))

-- every record fits where it is applied, and what is held at the end is what is listed
replay : {l m : List Path} {xs : List Record} → Told l xs m → (h : List Held) → Holds h l → (all_fit h xs ≡ true) × Holds (replay_all h xs) m
unfolding all_fit replay_all
replay nil h s = (refl, s)
replay (cons {x = x} t u) h s =
    let r = replay u (replay_one h x) (holds_one x t s) in
    (and (fits_one x t s) r.0, r.1)

-- the records of a log that is not too long
pub log_records : (xs : List Record) → length xs ≤ log_places → records_of (log_of xs) ≡ xs
unfolding log_of pad
log_records xs h = take-take (length xs) log_places (xs ++ replicate log_places no_record) h ∙ take_at xs (replicate log_places no_record) (length xs) refl

-- a log that tells how the listing changed replays
pub told_replays : (m : Model) (xs : List Record) (r : Model) → Told (paths m.nodes) xs (paths r.nodes) → length xs ≤ log_places → replays m (log_of xs) r ≡ true
unfolding replays
told_replays m xs r t h =
    let R = replay t (held m) (holds_start (paths m.nodes)) in
    rw (log_records xs h)
    (and R.0 (rw (holds_read R.1) (list_same (same_list eqb) (λ p. list_same eqb (λ n. eq-eqb n n refl) p) (paths r.nodes))))

-- what each kind of record tells

pub tells_in : (l m : List Path) (e : ℕ) (news : List Path) (c : ℕ) → length news ≡ c → e ≤ length l → m ≡ take e l ++ news ++ drop e l → Tells l (rows_change e 0 c) m
tells_in l m e news c n h d = record { kind = inl refl; room = rw add-zero h; news = news; many = n; is = rw add-zero d }

pub tells_out : (l m : List Path) (e c : ℕ) → e + c ≤ length l → m ≡ take e l ++ drop (e + c) l → Tells l (rows_change e c 0) m
tells_out l m e c h d = record { kind = inl refl; room = h; news = []; many = refl; is = d ∙ ap (λ (z : List Path). z ++ drop (e + c) l) (sym (append-nil (take e l))) }

pub tells_text : (l m : List Path) (e : ℕ) → e < length l → m ≡ l → Tells l (text_change e) m
tells_text l m e h d = record { kind = inr (refl, h, refl, refl); room = rw add-zero (omega arith); news = []; many = refl; is = d ∙ sym (take-append-drop e l) ∙ ap (λ (z : List Path). z ++ drop e l) (sym (append-nil (take e l))) ∙ ap (λ (z : ℕ). take e l ++ [] ++ drop z l) (sym (add-zero e)) }
