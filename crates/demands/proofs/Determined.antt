-- Two answers that meet a contract are equal: each contract says that what is read from the answer is one value, refusals too, and what is read determines the answer.
use mathlib.Core.Path.{◌≡◌, refl, sym, ◌∙◌, ap}
use Prim.Native.Nat.{ℕ, zero, suc}
use native.Mathlib.Omega.{arith}
use Rattle.std.specs.Prelude.{Result, Ok, Err}
use Rattle.model.specs.declared.Model.{Model}
use Rattle.model.specs.declared.Refusal.{Refusal}
use Rattle.model.specs.declared.Refusal.TheVariants.{UnsoundModel, UnreadableTable, FilledCapture, PastRows, NothingBelow, NodesFull, TooManyRows, WentBack, RowOpen}
use Rattle.model.specs.declared.Refused.{Refused}
use Rattle.model.specs.declared.Fetched.{Fetched}
use Rattle.model.specs.declared.Changed.{Changed}
use Rattle.model.specs.declared.Updated.{Updated}
use Rattle.model.specs.Answers.{number, model_answer, count_answer, fetch_answer, change_answer, update_answer, ModelAnswer, CountAnswer, FetchAnswer, ChangeAnswer, UpdateAnswer}

pub determined : {A : Type 0} (answer a b : A) → a ≡ answer → b ≡ answer → a ≡ b
determined answer a b e f = e ∙ sym f

-- the refusal that has a number
refusal_of : ℕ → Refusal
refusal_of zero = RowOpen
refusal_of (suc zero) = UnsoundModel
refusal_of (suc (suc zero)) = UnreadableTable
refusal_of (suc (suc (suc zero))) = FilledCapture
refusal_of (suc (suc (suc (suc zero)))) = PastRows
refusal_of (suc (suc (suc (suc (suc zero))))) = NothingBelow
refusal_of (suc (suc (suc (suc (suc (suc zero)))))) = NodesFull
refusal_of (suc (suc (suc (suc (suc (suc (suc zero))))))) = TooManyRows
refusal_of (suc (suc (suc (suc (suc (suc (suc (suc zero)))))))) = WentBack
refusal_of (suc (suc (suc (suc (suc (suc (suc (suc (suc n))))))))) = RowOpen

refusal_of-number : (e : Refusal) → refusal_of (number e) ≡ e
unfolding refusal_of
refusal_of-number UnsoundModel = refl
refusal_of-number UnreadableTable = refl
refusal_of-number FilledCapture = refl
refusal_of-number PastRows = refl
refusal_of-number NothingBelow = refl
refusal_of-number NodesFull = refl
refusal_of-number TooManyRows = refl
refusal_of-number WentBack = refl
refusal_of-number RowOpen = refl

-- a number belongs to one refusal
pub number_once : (d e : Refusal) → number d ≡ number e → d ≡ e
number_once d e h = sym (refusal_of-number d) ∙ ap refusal_of h ∙ refusal_of-number e

-- and none to a call that is done
pub number_nonzero : (e : Refusal) → number e ≡ 0 → ⊥
number_nonzero UnsoundModel h = absurd (omega arith)
number_nonzero UnreadableTable h = absurd (omega arith)
number_nonzero FilledCapture h = absurd (omega arith)
number_nonzero PastRows h = absurd (omega arith)
number_nonzero NothingBelow h = absurd (omega arith)
number_nonzero NodesFull h = absurd (omega arith)
number_nonzero TooManyRows h = absurd (omega arith)
number_nonzero WentBack h = absurd (omega arith)
number_nonzero RowOpen h = absurd (omega arith)

refused_once : (d e : Refused) → number d.refusal ≡ number e.refusal → d.model ≡ e.model → d ≡ e
refused_once d e h k = λ i. record { refusal = number_once d.refusal e.refusal h i; model = k i }

pub model_once : (a b : Result Model Refused) → model_answer a ≡ model_answer b → a ≡ b
model_once (Ok x) (Ok y) h = ap (λ (z : ModelAnswer). Ok z.model) h
model_once (Ok x) (Err e) h = absurd (number_nonzero e.refusal (sym (ap (λ (z : ModelAnswer). z.refusal) h)))
model_once (Err d) (Ok y) h = absurd (number_nonzero d.refusal (ap (λ (z : ModelAnswer). z.refusal) h))
model_once (Err d) (Err e) h = ap Err (refused_once d e (ap (λ (z : ModelAnswer). z.refusal) h) (ap (λ (z : ModelAnswer). z.model) h))

pub count_once : (a b : Result ℕ Refusal) → count_answer a ≡ count_answer b → a ≡ b
count_once (Ok x) (Ok y) h = ap (λ (z : CountAnswer). Ok z.count) h
count_once (Ok x) (Err e) h = absurd (number_nonzero e (sym (ap (λ (z : CountAnswer). z.refusal) h)))
count_once (Err d) (Ok y) h = absurd (number_nonzero d (ap (λ (z : CountAnswer). z.refusal) h))
count_once (Err d) (Err e) h = ap Err (number_once d e (ap (λ (z : CountAnswer). z.refusal) h))

pub fetch_once : (a b : Result Fetched Refused) → fetch_answer a ≡ fetch_answer b → a ≡ b
fetch_once (Ok x) (Ok y) h = ap (λ (z : FetchAnswer). Ok (record { model = z.model; row = z.row })) h
fetch_once (Ok x) (Err e) h = absurd (number_nonzero e.refusal (sym (ap (λ (z : FetchAnswer). z.refusal) h)))
fetch_once (Err d) (Ok y) h = absurd (number_nonzero d.refusal (ap (λ (z : FetchAnswer). z.refusal) h))
fetch_once (Err d) (Err e) h = ap Err (refused_once d e (ap (λ (z : FetchAnswer). z.refusal) h) (ap (λ (z : FetchAnswer). z.model) h))

pub change_once : (a b : Result Changed Refused) → change_answer a ≡ change_answer b → a ≡ b
change_once (Ok x) (Ok y) h = ap (λ (z : ChangeAnswer). Ok (record { model = z.model; log = z.log })) h
change_once (Ok x) (Err e) h = absurd (number_nonzero e.refusal (sym (ap (λ (z : ChangeAnswer). z.refusal) h)))
change_once (Err d) (Ok y) h = absurd (number_nonzero d.refusal (ap (λ (z : ChangeAnswer). z.refusal) h))
change_once (Err d) (Err e) h = ap Err (refused_once d e (ap (λ (z : ChangeAnswer). z.refusal) h) (ap (λ (z : ChangeAnswer). z.model) h))

pub update_once : (a b : Result Updated Refused) → update_answer a ≡ update_answer b → a ≡ b
update_once (Ok x) (Ok y) h = ap (λ (z : UpdateAnswer). Ok (record { model = z.model; log = z.log; ongoing = z.ongoing })) h
update_once (Ok x) (Err e) h = absurd (number_nonzero e.refusal (sym (ap (λ (z : UpdateAnswer). z.refusal) h)))
update_once (Err d) (Ok y) h = absurd (number_nonzero d.refusal (ap (λ (z : UpdateAnswer). z.refusal) h))
update_once (Err d) (Err e) h = ap Err (refused_once d e (ap (λ (z : UpdateAnswer). z.refusal) h) (ap (λ (z : UpdateAnswer). z.model) h))
