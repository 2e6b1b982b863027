-- Paths and their order: the dictionary order, in which a path comes before its extensions.
use Rattle.std.specs.Prelude.{◌≡◌, ◌⊎◌, ℕ, ◌<◌}
use Rattle.std.proofs.Common.{inl, inr}
use mathlib.Core.List.{List, [], ◌∷◌, ◌++◌, List-discrete}
use Rattle.std.proofs.Math.Decide.{ℕ_discrete, dec_lt}

-- a row's path is the chain of child indices down to it
abbrev pub Path : Type 0
Path = List ℕ

-- the i-th child of p
abbrev pub ◌·◌ : Path → ℕ → Path
p · i = p ++ (i ∷ [])

infixl 80 ◌·◌
pub data Lt : Path → Path → Type 0 where
  stop : {y : ℕ} {q : Path} → Lt [] (y ∷ q)
  less : {x y : ℕ} {p q : Path} → x < y → Lt (x ∷ p) (y ∷ q)
  same : {x y : ℕ} {p q : Path} → x ≡ y → Lt p q → Lt (x ∷ p) (y ∷ q)

-- q strictly extends p
pub data Ext : Path → Path → Type 0 where
  stop : {y : ℕ} {q : Path} → Ext [] (y ∷ q)
  same : {x y : ℕ} {p q : Path} → x ≡ y → Ext p q → Ext (x ∷ p) (y ∷ q)

-- x is p or extends p
abbrev pub Under : Path → Path → Type 0
Under p x = (x ≡ p) ⊎ Ext p x

-- all of this is decided

dec_below : {x y : ℕ} → Dec (x < y)
dec_below {x = x} {y = y} = dec_lt x y

dec_both : {A B : Type 0} → Dec A → Dec B → Dec (A × B)
dec_both (yes a) (yes b) = yes (a, b)
dec_both (yes a) (no n) = no (λ s. n s.1)
dec_both (no n) d = no (λ s. n s.0)

-- what has two ways to hold, of which each is decided
dec_either : {A B C : Type 0} → (A → C) → (B → C) → (C → A ⊎ B) → Dec A → Dec B → Dec C
dec_either f g h (yes a) d = yes (f a)
dec_either f g h (no n) (yes b) = yes (g b)
dec_either f g h (no n) (no m) = no (λ c. elim (h c) [ inl a ↦ n a | inr b ↦ m b ])

pub dec_lt_lem : (p q : Path) → Dec (Lt p q)
dec_lt_lem [] [] = no (λ h. elim h [ ])
dec_lt_lem [] (y ∷ q) = yes stop
dec_lt_lem (x ∷ p) [] = no (λ h. elim h [ ])
dec_lt_lem (x ∷ p) (y ∷ q) =
    dec_either (less {x = x} {y = y} {p = p} {q = q}) (λ s. same s.0 s.1) (λ h. elim h [ less k ↦ inl k | same e k ↦ inr (e, k) ])
    dec_below (dec_both (ℕ_discrete x y) (dec_lt_lem p q))

pub dec_ext : (p q : Path) → Dec (Ext p q)
dec_ext [] [] = no (λ h. elim h [ ])
dec_ext [] (y ∷ q) = yes stop
dec_ext (x ∷ p) [] = no (λ h. elim h [ ])
dec_ext (x ∷ p) (y ∷ q) = go (ℕ_discrete x y) (dec_ext p q)
  where
    parts : Ext (x ∷ p) (y ∷ q) → (x ≡ y) × Ext p q
    parts (same e h) = (e, h)

    go : Dec (x ≡ y) → Dec (Ext p q) → Dec (Ext (x ∷ p) (y ∷ q))
    go (yes e) (yes h) = yes (same e h)
    go (yes e) (no n) = no (λ h. n (parts h).1)
    go (no n) d = no (λ h. n (parts h).0)

pub dec_eq : (p q : Path) → Dec (p ≡ q)
dec_eq p q = List-discrete ℕ_discrete p q

pub dec_under : (p q : Path) → Dec (Under p q)
dec_under p q = go (dec_eq q p) (dec_ext p q)
  where
    go : Dec (q ≡ p) → Dec (Ext p q) → Dec (Under p q)
    go (yes e) d = yes (inl e)
    go (no n) (yes h) = yes (inr h)
    go (no n) (no k) = no (elim [ inl e ↦ n e | inr h ↦ k h ])
