-- The order of paths is a strict total order.
use Rattle.std.specs.Prelude.{◌≡◌, refl, ◌⊎◌, ◌<◌}
use Rattle.std.proofs.Common.{sym, ◌∙◌, inl, inr, arith}
use mathlib.Core.List.{[], ◌∷◌}
use Rattle.lists.proofs.Numbers.{three}
use Rattle.paths.specs.Order.{Path, Lt, stop, less, same}

pub lt_irrefl : (p : Path) → Lt p p → ⊥
lt_irrefl [] x' = elim x' [ ]
lt_irrefl (x ∷ p) (less h) = omega arith
lt_irrefl (x ∷ p) (same e h) = lt_irrefl p h

pub lt_trans : {p q r : Path} → Lt p q → Lt q r → Lt p r
lt_trans stop (less h) = stop
lt_trans stop (same e k) = stop
lt_trans (less {x = x} h) (less {y = z} k) = less {x = x} {y = z} (omega arith)
lt_trans (less {x = x} h) (same {y = z} e k) = less {x = x} {y = z} (omega arith)
lt_trans (same {x = x} e h) (less {y = z} k) = less {x = x} {y = z} (omega arith)
lt_trans (same e h) (same d k) = same (e ∙ d) (lt_trans h k)

pub lt_total : (p q : Path) → Lt p q ⊎ ((p ≡ q) ⊎ Lt q p)
lt_total [] [] = inr (inl refl)
lt_total [] (y ∷ q) = inl stop
lt_total (x ∷ p) [] = inr (inr stop)
lt_total (x ∷ p) (y ∷ q) = go (three x y) (lt_total p q)
  where
    go : (x < y) ⊎ ((x ≡ y) ⊎ (y < x)) → Lt p q ⊎ ((p ≡ q) ⊎ Lt q p) → Lt (x ∷ p) (y ∷ q) ⊎ ((x ∷ p ≡ y ∷ q) ⊎ Lt (y ∷ q) (x ∷ p))
    go (inl h) r = inl (less h)
    go (inr (inl e)) (inl h) = inl (same e h)
    go (inr (inl e)) (inr (inl d)) = inr (inl (cc))
    go (inr (inl e)) (inr (inr h)) = inr (inr (same (sym e) h))
    go (inr (inr h)) r = inr (inr (less h))
