-- Lists by index: what a buffer holds, place by place.
use Rattle.std.specs.Prelude.{◌≡◌, List, [], ◌∷◌, ◌++◌, ℕ, zero, suc, ◌+◌, ◌≤◌, ◌<◌, length, get_or}

-- f 0, f 1, .. f (n − 1)
unfoldable pub table : {A : Type 0} → ℕ → (ℕ → A) → List A
table zero f = []
table (suc n) f = table n f ++ (f n ∷ [])

-- ys is xs with `value p` at each place p of P; d is what a place beyond the end is read as
pub record Written {A : Type 0} (d : A) (P : ℕ → Type 0) (value : ℕ → A) (xs ys : List A) : Type 0 where
  pub same_length : length ys ≡ length xs
  pub here : (p : ℕ) → p < length xs → P p → get_or ys p d ≡ value p
  pub kept : (p : ℕ) → (P p → ⊥) → get_or ys p d ≡ get_or xs p d

-- the count places from `at` on
abbrev pub Run : ℕ → ℕ → ℕ → Type 0
Run at count p = (at ≤ p) × (p < at + count)

-- ys is xs but for the places from `from` up to `to`
pub record Changed {A : Type 0} (d : A) (from to : ℕ) (xs ys : List A) : Type 0 where
  pub same_length : length ys ≡ length xs
  pub before : (p : ℕ) → p < from → get_or ys p d ≡ get_or xs p d
  pub after : (p : ℕ) → to ≤ p → get_or ys p d ≡ get_or xs p d
