-- What the words hold after weights are loaded and the rest is cleared; and the weights of a plane, where they stand in the corner of a tile.
use mathlib.Core.Path.{◌≡◌, ap, ◌∙◌}
use mathlib.Core.Bool.{true, false}
use mathlib.Core.List.{List, ◌++◌}
use Prim.Native.Nat.{ℕ, ◌+◌, ◌*◌, ◌-◌, ◌/◌, ◌<◌, ◌≤◌}
use native.Mathlib.Nat.{div-one, zero-add}
use native.Mathlib.Decide.{dec_lt}
use native.Mathlib.Omega.{arith}
use lib.Arith.{digits_lt}
use lib.IntN.{ℤ, pos}
use lib.Dec.{T}
use lib.ListN.{length, get_or, get_or-eq_default, get_or-append, take, drop}
use lib.Seq.{length-take-le}
use Rattle.std.specs.Prelude.{reverse}
use Rattle.std.proofs.lemmas.List.{get_or-reverse, length-reverse, get_or-take}
use Rattle.algebra.specs.Places.{Written, Run}
use Rattle.fermat.specs.Field.{modulus}
use Rattle.spectrum.specs.Value.{Word}
use Rattle.layer.specs.Windows.{spread}
use Rattle.layer.specs.WindowLaws.{spread_yes}
use Rattle.layer.specs.declared.shape.Layer.{Layer}
use Rattle.layer.specs.Shape.{is_conv}
use Rattle.window.specs.Window.{turned_in, turned_index}
use Rattle.window.specs.Loaded.{Loaded, HoldsWeights, HoldsKernel}
use Rattle.window.proofs.ChannelLaws.{by_kind}

-- the weight at place p of those that are lent, turned round in CONV
abbrev pub weight_of : Layer → List ℤ → (p : ℕ) → ℤ
weight_of l weights p = get_or weights (0 + turned_in l (length weights) p) (pos 0)

module _ (l : Layer) (weights : List ℤ) {xs ys : List ℕ} (room : length weights ≤ length xs)
    (loaded : Loaded (modulus l.field) (λ p. T (spread 1 0 (length weights) p)) (λ p. get_or weights (p / 1) (pos 0)) xs ys) where
  -- the first words are loaded side by side
  word_at : (p : ℕ) → p < length weights → Word (modulus l.field) (get_or weights p (pos 0)) (get_or ys p 0)
  word_at p h =
      rw (div-one p) at
      (loaded.here p (omega arith) (spread_yes 1 0 (length weights) p p (omega arith) (omega arith) (omega arith) h))

  pub tconv_word : is_conv l ≡ false → (p : ℕ) → p < length weights → Word (modulus l.field) (weight_of l weights p) (get_or ys p 0)
  tconv_word e p h = rw (e, zero-add p) (word_at p h)

  -- in CONV they are then reversed
  pub conv_word : {rs : List ℕ} → is_conv l ≡ true → rs ≡ reverse (take (length weights) ys) → (p : ℕ) → p < length weights
      → Word (modulus l.field) (weight_of l weights p) (get_or (rs ++ drop (length weights) ys) p 0)
  conv_word {rs} e reversed p h =
      rw (e, zero-add (length weights - 1 - p), word) (word_at (length weights - 1 - p) (omega arith))
    where
      size : length (take (length weights) ys) ≡ length weights
      size = length-take-le (length weights) ys (omega (arith, loaded.same_length))

      long : length rs ≡ length weights
      long = rw reversed (length-reverse (take (length weights) ys) ∙ size)

      word : get_or (rs ++ drop (length weights) ys) p 0 ≡ get_or ys (length weights - 1 - p) 0
      word =
          get_or-append rs (drop (length weights) ys) 0 p (omega (arith, long))
          ∙ ap (λ (qs : List ℕ). get_or qs p 0) reversed ∙ get_or-reverse (take (length weights) ys) p 0 (omega (arith, size))
          ∙ ap (λ (n : ℕ). get_or (take (length weights) ys) (n - 1 - p) 0) size
          ∙ get_or-take (length weights) ys (length weights - 1 - p) 0 (omega arith)

module _ (l : Layer) (weights : List ℤ) {ys zs : List ℕ}
    (each : (p : ℕ) → p < length weights → Word (modulus l.field) (weight_of l weights p) (get_or ys p 0))
    (room : length weights ≤ length ys) (cleared : Written 0 (Run (length weights) (length ys - length weights)) (λ _. 0) ys zs) where
  weight_word : (p : ℕ) → p < length weights → Word (modulus l.field) (weight_of l weights p) (get_or zs p 0)
  weight_word p h = rw (cleared.kept p (λ r. omega (arith, r))) (each p h)

  empty_word : (p : ℕ) → length weights ≤ p → get_or zs p 0 ≡ 0
  empty_word p h = go (dec_lt p (length ys))
    where
      go : Dec (p < length ys) → get_or zs p 0 ≡ 0
      go (yes k) = cleared.here p k (h, omega arith)
      go (no k) = get_or-eq_default zs 0 (omega (arith, cleared.same_length))

  pub weighted : HoldsWeights l weights 0 (length weights) zs
  weighted = record {
    value = λ i h. (weight_word i h).value;
    empty = empty_word;
    bound = λ p _. by_place p (dec_lt p (length weights));
  }
    where
      by_place : (p : ℕ) → Dec (p < length weights) → get_or zs p 0 ≤ 2 * modulus l.field
      by_place p (yes h) = (weight_word p h).bound
      by_place p (no h) = omega (arith, empty_word p (omega arith))

-- ---- a plane

-- a plane turned round is turned round in rows and in columns
turned_place : (l : Layer) (plane a b : ℕ) → a < l.side → b < l.side
    → plane * (l.side * l.side) + turned_in l (l.side * l.side) (a * l.side + b)
    ≡ (plane * l.side + turned_index l a) * l.side + turned_index l b
turned_place l plane a b row column =
    by_kind l
    (λ e. rw e (conv l.side (l.side - 1 - a) (l.side - 1 - b) (omega arith) (omega arith)))
    (λ e. rw e (tconv l.side))
  where
    conv : (K x y : ℕ) → K ≡ a + x + 1 → K ≡ b + y + 1 → plane * (K * K) + (K * K - 1 - (a * K + b)) ≡ (plane * K + x) * K + y
    conv K x y e f = let g : K * K ≡ (a + x + 1) * K = ap (λ (i : ℕ). i * K) e in omega arith

    tconv : (K : ℕ) → plane * (K * K) + (a * K + b) ≡ (plane * K + a) * K + b
    tconv K = omega arith

-- the K² weights of a plane are the plane
pub plane_held : (l : Layer) (kernel : List ℤ) (plane : ℕ) {xs : List ℕ}
    → HoldsWeights l kernel (plane * (l.side * l.side)) (l.side * l.side) xs → HoldsKernel l kernel plane xs
plane_held l kernel plane holds = record {
  value = λ a b row column. rw (turned_place l plane a b row column) at (holds.value (a * l.side + b) (digits_lt row column));
  empty = holds.empty;
  bound = holds.bound;
}
