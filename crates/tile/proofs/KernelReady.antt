-- The kernel's plane in a part of scratch: what is lent to be loaded, what the transform of the corner asks, what it leaves, and that this
-- stays where the words stay.
use mathlib.Core.Path.{◌≡◌, refl, sym, ap, ◌∙◌, subst}
use mathlib.Core.Bool.{Bool, true, false, ◌&&◌, cond}
use mathlib.Core.Logic.{◌⊎◌, inl, inr}
use mathlib.Core.List.{List}
use Prim.Native.Nat.{ℕ, ◌+◌, ◌*◌, ◌-◌, ◌≤◌, ◌<◌}
use native.Mathlib.Nat.{zero-add, mul-le-mul, mul-le-mul_left, mul-le-mul_right}
use native.Mathlib.Omega.{arith}
use lib.Arith.{digits_lt}
use lib.Dec.{ltb}
use lib.IntN.{ℤ}
use lib.ListN.{length, get_or, drop, length-drop}
use lib.Seq.{length-take-le, get_or-take, get_or-drop}
use borrow.Author.Tests.{lt-ltb, le-ltb}
use borrow.Rule.Slice.PartMut.{mid_of, put_mid, same_len_mid}
use Rattle.algebra.specs.Places.{Changed}
use Rattle.algebra.specs.PlacesLaws.{get_d_put_mid}
use Rattle.algebra.specs.CongruenceLaws.{c_eq}
use Rattle.fermat.specs.Field.{modulus, transform_length}
use Rattle.passes.specs.Butterfly.{AtMost}
use Rattle.spectrum.specs.Tile.{Spectrum}
use Rattle.spectrum.specs.Corner.{corner_start, corner, Cornered}
use Rattle.spectrum.specs.Product.{factor_most}
use Rattle.spectrum.specs.SpectrumLaws.{spectrum_moved}
use Rattle.layer.specs.Planned.{InRange}
use Rattle.layer.specs.declared.shape.Layer.{Layer}
use Rattle.layer.specs.TileSizeLaws.{length_low, length_high}
use Rattle.window.specs.Loaded.{HoldsKernel}
use Rattle.tile.specs.Channel.{area, KernelReady}

-- K is at most half of N
pub half_length : {l : Layer} {n : ℕ} → InRange l → n ≡ transform_length l.field → 2 * l.side ≤ n
half_length {l} range side = omega (arith, length_low l range, range.side_high)

-- the words of the kernel's part from the corner on are N rows of K
pub last_words : {l : Layer} {n : ℕ} (xs : List ℕ) → InRange l → n ≡ transform_length l.field → length xs ≡ area l
    → length xs - corner_start n l.side ≡ n * l.side
last_words {l} {n} xs range side whole =
    let inside : n * l.side ≤ n * n = mul-le-mul_left n (omega (arith, half_length range side)) in
    let size : length xs ≡ n * n = rw side whole in
    omega arith

-- the numbers: n is N, and the plane is loaded into the last s words of the kernel's part
pub record Part (l : Layer) (n s : ℕ) (xs : List ℕ) : Type 0 where
  pub range : InRange l
  pub side : n ≡ transform_length l.field
  pub count : s ≡ n * l.side
  pub whole : length xs ≡ area l

module _ {l : Layer} {n s : ℕ} {xs : List ℕ} (part : Part l n s xs) where
  pub area_high : n * n ≤ 4096
  area_high =
      let most : n ≤ 64 = omega (arith, part.side, length_high l part.range) in
      mul-le-mul most most

  small : 2 * l.side ≤ n
  small = half_length part.range part.side

  pub inside : n * l.side ≤ n * n
  inside = mul-le-mul_left n (omega (arith, small))

  pub whole_n : length xs ≡ n * n
  whole_n = rw part.side part.whole

  -- where the plane is loaded
  abbrev at : ℕ
  at = corner_start n l.side

  part_le : at + s ≤ length xs
  part_le = omega (arith, inside, part.count, whole_n)

  lent_length : length (mid_of at s xs) ≡ s
  lent_length = length-take-le s (drop at xs) (omega (arith, length-drop at xs, part_le))

  pub part_length : length (mid_of at s xs) ≡ transform_length l.field * l.side
  part_length = lent_length ∙ part.count ∙ ap (λ (i : ℕ). i * l.side) part.side

  module _ {kernel : List ℤ} {plane : ℕ} (ys : List ℕ) (kept : length ys ≡ length (mid_of at s xs)) (holds : HoldsKernel l kernel plane ys) where
    size : length ys ≡ s
    size = kept ∙ lent_length

    -- a loaded word, in the buffer
    at_corner : (i : ℕ) → i < s → get_or (put_mid at s xs ys) (at + i) 0 ≡ get_or ys i 0
    at_corner = get_d_put_mid 0 xs ys at s part_le size

    pub cornered : Cornered (transform_length l.field) l.side (2 * modulus l.field) (put_mid at s xs ys)
    cornered = subst (λ (N : ℕ). Cornered N l.side (2 * modulus l.field) (put_mid at s xs ys)) part.side (record {
      some = part.range.side_low;
      small = small;
      whole = same_len_mid at s xs ys kept ∙ whole_n;
      bound = λ i h. rw (at_corner i (omega (arith, part.count))) (holds.bound i (omega (arith, size, part.count)));
      empty = λ i low high. at_corner i (omega (arith, part.count)) ∙ holds.empty i low;
    })

    -- the words of the corner
    abbrev words : ℕ → ℕ → ℕ
    words = corner l.side (corner_start (transform_length l.field) l.side) (put_mid at s xs ys)

    value : (a b : ℕ) → a < l.side → b < l.side → words a b ≡ get_or ys (a * l.side + b) 0
    value a b la lb =
        let here : a * l.side + b < l.side * l.side = digits_lt la lb in
        let low : l.side * l.side ≤ n * l.side = mul-le-mul_right l.side (omega (arith, small)) in
        rw (lt-ltb a l.side la, lt-ltb b l.side lb, sym part.side) (at_corner (a * l.side + b) (omega (arith, part.count)))

    outside : (a b : ℕ) → (l.side ≤ a) ⊎ (l.side ≤ b) → words a b ≡ 0
    outside a b (inl h) = rw (le-ltb a l.side h)
    outside a b (inr h) = rw (le-ltb b l.side h) (none (ltb a l.side))
      where
        none : (test : Bool) → cond (test && false) (get_or (put_mid at s xs ys) (corner_start (transform_length l.field) l.side + (a * l.side + b)) 0) 0 ≡ 0
        none true = refl
        none false = refl

    pub kernel_ready : (zs : List ℕ) → length zs ≡ length (put_mid at s xs ys) → Spectrum l.field words 0 zs → AtMost (factor_most l.field) zs
        → KernelReady l kernel plane 0 zs
    kernel_ready zs same spectrum most = record {
      words = words;
      value = λ a b la lb. rw (value a b la lb) (holds.value a b la lb);
      empty = outside;
      spectrum = spectrum;
      bound = λ i h. rw (zero-add i) (most i (omega (arith, same, cornered.whole)));
    }

-- ---- it stays

-- the same words, from another place on
pub kernel_moved : {l : Layer} {kernel : List ℤ} {plane a b : ℕ} {xs ys : List ℕ} → KernelReady l kernel plane a xs
    → ((i : ℕ) → i < area l → get_or ys (b + i) 0 ≡ get_or xs (a + i) 0) → KernelReady l kernel plane b ys
kernel_moved k same = record {
  words = k.words;
  value = k.value;
  empty = k.empty;
  spectrum = spectrum_moved refl k.spectrum (λ i h. c_eq (same i h));
  bound = λ i h. rw (same i h) (k.bound i h);
}

module _ {l : Layer} {kernel : List ℤ} {plane : ℕ} {xs : List ℕ} (kept : KernelReady l kernel plane (area l) xs) where
  -- changes in the first part leave it
  pub kernel_left : {to : ℕ} {ys : List ℕ} → to ≤ area l → Changed 0 0 to xs ys → KernelReady l kernel plane (area l) ys
  kernel_left le changed = kernel_moved kept (λ i h. changed.after (area l + i) (omega arith))

  -- and it is lent with the part
  pub kernel_lent : (a k : ℕ) → a ≡ area l → area l ≤ k → KernelReady l kernel plane 0 (mid_of a k xs)
  kernel_lent a k e le =
      kernel_moved kept
      (λ i h. rw (zero-add i) (get_or-take k (drop a xs) i 0 (omega arith) ∙ get_or-drop a xs i 0 ∙ ap (λ (j : ℕ). get_or xs (j + i) 0) e))
