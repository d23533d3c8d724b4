-- What the work on one map channel of a tile promises. Scratch is three parts of N² words: the sum of products, the kernel, the window.
use Rattle.std.specs.Prelude.{◌≡◌, ◌⊎◌, List, ℕ, ◌+◌, ◌*◌, ◌-◌, ◌≤◌, ◌<◌, ℤ, length, get_or}
use Rattle.algebra.specs.Residue.{Represents}
use Rattle.algebra.specs.Sum.{sum_z}
use Rattle.algebra.specs.Places.{Changed}
use Rattle.fermat.specs.Field.{modulus, transform_length}
use Rattle.passes.specs.Butterfly.{AtMost}
use Rattle.spectrum.specs.Tile.{Spectrum}
use Rattle.spectrum.specs.Product.{factor_most, product_most}
use Rattle.layer.specs.Planned.{Planned}
use Rattle.layer.specs.Direct.{plane_of}
use Rattle.layer.specs.declared.shape.Layer.{Layer}
use Rattle.window.specs.Window.{window_at, weight_at, channel_sum}
use Rattle.tile.specs.declared.origin.Origin.{Origin}

-- N²
abbrev pub area : Layer → ℕ
area l = transform_length l.field * transform_length l.field

-- the N² words from `at` on are the transform of words for a plane of the kernel, which stand in its corner
pub record KernelReady (l : Layer) (kernel : List ℤ) (plane at : ℕ) (ys : List ℕ) : Type 0 where
  pub words : ℕ → ℕ → ℕ
  pub value : (a b : ℕ) → a < l.side → b < l.side → Represents (modulus l.field) (weight_at l kernel plane a b) (words a b)
  pub empty : (a b : ℕ) → (l.side ≤ a) ⊎ (l.side ≤ b) → words a b ≡ 0
  pub spectrum : Spectrum l.field words at ys
  pub bound : (i : ℕ) → i < area l → get_or ys (at + i) 0 ≤ factor_most l.field

-- scratch holds in its second part the transform for map channel c and output channel m
abbrev pub KernelKept : Layer → (kernel : List ℤ) → (m c : ℕ) → (scratch : List ℕ) → Type 0
KernelKept l kernel m c = KernelReady l kernel (plane_of l m c) (area l)

-- all words are the transform of words for the window of map channel c that begins at that row and column
pub record WindowReady (l : Layer) (map : List ℤ) (c row column : ℕ) (ys : List ℕ) : Type 0 where
  pub words : ℕ → ℕ → ℕ
  pub value : (u v : ℕ) → u < transform_length l.field → v < transform_length l.field
      → Represents (modulus l.field) (window_at l map c row column u v) (words u v)
  pub spectrum : Spectrum l.field words 0 ys
  pub bound : AtMost (factor_most l.field) ys

-- the lengths of what is lent
pub record LentLengths (l : Layer) (map kernel : List ℤ) (scratch : List ℕ) : Type 0 where
  pub plan : Planned l
  pub map-length : length map ≡ l.inputs * l.height * l.width
  pub kernel_length : length kernel ≡ l.outputs * l.inputs * (l.side * l.side)
  pub scratch_low : 3 * area l ≤ length scratch

-- an origin whose output channel the layer has, and whose rows and columns are not large
pub record OriginInRange (l : Layer) (o : Origin) : Type 0 where
  pub channel : o.channel < l.outputs
  pub row : o.row ≤ 10000
  pub column : o.column ≤ 10000

module _ (l : Layer) (map kernel : List ℤ) (o : Origin) where
  -- z at (i, j), for i and j from K − 1 on, is a word for the sum over the first `count` map channels
  abbrev pub SumsTo : (count : ℕ) (z : ℕ → ℕ → ℕ) → Type 0
  SumsTo count z =
      (i j : ℕ) → l.side - 1 ≤ i → i < transform_length l.field → l.side - 1 ≤ j → j < transform_length l.field
      → Represents (modulus l.field) (sum_z count (λ c. channel_sum l map kernel o.channel o.row o.column c i j)) (z i j)

  -- the sum of products in ys is the transform of that of the first `count` map channels; words beyond the 3N² are those of xs
  pub record Added (count : ℕ) (xs ys : List ℕ) : Type 0 where
    pub sum : ℕ → ℕ → ℕ
    pub value : SumsTo count sum
    pub spectrum : Spectrum l.field sum 0 ys
    pub bound : (i : ℕ) → i < area l → get_or ys i 0 ≤ count * product_most l.field
    pub changed : Changed 0 0 (3 * area l) xs ys

  -- ys has map channel c added to the sum of the channels before, which is that of xs
  abbrev pub Adds : (c : ℕ) (xs ys : List ℕ) → Type 0
  Adds c xs ys = (first : List ℕ) → Added c first xs → Added (c + 1) first ys
