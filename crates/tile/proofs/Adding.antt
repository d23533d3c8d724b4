-- One map channel's work on scratch, three parts of N² words: the sum of products, the kernel, the window. The kernel and the window are
-- transformed in parts that are lent; then their product is added to the sum. It rests on the laws of spectra (SpectrumLaws), of
-- parts that are lent (LendingLaws), and on what the circular sum of one map channel represents (TileReads).
use mathlib.Core.Path.{subst, ◌≡◌, refl, ap}
use mathlib.Core.List.{List}
use Prim.Native.Nat.{ℕ, ◌+◌, ◌*◌, ◌≤◌, ◌<◌}
use native.Mathlib.Nat.{zero-add, mul-le-mul}
use native.Mathlib.Numerals.{add-one}
use native.Mathlib.Omega.{arith}
use lib.Dec.{eqb}
use lib.IntN.{ℤ, pos}
use lib.ListN.{length, get_or}
use borrow.Rule.Slice.PartMut.{put_mid}
use Rattle.algebra.specs.Residue.{Represents}
use Rattle.algebra.specs.SumLaws.{sum_z_none, sum_z_last}
use Rattle.algebra.specs.Places.{Changed}
use Rattle.algebra.specs.PlacesLaws.{changed_again}
use Rattle.algebra.specs.CongruenceLaws.{c_eq}
use Rattle.algebra.specs.ResidueLaws.{represents_add}
use Rattle.fermat.specs.Field.{modulus, transform_length}
use Rattle.fermat.specs.Transform.{circular2}
use Rattle.spectrum.specs.Tile.{Spectrum}
use Rattle.spectrum.specs.Product.{factor_most, product_most, Accumulated}
use Rattle.spectrum.specs.LendingLaws.{Lending, kernel_word, window_word, lent_changed, lent_most}
use Rattle.spectrum.specs.SpectrumLaws.{spectrum_none, spectrum_moved, spectrum_kept, spectrum_accumulated}
use Rattle.layer.specs.PlannedLaws.{cond_le}
use Rattle.layer.specs.Planned.{Planned}
use Rattle.layer.specs.Direct.{plane_of}
use Rattle.layer.specs.declared.shape.Layer.{Layer}
use Rattle.window.specs.Window.{window_at}
use Rattle.tile.specs.declared.origin.Origin.{Origin}
use Rattle.tile.specs.Channel.{area, KernelReady, KernelKept, WindowReady, Added}
use Rattle.tile.proofs.KernelReady.{kernel_moved}
use Rattle.tile.proofs.TileReads.{channel_represents}

module _ (l : Layer) (map kernel : List ℤ) (o : Origin) where
  -- zs is scratch xs with the transforms of the kernel and of the window of map channel c in the second and the third part
  pub record Transformed (c : ℕ) (xs zs : List ℕ) : Type 0 where
    pub weight : KernelKept l kernel o.channel c zs
    pub window : ℕ → ℕ → ℕ
    pub window_value : (u v : ℕ) → u < transform_length l.field → v < transform_length l.field
        → Represents (modulus l.field) (window_at l map c o.row o.column u v) (window u v)
    pub window_spectrum : Spectrum l.field window (area l + area l) zs
    pub bound : (i : ℕ) → area l ≤ i → i < 3 * area l → get_or zs i 0 ≤ factor_most l.field
    pub room : 3 * area l ≤ length zs
    pub changed : Changed 0 (area l) (3 * area l) xs zs

  pub transformed : {c a₁ k₁ a₂ k₂ : ℕ} {xs ks ws : List ℕ} → Lending (area l) a₁ k₁ a₂ k₂ xs ks ws
      → KernelReady l kernel (plane_of l o.channel c) 0 ks → WindowReady l map c o.row o.column ws
      → Transformed c xs (put_mid a₂ k₂ (put_mid a₁ k₁ xs ks) ws)
  transformed p k w = record {
    weight = kernel_moved k (λ i h. rw (zero-add i) (kernel_word p i h));
    window = w.words;
    window_value = w.value;
    window_spectrum = spectrum_moved refl w.spectrum (λ i h. rw (zero-add i) (c_eq (window_word p i h)));
    bound = lent_most p (λ i h. rw (zero-add i) at (k.bound i h)) (λ i h. w.bound i (omega (arith, p.window_length)));
    room = omega (arith, (lent_changed p).same_length, p.room);
    changed = lent_changed p;
  }

  -- ---- the sum of products

  -- none yet: the first part holds 0
  pub added_none : {xs₀ xs : List ℕ} → Changed 0 0 (3 * area l) xs₀ xs → ((i : ℕ) → i < area l → get_or xs i 0 ≡ 0)
      → Added l map kernel o 0 xs₀ xs
  added_none changed none = record {
    sum = λ i j. 0;
    value = λ i j _ _ _ _. record { multiple = pos 0; equation = rw sum_z_none (ap pos (omega arith)) };
    spectrum = spectrum_none refl (λ i h. rw (zero-add i) (none i h));
    bound = λ i h. omega (arith, none i h);
    changed = changed;
  }

  -- adding the product leaves the kernel's transform
  pub kernel_added : {c count : ℕ} {xs zs ys : List ℕ} → Transformed c xs zs → count ≡ area l → Accumulated l.field count zs ys
      → KernelKept l kernel o.channel c ys
  kernel_added ready e accumulated = kernel_moved ready.weight (λ i h. accumulated.kept (area l + i) (omega arith))

  module _ (plan : Planned l) {c : ℕ} {xs zs : List ℕ} (ready : Transformed c xs zs) where
    -- what `accumulate` asks of scratch
    pub accumulate_asks : {count : ℕ} → count ≡ area l → c < l.inputs → ((i : ℕ) → i < area l → get_or xs i 0 ≤ c * product_most l.field)
        → ((4 ≤ l.field) × (l.field ≤ 5) × (3 * count ≤ length zs))
        × (((i : ℕ) → i < count → get_or zs i 0 < 9223372036854775808)
        × ((i : ℕ) → count ≤ i → i < 3 * count → get_or zs i 0 ≤ factor_most l.field))
    accumulate_asks e h bounded = (
      (plan.shape.field_low, plan.shape.field_high, omega (arith, ready.room)),
      (λ i below. small i (omega arith), λ i low high. ready.bound i (omega arith) (omega arith)),
    )
      where
        sums : c * product_most l.field ≤ 64 * 18014948269490176
        sums =
            mul-le-mul {n₂ = 64} {m₂ = 18014948269490176} (omega (arith, plan.shape.inputs_high))
            (cond_le (eqb l.field 4) (omega arith) (omega arith))

        small : (i : ℕ) → i < area l → get_or zs i 0 < 9223372036854775808
        small i lt = omega (arith, ready.changed.before i lt, bounded i lt, sums)

    -- one more map channel
    pub added_next : {count : ℕ} {ys : List ℕ} → count ≡ area l → Accumulated l.field count zs ys → length ys ≡ length zs
        → (xs₀ : List ℕ) → Added l map kernel o c xs₀ xs → Added l map kernel o (c + 1) xs₀ ys
    added_next {ys = ys} e accumulated size xs₀ before = record {
      sum = λ i j. before.sum i j + circular2 (transform_length l.field) ready.weight.words ready.window i j;
      value = λ i j a b d e.
          rw (add-one c, sum_z_last) (represents_add (before.value i j a b d e)
          (channel_represents l plan map kernel o.channel o.row o.column c ready.window ready.weight.words
          ready.window_value ready.weight.value ready.weight.empty i j a b d e));
      spectrum = spectrum_accumulated refl adds kept ready.weight.spectrum ready.window_spectrum;
      bound = λ i h. omega (arith, adds.bound i h, ready.changed.before i h, before.bound i h);
      changed = changed_again 0 (3 * area l) (omega arith) (omega arith) (omega arith) (omega arith) before.changed then;
    }
      where
        adds : Accumulated l.field (area l) zs ys
        adds = subst (λ (n : ℕ). Accumulated l.field n zs ys) e accumulated

        kept : Spectrum l.field before.sum 0 zs
        kept = spectrum_kept refl before.spectrum (λ i h. rw (zero-add i) (ready.changed.before i h))

        then : Changed 0 0 (3 * area l) xs ys
        then =
            let own : Changed 0 0 (area l) zs ys = record { same_length = size; before = λ p h. absurd (omega arith); after = adds.kept } in
            changed_again 0 (3 * area l) (omega arith) (omega arith) (omega arith) (omega arith) ready.changed own
