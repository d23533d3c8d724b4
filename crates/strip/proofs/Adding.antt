-- One kernel row's work on scratch, three parts of 256 words: the sum of products, the row of the kernel, the row of the grid. Both rows are
-- transformed in parts that are lent; then their product is added to the sum. It rests on the laws of spectra of rows, of lent parts, and on what
-- the circular sum of two rows represents (RowSums).
use mathlib.Core.Path.{◌≡◌, ap, subst}
use mathlib.Core.Bool.{false}
use mathlib.Core.List.{List}
use Prim.Native.Nat.{ℕ, ◌+◌, ◌*◌, ◌-◌, ◌≤◌, ◌<◌}
use native.Mathlib.Nat.{zero-add}
use native.Mathlib.Omega.{arith}
use lib.IntN.{ℤ, pos}
use lib.ListN.{length, get_or}
use borrow.Rule.Slice.PartMut.{put_mid}
use Rattle.algebra.specs.Residue.{Represents}
use Rattle.algebra.specs.SumLaws.{integers, plus_none_right}
use Rattle.algebra.specs.Places.{Changed}
use Rattle.algebra.specs.PlacesLaws.{changed_again}
use Rattle.algebra.specs.CongruenceLaws.{c_eq}
use Rattle.algebra.specs.ResidueLaws.{represents_add}
use Rattle.fermat.specs.Field.{modulus}
use Rattle.fermat.specs.Transform.{circular}
use Rattle.spectrum.specs.Product.{factor_most, product_most, settled_most, Settled, Accumulated}
use Rattle.spectrum.specs.LendingLaws.{Lending, lent_changed, kernel_word, window_word, lent_most}
use Rattle.row.specs.Row.{RowSpectrum}
use Rattle.row.specs.RowLaws.{row_none, row_moved, row_kept}
use Rattle.row.proofs.RootLaws.{row_accumulated}
use Rattle.layer.specs.Windows.{spread}
use Rattle.layer.specs.Direct.{plane_of}
use Rattle.layer.specs.Strip.{strip_words}
use Rattle.layer.specs.declared.shape.Layer.{Layer}
use Rattle.window.specs.Window.{spacing, edge, window_at, weight_at}
use Rattle.window.specs.ShowsLaws.{line_window}
use Rattle.strip.specs.declared.origin.StripOrigin.{StripOrigin}
use Rattle.strip.specs.Origin.{StripOriginInRange}
use Rattle.strip.specs.Rows.{WeightsReady, LineReady, StripAdded}
use Rattle.strip.proofs.RowSums.{row_represents, row_left_out, none_summed, row_summed, channel_summed}

module _ (l : Layer) (map kernel : List ℤ) (s : StripOrigin) where
  -- zs is scratch xs with the transforms of kernel row a, and of the grid row that it meets in map channel c, in the second and the third part
  pub record RowsReady (c a : ℕ) (xs zs : List ℕ) : Type 0 where
    pub weight : ℕ → ℕ
    pub weight_value : (b : ℕ) → b < l.side → Represents (modulus l.field) (weight_at l kernel (plane_of l s.channel c) a b) (weight b)
    pub weight_empty : (b : ℕ) → l.side ≤ b → weight b ≡ 0
    pub weight_spectrum : RowSpectrum weight 256 zs
    pub window : ℕ → ℕ
    pub window_value : (v : ℕ) → v < 256 → Represents (modulus l.field) (window_at l map c s.row s.column (l.side - 1 - a) v) (window v)
    pub window_spectrum : RowSpectrum window 512 zs
    pub bound : (i : ℕ) → 256 ≤ i → i < 768 → get_or zs i 0 ≤ factor_most 4
    pub room : 768 ≤ length zs
    pub changed : Changed 0 256 768 xs zs

  pub rows_ready : {c a a₁ k₁ a₂ k₂ : ℕ} {xs ks ws : List ℕ} → StripOriginInRange l s → Lending 256 a₁ k₁ a₂ k₂ xs ks ws
      → WeightsReady l kernel (plane_of l s.channel c) a ks → LineReady l s.shown map c (s.row + (l.side - 1 - a)) ws
      → RowsReady c a xs (put_mid a₂ k₂ (put_mid a₁ k₁ xs ks) ws)
  rows_ready {c} {a} range p weights line = record {
    weight = weights.words;
    weight_value = weights.value;
    weight_empty = weights.empty;
    weight_spectrum = row_moved weights.spectrum (λ i h. rw (zero-add i) (c_eq (kernel_word p i h)));
    window = line.words;
    window_value = λ v h.
        subst (λ (z : ℤ). Represents (modulus l.field) z (line.words v))
        (line_window l map c s.row s.column 256 s.shown range.shows 0 (l.side - 1 - a) v h) (rw (zero-add v) (line.value v h));
    window_spectrum = row_moved line.spectrum (λ i h. rw (zero-add i) (c_eq (window_word p i h)));
    bound = lent_most p weights.bound line.bound;
    room = omega (arith, (lent_changed p).same_length, p.room);
    changed = lent_changed p;
  }

  -- ---- the sum of products

  -- none yet: the first part holds 0
  pub added_none : {xs₀ xs : List ℕ} → Changed 0 0 strip_words xs₀ xs → ((i : ℕ) → i < 256 → get_or xs i 0 ≡ 0) → StripAdded l map kernel s 0 0 xs₀ xs
  added_none changed none = record {
    sum = λ j. 0;
    value = λ j _ _. rw (none_summed l map kernel s j) (record { multiple = pos 0; equation = ap pos (omega arith) });
    spectrum = row_none (λ i h. rw (zero-add i) (none i h));
    bound = λ i h. omega (arith, none i h);
    changed = changed;
  }

  module _ {c a : ℕ} {xs zs : List ℕ} (ready : RowsReady c a xs zs) where
    -- what `accumulate` asks of scratch
    pub accumulate_asks : a ≤ 10 → ((i : ℕ) → i < 256 → get_or xs i 0 ≤ settled_most 4 + a * product_most 4)
        → ((4 ≤ 4) × (4 ≤ 5) × (3 * 256 ≤ length zs))
        × (((i : ℕ) → i < 256 → get_or zs i 0 < 9223372036854775808)
        × ((i : ℕ) → 256 ≤ i → i < 3 * 256 → get_or zs i 0 ≤ factor_most 4))
    accumulate_asks few bounded = (
      (omega arith, omega arith, ready.room),
      (λ i h. omega (arith, ready.changed.before i h, bounded i h), λ i low high. ready.bound i low high),
    )

    -- one more kernel row
    pub added_row : {ys : List ℕ} → l.side ≤ 256 → Accumulated 4 256 zs ys → length ys ≡ length zs
        → (xs₀ : List ℕ) → StripAdded l map kernel s c a xs₀ xs → StripAdded l map kernel s c (a + 1) xs₀ ys
    added_row {ys} short adds size xs₀ before = record {
      sum = λ j. before.sum j + circular 256 ready.weight ready.window j;
      value = λ j low high.
          rw (row_summed l map kernel s j c a) (represents_add (before.value j low high)
          (row_represents l map kernel s.channel s.row s.column c a ready.weight ready.window short
          ready.weight_value ready.weight_empty ready.window_value j low high));
      spectrum = row_accumulated ready.weight ready.window before.sum adds kept ready.weight_spectrum ready.window_spectrum;
      bound = λ i h. omega (arith, adds.bound i h, ready.changed.before i h, before.bound i h);
      changed = changed_again 0 768 (omega arith) (omega arith) (omega arith) (omega arith) before.changed then;
    }
      where
        kept : RowSpectrum before.sum 0 zs
        kept = row_kept before.spectrum (λ i h. rw (zero-add i) (ready.changed.before i h))

        then : Changed 0 0 768 xs ys
        then =
            let own : Changed 0 0 256 zs ys = record { same_length = size; before = λ p h. absurd (omega arith); after = adds.kept } in
            changed_again 0 768 (omega arith) (omega arith) (omega arith) (omega arith) ready.changed own

  -- a kernel row that meets no map row is left out
  pub added_nothing : {c a : ℕ} {xs₀ xs : List ℕ} → spread (spacing l) (edge l) l.height (s.row + (l.side - 1 - a)) ≡ false
      → StripAdded l map kernel s c a xs₀ xs → StripAdded l map kernel s c (a + 1) xs₀ xs
  added_nothing {c} {a} none before = record {
    sum = before.sum;
    value = λ j low high.
        rw (row_summed l map kernel s j c a, row_left_out l map kernel s.channel s.row s.column c a none j, plus_none_right integers)
        (before.value j low high);
    spectrum = before.spectrum;
    bound = λ i h. omega (arith, before.bound i h);
    changed = before.changed;
  }

  -- after the last kernel row the sum is brought down
  pub added_channel : {c : ℕ} {xs₀ xs ys : List ℕ} → StripAdded l map kernel s c l.side xs₀ xs
      → ((i : ℕ) → i < 256 → Settled 4 (get_or xs i 0) (get_or ys i 0)) → Changed 0 0 256 xs ys → StripAdded l map kernel s (c + 1) 0 xs₀ ys
  added_channel {c} before down own = record {
    sum = before.sum;
    value = λ j low high. rw (channel_summed l map kernel s j c) (before.value j low high);
    spectrum = row_moved before.spectrum (λ i h. rw (zero-add i) (down i h).value);
    bound = λ i h. omega (arith, (down i h).bound);
    changed = changed_again 0 768 (omega arith) (omega arith) (omega arith) (omega arith) before.changed own;
  }

  -- ---- the kernel rows of a map channel

  -- ys is scratch xs with the first a kernel rows of map channel c added or left out: it is as long, and its sum is not large
  pub record RowsAdded (c a : ℕ) (xs ys : List ℕ) : Type 0 where
    pub same_length : length ys ≡ length xs
    pub bound : (i : ℕ) → i < 256 → get_or ys i 0 ≤ settled_most 4 + a * product_most 4
    pub adds : (first : List ℕ) → StripAdded l map kernel s c 0 first xs → StripAdded l map kernel s c a first ys
