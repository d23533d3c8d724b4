-- The way through a map in stored order up to the first value beyond the peak: the values searched are within it. It rests on the laws of that value.
use mathlib.Core.Path.{◌≡◌, sym, ap, ◌∙◌}
use mathlib.Core.List.{List}
use Prim.Native.Nat.{ℕ, ◌+◌, ◌≤◌, ◌<◌}
use native.Mathlib.Decide.{ℕ_discrete}
use native.Mathlib.Nat.{lt_of_not-le}
use native.Mathlib.Omega.{arith}
use lib.Arith.{digits_lt}
use lib.IntN.{ℤ, pos, nat_abs}
use lib.ListN.{length, get_or}
use Rattle.std.specs.Prelude.{Option, None, unwrap_or}
use Rattle.layer.specs.declared.shape.Layer.{Layer}
use Rattle.layer.specs.Shape.{map_count}
use Rattle.load.specs.declared.offender.Offender.{Offender}
use Rattle.load.specs.Offender.{side_of, no_offender, offender_of, stored}
use Rattle.load.specs.OffenderLaws.{First, side_none, side_within, offender_none, offender_at_lem, none_beyond}

module _ (l : Layer) (map : List ℤ) (found : Option Offender) where
  -- at a channel, row and column, which is place i: nothing is found, and the values before are within the peak
  pub record Searched (channel row column i : ℕ) : Type 0 where
    pub place : i ≡ stored l channel row column
    pub none : found ≡ None
    pub within : (q : ℕ) → q < i → nat_abs (get_or map q (pos 0)) ≤ l.peak

module _ {l : Layer} {map : List ℤ} {found : Option Offender} where
  pub none_searched : found ≡ None → Searched l map found 0 0 0 0
  none_searched e = record { place = omega arith; none = e; within = λ q h. absurd (omega arith) }

  -- one value more, whose side is 0
  pub value_searched : {channel row column i : ℕ} → Searched l map found channel row column i → side_of l.peak (get_or map i (pos 0)) ≡ 0
      → Searched l map found channel row (column + 1) (i + 1)
  value_searched {i = i} searched side = record { place = omega (arith, searched.place); none = searched.none; within = λ q h. by_place q h (ℕ_discrete q i) }
    where
      by_place : (q : ℕ) → q < i + 1 → Dec (q ≡ i) → nat_abs (get_or map q (pos 0)) ≤ l.peak
      by_place q h (yes e) = rw e (side_within l.peak (get_or map i (pos 0)) side)
      by_place q h (no other) = searched.within q (omega (arith, other))

  -- a row at its end is the next row, a channel at its end the next channel
  pub row_searched : {channel row column i : ℕ} → column ≡ l.width → Searched l map found channel row column i
      → Searched l map found channel (row + 1) 0 i
  row_searched e searched = record { place = searched.place ∙ rw e (omega arith); none = searched.none; within = searched.within }

  pub channel_searched : {channel row i : ℕ} → row ≡ l.height → Searched l map found channel row 0 i → Searched l map found (channel + 1) 0 0 i
  channel_searched e searched = record { place = searched.place ∙ rw e (omega arith); none = searched.none; within = searched.within }

  -- all channels are passed
  pub all_searched : {channel i : ℕ} → channel ≡ l.inputs → length map ≡ map_count l → Searched l map found channel 0 0 i → unwrap_or found no_offender ≡ offender_of l map
  all_searched e count searched =
      let all : length map ≡ _ = count ∙ rw (← e) (omega arith) ∙ sym searched.place in
      ap (λ (o : Option Offender). unwrap_or o no_offender) searched.none ∙ sym (offender_none l map (none_beyond l.peak map (λ q h. searched.within q (omega (arith, all)))))

  -- a place of the map
  pub place_in : {channel row column i : ℕ} → channel < l.inputs → row < l.height → column < l.width → length map ≡ map_count l
      → Searched l map found channel row column i → i < length map
  place_in c r k count searched = omega (arith, searched.place, count, digits_lt (digits_lt c r) k)

  -- the value at it is beyond the peak
  pub value_found : {channel row column i side : ℕ} → row < l.height → column < l.width → i < length map → Searched l map found channel row column i
      → side ≡ side_of l.peak (get_or map i (pos 0)) → (side ≡ 0 → ⊥)
      → record { channel = channel; row = row; column = column; side = side } ≡ offender_of l map
  value_found {channel} {row} {column} {i} r k here searched e beyond =
      ap (λ (s : ℕ). record { channel = channel; row = row; column = column; side = s }) (e ∙ rw searched.place)
      ∙ sym (offender_at_lem l map channel row column r k (rw searched.place at first))
    where
      first : First l.peak map i
      first = record { here = here; beyond = lt_of_not-le (λ h. beyond (e ∙ side_none l.peak (get_or map i (pos 0)) h)); before = searched.within }
