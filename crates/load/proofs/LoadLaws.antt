-- The load of an output channel bounds the size of its direct sums, so that a sum whose load is within the limit is read back from its residue. Rules
-- 15 and 16 bound every map value and the load of every output channel, and no more; the rules give what the code of the load asks. It rests on the
-- one form of both kinds in `WeighedLaws`, on the laws of groups, and on the sizes of sums.
use Rattle.std.specs.Prelude.{◌≡◌, Bool, ◌&&◌, List, [], ◌∷◌, ℕ, zero, suc, ◌+◌, ◌*◌, ◌/◌, ◌%◌, ◌<◌, ◌≤◌, T, leb, length, get_or, ℤ, pos, ◌*ℤ◌}
use Rattle.std.proofs.Math.Path.{refl}
use Rattle.std.proofs.Math.Bool.{true, false, cond}
use Rattle.std.proofs.Common.{le_trans, mul_comm, mod-lt, arith, leb-true, le-leb, eq-eqb, ne_eqb}
use Rattle.std.proofs.Math.Nat.{mul-le-mul_left}
use Rattle.std.proofs.Math.Decide.{ℕ_discrete}
use Rattle.std.proofs.Math.Arith.{digits_lt}
use Rattle.std.proofs.Math.IntN.{nat_abs}
use Rattle.algebra.specs.Planes.{cell}
use Rattle.algebra.specs.Sum.{sum}
use Rattle.algebra.specs.SizeLaws.{size_mul, size_sum_le}
use Rattle.algebra.specs.Residue.{residue, signed}
use Rattle.algebra.specs.ResidueLaws.{read_back}
use Rattle.algebra.specs.EveryLaws.{every_at, every_from, both_true}
use Rattle.fermat.specs.Field.{modulus}
use Rattle.layer.specs.Windows.{spread, weighed, met_by}
use Rattle.layer.specs.PlannedLaws.{cond_le}
use Rattle.layer.specs.declared.shape.Layer.{Layer}
use Rattle.layer.specs.Shape.{is_conv, kernel_count}
use Rattle.layer.specs.Planned.{InRange}
use Rattle.layer.specs.Direct.{when, within, full_at, plane_of}
use Rattle.layer.proofs.WeighedLaws.{full_weighed}
use Rattle.load.specs.Load.{size_total, in_group, group_total, greatest_group, load, load_limit, loads_fit, within_peak}
use Rattle.load.specs.Weights.{Weighted}
use Rattle.load.proofs.GroupLaws.{spread_group, greatest_group_most, greatest_group_at}

-- the planes that reach a channel are planes of the kernel
pub plane_below : (l : Layer) (m c : ℕ) → m < l.outputs → c < l.inputs → plane_of l m c < l.outputs * l.inputs
plane_below l m c hm hc = go (is_conv l)
  where
    go : (test : Bool) → cond test (m * l.inputs + c) (c * l.outputs + m) < l.outputs * l.inputs
    go true = digits_lt hm hc
    go false =
        let below : c * l.outputs + m < l.inputs * l.outputs = digits_lt hc hm in
        omega (arith, mul_comm l.inputs l.outputs)

-- a weight times a value that is of size at most A, and is 0 where the test does not hold
size_product : (test : Bool) (weight value : ℤ) (A : ℕ) → nat_abs value ≤ cond test A 0 → nat_abs (weight *ℤ value) ≤ A * cond test (nat_abs weight) 0
size_product true weight value A h = omega (arith, size_mul weight value, mul-le-mul_left (nat_abs weight) h)
size_product false weight value A h = omega (arith, size_mul weight value, mul-le-mul_left (nat_abs weight) h)

-- such values against weights
pub size_weighed : (C K A : ℕ) (kernel : List ℤ) (plane : ℕ → ℕ) (v : ℕ → ℕ → ℕ → ℤ) (test : ℕ → ℕ → Bool)
    → ((c a b : ℕ) → nat_abs (v c a b) ≤ cond (test a b) A 0)
    → nat_abs (weighed C K kernel plane v) ≤ A * sum C (λ c. sum K (λ a. sum K (λ b. cond (test a b) (nat_abs (cell K K kernel (plane c) a b)) 0)))
unfolding weighed
size_weighed C K A kernel plane v test h =
    size_sum_le C A _ _ (λ c _. size_sum_le K A _ _ (λ a _. size_sum_le K A _ _ (λ b _.
    size_product (test a b) (cell K K kernel (plane c) a b) (v c a b) A (h c a b))))

-- a value under two tests is no larger, and is 0 where what they entail does not hold
size_when : (one two : Bool) (z : ℤ) (A : ℕ) (three four : Bool) → (T one → three ≡ true) → (T two → four ≡ true) → nat_abs z ≤ A
    → nat_abs (when one (when two z)) ≤ cond (three && four) A 0
size_when true true z A three four f g h = rw (f tt, g tt) h
size_when true false z A three four f g h = omega arith
size_when false two z A three four f g h = omega arith

-- what the code asks of a kernel: rules 1 to 7, 11 and 14 give it
pub weighted : (l : Layer) (kernel : List ℤ) → InRange l → l.peak ≤ 32767 → length kernel ≡ kernel_count l → Weighted l kernel
weighted l kernel r peak weights = record {
  inputs_most = r.inputs_high;
  outputs_most = r.outputs_high;
  side_most = r.side_high;
  stride_least = r.stride_low;
  stride_most = r.stride_high;
  peak_most = peak;
  weights = weights;
}

-- both fields are odd, and the limit of each is at most half of it
limits : (t : ℕ) → 4 ≤ t → t ≤ 5 → (modulus t % 2 ≡ 1) × (load_limit t ≤ modulus t / 2)
limits t low high = go (ℕ_discrete t 4)
  where
    go : Dec (t ≡ 4) → (modulus t % 2 ≡ 1) × (load_limit t ≤ modulus t / 2)
    go (yes e) = rw e (refl, omega arith)
    go (no d) =
        let e : t ≡ 5 = omega arith in
        rw e (refl, omega arith)

-- rule 15, of one place; a place beyond the end of the map is read as 0
pub peak_bounds : (peak : ℕ) (values : List ℤ) → within_peak peak values ≡ true → (n : ℕ) → nat_abs (get_or values n (pos 0)) ≤ peak
unfolding within_peak
peak_bounds peak [] e n = omega arith
peak_bounds peak (value ∷ values) e zero = leb-true (nat_abs value) peak (both_true (leb (nat_abs value) peak) (within_peak peak values) e).0
peak_bounds peak (value ∷ values) e (suc n) = peak_bounds peak values (both_true (leb (nat_abs value) peak) (within_peak peak values) e).1 n

-- conversely, where no place has a value beyond the peak, the map is within it
pub peak_from : (peak : ℕ) (values : List ℤ) → ((n : ℕ) → n < length values → nat_abs (get_or values n (pos 0)) ≤ peak) → within_peak peak values ≡ true
unfolding within_peak
peak_from peak [] h = refl
peak_from peak (value ∷ values) h =
    rw (le-leb (nat_abs value) peak (h 0 (omega arith))) (peak_from peak values (λ n l. h (suc n) (omega arith)))

-- the load by kind, and a bound in both
module _ (l : Layer) (kernel : List ℤ) (m : ℕ) where
  pub load-conv : l.kind ≡ 0 → load l kernel m ≡ l.peak * size_total l kernel m
  unfolding load
  load-conv e = rw (eq-eqb l.kind 0 e)

  pub load-tconv : (l.kind ≡ 0 → ⊥) → load l kernel m ≡ l.peak * greatest_group l kernel m
  unfolding load
  load-tconv d = rw (ne_eqb l.kind 0 d)

  pub load_most : load l kernel m ≤ l.peak * size_total l kernel m
  unfolding load
  load_most = mul-le-mul_left l.peak (cond_le (is_conv l) (omega arith) (greatest_group_most l kernel m))

-- rule 16, of one output channel
pub load_fits : (l : Layer) (kernel : List ℤ) → loads_fit l kernel ≡ true → (m : ℕ) → m < l.outputs → load l kernel m ≤ load_limit l.field
unfolding loads_fit
load_fits l kernel e m h = leb-true _ _ (every_at l.outputs (λ m. leb (load l kernel m) (load_limit l.field)) e m h)

-- conversely, where no load is above the limit, 16 holds
pub loads_from : (l : Layer) (kernel : List ℤ) → ((m : ℕ) → m < l.outputs → load l kernel m ≤ load_limit l.field) → loads_fit l kernel ≡ true
unfolding loads_fit
loads_from l kernel h = every_from l.outputs _ (λ m k. le-leb _ _ (h m k))

module _ (l : Layer) (map kernel : List ℤ) (strided : 0 < l.stride) (bounded : (n : ℕ) → nat_abs (get_or map n (pos 0)) ≤ l.peak) where
  -- in CONV every weight may meet a value
  met_conv : is_conv l ≡ true → (i j c a b : ℕ) → nat_abs (met_by l map i j c a b) ≤ l.peak
  unfolding met_by
  met_conv e i j c a b =
      rw e
      (size_when (within l.padding l.height (i * l.stride + a)) (within l.padding l.width (j * l.stride + b)) _ _ true true
      (λ _. refl) (λ _. refl) (bounded _))

  -- in TCONV only the weights of one group do, that of the remainders of i + P and j + P
  met_tconv : is_conv l ≡ false → (i j c a b : ℕ)
      → nat_abs (met_by l map i j c a b) ≤ cond (in_group l.stride ((i + l.padding) % l.stride) ((j + l.padding) % l.stride) a b) l.peak 0
  unfolding met_by
  met_tconv e i j c a b =
      rw e
      (size_when (spread l.stride a l.height (i + l.padding)) (spread l.stride b l.width (j + l.padding)) _ _ _ _
      (spread_group l.stride a l.height (i + l.padding)) (spread_group l.stride b l.width (j + l.padding)) (bounded _))

  direct_conv : is_conv l ≡ true → (m i j : ℕ) → nat_abs (full_at l map kernel m i j) ≤ l.peak * size_total l kernel m
  unfolding size_total
  direct_conv e m i j = rw (full_weighed l map kernel strided m i j)
      (size_weighed l.inputs l.side l.peak kernel (plane_of l m) (met_by l map i j) (λ a b. true) (met_conv e i j))

  -- a transposed output is at most A times the sum of its group
  pub direct_group : is_conv l ≡ false → (m i j : ℕ) → nat_abs (full_at l map kernel m i j)
      ≤ l.peak * group_total l kernel m l.stride ((i + l.padding) % l.stride) ((j + l.padding) % l.stride)
  unfolding group_total
  direct_group e m i j = rw (full_weighed l map kernel strided m i j)
      (size_weighed l.inputs l.side l.peak kernel (plane_of l m) (met_by l map i j)
      (in_group l.stride ((i + l.padding) % l.stride) ((j + l.padding) % l.stride)) (met_tconv e i j))

  pub direct_load : (m i j : ℕ) → nat_abs (full_at l map kernel m i j) ≤ load l kernel m
  unfolding load
  direct_load m i j = go (is_conv l) refl
    where
      go : (test : Bool) → is_conv l ≡ test → nat_abs (full_at l map kernel m i j)
          ≤ l.peak * cond (is_conv l) (size_total l kernel m) (greatest_group l kernel m)
      go true e = rw e (direct_conv e m i j)
      go false e =
          let p = (i + l.padding) % l.stride in
          let q = (j + l.padding) % l.stride in
          rw e
          (le_trans (direct_group e m i j)
          (mul-le-mul_left l.peak (greatest_group_at l kernel m p q (mod-lt (i + l.padding) strided) (mod-lt (j + l.padding) strided))))

  pub reads_back : 4 ≤ l.field → l.field ≤ 5 → (m i j : ℕ) → load l kernel m ≤ load_limit l.field
      → signed (modulus l.field) (residue (modulus l.field) (full_at l map kernel m i j)) ≡ full_at l map kernel m i j
  reads_back low high m i j fits =
      let limit : (modulus l.field % 2 ≡ 1) × (load_limit l.field ≤ modulus l.field / 2) = limits l.field low high in
      read_back (modulus l.field) (full_at l map kernel m i j) limit.0 (le_trans (direct_load m i j) (le_trans fits limit.1))
