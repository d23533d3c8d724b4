-- The loop of a transform over its passes, in either direction: the state after p passes, and one pass more. Forward there are then 2 ^ p blocks of
-- s rows, inverse s blocks of 2 ^ p rows.
use mathlib.Core.Path.{◌≡◌, refl, sym, ◌∙◌, subst}
use mathlib.Core.List.{List}
use Prim.Native.Nat.{ℕ, suc, ◌+◌, ◌-◌, ◌*◌, ◌/◌, ◌^◌, ◌<◌, min}
use native.Mathlib.Nat.{two-pow-succ}
use native.Mathlib.Numerals.{add-one}
use native.Mathlib.Omega.{arith}
use lib.ListN.{length}
use lib.Pow.{pow_pos}
use Rattle.passes.specs.Butterfly.{Step, Bound, AtMost, StageSizes}
use Rattle.passes.specs.Passes.{Direction, Forward, Inverse, passes, step_of, level_of, WholeBlocks, Passed, Grid, Pruned, Transformed}
use Rattle.passes.specs.PassLaws.{forward_all, inverse_all}
use Rattle.passes.proofs.Levels.{level_lt, quotient, half_rows, level, power_le, sized}
use Rattle.passes.proofs.PassRows.{passed_most}
use Rattle.passes.proofs.ForwardLanes.{ForwardLanes, forward_lanes_none, forward_lanes_more}
use Rattle.passes.proofs.InverseLanes.{InverseLanes, inverse_lanes_none, inverse_lanes_more}

-- some rows hold something
pub filled_some : (direction : Direction) {n filled : ℕ} (lanes : ℕ) (xs : List ℕ) → 0 < n → Pruned direction n filled lanes xs → 0 < filled
filled_some Forward lanes xs some zeros = zeros.some
filled_some Inverse lanes xs some all = omega arith

abbrev Lanes : Direction → (b unit n filled lanes p s : ℕ) → List ℕ → List ℕ → Type 0
Lanes Forward b unit n filled lanes p s xs ys = ForwardLanes b unit n filled lanes p s xs ys
Lanes Inverse b unit n filled lanes p s xs ys = InverseLanes b unit lanes p s xs ys

pub record After (direction : Direction) (b c unit n filled lanes p s : ℕ) (xs ys : List ℕ) : Type 0 where
  pub same_length : length ys ≡ length xs
  pub most : AtMost (c * 2 ^ p) ys
  pub state : Lanes direction b unit n filled lanes p s xs ys

pub after_none : (direction : Direction) {b c unit n filled lanes : ℕ} {xs : List ℕ} → length xs ≡ n * lanes → AtMost c xs → Pruned direction n filled lanes xs
    → After direction b c unit n filled lanes 0 n xs xs
after_none direction {b} {c} {unit} {n} {filled} {lanes} {xs} size most pruned =
    record { same_length = refl; most = λ i l. omega (arith, most i l); state = start direction pruned }
  where
    start : (direction : Direction) → Pruned direction n filled lanes xs → Lanes direction b unit n filled lanes 0 n xs xs
    start Forward zeros = forward_lanes_none b unit n filled lanes xs size zeros
    start Inverse all = inverse_lanes_none b unit n lanes xs

pub after_all : (direction : Direction) {b c unit n filled lanes p : ℕ} {xs ys : List ℕ} → n ≡ 2 ^ p → After direction b c unit n filled lanes p 1 xs ys
    → Transformed direction b unit p lanes xs ys
after_all Forward side after = λ k j lk lj. rw side at (forward_all (after.state.lane j lj) k lk)
after_all Inverse side after = λ k j lk lj. inverse_all (after.state.lane j lj) k lk

-- what the code computes for pass p: its step, its level i, its rows, its unit u, the bits d and the bound e on its words
pub record Call (direction : Direction) (b n filled unit c p : ℕ) (step : Step) (i rows u d e : ℕ) : Type 0 where
  pub step_is : step ≡ step_of direction
  pub level_is : i ≡ level_of direction p (passes n - 1 - p)
  pub rows_are : rows ≡ min filled (n / 2 ^ (i + 1))
  pub unit_is : u ≡ unit * 2 ^ i
  pub bits_are : d ≡ b
  pub bound_is : e ≡ c * 2 ^ p

module _ {direction : Direction} {s n lanes unit b c filled p i rows u d e : ℕ} {step : Step} {xs ys : List ℕ} (bound : Bound b c)
    (grid : Grid s n lanes unit b c) (pruned : Pruned direction n filled lanes xs) (short : p < passes n)
    (call : Call direction b n filled unit c p step i rows u d e) (size : length xs ≡ s) (before : After direction b c unit n filled lanes p (n / 2 ^ p) xs ys) where
  level_short : i < passes n
  level_short = rw call.level_is (level_lt direction p (passes n) short)

  -- what it asks
  pub pass_asks : let half = n / 2 ^ (i + 1) * lanes in
      (WholeBlocks (length ys) half × StageSizes (2 * half) rows lanes half u d) × AtMost e ys
  pass_asks =
      let z = level bound grid i level_short in
      let some = filled_some direction lanes xs (omega (arith, grid.power, pow_pos (passes n))) pruned in
      rw (call.unit_is, call.bits_are, call.bound_is) (
        (
          record { blocks = 2 ^ i; whole = before.same_length ∙ size ∙ z.whole },
          sized z rows (omega (arith, call.rows_are, some, z.some)) (omega (arith, call.rows_are)),
        ),
        before.most,
      )

  -- and what it leaves
  pub after_more : {zs : List ℕ} → length zs ≡ length ys → Passed step d e u rows lanes (n / 2 ^ (i + 1) * lanes) ys zs
      → After direction b c unit n filled lanes (p + 1) (n / 2 ^ (p + 1)) xs zs
  after_more {zs} same passed =
      let made = rw (call.rows_are, call.unit_is, call.bits_are, call.bound_is, call.step_is) at passed in
      let twice : 2 * (c * 2 ^ p) ≡ c * 2 ^ suc p = rw (two-pow-succ p) (omega arith) in
      subst (λ (q : ℕ). After direction b c unit n filled lanes q (n / 2 ^ (p + 1)) xs zs) (sym (add-one p)) record {
        same_length = same ∙ before.same_length;
        most = λ j l. rw twice at (passed_most made (2 ^ i) (whole ∙ (level bound grid i level_short).whole) same before.most j l);
        state = next direction pruned call.level_is before.state made;
      }
    where
      whole : length ys ≡ s
      whole = before.same_length ∙ size

      next : (direction : Direction) → Pruned direction n filled lanes xs → i ≡ level_of direction p (passes n - 1 - p)
          → Lanes direction b unit n filled lanes p (n / 2 ^ p) xs ys
          → Passed (step_of direction) b (c * 2 ^ p) (unit * 2 ^ i) (min filled (n / 2 ^ (i + 1))) lanes (n / 2 ^ (i + 1) * lanes) ys zs
          → Lanes direction b unit n filled lanes (suc p) (n / 2 ^ (p + 1)) xs zs
      next Forward zeros at state passed =
          forward_lanes_more (level bound grid p short) (rw (half_rows bound grid p short) at state) whole (rw at at passed)
      next Inverse all at state passed =
          let d : ℕ = passes n - 1 - p in
          let blocks : n / 2 ^ (p + 1) ≡ 2 ^ d = quotient bound grid (p + 1) d (omega arith) in
          let half : n / 2 ^ (d + 1) ≡ 2 ^ p = quotient bound grid (d + 1) p (omega arith) in
          rw blocks
          (inverse_lanes_more (rw half at (level bound grid d (omega arith))) bound.halved.bits_low (omega (arith, power_le bound grid p (omega arith)))
          (rw (half_rows bound grid p short, blocks) at state) whole (rw (at, half) at passed))
