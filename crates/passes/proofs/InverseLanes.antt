-- The state after p inverse passes, lane by lane, and one pass more: s blocks of 2 ^ p rows.
use mathlib.Core.Path.{◌≡◌, refl, sym, ap, ◌∙◌}
use mathlib.Core.List.{List}
use Prim.Native.Nat.{ℕ, suc, ◌+◌, ◌-◌, ◌*◌, ◌^◌, ◌<◌, ◌≤◌, min}
use native.Mathlib.Nat.{two-pow-succ, mul-le-mul_left}
use native.Mathlib.Omega.{arith}
use lib.ListN.{length}
use lib.Pow.{pow-add}
use Rattle.algebra.specs.Congruence.{Cong}
use Rattle.algebra.specs.CongruenceLaws.{c_refl, c_sym, ◌⨟◌, c_via, c_add, c_mul, c_multiple}
use Rattle.fermat.specs.RootLaws.{inverse_pow}
use Rattle.passes.specs.Halving.{word}
use Rattle.passes.specs.Butterfly.{Inverse}
use Rattle.passes.specs.Passes.{Passed}
use Rattle.passes.specs.PassLaws.{pass_root, InverseAfter, inverse_none, inverse_more}
use Rattle.passes.proofs.Levels.{Level}
use Rattle.passes.proofs.PassRows.{Empty, rows_made}

-- the inverse of the root
abbrev pub back : ℕ → ℕ → ℕ
back b unit = (2 ^ (b - 1) + 1) ^ unit

pub record InverseLanes (b unit lanes p s : ℕ) (xs ys : List ℕ) : Type 0 where
  pub lane : (j : ℕ) → j < lanes → InverseAfter (2 ^ b + 1) (back b unit) p s (λ i. word lanes i j xs) (λ i. word lanes i j ys)

pub inverse_lanes_none : (b unit n lanes : ℕ) (xs : List ℕ) → InverseLanes b unit lanes 0 n xs xs
inverse_lanes_none b unit n lanes xs = record { lane = λ j lj. inverse_none (2 ^ b + 1) n (back b unit) (λ i. word lanes i j xs) }

-- 2 ^ (b − t) is −1 over 2 ^ t
power_back : (b t : ℕ) → 0 < b → t ≤ b → Cong (2 ^ b + 1) (2 ^ (b - t) + (2 ^ (b - 1) + 1) ^ t) 0
power_back b t some le =
    let w : ℕ = 2 ^ (b - 1) + 1 in
    let two : 2 ^ b ≡ 2 ^ (b - 1) + 2 ^ (b - 1) = ap (λ (i : ℕ). 2 ^ i) (succ b some) ∙ two-pow-succ (b - 1) in
    let inverse : Cong (2 ^ b + 1) (2 * w) 1 = c_via (omega arith) (c_multiple 1 1) refl in
    let parts : 2 ^ t * 2 ^ (b - t) ≡ 2 ^ b = sym (pow-add 2 t (b - t)) ∙ ap (λ (i : ℕ). 2 ^ i) (split b t le) in
    let whole : 2 ^ t * w ^ t * 2 ^ (b - t) + w ^ t ≡ 0 + w ^ t * (2 ^ b + 1) =
    ap (λ (i : ℕ). i + w ^ t) (regroup (2 ^ t) (w ^ t) (2 ^ (b - t)) ∙ ap (λ (i : ℕ). w ^ t * i) parts) ∙ omega arith in
    c_via (omega arith) (c_add (c_mul (c_sym (inverse_pow 2 w t inverse)) (c_refl {a = 2 ^ (b - t)})) (c_refl {a = w ^ t})) whole
    ⨟ c_multiple 0 (w ^ t)
  where
    succ : (b : ℕ) → 0 < b → b ≡ suc (b - 1)
    succ b h = omega arith

    split : (b t : ℕ) → t ≤ b → t + (b - t) ≡ b
    split b t l = omega arith

    regroup : (a b c : ℕ) → a * b * c ≡ b * (a * c)
    regroup a b c = omega arith

module _ {s lanes unit b c filled p g : ℕ} {xs ys zs : List ℕ} (level : Level s lanes unit b g (2 ^ p)) (some : 0 < b) (all : 2 ^ p ≤ filled)
    (before : InverseLanes b unit lanes p (2 * g) xs ys)
    (size : length ys ≡ s) (passed : Passed Inverse b c (unit * g) (min filled (2 ^ p)) lanes (2 ^ p * lanes) ys zs) where
  minus-row : (r : ℕ) → r ≤ 2 ^ p → Cong (2 ^ b + 1) (2 ^ (b - unit * g * r) + (back b unit ^ g) ^ r) 0
  minus-row r le =
      c_via (ap (λ (i : ℕ). 2 ^ (b - unit * g * r) + i) (sym (pass_root (2 ^ (b - 1) + 1) unit g r)))
      (power_back b (unit * g * r) some (omega (arith, level.turns, mul-le-mul_left (unit * g) le))) refl

  turn : Cong (2 ^ b + 1) ((back b unit ^ g) ^ (2 ^ p) + 1) 0
  turn =
      let none : b - unit * g * 2 ^ p ≡ 0 = omega (arith, level.turns) in
      c_via (omega (arith, ap (λ (i : ℕ). 2 ^ i) none)) (minus-row (2 ^ p) (omega arith)) refl

  -- no pair is left out
  none_left : Empty g (min filled (2 ^ p) * lanes) (2 ^ p * lanes) ys
  none_left q i lq lo hi = let e : min filled (2 ^ p) ≡ 2 ^ p = omega arith in let past : 2 ^ p * lanes ≤ i = rw e at lo in absurd (omega arith)

  pub inverse_lanes_more : InverseLanes b unit lanes (suc p) g xs zs
  inverse_lanes_more = record {
    lane = λ j lj. inverse_more g (λ r. 2 ^ (b - unit * g * r)) (λ r lr. minus-row r (omega arith)) turn (before.lane j lj)
        (rows_made (omega arith) passed g (size ∙ level.whole) none_left j lj);
  }
