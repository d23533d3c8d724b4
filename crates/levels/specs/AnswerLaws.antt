-- What the code 0 says of a shift, a bound and two lengths.
use Rattle.std.specs.Prelude.{◌≡◌, ℕ, ◌≤◌}
use Rattle.std.proofs.Common.{eqb-true}
use Rattle.base.specs.RulesLaws.{Hold, none_broken, inside_low, inside_high}
use Rattle.levels.specs.Answer.{levels_rules, levels_code}

pub record Accepted (shift bound count room : ℕ) : Type 0 where
  pub shift_high : shift ≤ 31
  pub bound_low : 1 ≤ bound
  pub bound_high : bound ≤ 32767
  pub as_many : room ≡ count

pub accepted : (shift bound count room : ℕ) → levels_code shift bound count room ≡ 0 → Accepted shift bound count room
unfolding levels_code
accepted shift bound count room e =
    let h : Hold (levels_rules shift bound count room) = none_broken (levels_rules shift bound count room) tt e in
    record {
      shift_high = inside_high 0 31 shift h.0;
      bound_low = inside_low 1 32767 bound h.1.0;
      bound_high = inside_high 1 32767 bound h.1.0;
      as_many = eqb-true room count h.1.1.0;
    }
