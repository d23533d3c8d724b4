-- Laws of the sequence: no step, and one more.
use Rattle.std.specs.Prelude.{◌≡◌, refl, ℕ, suc}
use Rattle.vectors.specs.Sequence.{next_number, number_after}

pub number_none : (seed : ℕ) → number_after 0 seed ≡ seed
unfolding number_after
number_none seed = refl

pub number_next : (steps seed : ℕ) → number_after (suc steps) seed ≡ next_number (number_after steps seed)
unfolding number_after
number_next steps seed = refl
