-- What is printed for an input, by what its header says. It rests on the definitions and on the laws of an outcome.
use mathlib.Core.Path.{◌≡◌, ap, ◌∙◌, sym}
use mathlib.Core.Bool.{Bool, true, false, and-false}
use mathlib.Core.List.{List}
use Prim.Native.Nat.{ℕ, ◌<◌, min}
use native.Mathlib.Decide.{dec_lt}
use native.Mathlib.Omega.{arith}
use lib.ListN.{length, take, drop}
use lib.Seq.{take_all}
use Rattle.base.specs.RulesLaws.{outcome_lent}
use Rattle.layer.specs.declared.shape.Layer.{Layer}
use Rattle.checks.specs.Engine.{tile_engine}
use Rattle.checks.specs.Checks.{plan_code}
use Rattle.lines.specs.Lines.{refused_word, numbered, unreadable}
use Rattle.bench_text.specs.Printed.{small, is_long, input_words, header_reads, header_layer, body_printed, printed}

-- the first bytes, at most n
pub take_min : (n : ℕ) (xs : List ℕ) → take (min (length xs) n) xs ≡ take n xs
take_min n xs = by_length (dec_lt n (length xs))
  where
    by_length : Dec (n < length xs) → take (min (length xs) n) xs ≡ take n xs
    by_length (yes l) = let least : min (length xs) n ≡ n = omega arith in ap (λ (k : ℕ). take k xs) least
    by_length (no h) = take_all (min (length xs) n) xs (omega arith) ∙ sym (take_all n xs (omega arith))

-- no body is read of an input that is too long
long_body : (l : Layer) (long : Bool) (body : List (List ℕ)) → long ≡ true → body_printed l long body ≡ unreadable
long_body l long body e = rw (e, and-false (small l))

module _ (input : List ℕ) where
  abbrev layer : Layer
  layer = header_layer (input_words input)

  pub header_unread : header_reads (input_words input) ≡ false → printed input ≡ unreadable
  unfolding printed
  header_unread e = rw e

  module _ (e : header_reads (input_words input) ≡ true) where
    pub layer_refused : (plan_code tile_engine layer ≡ 0 → ⊥) → printed input ≡ numbered refused_word (plan_code tile_engine layer)
    unfolding printed
    layer_refused broken = rw e (outcome_lent _ _ (plan_code tile_engine layer) broken)

    module _ (f : plan_code tile_engine layer ≡ 0) where
      pub long_unread : is_long input ≡ true → printed input ≡ unreadable
      unfolding printed
      long_unread long = rw (e, f) (long_body layer (is_long input) (drop 14 (input_words input)) long)

      pub body_follows : {l : Layer} {body : List (List ℕ)} → l ≡ layer → body ≡ drop 14 (input_words input) → is_long input ≡ false
          → body_printed l false body ≡ printed input
      unfolding printed
      body_follows same rest short = rw (same, rest, e, f, short)
