-- The words before this one are scaled, and the others are as lent.
use mathlib.Core.Path.{◌≡◌}
use Prim.Native.Nat.{◌*◌, ◌%◌}
use Rattle.algebra.specs.EachWord.{WordsDone}
use Rattle.transform.proofs.residues.scale.Given as goal

abbrev pub invariant-loop-word : goal.invariant-loop-word
invariant-loop-word l = WordsDone (λ _ a b. b ≡ (l.s * a) % l.m) l.word-index l.initial.words l.words
