-- `load_weights` loads the weights, turned round in CONV, and clears what follows them.
use mathlib.Core.Path.{sym, ◌∙◌}
use Prim.Native.Nat.{◌≤◌}
use native.Mathlib.Omega.{arith}
use lib.ListN.{length}
use Rattle.layer.specs.KindLaws.{conv_test, tconv_test}
use Rattle.layer.specs.PlaceLaws.{modulus_low, modulus_high}
use Rattle.window.proofs.Corner.{conv_word, tconv_word, weighted}
use Rattle.window.proofs.kernel.load_weights.Goals as goal
use Rattle.window.proofs.kernel.load_weights.Goals.{in-Conv, in-Tconv}

pub load_spaced-requires-clause-spacing_nonzero : goal.load_spaced-requires-clause-spacing_nonzero
load_spaced-requires-clause-spacing_nonzero c =
    let m = c.modulus_of.ensures in
    let r = c.requires.0 in
    (omega arith, omega (arith, m, modulus_low _ r), omega (arith, m, modulus_high _ r))

pub returns : goal.returns
returns c =
    let l = c.args.layer in
    let loaded = rw c.modulus_of.ensures at c.load_spaced.ensures in
    let room : length c.args.weights.now ≤ length c.match-kind_of.words = omega (arith, c.match-kind_of.auto.words, loaded.same_length, c.requires.1) in
    elim c.match-kind_of.branch [
      | in-Conv w ↦
          weighted l _ (rw w.words-is (conv_word l _ c.requires.1 loaded (conv_test l (sym w.in-Conv.is ∙ c.kind_of.ensures)) w.reverse.ensures.after))
          room c.clear.ensures
      | in-Tconv w ↦
          weighted l _ (rw w.words-is (tconv_word l _ c.requires.1 loaded (tconv_test l (sym w.in-Tconv.is ∙ c.kind_of.ensures))))
          room c.clear.ensures
    ]
