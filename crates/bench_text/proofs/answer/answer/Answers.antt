-- `answer`: the tests in the order of `printed`. The text is the first 16 KiB of the input, and all of it where the input is not long.
use mathlib.Core.Path.{◌≡◌, sym, ap, ◌∙◌}
use mathlib.Core.Bool.{Bool, true, false}
use mathlib.Core.List.{List, [], ◌∷◌, ◌++◌}
use Prim.Native.Nat.{ℕ}
use borrow.Author.Rules.{rules}
use borrow.Author.Tests.{lt-ltb, le-ltb}
use lib.ListN.{take, drop}
use Rattle.layer.specs.Numbers.{layer_of}
use Rattle.checks.specs.Engine.{tile_engine}
use Rattle.checks.specs.Checks.{plan_code}
use Rattle.checks.specs.ChecksLaws.{planned}
use Rattle.checks.specs.EngineLaws.{tile_lawful}
use Rattle.words.specs.Words.{words_of}
use Rattle.words.specs.ReadingLaws.{figures_map}
use Rattle.lines.specs.WritingLaws.{append-within}
use Rattle.bench_text.specs.Printed.{is_long, input_words, header_reads, header_layer}
use Rattle.bench_text.proofs.Headers.{take_min, header_unread, layer_refused, long_unread, body_follows}
use Rattle.bench_text.proofs.answer.answer.Goals as goal
use Rattle.bench_text.proofs.answer.answer.Goals.{After-min, After-layer_of-layer}

-- the text is the first bytes of the input
text_is : (c : After-min) → take c.min.result c.args.input.now ≡ take 16384 c.args.input.now
text_is c = ap (λ (n : ℕ). take n c.args.input.now) c.min.ensures ∙ take_min 16384 c.args.input.now

-- the header is read
module _ (c : After-layer_of-layer) where
  abbrev input : List ℕ
  input = c.args.input.now

  abbrev same : take c.min.result input ≡ take 16384 input
  same = text_is (goal.at.After-layer_of-layer c).After-min

  header_there : header_reads (input_words input) ≡ true
  header_there = rw same at c.in-Ok.ensures.words_read.passes

  -- its layer
  layer_is : c.layer_of-layer.result ≡ header_layer (input_words input)
  layer_is =
      let figures = rw same at c.in-Ok.ensures.numbers_after ∙ figures_map _ in
      c.layer_of-layer.ensures ∙ ap (λ (ns : List ℕ). layer_of (ns ++ (0 ∷ 0 ∷ []))) figures

  -- the words after the header, of an input that is not long
  body_is : is_long input ≡ false → words_of false c.in-Ok.body.now ≡ drop 14 (input_words input)
  body_is short = ap (λ (long : Bool). words_of long c.in-Ok.body.now) (sym short) ∙ (rw same at c.in-Ok.ensures.words_read.after)

pub returns-in_default : goal.returns-in_default
returns-in_default c =
    let unread = rw (text_is (goal.at.returns-in_default c).After-min) at c.in_default.ensures.words_read.fails in
    let put = c.put_unreadable.ensures in
    rw (header_unread c.args.input.now unread) (append-within put, put.shown, put.after)

pub returns-then-code-ne0 : goal.returns-then-code-ne0
returns-then-code-ne0 c =
    let h = (goal.at.returns-then-code-ne0 c).After-layer_of-layer in
    let code = c.plan_code-code.ensures ∙ ap (plan_code tile_engine) (layer_is h) in
    let put = c.put_numbered.ensures in
    rw (layer_refused (input h) (header_there h) (λ z. c.if-code-ne0.true (code ∙ z)), ← code)
    (append-within put, put.shown, put.after)

pub returns-then-long : goal.returns-then-long
returns-then-long c =
    let h = (goal.at.returns-then-long c).After-layer_of-layer in
    let code = c.plan_code-code.ensures ∙ ap (plan_code tile_engine) (layer_is h) in
    let put = c.put_unreadable-then-long.ensures in
    rw (long_unread (input h) (header_there h) (sym code ∙ c.if-code-ne0.false) (lt-ltb _ _ c.if-long.true))
    (append-within put, put.shown, put.after)

pub put_body-requires : goal.put_body-requires
put_body-requires c = (planned tile_lawful _ (sym c.plan_code-code.ensures ∙ c.if-code-ne0.false), search rules)

pub returns : goal.returns
returns c =
    let h = (goal.at.returns c).After-layer_of-layer in
    let code = c.plan_code-code.ensures ∙ ap (plan_code tile_engine) (layer_is h) in
    let put = c.put_body.ensures in
    let short = le-ltb _ _ c.if-long.false in
    rw (← body_follows (input h) (header_there h) (sym code ∙ c.if-code-ne0.false) (layer_is h) (body_is h short) short)
    (append-within put, put.shown, put.after)
