use Rattle.std.proofs.Common.{◌≡◌, ◌∙◌, ◌==◌, [], length, sym, ap, arith}
use Rattle.std.proofs.lemmas.List.Splits.{length-slice_split}
use Rattle.taxi_text.specs.Words.{words_of}
use Rattle.run_figures.proofs.words.first_word.Goals as goal

-- A line has a word at least.
pub returns-in-None : goal.returns-in-None
returns-in-None c =
    let none : words_of c.args.reply.now ≡ [] = sym c.words-pieces.ensures ∙ c.in-None.ensures.steps.0 in
    let long = length-slice_split (λ b. b == 32) c.args.reply.now in
    let zero = ap (λ ws. length ws) none in
    absurd (omega (arith, long, zero))
