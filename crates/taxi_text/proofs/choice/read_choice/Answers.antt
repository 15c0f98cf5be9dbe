use Rattle.std.proofs.Common.{◌++◌, ◌∷◌, [], ℕ, List, Option, sym, ap, subst, rules, arith}
use Rattle.taxi_text.specs.Commands.{◌>>=◌, names_of, up_to}
use Rattle.taxi_text.specs.Reading.{IsReading}
use Rattle.taxi_text.specs.Words.{words_left}
use Rattle.taxi_text.proofs.Gathering.{all_done}
use Rattle.taxi_text.proofs.ChosenNames.{name_more}
use Rattle.taxi_text.proofs.choice.read_choice.Goals as goal

pub loop-word-preserved : goal.loop-word-preserved
loop-word-preserved c =
    let inv = c.loop-word.invariant in (
      inv.0 ++ c.in-Some-read.name ∷ [],
      c.add.ensures.added inv.0 inv.1,
      omega (arith, c.add.ensures.counted, c.if-gathered-eq-MOST_NODES.false, inv.2),
      name_more (names_of (words_left c.args.words.now)) inv.0 c.in-Some-read.name c.in-Some.word.now (words_left c.loop-word.words) (words_left c.next.new.self) inv.3 c.in-Some.ensures.steps (search rules),
    )

pub returns : goal.returns
returns c =
    let inv = c.loop-word.invariant in
    let ended = c.in_default.ensures.steps.0 in
    let all = all_done (names_of (words_left c.args.words.now)) inv.0 (names_of (words_left c.loop-word.words)) inv.3 (ap names_of ended) in
    subst (λ (o : Option (List (List ℕ))). IsReading (o >>= up_to 16) c.finish.result) (sym all) (c.finish.ensures inv.0 16 inv.1 inv.2)
