use Rattle.airport_lint.specs.Text.{line_of}
use Rattle.airport_lint.proofs.TextLaws.{lines-more}
use Rattle.airport_lint.proofs.text.write_lines.Goals as goal

pub loop-advice-preserved : goal.loop-advice-preserved
loop-advice-preserved c =
    lines-more (line_of c.args.airport.now) c.args.told.now c.loop-advice.advice-index _ c.args.out.now.items c.loop-advice.out.items c.write_line.new.out.items c.loop-advice-test.true
    c.loop-advice.invariant c.in_ok-write_line.ensures
