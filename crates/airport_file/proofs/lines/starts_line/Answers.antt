-- A byte that is no mark starts the first field.
use Rattle.std.proofs.Common.{arith, rules}
use Rattle.std.proofs.lemmas.Bool.Decides.{nat_tests}
use Rattle.airport_file.proofs.LineLaws.{line-start}
use Rattle.airport_file.proofs.lines.starts_line.Goals as goal

pub returns-in-Some : goal.returns-in-Some
returns-in-Some c unmarked = line-start c.args.text.now c.in-Some.first.now (search rules) (grind (arith, nat_tests, unmarked, c.is_mark.ensures))
