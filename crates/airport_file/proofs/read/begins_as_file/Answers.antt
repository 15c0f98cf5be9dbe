-- The letter is no part of a mark of the byte order.
use Rattle.std.proofs.Common.{arith, rules}
use Rattle.std.proofs.lemmas.Bool.Decides.{nat_tests}
use Rattle.airport_file.proofs.LineLaws.{from-start}
use Rattle.airport_file.proofs.read.begins_as_file.Goals as goal

pub returns-in-Some : goal.returns-in-Some
returns-in-Some c letter = from-start c.args.bytes.now c.in-Some.first.now (search rules) (grind (arith, nat_tests, letter))
