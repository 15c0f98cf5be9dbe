use Rattle.civil_times.proofs.LaterLaws.{later-second, later-offset}
use Rattle.civil_times.proofs.laws.later_times_are_times.Goals as goal

pub returns-clause-second : goal.returns-clause-second
returns-clause-second c = later-second

pub returns-clause-offset : goal.returns-clause-offset
returns-clause-offset c = λ start seconds starts few. later-offset start seconds starts
