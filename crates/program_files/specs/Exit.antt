-- Which number is a status to whoever runs the program?
use Rattle.std.specs.Prelude.{ℕ}
use Rattle.program_files.specs.declared.status.Status.{Status}
use Rattle.program_files.specs.declared.status.Status.TheVariants.{Done, Usage, AirportRefused, ReadFault, WriteFault, Memory, TooLarge, Wrong, ScheduleRefused}

abbrev pub number_of : Status → ℕ
number_of Done = 0
number_of Usage = 1
number_of AirportRefused = 2
number_of ReadFault = 3
number_of WriteFault = 4
number_of Memory = 5
number_of TooLarge = 6
number_of Wrong = 7
number_of ScheduleRefused = 8
