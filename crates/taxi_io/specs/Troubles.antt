-- How is an error of the machine answered?
use Rattle.std.specs.Prelude.{ℕ, zero, suc, Result, Ok, Err}
use Rattle.std.specs.IoError.{error_kind}
use Rattle.std.specs.declared.io.Error.{Error}
use Rattle.std.specs.declared.io.ErrorKind.{ErrorKind}
use Rattle.std.specs.declared.io.ErrorKind.TheVariants.{OutOfMemory}
use Rattle.taxi_io.specs.declared.trouble.Trouble.{Trouble}
use Rattle.taxi_io.specs.declared.trouble.Trouble.TheVariants.{Failed, Memory}

-- an error is a failure, but for want of memory
abbrev pub trouble_for : ErrorKind → Trouble
trouble_for OutOfMemory = Memory
trouble_for _ = Failed

-- what the machine answered, as an answer of a shelf
abbrev pub answer_for : {T : Type 0} → Result T Error → Result T Trouble
answer_for (Ok value) = Ok value
answer_for (Err error) = Err (trouble_for (error_kind error))

-- the answer of a sink where the machine's write said how many bytes it took: the flush decides, unless none were taken
abbrev pub flushed_answer : ℕ → Result (Unit {0}) Error → Result ℕ Trouble
flushed_answer zero flushed = Err Failed
flushed_answer (suc more) (Ok done) = Ok (suc more)
flushed_answer (suc more) (Err error) = Err (trouble_for (error_kind error))

-- the answer of a sink to what the machine said of a write and of the flush after it
abbrev pub settled : Result ℕ Error → Result (Unit {0}) Error → Result ℕ Trouble
settled (Ok count) flushed = flushed_answer count flushed
settled (Err error) flushed = Err (trouble_for (error_kind error))
