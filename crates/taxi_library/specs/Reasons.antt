-- Why no engine is made of some bytes.
use Rattle.std.specs.Prelude.{ℕ, List, Option, Some, None, IsOk, Err, ◌≡◌, ◌<◌, ◌≤◌, length}
use Rattle.airport_file.specs.Reading.{airport_of}
use Rattle.airport_file.specs.declared.read.AirportRefused.{AirportRefused}
use Rattle.airport_file.specs.declared.read.AirportRefused.TheVariants as refusal
use Rattle.taxi_base.specs.declared.collections.Memory.{Memory as Wanting}
use Rattle.taxi_library.specs.declared.why.Why.{Why}
use Rattle.taxi_library.specs.declared.why.Why.TheVariants.{Refused, TooLarge, Memory}

-- the number that C knows it by
abbrev pub number_of : Option Why → ℕ
number_of None = 0
number_of (Some (Refused at rule)) = 1
number_of (Some TooLarge) = 2
number_of (Some (Memory memory)) = 3

-- what each says of the bytes
abbrev pub IsReason : List ℕ → Why → Type 0
IsReason bytes (Refused at rule) = (length bytes ≤ 4194304) × (airport_of bytes ≡ Err (record { at = at; why = rule }))
IsReason bytes TooLarge = 4194304 < length bytes
IsReason bytes (Memory memory) = length bytes ≤ 4194304

-- whether something stands in the way, and what
abbrev pub IsJudgement : List ℕ → Option Why → Type 0
IsJudgement bytes None = (length bytes ≤ 4194304) × IsOk (airport_of bytes)
IsJudgement bytes (Some why) = IsReason bytes why

-- why an airport is refused, as a reason that no engine is made
abbrev pub HasReason : AirportRefused → Why → Type 0
HasReason (refusal.Bad at rule) why = why ≡ Refused at rule
HasReason refusal.Memory why = (memory : Wanting) × (why ≡ Memory memory)
