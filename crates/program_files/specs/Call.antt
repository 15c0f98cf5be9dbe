-- What does a call find and leave, and how may it end, by the text that is due with each status?
use Rattle.std.specs.Prelude.{◌⊎◌, ℕ, List, [], Option}
use Rattle.taxi_io.specs.Counts.{Rose}
use Rattle.taxi_io.specs.Files.{Files}
use Rattle.taxi_io.specs.Written.{Output, Grew, GrewInPart}
use Rattle.program_files.specs.declared.status.Status.{Status}
use Rattle.program_files.specs.declared.status.Status.TheVariants.{Done, Usage, AirportRefused, ReadFault, WriteFault, Memory, TooLarge, Wrong, ScheduleRefused}

-- what a call finds, and what it leaves: each pair is of before and after
pub record Call : Type 0 where
  -- the files, where they are told
  pub files : Option Files
  -- the counts of faults of the shelf and of the sink
  pub reads : ℕ × ℕ
  pub writes : ℕ × ℕ
  -- what was handed to the sink, and the bytes that it took, where they are told
  pub taken : Output × Output
  -- the pieces that reads have given when the call has ended
  pub given : List (List ℕ)

-- the same by what a shelf and a sink tell, each before and after
abbrev pub call_of : {S K : Type 0} → (S → Option Files) → (S → ℕ) → (S → List (List ℕ)) → (K → ℕ) → (K → Output) → S × S → K × K → Call
call_of files reads given writes written shelf out = record {
  files = files shelf.0;
  reads = (reads shelf.0, reads shelf.1);
  writes = (writes out.0, writes out.1);
  taken = (written out.0, written out.1);
  given = given shelf.1;
}

-- the sink took the whole text that is due with a status
abbrev pub IsWholeAs : (Status → List ℕ → Type 0) → Output × Output → Status → Type 0
IsWholeAs IsDue taken status = (text : List ℕ) × IsDue status text × Grew taken.0 taken.1 text

-- the sink took a front of what was due with some status, and not the whole
abbrev pub IsCutShortAs : (Status → List ℕ → Type 0) → Output × Output → Type 0
IsCutShortAs IsDue taken = (status : Status) × (text : List ℕ) × IsDue status text × GrewInPart taken.0 taken.1 text

-- A call that ends with a status has written the whole text that is due with it. It ends with `WriteFault` only where a
-- write failed, and with `Memory` where memory ran out: then it has written nothing, or a front of what was due.
abbrev pub EndsAs : (Status → List ℕ → Type 0) → ℕ × ℕ → Output × Output → Status → Type 0
EndsAs IsDue writes taken WriteFault = Rose writes.0 writes.1 × IsCutShortAs IsDue taken
EndsAs IsDue writes taken Memory = Grew taken.0 taken.1 [] ⊎ IsCutShortAs IsDue taken
EndsAs IsDue writes taken Done = IsWholeAs IsDue taken Done
EndsAs IsDue writes taken Usage = IsWholeAs IsDue taken Usage
EndsAs IsDue writes taken AirportRefused = IsWholeAs IsDue taken AirportRefused
EndsAs IsDue writes taken ReadFault = IsWholeAs IsDue taken ReadFault
EndsAs IsDue writes taken TooLarge = IsWholeAs IsDue taken TooLarge
EndsAs IsDue writes taken Wrong = IsWholeAs IsDue taken Wrong
EndsAs IsDue writes taken ScheduleRefused = IsWholeAs IsDue taken ScheduleRefused
