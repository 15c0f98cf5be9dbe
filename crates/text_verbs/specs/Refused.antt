-- How does an import end whose schedule gave no text? No public clause cites this file.
use Rattle.std.specs.Prelude.{◌≡◌, ℕ}
use Rattle.taxi_io.specs.Written.{Output}
use Rattle.schedule_import.specs.declared.import.ScheduleRefused.{ScheduleRefused}
use Rattle.schedule_import.specs.declared.import.ScheduleRefused.TheVariants as schedule
use Rattle.program_files.specs.declared.status.Status.{Status}
use Rattle.program_files.specs.declared.status.Status.TheVariants as status
use Rattle.program_files.specs.LastLine.{EndsWith}
use Rattle.text_verbs.specs.Lines.{first_row_line, bad_start_line}

-- by the writing of the line that says why; want of memory writes none
abbrev pub RefusesWith : ScheduleRefused → ℕ × ℕ → Output × Output → Status → Type 0
RefusesWith schedule.FirstRow faults taken ended = EndsWith first_row_line status.ScheduleRefused faults taken ended
RefusesWith schedule.BadStart faults taken ended = EndsWith bad_start_line status.ScheduleRefused faults taken ended
RefusesWith schedule.Memory faults taken ended = (ended ≡ status.Memory) × (taken.1 ≡ taken.0)
