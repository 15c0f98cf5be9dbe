-- How does a call end whose run is stopped before the end of its file?
use Rattle.std.specs.Prelude.{◌≡◌, ℕ}
use Rattle.program_files.specs.declared.status.Status.{Status}
use Rattle.program_files.specs.declared.status.Status.TheVariants as status
use Rattle.program_files.specs.LastLine.{EndsWith}
use Rattle.program_files.specs.Lines.{read_fault_line, too_large_line}
use Rattle.command_run.specs.declared.refused.RunRefused.{RunRefused}
use Rattle.command_run.specs.declared.refused.RunRefused.TheVariants as refused
use Rattle.command_run.specs.Answered.{Outputs}

-- by the writing of the line that says why; a failed write and want of memory write none
abbrev pub HaltsWith : RunRefused → ℕ × ℕ → Outputs → Status → Type 0
HaltsWith refused.ReadFault faults taken ended = EndsWith read_fault_line status.ReadFault faults taken ended
HaltsWith refused.TooLarge faults taken ended = EndsWith too_large_line status.TooLarge faults taken ended
HaltsWith refused.WriteFault faults taken ended = (ended ≡ status.WriteFault) × (taken.1 ≡ taken.0)
HaltsWith refused.Memory faults taken ended = (ended ≡ status.Memory) × (taken.1 ≡ taken.0)
