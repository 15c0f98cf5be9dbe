-- How does a trouble of the file or of the output end a run?
use Rattle.taxi_io.specs.declared.trouble.Trouble.{Trouble}
use Rattle.taxi_io.specs.declared.trouble.Trouble.TheVariants as trouble
use Rattle.taxi_io.specs.declared.trouble.ReadRefused.{ReadRefused}
use Rattle.taxi_io.specs.declared.trouble.ReadRefused.TheVariants as read
use Rattle.command_run.specs.declared.refused.RunRefused.{RunRefused}
use Rattle.command_run.specs.declared.refused.RunRefused.TheVariants.{ReadFault, TooLarge, WriteFault, Memory}

abbrev pub refused_for_read : ReadRefused → RunRefused
refused_for_read read.Fault = ReadFault
refused_for_read read.TooLarge = TooLarge
refused_for_read read.Memory = Memory

-- a failure to write
abbrev pub refused_for_write : Trouble → RunRefused
refused_for_write trouble.Failed = WriteFault
refused_for_write trouble.Memory = Memory
