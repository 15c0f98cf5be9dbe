-- How does a reader of whole files answer a trouble of the shelf?
use Rattle.taxi_io.specs.declared.trouble.Trouble.{Trouble}
use Rattle.taxi_io.specs.declared.trouble.Trouble.TheVariants.{Failed, Memory}
use Rattle.taxi_io.specs.declared.trouble.ReadRefused.{ReadRefused}
use Rattle.taxi_io.specs.declared.trouble.ReadRefused.TheVariants as refused

-- a failure is a fault, and want of memory stays want of memory
abbrev pub refused_for : Trouble → ReadRefused
refused_for Failed = refused.Fault
refused_for Memory = refused.Memory
