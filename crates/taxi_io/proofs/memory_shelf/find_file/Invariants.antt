use Rattle.std.proofs.Common.{◌≡◌, drop}
use Rattle.taxi_io.specs.Files.{file_of}
use Rattle.taxi_io.specs.HeldFiles.{files_of}
use Rattle.taxi_io.proofs.memory_shelf.find_file.Given as goal

-- no file so far has the name
abbrev pub invariant-loop-i : goal.invariant-loop-i
invariant-loop-i l = file_of (files_of l.files) l.name ≡ file_of (files_of (drop l.i l.files)) l.name
