-- Which words follow the program's name?
use Rattle.std.specs.Prelude.{ℕ, List, [], map, drop, string_bytes, String, Result, Ok, Err}
use Rattle.std.specs.Global.{Global}
use Rattle.std.specs.Vec.Iter.{into_iter_items}
use Rattle.std.specs.declared.io.Error.{Error}
use Rattle.std.specs.declared.vec.IntoIter.{IntoIter}

-- Of the words that the machine gave all but the first. Where it gave none, since one isn't UTF-8, they are of no form, as no words
-- are; where it gave none for want of memory, they aren't known.
abbrev pub words_given : Result (IntoIter (String Global) Global) Error → List (List ℕ)
words_given (Ok all) = map string_bytes (drop 1 (into_iter_items all))
words_given (Err error) = []
