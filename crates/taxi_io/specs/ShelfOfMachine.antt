-- What is known of a shelf of the machine's files?
use Rattle.std.specs.Prelude.{ℕ, List, Option, None, Bool, true, false, codes, bytes_eq, if◌then◌else◌}
use Rattle.taxi_io.specs.declared.file_shelf.Source.{Source}
use Rattle.taxi_io.specs.declared.file_shelf.Source.TheVariants as source

-- where the bytes that are read come from
pub data Begun : Type 0 where
  Nothing : Begun
  AFile : Begun
  StandardInput : Begun

pub record ShelfOfMachine : Type 0 where
  pub begun : Begun
  -- the bytes that reads will give, where they are known
  pub left : Option (List ℕ)
  -- how many calls answered an error
  pub faults : ℕ
  -- the names that were given to `begin`, and the pieces that reads gave
  pub tried : List (List ℕ)
  pub given : List (List ℕ)

abbrev pub source_of : {F I : Type 0} → Source F I → Begun
source_of source.Nothing = Nothing
source_of (source.Opened file) = AFile
source_of (source.StandardInput input) = StandardInput

-- what is left where bytes come from, by what a file and standard input have left, where that is known
abbrev pub left_in : {F I : Type 0} → (F → Option (List ℕ)) → (I → Option (List ℕ)) → Source F I → Option (List ℕ)
left_in file_left input_left source.Nothing = None
left_in file_left input_left (source.Opened file) = file_left file
left_in file_left input_left (source.StandardInput input) = input_left input

-- what a name stands for: `-` is standard input
abbrev pub source_named : List ℕ → Begun
source_named name = if bytes_eq name (codes "-") then StandardInput else AFile

-- whether bytes come from anywhere
abbrev pub is_begun : Begun → Bool
is_begun Nothing = false
is_begun AFile = true
is_begun StandardInput = true
