-- What are the files of a shelf, where it tells them, and what is left of the one that is begun?
use Rattle.std.specs.Prelude.{◌≡◌, ◌<◌, ◌≤◌, ◌↔◌, ◌++◌, ℕ, List, length, drop, [], ◌∷◌, Option, Some, None, nat_eq, if◌then◌else◌}
use lib.Pointwise.{pointwise}
use Rattle.std.specs.Io.KnownBytes.{prepend_known}

-- names, each with its file's bytes
abbrev pub Files : Type 0
Files = List (List ℕ × List ℕ)

-- the bytes of the first file of this name
abbrev pub file_of : Files → List ℕ → Option (List ℕ)
file_of [] name = None
file_of (f ∷ fs) name = if pointwise nat_eq f.0 name then Some f.1 else file_of fs name

-- where the files are told, the file of this name is these bytes
abbrev pub IsFile : Option Files → List ℕ → List ℕ → Type 0
IsFile None name bytes = Unit {0}
IsFile (Some files) name bytes = file_of files name ≡ Some bytes

-- where the files are told, the file of this name has more bytes than the limit
abbrev pub IsLonger : Option Files → List ℕ → ℕ → Type 0
IsLonger told name limit = (bytes : List ℕ) × IsFile told name bytes × (limit < length bytes)

-- where the files are told, there is a file of this name, and it is left whole; else nothing is told of what is left
abbrev pub Begins : Option Files → List ℕ → Option (List ℕ) → Type 0
Begins None name rest = rest ≡ None
Begins (Some files) name rest = (bytes : List ℕ) × (file_of files name ≡ Some bytes) × (rest ≡ Some bytes)

-- what is left, where it is told, lost this piece from its front
abbrev pub Gave : Option (List ℕ) → Option (List ℕ) → List ℕ → Type 0
Gave old new piece = old ≡ prepend_known piece new

-- what is left, where it is told, lost one byte from its front
abbrev pub GaveByte : Option (List ℕ) → Option (List ℕ) → Type 0
GaveByte old new = (byte : ℕ) × Gave old new (byte ∷ [])

-- where it is told what is left, n is 0 exactly where that is nothing
abbrev pub IsAtEndOnly : Option (List ℕ) → ℕ → Type 0
IsAtEndOnly None n = Unit {0}
IsAtEndOnly (Some bytes) n = (n ≡ 0) ↔ (bytes ≡ [])

-- the names that may be begun stay the same
abbrev pub SameNames : (List ℕ → Type 0) → (List ℕ → Type 0) → Type 0
SameNames old new = (name : List ℕ) → (old name ↔ new name)

-- the names that were given to `begin` have these more at their end
abbrev pub BeganMore : List (List ℕ) → List (List ℕ) → List (List ℕ) → Type 0
BeganMore old new names = new ≡ old ++ names

-- where the files are told, so many bytes of the file of this name were taken, and the others are left
abbrev pub TookFront : Option Files → List ℕ → Option (List ℕ) → ℕ → Type 0
TookFront None name rest count = Unit {0}
TookFront (Some files) name rest count =
    (bytes : List ℕ) × (file_of files name ≡ Some bytes) × (count ≤ length bytes) × (rest ≡ Some (drop count bytes))

-- of the file of this name no more bytes were taken than the limit
abbrev pub IsTakenWithin : Option Files → List ℕ → Option (List ℕ) → ℕ → Type 0
IsTakenWithin told name rest limit = (count : ℕ) × (count ≤ limit) × TookFront told name rest count
