-- The versions of the airport file, and what they may give.
use Rattle.std.specs.Prelude.{ℕ, Bool, true, false, if◌then◌else◌, List, Option, Some, None, codes, bytes_eq}
use Rattle.airport_rules.specs.declared.version.Version.{Version}
use Rattle.airport_rules.specs.declared.version.Version.TheVariants.{One, Two}

-- the version by its number, as the first record writes it
abbrev pub version_named : List ℕ → Option Version
version_named number = if bytes_eq number (codes "1") then Some One else (if bytes_eq number (codes "2") then Some Two else None)

-- whether a record may give a class its clearance
abbrev pub gives_clearances : Version → Bool
gives_clearances One = false
gives_clearances Two = true
