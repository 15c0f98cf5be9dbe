-- How a fault of an airport file is printed.
use Rattle.std.specs.Prelude.{ℕ, List, codes}
use Rattle.airport_rules.specs.declared.faults.LimitKind.{LimitKind}
use Rattle.airport_rules.specs.declared.faults.LimitKind.TheVariants.{Nodes, Classes, Segments, Ends, Forbids, Sets}
use Rattle.airport_rules.specs.declared.faults.AirportFault.{AirportFault}
use Rattle.airport_rules.specs.declared.faults.AirportFault.TheVariants.{FirstRow, UnknownRow, FieldCount, BadName, NameTwice, UnknownName, BadWord, BadNumber, NoSuchArc, RowTwice, Limit, NoHorizon}

abbrev pub limit_words : LimitKind → List ℕ
limit_words Nodes = codes "limit nodes"
limit_words Classes = codes "limit classes"
limit_words Segments = codes "limit segments"
limit_words Ends = codes "limit ends"
limit_words Forbids = codes "limit forbids"
limit_words Sets = codes "limit sets"

abbrev pub fault_word : AirportFault → List ℕ
fault_word FirstRow = codes "first-row"
fault_word UnknownRow = codes "unknown-row"
fault_word FieldCount = codes "field-count"
fault_word BadName = codes "bad-name"
fault_word NameTwice = codes "name-twice"
fault_word UnknownName = codes "unknown-name"
fault_word BadWord = codes "bad-word"
fault_word BadNumber = codes "bad-number"
fault_word NoSuchArc = codes "no-such-arc"
fault_word RowTwice = codes "row-twice"
fault_word (Limit which) = limit_words which
fault_word NoHorizon = codes "no-horizon"
