use Rattle.std.proofs.Common.{sym, map, ap, ◌∙◌, ◌++◌, ◌∷◌, [], ℕ, List}
use Rattle.csv.specs.Reading.{default_config, records}
use Rattle.airport_file.specs.Plain.{text_of_lines, split_at_commas}
use Rattle.airport_file.proofs.CsvRecords.{records-are}
use Rattle.airport_file.proofs.PlainLines.{lines-are, then-are, strip-lines, strip-then}
use Rattle.airport_file.proofs.laws.plain_lines.Goals as goal

pub returns-clause-ended : goal.returns-clause-ended
returns-clause-ended c lines p =
    ap (λ (t : List ℕ). records default_config t) (strip-lines lines p)
    ∙ sym (records-are default_config (text_of_lines lines) (map split_at_commas lines) (lines-are lines p))

pub returns-clause-unended : goal.returns-clause-unended
returns-clause-unended c lines last p q =
    ap (λ (t : List ℕ). records default_config t) (strip-then lines last p q)
    ∙ sym (records-are default_config (text_of_lines lines ++ last) (map split_at_commas lines ++ split_at_commas last ∷ []) (then-are lines last p q))
