use Rattle.std.proofs.Common.{◌≡◌, [], ◌∷◌, map, take}
use Rattle.std.specs.Prelude.{codes}
use Rattle.csv.specs.Records.{fields_of, partial_of}
use Rattle.airport_file.specs.Words.{segment_word}
use Rattle.airport_text.proofs.write.fill_row.Given as goal

abbrev pub invariant-loop-member : goal.invariant-loop-member
invariant-loop-member l =
    (fields_of l.row ≡ codes "conflict" ∷ map (segment_word l.airport) (take l.member-index l.members)) × (partial_of l.row ≡ [])
