use Rattle.std.proofs.Common.{◌∙◌, ◌∷◌, [], refl, ap}
use Rattle.block_reader.specs.Fields.{number_of}
use Rattle.block_reader.specs.Reading.{field_at}
use Rattle.block_reader.proofs.Pieces.{behind-takes}
use Rattle.block_reader.proofs.fields.end_field.Goals as goal

pub returns-in-Some : goal.returns-in-Some
returns-in-Some c = ap (field_at number_of 32) (behind-takes (56 ∷ 54 ∷ 52 ∷ 48 ∷ 48 ∷ 32 ∷ []) c.args.bytes.now c.in-Some.rest.now c.in-Some.ensures) ∙ refl
