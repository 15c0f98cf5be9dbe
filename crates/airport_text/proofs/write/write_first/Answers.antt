use Rattle.std.proofs.Common.{◌≡◌, ◌∷◌, [], OnOk, codes, subst}
use Rattle.airport_text.specs.Canonical.{Fields}
use Rattle.airport_text.specs.Written.{and_records}
use Rattle.airport_text.proofs.write.write_first.Goals as goal

pub returns : goal.returns
returns c =
    let mark : c.as_slice.result.now ≡ codes "taxi-airport" = c.as_slice.ensures in
    let version : c.as_slice-2.result.now ≡ codes "2" = c.as_slice-2.ensures in
    subst (λ (fields : Fields). OnOk c.write.result (c.write.new.self ≡ and_records c.args.records.now (fields ∷ []))) (cc (mark, version)) c.write.ensures
