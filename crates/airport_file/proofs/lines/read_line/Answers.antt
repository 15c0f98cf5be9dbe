-- Each field goes on from the one before it, and the last ends the record.
use Rattle.std.proofs.Common.{◌∷◌, ◌∙◌, ap, arith, length, length-append, refl, rules}
use Rattle.csv.specs.declared.parser.State.TheVariants as st
use Rattle.airport_rules.specs.Judged.{texts_of}
use Rattle.airport_file.proofs.RowsLeft.{first-row}
use Rattle.airport_file.proofs.LineLaws.{field-comma, field-last, texts-push}
use Rattle.airport_file.proofs.lines.read_line.Goals as goal

pub fields-preserved : goal.fields-preserved
fields-preserved c = record {
  so_far = rw (c.in_ok-push-2.ensures.items, texts-push) (c.fields.invariant.so_far
      ∙ field-comma (texts_of c.fields.fields.items) c.fields.rest.now c.in-Some.field.now c.in-Some.behind.now c.in-Some.mark c.in-Some.ensures.cut c.in-Some.ensures.field (search rules));
  within =
      let cut = ap length c.in-Some.ensures.cut in
      let joined = length-append c.in-Some.field.now (c.in-Some.mark ∷ c.in-Some.behind.now) in
      omega (arith, cut, joined, c.fields.invariant.within);
}

pub returns-then-mark-eq10-clause-row : goal.returns-then-mark-eq10-clause-row
returns-then-mark-eq10-clause-row c =
    first-row st.StartRecord c.args.text.now (texts_of c.push.new.self.items, st.StartRecord, c.in-Some.behind.now) refl
    (rw (c.in_ok-push.ensures.items, texts-push) (c.fields.invariant.so_far
    ∙ field-last (texts_of c.fields.fields.items) c.fields.rest.now c.in-Some.field.now c.in-Some.behind.now c.in-Some.mark c.in-Some.ensures.cut c.in-Some.ensures.field (search rules)))
