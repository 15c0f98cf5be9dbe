-- A line that breaks no rule leaves a sound plan, and the rest to judge.
use Rattle.std.proofs.Common.{◌≡◌, ◌∷◌, ◌∙◌, Some, refl, sym, ap, arith}
use Rattle.std.proofs.lemmas.Bool.Decides.{nat_tests}
use Rattle.csv.specs.declared.parser.State.TheVariants as st
use Rattle.airport_rules.specs.Judged.{texts_of}
use Rattle.airport_rules.proofs.SoundLaws.{IsSound-judge}
use Rattle.airport_file.specs.Reading.{judged_after}
use Rattle.airport_file.specs.Rows.{rows_of}
use Rattle.airport_file.proofs.ReadLaws.{judged-taken}
use Rattle.airport_file.proofs.LineLaws.{empty-rows}
use Rattle.airport_file.proofs.read.judge_lines.Goals as goal

pub lines-init : goal.lines-init
lines-init c = record {
  few = omega (arith, c.requires.few);
  sound = c.requires.sound;
  so_far = refl;
}

pub lines-preserved : goal.lines-preserved
lines-preserved c =
    let row = rw c.in-Some.is at c.in_ok-behind.ensures.row in
    let fewer = rw c.in-Some.is at c.in_ok-behind.ensures.fewer in
    let next : rows_of st.StartRecord (Some c.lines.rest.now) ≡ texts_of c.as_slice.result.now ∷ rows_of st.StartRecord (Some c.in-Some.behind.now) =
    row ∙ ap (λ fields. texts_of fields ∷ rows_of st.StartRecord (Some c.in-Some.behind.now)) (sym c.as_slice.ensures.value) in
    record {
      few = omega (arith, c.lines.invariant.few, fewer);
      sound = IsSound-judge c.args.version c.lines.plan c.judge.new.plan (texts_of c.as_slice.result.now) c.lines.invariant.sound c.in-Ok.ensures;
      so_far = c.lines.invariant.so_far ∙ ap (judged_after c.args.version c.lines.last c.lines.plan) next
          ∙ judged-taken c.args.version c.lines.last c.lines.plan c.judge.new.plan (texts_of c.as_slice.result.now) (rows_of st.StartRecord (Some c.in-Some.behind.now)) c.in-Ok.ensures;
    }

pub returns-clause-ok : goal.returns-clause-ok
returns-clause-ok c =
    let none = empty-rows c.lines.rest.now (grind (arith, nat_tests, c.lines-test.false, c.lines-test.ensures, c.is_empty.ensures)) in
    c.lines.invariant.so_far ∙ ap (judged_after c.args.version c.lines.last c.lines.plan) none
