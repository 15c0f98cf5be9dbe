-- A record that breaks no rule leaves a sound plan, and the rest to judge.
use Rattle.std.proofs.Common.{◌≡◌, ◌∷◌, ◌∙◌, refl, ap, arith, length}
use Rattle.csv.specs.Records.{fields_of}
use Rattle.airport_rules.proofs.SoundLaws.{IsSound-judge}
use Rattle.airport_file.specs.Reading.{judged_after}
use Rattle.airport_file.specs.Rows.{rows_left}
use Rattle.airport_file.proofs.ReadLaws.{judged-taken}
use Rattle.airport_file.proofs.read.judge_rows.Goals as goal

pub rows-init : goal.rows-init
rows-init c = record {
  ready = c.requires.ready;
  few = omega (arith, c.requires.few);
  sound = c.requires.sound;
  so_far = refl;
}

pub rows-preserved : goal.rows-preserved
rows-preserved c =
    let next : rows_left c.rows.reader ≡ fields_of c.read_row.new.row ∷ rows_left c.read_row.new.reader = c.in_ok-read_row.ensures.next c.if-branch.true in
    record {
      ready = c.in_ok-read_row.ensures.ready c.if-branch.true;
      few = omega (arith, c.rows.invariant.few, ap length next);
      sound = IsSound-judge c.args.version c.rows.plan c.judge_row.new.plan (fields_of c.read_row.new.row) c.rows.invariant.sound c.in-Ok.ensures;
      so_far = c.rows.invariant.so_far ∙ ap (judged_after c.args.version c.rows.at c.rows.plan) next
          ∙ judged-taken c.args.version c.rows.at c.rows.plan c.judge_row.new.plan (fields_of c.read_row.new.row) (rows_left c.read_row.new.reader) c.in-Ok.ensures;
    }
