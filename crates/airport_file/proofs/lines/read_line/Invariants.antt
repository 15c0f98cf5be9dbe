use Rattle.std.proofs.Common.{◌≡◌, ◌≤◌, length, []}
use Rattle.csv.specs.Machine.{next_record}
use Rattle.csv.specs.Reading.{default_config}
use Rattle.csv.specs.declared.parser.State.TheVariants as st
use Rattle.airport_rules.specs.Judged.{texts_of}
use Rattle.airport_file.proofs.lines.read_line.Given as goal

abbrev pub invariant-fields : goal.invariant-fields
invariant-fields l = record {
  so_far : next_record default_config st.StartRecord [] [] l.text ≡ next_record default_config st.StartField (texts_of l.fields.items) [] l.rest;
  within : length l.rest ≤ length l.text;
}

abbrev pub decreases-fields : goal.decreases-fields
decreases-fields l = length l.rest
