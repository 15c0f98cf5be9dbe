-- Each answer is one line; a comment is skipped, and the line of a row whose time is taken is its command.
use Rattle.std.proofs.Common.{◌≡◌, ◌<◌, ◌+◌, ◌-◌, ◌^◌, ◌∙◌, ◌∷◌, ◌++◌, ◌==◌, [], ℕ, ℤ, zero, suc, List, Bool, true, false, not, Option, Some, None, Result, Ok, Err, refl, ap, subst, arith, length, map, filter, decimal, codes, drop, get_or, if◌then◌else◌}
use Rattle.std.specs.List.{list_all, join_with_byte}
use Rattle.std.specs.Char.{is_ascii_digit}
use Rattle.std.specs.Str.Lines.{strip_carriage_return}
use Rattle.std.proofs.lemmas.Bool.{and_parts, not-true}
use Rattle.std.proofs.lemmas.List.Splits.{length-slice_split}
use Rattle.taxi_base.specs.Words.{is_name, is_name_byte}
use Rattle.taxi_base.specs.Airport.{Airport}
use Rattle.airport_file.specs.Plain.{text_of_lines}
use Rattle.taxi_text.specs.Parts.{parts_of}
use Rattle.taxi_text.specs.Lines.{lines_of, lines_of_parts, is_skipped, commands_of}
use Rattle.taxi_text.specs.Commands.{command_of, command_of_words}
use Rattle.taxi_text.specs.declared.command.Command.{Command}
use Rattle.taxi_text.proofs.Numbers.{number-again}
use Rattle.schedule_import.specs.declared.row.Movement.{Movement}
use Rattle.schedule_import.specs.declared.row.Movement.TheVariants.{Arrival, Departure}
use Rattle.schedule_import.specs.declared.row.Names.{Names}
use Rattle.schedule_import.specs.declared.row.Row.{Row}
use Rattle.schedule_import.specs.declared.row.RowFault.{RowFault}
use Rattle.schedule_import.specs.declared.row.RowFault.TheVariants as fault
use Rattle.schedule_import.specs.Rows.{row_of, time_of_row}
use Rattle.schedule_import.specs.Answers.{fault_word, movement_word, command_words, command_line, comment_line, line_of_time, line_of_row, line_of, lines_from, answers_from}
use Rattle.schedule_import.specs.declared.import.ScheduleRefused.TheVariants.{FirstRow}
use Rattle.schedule_import.specs.Schedule.{is_first_row, start_of, answers_for, after_first, import_of_records}
use Rattle.schedule_import.specs.Accepted.{command_of_names, command_at, commands_at, commands_of_row, commands_from, commands_for, accepted_of_records}
use Rattle.schedule_import.proofs.Bytes.{lacks, lacks-failing, lacks-append, lacks-join, decimal-digits, split-at, split-join}
use Rattle.schedule_import.proofs.RowFacts.{AreNames, IsRead, row_of-read, time_of_row-low}

-- ---- lines

-- a text with no line feed and no carriage return
pub record IsLine (text : List ℕ) : Type 0 where
  pub feed : lacks 10 text ≡ true
  pub return : lacks 13 text ≡ true

lacks-get : (byte : ℕ) (text : List ℕ) (k d : ℕ) → (d == byte) ≡ false → lacks byte text ≡ true → (get_or text k d == byte) ≡ false
lacks-get byte [] k d other h = other
lacks-get byte (b ∷ text) zero d other h = not-true (b == byte) (and_parts (not (b == byte)) (lacks byte text) h).0
lacks-get byte (b ∷ text) (suc k) d other h = lacks-get byte text k d other (and_parts (not (b == byte)) (lacks byte text) h).1

unstripped : (text : List ℕ) → lacks 13 text ≡ true → strip_carriage_return text ≡ text
unstripped text h = rw (lacks-get 13 text (length text - 1) 0 refl h) refl

line-more : (line : List ℕ) (parts : List (List ℕ)) → 0 < length parts → lines_of_parts (line ∷ parts) ≡ strip_carriage_return line ∷ lines_of_parts parts
line-more line [] some = absurd (omega arith)
line-more line (part ∷ parts) some = refl

pub lines-again : (line rest : List ℕ) → IsLine line → lines_of (line ++ (10 ∷ rest)) ≡ line ∷ lines_of rest
lines-again line rest is =
    let some : 0 < length (parts_of 10 rest) = let l = length-slice_split (λ b. b == 10) rest in omega (arith, l) in
    ap lines_of_parts (split-at 10 line rest is.feed) ∙ line-more line (parts_of 10 rest) some
    ∙ ap (λ l. l ∷ lines_of rest) (unstripped line is.return)

-- ---- the bytes of an answer

word-lacks : (byte : ℕ) (name : List ℕ) → is_name_byte byte ≡ false → is_name name ≡ true → lacks byte name ≡ true
word-lacks byte name fails is = lacks-failing is_name_byte byte name fails (and_parts _ (list_all is_name_byte name) is).1

number-lacks : (byte n : ℕ) → is_ascii_digit byte ≡ false → lacks byte (decimal n) ≡ true
number-lacks byte n fails = lacks-failing is_ascii_digit byte (decimal n) fails (decimal-digits n)

movement-lacks : (byte : ℕ) (movement : Movement) → lacks byte (codes "arrival") ≡ true → lacks byte (codes "departure") ≡ true → lacks byte (movement_word movement) ≡ true
movement-lacks byte Arrival a d = a
movement-lacks byte Departure a d = d

-- the words of a command lack a byte that is in no name, no number and no movement's word
words-lack : (byte : ℕ) (row : Row) (time : ℕ) → is_name_byte byte ≡ false → is_ascii_digit byte ≡ false → lacks byte (codes "arrival") ≡ true → lacks byte (codes "departure") ≡ true
    → IsRead row → list_all (lacks byte) (command_words row time) ≡ true
words-lack byte row time name digit a d is =
    each (movement_word row.movement) row.names.flight row.names.class row.names.from row.names.to (decimal time) (decimal row.slack)
    (movement-lacks byte row.movement a d) (word-lacks byte row.names.flight name is.names.flight) (word-lacks byte row.names.class name is.names.class)
    (word-lacks byte row.names.from name is.names.from) (word-lacks byte row.names.to name is.names.to) (number-lacks byte time digit) (number-lacks byte row.slack digit)
  where
    each : (k l m n o p q : List ℕ) → lacks byte k ≡ true → lacks byte l ≡ true → lacks byte m ≡ true → lacks byte n ≡ true → lacks byte o ≡ true → lacks byte p ≡ true → lacks byte q ≡ true
        → list_all (lacks byte) (k ∷ l ∷ m ∷ n ∷ o ∷ p ∷ q ∷ []) ≡ true
    each k l m n o p q hk hl hm hn ho hp hq = rw (hk, hl, hm, hn, ho, hp, hq) refl

pub command-line : (row : Row) (time : ℕ) → IsRead row → IsLine (command_line row time)
command-line row time is = record {
  feed = lacks-join 10 32 (command_words row time) refl (words-lack 10 row time refl refl refl refl is);
  return = lacks-join 13 32 (command_words row time) refl (words-lack 13 row time refl refl refl refl is);
}

fault-lacks : (byte : ℕ) (why : RowFault) → is_name_byte byte ≡ false → lacks byte (fault_word why) ≡ true
fault-lacks byte why fails = lacks-failing is_name_byte byte (fault_word why) fails (all why)
  where
    all : (why : RowFault) → list_all is_name_byte (fault_word why) ≡ true
    all fault.UnknownRow = refl
    all fault.FieldCount = refl
    all fault.BadName = refl
    all fault.BadTime = refl
    all fault.BadNumber = refl
    all fault.UnknownName = refl
    all fault.WrongKind = refl
    all fault.OutOfDay = refl

comment-lacks : (byte at : ℕ) (why : RowFault) → is_name_byte byte ≡ false → is_ascii_digit byte ≡ false → lacks byte (codes "# row ") ≡ true → lacks byte (codes " ") ≡ true
    → lacks byte (comment_line at why) ≡ true
comment-lacks byte at why name digit head blank =
    lacks-append byte (codes "# row " ++ decimal at ++ codes " ") (fault_word why)
    (lacks-append byte (codes "# row " ++ decimal at) (codes " ") (lacks-append byte (codes "# row ") (decimal at) head (number-lacks byte at digit)) blank)
    (fault-lacks byte why name)

pub comment-line : (at : ℕ) (why : RowFault) → IsLine (comment_line at why)
comment-line at why = record { feed = comment-lacks 10 at why refl refl refl refl; return = comment-lacks 13 at why refl refl refl refl }

-- ---- what the lines are to the router

pub command-kept : (row : Row) (time : ℕ) → is_skipped (command_line row time) ≡ false
command-kept row time = go row.movement
  where
    go : (movement : Movement) → is_skipped (join_with_byte 32 (movement_word movement ∷ row.names.flight ∷ row.names.class ∷ row.names.from ∷ row.names.to ∷ decimal time ∷ decimal row.slack ∷ [])) ≡ false
    go Arrival = refl
    go Departure = refl

words-command : (movement : Movement) (names : Names) (time slack : ℕ) → AreNames names → time < 10 ^ 7 → slack < 10 ^ 7
    → command_of_words (movement_word movement ∷ names.flight ∷ names.class ∷ names.from ∷ names.to ∷ decimal time ∷ decimal slack ∷ []) ≡ Some (command_of_names movement names time slack)
words-command Arrival names time slack are early short = rw (are.flight, are.class, are.from, are.to, number-again time early, number-again slack short) refl
words-command Departure names time slack are early short = rw (are.flight, are.class, are.from, are.to, number-again time early, number-again slack short) refl

pub command-read : (row : Row) (time : ℕ) → IsRead row → time < 10 ^ 7 → command_of (command_line row time) ≡ Some (command_at row time)
unfolding command_of
command-read row time is early =
    ap command_of_words (split-join 32 (movement_word row.movement) (drop 1 (command_words row time)) (words-lack 32 row time refl refl refl refl is))
    ∙ words-command row.movement row.names time row.slack is.names early is.slack

-- ---- all answers

line-is : (airport : Airport) (start : ℤ) (at : ℕ) (fields : List (List ℕ)) → IsLine (line_of airport start at fields)
line-is airport start at fields = go (row_of fields) refl
  where
    timed : (row : Row) → IsRead row → (time : Result ℕ RowFault) → IsLine (line_of_time at row time)
    timed row is (Ok time) = command-line row time is
    timed row is (Err why) = comment-line at why

    go : (r : Result Row RowFault) → row_of fields ≡ r → IsLine (line_of_row airport start at r)
    go (Ok row) e = timed row (row_of-read fields row e) (time_of_row airport start row)
    go (Err why) e = comment-line at why

-- the text of answers has their lines
pub answers-lines : (airport : Airport) (start : ℤ) (at : ℕ) (rows : List (List (List ℕ))) → lines_of (text_of_lines (lines_from airport start at rows)) ≡ lines_from airport start at rows
answers-lines airport start at [] = refl
answers-lines airport start at (fields ∷ rest) =
    lines-again (line_of airport start at fields) (text_of_lines (lines_from airport start (at + 1) rest)) (line-is airport start at fields)
    ∙ ap (λ lines. line_of airport start at fields ∷ lines) (answers-lines airport start (at + 1) rest)

kept-one : (line : List ℕ) (lines : List (List ℕ)) → is_skipped line ≡ false → filter (λ line. not (is_skipped line)) (line ∷ lines) ≡ line ∷ filter (λ line. not (is_skipped line)) lines
kept-one line lines keeps = rw keeps refl

-- the line of one record, before lines that are these commands
more-commands : (airport : Airport) → airport.horizon < 10 ^ 7 → (start : ℤ) (at : ℕ) (fields : List (List ℕ)) (lines : List (List ℕ)) (rest : List Command)
    → map command_of (filter (λ line. not (is_skipped line)) lines) ≡ map Some rest
    → map command_of (filter (λ line. not (is_skipped line)) (line_of airport start at fields ∷ lines)) ≡ map Some (commands_of_row airport start (row_of fields) ++ rest)
more-commands airport early start at fields lines rest before = go (row_of fields) refl
  where
    timed : (row : Row) → IsRead row → (time : Result ℕ RowFault) → time_of_row airport start row ≡ time
        → map command_of (filter (λ line. not (is_skipped line)) (line_of_time at row time ∷ lines)) ≡ map Some (commands_at row time ++ rest)
    timed row is (Ok time) e =
        let low : time < 10 ^ 7 = let within = time_of_row-low airport start row time e in omega (arith, within, early) in
        ap (λ kept. map command_of kept) (kept-one (command_line row time) lines (command-kept row time))
        ∙ ap (λ command. command ∷ map command_of (filter (λ line. not (is_skipped line)) lines)) (command-read row time is low)
        ∙ ap (λ commands. Some (command_at row time) ∷ commands) before
    timed row is (Err why) e = before

    go : (r : Result Row RowFault) → row_of fields ≡ r
        → map command_of (filter (λ line. not (is_skipped line)) (line_of_row airport start at r ∷ lines)) ≡ map Some (commands_of_row airport start r ++ rest)
    go (Ok row) e = timed row (row_of-read fields row e) (time_of_row airport start row) refl
    go (Err why) e = before

rows-commands : (airport : Airport) → airport.horizon < 10 ^ 7 → (start : ℤ) (at : ℕ) (rows : List (List (List ℕ)))
    → map command_of (filter (λ line. not (is_skipped line)) (lines_from airport start at rows)) ≡ map Some (commands_from airport start rows)
rows-commands airport early start at [] = refl
rows-commands airport early start at (fields ∷ rest) =
    more-commands airport early start at fields (lines_from airport start (at + 1) rest) (commands_from airport start rest) (rows-commands airport early start (at + 1) rest)

pub import-commands : (airport : Airport) → airport.horizon < 10 ^ 7 → (records : List (List (List ℕ))) (text : List ℕ) → import_of_records airport records ≡ Ok text
    → map command_of (commands_of text) ≡ map Some (accepted_of_records airport records)
import-commands airport early [] text e = absurd (cc e)
import-commands airport early (first ∷ []) text e = go (is_first_row first) e
  where
    go : (b : Bool) → (if b then after_first airport [] else Err FirstRow) ≡ Ok text → map command_of (commands_of text) ≡ map Some (accepted_of_records airport (first ∷ []))
    go true e = absurd (cc e)
    go false e = absurd (cc e)
import-commands airport early (first ∷ second ∷ rows) text e = go (is_first_row first) (start_of second) e
  where
    go : (b : Bool) (o : Option ℤ) → (if b then answers_for airport o rows else Err FirstRow) ≡ Ok text → map command_of (commands_of text) ≡ map Some (commands_for airport o rows)
    go true (Some start) e =
        let same : answers_from airport start 3 rows ≡ text = cc e in
        subst (λ t. map command_of (commands_of t) ≡ map Some (commands_from airport start rows)) same
        (ap (λ lines. map command_of (filter (λ line. not (is_skipped line)) lines)) (answers-lines airport start 3 rows) ∙ rows-commands airport early start 3 rows)
    go true None e = absurd (cc e)
    go false o e = absurd (cc e)
