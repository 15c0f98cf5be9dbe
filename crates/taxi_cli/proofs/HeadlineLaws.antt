-- From runs to the headline.
use Rattle.std.proofs.Common.{◌≡◌, ◌⊎◌, inl, inr, ◌∷◌, ◌∙◌, [], ℕ, List, length, map, get_or, All, IsTrue, Option, Some, None, is_some, option_and_then, Ok, Err, refl, sym, ap, subst, arith, bytes_eq}
use Rattle.std.specs.Prelude.{⊤, MatchOption, IsPermutation, flat_map}
use Rattle.std.specs.Cmp.Lexicographic.{bytes_decides}
use Rattle.std.proofs.lemmas.Bool.{cases_Bool}
use Rattle.std.proofs.lemmas.Option.{none-some}
use Rattle.std.proofs.lemmas.List.Sorted.{IsPermutation-sym, All-permutation}
use Rattle.std.proofs.lemmas.List.Elements.{All-cons, All-nil, All-head, All-tail, All-weaker}
use Rattle.std.proofs.lemmas.List.{length-append}
use Rattle.taxi_base.specs.declared.answers.Request.{Request}
use Rattle.taxi_base.specs.declared.answers.Request.TheVariants as request
use Rattle.taxi_base.specs.declared.answers.Refusal.TheVariants as refusal
use Rattle.taxi_base.specs.declared.rows.Step.{Step}
use Rattle.taxi_base.specs.declared.rows.LabelRow.{LabelRow}
use Rattle.taxi_base.specs.Airport.{Airport, IsWellFormed}
use Rattle.taxi_base.specs.Again.{IsBestFor}
use Rattle.taxi_base.specs.State.{State, no_holder, IsSound}
use Rattle.taxi_base.proofs.StateLaws.{IsClashFree-feasible}
use Rattle.taxi_base.proofs.NamedLists as lists
use Rattle.taxi_text.specs.declared.command.BatchRequest.{BatchRequest}
use Rattle.taxi_text.specs.declared.command.Command.{Command}
use Rattle.taxi_text.specs.declared.command.Command.TheVariants as command
use Rattle.taxi_text.specs.Commands.{command_of}
use Rattle.taxi_text.specs.Lines.{commands_of}
use Rattle.taxi_io.specs.Counts.{Rose}
use Rattle.taxi_io.specs.Files.{Files}
use Rattle.taxi_io.specs.Written.{Grew, GrewInPart}
use Rattle.airport_file.proofs.AcceptedLaws.{accepted-well}
use Rattle.replies.specs.declared.block.Block.{Block}
use Rattle.replies.specs.declared.block.Block.TheVariants as block
use Rattle.replies.specs.declared.entries.Entry.{Entry}
use Rattle.replies.specs.declared.entries.Entry.TheVariants as entry
use Rattle.replies.specs.declared.wish.Wish.{Wish}
use Rattle.replies.specs.Printable.{IsPrintable, IsTold}
use Rattle.replies.specs.Asked.{asked_in}
use Rattle.replies.specs.Batches.{wishes_of, wish_named, names_of, TellsBatch}
use Rattle.replies.specs.Repairs.{TellsRepair}
use Rattle.replies.specs.CarriedOut.{second_of, IsCarriedOut}
use Rattle.replies.specs.Refusals.{first_refusal}
use Rattle.replies.specs.Replies.{IsAnswered, HaveNames}
use Rattle.replies.specs.Passes.{KeepsReply, IsAsAskedAlone, IsAsAsked, IsOfDueForm, IsFormOf, IsBestTold, TellsBest}
use Rattle.replies.specs.declared.rule.Rule.TheVariants as rule
use Rattle.replies.specs.Sought.{Sought, sought_of, sought_wish, IsWalkFor}
use Rattle.replies.specs.Turns.{Turn, told_of, told_in, after_told, turns_of}
use Rattle.replies.proofs.PassLaws.{reply-passes}
use Rattle.replies.proofs.BestLaws.{passed-best}
use Rattle.replies.proofs.BatchNames.{wishes-names}
use Rattle.replies.proofs.EntryTurns.{block_of, turns_from, turns-cons}
use Rattle.replies.proofs.BatchTurns.{wish-sought, batch-turns}
use Rattle.replies.proofs.TurnLaws.{all-one, one_turn}
use Rattle.program_files.specs.declared.status.Status.{Status}
use Rattle.program_files.specs.declared.status.Status.TheVariants as status
use Rattle.program_words.specs.Verb.{FileNames, Verb, Route}
use Rattle.transcripts.specs.Runs.{InTurn, IsRun, blocks_text, done_line, transcript}
use Rattle.transcript_check.specs.Checks.{IsPassedRun}
use Rattle.taxi_cli.proofs.DueLaws.{large-is}
use Rattle.program_files.specs.Inputs.{airport_limit, commands_limit, IsJudged, AreAccepted, IsRunTooLarge}
use Rattle.program_files.proofs.InputLaws.{one-judgement, not-longer}
use Rattle.taxi_cli.specs.Outcomes.{IsTranscript}
use Rattle.taxi_cli.specs.Endings.{Call, IsDueText, IsCutShort, Ends}
use Rattle.taxi_cli.specs.Headline.{IsBestWalk, AnswersSearch, AnswersCommand, AnswersAll, IsWholeAnswer, Headline}
use Rattle.taxi_cli.proofs.ServedLaws.{reply-entered, reply-no_dearer}
use Rattle.transcripts.proofs.RunLaws.{none-sound, run-over}

-- ---- one command

best-one : (r : Request) (IsOne : List Step → Type 0) (steps : List Step) → IsBestFor r IsOne steps → IsOne steps
best-one request.Filed IsOne steps best = absurd best
best-one (request.Arrival from to asked hold) IsOne steps best = best.one
best-one (request.Departure from to asked queue) IsOne steps best = best.one

best-walk : (r : Request) (IsOne : List Step → Type 0) (second : ℕ) (steps : List Step) → IsBestFor r IsOne steps → second_of r steps ≡ second → IsBestWalk r IsOne second steps
best-walk request.Filed IsOne second steps best told = absurd best
best-walk (request.Arrival from to asked hold) IsOne second steps best told = (best, told)
best-walk (request.Departure from to asked queue) IsOne second steps best told = (best, told)

-- a route, told by any words, is best
abbrev IsBestRoute : Sought → Block → Type 0
IsBestRoute s (block.Route name second steps labels) = IsBestWalk s.request (IsWalkFor s) second steps
IsBestRoute s _ = ⊤

route-answers : (s : Sought) (name : List ℕ) (second : ℕ) (steps : List Step) (labels : List LabelRow) → IsBestTold s (block.Route name second steps labels)
    → AnswersSearch (record { sought = s; told = block.Route name second steps labels })
route-answers s name second steps labels best = record {
  best = λ other time walk rows is. subst (λ (b : Block). IsBestRoute s b) is (best-walk s.request (IsWalkFor s) second steps best.0 best.1);
  no_route = (λ none. absurd none, λ none. absurd (none steps (best-one s.request (IsWalkFor s) steps best.0)));
}

none-answers : (s : Sought) (labels : List LabelRow) → IsBestTold s (block.NoRoute labels) → AnswersSearch (record { sought = s; told = block.NoRoute labels })
none-answers s labels best = record {
  best = λ other time walk rows is. absurd (cc is);
  no_route = (λ told. best, λ none. tt);
}

-- what is told of a search: a route, or that there is none
abbrev IsOfSearch : Block → Type 0
IsOfSearch (block.Route name second steps labels) = ⊤
IsOfSearch (block.NoRoute labels) = ⊤
IsOfSearch _ = ⊥

entries-of_searches : (entries : List (List ℕ × Entry)) → All IsOfSearch (flat_map told_of entries)
entries-of_searches [] = All-nil IsOfSearch
entries-of_searches ((name, entry.Route second steps labels) ∷ entries) = All-cons IsOfSearch (block.Route name second steps labels) (flat_map told_of entries) tt (entries-of_searches entries)
entries-of_searches ((name, entry.NoRoute labels) ∷ entries) = All-cons IsOfSearch (block.NoRoute labels) (flat_map told_of entries) tt (entries-of_searches entries)
entries-of_searches ((name, entry.Dropped) ∷ entries) = entries-of_searches entries

told-of_searches : (b : Block) → All IsOfSearch (told_in b)
told-of_searches (block.Route name second steps labels) = all-one IsOfSearch (block.Route name second steps labels) tt
told-of_searches (block.NoRoute labels) = all-one IsOfSearch (block.NoRoute labels) tt
told-of_searches (block.Batch total entries) = entries-of_searches entries
told-of_searches (block.Late name entries) = entries-of_searches entries
told-of_searches (block.Refused why) = All-nil IsOfSearch
told-of_searches (block.Filed name start end) = All-nil IsOfSearch
told-of_searches (block.Cancelled name) = All-nil IsOfSearch
told-of_searches (block.Windows segment windows) = All-nil IsOfSearch
told-of_searches (block.Occupancy segment held) = All-nil IsOfSearch
told-of_searches (block.Timetable flights) = All-nil IsOfSearch

of_mapped : {X Y : Type 0} (P : Y → Type 0) (f : X → Y) (xs : List X) → All P (map f xs) → All (λ x. P (f x)) xs
of_mapped P f [] all = All-nil (λ x. P (f x))
of_mapped P f (x ∷ xs) all = All-cons (λ x. P (f x)) x xs (All-head P (f x) (map f xs) all) (of_mapped P f xs (All-tail P (f x) (map f xs) all))

-- what is told of the searches is best, so each is answered
turn-answers : (s : Sought) (told : Block) → IsOfSearch told → IsBestTold s told → AnswersSearch (record { sought = s; told = told })
turn-answers s (block.Route name second steps labels) is best = route-answers s name second steps labels best
turn-answers s (block.NoRoute labels) is best = none-answers s labels best
turn-answers s (block.Refused why) is best = absurd is
turn-answers s (block.Filed name start end) is best = absurd is
turn-answers s (block.Cancelled name) is best = absurd is
turn-answers s (block.Windows segment windows) is best = absurd is
turn-answers s (block.Occupancy segment held) is best = absurd is
turn-answers s (block.Timetable flights) is best = absurd is
turn-answers s (block.Batch total entries) is best = absurd is
turn-answers s (block.Late name entries) is best = absurd is

searches-answered : (airport : Airport) (state : State) (line : List ℕ) (b : Block) → TellsBest airport state line b → All AnswersSearch (turns_of airport state line b)
searches-answered airport state line b tells =
    let turns : List Turn = turns_of airport state line b in
    let of_search : All (λ (t : Turn). IsOfSearch t.told) turns =
    of_mapped IsOfSearch (λ (t : Turn). t.told) turns (subst (All IsOfSearch) (sym tells.all_told) (told-of_searches b)) in
    λ k d low. turn-answers (get_or turns k d).sought (get_or turns k d).told (of_search k d low) (tells.best k d low)

-- ---- what is asked

-- where a walk is sought, a block of due form tells of it
alone-form : (airport : Airport) (state : State) (command : Command) (s : Sought) (b : Block) → sought_of airport state command ≡ Some s → IsAsAskedAlone airport state command b → IsFormOf s b
alone-form airport state command s b is asked =
    subst (λ (o : Option Sought). MatchOption o ((after : State) × IsCarriedOut airport state command b after) (λ t. IsFormOf t b)) is asked

asked-form : (airport : Airport) (state : State) (command : Command) (s : Sought) (b : Block) → sought_of airport state command ≡ Some s → IsAsAsked airport state command b → IsFormOf s b
asked-form airport state (command.Batch requests) s b is asked = absurd (none-some s is)
asked-form airport state (command.Late name time until) s b is asked = absurd (none-some s is)
asked-form airport state (command.File filed) s b is asked = alone-form airport state (command.File filed) s b is asked
asked-form airport state (command.Arrival words) s b is asked = alone-form airport state (command.Arrival words) s b is asked
asked-form airport state (command.Departure words) s b is asked = alone-form airport state (command.Departure words) s b is asked
asked-form airport state (command.ArrivalAny words) s b is asked = alone-form airport state (command.ArrivalAny words) s b is asked
asked-form airport state (command.DepartureAny words) s b is asked = alone-form airport state (command.DepartureAny words) s b is asked
asked-form airport state (command.Cancel name) s b is asked = alone-form airport state (command.Cancel name) s b is asked
asked-form airport state (command.Reroute name time) s b is asked = alone-form airport state (command.Reroute name time) s b is asked
asked-form airport state (command.Divert name time node) s b is asked = alone-form airport state (command.Divert name time node) s b is asked
asked-form airport state (command.Windows segment) s b is asked = alone-form airport state (command.Windows segment) s b is asked
asked-form airport state (command.Occupancy segment) s b is asked = alone-form airport state (command.Occupancy segment) s b is asked
asked-form airport state command.Timetable s b is asked = alone-form airport state command.Timetable s b is asked
asked-form airport state (command.Work shut) s b is asked = alone-form airport state (command.Work shut) s b is asked
asked-form airport state (command.WorkDone name) s b is asked = alone-form airport state (command.WorkDone name) s b is asked

due-asked : (airport : Airport) (state : State) (line : List ℕ) (command : Command) (b : Block) → command_of line ≡ Some command → first_refusal airport state command ≡ None
    → IsOfDueForm airport state line b → IsAsAsked airport state command b
due-asked airport state line command b read none form = rw none at (rw read at form)

-- ---- the searches of a batch

-- each name of the wishes finds one of them
names-found : (wishes : List Wish) → All (λ n. IsTrue (is_some (wish_named n wishes))) (names_of wishes)
names-found [] = All-nil _
names-found (wish ∷ wishes) =
    let itself : IsTrue (bytes_eq wish.name wish.name) = (bytes_decides wish.name wish.name).1 refl in
    All-cons (λ n. IsTrue (is_some (wish_named n (wish ∷ wishes)))) wish.name (names_of wishes) (rw itself refl)
    (All-weaker (λ n. IsTrue (is_some (wish_named n wishes))) (λ n. IsTrue (is_some (wish_named n (wish ∷ wishes))))
    (λ n there. elim (cases_Bool (bytes_eq wish.name n)) [ inl here ↦ rw here refl | inr other ↦ rw other there ]) (names_of wishes) (names-found wishes))

module _ (airport : Airport) (before : State) (requests : List BatchRequest) (wishes : List Wish) (known : wishes_of airport requests ≡ Some wishes) where
  -- one for each entry, for the flight of its name
  searches-names : (state : State) (entries : List (List ℕ × Entry)) → All IsTold entries → All (λ (told : List ℕ × Entry). IsTrue (is_some (wish_named told.0 wishes))) entries
      → map (λ turn. turn.sought.name) (turns_from airport before (command.Batch requests) state entries) ≡ map (λ told. told.0) entries
  searches-names state [] are found = refl
  searches-names state (told ∷ entries) are found =
      go (λ s. searches-names s entries (All-tail IsTold told entries are) (All-tail (λ (t : List ℕ × Entry). IsTrue (is_some (wish_named t.0 wishes))) told entries found)) (wish_named told.0 wishes) refl
      (All-head (λ (t : List ℕ × Entry). IsTrue (is_some (wish_named t.0 wishes))) told entries found)
    where
      go : ((s : State) → map (λ turn. turn.sought.name) (turns_from airport before (command.Batch requests) s entries) ≡ map (λ (t : List ℕ × Entry). t.0) entries)
          → (o : Option Wish) → wish_named told.0 wishes ≡ o → IsTrue (is_some o)
          → map (λ turn. turn.sought.name) (turns_from airport before (command.Batch requests) state (told ∷ entries)) ≡ map (λ (t : List ℕ × Entry). t.0) (told ∷ entries)
      go later None named there = absurd (cc there)
      go later (Some wish) named there =
          let first : wish.name ≡ told.0 = lists.find-named (λ (w : Wish). w.name) told.0 wishes wish named in
          let s : Sought = sought_wish airport state wish in
          let seeks = wish-sought airport before requests wishes known state told.0 wish named in
          let rest = later (after_told s (block_of told)) in
          ap (map (λ (turn : Turn). turn.sought.name)) (turns-cons airport before (command.Batch requests) state told entries s (All-head IsTold told entries are) seeks) ∙ (λ i. first i ∷ rest i)

batch-searches : (airport : Airport) (state : State) (line : List ℕ) (requests : List BatchRequest) (b : Block) → command_of line ≡ Some (command.Batch requests) → TellsBatch airport requests b
    → IsPermutation (map (λ turn. turn.sought.name) (turns_of airport state line b)) (map (λ request. (asked_in request).flight) requests)
batch-searches airport state line requests (block.Batch total entries) read tells =
    let wishes : List Wish = tells.0 in
    let back = IsPermutation-sym (map (λ told. told.0) entries) (names_of wishes) tells.2 in
    let found = All-permutation (λ n. IsTrue (is_some (wish_named n wishes))) (names_of wishes) (map (λ told. told.0) entries) back (names-found wishes) in
    let names : map (λ turn. turn.sought.name) (turns_of airport state line (block.Batch total entries)) ≡ map (λ (told : List ℕ × Entry). told.0) entries =
    ap (map (λ (turn : Turn). turn.sought.name)) (batch-turns airport state line requests total entries read)
    ∙ searches-names airport state requests wishes tells.1 state entries tells.3 (of_mapped (λ n. IsTrue (is_some (wish_named n wishes))) (λ (told : List ℕ × Entry). told.0) entries found) in
    subst (λ (ns : List (List ℕ)). IsPermutation ns (map (λ (request : BatchRequest). (asked_in request).flight) requests)) (sym names)
    (subst (IsPermutation (map (λ (told : List ℕ × Entry). told.0) entries)) (wishes-names airport requests wishes tells.1) tells.2)
batch-searches airport state line requests (block.Route name second steps labels) read tells = absurd tells
batch-searches airport state line requests (block.NoRoute labels) read tells = absurd tells
batch-searches airport state line requests (block.Refused why) read tells = absurd tells
batch-searches airport state line requests (block.Filed name start end) read tells = absurd tells
batch-searches airport state line requests (block.Cancelled name) read tells = absurd tells
batch-searches airport state line requests (block.Windows segment windows) read tells = absurd tells
batch-searches airport state line requests (block.Occupancy segment held) read tells = absurd tells
batch-searches airport state line requests (block.Timetable flights) read tells = absurd tells
batch-searches airport state line requests (block.Late name entries) read tells = absurd tells

-- ---- one command in its turn

answers-command : (airport : Airport) (state : State) (line : List ℕ) (b : Block) (after : State) → IsWellFormed airport → IsSound airport state
    → IsAnswered airport state line b after → AnswersCommand airport state line b after
answers-command airport state line b after well sound answered =
    let passed = reply-passes airport state line b after well sound answered.reply in
    let best = passed-best airport state well sound line b after passed in
    record {
      answers = answered.reply;
      searches = searches-answered airport state line b best;
      all_told = best.all_told;
      searched = λ command read none s is memory. searched command read none s is memory (passed.keeps rule.Reply);
      batched = λ requests read none memory. (
        batched requests read none memory (passed.keeps rule.Reply),
        reply-no_dearer airport state line b after well answered.reply requests read none memory,
      );
      repaired = λ name time until read none memory. repaired name time until read none memory (passed.keeps rule.Reply);
      entered = λ name time until read. reply-entered airport state line b after sound answered.reply name time until read;
      clash_free = answered.clash_free;
      passes = passed;
    }
  where
    searched : (command : Command) → command_of line ≡ Some command → first_refusal airport state command ≡ None → (s : Sought) → sought_of airport state command ≡ Some s
        → (b ≡ block.Refused refusal.Memory → ⊥) → KeepsReply airport state line b → turns_of airport state line b ≡ record { sought = s; told = b } ∷ []
    searched command read none s is memory (inl want) = absurd (memory want.1)
    searched command read none s is memory (inr form) =
        one_turn airport state line s (ap (option_and_then (sought_of airport state)) read ∙ is) b (asked-form airport state command s b is (due-asked airport state line command b read none form))

    batched : (requests : List BatchRequest) → command_of line ≡ Some (command.Batch requests) → first_refusal airport state (command.Batch requests) ≡ None → (b ≡ block.Refused refusal.Memory → ⊥)
        → KeepsReply airport state line b → IsPermutation (map (λ turn. turn.sought.name) (turns_of airport state line b)) (map (λ request. (asked_in request).flight) requests)
    batched requests read none memory (inl want) = absurd (memory want.1)
    batched requests read none memory (inr form) = batch-searches airport state line requests b read (due-asked airport state line (command.Batch requests) b read none form)

    repaired : (name : List ℕ) (time until : ℕ) → command_of line ≡ Some (command.Late name time until) → first_refusal airport state (command.Late name time until) ≡ None
        → (b ≡ block.Refused refusal.Memory → ⊥) → KeepsReply airport state line b → TellsRepair airport state name time until b
    repaired name time until read none memory (inl want) = absurd (memory want.1)
    repaired name time until read none memory (inr form) = due-asked airport state line (command.Late name time until) b read none form

-- ---- a run

run-answers : (airport : Airport) (before after : State) (lines : List (List ℕ)) (blocks : List Block) → IsWellFormed airport → IsSound airport before
    → IsRun airport before lines blocks after → InTurn AnswersCommand airport before lines blocks after
run-answers airport before after [] [] well sound run = run
run-answers airport before after [] (b ∷ blocks) well sound run = absurd run
run-answers airport before after (line ∷ lines) [] well sound run = absurd run
run-answers airport before after (line ∷ lines) (b ∷ blocks) well sound run =
    (run.0, answers-command airport before line b run.0 well sound run.1, run-answers airport run.0 after lines blocks well run.1.sound run.2)

run-passed : (airport : Airport) (before after : State) (lines : List (List ℕ)) (blocks : List Block) → IsWellFormed airport → IsSound airport before
    → IsRun airport before lines blocks after → IsPassedRun airport before lines blocks after
run-passed airport before after [] [] well sound run = run
run-passed airport before after [] (b ∷ blocks) well sound run = absurd run
run-passed airport before after (line ∷ lines) [] well sound run = absurd run
run-passed airport before after (line ∷ lines) (b ∷ blocks) well sound run =
    (run.0, reply-passes airport before line b run.0 well sound run.1.reply, run-passed airport run.0 after lines blocks well run.1.sound run.2)

run-printable : (airport : Airport) (before after : State) (lines : List (List ℕ)) (blocks : List Block) → IsWellFormed airport → HaveNames before
    → IsRun airport before lines blocks after → All (IsPrintable airport) blocks
run-printable airport before after [] [] well names run = All-nil (IsPrintable airport)
run-printable airport before after [] (b ∷ blocks) well names run = absurd run
run-printable airport before after (line ∷ lines) [] well names run = absurd run
run-printable airport before after (line ∷ lines) (b ∷ blocks) well names run =
    All-cons (IsPrintable airport) b blocks (run.1.printable well names) (run-printable airport run.0 after lines blocks well (run.1.named well names) run.2)

no_holder-names : HaveNames no_holder
no_holder-names = (All-nil _, All-nil _)

answers-all : (airport : Airport) (after : State) (commands : List (List ℕ)) (blocks : List Block) (text : List ℕ) → IsWellFormed airport
    → IsRun airport no_holder commands blocks after → text ≡ transcript airport blocks → AnswersAll airport commands text
answers-all airport after commands blocks text well run whole =
    let sound = none-sound airport in
    record {
      blocks = blocks;
      after = after;
      in_turn = run-answers airport no_holder after commands blocks well sound run;
      clash_free_at_first = IsClashFree-feasible airport no_holder sound.feasible;
      whole = whole;
      accepted = record {
        after = after;
        passed = run-passed airport no_holder after commands blocks well sound run;
        printable = run-printable airport no_holder after commands blocks well no_holder-names run;
        whole = whole;
      };
    }

whole-answer : (told : Option Files) (names : FileNames) (text : List ℕ) → IsTranscript told names text → IsWholeAnswer told names text
whole-answer told names text t = record {
  airport = t.airport;
  commands = t.commands;
  accepted = t.accepted;
  answers = answers-all t.airport t.after (commands_of t.commands) t.blocks text (accepted-well t.accepted.accepted.bytes t.airport t.accepted.accepted.judged) t.run t.whole;
}

-- ---- the call

not-large : (files : Files) (names : FileNames) (airport : Airport) (commands : List ℕ) → AreAccepted (Some files) names airport commands → IsRunTooLarge (Some files) names → ⊥
not-large files names airport commands accepted (inl longer) = not-longer files names.airport accepted.accepted.bytes airport_limit accepted.accepted.file accepted.accepted.within longer
not-large files names airport commands accepted (inr (other, judged, longer)) = not-longer files names.commands commands commands_limit accepted.file accepted.within longer

-- the text that is due where the files are told and accepted is a transcript
due-transcript : (call : Call) (names : FileNames) (files : Files) (airport : Airport) (commands : List ℕ) → call.files ≡ Some files
    → AreAccepted (Some files) names airport commands → (Rose call.reads.0 call.reads.1 → ⊥)
    → (s : Status) (text : List ℕ) → IsDueText call (Some (Route names)) s text → (s ≡ status.Done) × IsTranscript call.files names text
due-transcript call names files airport commands told accepted no_rise status.Done text due = (refl, due)
due-transcript call names files airport commands told accepted no_rise status.Usage text due = absurd due
due-transcript call names files airport commands told accepted no_rise status.AirportRefused text due =
    let judged : IsJudged (Some files) names.airport (Err due.0) = subst (λ t. IsJudged t names.airport (Err due.0)) told due.1 in
    let same = one-judgement files names.airport (Ok airport) (Err due.0) accepted.accepted judged in
    absurd (cc)
due-transcript call names files airport commands told accepted no_rise status.ReadFault text due = absurd (no_rise due.0)
due-transcript call names files airport commands told accepted no_rise status.WriteFault text due = absurd due
due-transcript call names files airport commands told accepted no_rise status.Memory text due = absurd due
due-transcript call names files airport commands told accepted no_rise status.TooLarge text due =
    absurd (not-large files names airport commands accepted (subst (λ t. IsRunTooLarge t names) told (large-is call.files (Route names) text due)))
due-transcript call names files airport commands told accepted no_rise status.Wrong text due = absurd due
due-transcript call names files airport commands told accepted no_rise status.ScheduleRefused text due = absurd due

cut-answer : (call : Call) (names : FileNames) (files : Files) (airport : Airport) (commands : List ℕ) → call.files ≡ Some files
    → AreAccepted (Some files) names airport commands → (Rose call.reads.0 call.reads.1 → ⊥) → IsCutShort call (Some (Route names))
    → (text : List ℕ) × IsWholeAnswer call.files names text × GrewInPart call.taken.0 call.taken.1 text
cut-answer call names files airport commands told accepted no_rise cut =
    (cut.1, whole-answer call.files names cut.1 (due-transcript call names files airport commands told accepted no_rise cut.0 cut.1 cut.2).1, cut.3)

-- nothing is a front of a transcript
nothing-answer : (call : Call) (names : FileNames) (airport : Airport) (commands : List ℕ) → AreAccepted call.files names airport commands → Grew call.taken.0 call.taken.1 []
    → (text : List ℕ) × IsWholeAnswer call.files names text × GrewInPart call.taken.0 call.taken.1 text
nothing-answer call names airport commands accepted grew =
    let well = accepted-well accepted.accepted.bytes airport accepted.accepted.judged in
    let over = run-over airport no_holder (commands_of commands) (none-sound airport) in
    let text : List ℕ = transcript airport over.0 in
    let long = length-append (blocks_text airport over.0) (done_line (length over.0)) in (
      text,
      record { airport = airport; commands = commands; accepted = accepted; answers = answers-all airport over.1 (commands_of commands) over.0 text well over.2 refl },
      ([], text, refl, omega (arith, long), grew),
    )

done-answer : (call : Call) (names : FileNames) (ended : Status) → Ends call (Some (Route names)) ended → ended ≡ status.Done
    → (text : List ℕ) × IsWholeAnswer call.files names text × Grew call.taken.0 call.taken.1 text
done-answer call names ended ends is =
    let whole = subst (Ends call (Some (Route names))) is ends in
    (whole.0, whole-answer call.files names whole.0 whole.1, whole.2)

told-ends : (call : Call) (names : FileNames) (files : Files) (airport : Airport) (commands : List ℕ) → call.files ≡ Some files
    → AreAccepted (Some files) names airport commands → AreAccepted call.files names airport commands → (Rose call.reads.0 call.reads.1 → ⊥) → (ended : Status) → Ends call (Some (Route names)) ended
    → (ended ≡ status.Done) ⊎ (((ended ≡ status.WriteFault) ⊎ (ended ≡ status.Memory)) × ((text : List ℕ) × IsWholeAnswer call.files names text × GrewInPart call.taken.0 call.taken.1 text))
told-ends call names files airport commands told accepted as_told no_rise status.Done ends = inl refl
told-ends call names files airport commands told accepted as_told no_rise status.WriteFault ends =
    inr (inl refl, cut-answer call names files airport commands told accepted no_rise ends.1)
told-ends call names files airport commands told accepted as_told no_rise status.Memory (inl nothing) =
    inr (inr refl, nothing-answer call names airport commands as_told nothing)
told-ends call names files airport commands told accepted as_told no_rise status.Memory (inr cut) =
    inr (inr refl, cut-answer call names files airport commands told accepted no_rise cut)
told-ends call names files airport commands told accepted as_told no_rise status.Usage ends = absurd ends.1
told-ends call names files airport commands told accepted as_told no_rise status.AirportRefused ends =
    inl (due-transcript call names files airport commands told accepted no_rise status.AirportRefused ends.0 ends.1).0
told-ends call names files airport commands told accepted as_told no_rise status.ReadFault ends =
    inl (due-transcript call names files airport commands told accepted no_rise status.ReadFault ends.0 ends.1).0
told-ends call names files airport commands told accepted as_told no_rise status.TooLarge ends =
    inl (due-transcript call names files airport commands told accepted no_rise status.TooLarge ends.0 ends.1).0
told-ends call names files airport commands told accepted as_told no_rise status.Wrong ends = absurd ends.1
told-ends call names files airport commands told accepted as_told no_rise status.ScheduleRefused ends = absurd ends.1

pub headline-is : (call : Call) (names : FileNames) (ended : Status) → Ends call (Some (Route names)) ended → Headline call names ended
headline-is call names ended ends = record {
  done = done-answer call names ended ends;
  ends = λ files told airport commands accepted no_rise.
      told-ends call names files airport commands told (subst (λ t. AreAccepted t names airport commands) told accepted) accepted no_rise ended ends;
}

-- the same for words that ask for a run
pub headline-asked : (call : Call) (asked : Option Verb) (names : FileNames) (ended : Status) → Ends call asked ended → asked ≡ Some (Route names) → Headline call names ended
headline-asked call asked names ended ends is = headline-is call names ended (subst (λ (a : Option Verb). Ends call a ended) is ends)
