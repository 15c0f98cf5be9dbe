-- What the commands of a checkpoint are read as: the route of each flight, and the span of each work party.
use Rattle.std.proofs.Common.{◌≡◌, ◌∙◌, ◌<◌, ◌≤◌, ◌==◌, ◌%◌, ℕ, Bool, true, List, [], ◌∷◌, length, map, refl, ap, arith, codes, decimal, Some}
use Rattle.std.specs.Prelude.{All, flat_map, nat_le, nat_lt}
use Rattle.std.proofs.lemmas.Bool.{lt-ltb, le-leb, and_from}
use Rattle.std.proofs.lemmas.List.{length-map}
use Rattle.std.proofs.lemmas.List.Elements.{All-head, All-tail}
use Rattle.taxi_base.specs.declared.rows.Step.{Step}
use Rattle.taxi_base.specs.declared.answers.Flight.{Flight}
use Rattle.taxi_base.specs.declared.answers.Party.{Party}
use Rattle.taxi_base.specs.Words.{is_name}
use Rattle.taxi_base.specs.Airport.{Airport, IsWellFormed, segment_of}
use Rattle.taxi_base.specs.Walks.{AreJoined, begin_of}
use Rattle.taxi_base.proofs.AirportLaws.{arc_exists-segment}
use Rattle.taxi_text.specs.declared.command.FiledStep.{FiledStep}
use Rattle.taxi_text.specs.declared.command.Filed.{Filed}
use Rattle.taxi_text.specs.declared.command.Shut.{Shut}
use Rattle.taxi_text.specs.declared.command.Command.TheVariants.{File, Work}
use Rattle.taxi_text.specs.Fields.{number_of, arc_word_of}
use Rattle.taxi_text.specs.Commands.{step_of, steps_of, is_step_count, command_of_words, command_of}
use Rattle.taxi_text.proofs.Numbers.{number-again}
use Rattle.taxi_text.proofs.ArcWords.{arc_word-again}
use Rattle.airport_file.specs.Words.{class_word, segment_word, word_of_arc}
use Rattle.airport_file.proofs.NamedPlaces.{word-found}
use Rattle.replies.specs.Printable.{HasArc, HasClass, HasSegment, IsName, IsShort}
use Rattle.replies.specs.Asked.{filed_steps}
use Rattle.block_reader.proofs.Places.{segment-name, arc-read}
use Rattle.checkpoint_file.specs.Lines.{pair_words}
use Rattle.checkpoint_file.proofs.PlainWords.{words-again}
use Rattle.checkpoint_file.proofs.CommandsAgain.{file_line, work_line, file-plain, work-plain}

-- ---- what is read

abbrev pub filed_step : Airport → Step → FiledStep
filed_step airport step = record { segment = segment_word airport (segment_of step.arc); forward = step.arc.0 % 2 == 0; leave = step.leave }

abbrev pub filed_of : Airport → Flight → Filed
filed_of airport flight =
    record { flight = flight.name; class = class_word airport flight.class; start = begin_of flight.steps; steps = map (filed_step airport) flight.steps }

abbrev pub shut_of : Airport → Party → Shut
shut_of airport party = record { name = party.name; segment = segment_word airport party.segment; from = party.from; until = party.until }

-- ---- words

step-read : (arc out segment : List ℕ) (forward : Bool) (leave : ℕ) → arc_word_of arc ≡ Some (segment, forward) → number_of out ≡ Some leave
    → step_of arc out ≡ Some (record { segment = segment; forward = forward; leave = leave })
step-read arc out segment forward leave a b = rw (a, b) refl

steps-more : (arc out : List ℕ) (pairs : List (List ℕ)) (step : FiledStep) (steps : List FiledStep) → step_of arc out ≡ Some step → steps_of pairs ≡ Some steps
    → steps_of (arc ∷ out ∷ pairs) ≡ Some (step ∷ steps)
steps-more arc out pairs step steps a b = rw (a, b) refl

file-read : (flight class start : List ℕ) (pairs : List (List ℕ)) (begin : ℕ) (steps : List FiledStep) → is_name flight ≡ true → is_name class ≡ true → number_of start ≡ Some begin
    → steps_of pairs ≡ Some steps → is_step_count (length steps) ≡ true
    → command_of_words (codes "file" ∷ flight ∷ class ∷ start ∷ pairs) ≡ Some (File (record { flight = flight; class = class; start = begin; steps = steps }))
file-read flight class start pairs begin steps a b c d e = rw (a, b, c, d, e) refl

work-read : (name segment from until : List ℕ) (begin end : ℕ) → is_name name ≡ true → is_name segment ≡ true → number_of from ≡ Some begin → number_of until ≡ Some end
    → command_of_words (codes "work" ∷ name ∷ segment ∷ from ∷ until ∷ []) ≡ Some (Work (record { name = name; segment = segment; from = begin; until = end }))
work-read name segment from until begin end a b c d = rw (a, b, c, d) refl

-- ---- a flight

-- a step that a command can tell
pub record IsTellable (airport : Airport) (step : Step) : Type 0 where
  pub arc : HasArc airport step.arc
  pub leave : IsShort step.leave

module _ (airport : Airport) (well : IsWellFormed airport) where
  pairs-read : (steps : List Step) → All (IsTellable airport) steps → steps_of (flat_map (pair_words airport) steps) ≡ Some (map (filed_step airport) steps)
  pairs-read [] told = refl
  pairs-read (s ∷ steps) told =
      let one = All-head (IsTellable airport) s steps told in
      let name = segment-name airport well (segment_of s.arc) (arc_exists-segment airport s.arc one.arc) in
      steps-more (word_of_arc airport s.arc) (decimal s.leave) (flat_map (pair_words airport) steps) (filed_step airport s) (map (filed_step airport) steps)
      (step-read (word_of_arc airport s.arc) (decimal s.leave) (segment_word airport (segment_of s.arc)) (s.arc.0 % 2 == 0) s.leave
      (arc_word-again (segment_word airport (segment_of s.arc)) (s.arc.0 % 2 == 0) name) (number-again s.leave one.leave))
      (pairs-read steps (All-tail (IsTellable airport) s steps told))

  step-count : (steps : List Step) → 0 < length steps → length steps ≤ 256 → is_step_count (length (map (filed_step airport) steps)) ≡ true
  step-count steps some few =
      let long : length (map (filed_step airport) steps) ≡ length steps = length-map steps (filed_step airport) in
      rw long (and_from (nat_lt 0 (length steps)) (nat_le (length steps) 256) (lt-ltb 0 (length steps) some) (le-leb (length steps) 256 few))

  -- the line that files its route is read so
  pub file-again : (flight : Flight) → IsName flight.name → HasClass airport flight.class → IsShort (begin_of flight.steps) → All (IsTellable airport) flight.steps
      → 0 < length flight.steps → length flight.steps ≤ 256 → command_of (file_line airport flight) ≡ Some (File (filed_of airport flight))
  unfolding command_of
  file-again flight name class start told some few =
      let pairs : List (List ℕ) = flat_map (pair_words airport) flight.steps in
      ap command_of_words (words-again (codes "file") (flight.name ∷ class_word airport flight.class ∷ decimal (begin_of flight.steps) ∷ pairs) (file-plain airport well flight name))
      ∙ file-read flight.name (class_word airport flight.class) (decimal (begin_of flight.steps)) pairs (begin_of flight.steps) (map (filed_step airport) flight.steps)
      name (word-found (λ c. c.name) airport.classes flight.class.0 32 well.classes class).valid (number-again (begin_of flight.steps) start)
      (pairs-read flight.steps told) (step-count flight.steps some few)

  -- ---- its steps

  -- one more step in front
  filed-more : (enter : ℕ) (s : Step) (later : List Step) → enter ≡ s.enter → HasArc airport s.arc → filed_steps airport s.leave (map (filed_step airport) later) ≡ Some later
      → filed_steps airport enter (map (filed_step airport) (s ∷ later)) ≡ Some (s ∷ later)
  filed-more enter s later is has after = rw (arc-read airport well s.arc has, after, is) refl

  steps-again : (enter : ℕ) (s : Step) (steps : List Step) → enter ≡ s.enter → AreJoined (s ∷ steps) → All (IsTellable airport) (s ∷ steps)
      → filed_steps airport enter (map (filed_step airport) (s ∷ steps)) ≡ Some (s ∷ steps)
  steps-again enter s [] is joined told = filed-more enter s [] is (All-head (IsTellable airport) s [] told).arc refl
  steps-again enter s (t ∷ steps) is joined told =
      filed-more enter s (t ∷ steps) is (All-head (IsTellable airport) s (t ∷ steps) told).arc
      (steps-again s.leave t steps joined.0 joined.1 (All-tail (IsTellable airport) s (t ∷ steps) told))

  -- the pairs of a route are its steps
  pub route-again : (steps : List Step) → 0 < length steps → AreJoined steps → All (IsTellable airport) steps
      → filed_steps airport (begin_of steps) (map (filed_step airport) steps) ≡ Some steps
  route-again [] some joined told = absurd (omega (arith, some))
  route-again (s ∷ steps) some joined told = steps-again s.enter s steps refl joined told

  -- ---- a work party

  pub work-again : (party : Party) → IsName party.name → HasSegment airport party.segment → IsShort party.from → IsShort party.until
      → command_of (work_line airport party) ≡ Some (Work (shut_of airport party))
  unfolding command_of
  work-again party name segment from until =
      ap command_of_words (words-again (codes "work") (party.name ∷ segment_word airport party.segment ∷ decimal party.from ∷ decimal party.until ∷ []) (work-plain airport well party name))
      ∙ work-read party.name (segment_word airport party.segment) (decimal party.from) (decimal party.until) party.from party.until
      name (segment-name airport well party.segment segment) (number-again party.from from) (number-again party.until until)
