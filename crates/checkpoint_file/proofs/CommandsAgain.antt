-- Which lines of a checkpoint hold commands: those that file a route that isn't too long, and those that shut a segment.
use Rattle.std.proofs.Common.{◌≡◌, ◌∙◌, ℕ, Bool, true, false, List, [], ◌∷◌, ◌++◌, length, map, refl, ap, ap₂}
use Rattle.std.specs.Prelude.{All, not, flat_map, if◌then◌else◌}
use Rattle.std.specs.List.{join_with_byte}
use Rattle.std.proofs.lemmas.List.{map-append}
use Rattle.std.proofs.lemmas.List.Elements.{All-nil, All-cons, All-append, All-head, All-tail, filter-append}
use Rattle.taxi_base.specs.declared.rows.Step.{Step}
use Rattle.taxi_base.specs.declared.answers.Request.{Request}
use Rattle.taxi_base.specs.declared.answers.Request.TheVariants as request
use Rattle.taxi_base.specs.declared.answers.Flight.{Flight}
use Rattle.taxi_base.specs.declared.answers.Party.{Party}
use Rattle.taxi_base.specs.Airport.{Airport, IsWellFormed}
use Rattle.taxi_base.specs.Walks.{begin_of}
use Rattle.taxi_base.specs.State.{State}
use Rattle.taxi_text.specs.Lines.{is_skipped, commands_of}
use Rattle.replies.specs.Printable.{IsName}
use Rattle.replies.specs.Replies.{HaveNames}
use Rattle.transcripts.proofs.CommandsIn.{commands_in}
use Rattle.checkpoint_file.specs.Lines.{wish_lines, is_too_long, pair_words, file_words, too_long_words, route_words, flight_lines, work_words, checkpoint_text}
use Rattle.checkpoint_file.specs.Restored.{fileable}
use Rattle.checkpoint_file.proofs.PlainWords.{ArePlain, name-plain, number-plain, class-plain, node-plain, segment-plain, arc-plain, lines-plain}

abbrev joined : List (List ℕ) → List ℕ
joined words = join_with_byte 32 words

-- the line that files a flight's route, and the one that shuts a party's segment
abbrev pub file_line : Airport → Flight → List ℕ
file_line airport flight = join_with_byte 32 (file_words airport flight)

abbrev pub work_line : Airport → Party → List ℕ
work_line airport party = join_with_byte 32 (work_words airport party)

-- ---- all words are plain

module _ (airport : Airport) (well : IsWellFormed airport) where
  pairs-plain : (steps : List Step) → ArePlain (flat_map (pair_words airport) steps)
  pairs-plain [] = tt
  pairs-plain (s ∷ steps) = (arc-plain airport well s.arc, (number-plain s.leave, pairs-plain steps))

  pub file-plain : (flight : Flight) → IsName flight.name → ArePlain (file_words airport flight)
  file-plain flight name = (
    record { feed = refl; return = refl; blank = refl },
    (name-plain flight.name name, (class-plain airport well flight.class, (number-plain (begin_of flight.steps), pairs-plain flight.steps))),
  )

  pub work-plain : (party : Party) → IsName party.name → ArePlain (work_words airport party)
  work-plain party name = (
    record { feed = refl; return = refl; blank = refl },
    (name-plain party.name name, (segment-plain airport well party.segment, (number-plain party.from, (number-plain party.until, tt)))),
  )

  route-plain : (flight : Flight) → IsName flight.name → ArePlain (route_words airport flight)
  route-plain flight name = go (is_too_long flight) where
    go : (long : Bool) → ArePlain (if long then too_long_words flight else file_words airport flight)
    go true = (
      record { feed = refl; return = refl; blank = refl },
      (record { feed = refl; return = refl; blank = refl }, (name-plain flight.name name, (number-plain (length flight.steps), tt))),
    )
    go false = file-plain flight name

  wish-plain : (flight : Flight) → IsName flight.name → (asked : Request) → All ArePlain (wish_lines airport flight asked)
  wish-plain flight name request.Filed = All-nil ArePlain
  wish-plain flight name (request.Arrival from to time hold) =
      All-cons ArePlain _ [] (
        record { feed = refl; return = refl; blank = refl },
        (
          record { feed = refl; return = refl; blank = refl },
          (name-plain flight.name name, (class-plain airport well flight.class, (node-plain airport well from, (node-plain airport well to, (number-plain time, (number-plain hold, tt)))))),
        ),
      ) (All-nil ArePlain)
  wish-plain flight name (request.Departure from to time queue) =
      All-cons ArePlain _ [] (
        record { feed = refl; return = refl; blank = refl },
        (
          record { feed = refl; return = refl; blank = refl },
          (name-plain flight.name name, (class-plain airport well flight.class, (node-plain airport well from, (node-plain airport well to, (number-plain time, (number-plain queue, tt)))))),
        ),
      ) (All-nil ArePlain)

  flights-plain : (flights : List Flight) → All (λ f. IsName f.name) flights → All ArePlain (flat_map (flight_lines airport) flights)
  flights-plain [] names = All-nil ArePlain
  flights-plain (f ∷ flights) names =
      let name = All-head (λ (f : Flight). IsName f.name) f flights names in
      All-append ArePlain (flight_lines airport f) (flat_map (flight_lines airport) flights)
      (All-append ArePlain (wish_lines airport f f.request) (route_words airport f ∷ []) (wish-plain f name f.request)
      (All-cons ArePlain (route_words airport f) [] (route-plain f name) (All-nil ArePlain)))
      (flights-plain flights (All-tail (λ (f : Flight). IsName f.name) f flights names))

  parties-plain : (parties : List Party) → All (λ p. IsName p.name) parties → All ArePlain (map (work_words airport) parties)
  parties-plain [] names = All-nil ArePlain
  parties-plain (p ∷ parties) names =
      All-cons ArePlain (work_words airport p) (map (work_words airport) parties) (work-plain p (All-head (λ (p : Party). IsName p.name) p parties names))
      (parties-plain parties (All-tail (λ (p : Party). IsName p.name) p parties names))

-- ---- which lines are skipped

module _ (airport : Airport) where
  wish-skipped : (flight : Flight) (asked : Request) → commands_in (map joined (wish_lines airport flight asked)) ≡ []
  wish-skipped flight request.Filed = refl
  wish-skipped flight (request.Arrival from to time hold) = refl
  wish-skipped flight (request.Departure from to time queue) = refl

  -- of a flight there is the command that files it, or none
  abbrev commands_for : Bool → Flight → List (List ℕ)
  commands_for long flight = if long then [] else file_line airport flight ∷ []

  flight-commands : (flight : Flight) → commands_in (map joined (flight_lines airport flight)) ≡ commands_for (is_too_long flight) flight
  flight-commands flight =
      ap commands_in (map-append joined (wish_lines airport flight flight.request) (route_words airport flight ∷ []))
      ∙ filter-append (λ line. not (is_skipped line)) (map joined (wish_lines airport flight flight.request)) (joined (route_words airport flight) ∷ [])
      ∙ ap (λ (ls : List (List ℕ)). ls ++ commands_in (joined (route_words airport flight) ∷ [])) (wish-skipped flight flight.request)
      ∙ go (is_too_long flight)
    where
      go : (long : Bool) → commands_in (joined (if long then too_long_words flight else file_words airport flight) ∷ []) ≡ commands_for long flight
      go true = refl
      go false = refl

  flights-commands : (flights : List Flight) → commands_in (map joined (flat_map (flight_lines airport) flights)) ≡ map (file_line airport) (fileable flights)
  flights-commands [] = refl
  flights-commands (f ∷ flights) =
      ap commands_in (map-append joined (flight_lines airport f) (flat_map (flight_lines airport) flights))
      ∙ filter-append (λ line. not (is_skipped line)) (map joined (flight_lines airport f)) (map joined (flat_map (flight_lines airport) flights))
      ∙ ap₂ (λ (xs ys : List (List ℕ)). xs ++ ys) (flight-commands f) (flights-commands flights)
      ∙ go (is_too_long f) refl
    where
      go : (long : Bool) → is_too_long f ≡ long → commands_for long f ++ map (file_line airport) (fileable flights) ≡ map (file_line airport) (fileable (f ∷ flights))
      go true e = rw e refl
      go false e = rw e refl

  parties-commands : (parties : List Party) → commands_in (map joined (map (work_words airport) parties)) ≡ map (work_line airport) parties
  parties-commands [] = refl
  parties-commands (p ∷ parties) = ap (λ (ls : List (List ℕ)). work_line airport p ∷ ls) (parties-commands parties)

-- the commands of a checkpoint
pub commands-again : (airport : Airport) → IsWellFormed airport → (state : State) → HaveNames state
    → commands_of (checkpoint_text airport state) ≡ map (file_line airport) (fileable state.flights) ++ map (work_line airport) state.parties
unfolding checkpoint_text
commands-again airport well state names =
    let flights : List (List (List ℕ)) = flat_map (flight_lines airport) state.flights in
    let parties : List (List (List ℕ)) = map (work_words airport) state.parties in
    ap commands_in (lines-plain (flights ++ parties) (All-append ArePlain flights parties (flights-plain airport well state.flights names.0) (parties-plain airport well state.parties names.1)))
    ∙ ap commands_in (map-append joined flights parties)
    ∙ filter-append (λ line. not (is_skipped line)) (map joined flights) (map joined parties)
    ∙ ap₂ (λ (xs ys : List (List ℕ)). xs ++ ys) (flights-commands airport state.flights) (parties-commands airport state.parties)
