-- A text as it grows by words, by lines and by holders.
use Rattle.std.proofs.Common.{◌≡◌, ℕ, ◌+◌, ◌<◌, List, [], ◌∷◌, ◌++◌, length, map, take, get_or, Some, refl, sym, ap, ◌∙◌, append_assoc, append-nil, codes, decimal}
use Rattle.std.specs.Prelude.{flat_map, slice_get}
use Rattle.std.specs.Borrow.{Bor}
use Rattle.std.proofs.lemmas.List.{take_more, flat_map_more}
use Rattle.std.proofs.lemmas.Option.{slice_get_within, get_or_from_slice_get}
use Rattle.std.proofs.lemmas.Grind.{flat_map-append}
use Rattle.taxi_base.specs.declared.rows.Step.{Step}
use Rattle.taxi_base.specs.declared.answers.Flight.{Flight}
use Rattle.taxi_base.specs.Airport.{Airport}
use Rattle.taxi_base.specs.Walks.{begin_of}
use Rattle.taxi_base.specs.State.{State}
use Rattle.airport_file.specs.Words.{class_word, word_of_arc}
use Rattle.replies.specs.Texts.{line_text, lines_text}
use Rattle.checkpoint_file.specs.Lines.{pair_words, file_words, flight_lines, work_words, checkpoint_text}
use Rattle.checkpoint_file.specs.Written.{step_text}

-- ---- one more

pub piece-more : {X : Type 0} (f : X → List ℕ) (xs : List X) (i : ℕ) (d : X) (before text after : List ℕ) → i < length xs
    → text ≡ before ++ flat_map f (take i xs) → after ≡ text ++ f (get_or xs i d) → after ≡ before ++ flat_map f (take (i + 1) xs)
piece-more f xs i d before text after low so_far next =
    next ∙ ap (λ t. t ++ f (get_or xs i d)) so_far ∙ flat_map_more f before (take i xs) (get_or xs i d)
    ∙ ap (λ l. before ++ flat_map f l) (sym (take_more xs i d low))

-- of what stands at a place
pub place-more : {X : Type 0} (f : X → List ℕ) (xs : List X) (i : ℕ) (x : X) (before text after : List ℕ) → slice_get xs i ≡ Some x
    → text ≡ before ++ flat_map f (take i xs) → after ≡ text ++ f x → after ≡ before ++ flat_map f (take (i + 1) xs)
place-more f xs i x before text after found so_far next =
    piece-more f xs i x before text after (slice_get_within xs i x found) so_far (next ∙ ap (λ y. text ++ f y) (sym (get_or_from_slice_get xs i x x found)))

-- ---- a line of words

-- words, each behind a blank
abbrev pub spaced : List (List ℕ) → List ℕ
spaced words = flat_map (λ word. 32 ∷ word) words

line-spaced : (first : List ℕ) (words : List (List ℕ)) → line_text (first ∷ words) ≡ first ++ (spaced words ++ 10 ∷ [])
line-spaced first [] = refl
line-spaced first (word ∷ words) = ap (λ t. first ++ (32 ∷ t)) (line-spaced word words ∙ sym (append_assoc word (spaced words) (10 ∷ [])))

abbrev lent_spaced : List (Bor (List ℕ)) → List ℕ
lent_spaced words = flat_map (λ word. 32 ∷ word.now) words

line-lent : (first : List ℕ) (words : List (Bor (List ℕ))) → line_text (first ∷ map (λ word. word.now) words) ≡ first ++ (lent_spaced words ++ 10 ∷ [])
line-lent first [] = refl
line-lent first (word ∷ words) = ap (λ t. first ++ (32 ∷ t)) (line-lent word.now words ∙ sym (append_assoc word.now (lent_spaced words) (10 ∷ [])))

pub line-written : (before one two after first : List ℕ) (words : List (Bor (List ℕ))) → one ≡ before ++ first → two ≡ one ++ flat_map (λ word. 32 ∷ word.now) words
    → after ≡ two ++ 10 ∷ [] → after ≡ before ++ line_text (first ∷ map (λ word. word.now) words)
line-written before one two after first words a b c =
    c ∙ ap (λ t. t ++ 10 ∷ []) (b ∙ ap (λ t. t ++ lent_spaced words) a)
    ∙ append_assoc (before ++ first) (lent_spaced words) (10 ∷ []) ∙ append_assoc before first (lent_spaced words ++ 10 ∷ [])
    ∙ ap (λ t. before ++ t) (sym (line-lent first words))

-- ---- the command that files a route

steps-spaced : (airport : Airport) (steps : List Step) → spaced (flat_map (pair_words airport) steps) ≡ flat_map (step_text airport) steps
steps-spaced airport [] = refl
steps-spaced airport (s ∷ steps) =
    let arc : List ℕ = word_of_arc airport s.arc in
    let leave : List ℕ = decimal s.leave in
    let rest : List ℕ = flat_map (step_text airport) steps in
    ap (λ t. 32 ∷ (arc ++ (32 ∷ (leave ++ t)))) (steps-spaced airport steps) ∙ ap (λ t. 32 ∷ t) (sym (append_assoc arc (32 ∷ leave) rest))

file-line : (airport : Airport) (flight : Flight)
    → line_text (file_words airport flight)
    ≡ codes "file" ++ (spaced (flight.name ∷ class_word airport flight.class ∷ decimal (begin_of flight.steps) ∷ []) ++ (flat_map (step_text airport) flight.steps ++ 10 ∷ []))
file-line airport flight =
    let words : List (List ℕ) = flight.name ∷ class_word airport flight.class ∷ decimal (begin_of flight.steps) ∷ [] in
    let pairs : List (List ℕ) = flat_map (pair_words airport) flight.steps in
    let steps : List ℕ = flat_map (step_text airport) flight.steps in
    let all : spaced (words ++ pairs) ≡ spaced words ++ steps =
    flat_map-append (λ (word : List ℕ). 32 ∷ word) words pairs ∙ ap (λ t. spaced words ++ t) (steps-spaced airport flight.steps) in
    line-spaced (codes "file") (words ++ pairs)
    ∙ ap (λ t. codes "file" ++ (t ++ 10 ∷ [])) all
    ∙ ap (λ t. codes "file" ++ t) (append_assoc (spaced words) steps (10 ∷ []))

pub file-written : (airport : Airport) (flight : Flight) (before one two three after file name class start : List ℕ) → file ≡ codes "file" → name ≡ flight.name
    → class ≡ class_word airport flight.class → start ≡ decimal (begin_of flight.steps) → one ≡ before ++ file → two ≡ one ++ spaced (name ∷ class ∷ start ∷ [])
    → three ≡ two ++ flat_map (step_text airport) flight.steps → after ≡ three ++ 10 ∷ [] → after ≡ before ++ line_text (file_words airport flight)
file-written airport flight before one two three after file name class start is_file is_name is_class is_start a b c d =
    let words : List ℕ = spaced (flight.name ∷ class_word airport flight.class ∷ decimal (begin_of flight.steps) ∷ []) in
    let steps : List ℕ = flat_map (step_text airport) flight.steps in
    let same : spaced (name ∷ class ∷ start ∷ []) ≡ words = rw (is_name, is_class, is_start) refl in
    d ∙ ap (λ t. t ++ 10 ∷ []) (c ∙ ap (λ t. t ++ steps) (b ∙ ap (λ t. t ++ spaced (name ∷ class ∷ start ∷ [])) (a ∙ ap (λ t. before ++ t) is_file) ∙ ap (λ t. (before ++ codes "file") ++ t) same))
    ∙ append_assoc ((before ++ codes "file") ++ words) steps (10 ∷ [])
    ∙ append_assoc (before ++ codes "file") words (steps ++ 10 ∷ [])
    ∙ append_assoc before (codes "file") (words ++ (steps ++ 10 ∷ []))
    ∙ ap (λ t. before ++ t) (sym (file-line airport flight))

-- ---- a holder, and all

pub flight-written : (before mid after : List ℕ) (wish : List (List (List ℕ))) (route : List (List ℕ)) → mid ≡ before ++ lines_text wish → after ≡ mid ++ line_text route
    → after ≡ before ++ lines_text (wish ++ route ∷ [])
flight-written before mid after wish route a b =
    b ∙ ap (λ t. t ++ line_text route) a ∙ append_assoc before (lines_text wish) (line_text route)
    ∙ ap (λ t. before ++ t) (sym (flat_map-append line_text wish (route ∷ []) ∙ ap (λ t. lines_text wish ++ t) (append-nil (line_text route))))

lines-each : {X : Type 0} (lines : X → List (List (List ℕ))) (xs : List X) → lines_text (flat_map lines xs) ≡ flat_map (λ x. lines_text (lines x)) xs
lines-each lines [] = refl
lines-each lines (x ∷ xs) = flat_map-append line_text (lines x) (flat_map lines xs) ∙ ap (λ t. lines_text (lines x) ++ t) (lines-each lines xs)

lines-one : {X : Type 0} (words : X → List (List ℕ)) (xs : List X) → lines_text (map words xs) ≡ flat_map (λ x. line_text (words x)) xs
lines-one words [] = refl
lines-one words (x ∷ xs) = ap (λ t. line_text (words x) ++ t) (lines-one words xs)

pub whole-text : (airport : Airport) (state : State) (start flights text : List ℕ) → start ≡ [] → flights ≡ start ++ flat_map (λ flight. lines_text (flight_lines airport flight)) state.flights
    → text ≡ flights ++ flat_map (λ party. line_text (work_words airport party)) state.parties → text ≡ checkpoint_text airport state
unfolding checkpoint_text
whole-text airport state start flights text empty a b =
    b ∙ ap (λ t. t ++ flat_map (λ party. line_text (work_words airport party)) state.parties) (a ∙ ap (λ t. t ++ flat_map (λ flight. lines_text (flight_lines airport flight)) state.flights) empty)
    ∙ sym (flat_map-append line_text (flat_map (flight_lines airport) state.flights) (map (work_words airport) state.parties)
    ∙ ap (λ t. t ++ lines_text (map (work_words airport) state.parties)) (lines-each (flight_lines airport) state.flights)
    ∙ ap (λ t. flat_map (λ flight. lines_text (flight_lines airport flight)) state.flights ++ t) (lines-one (work_words airport) state.parties))
