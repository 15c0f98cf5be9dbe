-- What the grammar promises of a command that was read.
use Rattle.std.proofs.Common.{ℕ, ◌==◌, Bool, cond, List, [], ◌∷◌, length, drop, IsTrue, Option, Some, None, codes, bytes_eq, inl, inr}
use Rattle.std.specs.Prelude.{IfSome, All}
use Rattle.std.proofs.lemmas.Bool.{cond_both, cases_Bool}
use Rattle.std.proofs.lemmas.List.Elements.{All-nil, All-cons}
use Rattle.taxi_text.specs.declared.command.BatchRequest.{BatchRequest}
use Rattle.taxi_text.specs.declared.command.Command.{Command}
use Rattle.taxi_text.specs.declared.command.Command.TheVariants.{Cancel, Reroute, Divert, Windows, Occupancy, Timetable, Work, WorkDone, Batch, Late}
use Rattle.taxi_text.specs.Words.{words_of}
use Rattle.taxi_text.specs.Fields.{name_of, is_number, number_of}
use Rattle.taxi_text.proofs.Numbers.{numerals, is_number-parts}
use Rattle.std.specs.Str.Parse.{digits_value}
use Rattle.std.proofs.lemmas.Str.Parse.{digits_value_short}
use Rattle.taxi_base.specs.Words.{is_name}
use Rattle.replies.specs.Printable.{IsShort, IsName}
use Rattle.replies.specs.Asked.{asked_in, IsAskedInGrammar, IsInGrammar}
use Rattle.taxi_text.specs.Commands.{◌>>=◌, first_as, the_end, asked_of, steps_of, is_step_count, route_of, filed_steps_of, file_of, up_to, names_of, is_choice_count, choice_of, asked_any_of, request_of, requests_of, is_batch_count, batch_of, late_of, windows_of, occupancy_of, timetable_of, work_of, work_done_of, unlisted_of, command_of_words, command_of}

module _ {A B : Type 0} (P : B → Type 0) (f : A → Option B) where
  bind-each : (o : Option A) → ((x : A) → IfSome (f x) P) → IfSome (o >>= f) P
  bind-each None each = tt
  bind-each (Some x) each = each x

  bind-where : (Q : A → Type 0) (o : Option A) → IfSome o Q → ((x : A) → Q x → IfSome (f x) P) → IfSome (o >>= f) P
  bind-where Q None known each = tt
  bind-where Q (Some x) known each = each x known

if_some : {A : Type 0} (P : A → Type 0) (test : Bool) (x : A) → (IsTrue test → P x) → IfSome (cond test (Some x) None) P
if_some P test x holds = cond_both test (Some x) None (λ o. IfSome o P) holds (λ _. tt)

first-name : (words : List (List ℕ)) → IfSome (first_as name_of words) IsName
first-name [] = tt
first-name (word ∷ words) = if_some IsName (is_name word) word (λ name. name)

bind-name : (f : List ℕ → Option Command) (words : List (List ℕ)) → ((name : List ℕ) → IsName name → IfSome (f name) IsInGrammar)
    → IfSome (first_as name_of words >>= f) IsInGrammar
bind-name f words each = bind-where IsInGrammar f IsName (first_as name_of words) (first-name words) each

filed_steps-count : (words : List (List ℕ)) → IfSome (filed_steps_of words) (λ steps. IsTrue (is_step_count (length steps)))
filed_steps-count words =
    bind-each (λ steps. IsTrue (is_step_count (length steps))) route_of (steps_of words)
    (λ steps. if_some (λ steps. IsTrue (is_step_count (length steps))) (is_step_count (length steps)) steps (λ h. h))

file-count : (words : List (List ℕ)) → IfSome (file_of words) IsInGrammar
file-count words =
    bind-name _ words (λ flight name.
    bind-each IsInGrammar _ (first_as name_of (drop 1 words)) (λ class.
    bind-each IsInGrammar _ (first_as number_of (drop 1 (drop 1 words))) (λ start.
    bind-where IsInGrammar _ (λ steps. IsTrue (is_step_count (length steps))) (filed_steps_of (drop 1 (drop 1 (drop 1 words)))) (filed_steps-count (drop 1 (drop 1 (drop 1 words)))) (λ steps known. (name, known)))))

first-number : (words : List (List ℕ)) → IfSome (first_as number_of words) IsShort
first-number [] = tt
first-number (word ∷ words) =
    if_some IsShort (is_number word) (digits_value 10 word) (λ is. let parts = is_number-parts word is in digits_value_short numerals word 7 parts.1 parts.0)

bind-number : (f : ℕ → Option Command) (words : List (List ℕ)) → ((n : ℕ) → IsShort n → IfSome (f n) IsInGrammar) → IfSome (first_as number_of words >>= f) IsInGrammar
bind-number f words each = bind-where IsInGrammar f IsShort (first_as number_of words) (first-number words) each

-- of what is asked for a new flight
asked-so : (words : List (List ℕ)) → IfSome (asked_of words) IsAskedInGrammar
asked-so words =
    bind-where (λ a. IsName a.flight × IsShort a.time × IsShort a.slack) _ IsName (first_as name_of words) (first-name words) (λ flight name.
    bind-each (λ a. IsName a.flight × IsShort a.time × IsShort a.slack) _ (first_as name_of (drop 1 words)) (λ class.
    bind-each (λ a. IsName a.flight × IsShort a.time × IsShort a.slack) _ (first_as name_of (drop 1 (drop 1 words))) (λ from.
    bind-each (λ a. IsName a.flight × IsShort a.time × IsShort a.slack) _ (first_as name_of (drop 1 (drop 1 (drop 1 words)))) (λ to.
    bind-where (λ a. IsName a.flight × IsShort a.time × IsShort a.slack) _ IsShort (first_as number_of (drop 1 (drop 1 (drop 1 (drop 1 words))))) (first-number (drop 1 (drop 1 (drop 1 (drop 1 words))))) (λ time short.
    bind-where (λ a. IsName a.flight × IsShort a.time × IsShort a.slack) _ IsShort (first_as number_of (drop 1 (drop 1 (drop 1 (drop 1 (drop 1 words)))))) (first-number (drop 1 (drop 1 (drop 1 (drop 1 (drop 1 words)))))) (λ slack few.
    if_some (λ a. IsName a.flight × IsShort a.time × IsShort a.slack) (length (drop 1 (drop 1 (drop 1 (drop 1 (drop 1 (drop 1 words)))))) == 0) _ (λ _. (name, short, few))))))))

-- of the requests of a batch
request-so : (verb : List ℕ) (words : List (List ℕ)) → IfSome (request_of verb words) (λ r. IsAskedInGrammar (asked_in r))
request-so verb words =
    elim (cases_Bool (bytes_eq verb (codes "arrival"))) [
      | inl e ↦ rw e (bind-where (λ r. IsAskedInGrammar (asked_in r)) _ IsAskedInGrammar (asked_of words) (asked-so words) (λ a so. so))
      | inr e ↦ rw e (
          elim (cases_Bool (bytes_eq verb (codes "departure"))) [
            | inl e ↦ rw e (bind-where (λ r. IsAskedInGrammar (asked_in r)) _ IsAskedInGrammar (asked_of words) (asked-so words) (λ a so. so))
            | inr e ↦ rw e tt
          ]
          )
    ]

abbrev AreInGrammar : List BatchRequest → Type 0
AreInGrammar requests = All (λ r. IsAskedInGrammar (asked_in r)) requests

requests-so : (words : List (List ℕ)) → IfSome (requests_of words) AreInGrammar
requests-so [] = All-nil (λ r. IsAskedInGrammar (asked_in r))
requests-so (verb ∷ flight ∷ class ∷ from ∷ to ∷ time ∷ slack ∷ words) =
    bind-where AreInGrammar _ (λ r. IsAskedInGrammar (asked_in r)) (request_of verb (flight ∷ class ∷ from ∷ to ∷ time ∷ slack ∷ [])) (request-so verb (flight ∷ class ∷ from ∷ to ∷ time ∷ slack ∷ []))
    (λ request so. bind-where AreInGrammar _ AreInGrammar (requests_of words) (requests-so words) (λ requests are. All-cons (λ r. IsAskedInGrammar (asked_in r)) request requests so are))
requests-so _ = tt

batch-count : (words : List (List ℕ)) → IfSome (batch_of words) IsInGrammar
batch-count words =
    bind-where IsInGrammar _ AreInGrammar (requests_of words) (requests-so words) (λ requests are. if_some IsInGrammar (is_batch_count (length requests)) (Batch requests) (λ count. (are, count)))

ended : (command : Command) (words : List (List ℕ)) → IsInGrammar command → IfSome (the_end command words) IsInGrammar
ended command words holds = if_some IsInGrammar (length words == 0) command (λ _. holds)

-- the forms of work parties, and none
work-count : (verb : List ℕ) (words : List (List ℕ))
    → IfSome (cond (bytes_eq verb (codes "work")) (work_of words) (cond (bytes_eq verb (codes "workdone")) (work_done_of words) None)) IsInGrammar
work-count verb words =
    elim (cases_Bool (bytes_eq verb (codes "work"))) [
      | inl e ↦ rw e (bind-name _ words (λ n name.
          bind-each IsInGrammar _ (first_as name_of (drop 1 words)) (λ s.
          bind-number _ (drop 1 (drop 1 words)) (λ a from.
          bind-number _ (drop 1 (drop 1 (drop 1 words))) (λ b until. ended (Work (record { name = n; segment = s; from = a; until = b })) (drop 1 (drop 1 (drop 1 (drop 1 words)))) (name, from, until))))))
      | inr e ↦ rw e (
          elim (cases_Bool (bytes_eq verb (codes "workdone"))) [
            | inl e ↦ rw e (bind-name _ words (λ n name. ended (WorkDone n) (drop 1 words) name))
            | inr e ↦ rw e tt
          ]
          )
    ]

-- the forms that report
reports-count : (verb : List ℕ) (words : List (List ℕ))
    → IfSome (cond (bytes_eq verb (codes "windows")) (windows_of words) (cond (bytes_eq verb (codes "occupancy")) (occupancy_of words)
    (cond (bytes_eq verb (codes "timetable")) (timetable_of words) (cond (bytes_eq verb (codes "work")) (work_of words) (cond (bytes_eq verb (codes "workdone")) (work_done_of words) None)))))
    IsInGrammar
reports-count verb words =
    elim (cases_Bool (bytes_eq verb (codes "windows"))) [
      | inl e ↦ rw e (bind-each IsInGrammar _ (first_as name_of words) (λ n. ended (Windows n) (drop 1 words) tt))
      | inr e ↦ rw e (
          elim (cases_Bool (bytes_eq verb (codes "occupancy"))) [
            | inl e ↦ rw e (bind-each IsInGrammar _ (first_as name_of words) (λ n. ended (Occupancy n) (drop 1 words) tt))
            | inr e ↦ rw e (
                elim (cases_Bool (bytes_eq verb (codes "timetable"))) [
                  | inl e ↦ rw e (ended Timetable words tt)
                  | inr e ↦ rw e (work-count verb words)
                ]
                )
          ]
          )
    ]

-- that of a late flight, and those behind it
late-count : (verb : List ℕ) (words : List (List ℕ))
    → IfSome (cond (bytes_eq verb (codes "late")) (late_of words) (cond (bytes_eq verb (codes "windows")) (windows_of words) (cond (bytes_eq verb (codes "occupancy")) (occupancy_of words)
    (cond (bytes_eq verb (codes "timetable")) (timetable_of words) (cond (bytes_eq verb (codes "work")) (work_of words) (cond (bytes_eq verb (codes "workdone")) (work_done_of words) None))))))
    IsInGrammar
late-count verb words =
    elim (cases_Bool (bytes_eq verb (codes "late"))) [
      | inl e ↦ rw e (bind-name _ words (λ n name. bind-number _ (drop 1 words) (λ t short. bind-number _ (drop 1 (drop 1 words)) (λ u few. ended (Late n t u) (drop 1 (drop 1 (drop 1 words))) (name, short, few)))))
      | inr e ↦ rw e (reports-count verb words)
    ]

-- of what is asked for a new flight with a choice of nodes
choice-count : (words : List (List ℕ)) → IfSome (choice_of words) (λ nodes. IsTrue (is_choice_count (length nodes)))
choice-count words =
    bind-each (λ nodes. IsTrue (is_choice_count (length nodes))) (up_to 16) (names_of words)
    (λ nodes. if_some (λ nodes. IsTrue (is_choice_count (length nodes))) (is_choice_count (length nodes)) nodes (λ h. h))

asked_any-so : (words : List (List ℕ)) → IfSome (asked_any_of words) (λ a. IsName a.flight × IsShort a.time × IsShort a.slack × IsTrue (is_choice_count (length a.nodes)))
asked_any-so words =
    bind-where (λ a. IsName a.flight × IsShort a.time × IsShort a.slack × IsTrue (is_choice_count (length a.nodes))) _ IsName (first_as name_of words) (first-name words) (λ flight name.
    bind-each (λ a. IsName a.flight × IsShort a.time × IsShort a.slack × IsTrue (is_choice_count (length a.nodes))) _ (first_as name_of (drop 1 words)) (λ class.
    bind-each (λ a. IsName a.flight × IsShort a.time × IsShort a.slack × IsTrue (is_choice_count (length a.nodes))) _ (first_as name_of (drop 1 (drop 1 words))) (λ from.
    bind-where (λ a. IsName a.flight × IsShort a.time × IsShort a.slack × IsTrue (is_choice_count (length a.nodes))) _ IsShort (first_as number_of (drop 1 (drop 1 (drop 1 words)))) (first-number (drop 1 (drop 1 (drop 1 words)))) (λ time short.
    bind-where (λ a. IsName a.flight × IsShort a.time × IsShort a.slack × IsTrue (is_choice_count (length a.nodes))) _ IsShort (first_as number_of (drop 1 (drop 1 (drop 1 (drop 1 words))))) (first-number (drop 1 (drop 1 (drop 1 (drop 1 words))))) (λ slack few.
    bind-where (λ a. IsName a.flight × IsShort a.time × IsShort a.slack × IsTrue (is_choice_count (length a.nodes))) _ (λ nodes. IsTrue (is_choice_count (length nodes)))
    (choice_of (drop 1 (drop 1 (drop 1 (drop 1 (drop 1 words)))))) (choice-count (drop 1 (drop 1 (drop 1 (drop 1 (drop 1 words)))))) (λ nodes count. (name, short, few, count)))))))

unlisted-count : (verb : List ℕ) (words : List (List ℕ)) → IfSome (unlisted_of verb words) IsInGrammar
unlisted-count verb words =
    elim (cases_Bool (bytes_eq verb (codes "arrival"))) [
      | inl e ↦ rw e (bind-where IsInGrammar _ (λ a. IsName a.flight × IsShort a.time × IsShort a.slack) (asked_of words) (asked-so words) (λ a so. so))
      | inr e ↦ rw e (
          elim (cases_Bool (bytes_eq verb (codes "departure"))) [
            | inl e ↦ rw e (bind-where IsInGrammar _ (λ a. IsName a.flight × IsShort a.time × IsShort a.slack) (asked_of words) (asked-so words) (λ a so. so))
            | inr e ↦ rw e (
                elim (cases_Bool (bytes_eq verb (codes "cancel"))) [
                  | inl e ↦ rw e (bind-name _ words (λ n name. ended (Cancel n) (drop 1 words) name))
                  | inr e ↦ rw e (
                      elim (cases_Bool (bytes_eq verb (codes "reroute"))) [
                        | inl e ↦ rw e (bind-name _ words (λ n name. bind-number _ (drop 1 words) (λ t short. ended (Reroute n t) (drop 1 (drop 1 words)) (name, short))))
                        | inr e ↦ rw e (
                            elim (cases_Bool (bytes_eq verb (codes "divert"))) [
                              | inl e ↦ rw e (bind-name _ words (λ n name. bind-number _ (drop 1 words) (λ t short.
                                  bind-each IsInGrammar _ (first_as name_of (drop 1 (drop 1 words))) (λ m. ended (Divert n t m) (drop 1 (drop 1 (drop 1 words))) (name, short)))))
                              | inr e ↦ rw e (late-count verb words)
                            ]
                            )
                      ]
                      )
                ]
                )
          ]
          )
    ]

-- What is read keeps what the grammar promises.
pub command_of-in_grammar : (line : List ℕ) → IfSome (command_of line) IsInGrammar
unfolding command_of
command_of-in_grammar line = of_words (words_of line) where
  of_words : (words : List (List ℕ)) → IfSome (command_of_words words) IsInGrammar
  of_words [] = tt
  of_words (verb ∷ words) = elim (cases_Bool (bytes_eq verb (codes "file"))) [
    | inl e ↦ rw e (file-count words)
    | inr e ↦ rw e (
        elim (cases_Bool (bytes_eq verb (codes "arrival-any"))) [
          | inl e ↦ rw e (bind-where IsInGrammar _ (λ a. IsName a.flight × IsShort a.time × IsShort a.slack × IsTrue (is_choice_count (length a.nodes))) (asked_any_of words) (asked_any-so words) (λ a so. so))
          | inr e ↦ rw e (
              elim (cases_Bool (bytes_eq verb (codes "departure-any"))) [
                | inl e ↦ rw e (bind-where IsInGrammar _ (λ a. IsName a.flight × IsShort a.time × IsShort a.slack × IsTrue (is_choice_count (length a.nodes))) (asked_any_of words) (asked_any-so words) (λ a so. so))
                | inr e ↦ rw e (
                    elim (cases_Bool (bytes_eq verb (codes "batch"))) [
                      | inl e ↦ rw e (batch-count words)
                      | inr e ↦ rw e (unlisted-count verb words)
                    ]
                    )
              ]
              )
        ]
        )
  ]
