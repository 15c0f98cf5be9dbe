-- The number of a command that words ask for is not 0.
use Rattle.std.proofs.Common.{◌==◌, ℕ, List, [], ◌∷◌, codes, Option, Some, None, inl, inr, arith}
use Rattle.std.specs.Prelude.{bytes_eq}
use Rattle.std.proofs.lemmas.Bool.{cases_Bool}
use Rattle.std.proofs.lemmas.Bool.Decides.{nat_tests}
use Rattle.taxi_text.specs.Fields.{number_of}
use Rattle.taxi_text.specs.Commands.{◌>>=◌}
use Rattle.program_words.specs.Verb.{FileNames}
use Rattle.tool_words.specs.declared.words.RunTool.TheVariants.{Plan}
use Rattle.tool_words.specs.Verb.{OfRun, Explain, names_of, asked_of_one, asked_of_two, asked_of_three, start_of, counted_from_one, command_number, asked_by, CountsFromOne}

number-counts : (names : FileNames) (number : ℕ) → CountsFromOne (counted_from_one number >>= (λ (number : ℕ). Some (Explain names number)))
number-counts names number =
    elim (cases_Bool (number == 0)) [
      | inl none ↦ rw none tt
      | inr some ↦ rw some (grind (arith, nat_tests, some))
    ]

word-counts : (names : FileNames) (word : List ℕ) → CountsFromOne (command_number word >>= (λ (number : ℕ). Some (Explain names number)))
word-counts names word = of (number_of word) where
  of : (o : Option ℕ) → CountsFromOne ((o >>= counted_from_one) >>= (λ (number : ℕ). Some (Explain names number)))
  of None = tt
  of (Some number) = number-counts names number

start-counts : (names : FileNames) (start : Option (List ℕ)) → CountsFromOne (start >>= (λ (start : List ℕ). Some (OfRun names (Plan (Some start)))))
start-counts names None = tt
start-counts names (Some start) = tt

one-counts : (verb airport : List ℕ) → CountsFromOne (asked_of_one verb airport)
one-counts verb airport =
    elim (cases_Bool (bytes_eq verb (codes "graph"))) [
      | inl is ↦ rw is tt
      | inr other ↦ elim (cases_Bool (bytes_eq verb (codes "lint"))) [
        | inl is ↦ rw (other, is) tt
        | inr else ↦ rw (other, else) tt
      ]
    ]

two-counts : (verb airport commands : List ℕ) → CountsFromOne (asked_of_two verb airport commands)
two-counts verb airport commands =
    elim (cases_Bool (bytes_eq verb (codes "plan"))) [
      | inl is ↦ rw is tt
      | inr a ↦ elim (cases_Bool (bytes_eq verb (codes "figures"))) [
        | inl is ↦ rw (a, is) tt
        | inr b ↦ elim (cases_Bool (bytes_eq verb (codes "checkpoint"))) [
          | inl is ↦ rw (a, b, is) tt
          | inr d ↦ elim (cases_Bool (bytes_eq verb (codes "json"))) [
            | inl is ↦ rw (a, b, d, is) tt
            | inr e ↦ rw (a, b, d, e) tt
          ]
        ]
      ]
    ]

three-counts : (verb airport commands third : List ℕ) → CountsFromOne (asked_of_three verb airport commands third)
three-counts verb airport commands third =
    elim (cases_Bool (bytes_eq verb (codes "plan"))) [
      | inl is ↦ rw is (start-counts (names_of airport commands) (start_of third))
      | inr other ↦ elim (cases_Bool (bytes_eq verb (codes "explain"))) [
        | inl is ↦ rw (other, is) (word-counts (names_of airport commands) third)
        | inr else ↦ rw (other, else) tt
      ]
    ]

pub counts_from-one : (words : List (List ℕ)) → CountsFromOne (asked_by words)
counts_from-one [] = tt
counts_from-one (verb ∷ []) = tt
counts_from-one (verb ∷ airport ∷ []) = one-counts verb airport
counts_from-one (verb ∷ airport ∷ commands ∷ []) = two-counts verb airport commands
counts_from-one (verb ∷ airport ∷ commands ∷ third ∷ []) = three-counts verb airport commands third
counts_from-one (verb ∷ airport ∷ commands ∷ third ∷ fourth ∷ more) = tt
