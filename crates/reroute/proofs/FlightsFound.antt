-- What holds of each flight holds of the one that is found by a name.
use Rattle.std.proofs.Common.{◌≡◌, ℕ, List, [], ◌∷◌, Some, subst, inl, inr, bytes_eq}
use Rattle.std.specs.Prelude.{All}
use Rattle.std.proofs.lemmas.Bool.{cases_Bool}
use Rattle.std.proofs.lemmas.Option.{none-some}
use Rattle.std.proofs.lemmas.List.Elements.{All-head, All-tail}
use Rattle.taxi_base.specs.declared.answers.Flight.{Flight}
use Rattle.taxi_base.specs.State.{flight_named}

pub found-one : (P : Flight → Type 0) (name : List ℕ) (flights : List Flight) (x : Flight) → All P flights → flight_named name flights ≡ Some x → P x
found-one P name [] x all found = absurd (none-some x found)
found-one P name (f ∷ fs) x all found =
    elim (cases_Bool (bytes_eq f.name name)) [
      | inl here ↦ let same : f ≡ x = cc (rw here at found) in subst P same (All-head P f fs all)
      | inr other ↦ found-one P name fs x (All-tail P f fs all) (rw other at found)
    ]
