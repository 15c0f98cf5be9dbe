-- One more entry of a batch is checked: what is found then of all of them.
use Rattle.std.proofs.Common.{◌≡◌, ◌∙◌, ℕ, List, [], ◌∷◌, length, Some, refl, arith}
use Rattle.std.specs.Prelude.{Result, Ok, Err}
use Rattle.taxi_base.specs.Airport.{Airport}
use Rattle.taxi_base.specs.State.{State}
use Rattle.taxi_base.proofs.NamedLists.{find-named}
use Rattle.replies.specs.declared.entries.Entry.{Entry}
use Rattle.replies.specs.declared.wish.Wish.{Wish}
use Rattle.replies.specs.declared.block.Block.{Block}
use Rattle.replies.specs.Batches.{wish_named}
use Rattle.replies.specs.Sought.{Sought, sought_wish}
use Rattle.replies.specs.Turns.{told_of, after_turns}
use Rattle.transcripts.specs.declared.refused.CheckRefused.{CheckRefused}
use Rattle.transcripts.specs.declared.refused.CheckRefused.TheVariants.{Wrong, Memory}
use Rattle.certificate_check.specs.Judged.{IsToldOf}
use Rattle.certificate_check.specs.Entries.{AreChecked}
use Rattle.certificate_check.specs.Batch.{CanBeChecked, turns_among, without_all}
use Rattle.certificate_check.proofs.AgainLaws.{some-there}
use Rattle.certificate_check.proofs.BatchTurns.{form-told, checked-on, checked-here, after-passed}
use Rattle.certificate_check.proofs.BatchSteps.{block-told, first-told, first-named, rest-can, first-others}

pub nothing-left : {X : Type 0} (xs : List X) → length xs ≡ 0 → xs ≡ []
nothing-left [] none = refl
nothing-left (x ∷ xs) none = absurd (omega (arith, none))

-- after a rule was broken, or memory ran out, the state stays
told-same : (s : Sought) (block : Block) (old new : State) (why : CheckRefused) → IsToldOf s block old (Err why) new → new ≡ old
told-same s block old new (Wrong broken) told = told.1
told-same s block old new Memory told = told

module _ (airport : Airport) (wishes : List Wish) (start now : State) (all rest : List (List ℕ × Entry)) (name : List ℕ) (e : Entry) (can : CanBeChecked wishes now ((name, e) ∷ rest)) where
  -- what is found of an entry, by its wish and its block
  abbrev pub IsFound : Result Unit CheckRefused → State → Type 0
  IsFound r new = (wish : Wish) (block : Block) → wish_named name wishes ≡ Some wish → told_of (name, e) ≡ block ∷ [] → IsToldOf (sought_wish airport now wish) block now r new

  abbrev pub SoFar : Type 0
  SoFar = (r : Result Unit CheckRefused) → AreChecked (turns_among airport now wishes ((name, e) ∷ rest)) r → AreChecked (turns_among airport start wishes all) r

  its_wish : (wish : Wish) × (wish_named name wishes ≡ Some wish)
  its_wish = some-there (wish_named name wishes) (first-named wishes now name e rest can)

  its_block : (block : Block) × (told_of (name, e) ≡ block ∷ [])
  its_block = block-told name e (first-told wishes now name e rest can)

  module _ (new : State) where
    -- it does not pass
    pub stops-checked : (why : CheckRefused) → SoFar → IsFound (Err why) new → AreChecked (turns_among airport start wishes all) (Err why)
    stops-checked why so_far found =
        so_far (Err why) (checked-here airport wishes now name e rest its_wish.0 its_wish.1 its_block.0 its_block.1 why new (found its_wish.0 its_block.0 its_wish.1 its_block.1)
        (form-told airport now name e its_wish.0 its_block.0 (find-named (λ (w : Wish). w.name) name wishes its_wish.0 its_wish.1) its_block.1))

    pub stops-same : (why : CheckRefused) → IsFound (Err why) new → new ≡ now
    stops-same why found = told-same (sought_wish airport now its_wish.0) its_block.0 now new why (found its_wish.0 its_block.0 its_wish.1 its_block.1)

    -- it passes
    module _ (found : IsFound (Ok tt) new) where
      goes : IsToldOf (sought_wish airport now its_wish.0) its_block.0 now (Ok tt) new
      goes = found its_wish.0 its_block.0 its_wish.1 its_block.1

      pub goes-checked : SoFar → (r : Result Unit CheckRefused) → AreChecked (turns_among airport new wishes rest) r → AreChecked (turns_among airport start wishes all) r
      goes-checked so_far r later = so_far r (checked-on airport wishes now name e rest its_wish.0 its_wish.1 its_block.0 its_block.1 new goes r later)

      pub goes-after : after_turns now (turns_among airport now wishes ((name, e) ∷ rest)) ≡ after_turns start (turns_among airport start wishes all)
          → after_turns new (turns_among airport new wishes rest) ≡ after_turns start (turns_among airport start wishes all)
      goes-after so_far = after-passed airport wishes now name e rest its_wish.0 its_wish.1 its_block.0 its_block.1 new goes ∙ so_far

      pub goes-can : CanBeChecked wishes new rest
      goes-can = rest-can wishes now name e rest can airport its_wish.0 its_wish.1 its_block.0 new goes.1

      pub goes-others : without_all wishes new ≡ without_all wishes now
      goes-others = first-others wishes now name e rest can airport its_wish.0 its_wish.1 its_block.0 new goes.1
