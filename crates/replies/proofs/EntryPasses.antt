-- The searches of entries, by the first and the others: they keep the rules, and what they tell is best, where each does.
use Rattle.std.proofs.Common.{◌≡◌, ◌∙◌, ℕ, List, [], ◌∷◌, ◌++◌, map, Some, refl, sym, ap, subst}
use Rattle.std.specs.Prelude.{All, flat_map}
use Rattle.std.proofs.lemmas.List.Elements.{All-nil, All-cons, All-head, All-tail}
use Rattle.taxi_base.specs.Airport.{Airport}
use Rattle.taxi_base.specs.State.{State}
use Rattle.taxi_text.specs.declared.command.Command.{Command}
use Rattle.replies.specs.declared.block.Block.{Block}
use Rattle.replies.specs.declared.entries.Entry.{Entry}
use Rattle.replies.specs.declared.entries.Entry.TheVariants as entry
use Rattle.replies.specs.declared.rule.Rule.{Rule}
use Rattle.replies.specs.Printable.{IsTold}
use Rattle.replies.specs.Sought.{Sought}
use Rattle.replies.specs.Turns.{Turn, told_of, after_told, sought_for, after_turns}
use Rattle.replies.specs.Passes.{KeepsSought, KeepsTurn, IsBestTold}
use Rattle.replies.proofs.SoughtPasses.{PassesSought, sought-keeps}
use Rattle.replies.proofs.EntryTurns.{block_of, told-block, turns_from, turn_of, turns-cons}

module _ (airport : Airport) (before : State) (command : Command) where
  abbrev turns : State → List (List ℕ × Entry) → List Turn
  turns = turns_from airport before command

  -- each search keeps every rule, and the state after them is that afterwards
  pub record AreKept (state : State) (entries : List (List ℕ × Entry)) (after : State) : Type 0 where
    pub keeps : (r : Rule) → All (λ turn. KeepsTurn turn r) (turns state entries)
    pub after_it : after_turns state (turns state entries) ≡ after

  pub none-kept : (state after : State) → after ≡ state → AreKept state [] after
  none-kept state after same = record { keeps = λ r. All-nil (λ turn. KeepsTurn turn r); after_it = sym same }

  -- of a holder that is dropped none is told
  pub dropped-kept : (state : State) (name : List ℕ) (entries : List (List ℕ × Entry)) (after : State) → AreKept state entries after → AreKept state ((name, entry.Dropped) ∷ entries) after
  dropped-kept state name entries after kept = record { keeps = kept.keeps; after_it = kept.after_it }

  -- what is told of searches is all that the entries tell, and it is best
  pub record AreBest (state : State) (entries : List (List ℕ × Entry)) : Type 0 where
    pub all_told : map (λ turn. turn.told) (turns state entries) ≡ flat_map told_of entries
    pub best : All (λ turn. IsBestTold turn.sought turn.told) (turns state entries)

  pub none-best : (state : State) → AreBest state []
  none-best state = record { all_told = refl; best = All-nil (λ turn. IsBestTold turn.sought turn.told) }

  pub dropped-best : (state : State) (name : List ℕ) (entries : List (List ℕ × Entry)) → AreBest state entries → AreBest state ((name, entry.Dropped) ∷ entries)
  dropped-best state name entries best = record { all_told = best.all_told; best = best.best }

  module _ (state : State) (told : List ℕ × Entry) (entries : List (List ℕ × Entry)) (s : Sought) (is : IsTold told) (sought : sought_for airport before command told.0 state ≡ Some s) where
    abbrev mid : State
    mid = after_told s (block_of told)

    abbrev first : Turn
    first = turn_of airport before command s told

    cons : turns state (told ∷ entries) ≡ first ∷ turns mid entries
    cons = turns-cons airport before command state told entries s is sought

    pub cons-kept : (next after : State) → PassesSought s (block_of told) next → AreKept next entries after → AreKept state (told ∷ entries) after
    cons-kept next after passes rest =
        let later : AreKept mid entries after = subst (λ (m : State). AreKept m entries after) passes.after_it rest in
        record {
          keeps = λ r. subst (All (λ turn. KeepsTurn turn r)) (sym cons)
              (All-cons (λ turn. KeepsTurn turn r) first (turns mid entries) (sought-keeps s (block_of told) passes.form passes.walk passes.table r) (later.keeps r));
          after_it = ap (after_turns state) cons ∙ later.after_it;
        }

    pub cons-best : IsBestTold s (block_of told) → AreBest mid entries → AreBest state (told ∷ entries)
    cons-best here rest = record {
      all_told = ap (map (λ turn. turn.told)) cons ∙ ap (λ (bs : List Block). block_of told ∷ bs) rest.all_told ∙ ap (λ (bs : List Block). bs ++ flat_map told_of entries) (sym (told-block told is));
      best = subst (All (λ turn. IsBestTold turn.sought turn.told)) (sym cons) (All-cons (λ turn. IsBestTold turn.sought turn.told) first (turns mid entries) here rest.best);
    }

    -- the rules that all keep, the first keeps, and so do the others
    module _ (keeps : (r : Rule) → All (λ turn. KeepsTurn turn r) (turns state (told ∷ entries))) where
      all-keep : (r : Rule) → All (λ turn. KeepsTurn turn r) (first ∷ turns mid entries)
      all-keep r = subst (All (λ turn. KeepsTurn turn r)) cons (keeps r)

      pub first-keeps : (r : Rule) → KeepsSought r s (block_of told)
      first-keeps r = All-head (λ turn. KeepsTurn turn r) first (turns mid entries) (all-keep r)

      pub others-keep : (r : Rule) → All (λ turn. KeepsTurn turn r) (turns mid entries)
      others-keep r = All-tail (λ turn. KeepsTurn turn r) first (turns mid entries) (all-keep r)

    -- the state after all is that after the others
    pub cons-after : after_turns state (turns state (told ∷ entries)) ≡ after_turns mid (turns mid entries)
    cons-after = ap (after_turns state) cons
