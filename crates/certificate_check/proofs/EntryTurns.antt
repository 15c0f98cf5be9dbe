-- The searches of entries, one after the other: what is found of the first, and of the later ones after it.
use Rattle.std.proofs.Common.{◌≡◌, ℕ, List, [], ◌∷◌, Some, None, inl, inr, refl, sym, ap, subst}
use Rattle.std.specs.Prelude.{Option, Result, Ok, Err}
use Rattle.std.proofs.lemmas.List.Elements.{All-cons}
use Rattle.taxi_base.specs.State.{State}
use Rattle.replies.specs.declared.entries.Entry.{Entry}
use Rattle.replies.specs.declared.entries.Entry.TheVariants as entry
use Rattle.replies.specs.declared.block.Block.{Block}
use Rattle.replies.specs.declared.rule.Rule.{Rule}
use Rattle.replies.specs.declared.rule.Rule.TheVariants as rule
use Rattle.replies.specs.Sought.{Sought}
use Rattle.replies.specs.Turns.{Turn, told_of, after_told, after_turns}
use Rattle.replies.specs.Passes.{KeepsSought, KeepsTurn, IsFirstOf, BreaksFirst}
use Rattle.transcripts.specs.declared.refused.CheckRefused.{CheckRefused}
use Rattle.transcripts.specs.declared.refused.CheckRefused.TheVariants.{Wrong, Memory}
use Rattle.certificate_check.specs.Entries.{turns_by, AreChecked}

pub one-block : {a b : Block} → a ∷ [] ≡ b ∷ [] → a ≡ b
one-block e = cc e

-- a rule that turns break first is none of the form
pub form-unbroken : (turns : List Turn) → BreaksFirst turns rule.Reply → ⊥
form-unbroken [] breaks = breaks
form-unbroken (turn ∷ later) (inl first) = first.0 tt
form-unbroken (turn ∷ later) (inr breaks) = form-unbroken later breaks.1

module _ (seek : List ℕ → State → Option Sought) (state : State) (name : List ℕ) (e : Entry) (rest : List (List ℕ × Entry)) (s : Sought) (found : seek name state ≡ Some s)
    (block : Block) (is : told_of (name, e) ≡ block ∷ []) where
  abbrev turn : Turn
  turn = record { sought = s; told = block }

  abbrev turns_from : Block → List Turn
  turns_from b = record { sought = s; told = b } ∷ turns_by seek (after_told s b) rest

  -- the first entry is the first search
  pub turns-step : turns_by seek state ((name, e) ∷ rest) ≡ turns_from block
  turns-step = go e is where
    go : (e : Entry) → told_of (name, e) ≡ block ∷ [] → turns_by seek state ((name, e) ∷ rest) ≡ turns_from block
    go (entry.Route second steps labels) is =
        subst (λ (b : Block). turns_by seek state ((name, entry.Route second steps labels) ∷ rest) ≡ turns_from b) (one-block is) (rw found refl)
    go (entry.NoRoute labels) is = subst (λ (b : Block). turns_by seek state ((name, entry.NoRoute labels) ∷ rest) ≡ turns_from b) (one-block is) (rw found refl)
    go entry.Dropped is = absurd (cc is)

  -- one that keeps every rule, and what is found of the later ones
  pub kept-on : IsFirstOf (λ r. KeepsSought r s block) None → (r : Result Unit CheckRefused) → AreChecked (turns_by seek (after_told s block) rest) r
      → AreChecked (turns_by seek state ((name, e) ∷ rest)) r
  kept-on all r later = subst (λ turns. AreChecked turns r) (sym turns-step) (go r later) where
    go : (r : Result Unit CheckRefused) → AreChecked (turns_by seek (after_told s block) rest) r → AreChecked (turns_from block) r
    go (Ok done) later = λ r. All-cons (λ t. KeepsTurn t r) turn _ (all r) (later r)
    go (Err (Wrong broken)) later = inr (all, later)
    go (Err Memory) later = tt

  -- one that breaks a rule
  pub breaks-here : (broken : Rule) → IsFirstOf (λ r. KeepsSought r s block) (Some broken) → AreChecked (turns_by seek state ((name, e) ∷ rest)) (Err (Wrong broken))
  breaks-here broken first = subst (λ turns. AreChecked turns (Err (Wrong broken))) (sym turns-step) (inl first)

  -- the state afterwards
  pub after-on : after_turns (after_told s block) (turns_by seek (after_told s block) rest) ≡ after_turns state (turns_by seek state ((name, e) ∷ rest))
  after-on = sym (ap (after_turns state) turns-step)
