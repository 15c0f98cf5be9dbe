-- A ledger is as before after a flight was lifted and lowered, as after nothing.
use Rattle.std.proofs.Common.{◌≡◌, ◌∙◌, ◌<◌, length, None, sym, subst, arith}
use Rattle.taxi_base.specs.Airport.{Airport}
use Rattle.window_store.specs.Store.{Store}
use Rattle.window_store.specs.Kept.{KeepsNodes}
use Rattle.commitments.specs.Book.{Book, Fits}
use Rattle.commitments.proofs.Fitting.{same-windows, same-numbers}
use Rattle.reroute.specs.Anew.{IsAsBefore}

pub KeepsNodes-again : (a b d : Store) → KeepsNodes a b → KeepsNodes b d → KeepsNodes a d
KeepsNodes-again a b d first second = record {
  lists = second.lists ∙ first.lists;
  nodes = λ segment on. second.nodes segment (subst (λ n. segment.0 < n) (sym first.lists) on) ∙ first.nodes segment on;
  next = second.next ∙ first.next;
  horizon = second.horizon ∙ first.horizon;
}

module _ (airport : Airport) (old new : Book) (fits : Fits airport old) (unlifted : old.lifted ≡ None) where
  pub as-before : new.state ≡ old.state → new.lifted ≡ None → new.room ≡ old.room → new.party_room ≡ old.party_room → KeepsNodes old.store new.store → Fits airport new → IsAsBefore airport old new
  as-before state lowered room party_room kept fits_new =
      let lifted : new.lifted ≡ old.lifted = lowered ∙ sym unlifted in
      record {
        state = state;
        unlifted = lowered;
        windows = same-windows airport new old fits_new fits state lifted;
        room = room;
        party_room = party_room;
        nodes = kept;
        prepared = λ steps prepared. record {
          flight = omega (arith, prepared.flight, room);
          windows = λ segment on.
              let was : segment.0 < length old.store.lists = subst (λ n. segment.0 < n) kept.lists on in
              let known : segment.0 < length airport.segments = subst (λ n. segment.0 < n) fits.lists was in
              omega (arith, prepared.windows segment was, kept.nodes segment was, same-numbers airport new old fits_new fits state lifted segment known);
        };
        fits = fits_new;
      }
