-- Of flights whose names differ each is found by its own.
use Rattle.std.proofs.Common.{◌≡◌, List, [], ◌∷◌, IsTrue, IsFalse, Some, refl}
use Rattle.std.specs.Prelude.{All, bytes_eq}
use Rattle.std.specs.Cmp.Lexicographic.{bytes_decides}
use Rattle.std.proofs.lemmas.List.Elements.{All-head, All-tail, All-cons, All-nil}
use Rattle.taxi_base.specs.State.{State}
use Rattle.taxi_base.proofs.NameLaws.{differ-turned}
use Rattle.replies.specs.declared.wish.Wish.{Wish}
use Rattle.replies.specs.Batches.{wish_named}
use Rattle.sequence_exchange.specs.Serving.{AreNew}
use Rattle.sequence_exchange.proofs.CostLaws.{AreOwn}

-- one more wish in front, of another name
own-behind : (wish : Wish) (wishes order : List Wish) → All (λ other. IsFalse (bytes_eq other.name wish.name)) order → AreOwn wishes order → AreOwn (wish ∷ wishes) order
own-behind wish wishes [] others own = All-nil _
own-behind wish wishes (other ∷ order) others own =
    let apart : IsFalse (bytes_eq wish.name other.name) = differ-turned other.name wish.name (All-head (λ (o : Wish). IsFalse (bytes_eq o.name wish.name)) other order others) in
    All-cons (λ (w : Wish). wish_named w.name (wish ∷ wishes) ≡ Some w) other order
    (rw apart (All-head (λ (w : Wish). wish_named w.name wishes ≡ Some w) other order own))
    (own-behind wish wishes order (All-tail (λ (o : Wish). IsFalse (bytes_eq o.name wish.name)) other order others) (All-tail (λ (w : Wish). wish_named w.name wishes ≡ Some w) other order own))

pub own-wishes : (state : State) (wishes : List Wish) → AreNew state wishes → AreOwn wishes wishes
own-wishes state [] new = All-nil _
own-wishes state (wish ∷ wishes) new =
    let itself : IsTrue (bytes_eq wish.name wish.name) = (bytes_decides wish.name wish.name).1 refl in
    All-cons (λ (w : Wish). wish_named w.name (wish ∷ wishes) ≡ Some w) wish wishes (rw itself refl) (own-behind wish wishes wishes new.1 (own-wishes state wishes new.2))
