-- A batch is answered in the same way at two such airports.
use Rattle.std.proofs.Common.{◌≡◌, ℕ, ℤ, List, [], ◌∷◌, Option, Some, refl, subst}
use Rattle.taxi_base.specs.declared.numbers.Class.{Class}
use Rattle.taxi_base.specs.declared.answers.Request.{Request}
use Rattle.taxi_base.specs.Airport.{node_named, class_named}
use Rattle.taxi_base.specs.Walks.{Conditions, conditions_among}
use Rattle.taxi_base.specs.State.{State, holds_in}
use Rattle.taxi_text.specs.declared.command.BatchRequest.{BatchRequest}
use Rattle.replies.specs.declared.block.Block.{Block}
use Rattle.replies.specs.declared.block.Block.TheVariants.{Route, NoRoute}
use Rattle.replies.specs.declared.entries.Entry.{Entry}
use Rattle.replies.specs.declared.entries.Entry.TheVariants as entry
use Rattle.replies.specs.declared.wish.Wish.{Wish}
use Rattle.replies.specs.Asked.{AnswersRequest}
use Rattle.replies.specs.Routed.{IsRoutedAs}
use Rattle.replies.specs.Batches.{wishes_of, IsServedAs, IsServed, exchanged, ComesTo, IsCheaper, IsAsCheap, EndsAt, IsSequenced, IsBatched}
use Rattle.spare_rules.proofs.Pairs.{Pair, one, other}
use Rattle.spare_rules.proofs.AnswersTo.{request-to}
use Rattle.spare_rules.proofs.HoldersTo.{among}

pub routed-to : (p : Pair) (state : State) (name : List ℕ) (class : Class) (asked : Request) (block : Block) (after : State) → IsRoutedAs (one p) state name class asked block after → IsRoutedAs (other p) state name class asked block after
routed-to p state name class asked block after is = record {
  found = is.found;
  answers = subst (λ (c : Conditions). AnswersRequest c asked is.found) (among p class (holds_in (one p) state))
      (request-to p (conditions_among (one p) class (holds_in (one p) state)) asked is.found is.answers);
  reply = is.reply;
}

served_as-to : (p : Pair) (state : State) (wish : Wish) (told : List ℕ × Entry) (after : State) → IsServedAs (one p) state wish told after → IsServedAs (other p) state wish told after
served_as-to p state wish (name, entry.Route second steps labels) after (named, is) = (named, routed-to p state wish.name wish.class wish.request (Route name second steps labels) after is)
served_as-to p state wish (name, entry.NoRoute labels) after (named, is) = (named, routed-to p state wish.name wish.class wish.request (NoRoute labels) after is)
served_as-to p state wish (name, entry.Dropped) after is = is

served-to : (p : Pair) (state : State) (wishes : List Wish) (entries : List (List ℕ × Entry)) (after : State) → IsServed (one p) state wishes entries after → IsServed (other p) state wishes entries after
served-to p state [] [] after is = is
served-to p state [] (told ∷ entries) after is = is
served-to p state (wish ∷ wishes) [] after is = is
served-to p state (wish ∷ wishes) (told ∷ entries) after (mid, first, rest) = (mid, served_as-to p state wish told mid first, served-to p mid wishes entries after rest)

module _ (p : Pair) (state : State) (wishes : List Wish) where
  comes_to-to : (order : List Wish) (total : ℤ) → ComesTo (one p) state wishes order total → ComesTo (other p) state wishes order total
  comes_to-to order total is = record { entries = is.entries; after = is.after; served = served-to p state order is.entries is.after is.served; total_is = is.total_is }

  cheaper-to : (order rival : List Wish) → IsCheaper (one p) state wishes order rival → IsCheaper (other p) state wishes order rival
  cheaper-to order rival is = record {
    less = is.less;
    more = is.more;
    comes_to_less = comes_to-to order is.less is.comes_to_less;
    comes_to_more = comes_to-to rival is.more is.comes_to_more;
    cheaper = is.cheaper;
  }

  as_cheap-to : (order rival : List Wish) → IsAsCheap (one p) state wishes order rival → IsAsCheap (other p) state wishes order rival
  as_cheap-to order rival is = record {
    total = is.total;
    others = is.others;
    comes_to = comes_to-to order is.total is.comes_to;
    other_comes_to = comes_to-to rival is.others is.other_comes_to;
    as_cheap = is.as_cheap;
  }

  ends_at-to : (order last : List Wish) → EndsAt (one p) state wishes order last → EndsAt (other p) state wishes order last
  ends_at-to order last (EndsAt.settled _ settled) = EndsAt.settled order (λ k low. as_cheap-to order (exchanged k order) (settled k low))
  ends_at-to order last (EndsAt.exchanging _ _ k low cheaper before rest) =
      EndsAt.exchanging order last k low (cheaper-to (exchanged k order) order cheaper) (λ j first. as_cheap-to order (exchanged j order) (before j first))
      (ends_at-to (exchanged k order) last rest)

  sequenced-to : (total : ℕ) (entries : List (List ℕ × Entry)) (after : State) → IsSequenced (one p) state wishes total entries after → IsSequenced (other p) state wishes total entries after
  sequenced-to total entries after is = record {
    order = is.order;
    ends_at = ends_at-to wishes is.order is.ends_at;
    served = served-to p state is.order entries after is.served;
    total_is = is.total_is;
  }

wishes-same : (p : Pair) (requests : List BatchRequest) → wishes_of (one p) requests ≡ wishes_of (other p) requests
unfolding node_named class_named
wishes-same p requests = refl

pub batched-to : (p : Pair) (state : State) (requests : List BatchRequest) (block : Block) (after : State) → IsBatched (one p) state requests block after → IsBatched (other p) state requests block after
batched-to p state requests block after is = record {
  wishes = is.wishes;
  known = subst (λ (o : Option (List Wish)). o ≡ Some is.wishes) (wishes-same p requests) is.known;
  total = is.total;
  entries = is.entries;
  sequenced = sequenced-to p state is.wishes is.total is.entries after is.sequenced;
  block_is = is.block_is;
}
