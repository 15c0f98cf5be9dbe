-- The requests of words, when some of them were read.
use Rattle.std.proofs.Common.{◌≡◌, ◌≤◌, ◌<◌, ◌++◌, ◌∷◌, ◌∙◌, [], ℕ, List, sym, ap, refl, length, length-append, take, drop, Option, Some, None, false, arith}
use Rattle.std.specs.Prelude.{Err, if◌then◌else◌}
use Rattle.taxi_text.specs.declared.command.BatchRequest.{BatchRequest}
use Rattle.taxi_text.specs.declared.command.Command.{Command}
use Rattle.taxi_text.specs.declared.command.Command.TheVariants.{Batch}
use Rattle.taxi_text.specs.declared.command.CommandRefused.{CommandRefused}
use Rattle.taxi_text.specs.declared.command.CommandRefused.TheVariants.{BadLine, Memory}
use Rattle.taxi_text.specs.Commands.{◌>>=◌, asked_of, request_of, requests_of, up_to, is_batch_count}
use Rattle.taxi_text.specs.Reading.{IsReading}
use Rattle.taxi_text.proofs.Gathering.{going_on, onto}

-- fewer than six words ask for nothing
no-request : (verb : List ℕ) (words : List (List ℕ)) → asked_of words ≡ None → request_of verb words ≡ None
no-request verb words e = grind arith

cut-short : (verb : List ℕ) (words : List (List ℕ)) (rest : BatchRequest → Option (List BatchRequest)) → asked_of words ≡ None → None ≡ request_of verb words >>= rest
cut-short verb words rest e = ap (λ o. o >>= rest) (sym (no-request verb words e))

-- the first word and the next six are a request
group : (verb : List ℕ) (words : List (List ℕ))
    → requests_of (verb ∷ words) ≡ request_of verb (take 6 words) >>= (λ request. requests_of (drop 6 words) >>= (λ requests. Some (request ∷ requests)))
group verb [] = cut-short verb [] _ (grind arith)
group verb (a ∷ []) = cut-short verb (a ∷ []) _ (grind arith)
group verb (a ∷ b ∷ []) = cut-short verb (a ∷ b ∷ []) _ (grind arith)
group verb (a ∷ b ∷ c ∷ []) = cut-short verb (a ∷ b ∷ c ∷ []) _ (grind arith)
group verb (a ∷ b ∷ c ∷ d ∷ []) = cut-short verb (a ∷ b ∷ c ∷ d ∷ []) _ (grind arith)
group verb (a ∷ b ∷ c ∷ d ∷ e ∷ []) = cut-short verb (a ∷ b ∷ c ∷ d ∷ e ∷ []) _ (grind arith)
group verb (a ∷ b ∷ c ∷ d ∷ e ∷ f ∷ words) = refl

-- what the next words are a request for, with the words behind it
next : (all : Option (List BatchRequest)) (done : List BatchRequest) (verb : List ℕ) (left words : List (List ℕ))
    → all ≡ going_on done (requests_of left) → left ≡ verb ∷ words
    → all ≡ going_on done (request_of verb (take 6 words) >>= (λ request. requests_of (drop 6 words) >>= (λ requests. Some (request ∷ requests))))
next all done verb left words e l = e ∙ ap (λ w. going_on done (requests_of w)) l ∙ ap (going_on done) (group verb words)

-- one request more is read
pub request_more : (all : Option (List BatchRequest)) (done : List BatchRequest) (request : BatchRequest) (verb : List ℕ) (left words after : List (List ℕ))
    → all ≡ going_on done (requests_of left) → left ≡ verb ∷ words → Some request ≡ request_of verb (take 6 words) → after ≡ drop 6 words
    → all ≡ going_on (done ++ request ∷ []) (requests_of after)
request_more all done request verb left words after e l s a =
    next all done verb left words e l
    ∙ ap (λ o. going_on done (o >>= (λ request. requests_of (drop 6 words) >>= (λ requests. Some (request ∷ requests))))) (sym s)
    ∙ onto done request (requests_of (drop 6 words)) ∙ ap (λ w. going_on (done ++ request ∷ []) (requests_of w)) (sym a)

-- the batch that requests are, if they are as many as one may have
abbrev pub as_batch : Option (List BatchRequest) → Option Command
as_batch all = all >>= (λ requests. if is_batch_count (length requests) then Some (Batch requests) else None)

-- words that are no request end no batch
pub request_bad : (all : Option (List BatchRequest)) (done : List BatchRequest) (verb : List ℕ) (left words : List (List ℕ))
    → all ≡ going_on done (requests_of left) → left ≡ verb ∷ words → None ≡ request_of verb (take 6 words) → as_batch all ≡ None
request_bad all done verb left words e l s =
    ap as_batch
    (next all done verb left words e l
    ∙ ap (λ o. going_on done (o >>= (λ request. requests_of (drop 6 words) >>= (λ requests. Some (request ∷ requests))))) (sym s))

no-batch : (items : List BatchRequest) → is_batch_count (length items) ≡ false → as_batch (Some items) ≡ None
no-batch items h = ap (λ b. if b then Some (Batch items) else None) h

beyond : (done : List BatchRequest) (rest : Option (List BatchRequest)) → 6 < length done → as_batch (going_on done rest) ≡ None
beyond done None h = refl
beyond done (Some items) h = no-batch (done ++ items) (let more = length-append done items in grind (arith, h, more))

-- one more after six are no batch
pub requests_many : (all : Option (List BatchRequest)) (done : List BatchRequest) (request : BatchRequest) (rest : Option (List BatchRequest))
    → all ≡ going_on (done ++ request ∷ []) rest → length done ≡ 6 → as_batch all ≡ None
requests_many all done request rest e l = ap as_batch e ∙ beyond (done ++ request ∷ []) rest (omega (arith, l, length-append done (request ∷ [])))

-- one alone is no batch
pub requests_few : (all : Option (List BatchRequest)) (done : List BatchRequest) → all ≡ Some done → length done < 2 → as_batch all ≡ None
requests_few all done e h = ap as_batch e ∙ no-batch done (grind (arith, h))

-- all were read, and they are the batch
pub batch_read : (all : Option (List BatchRequest)) (done requests : List BatchRequest) → all ≡ Some done → 2 ≤ length done → length done ≤ 6 → up_to 6 done ≡ Some requests
    → as_batch all ≡ Some (Batch requests)
batch_read all done requests e least most read = grind arith

-- all were read, and they are as many as a batch may have, but not all kept
pub refusal_read : (all : Option (List BatchRequest)) (done : List BatchRequest) (why : CommandRefused) → all ≡ Some done → 2 ≤ length done → length done ≤ 6
    → IsReading (up_to 6 done) (Err why) → IsReading (as_batch all) (Err why)
refusal_read all done BadLine e least most read = grind arith
refusal_read all done Memory e least most read = grind arith
