-- One wait more, and who is waited for behind.
use Rattle.std.proofs.Common.{◌≡◌, ◌∙◌, ℕ, zero, suc, ◌+◌, ◌<◌, ◌-◌, List, [], ◌∷◌, ◌++◌, length, get_or, Option, Some, None, Bool, false, ◌==◌, if◌then◌else◌, option_and_then, refl, sym, ap, arith, append-nil, append_assoc}
use Rattle.std.specs.Prelude.{flat_map, slice_get}
use Rattle.std.specs.List.{range_with_len}
use Rattle.std.proofs.lemmas.Bool.Decides.{nat_tests}
use Rattle.std.proofs.lemmas.Grind.{flat_map-append}
use Rattle.std.proofs.lemmas.Option.{slice_get-get_or}
use Rattle.taxi_base.specs.declared.numbers.Class.{Class}
use Rattle.taxi_base.specs.declared.numbers.Segment.{Segment}
use Rattle.taxi_base.specs.declared.rows.Step.{Step}
use Rattle.taxi_base.specs.Airport.{Airport, segment_of}
use Rattle.taxi_base.specs.State.{State}
use Rattle.reply_reasons.specs.InTheWay.{in_the_way}
use Rattle.reply_reasons.specs.Waits.{held_until, holder_behind}

range-more : (n a : ℕ) → range_with_len a (suc n) ≡ range_with_len a n ++ (a + n) ∷ []
range-more zero a = let e : a ≡ a + 0 = omega arith in ap (λ x. x ∷ []) e
range-more (suc n) a = let e : a + 1 + n ≡ a + suc n = omega arith in ap (λ l. a ∷ l) (range-more n (a + 1) ∙ ap (λ x. range_with_len (a + 1) n ++ x ∷ []) e)

waits-next : {A : Type 0} (f : ℕ → List A) (n : ℕ) → flat_map f (range_with_len 0 (n + 1)) ≡ flat_map f (range_with_len 0 n) ++ f n
waits-next f n =
    let e : n + 1 ≡ suc n = omega arith in
    let last : 0 + n ≡ n = omega arith in
    ap (λ m. flat_map f (range_with_len 0 m)) e ∙ ap (flat_map f) (range-more n 0) ∙ flat_map-append f (range_with_len 0 n) ((0 + n) ∷ [])
    ∙ ap (λ t. flat_map f (range_with_len 0 n) ++ t) (append-nil (f (0 + n))) ∙ ap (λ k. flat_map f (range_with_len 0 n) ++ f k) last

-- of each number below a count, behind a list
pub waits-more : {A : Type 0} (f : ℕ → List A) (n : ℕ) (before text after : List A) → text ≡ before ++ flat_map f (range_with_len 0 n) → after ≡ text ++ f n
    → after ≡ before ++ flat_map f (range_with_len 0 (n + 1))
waits-more f n before text after so_far next =
    next ∙ ap (λ t. t ++ f n) so_far ∙ append_assoc before (flat_map f (range_with_len 0 n)) (f n) ∙ ap (λ t. before ++ t) (sym (waits-next f n))

-- the holder who is in the way of the step before
pub behind : (airport : Airport) (class : Class) (others : State) (steps : List Step) (place : ℕ) (d : Step) (s : Segment) (t : ℕ) → (place ≡ 0 → ⊥) → place < length steps
    → s ≡ segment_of (get_or steps (place - 1) d).arc → t ≡ held_until airport class (get_or steps (place - 1) d)
    → in_the_way airport others s t ≡ holder_behind airport class others steps place
behind airport class others steps zero d s t some low is_s is_t = absurd (some refl)
behind airport class others steps (suc k) d s t some low is_s is_t =
    let before = get_or steps (suc k - 1) d in
    let other : (suc k == 0) ≡ false = grind (arith, nat_tests) in
    let found : slice_get steps (suc k - 1) ≡ Some before = slice_get-get_or steps (suc k - 1) d (omega (arith, low)) in
    ap (λ (s : Segment). in_the_way airport others s t) is_s ∙ ap (λ (t : ℕ). in_the_way airport others (segment_of before.arc) t) is_t
    ∙ sym (ap (λ (t : Bool). option_and_then (λ before. in_the_way airport others (segment_of before.arc) (held_until airport class before)) (if t then None else slice_get steps (suc k - 1))) other
    ∙ ap (λ (o : Option Step). option_and_then (λ before. in_the_way airport others (segment_of before.arc) (held_until airport class before)) o) found)
