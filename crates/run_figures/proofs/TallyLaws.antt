-- Counts with one more, and with none.
use Rattle.std.proofs.Common.{◌≡◌, ◌∙◌, ◌+◌, ◌<◌, ◌≤◌, ℕ, cond, List, [], ◌∷◌, ◌++◌, map, length, refl, sym, ap, arith, get_or, take, drop, append-nil, append_assoc}
use Rattle.std.specs.Prelude.{bytes_eq, All}
use Rattle.std.proofs.lemmas.List.{take_all, take_more, drop_all}
use Rattle.std.proofs.lemmas.List.Elements.{All-map}
use Rattle.std.proofs.lemmas.List.Sums.{sum_by_push, count_by-le-length}
use Rattle.run_figures.specs.declared.counting.Count.{Count}
use Rattle.run_figures.specs.Counts.{how_many, count_of, tallied}
use Rattle.run_figures.specs.Tallies.{with_one}

-- one more
pub tallied-more : {X : Type 0} (word : X → List ℕ) (kinds : List (List ℕ)) (xs : List X) (x : X) → map (with_one (word x)) (tallied word kinds xs) ≡ tallied word kinds (xs ++ x ∷ [])
tallied-more word [] xs x = refl
tallied-more word (kind ∷ kinds) xs x =
    let more : how_many word kind xs + cond (bytes_eq kind (word x)) 1 0 ≡ how_many word kind (xs ++ x ∷ []) = sym (sum_by_push (λ y. cond (bytes_eq kind (word y)) 1 0) xs x) in
    rw more (ap (λ (cs : List Count). count_of kind (how_many word kind (xs ++ x ∷ [])) ∷ cs) (tallied-more word kinds xs x))

-- no count is above the number of all
pub tallied-few : {X : Type 0} (word : X → List ℕ) (kinds : List (List ℕ)) (xs : List X) (limit : ℕ) → length xs + 1 < limit → All (λ c. c.number + 1 < limit) (tallied word kinds xs)
tallied-few word kinds xs limit few =
    All-map (λ (c : Count). c.number + 1 < limit) (λ kind. count_of kind (how_many word kind xs)) kinds
    (λ k d low. let by = count_by-le-length (λ x. bytes_eq (get_or kinds k d) (word x)) xs in omega (arith, by, few))

-- ---- one count after the other

pub with-one-all : (words : List ℕ) (counts now : List Count) (place : ℕ) → now ≡ map (with_one words) (take place counts) ++ drop place counts → length counts ≤ place → now ≡ map (with_one words) counts
with-one-all words counts now place is past =
    is ∙ ap (λ (cs : List Count). map (with_one words) cs ++ drop place counts) (take_all place counts past)
    ∙ ap (λ (cs : List Count). map (with_one words) counts ++ cs) (drop_all place counts past) ∙ append-nil (map (with_one words) counts)

-- ---- one of a list after the other

pub tally-step : {X : Type 0} (word : X → List ℕ) (kinds : List (List ℕ)) (told xs : List X) (i : ℕ) (x : X) (before after : List Count) (words : List ℕ) → before ≡ tallied word kinds (told ++ take i xs)
    → i < length xs → get_or xs i x ≡ x → words ≡ word x → after ≡ map (with_one words) before → after ≡ tallied word kinds (told ++ take (i + 1) xs)
tally-step word kinds told xs i x before after words so_far low there same counted =
    counted ∙ ap (map (with_one words)) so_far ∙ ap (λ (w : List ℕ). map (with_one w) (tallied word kinds (told ++ take i xs))) same ∙ tallied-more word kinds (told ++ take i xs) x
    ∙ ap (tallied word kinds)
    (append_assoc told (take i xs) (x ∷ []) ∙ ap (λ ys. told ++ ys) (sym (take_more xs i x low ∙ ap (λ y. take i xs ++ y ∷ []) there)))
