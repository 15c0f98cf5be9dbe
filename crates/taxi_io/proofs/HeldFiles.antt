-- A file in memory, by its name and by its number.
use Rattle.std.proofs.Common.{◌≡◌, ◌-◌, ◌<◌, ◌∷◌, ◌∙◌, [], ℕ, zero, suc, List, Some, IsSome, option_map, min, refl, ap, length, map, drop, take, slice_get, arith, true, nat_eq}
use Rattle.std.proofs.lemmas.List.{drop_min, take_all, length-drop}
use lib.Pointwise.{pointwise}
use Rattle.taxi_io.specs.Files.{file_of}

-- the file at i has the name, and is the first of the files from i on
pub file_of-drop : {X : Type 0} (t : X → List ℕ × List ℕ) (xs : List X) (i : ℕ) (name : List ℕ) (x : X) → slice_get xs i ≡ Some x → pointwise nat_eq (t x).0 name ≡ true
    → file_of (map t (drop i xs)) name ≡ Some (t x).1
file_of-drop t [] i name x e n = cc e
file_of-drop t (y ∷ xs) zero name x e n =
    let same : y ≡ x = grind (arith, e) in
    rw (same, n) refl
file_of-drop t (y ∷ xs) (suc i) name x e n = file_of-drop t xs i name x e n

-- a file that is there has a number below how many there are
pub slice_get-within : {X Y : Type 0} (f : X → Y) (xs : List X) (i : ℕ) → IsSome (option_map f (slice_get xs i)) → i < length xs
slice_get-within f [] i h = cc h
slice_get-within f (x ∷ xs) zero h = omega arith
slice_get-within f (x ∷ xs) (suc i) h = let less = slice_get-within f xs i h in omega (arith, less)

-- what a slice from a place on has, where the place may lie past the end
pub drop-slice : (bytes : List ℕ) (n m : ℕ) → m ≡ min n (length bytes) → take (length bytes - m) (drop m bytes) ≡ drop n bytes
drop-slice bytes n m e =
    take_all (length bytes - m) (drop m bytes) (let l = length-drop m bytes in omega (arith, l)) ∙ ap (λ (k : ℕ). drop k bytes) e ∙ drop_min n bytes
