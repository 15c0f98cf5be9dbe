-- What stands in a part of a list stands in the list.
use Rattle.std.proofs.Common.{ℕ, ◌+◌, ◌<◌, List, length, get_or, take, drop, All, sym, ◌∙◌, arith}
use Rattle.std.specs.Prelude.{Contains}
use Rattle.std.proofs.lemmas.List.{get_or-take, get_or-drop, get_or_default, length-take, length-drop}
use Rattle.std.proofs.lemmas.List.Elements.{All-contains}

module _ {X : Type 0} (xs : List X) where
  pub part-among : (n m : ℕ) → All (Contains xs) (take m (drop n xs))
  part-among n m k d on =
      let few : k < m = omega (arith, length-take m (drop n xs)) in
      let within : n + k < length xs = omega (arith, length-take m (drop n xs), length-drop n xs) in
      (n + k, within, get_or_default xs (n + k) (get_or (take m (drop n xs)) k d) d within ∙ sym (get_or-take m (drop n xs) k d few ∙ get_or-drop n xs k d))

  pub among-part : (ys zs : List X) → All (Contains xs) ys → All (Contains ys) zs → All (Contains xs) zs
  among-part ys zs within part k d on = All-contains (Contains xs) ys (get_or zs k d) within (part k d on)
