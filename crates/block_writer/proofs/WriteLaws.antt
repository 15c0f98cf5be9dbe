-- Bytes that are written from a place on.
use Rattle.std.proofs.Common.{◌≡◌, ℕ, ◌+◌, ◌-◌, ◌<◌, ◌≤◌, List, [], ◌∷◌, ◌++◌, length, take, drop, set, get_or, length-set, length-drop, append_assoc, take-append-drop, refl, ◌∙◌, sym, ap, arith}
use Rattle.std.proofs.lemmas.List.{drop-set, drop-set-add, drop-drop, drop-append-le, drop_more, take_more, take_all, length-take}

-- four bytes, the last written first
pub drop-four : (xs : List ℕ) (at a b c d : ℕ) → at + 4 ≤ length xs
    → drop at (set (set (set (set xs (at + 3) d) (at + 2) c) (at + 1) b) at a) ≡ a ∷ b ∷ c ∷ d ∷ drop (at + 4) xs
drop-four xs at a b c d room =
    let three : List ℕ = set xs (at + 3) d in
    let two : List ℕ = set three (at + 2) c in
    let one : List ℕ = set two (at + 1) b in
    let e : at + 1 + 1 ≡ at + 2 = omega arith in
    let f : at + 2 + 1 ≡ at + 3 = omega arith in
    let g : at + 3 + 1 ≡ at + 4 = omega arith in
    rw (
      drop-set one at a (omega (arith, length-set {A = ℕ})),
      drop-set two (at + 1) b (omega (arith, length-set {A = ℕ})),
      e,
      drop-set three (at + 2) c (omega (arith, length-set {A = ℕ})),
      f,
      drop-set xs (at + 3) d (omega arith),
      g,
    )

-- one byte behind a text, set anew
set-behind : (text rest : List ℕ) (old new : ℕ) → set (text ++ old ∷ rest) (length text) new ≡ text ++ new ∷ rest
set-behind [] rest old new = refl
set-behind (x ∷ text) rest old new = ap (λ (l : List ℕ). x ∷ l) (set-behind text rest old new)

-- the same at the end of a number's text in a list
pub drop-set_behind : (xs text rest : List ℕ) (old new start end : ℕ) → start + length text + 1 ≡ end → drop start xs ≡ text ++ old ∷ rest
    → drop start (set xs (end - 1) new) ≡ text ++ new ∷ rest
drop-set_behind xs text rest old new start end long is =
    let place : end - 1 ≡ start + length text = omega arith in
    rw (place, drop-set-add start xs (length text) new, is) (set-behind text rest old new)

-- one more byte of a group
pub one_more : (group old new : List ℕ) (at i : ℕ) → i < length group → at + i < length old → drop at new ≡ take i group ++ drop (at + i) old
    → drop at (set new (at + i) (get_or group i 0)) ≡ take (i + 1) group ++ drop (at + (i + 1)) old
one_more group old new at i more room is =
    let byte : ℕ = get_or group i 0 in
    let long : i ≡ length (take i group) = omega (arith, length-take i group) in
    let next : at + i + 1 ≡ at + (i + 1) = omega arith in
    let left : drop (at + i) old ≡ get_or old (at + i) 0 ∷ drop (at + (i + 1)) old = drop_more old (at + i) 0 room ∙ ap (λ (k : ℕ). get_or old (at + i) 0 ∷ drop k old) next in
    rw (drop-set-add at new i byte, is, left)
    (ap (λ (k : ℕ). set (take i group ++ get_or old (at + i) 0 ∷ drop (at + (i + 1)) old) k byte) long
    ∙ set-behind (take i group) (drop (at + (i + 1)) old) (get_or old (at + i) 0) byte
    ∙ sym (ap (λ (l : List ℕ). l ++ drop (at + (i + 1)) old) (take_more group i 0 more) ∙ append_assoc (take i group) (byte ∷ []) (drop (at + (i + 1)) old)))

-- the last bytes of a text, and then its first, which reach the last
pub ends-meet : (text old mid new : List ℕ) (at rest n : ℕ) → rest + n ≡ length text → rest ≤ n
    → drop (at + rest) mid ≡ take n (drop rest text) ++ drop (at + rest + n) old → drop at new ≡ take n (drop 0 text) ++ drop (at + n) mid
    → drop at new ≡ text ++ drop (at + length text) old
ends-meet text old mid new at rest n long meet last first =
    let tail : take n (drop rest text) ≡ drop rest text = take_all n (drop rest text) (omega (arith, length-drop rest text)) in
    let far : at + rest + n ≡ at + length text = omega arith in
    let near : at + n ≡ at + rest + (n - rest) = omega arith in
    let behind : rest + (n - rest) ≡ n = omega arith in
    let some : n - rest ≤ length (drop rest text) = omega (arith, length-drop rest text) in
    let end : List ℕ = drop (at + length text) old in
    let middle : drop (at + n) mid ≡ drop n text ++ end =
    ap (λ (k : ℕ). drop k mid) near ∙ sym (drop-drop (n - rest) (at + rest) mid)
    ∙ ap (drop (n - rest)) (last ∙ ap (λ (l : List ℕ). l ++ drop (at + rest + n) old) tail ∙ ap (λ (k : ℕ). drop rest text ++ drop k old) far)
    ∙ drop-append-le (n - rest) (drop rest text) end some
    ∙ ap (λ (l : List ℕ). l ++ end) (drop-drop (n - rest) rest text ∙ ap (λ (k : ℕ). drop k text) behind) in
    first ∙ ap (λ (l : List ℕ). take n text ++ l) middle ∙ sym (append_assoc (take n text) (drop n text) end) ∙ ap (λ (l : List ℕ). l ++ end) (take-append-drop n text)
