-- A board put behind the others: those between move down.
use Prim.Native.Nat.{ℕ, suc, ◌+◌, ◌-◌, ◌≤◌, ◌<◌}
use native.Mathlib.Omega.{arith}
use mathlib.Core.Path.{◌≡◌, sym, ap, ap₂, ◌∙◌}
use mathlib.Core.List.{List, [], ◌∷◌, ◌++◌, append_assoc}
use lib.ListN.{length, get_or, take, drop}
use lib.Seq.{drop-cons, drop-drop, get_or-take, take-take, length-take-le}
use Rattle.std.proofs.lemmas.Slice.{between_is}
use Rattle.lists.proofs.Arrays.{remove_at_split}
use Rattle.candidate.specs.Compact.{put_back}

-- the part from p to count, its first element behind the others
pub rotated : (l : List ℕ) (p count : ℕ) → p < count → count ≤ length l
    → take p l ++ ((drop 1 (take (count - p) (drop p l)) ++ take 1 (take (count - p) (drop p l))) ++ drop (count - p) (drop p l)) ≡ put_back l count p
unfolding put_back
rotated l p count h k =
    let F : List ℕ = take count l in
    let behind : List ℕ = drop (suc p) F in
    let x : ℕ = get_or l p 0 in
    let inside : p < length F = omega (arith, length-take-le count l k) in
    let part : take (count - p) (drop p l) ≡ x ∷ behind = between_is l p count ∙ drop-cons F p 0 inside ∙ ap (λ (y : ℕ). y ∷ behind) (get_or-take count l p 0 h) in
    let rest : drop (count - p) (drop p l) ≡ drop count l = let e : p + (count - p) ≡ count = omega arith in drop-drop (count - p) p l ∙ ap (λ (n : ℕ). drop n l) e in
    ap₂ (λ (m r : List ℕ). take p l ++ ((drop 1 m ++ take 1 m) ++ r)) part rest
    ∙ ap (λ (r : List ℕ). take p l ++ r) (append_assoc behind (x ∷ []) (drop count l))
    ∙ sym (append_assoc (take p l) behind (x ∷ drop count l))
    ∙ ap (λ (r : List ℕ). (r ++ behind) ++ (x ∷ drop count l)) (sym (take-take p count l (omega arith)))
    ∙ ap (λ (r : List ℕ). r ++ (x ∷ drop count l)) (sym (remove_at_split p F))
