-- A list of which the part from an index on was lent and patched: it is patched itself.
use Prim.Native.Nat.{ℕ, ◌+◌, ◌-◌}
use native.Mathlib.Omega.{arith}
use mathlib.Core.Path.{◌≡◌, sym, ap, ap₂, ◌∙◌}
use mathlib.Core.List.{List, [], ◌++◌, append_assoc, append-nil}
use borrow.Rule.Slice.PartMut.{put_mid, post_of}
use lib.ListN.{length, take, drop, length-drop}
use lib.Seq.{drop-drop, drop-length, take-add, take-length}
use Rattle.lists.specs.Parts.{patch}

pub patch_behind : {A : Type 0} (l : List A) (a n : ℕ) (b behind : List A) → behind ≡ patch (take (length l - a) (drop a l)) n b → put_mid a (length l - a) l behind ≡ patch l (a + n) b
patch_behind {A} l a n b behind e =
    let all : take (length l - a) (drop a l) ≡ drop a l = ap (λ (m : ℕ). take m (drop a l)) (sym (length-drop a l)) ∙ take-length (drop a l) in
    let none : post_of a (length l - a) l ≡ [] = ap (λ (m : ℕ). drop m (drop a l)) (sym (length-drop a l)) ∙ drop-length (drop a l) in
    let further : a + (n + length b) ≡ a + n + length b = omega arith in
    ap₂ (λ (x y : List A). take a l ++ (x ++ y)) (e ∙ ap (λ (x : List A). patch x n b) all) none
    ∙ ap (λ (x : List A). take a l ++ x) (append-nil (patch (drop a l) n b))
    ∙ sym (append_assoc (take a l) (take n (drop a l)) (b ++ drop (n + length b) (drop a l)))
    ∙ ap₂ (λ (x y : List A). x ++ (b ++ y)) (sym (take-add a n l)) (drop-drop (n + length b) a l ∙ ap (λ (m : ℕ). drop m l) further)
