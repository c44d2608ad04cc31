-- A subtree's nodes put one after the other, and those behind a node moved up to make room for them.
use Rattle.std.specs.Prelude.{Option, None, Some}
use mathlib.Core.Path.{◌≡◌, refl, sym, ap, ap₂, ◌∙◌}
use mathlib.Core.List.{List, [], ◌∷◌, ◌++◌, append_assoc, append-nil}
use Prim.Native.Nat.{ℕ, ◌+◌, ◌-◌, ◌≤◌, ◌<◌}
use native.Mathlib.Omega.{arith}
use lib.ListN.{length, take, drop, set, length-append, length-drop}
use lib.Seq.{take-take, paste}
use Rattle.lists.specs.Parts.{part, patch}
use Rattle.lists.proofs.Arrays.{length_zero}
use Rattle.lists.proofs.Parts.{set_patch, then_patch, patch_front, paste_patch, length_part, drop_take_add}
use Rattle.guide.specs.declared.subtree.Node.{Node}
use Rattle.guide.specs.declared.subtree.CutOff.{CutOff}
use Rattle.guide.specs.declared.subtree.Subtree.{Subtree}
use Rattle.guide.specs.Nodes.{around, subtree_nodes}
use Rattle.guide.specs.Splices.{spliced, before_nodes, after_nodes}

around_is : (c : Option CutOff) (nodes : List Node) → around c nodes ≡ before_nodes c ++ (nodes ++ after_nodes c)
around_is None nodes = sym (append-nil nodes)
around_is (Some c) nodes = refl

module _ (s : Subtree) where
  abbrev bo : List Node
  bo = before_nodes s.outer

  abbrev bi : List Node
  bi = before_nodes s.inner

  abbrev p : List Node
  p = s.piece ∷ []

  abbrev ai : List Node
  ai = after_nodes s.inner

  abbrev ao : List Node
  ao = after_nodes s.outer

  pub subtree_is : subtree_nodes s ≡ bo ++ (bi ++ (p ++ (ai ++ ao)))
  subtree_is =
      around_is s.outer (around s.inner p)
      ∙ ap (λ (l : List Node). bo ++ (l ++ ao)) (around_is s.inner p)
      ∙ ap (λ (l : List Node). bo ++ l) (append_assoc bi (p ++ ai) ao)

  pub subtree_length : length (subtree_nodes s) ≡ length bo + (length bi + (1 + (length ai + length ao)))
  subtree_length =
      omega (arith, ap length subtree_is, length-append bo (bi ++ (p ++ (ai ++ ao))), length-append bi (p ++ (ai ++ ao)), length-append p (ai ++ ao), length-append ai ao)

  pub put_five : (l₀ l₁ l₂ l₃ l₄ l₅ : List Node) (at inside piece outside : ℕ) → at + length (subtree_nodes s) ≤ length l₀
      → l₁ ≡ patch l₀ at bo → inside ≡ at + length bo → l₂ ≡ patch l₁ inside bi → piece ≡ inside + length bi → l₃ ≡ set l₂ piece s.piece
      → l₄ ≡ patch l₃ (piece + 1) ai → outside ≡ piece + 1 + length ai → l₅ ≡ patch l₄ outside ao
      → length l₁ ≡ length l₀ → length l₂ ≡ length l₀ → length l₃ ≡ length l₀
      → l₅ ≡ patch l₀ at (subtree_nodes s)
  put_five l₀ l₁ l₂ l₃ l₄ l₅ at inside piece outside h e₁ k₁ e₂ k₂ e₃ e₄ k₄ e₅ s₁ s₂ s₃ =
      let whole = subtree_length in
      then_patch l₀ l₁ l₅ at bo (bi ++ (p ++ (ai ++ ao))) inside e₁
      (then_patch l₁ l₂ l₅ inside bi (p ++ (ai ++ ao)) piece e₂
      (then_patch l₂ l₃ l₅ piece p (ai ++ ao) (piece + 1) (e₃ ∙ set_patch l₂ piece s.piece (omega arith))
      (then_patch l₃ l₄ l₅ (piece + 1) ai ao outside e₄ e₅ k₄ (omega arith))
      refl (omega arith))
      k₂ (omega arith))
      k₁ (omega arith)
      ∙ ap (patch l₀ at) (sym subtree_is)

-- those behind a node moved up to the end, and others from the node on
pub moved_spliced : (l others : List Node) (e at by : ℕ) → at < e → e ≤ length l → e + length others ≡ length l + 1 → by ≡ length l - e
    → patch (paste l (at + 1 + by) (drop (at + 1) l) (e - (at + 1))) at others ≡ spliced (take e l) at others
moved_spliced l others e at by h fits long b =
    let back : List Node = part l (at + 1) (e - (at + 1)) in
    let size : length back ≡ e - (at + 1) = length_part l (at + 1) (e - (at + 1)) (omega arith) in
    let reach : at + 1 + (e - (at + 1)) ≡ e = omega arith in
    let behind : back ≡ drop (at + 1) (take e l) = sym (drop_take_add (at + 1) (e - (at + 1)) l) ∙ ap (λ (n : ℕ). drop (at + 1) (take n l)) reach in
    let far : length l ≤ at + length (others ++ back) = omega (arith, length-append others back) in
    ap (λ (m : List Node). patch m at others) (paste_patch l (at + 1 + by) (drop (at + 1) l) (e - (at + 1)) (omega (arith, length-drop (at + 1) l)))
    ∙ patch_front l (at + 1 + by) at others back (omega arith) (omega arith)
    ∙ ap₂ (λ (x y : List Node). x ++ ((others ++ back) ++ y)) (sym (take-take at e l (omega arith))) (nothing (at + length (others ++ back)) far)
    ∙ ap (λ (r : List Node). take at (take e l) ++ r) (append-nil (others ++ back) ∙ ap (λ (r : List Node). others ++ r) behind)
  where
    nothing : (n : ℕ) → length l ≤ n → drop n l ≡ []
    nothing n k = length_zero (drop n l) (omega (arith, length-drop n l))
