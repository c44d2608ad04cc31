-- A free leaf replaced among the nodes of a tree.
use Rattle.std.specs.Prelude.{cond, not}
use Rattle.std.specs.List.{prefix_len, position_or_len}
use mathlib.Core.Path.{◌≡◌, refl, sym, ap, ◌∙◌}
use mathlib.Core.Bool.{Bool, true, false}
use mathlib.Core.List.{List, [], ◌∷◌, ◌++◌, append_assoc, append-nil}
use mathlib.Core.Option.{none, some}
use Prim.Native.Nat.{ℕ, suc, ◌+◌, ◌≤◌, ◌<◌}
use native.Mathlib.Omega.{arith}
use borrow.Author.Tests.{ltb-true, ltb-false}
use lib.Dec.{T, ltb}
use lib.ListN.{length, length-append}
use Rattle.model.specs.declared.Rect.{Rect}
use Rattle.model.specs.Types.{same_rect}
use Rattle.model.specs.Guide.{GuideCut, SliceNode, cut, leaf, free, cut_piece, replace_free_leaf}
use Rattle.model.specs.Plan.{preorder}
use Rattle.trust.proofs.Guide.{same_rect_eq}
use Rattle.guide.specs.declared.subtree.Node.{Node}
use Rattle.guide.specs.Nodes.{node_of, tree_nodes}
use Rattle.guide.proofs.subtree.Trees.{tree_nodes_cut, tree_nodes_leaf}
use Rattle.guide.specs.Leaves.{is_free_leaf}
use Rattle.guide.proofs.free_leaf.Sizes.{size, size_cut, size_leaf}

-- ---- the first place in two lists

module _ {X : Type 0} (q : X → Bool) where
  prefix_first : (xs ys : List X) → prefix_len q xs < length xs → prefix_len q (xs ++ ys) ≡ prefix_len q xs
  prefix_first [] ys h = absurd (omega arith)
  prefix_first (x ∷ xs) ys h =
      elim (q x) as (λ (b : Bool). cond b (1 + prefix_len q xs) 0 < suc (length xs) → cond b (1 + prefix_len q (xs ++ ys)) 0 ≡ cond b (1 + prefix_len q xs) 0) [
        | true ↦ λ k. ap (λ (n : ℕ). 1 + n) (prefix_first xs ys (omega arith))
        | false ↦ λ k. refl
      ] h

  prefix_second : (xs ys : List X) → length xs ≤ prefix_len q xs → prefix_len q (xs ++ ys) ≡ length xs + prefix_len q ys
  prefix_second [] ys h = omega arith
  prefix_second (x ∷ xs) ys h =
      elim (q x) as (λ (b : Bool). suc (length xs) ≤ cond b (1 + prefix_len q xs) 0 → cond b (1 + prefix_len q (xs ++ ys)) 0 ≡ suc (length xs) + prefix_len q ys) [
        | true ↦ λ k. let rest = prefix_second xs ys (omega arith) in omega arith
        | false ↦ λ k. absurd (omega arith)
      ] h

-- ---- the leaf found is the one that replace_free_leaf replaces

pub record Spliced (target : Rect) (i : ℕ) (sub tree : SliceNode) : Type 0 where
  pub after : SliceNode
  pub made : replace_free_leaf tree target sub ≡ some after
  pub front : List Node
  pub back : List Node
  pub place : length front ≡ i
  pub was : tree_nodes tree ≡ front ++ (Node.Free target ∷ back)
  pub is : tree_nodes after ≡ front ++ (tree_nodes sub ++ back)

-- the first free leaf's number, or the size where there is none
abbrev pub first_of : Rect → SliceNode → ℕ
first_of target tree = position_or_len (is_free_leaf target) (tree_nodes tree)

module _ (target : Rect) (sub : SliceNode) where
  pub record Outcome (tree : SliceNode) (k : ℕ) : Type 0 where
    pub found : k < size tree → Spliced target k sub tree
    pub none_found : size tree ≤ k → replace_free_leaf tree target sub ≡ none

  module _ (c : GuideCut) (a b : SliceNode) where
    in_first_lem : (i j : ℕ) → j ≡ 1 + i → Spliced target i sub a → Spliced target j sub (cut c a b)
    unfolding replace_free_leaf
    in_first_lem i j e s =
        record {
          after = cut c s.after b;
          made = rw s.made;
          front = node_of (cut c a b) ∷ s.front;
          back = s.back ++ tree_nodes b;
          place = omega (arith, s.place, e);
          was = tree_nodes_cut c a b ∙ ap (λ (l : List Node). node_of (cut c a b) ∷ (l ++ tree_nodes b)) s.was ∙ simp append_assoc;
          is = tree_nodes_cut c s.after b ∙ ap (λ (l : List Node). node_of (cut c a b) ∷ (l ++ tree_nodes b)) s.is ∙ simp append_assoc;
        }

    in_second_lem : (i j : ℕ) → j ≡ 1 + (size a + i) → replace_free_leaf a target sub ≡ none → Spliced target i sub b → Spliced target j sub (cut c a b)
    unfolding replace_free_leaf
    in_second_lem i j e n s =
        record {
          after = cut c a s.after;
          made = rw (n, s.made);
          front = node_of (cut c a b) ∷ (tree_nodes a ++ s.front);
          back = s.back;
          place = omega (arith, s.place, e, length-append (tree_nodes a) s.front);
          was = tree_nodes_cut c a b ∙ ap (λ (l : List Node). node_of (cut c a b) ∷ (tree_nodes a ++ l)) s.was ∙ simp append_assoc;
          is = tree_nodes_cut c a s.after ∙ ap (λ (l : List Node). node_of (cut c a b) ∷ (tree_nodes a ++ l)) s.is ∙ simp append_assoc;
        }

    in_neither : replace_free_leaf a target sub ≡ none → replace_free_leaf b target sub ≡ none → replace_free_leaf (cut c a b) target sub ≡ none
    unfolding replace_free_leaf
    in_neither e f = rw (e, f)

    behind : first_of target (cut c a b) ≡ 1 + prefix_len (λ n. not (is_free_leaf target n)) (tree_nodes a ++ tree_nodes b)
    behind = ap (position_or_len (is_free_leaf target)) (tree_nodes_cut c a b)

    in_cut : Outcome a (first_of target a) → Outcome b (first_of target b) → Outcome (cut c a b) (first_of target (cut c a b))
    in_cut o p = go (ltb (first_of target a) (size a)) refl
      where
        go : (t : Bool) → ltb (first_of target a) (size a) ≡ t → Outcome (cut c a b) (first_of target (cut c a b))
        go true e =
            let lt : first_of target a < size a = ltb-true (first_of target a) (size a) e in
            let is : first_of target (cut c a b) ≡ 1 + first_of target a =
            behind ∙ ap (λ (n : ℕ). 1 + n) (prefix_first (λ n. not (is_free_leaf target n)) (tree_nodes a) (tree_nodes b) lt)
            in
            record {
              found = λ h. in_first_lem (first_of target a) (first_of target (cut c a b)) is (o.found lt);
              none_found = λ h. absurd (omega (arith, size_cut c a b));
            }
        go false e =
            let le : size a ≤ first_of target a = ltb-false (first_of target a) (size a) e in
            let is : first_of target (cut c a b) ≡ 1 + (size a + first_of target b) =
            behind ∙ ap (λ (n : ℕ). 1 + n) (prefix_second (λ n. not (is_free_leaf target n)) (tree_nodes a) (tree_nodes b) le)
            in
            record {
              found = λ h. in_second_lem (first_of target b) (first_of target (cut c a b)) is (o.none_found le) (p.found (omega (arith, size_cut c a b)));
              none_found = λ h. in_neither (o.none_found le) (p.none_found (omega (arith, size_cut c a b)));
            }

  in_leaf : (r : Rect) (t : Bool) → (T t → r ≡ target) → same_rect r target ≡ t → Outcome (leaf r free) (cond (not t) 1 0)
  unfolding replace_free_leaf
  in_leaf r true same e =
      record {
        found = λ h. record {
          after = sub;
          made = rw e;
          front = [];
          back = [];
          place = omega arith;
          was = tree_nodes_leaf r free ∙ ap (λ (x : Rect). Node.Free x ∷ []) (same tt);
          is = sym (append-nil (tree_nodes sub));
        };
        none_found = λ h. absurd (omega (arith, size_leaf r free));
      }
  in_leaf r false same e = record { found = λ h. absurd (omega (arith, size_leaf r free)); none_found = λ h. rw e }

  pub outcome : (tree : SliceNode) → Outcome tree (first_of target tree)
  unfolding preorder replace_free_leaf
  outcome (cut c a b) = in_cut c a b (outcome a) (outcome b)
  outcome (leaf r free) = in_leaf r (same_rect r target) (same_rect_eq r target) refl
  outcome (leaf r (cut_piece key)) =
      record { found = λ h. absurd (omega (arith, size_leaf r (cut_piece key))); none_found = λ h. refl }
