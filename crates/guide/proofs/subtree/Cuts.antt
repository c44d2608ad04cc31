-- The nodes of an insertion's subtree, against the definition's cut_off and insert_subtree.
use Rattle.std.specs.Prelude.{if◌then◌else◌, None, Some}
use Rattle.std.specs.Prelude as Language
use Prim.Native.Nat.{ℕ, ◌+◌, ◌-◌, ◌<◌}
use native.Mathlib.Omega.{arith}
use mathlib.Core.Path.{◌≡◌, refl, sym, ap, ◌∙◌}
use mathlib.Core.Bool.{Bool, true, false}
use mathlib.Core.List.{List, [], ◌∷◌, ◌++◌}
use mathlib.Core.Option.{Option, none, some}
use borrow.Author.Tests.{ltb-true}
use lib.Dec.{ltb}
use Rattle.lists.specs.Base.{◌>>=◌}
use Rattle.model.specs.declared.Rect.{Rect}
use Rattle.model.specs.declared.Direction.{Direction}
use Rattle.model.specs.Split.{bottom_remainder, right_remainder}
use Rattle.model.specs.declared.InstanceKey.{InstanceKey}
use Rattle.model.specs.declared.CutInstance.{CutInstance}
use Rattle.model.specs.Types.{rect, cut_key}
use Rattle.model.specs.Guide.{SliceNode, cut, leaf, free, cut_piece, span, cut_off, insert_subtree}
use Rattle.trust.specs.WellCut.{guide_cut_of}
use Rattle.trust.proofs.Guide.{guide_cut_some}
use Rattle.sheet.specs.Bounds.{Small, Inside}
use Rattle.guide.specs.declared.subtree.Node.{Node}
use Rattle.guide.specs.declared.subtree.CutOff.{CutOff}
use Rattle.guide.specs.Nodes.{around, subtree_nodes, guide_nodes, tree_nodes, cut_off_of, subtree_of, InCorner}
use Rattle.guide.proofs.subtree.Trees.{tree_nodes_cut, tree_nodes_leaf, guide_nodes_some, guide_nodes_none}

-- what Cut::new asks of the cut of a remainder
abbrev Cuttable : Rect → Direction → ℕ → ℕ → List Rect → Type 0
Cuttable work orientation offset kerf [] = Unit {0}
Cuttable work orientation offset kerf (r ∷ rs) =
    (0 < work.width) × (0 < work.length) × (0 < offset) × (offset + kerf < span orientation work)

-- the cut and its remainder are around whatever node the remainder is cut off from
cut_off_around : (work : Rect) (o : Direction) (offset kerf : ℕ) (rs : List Rect) (node : SliceNode) → Cuttable work o offset kerf rs
    → guide_nodes (cut_off work o offset kerf rs node) ≡ around (cut_off_of work o offset kerf rs) (tree_nodes node)
unfolding cut_off
cut_off_around work o offset kerf [] node h = guide_nodes_some node
cut_off_around work o offset kerf (r ∷ rs) node h =
    ap (λ g. guide_nodes (g >>= λ c. some (cut c node (leaf r free)))) (guide_cut_some work o offset kerf (record { wide = h.0; long = h.1 }) h.2 h.3)
    ∙ guide_nodes_some (cut (guide_cut_of work o offset kerf) node (leaf r free))
    ∙ tree_nodes_cut (guide_cut_of work o offset kerf) node (leaf r free)
    ∙ ap (λ (l : List Node). Node.Cut work o offset kerf ∷ (tree_nodes node ++ l)) (tree_nodes_leaf r free)

-- one cut off inside the other
two_cuts : (inner : Option SliceNode) (outer : SliceNode → Option SliceNode) (n : Node) (ci co : Language.Option CutOff)
    → guide_nodes inner ≡ around ci (n ∷ []) → ((t : SliceNode) → guide_nodes (outer t) ≡ around co (tree_nodes t))
    → around co (around ci (n ∷ [])) ≡ guide_nodes (inner >>= outer)
two_cuts none outer n None co e f = (let none_there = sym guide_nodes_none ∙ e in cc)
two_cuts none outer n (Some c) co e f = (let none_there = sym guide_nodes_none ∙ e in cc)
two_cuts (some t) outer n ci co e f = ap (around co) (sym e ∙ guide_nodes_some t) ∙ sym (f t)

subtree_lem : (kerf : ℕ) (work₁ work₂ : Rect) (o₁ o₂ : Direction) (offset₁ offset₂ : ℕ) (rs₁ rs₂ : List Rect) (r : Rect) (k : InstanceKey)
    → Cuttable work₁ o₁ offset₁ kerf rs₁ → Cuttable work₂ o₂ offset₂ kerf rs₂
    → around (cut_off_of work₂ o₂ offset₂ kerf rs₂) (around (cut_off_of work₁ o₁ offset₁ kerf rs₁) (Node.Piece r k ∷ []))
    ≡ guide_nodes (cut_off work₁ o₁ offset₁ kerf rs₁ (leaf r (cut_piece k)) >>= λ t. cut_off work₂ o₂ offset₂ kerf rs₂ t)
subtree_lem kerf work₁ work₂ o₁ o₂ offset₁ offset₂ rs₁ rs₂ r k inner outer =
    let tree : SliceNode = leaf r (cut_piece k) in
    let c : Language.Option CutOff = cut_off_of work₁ o₁ offset₁ kerf rs₁ in
    two_cuts (cut_off work₁ o₁ offset₁ kerf rs₁ tree) (λ t. cut_off work₂ o₂ offset₂ kerf rs₂ t) (Node.Piece r k) c (cut_off_of work₂ o₂ offset₂ kerf rs₂)
    (cut_off_around work₁ o₁ offset₁ kerf rs₁ tree inner ∙ ap (around c) (tree_nodes_leaf r (cut_piece k)))
    (λ t. cut_off_around work₂ o₂ offset₂ kerf rs₂ t outer)

-- a remainder is there only if the cut leaves more than the kerf
module _ (kerf : ℕ) (f p : Rect) (h : InCorner f p) where
  either : (b : Bool) (r : Rect) (work : Rect) (o : Direction) (offset : ℕ) → 0 < work.width → 0 < work.length → 0 < offset → (b ≡ true → offset + kerf < span o work)
      → Cuttable work o offset kerf (if b then r ∷ [] else [])
  either true r work o offset w l k s = (w, l, k, s refl)
  either false r work o offset w l k s = tt

  bottom_cuttable : (work : Rect) (width : ℕ) → 0 < work.width → work.length ≡ f.length → Cuttable work Direction.Horizontal p.length kerf (bottom_remainder kerf f p width)
  unfolding bottom_remainder
  bottom_cuttable work width w s =
      either (ltb kerf (f.length - p.length)) _ work Direction.Horizontal p.length w (omega arith) h.long (λ t. omega (arith, ltb-true kerf (f.length - p.length) t))

  right_cuttable : (work : Rect) (long : ℕ) → 0 < work.length → work.width ≡ f.width → Cuttable work Direction.Vertical p.width kerf (right_remainder kerf f p long)
  unfolding right_remainder
  right_cuttable work long l s =
      either (ltb kerf (f.width - p.width)) _ work Direction.Vertical p.width (omega arith) l h.wide (λ t. omega (arith, ltb-true kerf (f.width - p.width) t))

  -- the subtree's nodes are those of the definition's: Cut::new takes both cuts
  pub subtree_is : (d : Direction) (c : CutInstance) → subtree_nodes (subtree_of d kerf f p c) ≡ guide_nodes (insert_subtree d kerf f p c)
  unfolding subtree_of insert_subtree
  subtree_is Direction.Horizontal c =
      let top : Rect = rect f.x f.y f.width p.length in
      subtree_lem kerf top f Direction.Vertical Direction.Horizontal p.width p.length _ _ p (cut_key c)
      (right_cuttable top p.length h.long refl) (bottom_cuttable f f.width (omega arith) refl)
  subtree_is Direction.Vertical c =
      let left : Rect = rect f.x f.y p.width f.length in
      subtree_lem kerf left f Direction.Horizontal Direction.Vertical p.length p.width _ _ p (cut_key c)
      (bottom_cuttable left p.width h.wide refl) (right_cuttable f f.length (omega arith) refl)

-- as the split asks for it
pub splittable : (f p : Rect) → InCorner f p → Small f × Inside p f
splittable f p h = (record { across = h.right; along = h.bottom }, record { across = h.width; along = h.length })
