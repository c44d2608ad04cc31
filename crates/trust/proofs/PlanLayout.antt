-- The words of every plan are in the layout, whatever follows them.
use Prim.Native.Nat.{ℕ, suc, ◌+◌, ◌*◌}
use native.Mathlib.Omega.{arith}
use native.Mathlib.Numerals.{add-one}
use mathlib.Core.Path.{◌≡◌, refl, sym, ap, ◌∙◌, subst}
use mathlib.Core.Bool.{Bool, true, false, ◌&&◌, ◌||◌}
use mathlib.Core.List.{List, [], ◌∷◌, ◌++◌, map}
use mathlib.Core.Option.{Option, none, some}
use borrow.Author.Tests.{eq-eqb}
use lib.Dec.{T, leb, ltb, eqb, le→leb}
use lib.ListN.{length, length-append}
use lib.Seq.{append_snoc}
use lib.Ieee.{Float}
use Rattle.lists.specs.Base.{all, count_from, range, concat_map}
use Rattle.model.specs.declared.LayoutKind.{LayoutKind}
use Rattle.model.specs.declared.Direction.{Direction}
use Rattle.model.specs.declared.PatternDirection.{PatternDirection}
use Rattle.model.specs.Types.{pattern_code, direction_code, flag_code, layout_code}
use Rattle.model.specs.Guide.{SliceNode, cut, leaf, free, cut_piece}
use Rattle.model.specs.Sheet.{GuillotineSheet, PlacedPiece}
use Rattle.model.specs.Plan.{preorder, nodes_of, sheet_words, plan_words, entry_of, sheet_part}
use Rattle.lists.proofs.Sums.{map_append}
use Rattle.lists.proofs.Maps.{concat_map_append}
use Rattle.trust.specs.Words.{NodeIn, SheetIn, head_size, piece_size, waste_size, node_size, sheet_in}
use Rattle.trust.specs.InLayout.{piece_codes, node_codes, one_tree, sheet_codes, body_in_layout, start_word, length_word, bodies_from, in_layout, InLayout}
use Rattle.trust.proofs.Truth.{and_intro, of_true, map_pass}
use Rattle.trust.proofs.OneTree.{Tree, fork, tip, nodes_of_tree, CutsFork, tree_is_one}
use Rattle.trust.proofs.RoundTrip.{piece_view, node_view, sheet_view, sheet_length, sheet_read, joined, Entry, body_start, entry_of_sheet, contents_inside}

-- ---- codes

pattern_code_lem : (p : PatternDirection) → T (ltb (pattern_code p) 3)
pattern_code_lem PatternDirection.None = tt
pattern_code_lem PatternDirection.ParallelToWidth = tt
pattern_code_lem PatternDirection.ParallelToLength = tt

flag_code_lem : (b : Bool) → T (ltb (flag_code b) 2)
flag_code_lem true = tt
flag_code_lem false = tt

layout_code_lem : (l : LayoutKind) → T (ltb (layout_code l) 2)
layout_code_lem LayoutKind.Guillotine = tt
layout_code_lem LayoutKind.Nested = tt

piece_codes_lem : (p : PlacedPiece) → T (piece_codes (piece_view p))
unfolding piece_codes piece_view
piece_codes_lem p = and_intro (ltb (pattern_code p.fit.pattern) 3) (ltb (flag_code p.fit.rotated) 2) (pattern_code_lem p.fit.pattern) (flag_code_lem p.fit.rotated)

node_codes_lem : (n : SliceNode) → T (node_codes (node_view n))
unfolding node_codes node_view
node_codes_lem (cut c a b) = direction c.orientation
  where
    direction : (d : Direction) → T (ltb (direction_code d) 2 || false || false)
    direction Direction.Horizontal = tt
    direction Direction.Vertical = tt
node_codes_lem (leaf r (cut_piece k)) = tt
node_codes_lem (leaf r free) = tt

-- ---- one tree

-- a guide as it is read
tree_read : SliceNode → Tree
tree_read (cut c a b) = fork (node_view (cut c a b)) (tree_read a) (tree_read b)
tree_read (leaf r k) = tip (node_view (leaf r k))

tree_nodes : (t : SliceNode) → nodes_of_tree (tree_read t) ≡ map node_view (preorder t)
unfolding tree_read nodes_of_tree preorder
tree_nodes (cut c a b) =
    ap {B = List NodeIn} (λ r. node_view (cut c a b) ∷ r) ((λ i. tree_nodes a i ++ tree_nodes b i) ∙ sym (map_append node_view (preorder a) (preorder b)))
tree_nodes (leaf r k) = refl

tree_cuts : (t : SliceNode) → CutsFork (tree_read t)
unfolding tree_read CutsFork node_view
tree_cuts (cut c a b) = (tt, tree_cuts a, tree_cuts b)
tree_cuts (leaf r (cut_piece k)) = tt
tree_cuts (leaf r free) = tt

tree_codes : (o : Option SliceNode) → T (one_tree (map node_view (nodes_of o)))
unfolding one_tree nodes_of
tree_codes none = tt
tree_codes (some t) = subst (λ (ns : List NodeIn). T (one_tree ns)) (tree_nodes t) (tree_is_one (tree_read t) (tree_cuts t))

-- ---- a body

sheet_codes_lem : (s : GuillotineSheet) → T (sheet_codes (sheet_view s))
unfolding sheet_codes sheet_view
sheet_codes_lem s =
    let ps = all piece_codes (map piece_view s.placed_pieces) in
    let ns = all node_codes (map node_view (nodes_of s.slicing_tree)) in
    and_intro (ps && ns) (one_tree (map node_view (nodes_of s.slicing_tree)))
    (and_intro ps ns (map_pass piece_codes piece_view piece_codes_lem s.placed_pieces) (map_pass node_codes node_view node_codes_lem (nodes_of s.slicing_tree)))
    (tree_codes s.slicing_tree)

body_in_layout_lem : (s : GuillotineSheet) → T (body_in_layout (sheet_words s))
unfolding body_in_layout sheet_words
body_in_layout_lem s =
    let size = head_size + piece_size * length s.placed_pieces + waste_size * length s.free_rects + node_size * length (nodes_of s.slicing_tree) in
    let exact : T (eqb (length (sheet_words s)) size) = of_true (eq-eqb (length (sheet_words s)) size (sheet_length s)) in
    let codes : T (sheet_codes (sheet_in (sheet_words s))) = subst (λ (r : SheetIn). T (sheet_codes r)) (sym (sheet_read s)) (sheet_codes_lem s) in
    and_intro (eqb (length (sheet_words s)) size) (sheet_codes (sheet_in (sheet_words s))) exact codes

-- ---- the contents

-- an entry that is as it should be, and what follows it
entry_agrees : (words : List ℕ) (k at : ℕ) (body : List ℕ) (ks : List ℕ) → Entry words k at body → T (body_in_layout body) → T (bodies_from words (at + length body) ks)
    → T (bodies_from words at (k ∷ ks))
unfolding bodies_from
entry_agrees words k at body ks e b later =
    let start : T (eqb (start_word words k) at) = of_true (eq-eqb (start_word words k) at e.start) in
    let inside : T (leb (at + length_word words k) (length words)) = rw e.size (le→leb (at + length body) (length words) e.inside) in
    let part : T (body_in_layout (sheet_part words k)) = rw e.part b in
    let rest : T (bodies_from words (at + length_word words k) ks) = rw e.size later in
    let ts = eqb (start_word words k) at in
    let ti = leb (at + length_word words k) (length words) in
    let tb = body_in_layout (sheet_part words k) in
    and_intro (ts && ti && tb) (bodies_from words (at + length_word words k) ks) (and_intro (ts && ti) tb (and_intro ts ti start inside) part) rest

-- the next body starts where this one ends
next_start : (us : List GuillotineSheet) (s : GuillotineSheet) (vs : List GuillotineSheet)
    → body_start ((us ++ (s ∷ [])) ++ vs) (us ++ (s ∷ [])) ≡ body_start (us ++ s ∷ vs) us + length (sheet_words s)
unfolding concat_map
next_start us s vs =
    let bodies = map sheet_words us in
    omega (
      arith,
      ap length (append_snoc us s vs),
      ap (λ (bs : List (List ℕ)). length (joined bs)) (map_append sheet_words us (s ∷ [])),
      ap length (concat_map_append (λ b. b) bodies (sheet_words s ∷ [])),
      length-append (joined bodies) (sheet_words s ++ []),
      length-append (sheet_words s) [],
    )

module _ (layout : LayoutKind) (fitness : Float) (rest : List ℕ) where
  bodies_agree : (us vs : List GuillotineSheet)
      → T (bodies_from (plan_words layout fitness (us ++ vs) ++ rest) (body_start (us ++ vs) us) (count_from (length us) (length vs)))
  unfolding count_from bodies_from
  bodies_agree us [] = tt
  bodies_agree us (s ∷ vs) =
      let later : T (bodies_from (plan_words layout fitness (us ++ s ∷ vs) ++ rest) (body_start (us ++ s ∷ vs) us + length (sheet_words s)) (count_from (suc (length us)) (length vs))) =
      subst (λ (x : List GuillotineSheet × ℕ × ℕ). T (bodies_from (plan_words layout fitness x.0 ++ rest) x.1 (count_from x.2 (length vs))))
      (λ i. (append_snoc us s vs i, next_start us s vs i, (length-append us (s ∷ []) ∙ add-one (length us)) i)) (bodies_agree (us ++ (s ∷ [])) vs)
      in
      entry_agrees _ (length us) (body_start (us ++ s ∷ vs) us) (sheet_words s) (count_from (suc (length us)) (length vs)) (entry_of_sheet layout fitness rest us s vs) (body_in_layout_lem s) later

  pub plan_in_layout : (bins : List GuillotineSheet) → InLayout (plan_words layout fitness bins ++ rest)
  unfolding in_layout plan_words concat_map
  plan_in_layout bins =
      let words = plan_words layout fitness bins ++ rest in
      let n = length bins in
      let long : T (leb (entry_of n) (length words)) = le→leb (entry_of n) (length words) (contents_inside layout fitness bins rest) in
      and_intro (leb (entry_of n) (length words) && ltb (layout_code layout) 2) (bodies_from words (entry_of n) (range n))
      (and_intro (leb (entry_of n) (length words)) (ltb (layout_code layout) 2) long (layout_code_lem layout))
      (subst (λ (m : ℕ). T (bodies_from words m (range n))) (omega arith) (bodies_agree [] bins))
