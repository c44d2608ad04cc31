-- Every word of a plan is a u32, for a file of bytes.
use Rattle.std.specs.Prelude.{if◌then◌else◌}
use Prim.Native.Nat.{ℕ, ◌+◌, ◌*◌, ◌^◌, ◌≤◌, ◌<◌}
use native.Mathlib.Nat.{mul-le-mul_right, div-le_of_le-mul}
use native.Mathlib.Omega.{arith}
use mathlib.Core.Path.{◌≡◌, sym, ap, subst}
use mathlib.Core.Bool.{Bool, true, false}
use mathlib.Core.List.{List, [], ◌∷◌, ◌++◌, map}
use mathlib.Core.Option.{none, some, get_or}
use lib.Dec.{T, eqb}
use lib.ListN.{length, length-append}
use lib.Ieee.{Float, binary64, add, div, fits, to_bits}
use lib.Ieee.Bits.{to_bits-lt}
use lib.Ieee.Fits.{div-fits}
use Rattle.lists.specs.Base.{foldl, concat_map}
use Rattle.lists.specs.Elements.{All}
use Rattle.model.specs.declared.Rect.{Rect}
use Rattle.model.specs.declared.Direction.{Direction}
use Rattle.model.specs.declared.PatternDirection.{PatternDirection}
use Rattle.model.specs.declared.LayoutKind.{LayoutKind}
use Rattle.model.specs.declared.StockInstance.{StockInstance}
use Rattle.model.specs.declared.BaselineGuillotineHeuristic.{BaselineGuillotineHeuristic}
use Rattle.model.specs.Types.{stock_rect, stock_area, pattern_code, layout_code, layout_of, direction_code, flag_code}
use Rattle.model.specs.Refusal.{most_side, most_instances}
use Rattle.model.specs.Guide.{SliceNode, cut, leaf, free, cut_piece, span}
use Rattle.model.specs.Sheet.{GuillotineSheet, PlacedPiece}
use Rattle.model.specs.Fitness.{weight, used_stock_area, weighted_fitness, fitness, positive_zero, one}
use Rattle.model.specs.Project.{project_of}
use Rattle.model.specs.Plan.{words64, rect_words, piece_words, nodes_of, node_words, along_cut, saw_length, use_of, saw_of, sheet_words, contents_from, plan_words}
use Rattle.model.specs.Answer.{plan, answer_with}
use Rattle.trust.specs.Sound.{piece_rects}
use Rattle.trust.specs.Admitted.{BoardRange, PanelRange, Ranged}
use Rattle.trust.specs.WellCut.{NodeWithin}
use Rattle.trust.specs.Proper.{Bounded, SheetProper}
use Rattle.lists.proofs.Perm.{all_map, all_both, all_append}
use Rattle.lists.proofs.Sums.{sum_most}
use Rattle.lists.proofs.Every.{map_all, concat_map_all}
use Rattle.trust.proofs.Answer.{instance_of}
use Rattle.trust.proofs.Ranges.{Byte, ranged}
use Rattle.trust.proofs.Bounded.{RectRange, rect_range, pieces_range, free_range, placed_most}
use Rattle.trust.proofs.CandidateSize.{SheetCounts, candidate_counts}
use Rattle.trust.proofs.Planned.{plan_admitted, Planned, no_cuts, searched_for, planned}
use Rattle.trust.proofs.PlanSize.{body_words, plan_length, plan_size_most}

abbrev pub Word : ℕ → Type 0
Word w = w < 2 ^ 32

-- what holds of a word, and of the words after it
infixr 10 ◌&◌
abbrev ◌&◌ : {A B : Type 0} → A → B → A × B
a & b = (a, b)

-- ---- pieces, rectangles, nodes

words64_range : (n : ℕ) → n < 2 ^ 64 → All Word (words64 n)
words64_range n h = omega arith & omega arith & tt

rect_words_lem : (kerf : ℕ) (r : Rect) → RectRange kerf r → All Word (rect_words r)
rect_words_lem kerf r h = omega arith & omega arith & omega arith & omega arith & tt

-- a u64, an instance and a rectangle
id_words : {kerf : ℕ} (id instance : ℕ) (r : Rect) → id < 2 ^ 64 → instance < most_instances → RectRange kerf r → All Word (words64 id ++ (instance ∷ []) ++ rect_words r)
id_words {kerf} id instance r h k q =
    let w = words64_range id h in
    w.0 & w.1.0 & omega arith & rect_words_lem kerf r q

pattern_code_lem : (p : PatternDirection) → pattern_code p ≤ 2
pattern_code_lem PatternDirection.None = omega arith
pattern_code_lem PatternDirection.ParallelToWidth = omega arith
pattern_code_lem PatternDirection.ParallelToLength = omega arith

flag_code_lem : (b : Bool) → flag_code b ≤ 1
flag_code_lem true = omega arith
flag_code_lem false = omega arith

direction_code_lem : (d : Direction) → direction_code d ≤ 1
direction_code_lem Direction.Horizontal = omega arith
direction_code_lem Direction.Vertical = omega arith

layout_code_lem : (l : LayoutKind) → layout_code l ≤ 1
layout_code_lem LayoutKind.Guillotine = omega arith
layout_code_lem LayoutKind.Nested = omega arith

abbrev PieceRange : ℕ → PlacedPiece → Type 0
PieceRange kerf p = PanelRange p.by.cut × RectRange kerf p.fit.rect

piece_words_lem : (kerf : ℕ) (p : PlacedPiece) → PieceRange kerf p → All Word (piece_words p)
unfolding piece_words
piece_words_lem kerf p h =
    let id = p.by.cut.cut_id in
    all_append Word (words64 id ++ (p.by.cut.instance ∷ []) ++ rect_words p.fit.rect) (pattern_code p.fit.pattern ∷ flag_code p.fit.rotated ∷ [])
    (id_words id p.by.cut.instance p.fit.rect h.0.id h.0.instance h.1)
    (omega (arith, pattern_code_lem p.fit.pattern) & omega (arith, flag_code_lem p.fit.rotated) & tt)

-- no side of a rectangle in a board is longer than the longest side
module _ (kerf : ℕ) (stock : StockInstance) (k : kerf ≤ most_side) (b : BoardRange stock) where
  node_words_lem : (n : SliceNode) → NodeWithin kerf (stock_rect stock) n → All Word (node_words n)
  unfolding node_words
  node_words_lem (cut c first second) h =
      let r = rect_range kerf stock c.work_rect k b h.work in
      omega arith & omega (arith, direction_code_lem c.orientation) & offset_word c.orientation c.work_rect c.offset h.offset r & omega (arith, h.kerf_width)
      & rect_words_lem kerf c.work_rect r
    where
      offset_word : (d : Direction) (r : Rect) (o : ℕ) → o + kerf < span d r → RectRange kerf r → Word o
      offset_word Direction.Horizontal r o h q = omega arith
      offset_word Direction.Vertical r o h q = omega arith
  node_words_lem (leaf r free) h = omega arith & omega arith & omega arith & omega arith & rect_words_lem kerf r (rect_range kerf stock r k b h)
  node_words_lem (leaf r (cut_piece key)) h = omega arith & id_words key.id key.instance r h.1.id h.1.instance (rect_range kerf stock r k b h.0)

  saw_most : (n : SliceNode) → NodeWithin kerf (stock_rect stock) n → saw_length n ≤ most_side
  unfolding saw_length
  saw_most (cut c first second) h = along c.orientation c.work_rect (rect_range kerf stock c.work_rect k b h.work)
    where
      along : (d : Direction) (r : Rect) → RectRange kerf r → along_cut d r ≤ most_side
      along Direction.Horizontal r q = q.width
      along Direction.Vertical r q = q.length
  saw_most (leaf r kind) h = omega arith

-- ---- a sheet

-- a share of at most 1, in thousandths
pub use_most : (kerf : ℕ) (s : GuillotineSheet) → Bounded kerf s → use_of s ≤ 1000
unfolding use_of
use_most kerf s h = div-le_of_le-mul (stock_area s.stock) (mul-le-mul_right 1000 (placed_most kerf s h.layout))

-- the cuts of a guide, 257 at most, each no longer than the longest side
pub saw_range : (kerf : ℕ) (s : GuillotineSheet) → kerf ≤ most_side → Bounded kerf s → saw_of s ≤ most_side * length (nodes_of s.slicing_tree)
unfolding saw_of
saw_range kerf s k h =
    sum_most saw_length most_side (nodes_of s.slicing_tree)
    (all_map (NodeWithin kerf (stock_rect s.stock)) (λ n. saw_length n ≤ most_side) (saw_most kerf s.stock k h.board) (nodes_of s.slicing_tree) h.guide)

pieces_all : (kerf : ℕ) (ps : List PlacedPiece) → All (λ p. PanelRange p.by.cut) ps → All (RectRange kerf) (piece_rects ps) → All (PieceRange kerf) ps
pieces_all kerf [] h r = tt
pieces_all kerf (p ∷ ps) h r = ((h.0, r.0), pieces_all kerf ps h.1 r.1)

pub sheet_range : (kerf : ℕ) (s : GuillotineSheet) → kerf ≤ most_side → Bounded kerf s → SheetCounts s → All Word (sheet_words s)
unfolding sheet_words
sheet_range kerf s k h c =
    let id = words64_range s.stock.stock_id h.board.id in
    id.0 & id.1.0 & omega (arith, h.board.instance) & omega (arith, h.board.width) & omega (arith, h.board.length)
    & omega (arith, use_most kerf s h) & omega (arith, saw_range kerf s k h, c.nodes)
    & omega (arith, c.pieces) & omega (arith, c.waste) & omega (arith, c.nodes)
    & all_append Word (concat_map piece_words s.placed_pieces ++ concat_map rect_words s.free_rects) (concat_map node_words (nodes_of s.slicing_tree))
    (all_append Word (concat_map piece_words s.placed_pieces) (concat_map rect_words s.free_rects)
    (concat_map_all (PieceRange kerf) Word piece_words (piece_words_lem kerf) s.placed_pieces (pieces_all kerf s.placed_pieces h.panels (pieces_range kerf s k h)))
    (concat_map_all (RectRange kerf) Word rect_words (rect_words_lem kerf) s.free_rects (free_range kerf s k h)))
    (concat_map_all (NodeWithin kerf (stock_rect s.stock)) Word node_words (node_words_lem kerf s.stock k h.board) (nodes_of s.slicing_tree) h.guide)

-- ---- the plan

-- starts and lengths stay within the plan
contents_range : (at : ℕ) (bodies : List (List ℕ)) → All (λ w. w ≤ at + length (concat_map (λ (b : List ℕ). b) bodies)) (contents_from at bodies)
unfolding contents_from concat_map
contents_range at [] = tt
contents_range at (body ∷ bodies) =
    let all = concat_map (λ (b : List ℕ). b) bodies in
    let most : length (body ++ all) ≡ length body + length all = length-append body all in
    omega arith & omega arith
    & all_map (λ w. w ≤ at + length body + length all) (λ w. w ≤ at + length (body ++ all)) (λ w h. omega arith) (contents_from (at + length body) bodies) (contents_range (at + length body) bodies)

bits_range : (f : Float) → T (fits binary64 f) → to_bits binary64 f < 2 ^ 64
bits_range f h = to_bits-lt binary64 f h

pub plan_range : (layout : LayoutKind) (f : Float) (sheets : List GuillotineSheet) → T (fits binary64 f) → length (plan_words layout f sheets) < 2 ^ 32
    → All (λ s. All Word (sheet_words s)) sheets → All Word (plan_words layout f sheets)
unfolding plan_words body_words
plan_range layout f sheets b l h =
    let bodies = map sheet_words sheets in
    let all = concat_map (λ (x : List ℕ). x) bodies in
    let size : length (plan_words layout f sheets) ≡ 4 + 2 * length sheets + length all = plan_length layout f sheets in
    let bits = words64_range (to_bits binary64 f) (bits_range f b) in
    omega arith & bits.0 & bits.1.0 & omega (arith, layout_code_lem layout)
    & all_append Word (contents_from (4 + 2 * length sheets) bodies) all
    (all_map (λ w. w ≤ 4 + 2 * length sheets + length all) Word (λ w k. omega arith) (contents_from (4 + 2 * length sheets) bodies) (contents_range (4 + 2 * length sheets) bodies))
    (concat_map_all (All Word) Word (λ (x : List ℕ). x) (λ x k. k) bodies (map_all (λ s. All Word (sheet_words s)) (All Word) sheet_words (λ s k. k) sheets h))

-- ---- the answer

pub fitness_fits : (bins : List GuillotineSheet) → T (fits binary64 (get_or (fitness bins) positive_zero))
unfolding fitness fits
fitness_fits bins = go (eqb (used_stock_area bins) 0)
  where
    sum_of : Float
    sum_of = foldl (add binary64) positive_zero (map weighted_fitness bins)

    go : (b : Bool) → T (fits binary64 (get_or (if b then none else some (div binary64 sum_of (weight (used_stock_area bins)))) positive_zero))
    go true = tt
    go false = div-fits binary64 sum_of (weight (used_stock_area bins))

one_fits : T (fits binary64 one)
unfolding fits
one_fits = tt

pub plan_words_lem : (rows : List BaselineGuillotineHeuristic) (bytes words : List ℕ) → All Byte bytes → answer_with rows bytes ≡ plan words → All Word words
plan_words_lem rows bytes words b e = go (planned rows bytes words b e)
  where
    r : Ranged (instance_of bytes)
    r = ranged bytes b (plan_admitted rows bytes words e)

    small : length words < 2 ^ 32
    small = omega (arith, plan_size_most rows bytes words b e)

    go : Planned bytes words → All Word words
    go (no_cuts z w) = subst (All Word) (sym w) (plan_range (layout_of (project_of bytes).layout) one [] one_fits (omega (arith, ap length w, small)) tt)
    go (searched_for p) =
        let kerf = (instance_of bytes).kerf_width in
        let bins = p.candidate.bins in
        let c = candidate_counts (instance_of bytes) r [] p.candidate p.proper in
        subst (All Word) (sym p.as_words)
        (plan_range LayoutKind.Guillotine (get_or (fitness bins) positive_zero) bins (fitness_fits bins) (omega (arith, ap length p.as_words, small))
        (all_both (SheetProper kerf) SheetCounts (λ s. All Word (sheet_words s)) (λ s h n. sheet_range kerf s r.kerf h.bounded n) bins p.proper.kept.sheets c.each))
