-- A sheet's body, put together of its parts.
use Rattle.std.specs.Prelude as Language
use Prim.Native.Nat.{ℕ, ◌+◌, ◌*◌, ◌/◌, ◌^◌, ◌≤◌, ◌<◌}
use native.Mathlib.Nat.{mul-pos}
use native.Mathlib.Omega.{arith}
use mathlib.Core.Path.{◌≡◌, refl, sym, ap, ◌∙◌}
use mathlib.Core.List.{List, ◌++◌, map}
use lib.ListN.{length, length-append}
use Rattle.lists.proofs.Sums.{length-map}
use Rattle.lists.specs.Base.{concat_map}
use Rattle.lists.specs.Parts.{patch}
use Rattle.lists.proofs.Parts.{then_patch, patch_front}
use Rattle.model.specs.declared.Rect.{Rect}
use Rattle.model.specs.declared.StockInstance.{StockInstance}
use Rattle.model.specs.Types.{stock_area}
use Rattle.model.specs.Refusal.{most_side}
use Rattle.model.specs.Sheet.{GuillotineSheet}
use Rattle.model.specs.Plan.{rect_words, piece_words, nodes_of, node_words, use_of, saw_of, sheet_words}
use Rattle.trust.specs.Limits.{most_area, most_nodes}
use Rattle.trust.specs.Proper.{Bounded}
use Rattle.trust.proofs.Bounded.{placed_most, board_area_most}
use Rattle.trust.proofs.RoundTrip.{sheet_length, waste_size_lem, pieces_size}
use Rattle.trust.proofs.PlanRange.{saw_range}
use Rattle.guide.specs.declared.subtree.Node.{Node}
use Rattle.guide.specs.Nodes.{node_of, words_of}
use Rattle.guide.proofs.subtree.Trees.{nodes_words}
use Rattle.guide.specs.Saws as saws
use Rattle.guide.proofs.saw.Saws.{saw_is}
use Rattle.plan.specs.declared.sheet_plan.Progress.{Progress}
use Rattle.plan.specs.Heads.{head_words}
use Rattle.plan.specs.declared.sheet_plan.Body.{Body}
use Rattle.candidate.specs.Areas.{areas_of}
use Rattle.plan.specs.Replaying.{Replayed, WritesSheet, Finishable, finished_part, Finishes}

-- ---- the words by their parts

abbrev pub head_of : GuillotineSheet → List ℕ
head_of s = head_words s.stock (use_of s) (saw_of s) (length s.placed_pieces) (length s.free_rects) (length (nodes_of s.slicing_tree))

abbrev pieces : GuillotineSheet → List ℕ
pieces s = concat_map piece_words s.placed_pieces

abbrev waste : GuillotineSheet → List ℕ
waste s = concat_map rect_words s.free_rects

abbrev nodes : GuillotineSheet → List ℕ
nodes s = concat_map node_words (nodes_of s.slicing_tree)

whole : (s : GuillotineSheet) → head_of s ++ ((pieces s ++ waste s) ++ nodes s) ≡ sheet_words s
unfolding sheet_words head_words
whole s = refl

head_length : (stock : StockInstance) (a b c d e : ℕ) → length (head_words stock a b c d e) ≡ 10
unfolding head_words
head_length stock a b c d e = refl

-- ---- a sheet that is made again

module _ (kerf : ℕ) (s : GuillotineSheet) (rects : List Rect) (guide : List Node) (p : Progress) (state : Replayed kerf s rects guide p) where
  free_count_lem : length s.free_rects ≡ length rects
  free_count_lem = ap length state.free.rects

  node_count_lem : length (nodes_of s.slicing_tree) ≡ length guide
  node_count_lem = sym (ap length state.nodes ∙ length-map node_of (nodes_of s.slicing_tree))

  -- its length is told by the counts
  pub body_length_lem : length (sheet_words s) ≡ 10 + 9 * p.pieces + 4 * length rects + 8 * length guide
  body_length_lem = omega (arith, sheet_length s, free_count_lem, state.pieces, node_count_lem)

  sawn : Language.sum (map saws.node_saw guide) ≡ saw_of s
  unfolding saw_of
  sawn = ap (λ (ns : List Node). Language.sum (map saws.node_saw ns)) state.nodes ∙ saw_is s.slicing_tree

  node_words_lem : concat_map words_of guide ≡ nodes s
  node_words_lem = ap (concat_map words_of) state.nodes ∙ nodes_words (nodes_of s.slicing_tree)

  module _ (thin : kerf ≤ most_side) (bounded : Bounded kerf s) (few : length s.placed_pieces ≤ 64) where
    few_pieces : p.pieces ≤ 64
    few_pieces = omega (arith, state.pieces)

    few_rects : length rects ≤ 65
    few_rects = omega (arith, free_count_lem, bounded.free)

    few_nodes : length guide ≤ most_nodes
    few_nodes = omega (arith, node_count_lem, bounded.nodes)

    sawable : Language.sum (map saws.node_saw guide) < 2 ^ 32
    unfolding saw_of
    sawable = omega (arith, sawn, saw_range kerf s thin bounded, bounded.nodes)

    shares : (0 < stock_area s.stock) × (p.placed ≤ stock_area s.stock) × (stock_area s.stock ≤ most_area)
    shares = (mul-pos bounded.board.wide bounded.board.long, omega (arith, state.placed, placed_most kerf s bounded.layout), board_area_most s.stock bounded.board)

    -- what follows the pieces can be written
    pub sizes : (part : List ℕ) (stock : StockInstance) → s.stock ≡ stock → length (sheet_words s) ≤ length part → Finishable part rects guide stock p
    sizes part stock board room =
        let same : stock_area s.stock ≡ stock_area stock = ap (λ (b : StockInstance). stock_area b) board in
        record {
          fits = omega (arith, room, body_length_lem);
          pieces = few_pieces;
          rectangles = few_rects;
          nodes = few_nodes;
          sawable = sawable;
          positive = rw same at shares.0;
          most = rw same at shares.2;
          share = rw same at shares.1;
        }

  -- the parts, written one after the other
  module _ (before part : List ℕ) (size : length before ≡ length part) (room : length (sheet_words s) ≤ length part) (first : part ≡ patch before 10 (pieces s)) where
    module _ (part₁ part₂ part₃ : List ℕ) (saw used : ℕ)
        (second : part₁ ≡ patch part (10 + 9 * p.pieces) (concat_map rect_words rects))
        (third : part₂ ≡ patch part₁ (10 + 9 * p.pieces + 4 * length rects) (concat_map words_of guide))
        (summed : saw ≡ Language.sum (map saws.node_saw guide)) (share : used ≡ p.placed * 1000 / stock_area s.stock)
        (fourth : part₃ ≡ patch part₂ 0 (head_words s.stock used saw p.pieces (length rects) (length guide))) where
      wasted : part₁ ≡ patch part (10 + 9 * p.pieces) (waste s)
      wasted = rw state.free.rects second

      behind_pieces : part₁ ≡ patch before 10 (pieces s ++ waste s)
      behind_pieces =
          then_patch before part part₁ 10 (pieces s) (waste s) (10 + 9 * p.pieces) first wasted (omega (arith, pieces_size s.placed_pieces, state.pieces)) (omega (arith, pieces_size s.placed_pieces, state.pieces, body_length_lem))

      parts_length : length (pieces s ++ waste s) ≡ 9 * p.pieces + 4 * length rects
      parts_length =
          omega (arith, length-append (pieces s) (waste s), pieces_size s.placed_pieces, waste_size_lem s.free_rects, free_count_lem, state.pieces)

      behind_waste : part₂ ≡ patch before 10 ((pieces s ++ waste s) ++ nodes s)
      behind_waste =
          then_patch before part₁ part₂ 10 (pieces s ++ waste s) (nodes s) (10 + 9 * p.pieces + 4 * length rects) behind_pieces (rw node_words_lem at third) (omega (arith, parts_length))
          (omega (arith, parts_length, body_length_lem, free_count_lem))

      head_is : head_words s.stock used saw p.pieces (length rects) (length guide) ≡ head_of s
      unfolding use_of
      head_is =
          let use_is : used ≡ use_of s = share ∙ rw state.placed in
          let length_is : saw ≡ saw_of s = summed ∙ sawn in
          rw (use_is, length_is, state.pieces, ← free_count_lem, ← node_count_lem)

      body : part₃ ≡ patch before 0 (sheet_words s)
      body =
          let rest : List ℕ = (pieces s ++ waste s) ++ nodes s in
          let size_of : length (sheet_words s) ≡ 10 + length rest = omega (arith, ap length (whole s), length-append (head_of s) rest, head_length s.stock (use_of s) (saw_of s) (length s.placed_pieces) (length s.free_rects) (length (nodes_of s.slicing_tree))) in
          fourth
          ∙ ap (patch part₂ 0) head_is
          ∙ ap (λ (l : List ℕ). patch l 0 (head_of s)) behind_waste
          ∙ patch_front before 10 0 (head_of s) rest (omega (arith, head_length s.stock (use_of s) (saw_of s) (length s.placed_pieces) (length s.free_rects) (length (nodes_of s.slicing_tree)))) (omega arith)
          ∙ ap (patch before 0) (whole s)

    -- the part is the sheet's then
    pub finished : (stock : StockInstance) → s.stock ≡ stock → (after : List ℕ) (b : Body) → Finishes part after rects guide stock p b → WritesSheet s before after b
    finished stock board after b f =
        record {
          words =
              f.words ∙ ap (λ (b : StockInstance). finished_part part rects guide b p) (sym board)
              ∙ body _ _ (finished_part part rects guide s.stock p) _ _ refl refl refl refl refl;
          size = omega (arith, f.size, body_length_lem);
          areas = f.areas ∙ areas stock board;
        }
      where
        areas : (stock : StockInstance) → s.stock ≡ stock → record { placed = p.placed; board = stock_area stock } ≡ areas_of s
        areas stock board = λ i. record { placed = state.placed i; board = stock_area (sym board i) }
