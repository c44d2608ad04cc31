-- The plan as u32 words.
use Rattle.std.specs.Prelude.{ℕ, ◌+◌, ◌*◌, ◌/◌, ◌%◌, ◌^◌, ◌&&◌, List, [], ◌∷◌, ◌++◌, map, leb, ltb, length, get_or, take, drop, Float, if◌then◌else◌}
use Rattle.std.proofs.Math.Option.{Option, none, some}
use Rattle.std.specs.Float.{binary64}
use Rattle.std.specs.Float.Ieee.{to_bits}
use Rattle.lists.specs.Base.{sum, concat_map}
use Rattle.model.specs.Types.{LayoutKind, Direction, Rect, stock_area, pattern_code, layout_code, direction_code, flag_code}
use Rattle.model.specs.Guide.{SliceNode, cut, leaf, free, cut_piece}
use Rattle.model.specs.Sheet.{GuillotineSheet, PlacedPiece, placed_area}

-- a u64: low, then high
abbrev pub words64 : ℕ → List ℕ
words64 n = n % 2 ^ 32 ∷ n / 2 ^ 32 ∷ []

abbrev pub rect_words : Rect → List ℕ
rect_words r = r.x ∷ r.y ∷ r.width ∷ r.length ∷ []

unfoldable pub piece_words : PlacedPiece → List ℕ
piece_words p =
    words64 p.by.cut.cut_id ++ (p.by.cut.instance ∷ []) ++ rect_words p.fit.rect
    ++ (pattern_code p.fit.pattern ∷ flag_code p.fit.rotated ∷ [])

-- a cut before its first and its second child
unfoldable pub preorder : SliceNode → List SliceNode
preorder (cut c first second) = cut c first second ∷ preorder first ++ preorder second
preorder (leaf r k) = leaf r k ∷ []

unfoldable pub nodes_of : Option SliceNode → List SliceNode
nodes_of none = []
nodes_of (some tree) = preorder tree

unfoldable pub node_words : SliceNode → List ℕ
node_words (cut c first second) = 0 ∷ direction_code c.orientation ∷ c.offset ∷ c.kerf_width ∷ rect_words c.work_rect
node_words (leaf r (cut_piece key)) = 1 ∷ words64 key.id ++ key.instance ∷ rect_words r
node_words (leaf r free) = 2 ∷ 0 ∷ 0 ∷ 0 ∷ rect_words r

-- a guide cut's length: the work rectangle's width if horizontal, its length if vertical
abbrev pub along_cut : Direction → Rect → ℕ
along_cut Direction.Horizontal r = r.width
along_cut Direction.Vertical r = r.length

unfoldable pub saw_length : SliceNode → ℕ
saw_length (cut c first second) = along_cut c.orientation c.work_rect
saw_length (leaf r k) = 0

unfoldable pub use_of : GuillotineSheet → ℕ
use_of s = placed_area s * 1000 / stock_area s.stock

unfoldable pub saw_of : GuillotineSheet → ℕ
saw_of s = sum (map saw_length (nodes_of s.slicing_tree))

unfoldable pub sheet_words : GuillotineSheet → List ℕ
sheet_words s =
    words64 s.stock.stock_id ++ (s.stock.instance ∷ s.stock.width ∷ s.stock.length ∷ use_of s ∷ saw_of s ∷ [])
    ++ (length s.placed_pieces ∷ length s.free_rects ∷ length (nodes_of s.slicing_tree) ∷ [])
    ++ concat_map piece_words s.placed_pieces
    ++ concat_map rect_words s.free_rects
    ++ concat_map node_words (nodes_of s.slicing_tree)

-- start and length of each body, the first at a place
unfoldable pub contents_from : ℕ → List (List ℕ) → List ℕ
contents_from at [] = []
contents_from at (body ∷ bodies) = at ∷ length body ∷ contents_from (at + length body) bodies

unfoldable pub plan_words : LayoutKind → Float → List GuillotineSheet → List ℕ
plan_words layout fitness sheets =
    let bodies = map sheet_words sheets in
    (length sheets ∷ words64 (to_bits binary64 fitness)) ++ (layout_code layout ∷ contents_from (4 + 2 * length sheets) bodies)
    ++ concat_map (λ b. b) bodies

-- ---- the reader: one sheet's words as a part of the plan

-- where the contents have the entry of a sheet
abbrev pub entry_of : ℕ → ℕ
entry_of number = 4 + 2 * number

-- the words from a start on, of a length; none where they are not all there
unfoldable pub part_of : List ℕ → ℕ → ℕ → List ℕ
part_of words start size = if leb (start + size) (length words) then take size (drop start words) else []

-- none for an absent number, or an entry or its part beyond the slice
unfoldable pub sheet_part : List ℕ → ℕ → List ℕ
sheet_part words number =
    if leb 4 (length words) && ltb number (get_or words 0 0) && leb (entry_of number + 2) (length words)
    then part_of words (get_or words (entry_of number) 0) (get_or words (entry_of number + 1) 0)
    else []
