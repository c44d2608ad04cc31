-- The text of a plan as `cutplan` prints it: a line for each of its parts, with the fields in the order of the plan's words.
use Rattle.std.specs.Prelude.{ℕ, ◌+◌, ◌*◌, ◌^◌, List, [], ◌∷◌, ◌++◌, length, if◌then◌else◌}
use Rattle.lists.specs.Base.{concat_map}
use Rattle.model.specs.declared.Rect.{Rect}
use Rattle.model.specs.declared.InstanceKey.{InstanceKey}
use Rattle.model.specs.Plan.{rect_words}
use Rattle.trust.specs.Words.{PieceIn, NodeIn, SheetIn, word, node_key, sheets_in}
use Rattle.trust.specs.InLayout.{is_cut, is_piece}
use Rattle.words.specs.Ascii.{ascii}
use Rattle.words.specs.Numerals.{decimal_of, hex_of}

-- a number behind a space
unfoldable pub field : ℕ → List ℕ
field n = 32 ∷ decimal_of n

-- a keyword, numbers, the line's end
unfoldable pub line : List ℕ → List ℕ → List ℕ
line keyword numbers = keyword ++ (concat_map field numbers ++ (10 ∷ []))

abbrev pub key_fields : InstanceKey → List ℕ
key_fields key = key.id ∷ key.instance ∷ []

unfoldable pub piece_line : PieceIn → List ℕ
piece_line p = line (ascii "piece") (key_fields p.key ++ (rect_words p.rect ++ (p.pattern ∷ p.rotated ∷ [])))

unfoldable pub waste_line : Rect → List ℕ
waste_line r = line (ascii "waste") (rect_words r)

-- a cut, a piece's leaf, a waste leaf without its zeros
unfoldable pub node_line : NodeIn → List ℕ
node_line n =
    if is_cut n
    then line (ascii "cut") (n.first ∷ n.second ∷ n.third ∷ rect_words n.rect)
    else (if is_piece n
    then line (ascii "leaf") (key_fields (node_key n) ++ rect_words n.rect)
    else line (ascii "leaf waste") (rect_words n.rect))

-- the counts are dropped but for the guide's
unfoldable pub sheet_text : SheetIn → List ℕ
sheet_text s =
    line (ascii "sheet") (key_fields s.key ++ (s.width ∷ s.length ∷ s.«use» ∷ s.saw ∷ []))
    ++ (concat_map piece_line s.pieces
    ++ (concat_map waste_line s.waste
    ++ (line (ascii "guide") (length s.nodes ∷ [])
    ++ concat_map node_line s.nodes)))

unfoldable pub sheet_texts : List ℕ → List ℕ
sheet_texts words = concat_map sheet_text (sheets_in words)

-- the fitness is its 64 bits
unfoldable pub first_line : List ℕ → List ℕ
first_line words =
    ascii "plan" ++ (field (word words 0)
    ++ (ascii " fitness " ++ (hex_of (word words 1 + 2 ^ 32 * word words 2)
    ++ line (ascii " layout") (word words 3 ∷ []))))

unfoldable pub plan_text : List ℕ → List ℕ
plan_text words = first_line words ++ sheet_texts words
