-- Which words are in the layout of a plan. Nothing past the last body is read.
use Rattle.std.specs.Prelude.{ℕ, zero, suc, ◌+◌, ◌*◌, Bool, true, false, ◌&&◌, ◌||◌, List, [], ◌∷◌, T, leb, ltb, eqb, length, if◌then◌else◌}
use Rattle.lists.specs.Base.{all, is_empty, range}
use Rattle.model.specs.Plan.{entry_of, sheet_part}
use Rattle.trust.specs.Words.{PieceIn, NodeIn, SheetIn, word, head_size, piece_size, waste_size, node_size, piece_count, waste_count, node_count, sheet_in, sheet_count, layout_word}

-- ---- codes

unfoldable pub piece_codes : PieceIn → Bool
piece_codes p = ltb p.pattern 3 && ltb p.rotated 2

abbrev pub is_cut : NodeIn → Bool
is_cut n = eqb n.kind 0

abbrev pub is_piece : NodeIn → Bool
is_piece n = eqb n.kind 1

abbrev pub is_waste : NodeIn → Bool
is_waste n = eqb n.kind 2

-- kind 0 has an orientation, kind 2 three zeros
unfoldable pub node_codes : NodeIn → Bool
node_codes n =
    (is_cut n && ltb n.first 2)
    || is_piece n
    || (is_waste n && eqb n.first 0 && eqb n.second 0 && eqb n.third 0)

-- ---- a tree, a cut before its first and its second child

-- the nodes are exactly as many subtrees: each node is the next one's root, and a cut has two more to come
unfoldable pub subtrees : ℕ → List NodeIn → Bool
subtrees n [] = eqb n 0
subtrees zero (node ∷ nodes) = false
subtrees (suc n) (node ∷ nodes) = subtrees (if is_cut node then suc (suc n) else n) nodes

unfoldable pub one_tree : List NodeIn → Bool
one_tree nodes = is_empty nodes || subtrees 1 nodes

-- ---- a body

unfoldable pub sheet_codes : SheetIn → Bool
sheet_codes s = all piece_codes s.pieces && all node_codes s.nodes && one_tree s.nodes

unfoldable pub body_in_layout : List ℕ → Bool
body_in_layout body =
    eqb (length body) (head_size + piece_size * piece_count body + waste_size * waste_count body + node_size * node_count body)
    && sheet_codes (sheet_in body)

-- ---- the contents

-- an entry's start and length
abbrev pub start_word : List ℕ → ℕ → ℕ
start_word words k = word words (entry_of k)

abbrev pub length_word : List ℕ → ℕ → ℕ
length_word words k = word words (entry_of k + 1)

-- the bodies of these numbers follow one another from a place on, inside the slice
unfoldable pub bodies_from : List ℕ → ℕ → List ℕ → Bool
bodies_from words at [] = true
bodies_from words at (k ∷ ks) =
    eqb (start_word words k) at && leb (at + length_word words k) (length words) && body_in_layout (sheet_part words k)
    && bodies_from words (at + length_word words k) ks

unfoldable pub in_layout : List ℕ → Bool
in_layout words =
    leb (entry_of (sheet_count words)) (length words) && ltb (layout_word words) 2
    && bodies_from words (entry_of (sheet_count words)) (range (sheet_count words))

abbrev pub InLayout : List ℕ → Type 0
InLayout words = T (in_layout words)
