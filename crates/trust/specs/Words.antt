-- The words of a plan read back by position. Any words can be read so; `InLayout` says which have the layout.
use Rattle.std.specs.Prelude.{ℕ, zero, suc, ◌+◌, ◌*◌, ◌^◌, List, [], ◌∷◌, map, get_or, take, drop}
use Rattle.lists.specs.Base.{range, concat_map}
use Rattle.model.specs.declared.Rect.{Rect}
use Rattle.model.specs.declared.InstanceKey.{InstanceKey}
use Rattle.model.specs.Types.{rect}
use Rattle.model.specs.Plan.{sheet_part}

-- ---- what is read

pub record PieceIn : Type 0 where
  pub key : InstanceKey
  pub rect : Rect
  pub pattern : ℕ
  pub rotated : ℕ

-- a guide node: its kind says what its three words are
pub record NodeIn : Type 0 where
  pub kind : ℕ
  pub first : ℕ
  pub second : ℕ
  pub third : ℕ
  pub rect : Rect

pub record SheetIn : Type 0 where
  pub key : InstanceKey
  pub width : ℕ
  pub length : ℕ
  pub «use» : ℕ
  pub saw : ℕ
  pub pieces : List PieceIn
  pub waste : List Rect
  pub nodes : List NodeIn

-- ---- groups of words

abbrev pub word : List ℕ → ℕ → ℕ
word words k = get_or words k 0

-- as many groups of one size, one after the other
unfoldable pub groups : ℕ → ℕ → List ℕ → List (List ℕ)
groups size zero words = []
groups size (suc n) words = take size words ∷ groups size n (drop size words)

-- sizes: a body's words before its pieces, and those of a piece, a waste rectangle and a node
abbrev pub head_size : ℕ
head_size = 10

abbrev pub piece_size : ℕ
piece_size = 9

abbrev pub waste_size : ℕ
waste_size = 4

abbrev pub node_size : ℕ
node_size = 8

-- ---- reading

-- a u64, low then high
abbrev pub u64_at : List ℕ → ℕ → ℕ
u64_at words at = word words at + 2 ^ 32 * word words (at + 1)

-- an id and the instance after it
unfoldable pub key_at : List ℕ → ℕ → InstanceKey
key_at words at = record { id = u64_at words at; instance = word words (at + 2) }

unfoldable pub rect_at : List ℕ → ℕ → Rect
rect_at words at = rect (word words at) (word words (at + 1)) (word words (at + 2)) (word words (at + 3))

unfoldable pub piece_in : List ℕ → PieceIn
piece_in row = record { key = key_at row 0; rect = rect_at row 3; pattern = word row 7; rotated = word row 8 }

unfoldable pub waste_in : List ℕ → Rect
waste_in row = rect_at row 0

unfoldable pub node_in : List ℕ → NodeIn
node_in row = record { kind = word row 0; first = word row 1; second = word row 2; third = word row 3; rect = rect_at row 4 }

-- the key of a node of kind 1
unfoldable pub node_key : NodeIn → InstanceKey
node_key n = record { id = n.first + 2 ^ 32 * n.second; instance = n.third }

-- a body's three counts
abbrev pub piece_count : List ℕ → ℕ
piece_count body = word body 7

abbrev pub waste_count : List ℕ → ℕ
waste_count body = word body 8

abbrev pub node_count : List ℕ → ℕ
node_count body = word body 9

-- where its waste and its nodes start
abbrev pub waste_start : List ℕ → ℕ
waste_start body = head_size + piece_size * piece_count body

abbrev pub nodes_start : List ℕ → ℕ
nodes_start body = waste_start body + waste_size * waste_count body

unfoldable pub sheet_in : List ℕ → SheetIn
sheet_in body =
    record {
      key = key_at body 0;
      width = word body 3;
      length = word body 4;
      «use» = word body 5;
      saw = word body 6;
      pieces = map piece_in (groups piece_size (piece_count body) (drop head_size body));
      waste = map waste_in (groups waste_size (waste_count body) (drop (waste_start body) body));
      nodes = map node_in (groups node_size (node_count body) (drop (nodes_start body) body));
    }

-- ---- the plan

-- its first four words
abbrev pub sheet_count : List ℕ → ℕ
sheet_count words = word words 0

abbrev pub fitness_bits : List ℕ → ℕ
fitness_bits words = u64_at words 1

abbrev pub layout_word : List ℕ → ℕ
layout_word words = word words 3

-- each sheet through its entry of the contents, in their order
unfoldable pub sheets_in : List ℕ → List SheetIn
sheets_in words = map (λ k. sheet_in (sheet_part words k)) (range (sheet_count words))

-- the pieces of all sheets
unfoldable pub pieces_in : List SheetIn → List PieceIn
pieces_in sheets = concat_map (λ s. s.pieces) sheets
