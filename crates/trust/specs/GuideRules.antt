-- The guide of a sheet, over its words, with its use and saw.
use Rattle.std.specs.Prelude.{ℕ, ◌+◌, ◌-◌, ◌*◌, ◌/◌, ◌≡◌, Bool, true, false, not, ◌&&◌, ◌||◌, List, [], ◌∷◌, map, T, leb, ltb, eqb, if◌then◌else◌}
use Rattle.std.proofs.Math.Option.{none, some}
use Rattle.lists.specs.Base.{sum, retain, is_empty}
use Rattle.lists.specs.Elements.{Perm}
use Rattle.model.specs.declared.Rect.{Rect}
use Rattle.model.specs.declared.InstanceKey.{InstanceKey}
use Rattle.model.specs.Types.{rect, area}
use Rattle.model.specs.Merge.{merges_any}
use Rattle.model.specs.Sheet.{GuillotineSheet, Insertion, best_place, split_rects, insert_at}
use Rattle.trust.specs.Words.{NodeIn, SheetIn, node_key}
use Rattle.trust.specs.InLayout.{is_cut, is_piece, is_waste}
use Rattle.trust.specs.PieceRules.{piece_rects_in}

-- one of the insertions of a making merged
unfoldable pub merged_from : ℕ → GuillotineSheet → List Insertion → Bool
merged_from kerf s [] = false
merged_from kerf s (i ∷ rest) =
    elim (best_place s i) [
      | none ↦ merged_from kerf s rest
      | some p ↦ merges_any kerf (split_rects kerf s i p) || merged_from kerf (insert_at kerf s i p) rest
    ]

-- ---- leaves

unfoldable pub piece_leaves_in : List NodeIn → List (Rect × InstanceKey)
piece_leaves_in nodes = map (λ n. (n.rect, node_key n)) (retain is_piece nodes)

unfoldable pub waste_leaves_in : List NodeIn → List Rect
waste_leaves_in nodes = map (λ n. n.rect) (retain is_waste nodes)

-- ---- parts

-- a rectangle in the corner of its part, short of it by no more than a kerf along either side
unfoldable pub sits_in : ℕ → Rect → Rect → Bool
sits_in kerf part r =
    eqb r.x part.x && eqb r.y part.y
    && leb r.width part.width && leb part.width (r.width + kerf)
    && leb r.length part.length && leb part.length (r.length + kerf)

-- a cut's three words are its orientation, its offset and the kerf
abbrev pub is_horizontal : NodeIn → Bool
is_horizontal n = eqb n.first 0

-- the parts of a cut's two children
unfoldable pub part_before : NodeIn → Rect
part_before n =
    let r = n.rect in
    if is_horizontal n then rect r.x r.y r.width n.second else rect r.x r.y n.second r.length

unfoldable pub part_after : NodeIn → Rect
part_after n =
    let r = n.rect in
    let gap = n.second + n.third in
    if is_horizontal n
    then rect r.x (r.y + gap) r.width (r.length - gap)
    else rect (r.x + gap) r.y (r.width - gap) r.length

-- a cut leaves something before its offset and after its kerf of the side that it divides, as Cut::new asks
unfoldable pub divides : NodeIn → Bool
divides n = ltb 0 n.second && ltb (n.second + n.third) (if is_horizontal n then n.rect.length else n.rect.width)

-- the nodes fill the parts that are still to come, one subtree each, a cut before its first and its second child
unfoldable pub fills_parts : ℕ → List Rect → List NodeIn → Bool
fills_parts kerf [] [] = true
fills_parts kerf [] (n ∷ nodes) = false
fills_parts kerf (part ∷ parts) [] = false
fills_parts kerf (part ∷ parts) (n ∷ nodes) =
    sits_in kerf part n.rect
    && (
    if is_cut n then eqb n.third kerf && divides n && fills_parts kerf (part_before n ∷ part_after n ∷ parts) nodes
    else fills_parts kerf parts nodes
    )

-- ---- use and saw

-- use, in thousandths of the board
unfoldable pub use_in : SheetIn → ℕ
use_in s = sum (map area (piece_rects_in s)) * 1000 / (s.width * s.length)

-- how far the saw goes along a cut
unfoldable pub saw_in : NodeIn → ℕ
saw_in n = if is_cut n then (if is_horizontal n then n.rect.width else n.rect.length) else 0

-- ---- the rules, for a sheet and the bare sheet and insertions of its making

abbrev pub HasGuide : SheetIn → Type 0
HasGuide s = T (not (is_empty s.nodes))

pub record GuideRules (kerf : ℕ) (bare : GuillotineSheet) (making : List Insertion) (s : SheetIn) : Type 0 where
  -- there unless the making merged; what it ends in is then what lies on the sheet
  pub present : is_empty s.nodes ≡ merged_from kerf bare making
  pub piece_leaves : HasGuide s → Perm (piece_leaves_in s.nodes) (map (λ p. (p.rect, p.key)) s.pieces)
  pub waste_leaves : HasGuide s → Perm (waste_leaves_in s.nodes) s.waste
  -- from the whole sheet down
  pub parts : HasGuide s → T (fills_parts kerf (rect 0 0 s.width s.length ∷ []) s.nodes)
  pub own_use : s.«use» ≡ use_in s
  pub own_saw : s.saw ≡ sum (map saw_in s.nodes)
