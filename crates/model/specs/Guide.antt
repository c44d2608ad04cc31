-- The cutting guide: `GuillotineSliceNode`, `Cut::new`, `guillotine_insert_subtree`, `replace_free_leaf`.
use Rattle.std.specs.Prelude.{ℕ, ◌+◌, ◌||◌, List, [], ◌∷◌, leb, eqb, if◌then◌else◌}
use Rattle.std.proofs.Math.Option.{Option, none, some}
use Rattle.lists.specs.Base.{◌<|>◌, ◌>>=◌}
use Rattle.model.specs.Types.{Direction, Rect, CutInstance, InstanceKey, rect, cut_key, same_rect}
use Rattle.model.specs.Split.{bottom_remainder, right_remainder}

-- render::Cut
pub record GuideCut : Type 0 where
  pub work_rect : Rect
  pub orientation : Direction
  pub offset : ℕ
  pub kerf_width : ℕ

pub data LeafKind : Type 0 where
  free : LeafKind
  cut_piece : InstanceKey → LeafKind

pub data SliceNode : Type 0 where
  cut : GuideCut → SliceNode → SliceNode → SliceNode
  leaf : Rect → LeafKind → SliceNode

abbrev pub span : Direction → Rect → ℕ
span Direction.Horizontal r = r.length
span Direction.Vertical r = r.width

-- Cut::new
unfoldable pub guide_cut : Rect → Direction → ℕ → ℕ → Option GuideCut
guide_cut work orientation offset kerf =
    if eqb work.width 0 || eqb work.length 0 || eqb offset 0 || leb (span orientation work) (offset + kerf)
    then none
    else some (record { work_rect = work; orientation = orientation; offset = offset; kerf_width = kerf })

-- a node with its remainder, if there is one, cut off from the work rectangle
unfoldable pub cut_off : Rect → Direction → ℕ → ℕ → List Rect → SliceNode → Option SliceNode
cut_off work orientation offset kerf [] node = some node
cut_off work orientation offset kerf (remainder ∷ rest) node =
    guide_cut work orientation offset kerf >>= λ c. some (cut c node (leaf remainder free))

-- guillotine_insert_subtree: horizontal, then vertical. A remainder here is the one that the split pushes
unfoldable pub insert_subtree : Direction → ℕ → Rect → Rect → CutInstance → Option SliceNode
insert_subtree Direction.Horizontal kerf free_rect placed c =
    cut_off (rect free_rect.x free_rect.y free_rect.width placed.length) Direction.Vertical placed.width kerf
    (right_remainder kerf free_rect placed placed.length) (leaf placed (cut_piece (cut_key c)))
    >>= λ top. cut_off free_rect Direction.Horizontal placed.length kerf (bottom_remainder kerf free_rect placed free_rect.width) top
insert_subtree Direction.Vertical kerf free_rect placed c =
    cut_off (rect free_rect.x free_rect.y placed.width free_rect.length) Direction.Horizontal placed.length kerf
    (bottom_remainder kerf free_rect placed placed.width) (leaf placed (cut_piece (cut_key c)))
    >>= λ left. cut_off free_rect Direction.Vertical placed.width kerf (right_remainder kerf free_rect placed free_rect.length) left

-- replace_free_leaf: the tree with the first such leaf replaced, none where there is no such leaf
unfoldable pub replace_free_leaf : SliceNode → Rect → SliceNode → Option SliceNode
replace_free_leaf (cut c first second) target replacement =
    (replace_free_leaf first target replacement >>= λ n. some (cut c n second))
    <|> (replace_free_leaf second target replacement >>= λ n. some (cut c first n))
replace_free_leaf (leaf r free) target replacement = if same_rect r target then some replacement else none
replace_free_leaf (leaf r (cut_piece key)) target replacement = none
