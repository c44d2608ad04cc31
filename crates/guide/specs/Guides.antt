-- What the step of an insertion makes of a guide, and of nodes.
use Rattle.std.specs.Prelude.{ℕ, Bool, List, [], Option, None, Some, if◌then◌else◌}
use Rattle.std.proofs.Math.Option as Defined
use Rattle.std.proofs.Math.Option.{none}
use Rattle.lists.specs.Base.{◌>>=◌}
use Rattle.model.specs.declared.Rect.{Rect}
use Rattle.model.specs.declared.Direction.{Direction}
use Rattle.model.specs.declared.CutInstance.{CutInstance}
use Rattle.model.specs.Guide.{SliceNode, insert_subtree, replace_free_leaf}
use Rattle.guide.specs.declared.subtree.Node.{Node}
use Rattle.guide.specs.Nodes.{subtree_nodes, subtree_of}
use Rattle.guide.specs.Leaves.{free_leaf}
use Rattle.guide.specs.Splices.{spliced}

-- the guide before merging, as in try_insert
unfoldable pub split_guide : Direction → ℕ → Rect → Rect → CutInstance → Defined.Option SliceNode → Defined.Option SliceNode
split_guide direction kerf free_rect placed cut guide =
    guide >>= λ tree. insert_subtree direction kerf free_rect placed cut >>= λ subtree. replace_free_leaf tree free_rect subtree

-- the guide after merging: none once a merge happened
abbrev pub next_guide : Bool → Direction → ℕ → Rect → Rect → CutInstance → Defined.Option SliceNode → Defined.Option SliceNode
next_guide merged direction kerf free_rect placed cut guide =
    if merged then none else split_guide direction kerf free_rect placed cut guide

-- ---- the same of any nodes

-- others in the place of the first free leaf of a rectangle; where there is none, no nodes
abbrev pub replaced_at : Option ℕ → List Node → List Node → List Node
replaced_at None others nodes = []
replaced_at (Some at) others nodes = spliced nodes at others

abbrev pub leaf_replaced : Rect → List Node → List Node → List Node
leaf_replaced target others nodes = replaced_at (free_leaf target nodes) others nodes

abbrev pub next_nodes : Bool → Direction → ℕ → Rect → Rect → CutInstance → List Node → List Node
next_nodes merged direction kerf free_rect placed cut nodes =
    if merged then [] else leaf_replaced free_rect (subtree_nodes (subtree_of direction kerf free_rect placed cut)) nodes
