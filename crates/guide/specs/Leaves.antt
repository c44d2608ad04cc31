-- The first free leaf of a rectangle among a tree's nodes, as in replace_free_leaf: first child before second.
use Rattle.std.specs.Prelude.{ℕ, zero, suc, ◌+◌, Bool, false, List, [], ◌∷◌, Option, drop, if◌then◌else◌}
use Rattle.std.specs.ControlFlow.{break_value}
use Rattle.model.specs.declared.Rect.{Rect}
use Rattle.model.specs.Types.{same_rect}
use Rattle.guide.specs.declared.subtree.Node.{Node}
use Rattle.guide.specs.declared.subtree.Node.TheVariants as node
use Rattle.std.specs.declared.ops.ControlFlow.{ControlFlow}
use Rattle.std.specs.declared.ops.ControlFlow.TheVariants.{Break, Continue}

abbrev pub is_free_leaf : Rect → Node → Bool
is_free_leaf target (node.Cut work orientation offset kerf) = false
is_free_leaf target (node.Piece r key) = false
is_free_leaf target (node.Free r) = same_rect r target

-- where a search stands: broken off at the leaf looked for, or past the nodes of a tree
abbrev pub Reached : Type 0
Reached = ControlFlow ℕ ℕ

-- among nodes that are to be so many trees, one behind the other, the first node with that number: broken off at the first leaf looked for, or past the
-- last tree; past the nodes where they run out before
unfoldable pub leaf_among : Rect → ℕ → ℕ → List Node → Reached
leaf_among target at zero nodes = Continue at
leaf_among target at (suc trees) [] = Continue at
leaf_among target at (suc trees) (node.Cut work orientation offset kerf ∷ nodes) = leaf_among target (at + 1) (suc (suc trees)) nodes
leaf_among target at (suc trees) (node.Piece r key ∷ nodes) = leaf_among target (at + 1) trees nodes
leaf_among target at (suc trees) (node.Free r ∷ nodes) = if same_rect r target then Break at else leaf_among target (at + 1) trees nodes

-- in the tree whose root is the node of a number
abbrev pub leaf_behind : Rect → ℕ → List Node → Reached
leaf_behind target at nodes = leaf_among target at 1 (drop at nodes)

-- the number of the first free leaf of a rectangle, if the first tree has one
abbrev pub free_leaf : Rect → List Node → Option ℕ
free_leaf target nodes = break_value (leaf_behind target 0 nodes)
