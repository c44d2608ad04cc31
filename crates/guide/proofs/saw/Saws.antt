-- The cuts' lengths of a guide's nodes are the definition's.
use Rattle.std.specs.Prelude as Language
use mathlib.Core.Path.{◌≡◌, refl, ap₂, ◌∙◌}
use mathlib.Core.List.{List, [], ◌∷◌, map}
use mathlib.Core.Option.{Option}
use Prim.Native.Nat.{ℕ, ◌+◌}
use Rattle.std.proofs.lemmas.List.Sums.{sum_by-cons}
use Rattle.lists.specs.Base.{sum}
use Rattle.model.specs.Guide.{SliceNode, cut, leaf, free, cut_piece}
use Rattle.model.specs.Plan.{nodes_of, saw_length}
use Rattle.guide.specs.Nodes.{node_of, guide_nodes}
use Rattle.guide.specs.Saws.{node_saw, saw_of_guide}

saw_read : (n : SliceNode) → node_saw (node_of n) ≡ saw_length n
unfolding saw_length
saw_read (cut c a b) = refl
saw_read (leaf r free) = refl
saw_read (leaf r (cut_piece key)) = refl

saws_read : (ns : List SliceNode) → Language.sum (map node_saw (map node_of ns)) ≡ sum (map saw_length ns)
unfolding sum
saws_read [] = refl
saws_read (n ∷ ns) = sum_by-cons (λ (x : ℕ). x) (node_saw (node_of n)) (map node_saw (map node_of ns)) ∙ ap₂ ◌+◌ (saw_read n) (saws_read ns)

pub saw_is : (guide : Option SliceNode) → Language.sum (map node_saw (guide_nodes guide)) ≡ saw_of_guide guide
saw_is guide = saws_read (nodes_of guide)
