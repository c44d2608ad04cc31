-- The rows are the definition's, with a number's two halves and an orientation's number.
use mathlib.Core.Path.{◌≡◌, refl, sym, ap, ◌∙◌}
use mathlib.Core.List.{[], ◌∷◌}
use Prim.Native.Nat.{ℕ}
use denote.Enum.Declared.{tag_of}
use Rattle.std.proofs.Common.{rules}
use Rattle.model.specs.declared.Direction.{Direction}
use Rattle.model.specs.declared.Rect.{Rect}
use Rattle.model.specs.contracts.Direction.{the_type}
use Rattle.model.specs.Types.{direction_code}
use Rattle.model.specs.Plan.{node_words}
use Rattle.guide.specs.Nodes.{words_of}
use Rattle.guide.proofs.subtree.Node.words.Goals as goal

code_is : (o : Direction) → tag_of the_type o ≡ direction_code o
code_is Direction.Horizontal = refl
code_is Direction.Vertical = refl

pub returns-in-Cut : goal.returns-in-Cut
unfolding node_words
returns-in-Cut c =
    let r : Rect = c.in-Cut.r in
    ap (λ (n : ℕ). 0 ∷ n ∷ c.in-Cut.offset ∷ c.in-Cut.kerf ∷ r.x ∷ r.y ∷ r.width ∷ r.length ∷ []) (code_is c.in-Cut.orientation) ∙ sym (ap words_of c.in-Cut.is)

pub returns-in-Piece : goal.returns-in-Piece
unfolding node_words
returns-in-Piece c = search rules

pub returns-in-Free : goal.returns-in-Free
unfolding node_words
returns-in-Free c = sym (ap words_of c.in-Free.is)
