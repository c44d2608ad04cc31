-- Boards made bare one after the other.
use Prim.Native.Nat.{ℕ, ◌<◌}
use mathlib.Core.Path.{◌≡◌, refl, sym, ◌∙◌, subst}
use mathlib.Core.Bool.{Bool, true, false}
use mathlib.Core.List.{List, [], ◌∷◌, ◌++◌}
use lib.Dec.{eqb}
use lib.ListN.{length}
use borrow.Author.Tests.{eqb-true, eqb-false}
use Rattle.std.proofs.lemmas.List.{get_or-set_same, get_or-set_other}
use Rattle.lists.proofs.Perm.{all_map, all_append, all_left, all_right}
use Rattle.model.specs.declared.Rect.{Rect}
use Rattle.model.specs.Sheet.{new_sheet}
use Rattle.model.specs.Expand.{ProblemInstance}
use Rattle.project.specs.Problem.{board_in}
use Rattle.candidate.specs.Bins.{Other, with_bin}
use Rattle.candidate.specs.Rebuilding.{ShowsBare, OpensBoards}

-- one more
pub opens_more : (inst : ProblemInstance) (boards : List ℕ) (before free : List (List Rect)) (board : ℕ) → board < length free
    → OpensBoards inst boards before free → OpensBoards inst (boards ++ (board ∷ [])) before (with_bin free board (new_sheet (board_in inst board)))
opens_more inst boards before free board inside o =
    record {
      bare = all_append (ShowsBare inst after) boards (board ∷ []) (all_map (ShowsBare inst free) (ShowsBare inst after) still boards o.bare) (this, tt);
      others = λ b h.
          get_or-set_other free board b bare [] (all_right (Other b) boards (board ∷ []) h).0 ∙ o.others b (all_left (Other b) boards (board ∷ []) h);
    }
  where
    bare : List Rect
    bare = (new_sheet (board_in inst board)).free_rects

    after : List (List Rect)
    after = with_bin free board (new_sheet (board_in inst board))

    this : ShowsBare inst after board
    this = get_or-set_same free board bare [] inside

    still : (b : ℕ) → ShowsBare inst free b → ShowsBare inst after b
    still b f = go (eqb b board) refl
      where
        go : (q : Bool) → eqb b board ≡ q → ShowsBare inst after b
        go true g = subst (ShowsBare inst after) (sym (eqb-true b board g)) this
        go false g = get_or-set_other free board b bare [] (eqb-false b board g) ∙ f
