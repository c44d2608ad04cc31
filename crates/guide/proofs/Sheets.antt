-- The guide of a sheet along its making: what the plan's writer shows at each call.
use mathlib.Core.Path.{◌≡◌, refl, ap}
use mathlib.Core.List.{List}
use Prim.Native.Nat.{ℕ, ◌+◌, ◌≤◌, ◌<◌}
use native.Mathlib.Omega.{arith}
use lib.ListN.{length}
use Rattle.lists.proofs.Sums.{length-map}
use Rattle.model.specs.Plan.{nodes_of}
use Rattle.model.specs.Refusal.{most_side}
use Rattle.model.specs.Split.{split_direction}
use Rattle.model.specs.Merge.{merges_any}
use Rattle.model.specs.Sheet.{GuillotineSheet, Insertion, Place, split_rects, split_tree, insert_at}
use Rattle.trust.specs.Limits.{most_nodes}
use Rattle.trust.specs.Sound.{Sound}
use Rattle.trust.specs.Proper.{NodeCount}
use Rattle.trust.proofs.Placing.{Good}
use Rattle.trust.proofs.RectLayout.{layout_perm}
use Rattle.trust.proofs.Sheet.{chosen_first, lies_positive}
use Rattle.guide.specs.declared.subtree.Node.{Node}
use Rattle.guide.specs.Nodes.{node_of, guide_nodes, InCorner}
use Rattle.guide.specs.Guides.{split_guide, next_guide}

-- ---- the definition's steps

module _ (kerf : ℕ) (s : GuillotineSheet) (i : Insertion) (p : Place) where
  pub next_guide_is : (insert_at kerf s i p).slicing_tree
      ≡ next_guide (merges_any kerf (split_rects kerf s i p)) (split_direction p.free_rect p.fit.rect i.heuristic.split) kerf p.free_rect p.fit.rect i.cut s.slicing_tree
  unfolding insert_at split_tree split_guide
  next_guide_is = refl

  pub in_corner : 0 < i.cut.width → 0 < i.cut.length → s.stock.width ≤ most_side → s.stock.length ≤ most_side → Good s i p → Sound kerf s → InCorner p.free_rect p.fit.rect
  in_corner w l sw sl g h =
      let positive = lies_positive i.cut p w l g.fits.lies in
      let within = (layout_perm (chosen_first kerf s i p g) h).within.0 in
      record {
        wide = positive.wide;
        long = positive.long;
        width = g.fits.corner.width;
        length = g.fits.corner.length;
        right = omega (arith, within.right);
        bottom = omega (arith, within.bottom);
      }

-- ---- room for four nodes more, among the most that a guide can have

pub room : (nodes : List Node) (s : GuillotineSheet) → nodes ≡ guide_nodes s.slicing_tree → NodeCount s → length s.placed_pieces < 64 → length nodes + 4 ≤ most_nodes
room nodes s h c k = omega (arith, ap length h, length-map node_of (nodes_of s.slicing_tree))
