-- No guide after a merge, else the leaf replaced.
use native.Mathlib.Omega.{arith}
use Rattle.std.proofs.Common.{rules}
use Rattle.guide.proofs.Guides.{subtree_most}
use Rattle.guide.proofs.next_guide.Goals as goal

pub replace_free_leaf-requires : goal.replace_free_leaf-requires
replace_free_leaf-requires g c = (search rules, omega (arith, subtree_most c.guillotine_insert_subtree-subtree.result))
