-- A file that no check refuses has a sound problem.
use Prim.Native.Nat.{ℕ, suc, ◌<◌}
use mathlib.Core.Path.{◌≡◌, sym, subst}
use mathlib.Core.List.{List, [], ◌∷◌}
use lib.ListN.{get_or}
use Rattle.model.specs.declared.StockInstance.{StockInstance}
use Rattle.model.specs.declared.CutInstance.{CutInstance}
use Rattle.model.specs.Project.{project_of}
use Rattle.model.specs.Expand.{ProblemInstance, expand_project}
use Rattle.lists.specs.Elements.{All}
use Rattle.trust.proofs.Checks.{admitted}
use Rattle.trust.proofs.Ranges.{Byte, ranged}
use Rattle.project.specs.Problem.{Sound}
use Rattle.project.specs.Checks.{Checked}

-- the bytes of a file
pub all_bytes : (l : List ℕ) → ((i : ℕ) → get_or l i 0 < 256) → All Byte l
all_bytes [] h = tt
all_bytes (b ∷ l) h = (h 0, all_bytes l (λ i. h (suc i)))

module _ (file : List ℕ) {stock : List StockInstance} {cuts : List CutInstance} {kerf : ℕ} (boards : stock ≡ (expand_project (project_of file)).stock)
    (panels : cuts ≡ (expand_project (project_of file)).cuts) (gap : kerf ≡ (project_of file).kerf) where
  abbrev inst : ProblemInstance
  inst = record { stock = stock; cuts = cuts; kerf_width = kerf }

  pub is_project : inst ≡ expand_project (project_of file)
  is_project =
      let kerf_is : kerf ≡ (expand_project (project_of file)).kerf_width = unfold expand_project in gap in
      λ i. record { stock = boards i; cuts = panels i; kerf_width = kerf_is i }

  pub file_sound : Checked file → Sound inst
  file_sound c =
      subst Sound (sym is_project) (record { admitted = admitted file c.passed; ranged = ranged file (all_bytes file c.bytes) c.passed })
