-- The fitness that a plan states is a number above 0 and at most 1, whatever the file.
use Prim.Native.Nat.{ℕ, ◌+◌, ◌*◌, ◌^◌}
use mathlib.Core.Path.{◌≡◌, sym, ap, ◌∙◌, subst}
use mathlib.Core.List.{List, []}
use mathlib.Core.Option
use lib.ListN.{get_or}
use lib.Ieee.{Float, binary64, to_bits, lt, le, is_nan}
use Rattle.model.specs.declared.LayoutKind.{LayoutKind}
use Rattle.model.specs.declared.BaselineGuillotineHeuristic.{BaselineGuillotineHeuristic}
use Rattle.model.specs.Types.{layout_of}
use Rattle.model.specs.Sheet.{GuillotineSheet}
use Rattle.model.specs.Fitness.{positive_zero, one}
use Rattle.model.specs.Project.{project_of}
use Rattle.model.specs.Expand.{ProblemInstance}
use Rattle.model.specs.Plan.{plan_words}
use Rattle.model.specs.Answer.{plan, answer_with}
use Rattle.lists.specs.Elements.{All}
use Rattle.trust.specs.Admitted.{Ranged}
use Rattle.lists.proofs.Numbers.{halves}
use Rattle.trust.proofs.Answer.{instance_of}
use Rattle.trust.proofs.Ranges.{Byte, ranged}
use Rattle.trust.proofs.Planned.{plan_admitted, ProperPlan, Planned, no_cuts, searched_for, planned}
use Rattle.trust.proofs.FitnessRange.{FitnessOf, Share, proper_fitness, valid_sheets}

-- the fitness of the sheets that a plan is written from; `solution` never takes its default
pub sheets_fitness : (inst : ProblemInstance) (words : List ℕ) → Ranged inst → (p : ProperPlan inst words) → FitnessOf p.candidate.bins
sheets_fitness inst words r p = proper_fitness inst p.candidate r p.proper (valid_sheets inst p.candidate p.proper p.valid p.some)

-- what the two words say
pub record StatedFitness (words : List ℕ) : Type 0 where
  pub value : Float
  pub bits : get_or words 1 0 + 2 ^ 32 * get_or words 2 0 ≡ to_bits binary64 value
  pub share : Share value

stated : (layout : LayoutKind) (f : Float) (sheets : List GuillotineSheet) → Share f → StatedFitness (plan_words layout f sheets)
unfolding plan_words
stated layout f sheets h = record { value = f; bits = halves (to_bits binary64 f); share = h }

one_share : Share one
unfolding is_nan lt le
one_share = record { number = tt; above = tt; most = tt }

pub plan_fitness : (rows : List BaselineGuillotineHeuristic) (bytes words : List ℕ) → All Byte bytes → answer_with rows bytes ≡ plan words → StatedFitness words
plan_fitness rows bytes words b e = go (planned rows bytes words b e)
  where
    r : Ranged (instance_of bytes)
    r = ranged bytes b (plan_admitted rows bytes words e)

    go : Planned bytes words → StatedFitness words
    go (no_cuts z w) = subst StatedFitness (sym w) (stated (layout_of (project_of bytes).layout) one [] one_share)
    go (searched_for p) =
        let f = sheets_fitness (instance_of bytes) words r p in
        let is : words ≡ plan_words LayoutKind.Guillotine f.value p.candidate.bins =
        p.as_words ∙ ap (λ o. plan_words LayoutKind.Guillotine (Option.get_or o positive_zero) p.candidate.bins) f.is
        in
        subst StatedFitness (sym is) (stated LayoutKind.Guillotine f.value p.candidate.bins f.share)
