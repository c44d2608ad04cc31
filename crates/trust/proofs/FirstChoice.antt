-- What the search picks is the first best of what it picks from: the final choice, the donor's sheet of a crossover, the sheet that compaction takes apart.
use Prim.Native.Nat.{ℕ, Ordering}
use mathlib.Core.Path.{◌≡◌, refl, sym}
use mathlib.Core.List.{List, [], ◌∷◌}
use mathlib.Core.Option.{some}
use Rattle.lists.specs.Base.{is_greater, is_less, retain, enumerate, enumerate_from}
use Rattle.lists.specs.Elements.{All}
use Rattle.model.specs.declared.BaselineGuillotineHeuristic.{BaselineGuillotineHeuristic}
use Rattle.model.specs.Sheet.{GuillotineSheet}
use Rattle.model.specs.Fitness.{sheet_fitness, compare_float}
use Rattle.model.specs.Candidate.{Candidate, score, compare_optional_score, is_valid, worst_bin}
use Rattle.model.specs.Expand.{ProblemInstance}
use Rattle.model.specs.Search.{SearchNumbers, default_heuristic, initial_population, run_generations, best_donor_bin, select_best_valid, winner, best_first}
use Rattle.trust.specs.Admitted.{Admitted, Ranged}
use Rattle.trust.specs.Proper.{Bounded, CandidateProper}
use Rattle.lists.proofs.Preorder.{Preorder, greater_less, reversed, mapped}
use Rattle.lists.proofs.FirstBest.{First, first_best_lem}
use Rattle.trust.proofs.Proper.{generations_proper}
use Rattle.trust.proofs.Comparisons.{sheet_order, candidate_order, valid_proper}

-- ---- sheets

abbrev pub fitter : GuillotineSheet → GuillotineSheet → Ordering
fitter a b = compare_float (sheet_fitness a) (sheet_fitness b)

-- the first fittest
pub donor_first : (kerf : ℕ) (donor : Candidate) (bin : GuillotineSheet) → All (Bounded kerf) donor.bins → best_donor_bin donor ≡ some bin → First fitter donor.bins bin
unfolding best_donor_bin
donor_first kerf donor bin h e = first_best_lem (Bounded kerf) fitter (sheet_order kerf) (λ a b. is_greater (fitter a b)) (λ a b i j. refl) donor.bins bin h e

enumerate_all : {A : Type 0} (P : A → Type 0) (n : ℕ) (xs : List A) → All P xs → All (λ e. P e.1) (enumerate_from n xs)
unfolding enumerate_from
enumerate_all P n [] h = tt
enumerate_all P n (x ∷ xs) h = (h.0, enumerate_all P _ xs h.1)

-- the first least fit, with its place
pub worst_first : (kerf : ℕ) (bins : List GuillotineSheet) (w : ℕ × GuillotineSheet) → All (Bounded kerf) bins → worst_bin bins ≡ some w
    → First (λ a b. fitter b.1 a.1) (enumerate bins) w
unfolding worst_bin
worst_first kerf bins w h e =
    let On : ℕ × GuillotineSheet → Type 0 = λ a. Bounded kerf a.1 in
    let order : Preorder On (λ a b. fitter a.1 b.1) = mapped (Bounded kerf) fitter (λ (a : ℕ × GuillotineSheet). a.1) (sheet_order kerf) in
    first_best_lem On (λ a b. fitter b.1 a.1) (reversed On (λ a b. fitter a.1 b.1) order) (λ a b. is_less (fitter a.1 b.1))
    (λ a b i j. sym (greater_less On (λ a b. fitter a.1 b.1) order b a j i)) (enumerate bins) w (enumerate_all (Bounded kerf) 0 bins h) e

-- ---- candidates

abbrev pub scored : ProblemInstance → Candidate → Candidate → Ordering
scored inst a b = compare_optional_score (score inst.cuts a) (score inst.cuts b)

pub best_first_lem : (inst : ProblemInstance) → Ranged inst → (population : List Candidate) (c : Candidate) → All (CandidateProper inst) population → select_best_valid inst population ≡ some c
    → First (scored inst) (retain (is_valid inst.cuts) population) c
unfolding select_best_valid
best_first_lem inst r population c h e =
    first_best_lem (CandidateProper inst) (scored inst) (reversed (CandidateProper inst) (best_first inst) (candidate_order inst r)) (λ a b. is_greater (scored inst a b)) (λ a b i j. refl)
    (retain (is_valid inst.cuts) population) c (valid_proper inst r population h) e

-- the winner, of the valid candidates of the last population
pub winner_first : (rows : List BaselineGuillotineHeuristic) (inst : ProblemInstance) → Admitted inst → Ranged inst → (n : SearchNumbers) (c : Candidate) → winner rows inst n ≡ some c
    → First (scored inst) (retain (is_valid inst.cuts) (run_generations inst (default_heuristic rows) n.survivors n.generations (initial_population rows inst n))) c
unfolding winner
winner_first rows inst a r n c e =
    best_first_lem inst r (run_generations inst (default_heuristic rows) n.survivors n.generations (initial_population rows inst n)) c
    (generations_proper rows inst a r n n.survivors n.generations) e
