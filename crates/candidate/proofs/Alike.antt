-- Candidates of words that stand are alike exactly if they stand for one candidate: nothing more is free.
use Prim.Native.Nat.{ℕ, ◌≤◌, ◌<◌}
use native.Mathlib.Omega.{arith}
use mathlib.Core.Path.{◌≡◌, refl, sym, ap, ap₂, ◌∙◌, subst}
use mathlib.Core.List.{List, [], ◌∷◌, ◌++◌, map}
use mathlib.Core.Option
use lib.ListN.{length, get_or, take, drop}
use lib.Seq.{take-take}
use Rattle.lists.specs.Elements.{All}
use Rattle.lists.proofs.Perm.{perm_sym, all_map, all_both, all_left, all_right, all_perm}
use Rattle.lists.proofs.Counts.{range_below}
use Rattle.lists.proofs.Maps.{map_same}
use Rattle.model.specs.Types.{stock_key, cut_key}
use Rattle.model.specs.Sheet.{Insertion, new_sheet, rebuild, making_of}
use Rattle.model.specs.Candidate.{Candidate}
use Rattle.model.specs.Search.{full_stock}
use Rattle.model.specs.Expand.{ProblemInstance}
use Rattle.trust.specs.Admitted.{Admitted, Ranged}
use Rattle.project.specs.Problem.{no_stock, no_cut, board_in, cut_in}
use Rattle.candidate.specs.declared.Candidate.{Candidate as Words}
use Rattle.candidate.specs.Entries.{cut_of}
use Rattle.candidate.specs.Stands.{Stands, making_in, bin_in, sheet_boards, placed_words, unused_numbers, candidate_in}
use Rattle.candidate.specs.Alike.{Alike}
use Rattle.candidate.proofs.Standing.{boards_below}
use Rattle.candidate.proofs.evaluation.KeyNumbers.{number_once}
use Rattle.candidate.proofs.evaluation.Sheets.{Made, bin_made, full_stock_is}
use Rattle.candidate.proofs.variation.Sheets.{bin_count}

-- ---- lists by their images

same_by : {A : Type 0} (f : ℕ → A) (n : ℕ) → ((i j : ℕ) → i < n → j < n → f i ≡ f j → i ≡ j) → (xs ys : List ℕ) → All (λ k. k < n) xs → All (λ k. k < n) ys → map f xs ≡ map f ys → xs ≡ ys
same_by f n once [] [] h k e = refl
same_by f n once [] (y ∷ ys) h k e = absurd (omega (arith, ap length e))
same_by f n once (x ∷ xs) [] h k e = absurd (omega (arith, ap length e))
same_by f n once (x ∷ xs) (y ∷ ys) h k e =
    ap₂ {C = List ℕ} (λ a as'. a ∷ as') (once x y h.0 k.0 (ap (λ l. get_or l 0 (f x)) e)) (same_by f n once xs ys h.1 k.1 (ap (drop 1) e))

each : {A : Type 0} (f g : ℕ → A) (xs : List ℕ) → map f xs ≡ map g xs → All (λ x. f x ≡ g x) xs
each f g [] e = tt
each f g (x ∷ xs) e = (ap (λ l. get_or l 0 (f x)) e, each f g xs (ap (drop 1) e))

-- ---- what the words tell

-- the sheets' boards, of those of the problem
sheets_among : (inst : ProblemInstance) (k : Words) → k.sheets ≤ length inst.stock → sheet_boards k ≡ take k.sheets (take (length inst.stock) k.boards)
sheets_among inst k few = sym (take-take k.sheets (length inst.stock) k.boards few)

same_sheets : (inst : ProblemInstance) (k l : Words) → k.sheets ≤ length inst.stock → k.sheets ≡ l.sheets → take (length inst.stock) k.boards ≡ take (length inst.stock) l.boards → sheet_boards k ≡ sheet_boards l
same_sheets inst k l few e f = sheets_among inst k few ∙ ap₂ (λ (n : ℕ) (b : List ℕ). take n b) e f ∙ sym (sheets_among inst l (omega (arith, few, e)))

unused_below : (inst : ProblemInstance) (k : Words) → Stands inst [] k → All (λ c. c < length inst.cuts) (unused_numbers k)
unused_below inst k s =
    all_left (λ c. c < length inst.cuts) (unused_numbers k) []
    (all_right (λ c. c < length inst.cuts) (map cut_of (placed_words k)) (unused_numbers k ++ []) (all_perm (λ c. c < length inst.cuts) (perm_sym s.cuts) (range_below (length inst.cuts))))

-- ---- alike, so one candidate

same_bin : (inst : ProblemInstance) (k l : Words) (b : ℕ) → making_in inst (placed_words k) b ≡ making_in inst (placed_words l) b → bin_in inst (placed_words k) b ≡ bin_in inst (placed_words l) b
unfolding bin_in
same_bin inst k l b e = ap (λ (m : List Insertion). Option.get_or (rebuild inst.kerf_width (board_in inst b) m) (new_sheet (board_in inst b))) e

pub alike_same : (inst : ProblemInstance) (k l : Words) → k.sheets ≤ length inst.stock → Alike inst k l → candidate_in inst k ≡ candidate_in inst l
unfolding candidate_in
alike_same inst k l few a = λ i. record { bins = bins i; available_stock = ap₂ (λ (n : ℕ) (b : List ℕ). map (board_in inst) (drop n b)) a.sheets a.boards i; unused_cuts = ap (map (cut_in inst)) a.unused i }
  where
    bins : map (bin_in inst (placed_words k)) (sheet_boards k) ≡ map (bin_in inst (placed_words l)) (sheet_boards l)
    bins =
        map_same (bin_in inst (placed_words l)) (bin_in inst (placed_words k)) (sheet_boards k)
        (all_map (λ b. making_in inst (placed_words k) b ≡ making_in inst (placed_words l) b) (λ b. bin_in inst (placed_words k) b ≡ bin_in inst (placed_words l) b) (same_bin inst k l) (sheet_boards k) a.makings)
        ∙ ap (map (bin_in inst (placed_words l))) (same_sheets inst k l few a.sheets a.boards)

-- ---- one candidate, so alike

module _ (inst : ProblemInstance) (admitted : Admitted inst) where
  board_once : (i j : ℕ) → i < length inst.stock → j < length inst.stock → board_in inst i ≡ board_in inst j → i ≡ j
  unfolding board_in
  board_once = number_once stock_key no_stock inst.stock admitted.own_boards

  cut_once : (i j : ℕ) → i < length inst.cuts → j < length inst.cuts → cut_in inst i ≡ cut_in inst j → i ≡ j
  unfolding cut_in
  cut_once = number_once cut_key no_cut inst.cuts admitted.own_panels

  module _ (ranged : Ranged inst) (k l : Words) (s : Stands inst [] k) (t : Stands inst [] l) (e : candidate_in inst k ≡ candidate_in inst l) where
    abbrev B : List ℕ
    B = sheet_boards k

    count : k.sheets ≡ l.sheets
    count = sym (bin_count inst k s) ∙ ap (λ (c : Candidate). length c.bins) e ∙ bin_count inst l t

    boards : take (length inst.stock) k.boards ≡ take (length inst.stock) l.boards
    boards =
        same_by (board_in inst) (length inst.stock) board_once (take (length inst.stock) k.boards) (take (length inst.stock) l.boards) (boards_below inst [] k s ranged) (boards_below inst [] l t ranged)
        (sym (full_stock_is inst [] k s ranged) ∙ ap full_stock e ∙ full_stock_is inst [] l t ranged)

    unused : unused_numbers k ≡ unused_numbers l
    unfolding candidate_in
    unused = same_by (cut_in inst) (length inst.cuts) cut_once (unused_numbers k) (unused_numbers l) (unused_below inst k s) (unused_below inst l t) (ap (λ (c : Candidate). c.unused_cuts) e)

    sheets : B ≡ sheet_boards l
    sheets = same_sheets inst k l s.sheets count boards

    bins : All (λ b. bin_in inst (placed_words k) b ≡ bin_in inst (placed_words l) b) B
    unfolding candidate_in
    bins = each (bin_in inst (placed_words k)) (bin_in inst (placed_words l)) B (ap (λ (c : Candidate). c.bins) e ∙ ap (map (bin_in inst (placed_words l))) (sym sheets))

    abbrev MadeOn : Words → ℕ → Type 0
    MadeOn w b = Made (board_in inst b) (making_in inst (placed_words w) b) (bin_in inst (placed_words w) b)

    both_made : All (λ b. MadeOn k b × MadeOn l b) B
    both_made = all_both (MadeOn k) (MadeOn l) (λ b. MadeOn k b × MadeOn l b) (λ b m n. (m, n)) B (bin_made inst [] k s) (subst (All (MadeOn l)) (sym sheets) (bin_made inst [] l t))

    pub same_alike : Alike inst k l
    same_alike =
        record {
          sheets = count;
          boards = boards;
          unused = unused;
          makings = all_both (λ b. bin_in inst (placed_words k) b ≡ bin_in inst (placed_words l) b) (λ b. MadeOn k b × MadeOn l b) (λ b. making_in inst (placed_words k) b ≡ making_in inst (placed_words l) b)
              (λ b f m. sym m.0.making ∙ ap making_of f ∙ m.1.making) B bins both_made;
        }
