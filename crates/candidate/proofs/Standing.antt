-- What a candidate under way has: its boards without repetition, the available ones bare, every sheet rebuilt, its counts in range.
use Prim.Native.Nat.{ℕ, ◌+◌, ◌≤◌, ◌<◌}
use native.Mathlib.Omega.{arith}
use mathlib.Core.Path.{◌≡◌, refl, sym, ap, ◌∙◌, subst}
use mathlib.Core.List.Memᴰ
use mathlib.Core.List.{List, [], ◌∷◌, ◌++◌, map, Memᴰ}
use mathlib.Core.Option.{some}
use lib.ListN.{length, take, take-append-drop}
use lib.Seq.{take-take, length-take-le}
use Rattle.lists.specs.Base.{range}
use Rattle.lists.specs.Elements.{also, All, Pairs}
use Rattle.lists.proofs.Perm.{perm_sym, perm_append_left, perm_middle, all_map, all_append, all_left, all_right, all_perm, pairs_perm, mem_perm, in_all}
use Rattle.lists.proofs.Sums.{map_append}
use Rattle.lists.proofs.Kept.{retain_all}
use Rattle.lists.proofs.Counts.{range_below}
use Rattle.lists.proofs.Every.{pairs_across}
use Rattle.lists.proofs.Maps.{map_same}
use Rattle.model.specs.declared.CutInstance.{CutInstance}
use Rattle.model.specs.Types.{cut_key}
use Rattle.model.specs.Sheet.{GuillotineSheet, new_sheet, rebuild}
use Rattle.model.specs.Candidate.{Candidate, remove_unused_cut}
use Rattle.model.specs.Expand.{ProblemInstance}
use Rattle.trust.specs.Proper.{placed_cuts}
use Rattle.trust.specs.Admitted.{Admitted, Differ, Ranged}
use Rattle.trust.proofs.Candidate.{differ_sym}
use Rattle.candidate.specs.declared.Candidate.{Candidate as Words}
use Rattle.candidate.specs.Entries.{board_of, on_board}
use Rattle.candidate.specs.Stands.{Stands, making_in, bin_in, sheet_boards, available_boards, placed_words, unused_numbers, candidate_in}
use Rattle.project.specs.Problem.{board_in, cut_in}
use Rattle.candidate.proofs.Lists.{perm_once}
use Rattle.candidate.specs.Bins.{Other}
use Rattle.candidate.proofs.Makings.{on_none, bare_rebuilt, bin_bare}

-- the sheet on a board is the one that its making builds
abbrev pub RebuiltOn : ProblemInstance → List ℕ → ℕ → Type 0
RebuiltOn inst words b = rebuild inst.kerf_width (board_in inst b) (making_in inst words b) ≡ some (bin_in inst words b)

module _ (inst : ProblemInstance) (later : List ℕ) (k : Words) (st : Stands inst later k) (r : Ranged inst) where
  abbrev all_boards : List ℕ
  all_boards = take (length inst.stock) k.boards

  -- ---- the boards

  pub few_boards_lem : length inst.stock ≤ length k.boards
  few_boards_lem = omega (arith, st.room, r.few_boards)

  pub length_all_boards : length all_boards ≡ length inst.stock
  length_all_boards = length-take-le (length inst.stock) k.boards few_boards_lem

  pub length_sheets : length (sheet_boards k) ≡ k.sheets
  length_sheets = length-take-le k.sheets k.boards (omega (arith, st.sheets, few_boards_lem))

  -- the sheets' boards, then the available ones
  pub boards_split : sheet_boards k ++ available_boards inst k ≡ all_boards
  boards_split =
      ap (λ (l : List ℕ). l ++ available_boards inst k) (sym (take-take k.sheets (length inst.stock) k.boards st.sheets))
      ∙ take-append-drop k.sheets all_boards

  pub boards_once_lem : Pairs Other all_boards
  boards_once_lem = perm_once (length inst.stock) st.boards

  pub boards_below : All (λ b. b < length inst.stock) all_boards
  boards_below = all_perm (λ b. b < length inst.stock) (perm_sym st.boards) (range_below (length inst.stock))

  -- no sheet is on an available board
  pub sheets_apart : All (λ s. All (Other s) (available_boards inst k)) (sheet_boards k)
  sheets_apart = pairs_across Other (sheet_boards k) (available_boards inst k) (rw boards_split boards_once_lem)

  available_bare : All (λ b. on_board b (placed_words k) ≡ []) (available_boards inst k)
  available_bare = go (available_boards inst k) sheets_apart
    where
      off : (b : ℕ) → All (λ s. Other s b) (sheet_boards k) → (w : ℕ) → Memᴰ (board_of w) (sheet_boards k) → board_of w ≡ b → ⊥
      off b h w m = in_all (λ s. Other s b) (sheet_boards k) h m

      go : (bs : List ℕ) → All (λ s. All (Other s) bs) (sheet_boards k) → All (λ b. on_board b (placed_words k) ≡ []) bs
      go [] h = tt
      go (b ∷ bs) h = (
        on_none b (placed_words k)
            (all_map (λ w. Memᴰ (board_of w) (sheet_boards k)) (λ w. board_of w ≡ b → ⊥)
            (off b (all_map (λ s. All (Other s) (b ∷ bs)) (λ s. Other s b) (λ s q. q.0) (sheet_boards k) h)) (placed_words k) st.on),
        go bs (all_map (λ s. All (Other s) (b ∷ bs)) (λ s. All (Other s) bs) (λ s q. q.1) (sheet_boards k) h),
      )

  -- an available board is a bare sheet
  pub available_new : All (λ b. bin_in inst (placed_words k) b ≡ new_sheet (board_in inst b)) (available_boards inst k)
  available_new =
      all_map (λ b. on_board b (placed_words k) ≡ []) (λ b. bin_in inst (placed_words k) b ≡ new_sheet (board_in inst b))
      (λ b e. bin_bare inst (placed_words k) b e) (available_boards inst k) available_bare

  -- all boards' sheets
  pub bins_split : map (bin_in inst (placed_words k)) all_boards ≡ (candidate_in inst k).bins ++ map new_sheet (candidate_in inst k).available_stock
  unfolding candidate_in
  bins_split =
      ap (map (bin_in inst (placed_words k))) (sym boards_split)
      ∙ map_append (bin_in inst (placed_words k)) (sheet_boards k) (available_boards inst k)
      ∙ ap (λ (l : List GuillotineSheet). map (bin_in inst (placed_words k)) (sheet_boards k) ++ l)
      (map_same (λ b. new_sheet (board_in inst b)) (bin_in inst (placed_words k)) (available_boards inst k) available_new ∙ map-map (available_boards inst k))
    where
      map-map : (bs : List ℕ) → map (λ b. new_sheet (board_in inst b)) bs ≡ map new_sheet (map (board_in inst) bs)
      map-map [] = refl
      map-map (b ∷ bs) = ap (λ (l : List GuillotineSheet). new_sheet (board_in inst b) ∷ l) (map-map bs)

  pub rebuilt_all : All (RebuiltOn inst (placed_words k)) all_boards
  rebuilt_all =
      subst (All (RebuiltOn inst (placed_words k))) boards_split
      (all_append (RebuiltOn inst (placed_words k)) (sheet_boards k) (available_boards inst k) st.rebuilt
      (all_map (λ b. on_board b (placed_words k) ≡ []) (RebuiltOn inst (placed_words k))
      (λ b e. bare_rebuilt inst (placed_words k) b e ∙ ap some (sym (bin_bare inst (placed_words k) b e))) (available_boards inst k) available_bare))

  -- ---- the counts

  pub few_placed : length (placed_words k) + (length (unused_numbers k) + length later) ≤ 64
  few_placed = omega (arith, st.counts, r.few_panels)

-- ---- the next cut

module _ (inst : ProblemInstance) (cut : ℕ) (later : List ℕ) (k : Words) (st : Stands inst (cut ∷ later) k) where
  -- it is one of the instance's
  pub next_known : cut < length inst.cuts
  next_known =
      in_all (λ c. c < length inst.cuts) (range (length inst.cuts)) (range_below (length inst.cuts))
      (mem_perm st.cuts (Memᴰ.append_right (map _ (placed_words k)) (Memᴰ.append_right (unused_numbers k) (Memᴰ.head refl))))

  -- no unused cut has its key
  pub unused_stays : Admitted inst → remove_unused_cut (cut_key (cut_in inst cut)) (candidate_in inst k).unused_cuts ≡ (candidate_in inst k).unused_cuts
  unfolding remove_unused_cut
  unused_stays a =
      let c : Candidate = candidate_in inst k in
      let rest : List CutInstance = map (cut_in inst) later in
      let moved = also (perm_append_left (placed_cuts c.bins) (perm_middle c.unused_cuts (cut_in inst cut) rest)) (perm_middle (placed_cuts c.bins) (cut_in inst cut) (c.unused_cuts ++ rest)) in
      let d = pairs_perm Differ differ_sym (also (perm_sym st.proper.kept.panels) moved) a.own_panels in
      let u : All (Differ (cut_in inst cut)) c.unused_cuts = all_left _ c.unused_cuts rest (all_right _ (placed_cuts c.bins) (c.unused_cuts ++ rest) d.0) in
      retain_all _ c.unused_cuts (all_map (Differ (cut_in inst cut)) _ (λ x h. differ_sym (cut_in inst cut) x h) c.unused_cuts u)
