-- The sheets of a candidate of words: their numbers are the instance's, their pieces are their boards' insertions, and their areas come from those.
use Prim.Native.Nat.{ℕ, ◌+◌, ◌≤◌, ◌<◌}
use native.Mathlib.Omega.{arith}
use mathlib.Core.Path.{◌≡◌, sym, ap, ◌∙◌, subst}
use mathlib.Core.List.{List, [], ◌∷◌, ◌++◌, map, Memᴰ}
use mathlib.Core.Option.{some}
use lib.ListN.{length, get_or, take, length-take}
use lib.Seq.{get_or-take}
use Rattle.lists.specs.Base.{sum, range}
use Rattle.lists.specs.Elements.{All}
use Rattle.lists.proofs.Perm.{perm_sym, all_map, all_both, all_left, all_perm, sum_perm, in_all}
use Rattle.lists.proofs.Sums.{length-map, map_append, sum_append}
use Rattle.lists.proofs.Arrays.{take_next}
use Rattle.lists.proofs.Counts.{range_below, get_or_range, map_get}
use Rattle.lists.proofs.Every.{all_get, get_mem, all_of_map}
use Rattle.lists.proofs.Maps.{map_same, map-map, get_d_map}
use Rattle.model.specs.declared.StockInstance.{StockInstance}
use Rattle.model.specs.declared.CutInstance.{CutInstance}
use Rattle.model.specs.Types.{cut_area, stock_area}
use Rattle.model.specs.Sheet.{GuillotineSheet, Insertion, new_sheet, rebuild, making_of, placed_area}
use Rattle.model.specs.Expand.{ProblemInstance}
use Rattle.model.specs.Search.{full_stock}
use Rattle.trust.specs.Limits.{most_areas}
use Rattle.trust.specs.Proper.{SheetProper, cuts_of}
use Rattle.trust.specs.Admitted.{Ranged}
use Rattle.trust.proofs.Sheet.{all_inserted}
use Rattle.trust.proofs.Scores.{sheet_area}
use Rattle.trust.proofs.CandidateSize.{cut_area_most}
use Rattle.candidate.specs.declared.Candidate.{Candidate as Words}
use Rattle.candidate.specs.Entries.{board_of, cut_of, on_board}
use Rattle.candidate.specs.Stands.{insertion_in, making_in, bin_in, sheet_boards, available_boards, placed_words, unused_numbers, candidate_in, Stands}
use Rattle.project.specs.Problem.{board_in, cut_in, no_cut}
use Rattle.candidate.proofs.Standing.{length_sheets, boards_split, boards_below}
use Rattle.candidate.specs.declared.fitness.SheetAreas.{SheetAreas}
use Rattle.candidate.specs.Areas.{areas_of}
use Rattle.candidate.specs.OnSheets.{word_area, placed_on, Known, AreasOf, no_bin}

-- ---- a loop that pushes a function of another list's elements

pub map_turn : {A B : Type 0} (f : A → B) (l : List A) (m : List B) (k : ℕ) (d : A) (b : B) → k < length l → m ≡ map f (take k l) → b ≡ f (get_or l k d)
    → m ++ (b ∷ []) ≡ map f (take (k + 1) l)
map_turn f l m k d b h e v = (λ i. e i ++ (v i ∷ [])) ∙ sym (ap (map f) (take_next l k d h) ∙ map_append f (take k l) (get_or l k d ∷ []))

-- ---- a sheet that is rebuilt

pub record Made (board : StockInstance) (is : List Insertion) (t : GuillotineSheet) : Type 0 where
  pub stock : t.stock ≡ board
  pub making : making_of t ≡ is

module _ (kerf : ℕ) where
  pub rebuild_made : (board : StockInstance) (making : List Insertion) (t : GuillotineSheet) → rebuild kerf board making ≡ some t → Made board making t
  unfolding rebuild new_sheet making_of
  rebuild_made board making t e = let m = all_inserted kerf (new_sheet board) t making e in record { stock = m.same_stock; making = m.grown }

-- ---- a sheet of a candidate

module _ (inst : ProblemInstance) (later : List ℕ) (c : Words) (s : Stands inst later c) where
  abbrev words : List ℕ
  words = placed_words c

  pub bin_made : All (λ b. Made (board_in inst b) (making_in inst words b) (bin_in inst words b)) (sheet_boards c)
  bin_made =
      all_map (λ b. rebuild inst.kerf_width (board_in inst b) (making_in inst words b) ≡ some (bin_in inst words b)) (λ b. Made (board_in inst b) (making_in inst words b) (bin_in inst words b))
      (λ b e. rebuild_made inst.kerf_width (board_in inst b) (making_in inst words b) (bin_in inst words b) e) (sheet_boards c) s.rebuilt

  made_cuts : (b : ℕ) → Made (board_in inst b) (making_in inst words b) (bin_in inst words b) → cuts_of (bin_in inst words b) ≡ map (cut_in inst) (map cut_of (on_board b words))
  unfolding cuts_of making_in insertion_in
  made_cuts b m =
      ap (map (λ (i : Insertion). i.cut)) m.making
      ∙ map-map (λ (i : Insertion). i.cut) (insertion_in inst) (on_board b words)
      ∙ sym (map-map (cut_in inst) cut_of (on_board b words))

  -- the cuts of its board's insertions
  pub bin_cuts : All (λ b. cuts_of (bin_in inst words b) ≡ map (cut_in inst) (map cut_of (on_board b words))) (sheet_boards c)
  bin_cuts =
      all_map (λ b. Made (board_in inst b) (making_in inst words b) (bin_in inst words b)) (λ b. cuts_of (bin_in inst words b) ≡ map (cut_in inst) (map cut_of (on_board b words)))
      made_cuts (sheet_boards c) bin_made

  pub bins_proper : All (λ b. SheetProper inst.kerf_width (bin_in inst words b)) (sheet_boards c)
  unfolding candidate_in
  bins_proper = all_of_map (SheetProper inst.kerf_width) (bin_in inst words) (sheet_boards c) s.proper.kept.sheets

  -- its boards, those of the sheets first
  pub full_stock_is : Ranged inst → full_stock (candidate_in inst c) ≡ map (board_in inst) (take (length inst.stock) c.boards)
  unfolding full_stock candidate_in
  full_stock_is ranged =
      let f : ℕ → GuillotineSheet = bin_in inst words in
      let S : List ℕ = sheet_boards c in
      let A : List ℕ = available_boards inst c in
      ap (λ (x : List StockInstance). x ++ map (board_in inst) A)
      (map-map (λ (b : GuillotineSheet). b.stock) f S
      ∙ map_same (board_in inst) (λ b. (f b).stock) S (all_map (λ b. Made (board_in inst b) (making_in inst words b) (f b)) (λ b. (f b).stock ≡ board_in inst b) (λ b m. m.stock) S bin_made))
      ∙ sym (map_append (board_in inst) S A)
      ∙ ap (map (board_in inst)) (boards_split inst later c s ranged)

-- the sheet at an index
pub record BinAt (inst : ProblemInstance) (c : Words) (k : ℕ) : Type 0 where
  pub here : Memᴰ (get_or c.boards k 0) (sheet_boards c)
  pub bin : get_or (candidate_in inst c).bins k no_bin ≡ bin_in inst (placed_words c) (get_or c.boards k 0)
  pub stock : (get_or (candidate_in inst c).bins k no_bin).stock ≡ board_in inst (get_or c.boards k 0)
  pub cuts : cuts_of (get_or (candidate_in inst c).bins k no_bin) ≡ map (cut_in inst) (map cut_of (on_board (get_or c.boards k 0) (placed_words c)))

pub bin_at : (inst : ProblemInstance) (later : List ℕ) (c : Words) (s : Stands inst later c) (k : ℕ) → k < length (candidate_in inst c).bins → BinAt inst c k
unfolding candidate_in
bin_at inst later c s k h =
    let b : ℕ = get_or c.boards k 0 in
    let words : List ℕ = placed_words c in
    let inside : k < length (sheet_boards c) = omega (arith, length-map (bin_in inst words) (sheet_boards c)) in
    let first : k < c.sheets = omega (arith, length-take c.sheets c.boards) in
    let at : get_or (sheet_boards c) k 0 ≡ b = get_or-take c.sheets c.boards k 0 first in
    let m : Memᴰ b (sheet_boards c) = subst (λ (x : ℕ). Memᴰ x (sheet_boards c)) at (get_mem (sheet_boards c) k 0 inside) in
    let is : get_or (map (bin_in inst words) (sheet_boards c)) k no_bin ≡ bin_in inst words b = get_d_map (bin_in inst words) (sheet_boards c) k no_bin 0 inside ∙ ap (bin_in inst words) at in
    record {
      here = m;
      bin = is;
      stock = ap (λ (x : GuillotineSheet). x.stock) is ∙ (in_all (λ x. Made (board_in inst x) (making_in inst words x) (bin_in inst words x)) (sheet_boards c) (bin_made inst later c s) m).stock;
      cuts = ap cuts_of is ∙ in_all (λ x. cuts_of (bin_in inst words x) ≡ map (cut_in inst) (map cut_of (on_board x words))) (sheet_boards c) (bin_cuts inst later c s) m;
    }

-- ---- numbers and areas

module _ (inst : ProblemInstance) (later : List ℕ) (c : Words) (r : Ranged inst) (s : Stands inst later c) where
  -- a sheet's board is one of the instance's
  pub sheets_known : All (λ b. b < length inst.stock) (sheet_boards c)
  sheets_known =
      all_left (λ b. b < length inst.stock) (sheet_boards c) (available_boards inst c)
      (rw (boards_split inst later c s r) (boards_below inst later c s r))

  pub sheet_known : (k : ℕ) → k < c.sheets → get_or c.boards k 0 < length inst.stock
  sheet_known k h =
      let long : k < length (sheet_boards c) = omega (arith, length_sheets inst later c s r) in
      omega (arith, get_or-take c.sheets c.boards k 0 h, all_get (λ b. b < length inst.stock) (sheet_boards c) k 0 sheets_known long)

  -- so is an insertion's cut
  pub cuts_known : All (λ w. cut_of w < length inst.cuts) (placed_words c)
  cuts_known =
      all_of_map (λ k. k < length inst.cuts) cut_of (placed_words c)
      (all_left (λ k. k < length inst.cuts) (map cut_of (placed_words c)) (unused_numbers c ++ later)
      (all_perm (λ k. k < length inst.cuts) (perm_sym s.cuts) (range_below (length inst.cuts))))

  pub words_known : All (Known inst) (placed_words c)
  words_known =
      all_both (λ w. Memᴰ (board_of w) (sheet_boards c)) (λ w. cut_of w < length inst.cuts) (Known inst)
      (λ w m k. (omega (arith, in_all (λ b. b < length inst.stock) (sheet_boards c) sheets_known m, r.few_boards), k)) (placed_words c) s.on cuts_known

  abbrev cut_area_at : ℕ → ℕ
  cut_area_at k = cut_area (cut_in inst k)

  all_cuts : map (cut_in inst) (range (length inst.cuts)) ≡ inst.cuts
  unfolding cut_in
  all_cuts = map_get no_cut inst.cuts

  pub words_area : sum (map (word_area inst) (placed_words c)) ≤ most_areas
  words_area =
      let placed : List ℕ = map cut_of (placed_words c) in
      let rest : List ℕ = unused_numbers c ++ later in
      omega (
        arith,
        ap sum (map-map cut_area_at cut_of (placed_words c)),
        sum_append cut_area_at placed rest,
        sum_perm cut_area_at s.cuts,
        ap sum (map-map cut_area (cut_in inst) (range (length inst.cuts))),
        ap (λ (l : List CutInstance). sum (map cut_area l)) all_cuts,
        cut_area_most inst r,
      )

  cuts_area : (b : ℕ) → sum (map cut_area (map (cut_in inst) (map cut_of (on_board b (placed_words c))))) ≡ placed_on inst (placed_words c) b
  unfolding placed_on on_board
  cuts_area b =
      let on : List ℕ = on_board b (placed_words c) in
      ap (λ (l : List ℕ). sum l) (map-map cut_area (cut_in inst) (map cut_of on) ∙ map-map cut_area_at cut_of on)

  -- the area on a sheet is that of its board's insertions
  pub bin_placed : All (λ b. placed_area (bin_in inst (placed_words c) b) ≡ placed_on inst (placed_words c) b) (sheet_boards c)
  bin_placed =
      all_both (λ b. cuts_of (bin_in inst (placed_words c) b) ≡ map (cut_in inst) (map cut_of (on_board b (placed_words c)))) (λ b. SheetProper inst.kerf_width (bin_in inst (placed_words c) b))
      (λ b. placed_area (bin_in inst (placed_words c) b) ≡ placed_on inst (placed_words c) b)
      (λ b e p. sym (sheet_area inst.kerf_width (bin_in inst (placed_words c) b) p) ∙ ap (λ (l : List CutInstance). sum (map cut_area l)) e ∙ cuts_area b) (sheet_boards c)
      (bin_cuts inst later c s) (bins_proper inst later c s)

  -- ---- both areas of every sheet, as the loop over the sheets finds them

  pub sheets_areas : (areas : List SheetAreas) (by_board : List ℕ) → by_board ≡ map (placed_on inst (placed_words c)) (range 64)
      → areas ≡ map (λ b. record { placed = get_or by_board b 0; board = stock_area (board_in inst b) }) (sheet_boards c)
      → AreasOf areas (candidate_in inst c).bins
  unfolding candidate_in
  sheets_areas areas by_board e p =
      let bin : ℕ → GuillotineSheet = bin_in inst (placed_words c) in
      let found : (b : ℕ) → b < length inst.stock → get_or by_board b 0 ≡ placed_on inst (placed_words c) b =
      λ b h. ap (λ (l : List ℕ). get_or l b 0) e ∙ get_or_range (placed_on inst (placed_words c)) 0 64 b (omega (arith, r.few_boards))
      in
      let made : All (λ b. stock_area (board_in inst b) ≡ stock_area (bin b).stock) (sheet_boards c) =
      all_map (λ b. Made (board_in inst b) (making_in inst (placed_words c) b) (bin b)) (λ b. stock_area (board_in inst b) ≡ stock_area (bin b).stock)
      (λ b m. ap stock_area (sym m.stock)) (sheet_boards c) (bin_made inst later c s)
      in
      let placed : All (λ b. get_or by_board b 0 ≡ placed_area (bin b)) (sheet_boards c) =
      all_both (λ b. b < length inst.stock) (λ b. placed_area (bin b) ≡ placed_on inst (placed_words c) b) (λ b. get_or by_board b 0 ≡ placed_area (bin b))
      (λ b h m. found b h ∙ sym m) (sheet_boards c) sheets_known bin_placed
      in
      p
      ∙ map_same (λ b. areas_of (bin b)) (λ b. record { placed = get_or by_board b 0; board = stock_area (board_in inst b) }) (sheet_boards c)
      (all_both (λ b. get_or by_board b 0 ≡ placed_area (bin b)) (λ b. stock_area (board_in inst b) ≡ stock_area (bin b).stock)
      (λ b. ◌≡◌ {A = SheetAreas} (record { placed = get_or by_board b 0; board = stock_area (board_in inst b) }) (areas_of (bin b)))
      (λ b x y. λ i. record { placed = x i; board = y i }) (sheet_boards c) placed made)
      ∙ sym (map-map areas_of bin (sheet_boards c))
