-- The words of a crossover child stand for the definition's child, if the donor's sheet can be rebuilt; where it can not, there is none.
use Prim.Native.Nat.{ℕ, ◌+◌, ◌≤◌, ◌<◌}
use native.Mathlib.Omega.{arith}
use mathlib.Core.Path.{◌≡◌, refl, sym, ap, ap₂, ◌∙◌, subst}
use mathlib.Core.Bool.{Bool, not}
use mathlib.Core.List.Memᴰ
use mathlib.Core.List.{List, [], ◌∷◌, ◌++◌, map, append-nil, append_assoc, Memᴰ}
use mathlib.Core.Option.{Option, none, some}
use lib.Dec.{T, eqb}
use lib.ListN.{length, get_or, take, drop, length-append, take-append-drop}
use lib.Seq.{get_or-take}
use borrow.Author.Tests.{eq-eqb}
use Rattle.lists.specs.Base.{◌>>=◌, retain, find, enumerate, first_best, range, remove_at, to_list}
use Rattle.lists.specs.Elements.{Perm, also, All}
use Rattle.lists.proofs.Perm.{perm_sym, perm_append_right, perm_append_comm, all_map, all_left, all_perm, mem_perm, in_all, map_perm, remove_at_perm, length_perm}
use Rattle.lists.proofs.Sums.{length-map, length_count_from, map_append}
use Rattle.lists.proofs.Kept.{retain_all, parted, retain_map}
use Rattle.lists.proofs.Counts.{range_below, map_get}
use Rattle.lists.proofs.Maps.{map_remove_at, map-map}
use Rattle.lists.proofs.Every.{all_of_map}
use Rattle.model.specs.declared.BaselineGuillotineHeuristic.{BaselineGuillotineHeuristic}
use Rattle.model.specs.declared.StockInstance.{StockInstance}
use Rattle.model.specs.declared.CutInstance.{CutInstance}
use Rattle.model.specs.declared.InstanceKey.{InstanceKey}
use Rattle.model.specs.Types.{stock_key, cut_key, same_key}
use Rattle.model.specs.Sheet.{GuillotineSheet, Insertion, rebuild, sheet_keys}
use Rattle.model.specs.Candidate.{Candidate, contains_key, cuts_for_keys}
use Rattle.model.specs.Expand.{ProblemInstance}
use Rattle.model.specs.Search.{default_heuristic, best_donor_bin, full_stock, crossover_child, child_of}
use Rattle.trust.specs.Proper.{CandidateProper, SheetProper, UnderWay, cuts_of}
use Rattle.trust.specs.Admitted.{Admitted, Ranged}
use Rattle.trust.proofs.Keys.{sheet_keys_cuts}
use Rattle.trust.proofs.Compact.{bin_found}
use Rattle.trust.proofs.Proper.{child_proper}
use Rattle.candidate.specs.declared.Candidate.{Candidate as Words}
use Rattle.candidate.specs.Entries.{board_of, cut_of, on_board}
use Rattle.candidate.specs.Moves.{new_words, moved_up}
use Rattle.candidate.specs.Stands.{insertion_in, making_in, bin_in, sheet_boards, available_boards, placed_words, unused_numbers, candidate_in, Stands}
use Rattle.project.specs.Problem.{board_in, cut_in, no_stock, no_cut}
use Rattle.candidate.proofs.Codes.{board_back, cut_back, heuristic_back}
use Rattle.candidate.proofs.Lists.{moved_front, length_moved}
use Rattle.candidate.proofs.Makings.{rebuilt_bin}
use Rattle.candidate.proofs.Standing.{few_boards_lem, length_all_boards, boards_split, boards_below}
use Rattle.candidate.specs.Keys.{elem}
use Rattle.candidate.specs.OnSheets.{no_bin, IsBestDonor}
use Rattle.candidate.proofs.evaluation.BestIndex.{donor_bin}
use Rattle.candidate.proofs.evaluation.Sheets.{BinAt, bin_at, full_stock_is}
use Rattle.candidate.proofs.evaluation.KeyNumbers.{same_number, contains_number}
use Rattle.candidate.specs.Donated.{with_insertions, with_unused_cuts, anew, donated, others_than, place_among, sheet_of, child_words}
use Rattle.candidate.proofs.variation.Pushes.{cut_small}
use Rattle.candidate.proofs.variation.Picks.{indexed, index_append, find_keyed, others_perm}

-- ---- the donor's cuts, to be placed anew

module _ (inst : ProblemInstance) (words : List ℕ) (board : ℕ) (h : BaselineGuillotineHeuristic) where
  pub donated_on : All (λ w. board_of w ≡ board) (donated words board h)
  unfolding donated
  donated_on = go (on_board board words)
    where
      go : (l : List ℕ) → All (λ w. board_of w ≡ board) (map (anew board h) l)
      go [] = tt
      go (w ∷ l) = (board_back board (cut_of w) h (cut_small w), go l)

  pub donated_cuts : map cut_of (donated words board h) ≡ map cut_of (on_board board words)
  unfolding donated
  donated_cuts = go (on_board board words)
    where
      go : (l : List ℕ) → map cut_of (map (anew board h) l) ≡ map cut_of l
      go [] = refl
      go (w ∷ l) = ap₂ {C = List ℕ} (λ x r. x ∷ r) (cut_back board (cut_of w) h (cut_small w)) (go l)

  all_on : on_board board (donated words board h) ≡ donated words board h
  unfolding on_board
  all_on =
      retain_all (λ w. eqb (board_of w) board) (donated words board h)
      (all_map (λ w. board_of w ≡ board) (λ w. T (eqb (board_of w) board)) (λ w e. subst T (sym (eq-eqb (board_of w) board e)) tt) (donated words board h) donated_on)

  -- the making of the donor's sheet with that heuristic
  donated_making : making_in inst (donated words board h) board ≡ map (λ c. record { cut = c; heuristic = h }) (map (cut_in inst) (map cut_of (on_board board words)))
  unfolding making_in donated insertion_in
  donated_making = ap (map (insertion_in inst)) all_on ∙ go (on_board board words)
    where
      go : (l : List ℕ) → map (insertion_in inst) (map (anew board h) l) ≡ map (λ c. record { cut = c; heuristic = h }) (map (cut_in inst) (map cut_of l))
      go [] = refl
      go (w ∷ l) =
          ap₂ {C = List Insertion} (λ x r. x ∷ r)
          (λ i. record { cut = cut_in inst (cut_back board (cut_of w) h (cut_small w) i); heuristic = heuristic_back board (cut_of w) h i }) (go l)

-- ---- the child

-- what the calls on the way to it need
pub record Ready (inst : ProblemInstance) (left right : Words) (board : ℕ) (h : BaselineGuillotineHeuristic) : Type 0 where
  -- of the donor's insertions, to be rebuilt on their board alone
  pub board_known : board < length inst.stock
  pub few : length (donated (placed_words right) board h) ≤ 64
  pub cuts : All (λ w. cut_of w < length inst.cuts) (donated (placed_words right) board h)
  pub on : All (λ w. Memᴰ (board_of w) (board ∷ [])) (donated (placed_words right) board h)
  -- of the board's index
  pub index : place_among board left.boards < length inst.stock

module _ (inst : ProblemInstance) (a : Admitted inst) (ranged : Ranged inst) (h : BaselineGuillotineHeuristic) (left right : Words) (l : Stands inst [] left) (r : Stands inst [] right) (i : ℕ)
    (best : IsBestDonor (candidate_in inst right).bins i) where
  abbrev board : ℕ
  board = get_or right.boards i 0

  abbrev words : List ℕ
  words = placed_words right

  abbrev ks : List ℕ
  ks = map cut_of (on_board board words)

  abbrev new : List ℕ
  new = donated words board h

  abbrev donor : GuillotineSheet
  donor = get_or (candidate_in inst right).bins i no_bin

  abbrev others : List ℕ
  others = others_than ks (length inst.cuts)

  abbrev child : Words
  child = child_words (length inst.cuts) left right board h

  at : BinAt inst right i
  at = bin_at inst [] right r i best.0

  -- ---- the cuts

  rest : Perm (ks ++ (map cut_of (retain (λ w. not (eqb (board_of w) board)) words) ++ unused_numbers right)) (range (length inst.cuts))
  unfolding on_board
  rest =
      let p : ℕ → Bool = λ w. eqb (board_of w) board in
      let on : List ℕ = map cut_of (retain p words) in
      let off : List ℕ = map cut_of (retain (λ w. not (p w)) words) in
      let both : Perm (on ++ off) (map cut_of words) =
      also (perm_append_comm on off) (subst (λ (x : List ℕ). Perm x (map cut_of words)) (map_append cut_of (retain (λ w. not (p w)) words) (retain p words)) (map_perm cut_of (parted p words)))
      in
      let before : Perm (map cut_of words ++ unused_numbers right) (range (length inst.cuts)) =
      subst (λ (x : List ℕ). Perm (map cut_of words ++ x) (range (length inst.cuts))) (append-nil (unused_numbers right)) r.cuts
      in
      subst (λ (x : List ℕ). Perm x (range (length inst.cuts))) (append_assoc on off (unused_numbers right)) (also (perm_append_right (unused_numbers right) both) before)

  all_cuts : Perm (ks ++ others) (range (length inst.cuts))
  all_cuts = others_perm ks _ (length inst.cuts) rest

  cut_count : length ks + length others ≡ length inst.cuts
  cut_count = omega (arith, length_perm all_cuts, length-append ks others, length_count_from 0 (length inst.cuts))

  length_new : length new ≡ length ks
  length_new = sym (length-map cut_of new) ∙ ap length (donated_cuts inst words board h)

  -- ---- its words

  pub child_words_lem : placed_words child ≡ new
  unfolding child_words sheet_of with_insertions with_unused_cuts new_words
  child_words_lem = refl

  child_unused : unused_numbers child ≡ others
  unfolding child_words sheet_of with_insertions with_unused_cuts new_words
  child_unused = ap (λ (x : List ℕ). others_than x (length inst.cuts)) (donated_cuts inst words board h)

  -- ---- the boards

  abbrev n : ℕ
  n = length inst.stock

  abbrev L : List ℕ
  L = take n left.boards

  known : board < n
  known =
      in_all (λ b. b < n) (take n right.boards) (boards_below inst [] right r ranged)
      (subst (Memᴰ board) (boards_split inst [] right r ranged) (Memᴰ.append_left (available_boards inst right) at.here))

  listed : Memᴰ board L
  listed =
      mem_perm (perm_sym l.boards) (mem_perm r.boards (subst (Memᴰ board) (boards_split inst [] right r ranged) (Memᴰ.append_left (available_boards inst right) at.here)))

  abbrev j : ℕ
  j = place_among board L

  index_is : place_among board left.boards ≡ j
  index_is = ap (place_among board) (sym (take-append-drop n left.boards)) ∙ index_append board L (drop n left.boards) listed

  inside : j < n
  inside = omega (arith, (indexed board L listed).0, length_all_boards inst [] left l ranged)

  there : get_or left.boards j 0 ≡ board
  there = sym (get_or-take n left.boards j 0 inside) ∙ (indexed board L listed).1

  boards_are : child.boards ≡ board ∷ remove_at j left.boards
  unfolding child_words sheet_of with_unused_cuts moved_up
  boards_are =
      ap (λ (k : ℕ). get_or left.boards k 0 ∷ remove_at k left.boards) index_is
      ∙ ap (λ (b : ℕ). b ∷ remove_at j left.boards) there

  sheets_is : child.sheets ≡ 1
  unfolding child_words sheet_of with_unused_cuts
  sheets_is = refl

  pub child_sheets : sheet_boards child ≡ board ∷ []
  child_sheets = ap₂ (λ (k : ℕ) (x : List ℕ). take k x) sheets_is boards_are

  all_boards : take n child.boards ≡ board ∷ remove_at j L
  all_boards = ap (take n) boards_are ∙ moved_front board n left.boards j 0 (omega arith) inside

  available_are : available_boards inst child ≡ remove_at j L
  available_are = ap₂ (λ (k : ℕ) (x : List ℕ). drop k x) sheets_is all_boards

  cuts_below : All (λ k. k < length inst.cuts) ks
  cuts_below = all_left (λ k. k < length inst.cuts) ks others (all_perm (λ k. k < length inst.cuts) (perm_sym all_cuts) (range_below (length inst.cuts)))

  pub child_ready : Ready inst left right board h
  child_ready =
      record {
        board_known = known;
        few = omega (arith, length_new, cut_count, ranged.few_panels);
        cuts = all_of_map (λ k. k < length inst.cuts) cut_of new (subst (All (λ k. k < length inst.cuts)) (sym (donated_cuts inst words board h)) cuts_below);
        on = all_map (λ w. board_of w ≡ board) (λ w. Memᴰ (board_of w) (board ∷ [])) (λ w e. Memᴰ.head e) new (donated_on inst words board h);
        index = omega (arith, index_is, inside);
      }

  -- ---- what the definition finds

  full_stock_lem : full_stock (candidate_in inst left) ≡ map (board_in inst) L
  full_stock_lem = full_stock_is inst [] left l ranged

  abbrev of_board : ℕ × StockInstance → Bool
  of_board e = same_key (stock_key e.1) (stock_key donor.stock)

  same_board : (b : ℕ) → b < n → (k : ℕ) → of_board (k, board_in inst b) ≡ eqb b board
  unfolding board_in
  same_board b below k = ap (λ (x : StockInstance). same_key (stock_key (board_in inst b)) (stock_key x)) at.stock ∙ same_number stock_key no_stock inst.stock a.own_boards b board below known

  stock_found : find of_board (enumerate (full_stock (candidate_in inst left))) ≡ some (j, board_in inst board)
  stock_found =
      ap (λ (x : List StockInstance). find of_board (enumerate x)) full_stock_lem
      ∙ find_keyed (board_in inst) board of_board L listed (all_map (λ b. b < n) (λ b. (k : ℕ) → of_board (k, board_in inst b) ≡ eqb b board) same_board L (boards_below inst [] left l ranged))

  abbrev key_at : ℕ → InstanceKey
  key_at k = cut_key (get_or inst.cuts k no_cut)

  donor_keys : sheet_keys donor ≡ map key_at ks
  unfolding cut_in
  donor_keys = sheet_keys_cuts donor ∙ ap (map cut_key) at.cuts ∙ map-map cut_key (cut_in inst) ks

  cuts_left : retain (λ c. not (contains_key (cut_key c) (sheet_keys donor))) inst.cuts ≡ map (cut_in inst) others
  unfolding cut_in others_than
  cuts_left =
      ap (λ (x : List InstanceKey). retain (λ c. not (contains_key (cut_key c) x)) inst.cuts) donor_keys
      ∙ ap (retain (λ c. not (contains_key (cut_key c) (map key_at ks)))) (sym (map_get no_cut inst.cuts))
      ∙ retain_map (cut_in inst) (λ c. not (contains_key (cut_key c) (map key_at ks))) (λ k. not (elem k ks)) (range (length inst.cuts))
      (all_map (λ k. k < length inst.cuts) (λ k. not (contains_key (key_at k) (map key_at ks)) ≡ not (elem k ks)) (λ k below. ap not (contains_number cut_key no_cut inst.cuts a.own_panels k ks below cuts_below))
      (range (length inst.cuts)) (range_below (length inst.cuts)))

  donor_found : cuts_for_keys inst.cuts (sheet_keys donor) ≡ some (cuts_of donor)
  donor_found =
      let C : Candidate = candidate_in inst right in
      bin_found (SheetProper inst.kerf_width) inst.kerf_width inst.stock inst.cuts a.own_panels C donor (remove_at i C.bins) (remove_at_perm no_bin C.bins i best.0) r.proper.kept

  -- ---- the definition's child

  abbrev Again : Option GuillotineSheet
  Again = rebuild inst.kerf_width (board_in inst board) (making_in inst new board)

  abbrev ending : Option GuillotineSheet → Option (ℕ × StockInstance) → List StockInstance → List CutInstance → Option Candidate
  ending o q stock unused = o >>= λ bin. q >>= λ f. some (record { bins = bin ∷ []; available_stock = remove_at f.0 stock; unused_cuts = unused })

  crossed : crossover_child inst h (candidate_in inst left) donor ≡ ending Again (some (j, board_in inst board)) (map (board_in inst) L) (map (cut_in inst) others)
  unfolding crossover_child
  crossed =
      let C : Candidate = candidate_in inst left in
      let unused : List CutInstance = retain (λ c. not (contains_key (cut_key c) (sheet_keys donor))) inst.cuts in
      let remake : List CutInstance → Option GuillotineSheet = λ cs. rebuild inst.kerf_width donor.stock (map (λ c. record { cut = c; heuristic = h }) cs) in
      let again : remake (cuts_of donor) ≡ Again =
      ap₂ (λ (x : StockInstance) (y : List Insertion). rebuild inst.kerf_width x y) at.stock (ap (map (λ c. record { cut = c; heuristic = h })) at.cuts ∙ sym (donated_making inst words board h))
      in
      ap (λ (o : Option (List CutInstance)). o >>= λ cs. ending (remake cs) (find of_board (enumerate (full_stock C))) (full_stock C) unused) donor_found
      ∙ ap₂ (λ (o : Option GuillotineSheet) (q : Option (ℕ × StockInstance)). ending o q (full_stock C) unused) again stock_found
      ∙ ap₂ (λ (x : List StockInstance) (y : List CutInstance). ending Again (some (j, board_in inst board)) x y) full_stock_lem cuts_left

  -- the donor is the definition's
  pub child_of_lem : child_of inst h (candidate_in inst left) (candidate_in inst right) ≡ crossover_child inst h (candidate_in inst left) donor
  unfolding child_of
  child_of_lem = ap (λ (o : Option GuillotineSheet). o >>= λ d. crossover_child inst h (candidate_in inst left) d) (donor_bin (candidate_in inst right) i best)

  pub child_none : Again ≡ none → crossover_child inst h (candidate_in inst left) donor ≡ none
  child_none e = crossed ∙ ap (λ (o : Option GuillotineSheet). ending o (some (j, board_in inst board)) (map (board_in inst) L) (map (cut_in inst) others)) e

  module _ (t : GuillotineSheet) (rebuilt : Again ≡ some t) where
    bin_is : bin_in inst (placed_words child) board ≡ t
    bin_is = ap (λ (x : List ℕ). bin_in inst x board) child_words_lem ∙ rebuilt_bin inst new board t rebuilt

    candidate_is : candidate_in inst child ≡ record { bins = t ∷ []; available_stock = remove_at j (map (board_in inst) L); unused_cuts = map (cut_in inst) others }
    unfolding candidate_in
    candidate_is = λ x. record {
      bins = (ap (map (bin_in inst (placed_words child))) child_sheets ∙ ap (λ (b : GuillotineSheet). b ∷ []) bin_is) x;
      available_stock = (ap (map (board_in inst)) available_are ∙ map_remove_at (board_in inst) j L) x;
      unused_cuts = ap (map (cut_in inst)) child_unused x;
    }

    pub child_some : crossover_child inst h (candidate_in inst left) donor ≡ some (candidate_in inst child)
    child_some =
        crossed
        ∙ ap (λ (o : Option GuillotineSheet). ending o (some (j, board_in inst board)) (map (board_in inst) L) (map (cut_in inst) others)) rebuilt
        ∙ ap {B = Option Candidate} some (sym candidate_is)

    -- ---- and stands

    proper : UnderWay inst [] (candidate_in inst child)
    unfolding default_heuristic
    proper =
        let made : child_of inst h (candidate_in inst left) (candidate_in inst right) ≡ some (candidate_in inst child) = child_of_lem ∙ child_some in
        (subst (λ (o : Option Candidate). All (CandidateProper inst) (to_list o)) made (child_proper (h ∷ []) inst a ranged (candidate_in inst left) (candidate_in inst right) l.proper r.proper)).0

    length_boards : length child.boards ≡ 64
    length_boards = ap length boards_are ∙ length_moved board left.boards j 0 (omega (arith, inside, few_boards_lem inst [] left l ranged)) ∙ l.room

    boards_stay : Perm (take n child.boards) (range n)
    boards_stay =
        subst (λ (x : List ℕ). Perm x (range n)) (sym all_boards)
        (also (subst (λ (b : ℕ). Perm (b ∷ remove_at j L) L) (indexed board L listed).1 (perm_sym (remove_at_perm 0 L j (indexed board L listed).0))) l.boards)

    cuts_stay : Perm (map cut_of (placed_words child) ++ (unused_numbers child ++ [])) (range (length inst.cuts))
    cuts_stay = rw (append-nil (unused_numbers child), child_words_lem, child_unused, donated_cuts inst words board h) all_cuts

    on_stays : All (λ w. Memᴰ (board_of w) (sheet_boards child)) (placed_words child)
    on_stays =
        rw (child_sheets, child_words_lem)
        child_ready.on

    rebuilt_stays : All (λ b. rebuild inst.kerf_width (board_in inst b) (making_in inst (placed_words child) b) ≡ some (bin_in inst (placed_words child) b)) (sheet_boards child)
    rebuilt_stays =
        subst (All (λ b. rebuild inst.kerf_width (board_in inst b) (making_in inst (placed_words child) b) ≡ some (bin_in inst (placed_words child) b))) (sym child_sheets)
        (ap (λ (x : List ℕ). rebuild inst.kerf_width (board_in inst board) (making_in inst x board)) child_words_lem ∙ rebuilt ∙ ap {B = Option GuillotineSheet} some (sym bin_is), tt)

    pub child_stands : Stands inst [] child
    child_stands =
        record {
          room = length_boards;
          sheets = omega (arith, sheets_is, known);
          boards = boards_stay;
          cuts = cuts_stay;
          counts = omega (arith, ap length child_words_lem, ap length child_unused, length_new, cut_count);
          on = on_stays;
          rebuilt = rebuilt_stays;
          proper = proper;
        }

-- a donor without a sheet gives no child
pub no_donor : (inst : ProblemInstance) (h : BaselineGuillotineHeuristic) (left right : Candidate) → right.bins ≡ [] → child_of inst h left right ≡ none
unfolding child_of best_donor_bin first_best
no_donor inst h left right e = rw e
