-- A placement in words is the definition's `place_cut_first_fit` of the candidate that they stand for, and leaves a candidate under way.
use Prim.Native.Nat.{ℕ, ◌+◌, ◌-◌, ◌≤◌, ◌<◌}
use native.Mathlib.Omega.{arith}
use mathlib.Core.Path.{◌≡◌, refl, sym, ap, ◌∙◌, subst}
use mathlib.Core.Bool.{Bool, true, false}
use mathlib.Core.List.{List, [], ◌∷◌, ◌++◌, map, append_assoc, Memᴰ}
use mathlib.Core.Option.{none, some}
use lib.Dec.{ltb, eqb}
use lib.ListN.{length, get_or, set, take, drop, length-append, length-drop, get_or-map}
use lib.Seq.{take-take, get_or-take, get_or-drop, take-append-add, drop-append-add}
use borrow.Author.Tests.{ltb-true, ltb-false, eqb-true, eqb-false}
use Rattle.lists.specs.Base.{range, remove_at}
use Rattle.lists.specs.Elements.{Perm, also, All, Pairs}
use Rattle.lists.proofs.Perm.{perm_sym, perm_append_left, perm_middle, all_map, all_both, all_append, all_left, all_right, all_self}
use Rattle.lists.proofs.Sums.{length-map, map_append}
use Rattle.lists.proofs.Every.{all_get, get_mem, pairs_left}
use Rattle.lists.proofs.Maps.{map_remove_at}
use Rattle.model.specs.declared.BaselineGuillotineHeuristic.{BaselineGuillotineHeuristic}
use Rattle.model.specs.declared.CutInstance.{CutInstance}
use Rattle.model.specs.Sheet.{GuillotineSheet, Insertion, new_sheet, try_insert, rebuild}
use Rattle.model.specs.Candidate.{Candidate, Taken, insert_in_bins, take_first_fitting_stock, in_bins, on_new_board, unplaced, first_end, place_cut_first_fit}
use Rattle.model.specs.Expand.{ProblemInstance}
use Rattle.trust.specs.Admitted.{Admitted, Ranged}
use Rattle.trust.proofs.Proper.{place_proper}
use Rattle.words.specs.Inserted.{with_word_at}
use Rattle.candidate.specs.declared.Candidate.{Candidate as Words}
use Rattle.candidate.specs.Entries.{insertion_word, board_of, cut_of}
use Rattle.candidate.specs.Moves.{moved_up, with_insertion, with_unused, with_sheet, first_fit_in, take_place}
use Rattle.candidate.specs.Stands.{Stands, insertion_in, making_in, bin_in, sheet_boards, available_boards, placed_words, unused_numbers, candidate_in}
use Rattle.project.specs.Problem.{board_in, cut_in}
use Rattle.candidate.proofs.Codes.{board_back, cut_back, heuristic_back}
use Rattle.candidate.proofs.Lists.{other_sym, map_set, map_else, moved_front, moved_parts, moved_perm, length_moved}
use Rattle.candidate.specs.Bins.{Other}
use Rattle.candidate.proofs.Ends.{end_unused, end_sheet, end_new}
use Rattle.candidate.proofs.FirstFit.{Refuses, TakenAt, Fits, taken, refused, first_fit_lem, taken_inside, taken_get, taken_before, taken_behind, in_bins_lem, no_bin_lem, on_stock, no_stock_lem}
use Rattle.candidate.proofs.Makings.{making_other, bin_other, rebuilt_bin, rebuilt_same}
use Rattle.candidate.proofs.Standing.{RebuiltOn, few_boards_lem, length_all_boards, length_sheets, boards_split, boards_once_lem, sheets_apart, bins_split, rebuilt_all, next_known, unused_stays}

-- ---- the definition's three ends

module _ (kerf : ℕ) (h : BaselineGuillotineHeuristic) (c : Candidate) (cut : CutInstance) where
  abbrev i : Insertion
  i = record { cut = cut; heuristic = h }

  ends_in_bins : (bins : List GuillotineSheet) → insert_in_bins kerf i c.bins ≡ some bins → place_cut_first_fit kerf h c cut ≡ in_bins c cut bins
  unfolding place_cut_first_fit first_end
  ends_in_bins bins e = rw e

  ends_on_board : (t : Taken) → insert_in_bins kerf i c.bins ≡ none → take_first_fitting_stock kerf i c.available_stock ≡ some t → place_cut_first_fit kerf h c cut ≡ on_new_board c cut t
  unfolding place_cut_first_fit first_end
  ends_on_board t e f = rw (e, f)

  ends_unplaced : insert_in_bins kerf i c.bins ≡ none → take_first_fitting_stock kerf i c.available_stock ≡ none → place_cut_first_fit kerf h c cut ≡ unplaced c cut
  unfolding place_cut_first_fit first_end
  ends_unplaced e f = rw (e, f)

-- a number joins a list of numbers, and leaves those still to come
joins : (a b : List ℕ) (x : ℕ) (later : List ℕ) → Perm ((a ++ (x ∷ [])) ++ (b ++ later)) (a ++ (b ++ (x ∷ later)))
joins a b x later =
    subst (λ (l : List ℕ). Perm l (a ++ (b ++ (x ∷ later)))) (sym (append_assoc a (x ∷ []) (b ++ later))) (perm_append_left a (perm_sym (perm_middle b x later)))

module _ (inst : ProblemInstance) (a : Admitted inst) (r : Ranged inst) (k : Words) (cut : ℕ) (later : List ℕ) (h : BaselineGuillotineHeuristic)
    (st : Stands inst (cut ∷ later) k) where
  abbrev kerf : ℕ
  kerf = inst.kerf_width

  abbrev piece : CutInstance
  piece = cut_in inst cut

  abbrev insertion : Insertion
  insertion = record { cut = piece; heuristic = h }

  abbrev words : List ℕ
  words = placed_words k

  abbrev boards : List ℕ
  boards = take (length inst.stock) k.boards

  abbrev before : Candidate
  before = candidate_in inst k

  small_cut : cut < 64
  small_cut = omega (arith, next_known inst cut later k st, r.few_panels)

  -- a sheet afterwards, where the cut went to board j: the one that the insertion made, or one as it was
  pub data SheetAfter (j : ℕ) (after : Words) (b : ℕ) : Type 0 where
    made : b ≡ get_or k.boards j 0 → j < length inst.stock → try_insert kerf (bin_in inst words b) insertion ≡ some (bin_in inst (placed_words after) b) → SheetAfter j after b
    stayed : Memᴰ b (sheet_boards k) → (j < length inst.stock → Other b (get_or k.boards j 0)) → bin_in inst (placed_words after) b ≡ bin_in inst words b → SheetAfter j after b

  -- what the placement has to give
  pub record Placed (j : ℕ) (after : Words) : Type 0 where
    pub is : candidate_in inst after ≡ place_cut_first_fit kerf h before piece
    pub stands : Stands inst later after
    pub sheets : All (SheetAfter j after) (sheet_boards after)

  -- ---- unused

  module _ (j : ℕ) (past : length inst.stock ≤ j) (refuse : All (Refuses kerf insertion) (map (bin_in inst words) boards)) where
    unused_more : unused_numbers (with_unused k cut) ≡ unused_numbers k ++ (cut ∷ [])
    unfolding with_unused
    unused_more = refl

    all_refuse : All (Refuses kerf insertion) before.bins × All (Refuses kerf insertion) (map new_sheet before.available_stock)
    all_refuse =
        let all = subst (All (Refuses kerf insertion)) (bins_split inst (cut ∷ later) k st r) refuse in (
          all_left (Refuses kerf insertion) before.bins (map new_sheet before.available_stock) all,
          all_right (Refuses kerf insertion) before.bins (map new_sheet before.available_stock) all,
        )

    unused_is : candidate_in inst (with_unused k cut) ≡ place_cut_first_fit kerf h before piece
    unfolding candidate_in with_unused
    unused_is =
        let ends = ends_unplaced kerf h before piece (no_bin_lem kerf insertion before.bins all_refuse.0) (no_stock_lem kerf insertion before.available_stock all_refuse.1) in
        let grown : map (cut_in inst) (unused_numbers (with_unused k cut)) ≡ before.unused_cuts ++ (piece ∷ []) =
        ap (map (cut_in inst)) unused_more ∙ map_append (cut_in inst) (unused_numbers k) (cut ∷ []) in
        (λ j. record { bins = before.bins; available_stock = before.available_stock; unused_cuts = grown j }) ∙ sym ends

    end_unused_placed : Placed j (with_unused k cut)
    unfolding with_unused
    end_unused_placed =
        record {
          is = unused_is;
          sheets = all_map (λ b. Memᴰ b (sheet_boards k)) _ (λ b m. stayed m (λ known. absurd (omega arith)) refl) (sheet_boards k) (all_self (sheet_boards k));
          stands = record {
            room = st.room;
            sheets = st.sheets;
            boards = st.boards;
            cuts = rw (append_assoc (unused_numbers k) (cut ∷ []) later) st.cuts;
            counts = omega (arith, st.counts, length-append (unused_numbers k) (cut ∷ []));
            on = st.on;
            rebuilt = st.rebuilt;
            proper = rw unused_is (place_proper inst a r h before piece (map (cut_in inst) later) st.proper);
          };
        }

  -- ---- on a board

  module _ (j : ℕ) (t : GuillotineSheet) (at : TakenAt kerf insertion (map (bin_in inst words) boards) j t) where
    abbrev board : ℕ
    board = get_or k.boards j 0

    abbrev word : ℕ
    word = insertion_word board cut h

    abbrev more : List ℕ
    more = words ++ (word ∷ [])

    known : j < length inst.stock
    known = omega (arith, taken_inside kerf insertion (map (bin_in inst words) boards) j t at, length-map (bin_in inst words) boards, length_all_boards inst (cut ∷ later) k st r)

    here : get_or boards j 0 ≡ board
    here = get_or-take (length inst.stock) k.boards j 0 known

    board_is : board_of word ≡ board
    board_is = board_back board cut h small_cut

    insertion_is : insertion_in inst word ≡ insertion
    unfolding insertion_in
    insertion_is = λ p. record { cut = cut_in inst (cut_back board cut h small_cut p); heuristic = heuristic_back board cut h p }

    takes : try_insert kerf (bin_in inst words board) (insertion_in inst word) ≡ some t
    takes =
        ap (try_insert kerf (bin_in inst words board)) insertion_is
        ∙ ap (λ (b : ℕ). try_insert kerf (bin_in inst words b) insertion) (sym here)
        ∙ ap (λ (s : GuillotineSheet). try_insert kerf s insertion) (sym (get_or-map (bin_in inst words) boards j 0))
        ∙ taken_get kerf insertion (map (bin_in inst words) boards) j t (bin_in inst words 0) at

    words_more : placed_words (with_insertion k word) ≡ more
    unfolding with_insertion
    words_more = refl

    cuts_more : map cut_of more ≡ map cut_of words ++ (cut ∷ [])
    cuts_more = map_append cut_of words (word ∷ []) ∙ ap (λ (c : ℕ). map cut_of words ++ (c ∷ [])) (cut_back board cut h small_cut)

    rebuilt_here : RebuiltOn inst words board
    rebuilt_here = subst (RebuiltOn inst words) here (all_get (RebuiltOn inst words) boards j 0 (rebuilt_all inst (cut ∷ later) k st r) (omega (arith, known, length_all_boards inst (cut ∷ later) k st r)))

    rebuilt_more : rebuild kerf (board_in inst board) (making_in inst more board) ≡ some t
    rebuilt_more = rebuilt_same inst words word board board_is (bin_in inst words board) t rebuilt_here takes

    there : bin_in inst more board ≡ t
    there = rebuilt_bin inst more board t rebuilt_more

    others : (b : ℕ) → Other b board → bin_in inst more b ≡ bin_in inst words b
    others b o = bin_other inst words word b (λ e. o (sym e ∙ board_is))

    rebuilt_step : (b : ℕ) → RebuiltOn inst words b → RebuiltOn inst more b
    rebuilt_step b e = go (eqb b board) refl
      where
        go : (q : Bool) → eqb b board ≡ q → RebuiltOn inst more b
        go true f = subst (RebuiltOn inst more) (sym (eqb-true b board f)) (rebuilt_more ∙ ap some (sym there))
        go false f =
            let o : Other b board = eqb-false b board f in
            ap (rebuild kerf (board_in inst b)) (making_other inst words word b (λ g. o (sym g ∙ board_is))) ∙ e ∙ ap some (sym (others b o))

    -- the sheet that takes it
    grown : (b : ℕ) → b ≡ board → (after : Words) → placed_words after ≡ more → SheetAfter j after b
    grown b e after w =
        made e known
        (subst (λ (x : ℕ). try_insert kerf (bin_in inst words x) insertion ≡ some (bin_in inst (placed_words after) x)) (sym e)
        (ap (try_insert kerf (bin_in inst words board)) (sym insertion_is) ∙ takes ∙ ap some (sym (ap (λ (ws : List ℕ). bin_in inst ws board) w ∙ there))))

    -- ---- of a sheet

    module _ (sheet : j < k.sheets) where
      bins_set : map (bin_in inst (placed_words (with_insertion k word))) (sheet_boards k) ≡ set before.bins j t
      unfolding candidate_in
      bins_set =
          let within : j < length (sheet_boards k) = omega (arith, length_sheets inst (cut ∷ later) k st r) in
          let once : Pairs Other (sheet_boards k) =
          pairs_left Other (sheet_boards k) (available_boards inst k) (rw (boards_split inst (cut ∷ later) k st r) (boards_once_lem inst (cut ∷ later) k st r)) in
          ap (λ (ws : List ℕ). map (bin_in inst ws) (sheet_boards k)) words_more
          ∙ map_set (bin_in inst words) (bin_in inst more) board t there others (sheet_boards k) j once within (get_or-take k.sheets k.boards j 0 sheet)

      in_these : TakenAt kerf insertion before.bins j t
      unfolding candidate_in
      in_these =
          let within : j < length before.bins = omega (arith, length-map (bin_in inst words) (sheet_boards k), length_sheets inst (cut ∷ later) k st r) in
          taken_before kerf insertion before.bins (map new_sheet before.available_stock) j t within
          (subst (λ (ss : List GuillotineSheet). TakenAt kerf insertion ss j t) (bins_split inst (cut ∷ later) k st r) at)

      sheet_is : candidate_in inst (with_insertion k word) ≡ place_cut_first_fit kerf h before piece
      unfolding candidate_in with_insertion
      sheet_is =
          let ends = ends_in_bins kerf h before piece (set before.bins j t) (in_bins_lem kerf insertion before.bins j t in_these) in
          let unused = unused_stays inst cut later k st a in
          (λ p. record { bins = bins_set p; available_stock = before.available_stock; unused_cuts = sym unused p }) ∙ sym ends

      sheet_after : (b : ℕ) → Memᴰ b (sheet_boards k) → SheetAfter j (with_insertion k word) b
      sheet_after b m = go (eqb b board) refl
        where
          go : (q : Bool) → eqb b board ≡ q → SheetAfter j (with_insertion k word) b
          go true e = grown b (eqb-true b board e) (with_insertion k word) words_more
          go false e = let o : Other b board = eqb-false b board e in stayed m (λ q. o) (ap (λ (ws : List ℕ). bin_in inst ws b) words_more ∙ others b o)

      end_sheet_placed : Placed j (with_insertion k word)
      unfolding with_insertion
      end_sheet_placed =
          let on_it : Memᴰ (board_of word) (sheet_boards k) =
          mathlib.Core.List.Memᴰ.cast (board_is ∙ sym (get_or-take k.sheets k.boards j 0 sheet)) (get_mem (sheet_boards k) j 0 (omega (arith, length_sheets inst (cut ∷ later) k st r))) in
          record {
            is = sheet_is;
            sheets = all_map (λ b. Memᴰ b (sheet_boards k)) (SheetAfter j (with_insertion k word)) sheet_after (sheet_boards k) (all_self (sheet_boards k));
            stands = record {
              room = st.room;
              sheets = st.sheets;
              boards = st.boards;
              cuts = rw cuts_more (also (joins (map cut_of words) (unused_numbers k) cut later) st.cuts);
              counts = omega (arith, st.counts, length-append words (word ∷ []));
              on = (all_append (λ w. Memᴰ (board_of w) (sheet_boards k)) words (word ∷ []) st.on (on_it, tt));
              rebuilt = (all_map (RebuiltOn inst words) (RebuiltOn inst more) rebuilt_step (sheet_boards k) st.rebuilt);
              proper = rw sheet_is (place_proper inst a r h before piece (map (cut_in inst) later) st.proper);
            };
          }

    -- ---- of an available board

    module _ (bare : k.sheets ≤ j) where
      abbrev after : Words
      after = with_sheet (with_insertion k word) j

      abbrev left : List ℕ
      left = remove_at (j - k.sheets) (available_boards inst k)

      all_known : j < length boards
      all_known = omega (arith, known, length_all_boards inst (cut ∷ later) k st r)

      -- the boards afterwards: the sheets', the new one, the other available ones
      moved : take (length inst.stock) after.boards ≡ sheet_boards k ++ (board ∷ left)
      unfolding with_sheet with_insertion moved_up
      moved =
          moved_front board (length inst.stock) k.boards j k.sheets bare known
          ∙ moved_parts board k.sheets j boards bare all_known
          ∙ ap (λ (l : List ℕ). l ++ (board ∷ left)) (take-take k.sheets (length inst.stock) k.boards st.sheets)

      one_more : sheet_boards after ≡ sheet_boards k ++ (board ∷ [])
      unfolding with_sheet with_insertion
      one_more =
          let size : length (sheet_boards k) + 1 ≡ k.sheets + 1 = omega (arith, length_sheets inst (cut ∷ later) k st r) in
          sym (take-take (k.sheets + 1) (length inst.stock) after.boards (omega (arith, known)))
          ∙ ap (take (k.sheets + 1)) moved
          ∙ ap (λ (n : ℕ). take n (sheet_boards k ++ (board ∷ left))) (sym size)
          ∙ take-append-add (sheet_boards k) (board ∷ left) 1

      one_less : available_boards inst after ≡ left
      unfolding with_sheet with_insertion
      one_less =
          let size : length (sheet_boards k) + 1 ≡ k.sheets + 1 = omega (arith, length_sheets inst (cut ∷ later) k st r) in
          ap (drop (k.sheets + 1)) moved
          ∙ ap (λ (n : ℕ). drop n (sheet_boards k ++ (board ∷ left))) (sym size)
          ∙ drop-append-add (sheet_boards k) (board ∷ left) 1

      words_after_lem : placed_words after ≡ more
      unfolding with_sheet
      words_after_lem = words_more

      -- it is no sheet's
      apart : All (Other board) (sheet_boards k)
      apart =
          all_map (λ s. All (Other s) (available_boards inst k)) (Other board)
          (λ s o. other_sym s board (subst (Other s) at_index (all_get (Other s) (available_boards inst k) (j - k.sheets) 0 o within)))
          (sheet_boards k) (sheets_apart inst (cut ∷ later) k st r)
        where
          within : j - k.sheets < length (available_boards inst k)
          within = omega (arith, all_known, length-drop k.sheets boards)

          at_index : get_or (available_boards inst k) (j - k.sheets) 0 ≡ board
          at_index = let e : k.sheets + (j - k.sheets) ≡ j = omega arith in get_or-drop k.sheets boards (j - k.sheets) 0 ∙ ap (λ (n : ℕ). get_or boards n 0) e ∙ here

      bins_more : map (bin_in inst (placed_words after)) (sheet_boards after) ≡ before.bins ++ (t ∷ [])
      unfolding candidate_in
      bins_more =
          ap (λ (ws : List ℕ). map (bin_in inst ws) (sheet_boards after)) words_after_lem
          ∙ ap (map (bin_in inst more)) one_more
          ∙ map_append (bin_in inst more) (sheet_boards k) (board ∷ [])
          ∙ ap (λ (l : List GuillotineSheet). l ++ (bin_in inst more board ∷ [])) (map_else (bin_in inst words) (bin_in inst more) board t there others (sheet_boards k) apart)
          ∙ ap (λ (s : GuillotineSheet). before.bins ++ (s ∷ [])) there

      stock_left : map (board_in inst) (available_boards inst after) ≡ remove_at (j - k.sheets) before.available_stock
      unfolding candidate_in
      stock_left = ap (map (board_in inst)) one_less ∙ map_remove_at (board_in inst) (j - k.sheets) (available_boards inst k)

      behind : All (Refuses kerf insertion) before.bins × TakenAt kerf insertion (map new_sheet before.available_stock) (j - k.sheets) t
      unfolding candidate_in
      behind =
          let size : length before.bins ≡ k.sheets = length-map (bin_in inst words) (sheet_boards k) ∙ length_sheets inst (cut ∷ later) k st r in
          let both =
          taken_behind kerf insertion before.bins (map new_sheet before.available_stock) j t (omega arith)
          (subst (λ (ss : List GuillotineSheet). TakenAt kerf insertion ss j t) (bins_split inst (cut ∷ later) k st r) at) in
          (both.0, subst (λ (n : ℕ). TakenAt kerf insertion (map new_sheet before.available_stock) (j - n) t) size both.1)

      new_is : candidate_in inst after ≡ place_cut_first_fit kerf h before piece
      unfolding candidate_in with_sheet with_insertion
      new_is =
          let stock = on_stock kerf insertion before.available_stock (j - k.sheets) t behind.1 in
          let ends = ends_on_board kerf h before piece _ (no_bin_lem kerf insertion before.bins behind.0) stock in
          let unused = unused_stays inst cut later k st a in
          (λ p. record { bins = bins_more p; available_stock = stock_left p; unused_cuts = sym unused p }) ∙ sym ends

      boards_after : Perm (take (length inst.stock) after.boards) (range (length inst.stock))
      unfolding with_sheet with_insertion moved_up
      boards_after =
          rw (moved_front board (length inst.stock) k.boards j k.sheets bare known)
          (also (subst (λ (b : ℕ). Perm (with_word_at (remove_at j boards) k.sheets b) boards) here (moved_perm boards j k.sheets all_known)) st.boards)

      on_after : All (λ w. Memᴰ (board_of w) (sheet_boards after)) (placed_words after)
      on_after =
          let on_it : Memᴰ (board_of word) (sheet_boards k ++ (board ∷ [])) = mathlib.Core.List.Memᴰ.append_right (sheet_boards k) (mathlib.Core.List.Memᴰ.head board_is) in
          rw (words_after_lem, one_more)
          (all_append (λ w. Memᴰ (board_of w) (sheet_boards k ++ (board ∷ []))) words (word ∷ [])
          (all_map (λ w. Memᴰ (board_of w) (sheet_boards k)) _ (λ w m. mathlib.Core.List.Memᴰ.append_left (board ∷ []) m) words st.on) (on_it, tt))

      rebuilt_after : All (RebuiltOn inst (placed_words after)) (sheet_boards after)
      rebuilt_after =
          rw (words_after_lem, one_more)
          (all_append (RebuiltOn inst more) (sheet_boards k) (board ∷ []) (all_map (RebuiltOn inst words) (RebuiltOn inst more) rebuilt_step (sheet_boards k) st.rebuilt) (rebuilt_step board rebuilt_here, tt))

      sheets_after : All (SheetAfter j after) (sheet_boards after)
      sheets_after =
          rw one_more
          (all_append (SheetAfter j after) (sheet_boards k) (board ∷ [])
          (all_both (λ b. Memᴰ b (sheet_boards k)) (Other board) (SheetAfter j after)
          (λ b m o. stayed m (λ q. other_sym board b o) (ap (λ (ws : List ℕ). bin_in inst ws b) words_after_lem ∙ others b (other_sym board b o)))
          (sheet_boards k) (all_self (sheet_boards k)) apart)
          (grown board refl after words_after_lem, tt))

      end_new_placed : Placed j after
      unfolding with_sheet with_insertion moved_up
      end_new_placed =
          record {
            is = new_is;
            sheets = sheets_after;
            stands = record {
              room = length_moved board k.boards j k.sheets (omega (arith, known, few_boards_lem inst (cut ∷ later) k st r)) ∙ st.room;
              sheets = omega (arith, known);
              boards = boards_after;
              cuts = rw cuts_more (also (joins (map cut_of words) (unused_numbers k) cut later) st.cuts);
              counts = omega (arith, st.counts, length-append words (word ∷ []));
              on = on_after;
              rebuilt = rebuilt_after;
              proper = rw new_is (place_proper inst a r h before piece (map (cut_in inst) later) st.proper);
            };
          }

  -- ---- at the first board that takes it

  pub placed : Placed (first_fit_in inst k cut h) (take_place (length inst.stock) k (first_fit_in inst k cut h) cut h)
  unfolding first_fit_in
  placed = go (first_fit_lem kerf insertion (map (bin_in inst words) boards))
    where
      sheet_or_new : (j : ℕ) (t : GuillotineSheet) (at : TakenAt kerf insertion (map (bin_in inst words) boards) j t) (b : Bool) → ltb j k.sheets ≡ b
          → Placed j (take_place (length inst.stock) k j cut h)
      sheet_or_new j t at true e = let s = ltb-true j k.sheets e in rw (end_sheet (length inst.stock) k j cut h (known j t at) s) (end_sheet_placed j t at s)
      sheet_or_new j t at false e = let s = ltb-false j k.sheets e in rw (end_new (length inst.stock) k j cut h (known j t at) s) (end_new_placed j t at s)

      go : {j : ℕ} → Fits kerf insertion (map (bin_in inst words) boards) j → Placed j (take_place (length inst.stock) k j cut h)
      go {j} (taken t at) = sheet_or_new j t at (ltb j k.sheets) refl
      go {j} (refused all e) =
          let past : length inst.stock ≤ j = omega (arith, length-map (bin_in inst words) boards, length_all_boards inst (cut ∷ later) k st r) in
          rw (end_unused (length inst.stock) k j cut h past) (end_unused_placed j past all)
