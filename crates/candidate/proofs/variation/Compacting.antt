-- A candidate of words with its least fit sheet taken apart stands for the definition's compacted candidate.
use Prim.Native.Nat.{ℕ, suc, ◌+◌, ◌-◌, ◌≤◌, ◌<◌}
use native.Mathlib.Omega.{arith}
use mathlib.Core.Path.{◌≡◌, refl, sym, ap, ◌∙◌, subst}
use mathlib.Core.Logic.{⊎_elim}
use mathlib.Core.Bool.{Bool, not}
use mathlib.Core.List.Memᴰ
use mathlib.Core.List.{List, [], ◌∷◌, ◌++◌, map, append-nil, append_assoc, Memᴰ}
use mathlib.Core.Option
use mathlib.Core.Option.{Option, some}
use lib.Dec.{T, T_not, eqb}
use lib.ListN.{length, get_or, take, drop, length-append, length-drop}
use lib.Seq.{split_at, take_at, drop_at, take-append-add, get_or-take, length-take-le}
use borrow.Author.Tests.{lt-ltb, le-ltb, eq-eqb, ne_eqb, eqb-true}
use Rattle.lists.specs.Base.{retain, range, remove_at}
use Rattle.lists.specs.Elements.{Perm, also, All, Pairs}
use Rattle.lists.proofs.Perm.{perm_sym, perm_append_left, perm_append_right, perm_append_comm, perm_middle, all_map, all_both, all_self, pairs_perm, mem_perm, in_all, remove_at_perm, length_perm, map_perm}
use Rattle.lists.proofs.Sums.{length-map, map_append}
use Rattle.lists.proofs.Kept.{retain_sub, parted, retain_wider}
use Rattle.lists.proofs.Every.{pairs_left}
use Rattle.lists.proofs.Maps.{map_same}
use Rattle.lists.proofs.Arrays.{remove_at_mid}
use Rattle.model.specs.declared.StockInstance.{StockInstance}
use Rattle.model.specs.declared.CutInstance.{CutInstance}
use Rattle.model.specs.Sheet.{GuillotineSheet, Insertion, new_sheet, rebuild, sheet_keys}
use Rattle.model.specs.Candidate.{Candidate, cuts_for_keys, worst_bin, compacted, compact_worst_bin}
use Rattle.model.specs.Expand.{ProblemInstance}
use Rattle.trust.specs.Proper.{SheetProper, UnderWay, cuts_of}
use Rattle.trust.specs.Admitted.{Admitted, Ranged}
use Rattle.trust.proofs.Compact.{bin_found}
use Rattle.trust.proofs.Proper.{compact_proper}
use Rattle.candidate.specs.declared.Candidate.{Candidate as Words}
use Rattle.candidate.specs.Entries.{board_of, cut_of, on_board}
use Rattle.candidate.specs.Stands.{insertion_in, making_in, bin_in, sheet_boards, available_boards, placed_words, unused_numbers, candidate_in, Stands}
use Rattle.project.specs.Problem.{board_in, cut_in}
use Rattle.candidate.proofs.Lists.{other_sym}
use Rattle.candidate.specs.Bins.{Other}
use Rattle.candidate.proofs.Standing.{few_boards_lem, length_all_boards, length_sheets, boards_split, boards_once_lem}
use Rattle.candidate.specs.OnSheets.{no_bin, IsWorst}
use Rattle.candidate.proofs.evaluation.Sheets.{BinAt, bin_at}
use Rattle.candidate.proofs.variation.Sheets.{bin_count}
use Rattle.candidate.specs.Compact.{off_board, put_back, apart, without_sheet, compacted_words, SameSheet, Compacted}

-- ---- insertions on a board and off it

pub split_words : (board : ℕ) (words : List ℕ) → Perm (off_board board words ++ on_board board words) words
unfolding off_board on_board
split_words board words = parted (λ w. eqb (board_of w) board) words

pub on_off : (board other : ℕ) (words : List ℕ) → Other board other → on_board other (off_board board words) ≡ on_board other words
unfolding off_board on_board
on_off board other words n =
    retain_wider (λ w. eqb (board_of w) other) (λ w. not (eqb (board_of w) board)) (λ w e. ap not (ne_eqb (board_of w) board (λ q. n (sym q ∙ eqb-true (board_of w) other e)))) words

-- ---- the definition's step

compact_is : (catalog : List CutInstance) (c : Candidate) (w : ℕ × GuillotineSheet) (removed : List CutInstance) → 2 ≤ length c.bins → worst_bin c.bins ≡ some w
    → cuts_for_keys catalog (sheet_keys w.1) ≡ some removed
    → compact_worst_bin catalog c ≡ record { bins = remove_at w.0 c.bins; available_stock = c.available_stock ++ (w.1.stock ∷ []); unused_cuts = c.unused_cuts ++ removed }
unfolding compact_worst_bin compacted
compact_is catalog c w removed two e f = rw (le-ltb (length c.bins) 2 two, e, f)

pub compact_one : (catalog : List CutInstance) (c : Candidate) → length c.bins < 2 → compact_worst_bin catalog c ≡ c
unfolding compact_worst_bin
compact_one catalog c one = rw (lt-ltb (length c.bins) 2 one)

-- ---- the same in words

module _ (inst : ProblemInstance) (a : Admitted inst) (ranged : Ranged inst) (c : Words) (s : Stands inst [] c) (k : ℕ) (worst : IsWorst (candidate_in inst c).bins k)
    (two : 2 ≤ c.sheets) where
  abbrev b : ℕ
  b = get_or c.boards k 0

  abbrev words : List ℕ
  words = placed_words c

  abbrev boards : List ℕ
  boards = put_back c.boards (length inst.stock) k

  abbrev r : Words
  r =
      record {
        boards = boards;
        sheets = c.sheets - 1;
        insertions = record { items = off_board b words };
        unused = record { items = unused_numbers c ++ map cut_of (on_board b words) };
      }

  abbrev S : List ℕ
  S = sheet_boards c

  abbrev A : List ℕ
  A = available_boards inst c

  abbrev P : List ℕ
  P = take k S

  abbrev Q : List ℕ
  Q = drop (suc k) S

  -- ---- the boards

  inside : k < length S
  inside = omega (arith, worst.0, bin_count inst c s, length_sheets inst [] c s ranged)

  first : length P ≡ k
  first = length-take-le k S (omega (arith, inside))

  split : S ≡ P ++ (b ∷ Q)
  split = split_at S k 0 inside ∙ ap (λ (x : ℕ). P ++ (x ∷ Q)) (get_or-take c.sheets c.boards k 0 (omega (arith, inside, length_sheets inst [] c s ranged)))

  others : length (P ++ Q) ≡ c.sheets - 1
  others = omega (arith, length-append P Q, first, length-drop (suc k) S, length_sheets inst [] c s ranged, inside)

  without : remove_at k (take (length inst.stock) c.boards) ≡ (P ++ Q) ++ A
  without =
      ap (remove_at k) (sym (boards_split inst [] c s ranged) ∙ ap (λ (l : List ℕ). l ++ A) split ∙ append_assoc P (b ∷ Q) A)
      ∙ remove_at_mid P b (Q ++ A) k first
      ∙ sym (append_assoc P Q A)

  all_but_one : length ((P ++ Q) ++ A) + 1 ≡ length inst.stock
  all_but_one =
      omega (
        arith,
        length-append (P ++ Q) A,
        others,
        ap length (boards_split inst [] c s ranged),
        length-append S A,
        length_sheets inst [] c s ranged,
        length_all_boards inst [] c s ranged,
        two,
      )

  boards_are : boards ≡ ((P ++ Q) ++ A) ++ (b ∷ drop (length inst.stock) c.boards)
  unfolding put_back
  boards_are = ap (λ (l : List ℕ). l ++ (b ∷ drop (length inst.stock) c.boards)) without

  sheets_left : sheet_boards r ≡ P ++ Q
  sheets_left = ap (take (c.sheets - 1)) (boards_are ∙ append_assoc (P ++ Q) A _) ∙ take_at (P ++ Q) _ (c.sheets - 1) others

  all_left_boards : take (length inst.stock) boards ≡ (P ++ Q) ++ (A ++ (b ∷ []))
  all_left_boards =
      ap (λ (n : ℕ). take n boards) (sym all_but_one)
      ∙ ap (take (length ((P ++ Q) ++ A) + 1)) boards_are
      ∙ take-append-add ((P ++ Q) ++ A) (b ∷ drop (length inst.stock) c.boards) 1
      ∙ append_assoc (P ++ Q) A (b ∷ [])

  available_left : available_boards inst r ≡ A ++ (b ∷ [])
  available_left = ap (drop (c.sheets - 1)) all_left_boards ∙ drop_at (P ++ Q) (A ++ (b ∷ [])) (c.sheets - 1) others

  -- ---- the other sheets stay as they are

  outside : Perm S (b ∷ (P ++ Q))
  outside = subst (λ (l : List ℕ). Perm l (b ∷ (P ++ Q))) (sym split) (perm_middle P b Q)

  apart_boards : All (Other b) (P ++ Q)
  apart_boards = (pairs_perm Other other_sym outside (pairs_left Other S A (subst (Pairs Other) (sym (boards_split inst [] c s ranged)) (boards_once_lem inst [] c s ranged)))).0

  same_words : All (λ x. on_board x (placed_words r) ≡ on_board x words) (P ++ Q)
  same_words = all_map (Other b) (λ x. on_board x (placed_words r) ≡ on_board x words) (λ x n. on_off b x words n) (P ++ Q) apart_boards

  same_making : (x : ℕ) → on_board x (placed_words r) ≡ on_board x words → making_in inst (placed_words r) x ≡ making_in inst words x
  unfolding making_in
  same_making x e = ap (map (insertion_in inst)) e

  same_bin : (x : ℕ) → on_board x (placed_words r) ≡ on_board x words → bin_in inst (placed_words r) x ≡ bin_in inst words x
  unfolding bin_in
  same_bin x e = ap (λ (l : List Insertion). Option.get_or (rebuild inst.kerf_width (board_in inst x) l) (new_sheet (board_in inst x))) (same_making x e)

  pub same_sheets : All (SameSheet c r) (sheet_boards r)
  same_sheets =
      subst (All (SameSheet c r)) (sym sheets_left)
      (all_both (λ x. Memᴰ x (P ++ Q)) (λ x. on_board x (placed_words r) ≡ on_board x words) (SameSheet c r) (λ x m e. (mem_perm (perm_sym outside) (Memᴰ.append_right (b ∷ []) m), e)) (P ++ Q)
      (all_self (P ++ Q)) same_words)

  -- ---- the candidate

  abbrev C : Candidate
  C = candidate_in inst c

  abbrev W : GuillotineSheet
  W = get_or C.bins k no_bin

  at : BinAt inst c k
  at = bin_at inst [] c s k worst.0

  bins_left : map (bin_in inst (placed_words r)) (sheet_boards r) ≡ remove_at k C.bins
  unfolding candidate_in
  bins_left =
      let f : ℕ → GuillotineSheet = bin_in inst words in
      ap (map (bin_in inst (placed_words r))) sheets_left
      ∙ map_same f (bin_in inst (placed_words r)) (P ++ Q) (all_map (λ x. on_board x (placed_words r) ≡ on_board x words) (λ x. bin_in inst (placed_words r) x ≡ f x) same_bin (P ++ Q) same_words)
      ∙ map_append f P Q
      ∙ sym (remove_at_mid (map f P) (f b) (map f Q) k (length-map f P ∙ first))
      ∙ ap (remove_at k) (sym (ap (map f) split ∙ map_append f P (b ∷ Q)))

  stock_left : map (board_in inst) (available_boards inst r) ≡ C.available_stock ++ (W.stock ∷ [])
  unfolding candidate_in
  stock_left =
      ap (map (board_in inst)) available_left
      ∙ map_append (board_in inst) A (b ∷ [])
      ∙ ap (λ (x : StockInstance). map (board_in inst) A ++ (x ∷ [])) (sym at.stock)

  cuts_left : map (cut_in inst) (unused_numbers r) ≡ C.unused_cuts ++ cuts_of W
  unfolding candidate_in
  cuts_left =
      map_append (cut_in inst) (unused_numbers c) (map cut_of (on_board b words))
      ∙ ap (λ (l : List CutInstance). map (cut_in inst) (unused_numbers c) ++ l) (sym at.cuts)

  found : cuts_for_keys inst.cuts (sheet_keys W) ≡ some (cuts_of W)
  found =
      bin_found (SheetProper inst.kerf_width) inst.kerf_width inst.stock inst.cuts a.own_panels C W (remove_at k C.bins) (remove_at_perm no_bin C.bins k worst.0) s.proper.kept

  pub compacted_is : candidate_in inst r ≡ compact_worst_bin inst.cuts C
  unfolding candidate_in
  compacted_is =
      (λ i. record { bins = bins_left i; available_stock = stock_left i; unused_cuts = cuts_left i })
      ∙ sym (compact_is inst.cuts C (k, W) (cuts_of W) (omega (arith, bin_count inst c s, two)) worst.1 found)

  -- ---- and stands

  boards_stay : Perm (take (length inst.stock) boards) (range (length inst.stock))
  boards_stay =
      subst (λ (l : List ℕ). Perm l (range (length inst.stock))) (sym all_left_boards)
      (also
      (also (perm_append_left (P ++ Q) (perm_append_comm A (b ∷ []))) (also (perm_middle (P ++ Q) b A) (perm_append_right A (perm_sym outside))))
      (subst (λ (l : List ℕ). Perm l (range (length inst.stock))) (sym (boards_split inst [] c s ranged)) s.boards))

  cuts_stay : Perm (map cut_of (placed_words r) ++ (unused_numbers r ++ [])) (range (length inst.cuts))
  cuts_stay =
      let off : List ℕ = map cut_of (off_board b words) in
      let on : List ℕ = map cut_of (on_board b words) in
      let both : Perm (off ++ on) (map cut_of words) = subst (λ (l : List ℕ). Perm l (map cut_of words)) (map_append cut_of (off_board b words) (on_board b words)) (map_perm cut_of (split_words b words)) in
      let before : Perm (map cut_of words ++ unused_numbers c) (range (length inst.cuts)) = subst (λ (l : List ℕ). Perm (map cut_of words ++ l) (range (length inst.cuts))) (append-nil (unused_numbers c)) s.cuts in
      rw (append-nil (unused_numbers r))
      (also (perm_append_left off (perm_append_comm (unused_numbers c) on)) (subst (λ (l : List ℕ). Perm l (range (length inst.cuts))) (append_assoc off on (unused_numbers c)) (also (perm_append_right (unused_numbers c) both) before)))

  counts_stay : length (placed_words r) + (length (unused_numbers r) + 0) ≡ length inst.cuts
  counts_stay =
      omega (
        arith,
        length-append (unused_numbers c) (map cut_of (on_board b words)),
        length-map cut_of (on_board b words),
        length-append (off_board b words) (on_board b words),
        length_perm (split_words b words),
        s.counts,
      )

  -- an insertion that is left is on a sheet that is left
  on_stays : All (λ w. Memᴰ (board_of w) (sheet_boards r)) (placed_words r)
  unfolding off_board
  on_stays =
      let p : ℕ → Bool = λ w. not (eqb (board_of w) b) in
      rw sheets_left
      (all_map (λ w. Memᴰ (board_of w) S × T (p w)) (λ w. Memᴰ (board_of w) (P ++ Q)) (λ w h. ⊎_elim (λ e. absurd (T_not (eqb (board_of w) b) h.1 (subst T (sym (eq-eqb (board_of w) b e)) tt))) (λ m. m) (Memᴰ.cases_cons (mem_perm outside h.0))) (retain p words)
      (retain_sub (λ w. Memᴰ (board_of w) S) p words s.on))

  rebuilt_stays : All (λ x. rebuild inst.kerf_width (board_in inst x) (making_in inst (placed_words r) x) ≡ some (bin_in inst (placed_words r) x)) (sheet_boards r)
  rebuilt_stays =
      all_map (SameSheet c r) (λ x. rebuild inst.kerf_width (board_in inst x) (making_in inst (placed_words r) x) ≡ some (bin_in inst (placed_words r) x))
      (λ x h. ap (rebuild inst.kerf_width (board_in inst x)) (same_making x h.1)
      ∙ in_all (λ y. rebuild inst.kerf_width (board_in inst y) (making_in inst words y) ≡ some (bin_in inst words y)) S s.rebuilt h.0
      ∙ ap {B = Option GuillotineSheet} some (sym (same_bin x h.1))) (sheet_boards r) same_sheets

  length_boards : length boards ≡ 64
  length_boards =
      omega (
        arith,
        ap length boards_are,
        length-append ((P ++ Q) ++ A) (b ∷ drop (length inst.stock) c.boards),
        all_but_one,
        length-drop (length inst.stock) c.boards,
        few_boards_lem inst [] c s ranged,
        s.room,
      )

  pub compacted_stands : Stands inst [] r
  compacted_stands =
      record {
        room = length_boards;
        sheets = omega (arith, s.sheets);
        boards = boards_stay;
        cuts = cuts_stay;
        counts = counts_stay;
        on = on_stays;
        rebuilt = rebuilt_stays;
        proper = subst (UnderWay inst []) (sym compacted_is) (compact_proper inst a ranged C s.proper);
      }

  words_are : r ≡ compacted_words inst c
  unfolding compacted_words without_sheet apart
  words_are = sym (rw (le-ltb c.sheets 2 two, worst.1) refl)

  pub compacted_worst : Compacted inst c r
  compacted_worst = record { words = words_are; is = compacted_is; stands = compacted_stands; kept = same_sheets }

-- as the calls leave it
pub compacted_by : (inst : ProblemInstance) (a : Admitted inst) (ranged : Ranged inst) (c : Words) (s : Stands inst [] c) (k : ℕ) → IsWorst (candidate_in inst c).bins k → 2 ≤ c.sheets
    → (t : Words) → t ≡ apart c (get_or c.boards k 0) → (boards : List ℕ) → boards ≡ put_back t.boards (length inst.stock) k
    → Compacted inst c (record { boards = boards; sheets = t.sheets - 1; insertions = t.insertions; unused = t.unused })
unfolding apart
compacted_by inst a ranged c s k worst two t e boards back =
    let b = get_or c.boards k 0 in
    let is = back ∙ ap (λ (x : Words). put_back x.boards (length inst.stock) k) e in
    let all : ◌≡◌ {A = Words} (record { boards = boards; sheets = t.sheets - 1; insertions = t.insertions; unused = t.unused }) (record {
      boards = put_back c.boards (length inst.stock) k;
      sheets = c.sheets - 1;
      insertions = (apart c b).insertions;
      unused = (apart c b).unused;
    }) =
    λ i. record { boards = is i; sheets = (e i).sheets - 1; insertions = (e i).insertions; unused = (e i).unused }
    in
    subst (Compacted inst c) (sym all) (compacted_worst inst a ranged c s k worst two)

-- a candidate of one sheet stays
pub compacted_one : (inst : ProblemInstance) (c : Words) → Stands inst [] c → c.sheets < 2 → Compacted inst c c
unfolding compacted_words
compacted_one inst c s one =
    record {
      words = rw (lt-ltb c.sheets 2 one);
      is = sym (compact_one inst.cuts (candidate_in inst c) (omega (arith, bin_count inst c s)));
      stands = s;
      kept = all_map (λ x. Memᴰ x (sheet_boards c)) (SameSheet c c) (λ x m. (m, refl)) (sheet_boards c) (all_self (sheet_boards c));
    }
