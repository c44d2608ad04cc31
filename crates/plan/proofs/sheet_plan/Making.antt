-- The making of a sheet among a candidate's insertions: its beginnings make the sheet's earlier states, each within its ranges.
use Prim.Native.Nat.{ℕ, ◌+◌, ◌≤◌, ◌<◌}
use native.Mathlib.Numerals.{add-one}
use native.Mathlib.Omega.{arith}
use mathlib.Core.Path.{◌≡◌, refl, sym, ap, ◌∙◌}
use mathlib.Core.List.{List, [], ◌∷◌, ◌++◌, map}
use mathlib.Core.Option.{Option, some}
use lib.Dec.{eqb}
use lib.ListN.{length, get_or, take, drop, length-append, length-take, take-append-drop}
use lib.Seq.{take-suc, take-length, take-append-le}
use Rattle.lists.specs.Base.{◌>>=◌, retain, fold_option}
use Rattle.lists.specs.Elements.{All}
use Rattle.lists.proofs.Perm.{all_left}
use Rattle.lists.proofs.Sums.{length-map, map_append}
use Rattle.lists.proofs.Every.{all_get, all_any}
use Rattle.lists.proofs.Options.{through, fold_append, fold_keeps}
use Rattle.lists.proofs.Kept.{retain_append, length_retain, retain_some}
use Rattle.model.specs.declared.StockInstance.{StockInstance}
use Rattle.model.specs.Sheet.{GuillotineSheet, PlacedPiece, Insertion, Place, new_sheet, insert_at, try_insert, rebuild, making_of}
use Rattle.model.specs.Expand.{ProblemInstance}
use Rattle.trust.specs.Admitted.{BoardRange, PanelRange, Ranged}
use Rattle.trust.specs.Proper.{Bounded}
use Rattle.trust.proofs.Placing.{at_place}
use Rattle.trust.proofs.Sheet.{try_insert_inserted, all_inserted}
use Rattle.trust.proofs.Bounded.{new_bounded, try_insert_bounded}
use Rattle.candidate.specs.Entries.{board_of, cut_of, on_board}
use Rattle.candidate.specs.Stands.{insertion_in, making_in, bin_in}
use Rattle.project.specs.Problem.{board_in, cut_in, no_stock, no_cut}
use Rattle.candidate.proofs.Makings.{on_none, rebuilt_bin, bin_bare, bin_other, rebuilt_more}
use Rattle.plan.specs.Replaying.{Replayable}

-- each insertion is a piece more
fold_count : (kerf : ℕ) (making : List Insertion) (s t : GuillotineSheet) → fold_option (try_insert kerf) s making ≡ some t
    → length t.placed_pieces ≡ length s.placed_pieces + length making
unfolding making_of
fold_count kerf making s t e =
    let by : PlacedPiece → Insertion = λ p. p.by in
    omega (arith, ap length (all_inserted kerf s t making e).grown, length-append (map by s.placed_pieces) making, length-map by s.placed_pieces, length-map by t.placed_pieces)

-- ---- a board's insertions

module _ (inst : ProblemInstance) (b : ℕ) where
  making_append : (xs ys : List ℕ) → making_in inst (xs ++ ys) b ≡ making_in inst xs b ++ making_in inst ys b
  unfolding making_in on_board
  making_append xs ys =
      ap (map (insertion_in inst)) (retain_append (λ w. eqb (board_of w) b) xs ys)
      ∙ map_append (insertion_in inst) (retain (λ w. eqb (board_of w) b) xs) (retain (λ w. eqb (board_of w) b) ys)

  making_most : (xs : List ℕ) → length (making_in inst xs b) ≤ length xs
  unfolding making_in on_board
  making_most xs = omega (arith, length-map (insertion_in inst) (retain (λ w. eqb (board_of w) b) xs), length_retain (λ w. eqb (board_of w) b) xs)

  making_panels : Ranged inst → (xs : List ℕ) → All (λ w. cut_of w < length inst.cuts) xs → All (λ i. PanelRange i.cut) (making_in inst xs b)
  unfolding making_in on_board insertion_in cut_in
  making_panels r xs h = of_known (retain (λ w. eqb (board_of w) b) xs) (retain_some (λ w. eqb (board_of w) b) (λ w. cut_of w < length inst.cuts) xs h)
    where
      of_known : (ws : List ℕ) → All (λ w. cut_of w < length inst.cuts) ws → All (λ i. PanelRange i.cut) (map (insertion_in inst) ws)
      of_known [] k = tt
      of_known (w ∷ ws) k = (all_get PanelRange inst.cuts (cut_of w) no_cut r.panels k.0, of_known ws k.1)

  -- ---- the sheet that some of them make, and those behind

  record Begun (xs ys : List ℕ) : Type 0 where
    made : rebuild inst.kerf_width (board_in inst b) (making_in inst xs b) ≡ some (bin_in inst xs b)
    rest : fold_option (try_insert inst.kerf_width) (bin_in inst xs b) (making_in inst ys b) ≡ some (bin_in inst (xs ++ ys) b)

  begun : (xs ys : List ℕ) → rebuild inst.kerf_width (board_in inst b) (making_in inst (xs ++ ys) b) ≡ some (bin_in inst (xs ++ ys) b) → Begun xs ys
  unfolding rebuild
  begun xs ys e =
      let whole : fold_option (try_insert inst.kerf_width) (new_sheet (board_in inst b)) (making_in inst xs b ++ making_in inst ys b) ≡ some (bin_in inst (xs ++ ys) b) = rw (making_append xs ys) at e in
      let p = through (fold_option (try_insert inst.kerf_width) (new_sheet (board_in inst b)) (making_in inst xs b)) (λ s. fold_option (try_insert inst.kerf_width) s (making_in inst ys b)) (bin_in inst (xs ++ ys) b)
      (sym (fold_append (try_insert inst.kerf_width) (new_sheet (board_in inst b)) (making_in inst xs b) (making_in inst ys b)) ∙ whole)
      in
      let same : bin_in inst xs b ≡ p.value = rebuilt_bin inst xs b p.value p.first in
      record { made = p.first ∙ ap some (sym same); rest = rw same p.rest }

-- ---- a board that is rebuilt

placed_behind : (kerf : ℕ) (s : GuillotineSheet) (i : Insertion) (p : Place) → (insert_at kerf s i p).placed_pieces ≡ s.placed_pieces ++ (record { by = i; fit = p.fit } ∷ [])
unfolding insert_at
placed_behind kerf s i p = refl

-- an insertion puts its piece behind the others
still_first : (kerf n : ℕ) (l : List PlacedPiece) (u : GuillotineSheet) (i : Insertion) (v : GuillotineSheet) → length l ≡ n → take n u.placed_pieces ≡ l
    → try_insert kerf u i ≡ some v → take n v.placed_pieces ≡ l
still_first kerf n l u i v size h e = at_place (λ t. take n t.placed_pieces ≡ l) kerf u i v (λ p g. behind p) e
  where
    few : n ≤ length u.placed_pieces
    few = omega (arith, length-take n u.placed_pieces, ap length h)

    behind : (p : Place) → take n (insert_at kerf u i p).placed_pieces ≡ l
    behind p = ap (take n) (placed_behind kerf u i p) ∙ take-append-le n u.placed_pieces (record { by = i; fit = p.fit } ∷ []) few ∙ h

none_placed : (stock : StockInstance) → length (new_sheet stock).placed_pieces ≡ 0
unfolding new_sheet
none_placed stock = refl

module _ (inst : ProblemInstance) (words : List ℕ) (b : ℕ) (m : Replayable inst words b) where
  -- its first insertions
  parted : (i : ℕ) → Begun inst b (take i words) (drop i words)
  parted i = begun inst b (take i words) (drop i words) (rw (take-append-drop i words) m.rebuilt)

  pub begins : (i : ℕ) → Replayable inst (take i words) b
  begins i =
      record {
        few = omega (arith, length-take i words, m.few);
        known = m.known;
        cuts = all_left (λ w. cut_of w < length inst.cuts) (take i words) (drop i words) (rw (take-append-drop i words) m.cuts);
        rebuilt = (parted i).made;
      }

  pub bin_pieces : length (bin_in inst words b).placed_pieces ≤ length words
  unfolding rebuild
  bin_pieces =
      omega (
        arith,
        fold_count inst.kerf_width (making_in inst words b) (new_sheet (board_in inst b)) (bin_in inst words b) m.rebuilt,
        none_placed (board_in inst b),
        making_most inst b words,
      )

  pub begun_pieces : (i : ℕ) → length (bin_in inst (take i words) b).placed_pieces ≤ length (bin_in inst words b).placed_pieces
  begun_pieces i =
      omega (
        arith,
        fold_count inst.kerf_width (making_in inst (drop i words) b) (bin_in inst (take i words) b) (bin_in inst (take i words ++ drop i words) b) (parted i).rest,
        ap (λ (l : List ℕ). length (bin_in inst l b).placed_pieces) (take-append-drop i words),
      )

  pub bin_board : (bin_in inst words b).stock ≡ board_in inst b
  unfolding rebuild new_sheet
  bin_board =
      fold_keeps (try_insert inst.kerf_width) (λ s. s.stock ≡ board_in inst b) (λ i. Unit {0}) (λ i s t q e h. (try_insert_inserted inst.kerf_width s i t e).same_stock ∙ h)
      (making_in inst words b) (all_any (making_in inst words b)) (new_sheet (board_in inst b)) (bin_in inst words b) refl m.rebuilt

  pub board_range : Ranged inst → BoardRange (board_in inst b)
  unfolding board_in
  board_range r = all_get BoardRange inst.stock b no_stock r.boards m.known

  pub bin_bounded : Ranged inst → Bounded inst.kerf_width (bin_in inst words b)
  unfolding rebuild
  bin_bounded r =
      fold_keeps (try_insert inst.kerf_width) (Bounded inst.kerf_width) (λ i. PanelRange i.cut) (λ i s t q e h. try_insert_bounded inst.kerf_width s i t q e h)
      (making_in inst words b) (making_panels inst b r words m.cuts) (new_sheet (board_in inst b)) (bin_in inst words b)
      (new_bounded inst.kerf_width (board_in inst b) (board_range r)) m.rebuilt

  -- insertion i: the next state where it is on the board, none else
  module _ (i : ℕ) (h : i < length words) where
    abbrev word : ℕ
    word = get_or words i 0

    next_words : take (i + 1) words ≡ take i words ++ (word ∷ [])
    next_words = rw (add-one, take-suc words i 0 h)

    last : Begun inst b (take i words) (word ∷ [])
    last = begun inst b (take i words) (word ∷ []) (rw next_words at (begins (i + 1)).rebuilt)

    pub step_on : board_of word ≡ b → try_insert inst.kerf_width (bin_in inst (take i words) b) (insertion_in inst word) ≡ some (bin_in inst (take (i + 1) words) b)
    step_on e =
        ap (λ (o : Option GuillotineSheet). o >>= λ s. try_insert inst.kerf_width s (insertion_in inst word)) (sym last.made)
        ∙ sym (rebuilt_more inst (take i words) word b e)
        ∙ rw next_words at (begins (i + 1)).rebuilt
        ∙ ap (λ (l : List ℕ). some (bin_in inst l b)) (sym next_words)

    pub step_off : (board_of word ≡ b → ⊥) → bin_in inst (take (i + 1) words) b ≡ bin_in inst (take i words) b
    step_off e = rw next_words (bin_other inst (take i words) word b e)

    -- the pieces before stay
    pub kept_pieces : take (length (bin_in inst (take i words) b).placed_pieces) (bin_in inst (take (i + 1) words) b).placed_pieces ≡ (bin_in inst (take i words) b).placed_pieces
    kept_pieces =
        let s = bin_in inst (take i words) b in
        rw next_words
        (fold_keeps (try_insert inst.kerf_width) (λ t. take (length s.placed_pieces) t.placed_pieces ≡ s.placed_pieces) (λ j. Unit {0})
        (λ j u v q e k. still_first inst.kerf_width (length s.placed_pieces) s.placed_pieces u j v refl k e)
        (making_in inst (word ∷ []) b) (all_any (making_in inst (word ∷ []) b)) s (bin_in inst (take i words ++ (word ∷ [])) b) (take-length s.placed_pieces) last.rest)

    pub cut_known : cut_of word < length inst.cuts
    cut_known = all_get (λ w. cut_of w < length inst.cuts) words i 0 m.cuts h

  -- before and after all of them
  pub first_bin : bin_in inst (take 0 words) b ≡ new_sheet (board_in inst b)
  first_bin = bin_bare inst [] b (on_none b [] tt)

  pub last_bin : bin_in inst (take (length words) words) b ≡ bin_in inst words b
  last_bin = ap (λ (l : List ℕ). bin_in inst l b) (take-length words)
