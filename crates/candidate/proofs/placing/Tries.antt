-- The search for the first board that takes an insertion, turn by turn.
use Prim.Native.Nat.{ℕ, ◌+◌, ◌-◌, ◌≤◌, ◌<◌}
use native.Mathlib.Omega.{arith}
use mathlib.Core.Path.{◌≡◌, refl, sym, ap, ◌∙◌, subst}
use mathlib.Core.Bool.{Bool, true, false, true≢false}
use mathlib.Core.List.{List, [], ◌∷◌, ◌++◌, map}
use mathlib.Core.Option.{Option, none, some}
use lib.Dec.{leb}
use lib.ListN.{length, get_or, take, drop, length-drop, get_or-map, take-append-drop, length-set}
use lib.Seq.{take-take, take_all, length-take-le, get_or-take, get_or-drop}
use borrow.Author.Tests.{le-leb, lt-leb, leb-true, leb-false}
use Rattle.std.proofs.lemmas.List.{get_or-set_same, get_or-set_other}
use Rattle.lists.specs.Base.{is_some}
use Rattle.lists.specs.Elements.{All}
use Rattle.lists.proofs.Perm.{all_map, all_both, all_append}
use Rattle.lists.proofs.Sums.{length-map}
use Rattle.lists.proofs.Every.{all_get, pairs_across}
use Rattle.lists.proofs.Arrays.{take_next}
use Rattle.lists.proofs.Options.{none_by}
use Rattle.model.specs.declared.StockInstance.{StockInstance}
use Rattle.model.specs.declared.Rect.{Rect}
use Rattle.model.specs.Refusal.{most_side}
use Rattle.model.specs.Sheet.{GuillotineSheet, Insertion, new_sheet, try_insert}
use Rattle.model.specs.Expand.{ProblemInstance}
use Rattle.trust.specs.Admitted.{BoardRange}
use Rattle.project.specs.Problem.{board_in}
use Rattle.sheet.specs.declared.free_rects.TheConstants.{MOST_RECTS}
use Rattle.sheet.specs.Places.{Shows}
use Rattle.sheet.proofs.Sheets.{new_shows, new_ready}
use Rattle.candidate.specs.Bins.{Other, rects_on, with_bin}
use Rattle.candidate.proofs.FirstFit.{Refuses, first_is, first_none}
use Rattle.candidate.specs.Fitting.{Fillable, InsertsOn, InsertsOnBoard, opened_if, Boards, Bins, FirstFits, TriesBoards}
use Rattle.candidate.proofs.placing.Rebuilt.{board_ranged}
use Rattle.candidate.proofs.placing.OnBoard.{length_after}

-- ---- the bare board

new_few : (stock : StockInstance) → length (new_sheet stock).free_rects < MOST_RECTS
unfolding new_sheet
new_few stock = omega arith

-- ---- the turns

-- a sheet that has the rectangles
abbrev shown : List Rect → StockInstance → GuillotineSheet
shown rects stock = record { stock = stock; free_rects = rects; placed_pieces = []; slicing_tree = none }

-- with the board made bare where it is no sheet's yet, and as they were where it is
pub opened_bare : (sheets j : ℕ) (free opened : List (List Rect)) (board : ℕ) (s : StockInstance) → sheets ≤ j → opened ≡ with_bin free board (new_sheet s) → opened ≡ opened_if (leb sheets j) free board s
opened_bare sheets j free opened board s h e = e ∙ ap (λ (q : Bool). opened_if q free board s) (sym (le-leb sheets j h))

pub opened_sheet : (sheets j : ℕ) (free opened : List (List Rect)) (board : ℕ) (s : StockInstance) → j < sheets → opened ≡ free → opened ≡ opened_if (leb sheets j) free board s
opened_sheet sheets j free opened board s h e = e ∙ ap (λ (q : Bool). opened_if q free board s) (sym (lt-leb sheets j h))

all_same : (free : List (List Rect)) (bs : List ℕ) → All (λ b. rects_on free b ≡ rects_on free b) bs
all_same free [] = tt
all_same free (b ∷ bs) = (refl, all_same free bs)

module _ (inst : ProblemInstance) (i : Insertion) (boards : List ℕ) (sheets : ℕ) (before : List (List Rect)) where
  abbrev known : List ℕ
  known = take (length inst.stock) boards

  -- the first j boards refuse, and the sheets' rectangles are as they were
  pub record Tried (free : List (List Rect)) (j : ℕ) : Type 0 where
    pub room : length free ≡ 64
    pub refused : (bin : ℕ → GuillotineSheet) → Bins inst boards sheets before bin → All (Refuses inst.kerf_width i) (take j (map bin known))
    pub kept : All (λ b. rects_on free b ≡ rects_on before b) (take sheets boards)

  -- before the first board
  pub tried_none : length before ≡ 64 → Tried before 0
  tried_none e = record { room = e; refused = λ bin h. tt; kept = all_same before (take sheets boards) }

  module _ (ok : Boards inst boards sheets) (fill : All (Fillable inst.kerf_width before) (take sheets boards)) where
    length_known : length known ≡ length inst.stock
    length_known = length-take-le (length inst.stock) boards ok.listed

    length_bins : (bin : ℕ → GuillotineSheet) → length (map bin known) ≡ length inst.stock
    length_bins bin = length-map bin known ∙ length_known

    -- past the last board
    pub tried_all : (free : List (List Rect)) (j : ℕ) → Tried free j → length inst.stock ≤ j → TriesBoards inst i boards sheets before free (length inst.stock)
    tried_all free j t past =
        record {
          first = λ bin h.
              let all : All (Refuses inst.kerf_width i) (map bin known) = subst (All (Refuses inst.kerf_width i)) (take_all j (map bin known) (omega (arith, past, length_bins bin))) (t.refused bin h) in
              record { index = sym (length_bins bin) ∙ sym (first_none inst.kerf_width i (map bin known) all); taken = λ u k. absurd (omega (arith, k)) };
          others = all_map (λ b. rects_on free b ≡ rects_on before b) _ (λ b e k. e) (take sheets boards) t.kept;
        }

    -- ---- one board

    module _ (j : ℕ) (here : j < length inst.stock) where
      at_index : get_or known j 0 ≡ get_or boards j 0
      at_index = get_or-take (length inst.stock) boards j 0 here

      pub board_known : get_or boards j 0 < length inst.stock
      board_known = subst (λ (b : ℕ). b < length inst.stock) at_index (all_get (λ b. b < length inst.stock) known j 0 ok.known (omega (arith, here, length_known)))

    module _ (thin : inst.kerf_width ≤ most_side) (ranged : All BoardRange inst.stock) (few : length inst.stock ≤ 64)
        (free : List (List Rect)) (j : ℕ) (t : Tried free j) (here : j < length inst.stock) where
      abbrev board : ℕ
      board = get_or boards j 0

      abbrev stock : StockInstance
      stock = board_in inst board

      abbrev opened : List (List Rect)
      opened = opened_if (leb sheets j) free board stock

      pub board_small : board < 64
      board_small = omega (arith, board_known j here, few)

      inside : board < length free
      inside = omega (arith, board_small, t.room)

      -- of a sheet
      module _ (sheet : j < sheets) where
        sheet_index : get_or (take sheets boards) j 0 ≡ board
        sheet_index = get_or-take sheets boards j 0 sheet

        sheet_inside : j < length (take sheets boards)
        sheet_inside = omega (arith, sheet, length-take-le sheets boards (omega (arith, ok.opened, ok.listed)))

        sheet_rects : rects_on free board ≡ rects_on before board
        sheet_rects = subst (λ (b : ℕ). rects_on free b ≡ rects_on before b) sheet_index (all_get _ (take sheets boards) j 0 t.kept sheet_inside)

        sheet_bin : (bin : ℕ → GuillotineSheet) → Bins inst boards sheets before bin → Shows (rects_on before board) stock.pattern (bin board)
        sheet_bin bin h =
            subst (λ (b : ℕ). Shows (rects_on before b) (board_in inst b).pattern (bin b)) sheet_index
            (all_get (λ b. Shows (rects_on before b) (board_in inst b).pattern (bin b)) (take sheets boards) j 0 h.shown sheet_inside)

        sheet_fillable : Fillable inst.kerf_width free board
        sheet_fillable =
            let f : Fillable inst.kerf_width before board = subst (Fillable inst.kerf_width before) sheet_index (all_get (Fillable inst.kerf_width before) (take sheets boards) j 0 fill sheet_inside) in
            record { known = f.known; rects = rw sheet_rects f.rects }

      -- an available one
      module _ (bare : sheets ≤ j) where
        bare_index : get_or (drop sheets known) (j - sheets) 0 ≡ board
        bare_index =
            let e : sheets + (j - sheets) ≡ j = omega (arith, bare) in
            get_or-drop sheets known (j - sheets) 0 ∙ ap (λ (n : ℕ). get_or known n 0) e ∙ at_index j here

        bare_inside : j - sheets < length (drop sheets known)
        bare_inside = omega (arith, bare, here, length-drop sheets known, length_known)

        -- it is no sheet's
        bare_other : All (λ b. Other b board) (take sheets boards)
        bare_other =
            all_map (λ s. All (Other s) (drop sheets known)) (λ s. Other s board)
            (λ s o. subst (Other s) bare_index (all_get (Other s) (drop sheets known) (j - sheets) 0 o bare_inside))
            (take sheets boards) (pairs_across Other (take sheets boards) (drop sheets known) (rw split ok.once))
          where
            split : take sheets boards ++ drop sheets known ≡ known
            split = ap (λ (l : List ℕ). l ++ drop sheets known) (sym (take-take sheets (length inst.stock) boards ok.opened)) ∙ take-append-drop sheets known

        bare_bin : (bin : ℕ → GuillotineSheet) → Bins inst boards sheets before bin → bin board ≡ new_sheet stock
        bare_bin bin h =
            subst (λ (b : ℕ). bin b ≡ new_sheet (board_in inst b)) bare_index
            (all_get (λ b. bin b ≡ new_sheet (board_in inst b)) (drop sheets known) (j - sheets) 0 h.bare bare_inside)

        bare_rects : rects_on (with_bin free board (new_sheet stock)) board ≡ (new_sheet stock).free_rects
        bare_rects = get_or-set_same free board (new_sheet stock).free_rects [] inside

        bare_fillable : Fillable inst.kerf_width (with_bin free board (new_sheet stock)) board
        bare_fillable =
            let r = board_ranged inst ranged board (board_known j here) in
            record { known = board_small; rects = rw bare_rects (record { few = new_few stock; ready = new_ready inst.kerf_width stock thin r.width r.length }) }

        bare_shows : (bin : ℕ → GuillotineSheet) → Bins inst boards sheets before bin → Shows (rects_on (with_bin free board (new_sheet stock)) board) stock.pattern (bin board)
        unfolding new_sheet
        bare_shows bin h = rw (bare_rects, bare_bin bin h) (new_shows stock)

      -- what is opened: the sheets' rectangles, and what it shows
      pub record Opened (free' : List (List Rect)) : Type 0 where
        pub fillable : Fillable inst.kerf_width free' board
        pub kept : All (λ b. rects_on free' b ≡ rects_on free b) (take sheets boards)
        pub shows : (bin : ℕ → GuillotineSheet) → Bins inst boards sheets before bin → Shows (rects_on free' board) stock.pattern (bin board)
        pub same : length free' ≡ length free

      opened_ok : Opened opened
      opened_ok = go (leb sheets j) refl
        where
          go : (q : Bool) → leb sheets j ≡ q → Opened (opened_if q free board stock)
          go true e =
              let bare : sheets ≤ j = leb-true sheets j e in
              record {
                fillable = bare_fillable bare;
                kept = all_map (λ b. Other b board) _ (λ b o. get_or-set_other free board b (new_sheet stock).free_rects [] o) (take sheets boards) (bare_other bare);
                shows = bare_shows bare;
                same = length-set free board (new_sheet stock).free_rects;
              }
          go false e =
              let sheet : j < sheets = leb-false sheets j e in
              record {
                fillable = sheet_fillable sheet;
                kept = all_same free (take sheets boards);
                shows = λ bin h. rw (sheet_rects sheet) (sheet_bin sheet bin h);
                same = refl;
              }

      -- ---- the answer

      module _ (after : List (List Rect)) (r : Bool) (tries : InsertsOnBoard inst.kerf_width stock.pattern i board opened after r) where
        abbrev this : GuillotineSheet
        this = shown (rects_on opened board) stock

        into_this : InsertsOn inst.kerf_width this i board opened after r
        into_this = tries this (record { rects = refl; grain = refl })

        bin_at : (bin : ℕ → GuillotineSheet) → get_or (map bin known) j (bin 0) ≡ bin board
        bin_at bin = get_or-map bin known j 0 ∙ ap bin (at_index j here)

        -- no: the rectangles are as they were opened
        stays : r ≡ false → after ≡ opened
        stays e =
            let nothing : try_insert inst.kerf_width this i ≡ none = none_by (try_insert inst.kerf_width this i) (sym into_this.answer ∙ e) in
            into_this.rects ∙ ap (λ (o : Option GuillotineSheet). elim o [ none ↦ opened | some t ↦ with_bin opened board t ]) nothing

        bins_next : (bin : ℕ → GuillotineSheet) → take (j + 1) (map bin known) ≡ take j (map bin known) ++ (bin board ∷ [])
        bins_next bin =
            take_next (map bin known) j (bin 0) (omega (arith, here, length_bins bin)) ∙ ap (λ (s : GuillotineSheet). take j (map bin known) ++ (s ∷ [])) (bin_at bin)

        tried_next : r ≡ false → Tried after (j + 1)
        tried_next e =
            record {
              room = length_after inst.kerf_width this i board opened after r into_this ∙ opened_ok.same ∙ t.room;
              refused = λ bin h.
                  let refuses : Refuses inst.kerf_width i (bin board) = none_by (try_insert inst.kerf_width (bin board) i) (sym (tries (bin board) (opened_ok.shows bin h)).answer ∙ e) in
                  rw (bins_next bin) (all_append (Refuses inst.kerf_width i) (take j (map bin known)) (bin board ∷ []) (t.refused bin h) (refuses, tt));
              kept = rw (stays e) (all_both _ _ _ (λ b x y. x ∙ y) (take sheets boards) opened_ok.kept t.kept);
            }

        -- yes: the board's rectangles are those of the sheet that the insertion makes
        written : (s u : GuillotineSheet) → Shows (rects_on opened board) stock.pattern s → try_insert inst.kerf_width s i ≡ some u → after ≡ with_bin opened board u
        written s u shows made = (tries s shows).rects ∙ ap (λ (o : Option GuillotineSheet). elim o [ none ↦ opened | some t ↦ with_bin opened board t ]) made

        tried_found : r ≡ true → TriesBoards inst i boards sheets before after j
        tried_found e = go (try_insert inst.kerf_width this i) refl
          where
            first_fits : (bin : ℕ → GuillotineSheet) → Bins inst boards sheets before bin → FirstFits inst.kerf_width i bin boards (length inst.stock) after j
            first_fits bin h =
                let yes : is_some (try_insert inst.kerf_width (get_or (map bin known) j (bin 0)) i) ≡ true =
                ap (λ (s : GuillotineSheet). is_some (try_insert inst.kerf_width s i)) (bin_at bin) ∙ sym (tries (bin board) (opened_ok.shows bin h)).answer ∙ e in
                record {
                  index = sym (first_is inst.kerf_width i (map bin known) j (bin 0) (t.refused bin h) (omega (arith, here, length_bins bin)) yes);
                  taken = λ u k made.
                      ap (λ (l : List (List Rect)). rects_on l board) (written (bin board) u (opened_ok.shows bin h) made) ∙ get_or-set_same opened board u.free_rects [] (omega (arith, inside, opened_ok.same));
                }

            go : (q : Option GuillotineSheet) → try_insert inst.kerf_width this i ≡ q → TriesBoards inst i boards sheets before after j
            go none f = absurd (true≢false (sym e ∙ into_this.answer ∙ ap is_some f))
            go (some u) f =
                let w = written this u (record { rects = refl; grain = refl }) f in
                record {
                  first = first_fits;
                  others = all_both _ _ _
                      (λ b x y other. ap (λ (l : List (List Rect)). rects_on l b) w ∙ get_or-set_other opened board b u.free_rects [] (other here) ∙ x ∙ y)
                      (take sheets boards) opened_ok.kept t.kept;
                }

    -- a turn, with the board as it was read
    pub record Turn (free : List (List Rect)) (j : ℕ) (s : StockInstance) : Type 0 where
      pub fillable : (bare : List (List Rect)) → bare ≡ opened_if (leb sheets j) free (get_or boards j 0) s → Fillable inst.kerf_width bare (get_or boards j 0)
      pub next : (bare : List (List Rect)) → bare ≡ opened_if (leb sheets j) free (get_or boards j 0) s → (after : List (List Rect)) (r : Bool)
          → InsertsOnBoard inst.kerf_width s.pattern i (get_or boards j 0) bare after r → r ≡ false → Tried after (j + 1)
      pub found : (bare : List (List Rect)) → bare ≡ opened_if (leb sheets j) free (get_or boards j 0) s → (after : List (List Rect)) (r : Bool)
          → InsertsOnBoard inst.kerf_width s.pattern i (get_or boards j 0) bare after r → r ≡ true → TriesBoards inst i boards sheets before after j

    pub turn : inst.kerf_width ≤ most_side → All BoardRange inst.stock → length inst.stock ≤ 64
        → (free : List (List Rect)) (j : ℕ) → Tried free j → j < length inst.stock → (s : StockInstance) → s ≡ board_in inst (get_or boards j 0) → Turn free j s
    turn thin ranged few free j t here s e =
        rw e (record {
          fillable = λ bare o. rw o (opened_ok thin ranged few free j t here).fillable;
          next = λ bare o after r f. tried_next thin ranged few free j t here after r (rw o at f);
          found = λ bare o after r f. tried_found thin ranged few free j t here after r (rw o at f);
        })
