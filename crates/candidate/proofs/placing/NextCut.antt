-- The next cut of a candidate: what the search for its board needs, and what its placement leaves.
use Prim.Native.Nat.{ℕ, ◌≤◌, ◌<◌}
use native.Mathlib.Omega.{arith}
use mathlib.Core.Path.{◌≡◌, refl, sym, ap, ◌∙◌, subst}
use mathlib.Core.List.{List, ◌∷◌}
use mathlib.Core.Option.{some}
use lib.ListN.{length, get_or, take}
use lib.Seq.{length-take-le, get_or-take}
use Rattle.lists.proofs.Perm.{all_map, all_both, all_left, in_all}
use Rattle.lists.proofs.Every.{all_get}
use Rattle.model.specs.declared.BaselineGuillotineHeuristic.{BaselineGuillotineHeuristic}
use Rattle.model.specs.declared.StockInstance.{StockInstance}
use Rattle.model.specs.declared.Rect.{Rect}
use Rattle.model.specs.Sheet.{GuillotineSheet, Insertion, try_insert}
use Rattle.model.specs.Expand.{ProblemInstance}
use Rattle.lists.specs.Elements.{All}
use Rattle.trust.specs.Admitted.{Ranged}
use Rattle.project.specs.Problem.{Sound, board_in, cut_in}
use Rattle.candidate.specs.declared.Candidate.{Candidate as Words}
use Rattle.candidate.specs.Moves.{first_fit_in, take_place, with_cut}
use Rattle.candidate.specs.Stands.{Stands, making_in, bin_in, sheet_boards, available_boards, placed_words, unused_numbers}
use Rattle.candidate.specs.Bins.{Other, rects_on, ShowsBin}
use Rattle.candidate.proofs.Standing.{RebuiltOn, boards_split, boards_once_lem, boards_below, few_boards_lem, few_placed, next_known, available_new}
use Rattle.candidate.proofs.Placement.{SheetAfter, made, stayed, Placed, placed}
use Rattle.candidate.specs.Fitting.{Fillable, Boards, Bins, FirstFits, TriesBoards}
use Rattle.candidate.specs.Placing.{Next, PlacesCut}
use Rattle.candidate.proofs.placing.Rebuilt.{board_ranged, rebuilt_stock, rebuilt_ready, rebuilt_few, making_length}

-- a rebuilt sheet that is shown takes an insertion, while there are fewer than 64 words
pub shown_fillable : (inst : ProblemInstance) → Ranged inst → (words : List ℕ) (free : List (List Rect)) (b : ℕ) → b < length inst.stock → length words < 64
    → RebuiltOn inst words b → ShowsBin inst words free b → Fillable inst.kerf_width free b
shown_fillable inst r words free b known few rebuilt shows =
    record {
      known = omega (arith, known, r.few_boards);
      rects = record {
        few = omega (
          arith,
          few,
          ap length shows,
          rebuilt_few inst.kerf_width (board_in inst b) (making_in inst words b) (bin_in inst words b) rebuilt,
          making_length inst words b,
        );
        ready = rw shows (rebuilt_ready inst.kerf_width (board_in inst b) (making_in inst words b) (bin_in inst words b) rebuilt r.kerf (board_ranged inst r.boards b known));
      };
    }

pub cut_known : (inst : ProblemInstance) (k : Words) (free : List (List Rect)) (cut : ℕ) → Next inst free k cut → cut < length inst.cuts
cut_known inst k free cut next = next_known inst cut next.later k next.stands

module _ (inst : ProblemInstance) (sound : Sound inst) (k : Words) (free : List (List Rect)) (cut : ℕ) (next : Next inst free k cut) where
  abbrev later : List ℕ
  later = cut ∷ next.later

  abbrev bin : ℕ → GuillotineSheet
  bin = bin_in inst (placed_words k)

  counts : (length (placed_words k) < 64) × (length (unused_numbers k) < 64)
  counts = let few = few_placed inst later k next.stands sound.ranged in (omega (arith, few), omega (arith, few))

  sheets_below : All (λ b. b < length inst.stock) (sheet_boards k)
  sheets_below =
      all_left (λ b. b < length inst.stock) (sheet_boards k) (available_boards inst k)
      (rw (boards_split inst later k next.stands sound.ranged) (boards_below inst later k next.stands sound.ranged))

  -- ---- what `first_fit` needs

  pub sheets_fillable : All (Fillable inst.kerf_width free) (sheet_boards k)
  sheets_fillable =
      all_both (λ b. b < length inst.stock) (λ b. RebuiltOn inst (placed_words k) b × ShowsBin inst (placed_words k) free b) (Fillable inst.kerf_width free)
      (λ b h q. shown_fillable inst sound.ranged (placed_words k) free b h counts.0 q.0 q.1)
      (sheet_boards k) sheets_below
      (all_both (RebuiltOn inst (placed_words k)) (ShowsBin inst (placed_words k) free) _ (λ b x y. (x, y)) (sheet_boards k) next.stands.rebuilt next.shown.sheets)

  pub boards_ok : Boards inst k.boards k.sheets
  boards_ok =
      record {
        listed = few_boards_lem inst later k next.stands sound.ranged;
        opened = next.stands.sheets;
        known = boards_below inst later k next.stands sound.ranged;
        once = boards_once_lem inst later k next.stands sound.ranged;
      }

  -- ---- what it finds

  bins_are : Bins inst k.boards k.sheets free bin
  bins_are =
      record {
        shown = all_both (RebuiltOn inst (placed_words k)) (ShowsBin inst (placed_words k) free) _
            (λ b e f. record {
              rects = sym f;
              grain = ap (λ (s : StockInstance). s.pattern) (rebuilt_stock inst.kerf_width (board_in inst b) (making_in inst (placed_words k) b) (bin b) e);
            })
            (sheet_boards k) next.stands.rebuilt next.shown.sheets;
        bare = available_new inst later k next.stands sound.ranged;
      }

  -- ---- what `take_place` needs

  pub placeable : (j : ℕ) → (length inst.stock ≤ 64) × (j < length inst.stock → get_or k.boards j 0 < 64) × (cut < 64) × (length (placed_words k) < 64) × (length (unused_numbers k) < 64)
  placeable j = (sound.ranged.few_boards, board_small, omega (arith, cut_known inst k free cut next, sound.ranged.few_panels), counts.0, counts.1)
    where
      board_small : j < length inst.stock → get_or k.boards j 0 < 64
      board_small h =
          let listed = length-take-le (length inst.stock) k.boards boards_ok.listed in
          let below = all_get (λ b. b < length inst.stock) (take (length inst.stock) k.boards) j 0 boards_ok.known (omega (arith, listed)) in
          omega (arith, below, get_or-take (length inst.stock) k.boards j 0 h, sound.ranged.few_boards)

  -- ---- what is left

  module _ (h : BaselineGuillotineHeuristic) (after : List (List Rect)) (j : ℕ)
      (tries : TriesBoards inst (record { cut = cut_in inst cut; heuristic = h }) k.boards k.sheets free after j) where
    abbrev insertion : Insertion
    insertion = record { cut = cut_in inst cut; heuristic = h }

    fits_first : FirstFits inst.kerf_width insertion bin k.boards (length inst.stock) after j
    fits_first = tries.first bin bins_are

    index_is : j ≡ first_fit_in inst k cut h
    unfolding first_fit_in
    index_is = fits_first.index

    abbrev words_after : Words
    words_after = take_place (length inst.stock) k (first_fit_in inst k cut h) cut h

    -- the placement, with any cuts still to come
    placed_with : (rest : List ℕ) (st : Stands inst (cut ∷ rest) k) → Placed inst sound.admitted sound.ranged k cut rest h st (first_fit_in inst k cut h) words_after
    placed_with rest st = placed inst sound.admitted sound.ranged k cut rest h st

    -- a sheet afterwards is shown
    sheet_shown : (b : ℕ) → SheetAfter inst sound.admitted sound.ranged k cut next.later h next.stands (first_fit_in inst k cut h) words_after b
        → ShowsBin inst (placed_words words_after) after b
    sheet_shown b (made e known t) =
        let at : get_or k.boards (first_fit_in inst k cut h) 0 ≡ get_or k.boards j 0 = ap (λ (m : ℕ). get_or k.boards m 0) (sym index_is) in
        let here : b ≡ get_or k.boards j 0 = e ∙ at in
        ap (rects_on after) here
        ∙ fits_first.taken (bin_in inst (placed_words words_after) b) (subst (λ (m : ℕ). m < length inst.stock) (sym index_is) known)
        (subst (λ (x : ℕ). try_insert inst.kerf_width (bin x) insertion ≡ some (bin_in inst (placed_words words_after) b)) here t)
    sheet_shown b (stayed m o e) =
        in_all (λ x. (j < length inst.stock → Other x (get_or k.boards j 0)) → rects_on after x ≡ rects_on free x) (sheet_boards k) tries.others m
        (subst (λ (q : ℕ). q < length inst.stock → Other b (get_or k.boards q 0)) (sym index_is) o)
        ∙ in_all (ShowsBin inst (placed_words k) free) (sheet_boards k) next.shown.sheets m
        ∙ ap (λ (s : GuillotineSheet). s.free_rects) (sym e)

    pub places : PlacesCut inst h k cut after (take_place (length inst.stock) k j cut h)
    unfolding with_cut
    places =
        let p = placed_with next.later next.stands in
        subst (λ (q : ℕ). PlacesCut inst h k cut after (take_place (length inst.stock) k q cut h)) (sym index_is)
        (record {
          words = refl;
          is = p.is;
          stands = λ rest st. (placed_with rest st).stands;
          shown = record { sheets = all_map _ (ShowsBin inst (placed_words words_after) after) sheet_shown (sheet_boards words_after) p.sheets };
        })
