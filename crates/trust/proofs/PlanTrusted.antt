-- Every plan that the definition answers is trusted, with whatever follows it in memory.
use Rattle.std.specs.Prelude.{if◌then◌else◌}
use Prim.Native.Nat.{ℕ, ◌+◌, ◌*◌, ◌<◌}
use native.Mathlib.Omega.{arith}
use mathlib.Core.Path.{◌≡◌, refl, sym, ap, ◌∙◌, subst}
use mathlib.Core.Logic.{inl, inr}
use mathlib.Core.Bool.{Bool, true, false}
use mathlib.Core.List.{List, [], ◌∷◌, ◌++◌, map, map-map, Memᴰ}
use mathlib.Core.Option.{get_or}
use lib.Dec.{T}
use lib.ListN.{length, drop}
use Rattle.lists.specs.Base.{all, is_empty}
use Rattle.lists.specs.Elements.{All}
use Rattle.model.specs.declared.BaselineGuillotineHeuristic.{BaselineGuillotineHeuristic}
use Rattle.model.specs.declared.LayoutKind.{LayoutKind}
use Rattle.model.specs.declared.Rect.{Rect}
use Rattle.model.specs.declared.CutInstance.{CutInstance}
use Rattle.model.specs.Types.{stock_area, cut_key, layout_of}
use Rattle.model.specs.Sheet.{GuillotineSheet, PlacedPiece, Insertion, new_sheet, making_of}
use Rattle.model.specs.Fitness.{fitness, positive_zero, one}
use Rattle.model.specs.Candidate.{Candidate, has_duplicate_keys}
use Rattle.model.specs.Project.{project_of}
use Rattle.model.specs.Expand.{ProblemInstance}
use Rattle.model.specs.Search.{heuristic_variants}
use Rattle.model.specs.Plan.{plan_words}
use Rattle.model.specs.Account.{account_from}
use Rattle.model.specs.Answer.{plan, refused, answer, answer_with, makings}
use Rattle.model.specs.Outcome.{Outcome, least_workspace, clears, cleared, written, too_small, outcome}
use Rattle.lists.proofs.Perm.{all_map, all_both, all_right, in_all}
use Rattle.lists.proofs.Every.{map_all, pairs_each}
use Rattle.trust.specs.Words.{PieceIn, sheets_in}
use Rattle.trust.specs.InLayout.{InLayout}
use Rattle.trust.specs.PieceRules.{asked_by, inside_board, kerf_apart, pairwise, piece_rects_in}
use Rattle.trust.specs.Trusted.{Made, Each, plan_makings, TrustedBy, Trusted}
use Rattle.trust.specs.Sound.{Apart, piece_rects, sheet_rects}
use Rattle.trust.specs.Proper.{SheetOk}
use Rattle.trust.specs.Admitted.{Admitted}
use Rattle.trust.proofs.Planned.{plan_admitted, empty_plan}
use Rattle.trust.proofs.Area.{areas, areas_append}
use Rattle.trust.proofs.Account.{board_area_lem}
use Rattle.trust.proofs.Guided.{guide_present}
use Rattle.trust.proofs.Search.{Won}
use Rattle.trust.proofs.Checks.{admitted}
use Rattle.trust.proofs.Answer.{FromWinner, not_refused, plan_from_winner}
use Rattle.trust.proofs.Distance.{apart_passed}
use Rattle.trust.proofs.Truth.{all_passed, pairs_passed}
use Rattle.trust.proofs.RoundTrip.{piece_view, sheet_view, sheets_read}
use Rattle.trust.proofs.PlanLayout.{plan_in_layout}
use Rattle.trust.proofs.PlanPieces.{inside_passed, rects_read, OfPanels, of_panels, pieces_obey}
use Rattle.trust.proofs.PlanGuide.{guide_rules}

-- ---- a sheet

module _ (kerf : ℕ) (b : GuillotineSheet) (ok : SheetOk kerf b) where
  abbrev rects : List Rect
  rects = piece_rects b.placed_pieces

  waste_inside_lem : T (all (inside_board (sheet_view b)) (sheet_view b).waste)
  unfolding sheet_view
  waste_inside_lem = all_passed (inside_board (sheet_view b)) b.free_rects (all_map _ _ (inside_passed b) b.free_rects (all_right _ rects b.free_rects ok.layout.within))

  all_apart : T (pairwise (kerf_apart kerf) (piece_rects_in (sheet_view b) ++ (sheet_view b).waste))
  all_apart = subst (λ (rs : List Rect). T (pairwise (kerf_apart kerf) (rs ++ (sheet_view b).waste))) (sym (rects_read b)) here
    where
      here : T (pairwise (kerf_apart kerf) (rects ++ (sheet_view b).waste))
      here = unfold sheet_view in pairs_passed (kerf_apart kerf) (sheet_rects b) (pairs_each (Apart kerf) _ (apart_passed kerf) (sheet_rects b) ok.layout.apart)

  -- what the making's splits took, and what its merges gave back
  abbrev took : ℕ
  took = (account_from kerf (new_sheet b.stock) (making_of b)).0

  abbrev gave : ℕ
  gave = (account_from kerf (new_sheet b.stock) (making_of b)).1

  own_account : (sheet_view b).width * (sheet_view b).length + gave ≡ areas (piece_rects_in (sheet_view b)) + areas (sheet_view b).waste + took
  own_account =
      subst (λ (rs : List Rect). (sheet_view b).width * (sheet_view b).length + gave ≡ areas rs + areas (sheet_view b).waste + took) (sym (rects_read b))
      (here (board_area_lem kerf b.stock (making_of b) b ok.rebuilt))
    where
      here : areas (sheet_rects b) + took ≡ stock_area b.stock + gave → (sheet_view b).width * (sheet_view b).length + gave ≡ areas rects + areas (sheet_view b).waste + took
      here e = unfold sheet_view in omega (arith, e, areas_append rects b.free_rects)

  own_panels_lem : map (λ (i : Insertion). cut_key i.cut) (making_of b) ≡ map (λ (p : PieceIn). p.key) (sheet_view b).pieces
  unfolding making_of sheet_view piece_view
  own_panels_lem = map-map (λ (i : Insertion). cut_key i.cut) (λ (p : PlacedPiece). p.by) b.placed_pieces ∙ sym (map-map (λ (p : PieceIn). p.key) piece_view b.placed_pieces)

  -- the insertions of a sheet are of cuts with sides
  sides : (inst : ProblemInstance) → Admitted inst → OfPanels inst b → All (λ i. (0 < i.cut.width) × (0 < i.cut.length)) (making_of b)
  unfolding making_of
  sides inst a m =
      map_all (λ p. Memᴰ p.by.cut inst.cuts) _ (λ (p : PlacedPiece). p.by) (λ p k. in_all (λ c. (0 < c.width) × (0 < c.length)) inst.cuts a.panels k) b.placed_pieces m

  sheet_made : (inst : ProblemInstance) → Admitted inst → OfPanels inst b → Made kerf (b.stock, making_of b) (sheet_view b)
  sheet_made inst a m =
      record {
        board = unfold sheet_view in refl;
        panels = own_panels_lem;
        account = own_account;
        guide = guide_rules kerf b (making_of b) ok.parts (guide_present kerf b.stock (making_of b) b (sides inst a m) ok.rebuilt);
      }

-- ---- the plan

each_map : {A B C : Type 0} (R : B → C → Type 0) (f : A → B) (g : A → C) (xs : List A) → All (λ x. R (f x) (g x)) xs → Each R (map f xs) (map g xs)
each_map R f g [] h = tt
each_map R f g (x ∷ xs) h = (h.0, each_map R f g xs h.1)

module _ (rows : List BaselineGuillotineHeuristic) (file : List ℕ) where
  abbrev inst : ProblemInstance
  inst = asked_by file

  -- of sheets that are read to be these
  trusted_sheets : (words : List ℕ) (c : Candidate) → InLayout words → sheets_in words ≡ map sheet_view c.bins → plan_makings rows file ≡ map (λ b. (b.stock, making_of b)) c.bins
      → Admitted inst → Won (SheetOk inst.kerf_width) inst c → TrustedBy rows file words
  trusted_sheets words c l e m a w =
      let bins = c.bins in
      let kerf = inst.kerf_width in
      record {
        layout = l;
        pieces = rw e (pieces_obey inst a c w);
        waste_inside = rw e (all_passed _ (map sheet_view bins) (map_all _ _ sheet_view (λ b h. waste_inside_lem kerf b h) bins w.sheets));
        apart = rw e (all_passed _ (map sheet_view bins) (map_all _ _ sheet_view (λ b h. all_apart kerf b h) bins w.sheets));
        made =
            rw (e, m)
            (each_map (Made kerf) _ sheet_view bins (all_both (SheetOk kerf) (OfPanels inst) _ (λ b h k. sheet_made kerf b h inst a k) bins w.sheets (of_panels _ inst c w)));
      }

  -- of no sheets, where no panel is asked for
  trusted_empty : (words : List ℕ) → InLayout words → sheets_in words ≡ [] → inst.cuts ≡ [] → TrustedBy rows file words
  unfolding all has_duplicate_keys plan_makings
  trusted_empty words l e c =
      record {
        layout = l;
        pieces = rw e (record { panels_once = rw c tt; boards = tt; boards_once = tt; fits = tt; inside = tt; apart = tt });
        waste_inside = rw e tt;
        apart = rw e tt;
        made = rw (e, c) tt;
      }

  searched_for_lem : (c : CutInstance) (cs : List CutInstance) → inst.cuts ≡ c ∷ cs → plan_makings rows file ≡ makings rows file
  unfolding plan_makings
  searched_for_lem c cs e = ap (λ (xs : List CutInstance). if is_empty xs then [] else makings rows file) e

  -- the words of a plan, and whatever follows them
  pub trusted_by : (words rest : List ℕ) → answer_with rows file ≡ plan words → TrustedBy rows file (words ++ rest)
  trusted_by words rest e = go inst.cuts refl
    where
      none_asked : inst.cuts ≡ [] → TrustedBy rows file (words ++ rest)
      none_asked c =
          let layout = layout_of (project_of file).layout in
          rw (empty_plan rows file words e c) (trusted_empty (plan_words layout one [] ++ rest) (plan_in_layout layout one rest []) (sheets_read layout one [] rest) c)

      won : plan_makings rows file ≡ makings rows file → FromWinner rows file words → TrustedBy rows file (words ++ rest)
      won m f =
          let bins = f.candidate.bins in
          let share = get_or (fitness bins) positive_zero in
          rw f.as_words
          (trusted_sheets (plan_words LayoutKind.Guillotine share bins ++ rest) f.candidate (plan_in_layout LayoutKind.Guillotine share rest bins) (sheets_read LayoutKind.Guillotine share bins rest) (m ∙ f.made)
          (admitted file (plan_admitted rows file words e)) f.won)

      go : (cs : List CutInstance) → inst.cuts ≡ cs → TrustedBy rows file (words ++ rest)
      go [] c = none_asked c
      go (x ∷ cs) c = elim (plan_from_winner rows file words e) [ inl n ↦ none_asked n | inr f ↦ won (searched_for_lem x cs c) f ]

pub trusted : (file words rest : List ℕ) → answer file ≡ plan words → Trusted file (words ++ rest)
unfolding answer
trusted file words rest e = trusted_by heuristic_variants file words rest e

-- the plan memory that a call of the entry leaves
pub trusted_outcome : (file workspace memory words : List ℕ) → (outcome file workspace memory).answer ≡ plan words → Trusted file (outcome file workspace memory).plan
unfolding outcome written
trusted_outcome file workspace memory words e = go (too_small workspace memory) e
  where
    rest : Bool → Outcome
    rest b = if b then record { answer = refused 1; workspace = workspace; plan = memory }
        else record { answer = answer file; workspace = if clears (answer file) then cleared least_workspace workspace else workspace; plan = written (answer file) memory }

    go : (b : Bool) → (rest b).answer ≡ plan words → Trusted file (rest b).plan
    go true h = absurd (not_refused 1 words h)
    go false h = rw h (trusted file words (drop (length words) memory) h)
