-- Insertions made again one after the other: each board's sheet is the one that its insertions so far build.
use Prim.Native.Nat.{ℕ, ◌+◌, ◌≤◌, ◌<◌}
use native.Mathlib.Omega.{arith}
use mathlib.Core.Path.{◌≡◌, refl, sym, ap, ◌∙◌, subst}
use mathlib.Core.Logic.{◌⊎◌, inl, inr}
use mathlib.Core.Bool.{Bool, true, false, true≢false, ◌&&◌}
use mathlib.Core.List.Memᴰ
use mathlib.Core.List.{List, [], ◌∷◌, ◌++◌, Memᴰ}
use mathlib.Core.Option.{Option, none, some}
use lib.Dec.{eqb}
use lib.ListN.{length, get_or, take, drop, take-append-drop, length-take}
use lib.Seq.{take_all}
use borrow.Author.Tests.{eqb-true, eqb-false}
use Rattle.std.proofs.lemmas.List.{get_or-set_same, get_or-set_other}
use Rattle.lists.specs.Base.{◌>>=◌, is_some, all, retain}
use Rattle.lists.specs.Elements.{All}
use Rattle.lists.proofs.Every.{all_get}
use Rattle.lists.proofs.Arrays.{take_next}
use Rattle.lists.proofs.Options.{none_by}
use Rattle.model.specs.declared.StockInstance.{StockInstance}
use Rattle.model.specs.declared.Rect.{Rect}
use Rattle.model.specs.Sheet.{GuillotineSheet, try_insert, rebuild}
use Rattle.model.specs.Expand.{ProblemInstance}
use Rattle.trust.specs.Admitted.{Ranged}
use Rattle.project.specs.Problem.{board_in, cut_in}
use Rattle.candidate.specs.Entries.{board_of, cut_of, heuristic_of, on_board}
use Rattle.candidate.specs.Stands.{insertion_in, making_in, bin_in}
use Rattle.candidate.specs.Bins.{Other, rects_on, with_bin, ShowsBin}
use Rattle.candidate.proofs.Makings.{rebuild_fails, rebuilt_bin, bare_rebuilt, bin_bare, making_append, making_other, bin_other, rebuilt_more, rebuilt_same}
use Rattle.candidate.proofs.Standing.{RebuiltOn}
use Rattle.candidate.specs.Fitting.{Fillable, InsertsOn, InsertsOnBoard}
use Rattle.candidate.specs.Rebuilding.{rebuilds_all, ShowsBare, Makable, InsertsAll}
use Rattle.candidate.proofs.placing.NextCut.{shown_fillable}
use Rattle.candidate.proofs.placing.Rebuilt.{rebuilt_stock}
use Rattle.candidate.proofs.placing.OnBoard.{length_after}

-- ---- whether all are rebuilt

module _ (inst : ProblemInstance) (words : List ℕ) where
  pub all_rebuilt : (boards : List ℕ) → All (RebuiltOn inst words) boards → rebuilds_all inst words boards ≡ true
  unfolding rebuilds_all all
  all_rebuilt [] h = refl
  all_rebuilt (b ∷ boards) h = rw h.0 (all_rebuilt boards h.1)

  pub one_fails : (boards : List ℕ) (b : ℕ) → Memᴰ b boards → rebuild inst.kerf_width (board_in inst b) (making_in inst words b) ≡ none → rebuilds_all inst words boards ≡ false
  unfolding rebuilds_all all
  one_fails [] b m e = absurd (Memᴰ.not-nil m)
  one_fails (x ∷ boards) b m e = go (Memᴰ.cases_cons m) (is_some (rebuild inst.kerf_width (board_in inst x) (making_in inst words x))) refl (λ k. one_fails boards b k e)
    where
      go : (b ≡ x) ⊎ Memᴰ b boards → (q : Bool) → is_some (rebuild inst.kerf_width (board_in inst x) (making_in inst words x)) ≡ q
          → (Memᴰ b boards → rebuilds_all inst words boards ≡ false) → (q && rebuilds_all inst words boards) ≡ false
      go (inl f) true g later =
          absurd (true≢false (sym g ∙ ap (λ (y : ℕ). is_some (rebuild inst.kerf_width (board_in inst y) (making_in inst words y))) (sym f) ∙ ap is_some e))
      go (inl f) false g later = refl
      go (inr k) true g later = later k
      go (inr k) false g later = refl

-- ---- the turns

module _ (inst : ProblemInstance) (words : List ℕ) (before : List (List Rect)) where
  pub record Remaking (free : List (List Rect)) (i : ℕ) : Type 0 where
    pub room : length free ≡ 64
    pub rebuilt : (b : ℕ) → RebuiltOn inst (take i words) b
    pub shown : (b : ℕ) → b < length inst.stock → ShowsBare inst before b → ShowsBin inst (take i words) free b
    pub others : (b : ℕ) → All (λ w. Other b (board_of w)) words → rects_on free b ≡ rects_on before b

  nothing_on : (b : ℕ) → on_board b [] ≡ []
  unfolding on_board retain
  nothing_on b = refl

  pub remaking_none : length before ≡ 64 → Remaking before 0
  remaking_none h =
      record {
        room = h;
        rebuilt = λ b. bare_rebuilt inst [] b (nothing_on b) ∙ ap some (sym (bin_bare inst [] b (nothing_on b)));
        shown = λ b h e. e ∙ ap (λ (s : GuillotineSheet). s.free_rects) (sym (bin_bare inst [] b (nothing_on b)));
        others = λ b h. refl;
      }

  pub remaking_done : (free : List (List Rect)) (i : ℕ) → Remaking free i → length words ≤ i → InsertsAll inst words before free true
  remaking_done free i m past =
      let whole : take i words ≡ words = take_all i words past in
      record {
        answer = λ boards h. sym (all_rebuilt inst words boards (every boards (λ b. subst (λ (l : List ℕ). RebuiltOn inst l b) whole (m.rebuilt b))));
        shown = λ e b h f. subst (λ (l : List ℕ). ShowsBin inst l free b) whole (m.shown b h f);
        others = m.others;
      }
    where
      every : {P : ℕ → Type 0} (bs : List ℕ) → ((b : ℕ) → P b) → All P bs
      every [] f = tt
      every (b ∷ bs) f = (f b, every bs f)

module _ (inst : ProblemInstance) (words : List ℕ) (before : List (List Rect)) (ok : Makable inst before words) (free : List (List Rect)) (i : ℕ)
    (m : Remaking inst words before free i) (here : i < length words) (ranged : Ranged inst) where
  abbrev word : ℕ
  word = get_or words i 0

  abbrev board : ℕ
  board = board_of word

  abbrev sheet : GuillotineSheet
  sheet = bin_in inst (take i words) board

  -- ---- what the insertion needs

  pub remaking_board : board < length inst.stock
  remaking_board = all_get (λ w. board_of w < length inst.stock) words i 0 ok.boards here

  pub remaking_cut : cut_of word < length inst.cuts
  remaking_cut = all_get (λ w. cut_of w < length inst.cuts) words i 0 ok.cuts here

  shown_here : ShowsBin inst (take i words) free board
  shown_here = m.shown board remaking_board (all_get (λ w. ShowsBare inst before (board_of w)) words i 0 ok.bare here)

  pub remaking_fillable : Fillable inst.kerf_width free board
  remaking_fillable =
      shown_fillable inst ranged (take i words) free board remaking_board (omega (arith, here, length-take i words, ok.few)) (m.rebuilt board) shown_here

  -- ---- what it leaves

  module _ (after : List (List Rect)) (r : Bool)
      (inserts : InsertsOnBoard inst.kerf_width (board_in inst board).pattern (record { cut = cut_in inst (cut_of word); heuristic = heuristic_of word }) board free after r) where
    into : InsertsOn inst.kerf_width sheet (insertion_in inst word) board free after r
    unfolding insertion_in
    into =
        let own : sheet.stock ≡ board_in inst board = rebuilt_stock inst.kerf_width (board_in inst board) (making_in inst (take i words) board) sheet (m.rebuilt board) in
        inserts sheet (record { rects = sym shown_here; grain = ap (λ (s : StockInstance). s.pattern) own })

    -- no place
    module _ (e : r ≡ false) where
      refuses : try_insert inst.kerf_width sheet (insertion_in inst word) ≡ none
      refuses = none_by (try_insert inst.kerf_width sheet (insertion_in inst word)) (sym into.answer ∙ e)

      fails : rebuild inst.kerf_width (board_in inst board) (making_in inst words board) ≡ none
      fails =
          let first : rebuild inst.kerf_width (board_in inst board) (making_in inst (take i words ++ (word ∷ [])) board) ≡ none =
          rebuilt_more inst (take i words) word board refl
          ∙ ap (λ (o : Option GuillotineSheet). o >>= λ s. try_insert inst.kerf_width s (insertion_in inst word)) (m.rebuilt board)
          ∙ refuses
          in
          let whole : words ≡ (take i words ++ (word ∷ [])) ++ drop (i + 1) words =
          sym (take-append-drop (i + 1) words) ∙ ap (λ (l : List ℕ). l ++ drop (i + 1) words) (take_next words i 0 here) in
          ap (λ (l : List ℕ). rebuild inst.kerf_width (board_in inst board) (making_in inst l board)) whole
          ∙ ap (rebuild inst.kerf_width (board_in inst board)) (making_append inst (take i words ++ (word ∷ [])) (drop (i + 1) words) board)
          ∙ rebuild_fails inst.kerf_width (board_in inst board) (making_in inst (take i words ++ (word ∷ [])) board) (making_in inst (drop (i + 1) words) board) first

      stays : after ≡ free
      stays = into.rects ∙ ap (λ (o : Option GuillotineSheet). elim o [ none ↦ free | some t ↦ with_bin free board t ]) refuses

      pub remaking_fails : InsertsAll inst words before after false
      remaking_fails =
          record {
            answer = λ boards h. sym (one_fails inst words boards board (all_get (λ w. Memᴰ (board_of w) boards) words i 0 h here) fails);
            shown = λ f. absurd (true≢false (sym f));
            others = λ b h. ap (λ (l : List (List Rect)). rects_on l b) stays ∙ m.others b h;
          }

    -- a place
    module _ (t : GuillotineSheet) (takes : try_insert inst.kerf_width sheet (insertion_in inst word) ≡ some t) where
      abbrev more : List ℕ
      more = take i words ++ (word ∷ [])

      is : after ≡ with_bin free board t
      is = into.rects ∙ ap (λ (o : Option GuillotineSheet). elim o [ none ↦ free | some u ↦ with_bin free board u ]) takes

      made : rebuild inst.kerf_width (board_in inst board) (making_in inst more board) ≡ some t
      made = rebuilt_same inst (take i words) word board refl sheet t (m.rebuilt board) takes

      bin_is : bin_in inst more board ≡ t
      bin_is = rebuilt_bin inst more board t made

      rects_stay : (b : ℕ) → Other b board → rects_on after b ≡ rects_on free b
      rects_stay b o = ap (λ (l : List (List Rect)). rects_on l b) is ∙ get_or-set_other free board b t.free_rects [] o

      rebuilt_next : (b : ℕ) → RebuiltOn inst more b
      rebuilt_next b = go (eqb b board) refl
        where
          go : (q : Bool) → eqb b board ≡ q → RebuiltOn inst more b
          go true e = subst (RebuiltOn inst more) (sym (eqb-true b board e)) (made ∙ ap some (sym bin_is))
          go false e =
              let o : board ≡ b → ⊥ = λ f. eqb-false b board e (sym f) in
              ap (rebuild inst.kerf_width (board_in inst b)) (making_other inst (take i words) word b o) ∙ m.rebuilt b ∙ ap some (sym (bin_other inst (take i words) word b o))

      shown_next : (b : ℕ) → b < length inst.stock → ShowsBare inst before b → ShowsBin inst more after b
      shown_next b h f = go (eqb b board) refl
        where
          go : (q : Bool) → eqb b board ≡ q → ShowsBin inst more after b
          go true e =
              let inside : board < length free = omega (arith, remaking_board, ranged.few_boards, m.room) in
              subst (ShowsBin inst more after) (sym (eqb-true b board e))
              (ap (λ (l : List (List Rect)). rects_on l board) is ∙ get_or-set_same free board t.free_rects [] inside ∙ ap (λ (s : GuillotineSheet). s.free_rects) (sym bin_is))
          go false e =
              let o = eqb-false b board e in
              rects_stay b o ∙ m.shown b h f ∙ ap (λ (s : GuillotineSheet). s.free_rects) (sym (bin_other inst (take i words) word b (λ g. o (sym g))))

      next : Remaking inst words before after (i + 1)
      next =
          record {
            room = length_after inst.kerf_width sheet (insertion_in inst word) board free after r into ∙ m.room;
            rebuilt = λ b. rw (take_next words i 0 here) (rebuilt_next b);
            shown = λ b h f. rw (take_next words i 0 here) (shown_next b h f);
            others = λ b h. rects_stay b (all_get (λ w. Other b (board_of w)) words i 0 h here) ∙ m.others b h;
          }

    pub remaking_next : r ≡ true → Remaking inst words before after (i + 1)
    remaking_next e = go (try_insert inst.kerf_width sheet (insertion_in inst word)) refl
      where
        go : (q : Option GuillotineSheet) → try_insert inst.kerf_width sheet (insertion_in inst word) ≡ q → Remaking inst words before after (i + 1)
        go none f = absurd (true≢false (sym e ∙ into.answer ∙ ap is_some f))
        go (some t) f = next t f
