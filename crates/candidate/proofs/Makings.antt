-- The makings of sheets in words: one more insertion changes only the sheet on its board, by one `try_insert`.
use Rattle.std.specs.Prelude.{if◌then◌else◌}
use Prim.Native.Nat.{ℕ}
use mathlib.Core.Path.{◌≡◌, refl, ap, ◌∙◌}
use mathlib.Core.Bool.{Bool}
use mathlib.Core.List.{List, [], ◌∷◌, ◌++◌, map, append-nil}
use mathlib.Core.Option.{Option, none, some, get_or}
use lib.Dec.{eqb}
use borrow.Author.Tests.{eq-eqb, ne_eqb}
use Rattle.lists.specs.Base.{◌>>=◌, retain, fold_option}
use Rattle.lists.specs.Elements.{All}
use Rattle.lists.proofs.Sums.{map_append}
use Rattle.lists.proofs.Options.{fold_append}
use Rattle.lists.proofs.Kept.{retain_append}
use Rattle.model.specs.declared.StockInstance.{StockInstance}
use Rattle.model.specs.Sheet.{GuillotineSheet, Insertion, new_sheet, try_insert, rebuild}
use Rattle.model.specs.Expand.{ProblemInstance}
use Rattle.candidate.specs.Entries.{board_of, on_board}
use Rattle.candidate.specs.Stands.{insertion_in, making_in, bin_in}
use Rattle.project.specs.Problem.{board_in}

-- ---- rebuilding

module _ (kerf : ℕ) (stock : StockInstance) where
  -- one insertion more is one `try_insert` more
  pub rebuild_snoc : (is : List Insertion) (i : Insertion) → rebuild kerf stock (is ++ (i ∷ [])) ≡ (rebuild kerf stock is >>= λ t. try_insert kerf t i)
  unfolding rebuild fold_option
  rebuild_snoc is i = fold_append (try_insert kerf) (new_sheet stock) is (i ∷ []) ∙ go (fold_option (try_insert kerf) (new_sheet stock) is)
    where
      same : (o : Option GuillotineSheet) → (o >>= λ t. some t) ≡ o
      same none = refl
      same (some t) = refl

      go : (o : Option GuillotineSheet) → (o >>= λ t. try_insert kerf t i >>= λ u. some u) ≡ (o >>= λ t. try_insert kerf t i)
      go none = refl
      go (some t) = same (try_insert kerf t i)

  -- what fails goes on to fail
  pub rebuild_fails : (is js : List Insertion) → rebuild kerf stock is ≡ none → rebuild kerf stock (is ++ js) ≡ none
  unfolding rebuild
  rebuild_fails is js e = fold_append (try_insert kerf) (new_sheet stock) is js ∙ ap (λ (o : Option GuillotineSheet). o >>= λ t. fold_option (try_insert kerf) t js) e

pub rebuild_none : (kerf : ℕ) (stock : StockInstance) → rebuild kerf stock [] ≡ some (new_sheet stock)
unfolding rebuild fold_option
rebuild_none kerf stock = refl

-- ---- the insertions on a board

pub on_append : (board : ℕ) (a b : List ℕ) → on_board board (a ++ b) ≡ on_board board a ++ on_board board b
unfolding on_board
on_append board a b = retain_append (λ w. eqb (board_of w) board) a b

module _ (words : List ℕ) (word board : ℕ) where
  pub on_same : board_of word ≡ board → on_board board (words ++ (word ∷ [])) ≡ on_board board words ++ (word ∷ [])
  unfolding on_board retain
  on_same e =
      on_append board words (word ∷ [])
      ∙ ap (λ (b : Bool). on_board board words ++ (if b then word ∷ [] else [])) (eq-eqb (board_of word) board e)

  pub on_other : (board_of word ≡ board → ⊥) → on_board board (words ++ (word ∷ [])) ≡ on_board board words
  unfolding on_board retain
  on_other e =
      on_append board words (word ∷ [])
      ∙ ap (λ (b : Bool). on_board board words ++ (if b then word ∷ [] else [])) (ne_eqb (board_of word) board e)
      ∙ append-nil (on_board board words)

-- none of them
pub on_none : (board : ℕ) (words : List ℕ) → All (λ w. board_of w ≡ board → ⊥) words → on_board board words ≡ []
unfolding on_board retain
on_none board [] h = refl
on_none board (w ∷ words) h = rw (ne_eqb (board_of w) board h.0) (on_none board words h.1)

-- ---- the sheets

pub making_append : (inst : ProblemInstance) (a c : List ℕ) (b : ℕ) → making_in inst (a ++ c) b ≡ making_in inst a b ++ making_in inst c b
unfolding making_in
making_append inst a c b = ap (map (insertion_in inst)) (on_append b a c) ∙ map_append (insertion_in inst) (on_board b a) (on_board b c)

module _ (inst : ProblemInstance) (words : List ℕ) (b : ℕ) where
  -- a board without insertions is bare
  pub bare_rebuilt : on_board b words ≡ [] → rebuild inst.kerf_width (board_in inst b) (making_in inst words b) ≡ some (new_sheet (board_in inst b))
  unfolding making_in
  bare_rebuilt e = ap (λ (l : List ℕ). rebuild inst.kerf_width (board_in inst b) (map (insertion_in inst) l)) e ∙ rebuild_none inst.kerf_width (board_in inst b)

  -- what is rebuilt is the bin
  pub rebuilt_bin : (t : GuillotineSheet) → rebuild inst.kerf_width (board_in inst b) (making_in inst words b) ≡ some t → bin_in inst words b ≡ t
  unfolding bin_in
  rebuilt_bin t e = ap (λ (o : Option GuillotineSheet). get_or o (new_sheet (board_in inst b))) e

  pub bin_bare : on_board b words ≡ [] → bin_in inst words b ≡ new_sheet (board_in inst b)
  bin_bare e = rebuilt_bin (new_sheet (board_in inst b)) (bare_rebuilt e)

module _ (inst : ProblemInstance) (words : List ℕ) (word b : ℕ) where
  pub making_other : (board_of word ≡ b → ⊥) → making_in inst (words ++ (word ∷ [])) b ≡ making_in inst words b
  unfolding making_in
  making_other e = ap (map (insertion_in inst)) (on_other words word b e)

  pub bin_other : (board_of word ≡ b → ⊥) → bin_in inst (words ++ (word ∷ [])) b ≡ bin_in inst words b
  unfolding bin_in
  bin_other e = ap (λ (is : List Insertion). get_or (rebuild inst.kerf_width (board_in inst b) is) (new_sheet (board_in inst b))) (making_other e)

  pub making_same : board_of word ≡ b → making_in inst (words ++ (word ∷ [])) b ≡ making_in inst words b ++ (insertion_in inst word ∷ [])
  unfolding making_in
  making_same e = ap (map (insertion_in inst)) (on_same words word b e) ∙ map_append (insertion_in inst) (on_board b words) (word ∷ [])

  pub rebuilt_more : board_of word ≡ b → rebuild inst.kerf_width (board_in inst b) (making_in inst (words ++ (word ∷ [])) b)
      ≡ (rebuild inst.kerf_width (board_in inst b) (making_in inst words b) >>= λ s. try_insert inst.kerf_width s (insertion_in inst word))
  rebuilt_more e =
      ap (rebuild inst.kerf_width (board_in inst b)) (making_same e)
      ∙ rebuild_snoc inst.kerf_width (board_in inst b) (making_in inst words b) (insertion_in inst word)

  pub rebuilt_same : board_of word ≡ b → (s t : GuillotineSheet) → rebuild inst.kerf_width (board_in inst b) (making_in inst words b) ≡ some s
      → try_insert inst.kerf_width s (insertion_in inst word) ≡ some t → rebuild inst.kerf_width (board_in inst b) (making_in inst (words ++ (word ∷ [])) b) ≡ some t
  rebuilt_same e s t f g = rebuilt_more e ∙ ap (λ (o : Option GuillotineSheet). o >>= λ u. try_insert inst.kerf_width u (insertion_in inst word)) f ∙ g
