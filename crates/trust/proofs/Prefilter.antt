-- At 15 and 16 no layout that obeys the piece rules exists.
use Prim.Native.Nat.{ℕ, ◌+◌, ◌≤◌}
use native.Mathlib.Nat.{le_refl}
use native.Mathlib.Omega.{arith}
use mathlib.Core.Path.{◌≡◌, refl, sym, ◌∙◌, subst}
use mathlib.Core.Logic.{◌⊎◌, inl, inr}
use mathlib.Core.Bool.{Bool, true, false, not, ◌&&◌, ◌||◌, true≢false}
use mathlib.Core.List.{List, [], ◌∷◌, ◌++◌, map, Memᴰ}
use mathlib.Core.Option.{some, none-ne-some}
use lib.Dec.{T, leb, eqb, le→leb}
use borrow.Author.Tests.{le-ltb, eqb-true}
use Rattle.lists.specs.Base.{sum, any, all, concat_map}
use Rattle.lists.specs.Elements.{Perm, All, Pairs}
use Rattle.model.specs.declared.PatternDirection.{PatternDirection}
use Rattle.model.specs.declared.StockInstance.{StockInstance}
use Rattle.model.specs.declared.CutInstance.{CutInstance}
use Rattle.model.specs.Types.{area, stock_rect, stock_area, cut_area, pattern_code}
use Rattle.model.specs.Fit.{same_pattern, pattern_matches, rotate_pattern, upright_test, turning_matters, rotated_test, upright_fit, rotated_fit, fit_cut_in_rects, cut_fits_stock}
use Rattle.model.specs.Sheet.{PlacedPiece}
use Rattle.model.specs.Expand.{ProblemInstance}
use Rattle.model.specs.Refusal.{first_that_applies}
use Rattle.model.specs.Answer.{prefilter}
use Rattle.trust.specs.Sound.{Apart, Legal, Lies, Within, piece_rects, turned, upright}
use Rattle.lists.proofs.Perm.{all_map, all_append, all_perm, mem_perm, sum_perm, all_self}
use Rattle.lists.proofs.Every.{map_all}
use Rattle.lists.proofs.Booleans.{is_true}
use Rattle.trust.proofs.Truth.{and_intro, or_left, or_right}
use Rattle.trust.proofs.Choice.{lies_area}
use Rattle.trust.proofs.Packing.{packed_area}

-- pieces on boards: the rules of pieces, whoever laid them
abbrev pub Laid : Type 0
Laid = StockInstance × List PlacedPiece

pub record Obeys (inst : ProblemInstance) (sheets : List Laid) : Type 0 where
  pub rest : List StockInstance
  pub boards : Perm (map (λ s. s.0) sheets ++ rest) inst.stock
  pub panels : Perm (map (λ p. p.by.cut) (concat_map (λ s. s.1) sheets)) inst.cuts
  pub legal : All (λ s. All (Legal s.0.pattern) s.1) sheets
  pub inside : All (λ s. All (Within (stock_rect s.0)) (piece_rects s.1)) sheets
  pub apart : All (λ s. Pairs (Apart inst.kerf_width) (piece_rects s.1)) sheets

-- ---- 16: the areas

pieces_area : (board : PatternDirection) (ps : List PlacedPiece) → All (Legal board) ps → sum (map area (piece_rects ps)) ≡ sum (map cut_area (map (λ (p : PlacedPiece). p.by.cut) ps))
unfolding sum
pieces_area board [] h = refl
pieces_area board (p ∷ ps) h = omega (arith, lies_area p.by.cut p.fit h.0.lies, pieces_area board ps h.1)

cuts_append : (xs ys : List PlacedPiece) → sum (map cut_area (map (λ (p : PlacedPiece). p.by.cut) (xs ++ ys)))
    ≡ sum (map cut_area (map (λ (p : PlacedPiece). p.by.cut) xs)) + sum (map cut_area (map (λ (p : PlacedPiece). p.by.cut) ys))
unfolding sum
cuts_append [] ys = omega arith
cuts_append (x ∷ xs) ys = omega (arith, cuts_append xs ys)

sheets_area : (kerf : ℕ) (sheets : List Laid) → All (λ s. All (Legal s.0.pattern) s.1) sheets → All (λ s. All (Within (stock_rect s.0)) (piece_rects s.1)) sheets
    → All (λ s. Pairs (Apart kerf) (piece_rects s.1)) sheets
    → sum (map cut_area (map (λ (p : PlacedPiece). p.by.cut) (concat_map (λ s. s.1) sheets))) ≤ sum (map stock_area (map (λ s. s.0) sheets))
unfolding sum concat_map
sheets_area kerf [] l i a = le_refl 0
sheets_area kerf (s ∷ sheets) l i a =
    omega (
      arith,
      cuts_append s.1 (concat_map (λ s. s.1) sheets),
      pieces_area s.0.pattern s.1 l.0,
      packed_area kerf (stock_rect s.0) (piece_rects s.1) refl refl i.0 a.0,
      sheets_area kerf sheets l.1 i.1 a.1,
    )

stock_append : (xs ys : List StockInstance) → sum (map stock_area xs) ≤ sum (map stock_area (xs ++ ys))
unfolding sum
stock_append [] ys = omega arith
stock_append (x ∷ xs) ys = omega (arith, stock_append xs ys)

pub enough_area : (inst : ProblemInstance) (sheets : List Laid) → Obeys inst sheets → sum (map cut_area inst.cuts) ≤ sum (map stock_area inst.stock)
enough_area inst sheets o =
    omega (
      arith,
      sum_perm cut_area o.panels,
      sheets_area inst.kerf_width sheets o.legal o.inside o.apart,
      stock_append (map (λ s. s.0) sheets) o.rest,
      sum_perm stock_area o.boards,
    )

-- ---- 15: a piece that lies on a board fits it

pub fits_upright : (c : CutInstance) (s : StockInstance) → T (pattern_matches c.pattern s.pattern) → c.width ≤ s.width → c.length ≤ s.length → T (upright_test c s.pattern (stock_rect s))
unfolding upright_test
fits_upright c s m w l =
    and_intro (pattern_matches c.pattern s.pattern && leb c.width s.width) (leb c.length s.length)
    (and_intro (pattern_matches c.pattern s.pattern) (leb c.width s.width) m (le→leb c.width s.width w)) (le→leb c.length s.length l)

pub fits_turned : (c : CutInstance) (s : StockInstance) → T c.can_rotate → T (turning_matters c) → T (pattern_matches (rotate_pattern c.pattern) s.pattern)
    → c.length ≤ s.width → c.width ≤ s.length → T (rotated_test c s.pattern (stock_rect s))
unfolding rotated_test
fits_turned c s t u m l w =
    let p = pattern_matches (rotate_pattern c.pattern) s.pattern in
    and_intro (c.can_rotate && turning_matters c) (p && leb c.length s.width && leb c.width s.length)
    (and_intro c.can_rotate (turning_matters c) t u)
    (and_intro (p && leb c.length s.width) (leb c.width s.length) (and_intro p (leb c.length s.width) m (le→leb c.length s.width l)) (le→leb c.width s.length w))

-- turning that does not matter: the sides are equal, and the pattern stays
record Unturned (c : CutInstance) : Type 0 where
  sides : c.width ≡ c.length
  code : pattern_code (rotate_pattern c.pattern) ≡ pattern_code c.pattern

unturned : (c : CutInstance) → turning_matters c ≡ false → Unturned c
unfolding turning_matters same_pattern
unturned c e = go (eqb c.width c.length) refl (eqb (pattern_code (rotate_pattern c.pattern)) (pattern_code c.pattern)) refl e
  where
    go : (a : Bool) → eqb c.width c.length ≡ a → (b : Bool) → eqb (pattern_code (rotate_pattern c.pattern)) (pattern_code c.pattern) ≡ b → (not a || not b) ≡ false → Unturned c
    go true f true g k = record { sides = eqb-true c.width c.length f; code = eqb-true _ _ g }
    go true f false g k = absurd (true≢false k)
    go false f b g k = absurd (true≢false k)

-- a match goes by codes alone
matches_code : (a b s : PatternDirection) → pattern_code a ≡ pattern_code b → T (pattern_matches a s) → T (pattern_matches b s)
unfolding pattern_matches same_pattern
matches_code a b s e h = subst (λ (n : ℕ). T (eqb n 0 || eqb (pattern_code s) 0 || eqb n (pattern_code s))) e h

one_fits : (c : CutInstance) (s : StockInstance) → (a b : Bool) → upright_test c s.pattern (stock_rect s) ≡ a → rotated_test c s.pattern (stock_rect s) ≡ b → T (a || b) → T (cut_fits_stock c s)
unfolding cut_fits_stock fit_cut_in_rects upright_fit rotated_fit
one_fits c s true b e f t = rw e tt
one_fits c s false true e f t = rw (e, f) tt
one_fits c s false false e f t = absurd t

piece_fits : (s : StockInstance) (p : PlacedPiece) → Legal s.pattern p → Within (stock_rect s) p.fit.rect → T (cut_fits_stock p.by.cut s)
piece_fits s p g w = go g.lies
  where
    c : CutInstance
    c = p.by.cut

    a : Bool
    a = upright_test c s.pattern (stock_rect s)

    b : Bool
    b = rotated_test c s.pattern (stock_rect s)

    by_upright : T a → T (cut_fits_stock c s)
    by_upright t = one_fits c s a b refl refl (or_left a b t)

    by_turning : T b → T (cut_fits_stock c s)
    by_turning t = one_fits c s a b refl refl (or_right a b t)

    go : Lies c p.fit → T (cut_fits_stock c s)
    go (upright x y q r) = by_upright (fits_upright c s (subst (λ (z : PatternDirection). T (pattern_matches z s.pattern)) q g.grain) (omega arith) (omega arith))
    go (turned t x y q r) = by (turning_matters c) refl (subst (λ (z : PatternDirection). T (pattern_matches z s.pattern)) q g.grain)
      where
        by : (m : Bool) → turning_matters c ≡ m → T (pattern_matches (rotate_pattern c.pattern) s.pattern) → T (cut_fits_stock c s)
        by true e k = by_turning (fits_turned c s t (subst T (sym e) tt) k (omega arith) (omega arith))
        by false e k =
            let u = unturned c e in
            by_upright (fits_upright c s (matches_code (rotate_pattern c.pattern) c.pattern s.pattern u.code k) (omega (arith, u.sides)) (omega (arith, u.sides)))

pub any_mem : {A : Type 0} (p : A → Bool) {a : A} (xs : List A) → Memᴰ a xs → T (p a) → T (any p xs)
unfolding any
any_mem p [] m t = absurd (mathlib.Core.List.Memᴰ.not-nil m)
any_mem {A} p {a} (x ∷ xs) m t = go (mathlib.Core.List.Memᴰ.cases_cons m) (λ k. any_mem p xs k t)
  where
    go : (a ≡ x) ⊎ Memᴰ a xs → (Memᴰ a xs → T (any p xs)) → T (p x || any p xs)
    go (inl e) later = or_left (p x) (any p xs) (subst (λ (z : A). T (p z)) e t)
    go (inr k) later = or_right (p x) (any p xs) (later k)

all_true : {A : Type 0} (p : A → Bool) (xs : List A) → All (λ x. T (p x)) xs → all p xs ≡ true
unfolding all
all_true p [] h = refl
all_true p (x ∷ xs) h = rw (is_true (p x) h.0) (all_true p xs h.1)

pieces_fit : (inst : ProblemInstance) (s : Laid) → Memᴰ s.0 inst.stock → (ps : List PlacedPiece) → All (Legal s.0.pattern) ps
    → All (Within (stock_rect s.0)) (piece_rects ps) → All (λ p. T (any (cut_fits_stock p.by.cut) inst.stock)) ps
pieces_fit inst s m [] l i = tt
pieces_fit inst s m (p ∷ ps) l i = (any_mem (cut_fits_stock p.by.cut) inst.stock m (piece_fits s.0 p l.0 i.0), pieces_fit inst s m ps l.1 i.1)

sheets_fit : (inst : ProblemInstance) (sheets : List Laid) → All (λ s. Memᴰ s inst.stock) (map (λ s. s.0) sheets) → All (λ s. All (Legal s.0.pattern) s.1) sheets
    → All (λ s. All (Within (stock_rect s.0)) (piece_rects s.1)) sheets → All (λ p. T (any (cut_fits_stock p.by.cut) inst.stock)) (concat_map (λ s. s.1) sheets)
unfolding concat_map
sheets_fit inst [] m l i = tt
sheets_fit inst (s ∷ sheets) m l i =
    all_append _ s.1 (concat_map (λ s. s.1) sheets) (pieces_fit inst s m.0 s.1 l.0 i.0) (sheets_fit inst sheets m.1 l.1 i.1)

pub all_fit_lem : (inst : ProblemInstance) (sheets : List Laid) → Obeys inst sheets → all (λ c. any (cut_fits_stock c) inst.stock) inst.cuts ≡ true
all_fit_lem inst sheets o =
    let known : All (λ s. Memᴰ s inst.stock) (map (λ s. s.0) sheets) =
    all_map (λ s. Memᴰ s (map (λ s. s.0) sheets)) (λ s. Memᴰ s inst.stock) (λ s m. mem_perm o.boards (mathlib.Core.List.Memᴰ.append_left o.rest m)) (map (λ s. s.0) sheets)
    (all_self (map (λ s. s.0) sheets))
    in
    all_true _ inst.cuts
    (all_perm (λ c. T (any (cut_fits_stock c) inst.stock)) o.panels
    (map_all (λ p. T (any (cut_fits_stock p.by.cut) inst.stock)) (λ c. T (any (cut_fits_stock c) inst.stock)) (λ p. p.by.cut) (λ p h. h) (concat_map (λ s. s.1) sheets)
    (sheets_fit inst sheets known o.legal o.inside)))

-- ---- both

pub no_layout : (inst : ProblemInstance) (k : ℕ) → prefilter inst ≡ some k → (sheets : List Laid) → Obeys inst sheets → ⊥
unfolding prefilter first_that_applies
no_layout inst k e sheets o =
    none-ne-some k
    (sym (rw (all_fit_lem inst sheets o, le-ltb (sum (map stock_area inst.stock)) (sum (map cut_area inst.cuts)) (enough_area inst sheets o))) ∙ e)
