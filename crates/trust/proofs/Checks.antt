-- What the file's checks leave of the instance: positive sides (6), and ids, hence keys, of one's own (9).
use Rattle.std.specs.Prelude.{if◌then◌else◌}
use Prim.Native.Nat.{ℕ, zero, suc, ◌+◌, ◌<◌}
use native.Mathlib.Omega.{arith}
use mathlib.Core.Path.{◌≡◌, refl, sym}
use mathlib.Core.Logic.{◌⊎◌, inl, inr}
use mathlib.Core.Bool.{Bool, true, false, not, ◌&&◌, true≢false}
use mathlib.Core.List.{List, [], ◌∷◌, ◌++◌}
use mathlib.Core.Option.{Option, none, some, some-ne-none}
use lib.Dec.{T, eqb}
use borrow.Author.Tests.{eqb-false, ne_eqb}
use Rattle.lists.specs.Base.{◌<|>◌, any, range, concat_map}
use Rattle.lists.specs.Elements.{All, Pairs}
use Rattle.model.specs.declared.StockInstance.{StockInstance}
use Rattle.model.specs.declared.CutInstance.{CutInstance}
use Rattle.model.specs.declared.InstanceKey.{InstanceKey}
use Rattle.model.specs.Types.{stock_key, cut_key, same_key}
use Rattle.model.specs.Project.{Record, Project, project_of, well_formed}
use Rattle.model.specs.Refusal.{Check, first_that_applies, RecordRule, stock_rule, cut_rule, record_checks, settings_checks, whole_checks, project_checks, file_checks, file_refusal, zero_side}
use Rattle.model.specs.Expand.{compare_stock, stock_instances, cut_instances, expand_project}
use Rattle.trust.specs.Admitted.{Admitted, Differ, DifferBoards, Distinct}
use Rattle.lists.proofs.Perm.{perm_sym, all_map, all_append, all_left, all_right, all_perm, pairs_perm, sort_by_perm}
use Rattle.lists.proofs.Every.{concat_map_all, all_map_any, pairs_map}
use Rattle.lists.proofs.Counts.{count_rises}
use Rattle.trust.proofs.Truth.{or_false_split}
use Rattle.trust.proofs.Crossover.{board_sym}

-- ---- no refusal

-- a row whose condition does not hold
abbrev pub Passed : Check → Type 0
Passed c = c.1 ≡ false

neither : {A : Type 0} (o q : Option A) → (o <|> q) ≡ none → (o ≡ none) × (q ≡ none)
neither none q e = (refl, e)
neither (some a) q e = absurd (some-ne-none a e)

none_applies : (cs : List Check) → first_that_applies cs ≡ none → All Passed cs
unfolding first_that_applies
none_applies [] e = tt
none_applies (c ∷ cs) e =
    let n = neither (if c.1 then some c.0 else none) (first_that_applies cs) e in
    (go c.1 n.0, none_applies cs n.1)
  where
    go : (b : Bool) → ◌≡◌ {A = Option ℕ} (if b then some c.0 else none) none → b ≡ false
    go true k = absurd (some-ne-none c.0 k)
    go false k = refl

-- what a rule finds of a record that it does not refuse
abbrev pub Rule : RecordRule → (Record → Type 0) → Type 0
Rule rule Q = (seen : List ℕ) (count : ℕ) (p : Record) → All Passed (rule seen count p) → Q p × (any (eqb p.id) seen ≡ false)

abbrev pub OtherId : Record → Record → Type 0
OtherId p q = eqb q.id p.id ≡ false

pub records : (rule : RecordRule) (Q : Record → Type 0) → Rule rule Q → (seen : List ℕ) (count : ℕ) (ps : List Record) → All Passed (record_checks rule seen count ps)
    → All Q ps × All (λ p. any (eqb p.id) seen ≡ false) ps × Pairs OtherId ps
unfolding record_checks any
records rule Q f seen count [] e = (tt, tt, tt)
records rule Q f seen count (p ∷ ps) e =
    let later = record_checks rule (p.id ∷ seen) (count + p.quantity) ps in
    let h = f seen count p (all_left Passed (rule seen count p) later e) in
    let t = records rule Q f (p.id ∷ seen) (count + p.quantity) ps (all_right Passed (rule seen count p) later e) in (
      (h.0, t.0),
      (h.1, all_map (λ q. any (eqb q.id) (p.id ∷ seen) ≡ false) (λ q. any (eqb q.id) seen ≡ false) (λ q k. (or_false_split (eqb q.id p.id) _ k).1) ps t.1),
      (all_map (λ q. any (eqb q.id) (p.id ∷ seen) ≡ false) (OtherId p) (λ q k. (or_false_split (eqb q.id p.id) _ k).0) ps t.1, t.2),
    )

-- ---- positive sides

abbrev Sides : Record → Type 0
Sides p = (0 < p.width) × (0 < p.length)

pub nonzero : (n : ℕ) → eqb n 0 ≡ false → 0 < n
nonzero zero e = absurd (true≢false e)
nonzero (suc n) e = omega arith

sides : (p : Record) → zero_side p ≡ false → Sides p
sides p e =
    let s = or_false_split (eqb p.width 0) (eqb p.length 0) e in
    (nonzero p.width s.0, nonzero p.length s.1)

stock_rule_lem : Rule stock_rule Sides
unfolding stock_rule
stock_rule_lem seen count p h = (sides p h.1.0, h.1.1.1.1.0)

cut_rule_lem : Rule cut_rule Sides
unfolding cut_rule
cut_rule_lem seen count p h = (sides p h.1.0, h.1.1.1.1.0)

-- ---- keys of one's own

key_differs : (a b : InstanceKey) → (eqb a.id b.id ≡ false) ⊎ (eqb a.instance b.instance ≡ false) → T (not (same_key a b))
unfolding same_key
key_differs a b s = go (eqb a.id b.id) (eqb a.instance b.instance) s
  where
    go : (p q : Bool) → (p ≡ false) ⊎ (q ≡ false) → T (not (p && q))
    go true true (inl e) = absurd (true≢false e)
    go true true (inr e) = absurd (true≢false e)
    go true false s = tt
    go false q s = tt

-- what different records give differs, and what one record gives does
module _ {A B : Type 0} (R : B → B → Type 0) (S : A → A → Type 0) (From : A → B → Type 0) (f : A → List B)
    (from : (x : A) → All (From x) (f x)) (inner : (x : A) → Pairs R (f x)) (outer : (x y : A) (a b : B) → S x y → From x a → From y b → R a b) where
  pairs_append : (xs ys : List B) → Pairs R xs → All (λ a. All (R a) ys) xs → Pairs R ys → Pairs R (xs ++ ys)
  pairs_append [] ys h k l = l
  pairs_append (x ∷ xs) ys h k l = (all_append (R x) xs ys h.0 k.0, pairs_append xs ys h.1 k.1 l)

  pairs_concat_map : (xs : List A) → Pairs S xs → Pairs R (concat_map f xs)
  unfolding concat_map
  pairs_concat_map [] h = tt
  pairs_concat_map (x ∷ xs) h =
      pairs_append (f x) (concat_map f xs) (inner x)
      (all_map (From x) (λ a. All (R a) (concat_map f xs))
      (λ a i. concat_map_all (S x) (R a) f (λ y s. all_map (From y) (R a) (λ b j. outer x y a b s i j) (f y) (from y)) xs h.0) (f x) (from x))
      (pairs_concat_map xs h.1)

swapped : (m n : ℕ) → eqb n m ≡ false → eqb m n ≡ false
swapped m n e = ne_eqb m n (λ k. eqb-false n m e (sym k))

stock_own : (ps : List Record) → Pairs OtherId ps → Pairs DifferBoards (concat_map stock_instances ps)
stock_own =
    pairs_concat_map DifferBoards OtherId (λ p s. s.stock_id ≡ p.id) stock_instances
    (λ p. unfold stock_instances in all_map_any _ _ (λ n. refl) (range p.quantity))
    (λ p. unfold stock_instances in pairs_map (λ j k. j < k) DifferBoards _ (λ j k h. key_differs _ _ (inr (ne_eqb j k (λ e. omega arith)))) (range p.quantity) (count_rises 0 p.quantity))
    (λ p q a b s i j. key_differs (stock_key a) (stock_key b) (inl (rw (i, j) (swapped p.id q.id s))))

cuts_own : (ps : List Record) → Pairs OtherId ps → Distinct (concat_map cut_instances ps)
cuts_own =
    pairs_concat_map Differ OtherId (λ p s. s.cut_id ≡ p.id) cut_instances
    (λ p. unfold cut_instances in all_map_any _ _ (λ n. refl) (range p.quantity))
    (λ p. unfold cut_instances in pairs_map (λ j k. j < k) Differ _ (λ j k h. key_differs _ _ (inr (ne_eqb j k (λ e. omega arith)))) (range p.quantity) (count_rises 0 p.quantity))
    (λ p q a b s i j. key_differs (cut_key a) (cut_key b) (inl (rw (i, j) (swapped p.id q.id s))))

-- ---- the instance

abbrev BoardSides : StockInstance → Type 0
BoardSides s = (0 < s.width) × (0 < s.length)

abbrev PanelSides : CutInstance → Type 0
PanelSides c = (0 < c.width) × (0 < c.length)

stock_sides : (p : Record) → Sides p → All BoardSides (stock_instances p)
unfolding stock_instances
stock_sides p h = all_map_any BoardSides _ (λ n. h) (range p.quantity)

cut_sides : (p : Record) → Sides p → All PanelSides (cut_instances p)
unfolding cut_instances
cut_sides p h = all_map_any PanelSides _ (λ n. h) (range p.quantity)

-- the parts of the table
pub record Rows (p : Project) : Type 0 where
  pub settings : All Passed (settings_checks p)
  pub stock : All Passed (record_checks stock_rule [] 0 p.stock)
  pub cuts : All Passed (record_checks cut_rule [] 0 p.cuts)
  pub whole : All Passed (whole_checks p)

pub rows : (p : Project) → All Passed (project_checks p) → Rows p
unfolding project_checks
rows p h =
    let stock = record_checks stock_rule [] 0 p.stock in
    let cuts = record_checks cut_rule [] 0 p.cuts in
    let h₁ = all_right Passed (settings_checks p) (stock ++ (cuts ++ whole_checks p)) h in
    let h₂ = all_right Passed stock (cuts ++ whole_checks p) h₁ in
    record {
      settings = all_left Passed (settings_checks p) (stock ++ (cuts ++ whole_checks p)) h;
      stock = all_left Passed stock (cuts ++ whole_checks p) h₁;
      cuts = all_left Passed cuts (whole_checks p) h₂;
      whole = all_right Passed cuts (whole_checks p) h₂;
    }

project_admitted : (p : Project) → All Passed (project_checks p) → Admitted (expand_project p)
unfolding expand_project
project_admitted p h =
    let r = rows p h in
    let s = records stock_rule Sides stock_rule_lem [] 0 p.stock r.stock in
    let c = records cut_rule Sides cut_rule_lem [] 0 p.cuts r.cuts in
    let sorted = perm_sym (sort_by_perm compare_stock (concat_map stock_instances p.stock)) in
    record {
      boards = all_perm BoardSides sorted (concat_map_all Sides BoardSides stock_instances stock_sides p.stock s.0);
      panels = concat_map_all Sides PanelSides cut_instances cut_sides p.cuts c.0;
      own_boards = pairs_perm DifferBoards board_sym sorted (stock_own p.stock s.2);
      own_panels = cuts_own p.cuts c.2;
    }

-- a file that no check refuses passes every row
pub file_passed : (bytes : List ℕ) → file_refusal bytes ≡ none → All Passed (project_checks (project_of bytes))
unfolding file_refusal file_checks
file_passed bytes e = go (well_formed bytes) (none_applies (file_checks bytes) e)
  where
    go : (b : Bool) → All Passed ((2, not b) ∷ (if b then project_checks (project_of bytes) else [])) → All Passed (project_checks (project_of bytes))
    go true h = h.1
    go false h = absurd (true≢false h.0)

pub admitted : (bytes : List ℕ) → file_refusal bytes ≡ none → Admitted (expand_project (project_of bytes))
admitted bytes e = project_admitted (project_of bytes) (file_passed bytes e)
