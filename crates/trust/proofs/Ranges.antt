-- What the file's checks leave of the instance in numbers: kerf (4), sides (6, 7), ids, instances and how many there are (10, 12), a board
-- if there is a panel (13). `Checks` has what they leave of its keys.
use Prim.Native.Nat.{ℕ, zero, suc, ◌+◌, ◌*◌, ◌/◌, ◌^◌, ◌≤◌, ◌<◌}
use native.Mathlib.Nat.{one-le-pow, pow-succ', pow-zero, zero-lt-suc}
use native.Mathlib.Omega.{arith}
use mathlib.Core.Path.{◌≡◌, refl, sym, ◌∙◌}
use mathlib.Core.Bool.{Bool, true, false, not, ◌&&◌, ◌||◌, true≢false}
use mathlib.Core.List.{List, [], ◌∷◌}
use mathlib.Core.Option.{none}
use lib.Dec.{eqb, ltb}
use lib.ListN.{length, take, drop}
use borrow.Author.Tests.{ltb-false, eqb-true, eq-eqb, not-false}
use Rattle.lists.specs.Base.{sum, range, concat_map, is_empty}
use Rattle.lists.specs.Elements.{All}
use Rattle.model.specs.Project.{Record, Project, little_endian, number, read_record, read_records, project_of, stock_start, stock_length, cuts_start, cuts_length, record_length}
use Rattle.model.specs.Refusal.{RecordRule, most_side, most_instances, total_quantity, large_side, settings_checks, stock_rule, cut_rule, record_checks, whole_checks, project_checks, file_refusal}
use Rattle.model.specs.Expand.{compare_stock, stock_instances, cut_instances, expand_project}
use Rattle.trust.specs.Admitted.{BoardRange, InRange, PanelRange, Ranged}
use Rattle.lists.proofs.Perm.{perm_sym, length_perm, sort_by_perm, all_both, all_left, all_right, all_perm}
use Rattle.lists.proofs.Sums.{length-map, length_count_from, length_counted}
use Rattle.lists.proofs.Every.{all_drop, map_all, concat_map_all, all_map_any}
use Rattle.lists.proofs.Counts.{count_below}
use Rattle.trust.proofs.Truth.{or_false_split}
use Rattle.trust.proofs.Checks.{rows, Passed, Rule, records, nonzero, file_passed}

-- ---- the record

pub record SettingsRange (p : Project) : Type 0 where
  pub layout : p.layout ≤ 1
  pub effort : p.effort ≤ 2
  pub unit : p.unit ≤ 2
  pub spare : p.spare ≡ 0
  pub nested : p.layout ≡ 1 → p.cuts ≡ []

-- ---- numbers of bytes

abbrev pub Byte : ℕ → Type 0
Byte b = b < 256

little_endian_lt : (n : ℕ) (bs : List ℕ) → All Byte bs → little_endian (take n bs) < 256 ^ n
unfolding little_endian
little_endian_lt zero bs h = omega (arith, pow-zero 256)
little_endian_lt (suc n) [] h = one-le-pow (suc n) 256 (zero-lt-suc 255)
little_endian_lt (suc n) (b ∷ bs) h = omega (arith, h.0, little_endian_lt n bs h.1, pow-succ' 256 n)

pub number_lt : (bytes : List ℕ) (at n : ℕ) → All Byte bytes → number bytes at n < 256 ^ n
unfolding number
number_lt bytes at n h = little_endian_lt n (drop at bytes) (all_drop Byte at bytes h)

-- ---- records

-- what the checks leave of a record; its id is a number of eight bytes
abbrev Checked : Record → Type 0
Checked p = (p.quantity ≤ most_instances) × (0 < p.width) × (p.width ≤ most_side) × (0 < p.length) × (p.length ≤ most_side)

abbrev IdRange : Record → Type 0
IdRange p = p.id < 2 ^ 64

checked : (p : Record) (count : ℕ) → (eqb p.width 0 || eqb p.length 0) ≡ false → large_side p ≡ false → ltb most_instances (count + p.quantity) ≡ false → Checked p
checked p count z l q =
    let s = or_false_split (eqb p.width 0) (eqb p.length 0) z in
    let m = or_false_split (ltb most_side p.width) (ltb most_side p.length) l in (
      omega (arith, ltb-false most_instances (count + p.quantity) q),
      nonzero p.width s.0,
      ltb-false most_side p.width m.0,
      nonzero p.length s.1,
      ltb-false most_side p.length m.1,
    )

stock_checked : Rule stock_rule Checked
unfolding stock_rule
stock_checked seen count p h = (checked p count h.1.0 h.1.1.0 h.1.1.1.1.1.0, h.1.1.1.1.0)

cut_checked : Rule cut_rule Checked
unfolding cut_rule
cut_checked seen count p h = (checked p count h.1.0 h.1.1.0 h.1.1.1.1.1.0, h.1.1.1.1.0)

-- the count of a rule goes no further than the most instances
abbrev Counted : RecordRule → Type 0
Counted rule = (seen : List ℕ) (count : ℕ) (p : Record) → All Passed (rule seen count p) → count + p.quantity ≤ most_instances

stock_counted : Counted stock_rule
unfolding stock_rule
stock_counted seen count p h = ltb-false most_instances (count + p.quantity) h.1.1.1.1.1.0

cut_counted : Counted cut_rule
unfolding cut_rule
cut_counted seen count p h = ltb-false most_instances (count + p.quantity) h.1.1.1.1.1.0

quantities : (rule : RecordRule) → Counted rule → (seen : List ℕ) (count : ℕ) (ps : List Record) → count ≤ most_instances → All Passed (record_checks rule seen count ps)
    → count + total_quantity ps ≤ most_instances
unfolding record_checks sum
quantities rule f seen count [] c h = omega arith
quantities rule f seen count (p ∷ ps) c h =
    let later = record_checks rule (p.id ∷ seen) (count + p.quantity) ps in
    omega (
      arith,
      quantities rule f (p.id ∷ seen) (count + p.quantity) ps (f seen count p (all_left Passed (rule seen count p) later h)) (all_right Passed (rule seen count p) later h),
    )

-- ---- instances

abbrev PieceRange : Record → Type 0
PieceRange p = Checked p × IdRange p

in_range : (p : Record) (n : ℕ) → PieceRange p → n < p.quantity → InRange p.id n p.width p.length
in_range p n h k =
    record {
      id = h.1;
      instance = omega (arith, h.0.0);
      wide = h.0.1;
      width = h.0.2;
      long = h.0.3;
      length = h.0.4;
    }

stock_range : (p : Record) → PieceRange p → All BoardRange (stock_instances p)
unfolding stock_instances
stock_range p h = map_all (λ n. n < 0 + p.quantity) BoardRange _ (λ n k. in_range p n h (omega arith)) (range p.quantity) (count_below 0 p.quantity)

cut_range : (p : Record) → PieceRange p → All PanelRange (cut_instances p)
unfolding cut_instances
cut_range p h = map_all (λ n. n < 0 + p.quantity) PanelRange _ (λ n k. in_range p n h (omega arith)) (range p.quantity) (count_below 0 p.quantity)

stock_length_lem : (p : Record) → length (stock_instances p) ≡ p.quantity
unfolding stock_instances
stock_length_lem p = length-map _ (range p.quantity) ∙ length_count_from 0 p.quantity

cut_length : (p : Record) → length (cut_instances p) ≡ p.quantity
unfolding cut_instances
cut_length p = length-map _ (range p.quantity) ∙ length_count_from 0 p.quantity

-- ---- the project

kerf_range : (p : Project) → All Passed (settings_checks p) → p.kerf ≤ most_side
unfolding settings_checks
kerf_range p h = ltb-false most_side p.kerf h.1.0

settings : (p : Project) → All Passed (settings_checks p) → All Passed (whole_checks p) → SettingsRange p
unfolding settings_checks whole_checks
settings p h w =
    let a = or_false_split (ltb 1 p.layout || ltb 2 p.effort || ltb 2 p.unit) (not (eqb p.spare 0)) h.0 in
    let b = or_false_split (ltb 1 p.layout || ltb 2 p.effort) (ltb 2 p.unit) a.0 in
    let c = or_false_split (ltb 1 p.layout) (ltb 2 p.effort) b.0 in
    record {
      layout = ltb-false 1 p.layout c.0;
      effort = ltb-false 2 p.effort c.1;
      unit = ltb-false 2 p.unit b.1;
      spare = eqb-true p.spare 0 (not-false (eqb p.spare 0) a.1);
      nested = λ e. none_left p.cuts (eqb p.layout 1) (eq-eqb p.layout 1 e) w.1.0;
    }
  where
    none_left : (cs : List Record) (b : Bool) → b ≡ true → (b && not (is_empty cs)) ≡ false → cs ≡ []
    none_left [] b e f = refl
    none_left (c ∷ cs) true e f = absurd (true≢false f)
    none_left (c ∷ cs) false e f = absurd (true≢false (sym e))

-- 13: with a cut record, the quantities of the stock are not all zero
some_stock : (p : Project) → All Passed (whole_checks p) → 0 < length p.cuts → 0 < total_quantity p.stock
unfolding whole_checks
some_stock p h k = nonzero (total_quantity p.stock) (go p.cuts k h.0)
  where
    go : (cs : List Record) → 0 < length cs → (not (is_empty cs) && eqb (total_quantity p.stock) 0) ≡ false → eqb (total_quantity p.stock) 0 ≡ false
    go [] l e = absurd (omega arith)
    go (c ∷ cs) l e = e

some_record : {A : Type 0} (f : Record → List A) (ps : List Record) → 0 < length (concat_map f ps) → 0 < length ps
unfolding concat_map
some_record f [] h = h
some_record f (p ∷ ps) h = omega arith

project_ranged : (p : Project) → All Passed (project_checks p) → All IdRange p.stock → All IdRange p.cuts → Ranged (expand_project p)
unfolding expand_project
project_ranged p h stock_ids cut_ids =
    let r = rows p h in
    let s = records stock_rule Checked stock_checked [] 0 p.stock r.stock in
    let c = records cut_rule Checked cut_checked [] 0 p.cuts r.cuts in
    let stock = all_both Checked IdRange PieceRange (λ x a b. (a, b)) p.stock s.0 stock_ids in
    let cuts = all_both Checked IdRange PieceRange (λ x a b. (a, b)) p.cuts c.0 cut_ids in
    let sorted = sort_by_perm compare_stock (concat_map stock_instances p.stock) in
    let boards : length (concat_map stock_instances p.stock) ≡ total_quantity p.stock = length_counted (λ q. q.quantity) stock_instances stock_length_lem p.stock in
    record {
      kerf = kerf_range p r.settings;
      boards = all_perm BoardRange (perm_sym sorted) (concat_map_all PieceRange BoardRange stock_instances stock_range p.stock stock);
      panels = concat_map_all PieceRange PanelRange cut_instances cut_range p.cuts cuts;
      few_boards = omega (arith, length_perm sorted, quantities stock_rule stock_counted [] 0 p.stock (omega arith) r.stock);
      few_panels = omega (arith, length_counted (λ q. q.quantity) cut_instances cut_length p.cuts, quantities cut_rule cut_counted [] 0 p.cuts (omega arith) r.cuts);
      some_board = λ k. omega (arith, length_perm sorted, some_stock p r.whole (some_record cut_instances p.cuts k));
    }

-- ---- the file

pieces_ids : (bytes : List ℕ) (at size : ℕ) → All Byte bytes → All IdRange (read_records bytes at size)
unfolding read_records read_record
pieces_ids bytes at size h = all_map_any IdRange _ (λ k. number_lt bytes (at + record_length * k) 8 h) (range (size / record_length))

pub ranged : (bytes : List ℕ) → All Byte bytes → file_refusal bytes ≡ none → Ranged (expand_project (project_of bytes))
unfolding project_of
ranged bytes b e =
    project_ranged (project_of bytes) (file_passed bytes e) (pieces_ids bytes stock_start (stock_length bytes) b) (pieces_ids bytes (cuts_start bytes) (cuts_length bytes) b)

pub settings_ranged : (bytes : List ℕ) → file_refusal bytes ≡ none → SettingsRange (project_of bytes)
settings_ranged bytes e =
    let r = rows (project_of bytes) (file_passed bytes e) in
    settings (project_of bytes) r.settings r.whole
