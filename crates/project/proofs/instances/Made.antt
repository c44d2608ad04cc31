-- The instances of a file's records: how many, one record after the other, and the boards by the numbers of their order.
use Prim.Native.Nat.{ℕ, suc, ◌+◌, ◌/◌, ◌≤◌, ◌<◌}
use native.Mathlib.Nat.{zero-add}
use native.Mathlib.Omega.{arith}
use mathlib.Core.Path.{◌≡◌, sym, ap, ap₂, ◌∙◌, subst}
use mathlib.Core.Bool.{false}
use mathlib.Core.List.{List, [], ◌∷◌, ◌++◌, map, append_assoc, append-nil}
use mathlib.Core.Option.{none}
use lib.Dec.{lit≤}
use lib.ListN.{length, get_or, take, length-append, length-take}
use lib.Seq.{take_all}
use borrow.Author.Tests.{ltb-false}
use Rattle.lists.specs.Base.{range, concat_map, sum, sort_by}
use Rattle.lists.specs.Elements.{All}
use Rattle.lists.proofs.Perm.{all_left, all_right}
use Rattle.lists.proofs.Sums.{length_count_from, length-map, length_counted, map_append}
use Rattle.lists.proofs.Every.{all_get}
use Rattle.lists.proofs.Arrays.{take_next}
use Rattle.lists.proofs.Counts.{count_snoc}
use Rattle.model.specs.declared.StockInstance.{StockInstance}
use Rattle.model.specs.Project.{Record, project_of, record_length}
use Rattle.model.specs.Refusal.{Check, RecordRule, stock_rule, cut_rule, record_checks, settings_checks, whole_checks, project_checks, file_refusal, total_quantity}
use Rattle.model.specs.Expand.{compare_stock, stock_instances, cut_instances, expand_project}
use Rattle.trust.proofs.Checks.{file_passed}
use Rattle.project.specs.Problem.{no_stock}
use Rattle.project.specs.Order.{head_of_stock, sorted_order, IsOrder}
use Rattle.project.proofs.orders.Order.{length_sorted, sorted_below}
use Rattle.project.specs.Records.{record_at, records}
use Rattle.project.proofs.Records.{left, left_all, left_next, left_none}
use Rattle.project.specs.Instances.{stock_instance, cut_instance, made_of}

-- ---- the instances of a record, one more

module _ {T : Type 0} (make : ℕ → T) (old : List T) (n : ℕ) where
  pub made_more : (xs : List T) (x : T) → xs ≡ old ++ map make (range n) → x ≡ make n → xs ++ (x ∷ []) ≡ old ++ map make (range (n + 1))
  made_more xs x so_far e =
      let next : range (n + 1) ≡ range n ++ (n ∷ []) =
      ap range (let s : n + 1 ≡ suc n = omega arith in s) ∙ count_snoc 0 n ∙ ap (λ (k : ℕ). range n ++ (k ∷ [])) (zero-add n)
      in
      ap₂ (λ (l : List T) (y : T). l ++ (y ∷ [])) so_far e
      ∙ append_assoc old (map make (range n)) (make n ∷ [])
      ∙ ap (λ (l : List T). old ++ l) (sym (ap (map make) next ∙ map_append make (range n) (n ∷ [])))

  pub made_length : length (old ++ map make (range n)) ≡ length old + n
  made_length = omega (arith, length-append old (map make (range n)), length-map make (range n), length_count_from 0 n)

-- ---- the records of a body, one more

module _ {T : Type 0} (make : Record → ℕ → T) where
  made_count : (p : Record) → length (made_of make p) ≡ p.quantity
  made_count p = length-map (make p) (range p.quantity) ∙ length_count_from 0 p.quantity

  -- instances are as many as the quantities say
  pub count_made : (ps : List Record) → length (concat_map (made_of make) ps) ≡ total_quantity ps
  count_made = length_counted (λ p. p.quantity) (made_of make) made_count

  module _ (body : List ℕ) where
    -- those so far and those of the records left are all of them
    abbrev pub Making : List T → ℕ → Type 0
    Making xs i = xs ++ concat_map (made_of make) (left body i) ≡ concat_map (made_of make) (records body)

    pub making_start : Making [] 0
    making_start = ap (concat_map (made_of make)) (left_all body)

    making_next : (xs : List T) (i : ℕ) → i < length body / record_length → Making xs i
        → xs ++ made_of make (record_at body i) ++ concat_map (made_of make) (left body (i + 1)) ≡ concat_map (made_of make) (records body)
    unfolding concat_map
    making_next xs i h m =
        append_assoc xs (made_of make (record_at body i)) (concat_map (made_of make) (left body (i + 1)))
        ∙ ap (λ (ps : List Record). xs ++ concat_map (made_of make) ps) (sym (left_next body i h))
        ∙ m

    pub making_room : (xs : List T) (i : ℕ) (p : Record) → p ≡ record_at body i → i < length body / record_length → total_quantity (records body) ≤ 64 → Making xs i → length xs + p.quantity ≤ 64
    making_room xs i p e h few m =
        let here : List T = made_of make (record_at body i) in
        let later : List T = concat_map (made_of make) (left body (i + 1)) in
        omega (
          arith,
          ap length (making_next xs i h m),
          length-append (xs ++ here) later,
          length-append xs here,
          made_count (record_at body i),
          ap (λ (q : Record). q.quantity) e,
          count_made (records body),
        )

    pub making_step : (xs ys : List T) (i : ℕ) (p : Record) → p ≡ record_at body i → i < length body / record_length → Making xs i → ys ≡ xs ++ made_of make p → Making ys (i + 1)
    making_step xs ys i p e h m f =
        ap (λ (l : List T). l ++ concat_map (made_of make) (left body (i + 1))) (f ∙ ap (λ (q : Record). xs ++ made_of make q) e) ∙ making_next xs i h m

    pub making_end : (xs : List T) (i : ℕ) → length body / record_length ≤ i → Making xs i → xs ≡ concat_map (made_of make) (records body)
    unfolding concat_map
    making_end xs i h m = sym (append-nil xs) ∙ ap (λ (ps : List Record). xs ++ concat_map (made_of make) ps) (sym (left_none body i h)) ∙ m

-- ---- what the checks leave: at most 64 instances of a kind

-- a rule that bounds the instances up to a record
abbrev Bounds : RecordRule → Type 0
Bounds rule = (seen : List ℕ) (count : ℕ) (p : Record) → All (λ c. c.1 ≡ false) (rule seen count p) → count + p.quantity ≤ 64

few : (rule : RecordRule) → Bounds rule → (seen : List ℕ) (count : ℕ) (ps : List Record) → count ≤ 64
    → All (λ c. c.1 ≡ false) (record_checks rule seen count ps) → count + total_quantity ps ≤ 64
unfolding record_checks sum
few rule f seen count [] h k = omega arith
few rule f seen count (p ∷ ps) h k =
    let later = record_checks rule (p.id ∷ seen) (count + p.quantity) ps in
    let here = f seen count p (all_left (λ c. c.1 ≡ false) (rule seen count p) later k) in
    omega (arith, few rule f (p.id ∷ seen) (count + p.quantity) ps here (all_right (λ c. c.1 ≡ false) (rule seen count p) later k))

stock_bounds : Bounds stock_rule
unfolding stock_rule
stock_bounds seen count p h = ltb-false 64 (count + p.quantity) h.1.1.1.1.1.0

cut_bounds : Bounds cut_rule
unfolding cut_rule
cut_bounds seen count p h = ltb-false 64 (count + p.quantity) h.1.1.1.1.1.0

module _ (bytes : List ℕ) (e : file_refusal bytes ≡ none) where
  after_settings : All (λ (c : Check). c.1 ≡ false) (record_checks stock_rule [] 0 (project_of bytes).stock ++ (record_checks cut_rule [] 0 (project_of bytes).cuts ++ whole_checks (project_of bytes)))
  unfolding project_checks
  after_settings = let p = project_of bytes in all_right (λ c. c.1 ≡ false) (settings_checks p) _ (file_passed bytes e)

  pub few_stock : total_quantity (project_of bytes).stock ≤ 64
  few_stock =
      let p = project_of bytes in
      let h = all_left (λ c. c.1 ≡ false) (record_checks stock_rule [] 0 p.stock) (record_checks cut_rule [] 0 p.cuts ++ whole_checks p) after_settings in
      omega (arith, few stock_rule stock_bounds [] 0 p.stock (lit≤ tt) h)

  pub few_cuts : total_quantity (project_of bytes).cuts ≤ 64
  few_cuts =
      let p = project_of bytes in
      let h = all_right (λ c. c.1 ≡ false) (record_checks stock_rule [] 0 p.stock) (record_checks cut_rule [] 0 p.cuts ++ whole_checks p) after_settings in
      omega (arith, few cut_rule cut_bounds [] 0 p.cuts (lit≤ tt) (all_left (λ c. c.1 ≡ false) (record_checks cut_rule [] 0 p.cuts) (whole_checks p) h))

pub few_records : (ps : List Record) {qs : List Record} → ps ≡ qs → total_quantity qs ≤ 64 → total_quantity ps ≤ 64
few_records ps e h = rw e h

-- ---- what a file's project is expanded to

pub stock_expanded : (bytes : List ℕ) (ps : List Record) → ps ≡ (project_of bytes).stock → sort_by compare_stock (concat_map (made_of stock_instance) ps) ≡ (expand_project (project_of bytes)).stock
unfolding expand_project stock_instances
stock_expanded bytes ps e = ap (λ (qs : List Record). sort_by compare_stock (concat_map (made_of stock_instance) qs)) e

pub cuts_expanded : (bytes : List ℕ) (ps : List Record) → ps ≡ (project_of bytes).cuts → concat_map (made_of cut_instance) ps ≡ (expand_project (project_of bytes)).cuts
unfolding expand_project cut_instances
cuts_expanded bytes ps e = ap (concat_map (made_of cut_instance)) e

-- ---- boards by the numbers of their order

-- the first boards by these numbers
abbrev pub Boards : List StockInstance → List ℕ → List StockInstance → ℕ → Type 0
Boards raw numbers stock i = stock ≡ map (λ k. get_or raw k no_stock) (take i numbers)

module _ (raw : List StockInstance) (numbers : List ℕ) where
  pub boards_more : (i : ℕ) → i < length numbers → (stock : List StockInstance) → Boards raw numbers stock i
      → stock ++ (get_or raw (get_or numbers i 0) no_stock ∷ []) ≡ map (λ k. get_or raw k no_stock) (take (i + 1) numbers)
  boards_more i h stock e =
      ap (λ (l : List StockInstance). l ++ (get_or raw (get_or numbers i 0) no_stock ∷ [])) e
      ∙ sym (map_append (λ k. get_or raw k no_stock) (take i numbers) (get_or numbers i 0 ∷ []))
      ∙ ap (map (λ k. get_or raw k no_stock)) (sym (take_next numbers i 0 h))

  pub boards_all : (i : ℕ) → length numbers ≤ i → (stock : List StockInstance) → Boards raw numbers stock i → stock ≡ map (λ k. get_or raw k no_stock) numbers
  boards_all i h stock e = e ∙ ap (map (λ k. get_or raw k no_stock)) (take_all i numbers h)

module _ (raw : List StockInstance) (order : List ℕ) (e : IsOrder (map head_of_stock raw) order) where
  in_order : order ≡ sorted_order (map head_of_stock raw) (length raw)
  in_order = e ∙ ap (sorted_order (map head_of_stock raw)) (length-map head_of_stock raw)

  pub number_below : (i : ℕ) → i < length order → get_or order i 0 < length raw
  number_below i h = all_get (λ k. k < length raw) order i 0 (subst (All (λ k. k < length raw)) (sym in_order) (sorted_below (map head_of_stock raw) (length raw))) h

  pub few_before : (i : ℕ) → i < length order → length raw ≤ 64 → (stock : List StockInstance) → Boards raw order stock i → length stock < 64
  few_before i h few stock m =
      omega (
        arith,
        ap length m,
        length-map (λ k. get_or raw k no_stock) (take i order),
        length-take i order,
        ap length in_order,
        length_sorted (map head_of_stock raw) (length raw),
      )
