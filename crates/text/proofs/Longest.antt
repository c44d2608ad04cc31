-- How long a text can be. That of a plan has at most 45,371 bytes: 59 in its first line, 230 for each of 64 sheets and 478 for each of 64 pieces.
use Rattle.std.specs.Prelude.{if◌then◌else◌}
use Prim.Native.Nat.{ℕ, zero, suc, ◌+◌, ◌*◌, ◌/◌, ◌%◌, ◌^◌, ◌≤◌, ◌<◌}
use native.Mathlib.Nat.{pow-suc, mul-suc}
use native.Mathlib.Omega.{arith}
use mathlib.Core.Path.{◌≡◌, refl, ap, subst}
use mathlib.Core.Bool.{Bool, true, false, ◌&&◌}
use mathlib.Core.List.{List, [], ◌∷◌, ◌++◌, map}
use lib.Dec.{ltb, leb}
use lib.ListN.{length, take, drop, get_or, length-append}
use lib.Ieee.{Float}
use borrow.Author.Tests.{ltb-true, ltb-false}
use Rattle.lists.specs.Base.{concat_map, range, sum}
use Rattle.lists.specs.Elements.{All}
use Rattle.model.specs.declared.Rect.{Rect}
use Rattle.model.specs.declared.LayoutKind.{LayoutKind}
use Rattle.model.specs.declared.InstanceKey.{InstanceKey}
use Rattle.model.specs.Sheet.{GuillotineSheet}
use Rattle.model.specs.Plan.{rect_words, nodes_of, entry_of, part_of, sheet_part, plan_words}
use Rattle.lists.proofs.Perm.{all_append}
use Rattle.lists.proofs.Sums.{length-map}
use Rattle.lists.proofs.Every.{all_take, all_drop, map_all, all_map_any}
use Rattle.trust.specs.Words.{PieceIn, NodeIn, SheetIn, word, head_size, groups, key_at, rect_at, piece_in, waste_in, node_in, node_key, waste_start, nodes_start, sheet_in, sheets_in}
use Rattle.trust.specs.InLayout.{is_cut, is_piece}
use Rattle.trust.proofs.PlanRange.{Word}
use Rattle.trust.proofs.PlanSize.{Counted}
use Rattle.trust.proofs.CandidateSize.{piece_count, SheetCounts}
use Rattle.trust.proofs.RoundTrip.{piece_view, node_view, sheet_view, sheets_read}
use Rattle.words.specs.Ascii.{ascii}
use Rattle.words.specs.Numerals.{decimal_of, hex_digit, hex_digits}
use Rattle.words.proofs.append.Numerals.{decimal_digit, decimal_more}
use Rattle.text.specs.PlanText.{field, line, piece_line, waste_line, node_line, sheet_text, sheet_texts, first_line, plan_text}

-- ---- numbers

one_digit : (n : ℕ) → n < 10 → length (decimal_of n) ≤ 1
one_digit n h = omega (arith, ap length (decimal_digit n h))

digits_most : (k n : ℕ) → n < 10 ^ suc k → length (decimal_of n) ≤ suc k
digits_most zero n h = one_digit n (omega (arith, h))
digits_most (suc k) n h = go (ltb n 10) refl (digits_most k (n / 10) (omega (arith, h, pow-suc 10 (suc k))))
  where
    go : (b : Bool) → ltb n 10 ≡ b → length (decimal_of (n / 10)) ≤ suc k → length (decimal_of n) ≤ suc (suc k)
    go true e later = omega (arith, one_digit n (ltb-true n 10 e))
    go false e later =
        omega (arith, ap length (decimal_more n (ltb-false n 10 e)), length-append (decimal_of (n / 10)) ((48 + n % 10) ∷ []), later)

pub two_digits_most : (n : ℕ) → n < 100 → length (decimal_of n) ≤ 2
two_digits_most n h = digits_most 1 n (omega arith)

word_field : (n : ℕ) → Word n → length (field n) ≤ 11
unfolding field
word_field n h = omega (arith, digits_most 9 n (omega arith))

id_field : (n : ℕ) → n < 2 ^ 64 → length (field n) ≤ 21
unfolding field
id_field n h = omega (arith, digits_most 19 n (omega arith))

fields_most : (ns : List ℕ) → All Word ns → length (concat_map field ns) ≤ 11 * length ns
unfolding concat_map
fields_most [] h = omega arith
fields_most (n ∷ ns) h = omega (arith, length-append (field n) (concat_map field ns), word_field n h.0, fields_most ns h.1)

-- ---- lines

line_length : (keyword ns : List ℕ) → length (line keyword ns) ≡ length keyword + length (concat_map field ns) + 1
unfolding line
line_length keyword ns = omega (arith, length-append keyword (concat_map field ns ++ (10 ∷ [])), length-append (concat_map field ns) (10 ∷ []))

words_line : (keyword ns : List ℕ) → All Word ns → length (line keyword ns) ≤ length keyword + 11 * length ns + 1
words_line keyword ns h = omega (arith, line_length keyword ns, fields_most ns h)

id_line : (keyword : List ℕ) (id : ℕ) (ns : List ℕ) → id < 2 ^ 64 → All Word ns → length (line keyword (id ∷ ns)) ≤ length keyword + 21 + 11 * length ns + 1
unfolding concat_map
id_line keyword id ns h k = omega (arith, line_length keyword (id ∷ ns), length-append (field id) (concat_map field ns), id_field id h, fields_most ns k)

-- ---- what is read of words

record KeyFits (key : InstanceKey) : Type 0 where
  id : key.id < 2 ^ 64
  instance : Word key.instance

record PieceFits (p : PieceIn) : Type 0 where
  key : KeyFits p.key
  numbers : All Word (rect_words p.rect ++ (p.pattern ∷ p.rotated ∷ []))

record NodeFits (n : NodeIn) : Type 0 where
  three : All Word (n.first ∷ n.second ∷ n.third ∷ [])
  rect : All Word (rect_words n.rect)

abbrev WasteFits : Rect → Type 0
WasteFits r = All Word (rect_words r)

record SheetFits (s : SheetIn) : Type 0 where
  key : KeyFits s.key
  numbers : All Word (s.width ∷ s.length ∷ s.«use» ∷ s.saw ∷ [])
  pieces : All PieceFits s.pieces
  waste : All WasteFits s.waste
  nodes : All NodeFits s.nodes

word_fits : (words : List ℕ) (k : ℕ) → All Word words → Word (word words k)
word_fits [] k h = omega arith
word_fits (w ∷ words) zero h = h.0
word_fits (w ∷ words) (suc k) h = word_fits words k h.1

module _ (words : List ℕ) (h : All Word words) where
  abbrev at : (k : ℕ) → Word (word words k)
  at k = word_fits words k h

  rect_fits : (k : ℕ) → All Word (rect_words (rect_at words k))
  unfolding rect_at
  rect_fits k = (at k, (at (k + 1), (at (k + 2), (at (k + 3), tt))))

  key_fits : (k : ℕ) → KeyFits (key_at words k)
  unfolding key_at
  key_fits k = record { id = omega (arith, at k, at (k + 1)); instance = at (k + 2) }

  piece_fits : PieceFits (piece_in words)
  unfolding piece_in
  piece_fits = record { key = key_fits 0; numbers = all_append Word (rect_words (rect_at words 3)) (word words 7 ∷ word words 8 ∷ []) (rect_fits 3) (at 7, (at 8, tt)) }

  node_fits : NodeFits (node_in words)
  unfolding node_in
  node_fits = record { three = (at 1, (at 2, (at 3, tt))); rect = rect_fits 4 }

groups_fit : (size n : ℕ) (words : List ℕ) → All Word words → All (All Word) (groups size n words)
unfolding groups
groups_fit size zero words h = tt
groups_fit size (suc n) words h = (all_take Word size words h, groups_fit size n (drop size words) (all_drop Word size words h))

body_fits : (body : List ℕ) → All Word body → SheetFits (sheet_in body)
unfolding sheet_in waste_in
body_fits body h =
    record {
      key = key_fits body h 0;
      numbers = (at body h 3, (at body h 4, (at body h 5, (at body h 6, tt))));
      pieces = map_all (All Word) PieceFits piece_in (λ ws k. piece_fits ws k) _ (groups_fit _ _ _ (all_drop Word head_size body h));
      waste = map_all (All Word) WasteFits waste_in (λ ws k. rect_fits ws k 0) _ (groups_fit _ _ _ (all_drop Word (waste_start body) body h));
      nodes = map_all (All Word) NodeFits node_in (λ ws k. node_fits ws k) _ (groups_fit _ _ _ (all_drop Word (nodes_start body) body h));
    }

within_fits : (words : List ℕ) (start size : ℕ) → All Word words → All Word (part_of words start size)
unfolding part_of
within_fits words start size h = go (leb (start + size) (length words))
  where
    go : (b : Bool) → All Word (if b then take size (drop start words) else [])
    go true = all_take Word size (drop start words) (all_drop Word start words h)
    go false = tt

part_fits : (words : List ℕ) (k : ℕ) → All Word words → All Word (sheet_part words k)
unfolding sheet_part
part_fits words k h =
    go (leb 4 (length words) && ltb k (get_or words 0 0) && leb (entry_of k + 2) (length words)) (get_or words (entry_of k) 0) (get_or words (entry_of k + 1) 0)
  where
    go : (b : Bool) (start size : ℕ) → All Word (if b then part_of words start size else [])
    go true start size = within_fits words start size h
    go false start size = tt

sheets_fit : (words : List ℕ) → All Word words → All SheetFits (sheets_in words)
unfolding sheets_in
sheets_fit words h = all_map_any SheetFits (λ k. sheet_in (sheet_part words k)) (λ k. body_fits (sheet_part words k) (part_fits words k h)) (range _)

-- ---- the lines of a sheet

concat_most : {A : Type 0} (P : A → Type 0) (f : A → List ℕ) (most : ℕ) → ((x : A) → P x → length (f x) ≤ most) → (xs : List A) → All P xs
    → length (concat_map f xs) ≤ most * length xs
unfolding concat_map
concat_most P f most g [] h = omega arith
concat_most P f most g (x ∷ xs) h =
    omega (arith, length-append (f x) (concat_map f xs), g x h.0, concat_most P f most g xs h.1, mul-suc most (length xs))

piece_most : (p : PieceIn) → PieceFits p → length (piece_line p) ≤ 104
unfolding piece_line
piece_most p h =
    let keyword : length (ascii "piece") ≡ 5 = refl in
    omega (arith, keyword, id_line (ascii "piece") p.key.id (p.key.instance ∷ rect_words p.rect ++ (p.pattern ∷ p.rotated ∷ [])) h.key.id (h.key.instance, h.numbers))

waste_most : (r : Rect) → WasteFits r → length (waste_line r) ≤ 50
unfolding waste_line
waste_most r h =
    let keyword : length (ascii "waste") ≡ 5 = refl in
    omega (arith, keyword, words_line (ascii "waste") (rect_words r) h)

node_most : (n : NodeIn) → NodeFits n → length (node_line n) ≤ 81
unfolding node_line node_key
node_most n h = go (is_cut n) (is_piece n)
  where
    cut_most : length (line (ascii "cut") (n.first ∷ n.second ∷ n.third ∷ rect_words n.rect)) ≤ 81
    cut_most =
        let keyword : length (ascii "cut") ≡ 3 = refl in
        omega (arith, keyword, words_line (ascii "cut") (n.first ∷ n.second ∷ n.third ∷ rect_words n.rect) (all_append Word (n.first ∷ n.second ∷ n.third ∷ []) (rect_words n.rect) h.three h.rect))

    leaf_most : length (line (ascii "leaf") ((n.first + 2 ^ 32 * n.second) ∷ n.third ∷ rect_words n.rect)) ≤ 81
    leaf_most =
        let keyword : length (ascii "leaf") ≡ 4 = refl in
        omega (arith, keyword, id_line (ascii "leaf") (n.first + 2 ^ 32 * n.second) (n.third ∷ rect_words n.rect) (omega (arith, h.three.0, h.three.1.0)) (h.three.1.1.0, h.rect))

    left_most : length (line (ascii "leaf waste") (rect_words n.rect)) ≤ 81
    left_most =
        let keyword : length (ascii "leaf waste") ≡ 10 = refl in
        omega (arith, keyword, words_line (ascii "leaf waste") (rect_words n.rect) h.rect)

    go : (a b : Bool)
        → length (if a then line (ascii "cut") (n.first ∷ n.second ∷ n.third ∷ rect_words n.rect)
        else (if b then line (ascii "leaf") ((n.first + 2 ^ 32 * n.second) ∷ n.third ∷ rect_words n.rect) else line (ascii "leaf waste") (rect_words n.rect)))
        ≤ 81
    go true b = cut_most
    go false true = leaf_most
    go false false = left_most

sheet_most : (s : SheetIn) → SheetFits s → Word (length s.nodes) → length (sheet_text s) ≤ 99 + 104 * length s.pieces + 50 * length s.waste + 81 * length s.nodes
unfolding sheet_text
sheet_most s h k =
    let head = line (ascii "sheet") (s.key.id ∷ s.key.instance ∷ s.width ∷ s.length ∷ s.«use» ∷ s.saw ∷ []) in
    let guide = line (ascii "guide") (length s.nodes ∷ []) in
    let pieces = concat_map piece_line s.pieces in
    let waste = concat_map waste_line s.waste in
    let nodes = concat_map node_line s.nodes in
    let sheet_word : length (ascii "sheet") ≡ 5 = refl in
    let guide_word : length (ascii "guide") ≡ 5 = refl in
    omega (
      arith,
      sheet_word,
      guide_word,
      id_line (ascii "sheet") s.key.id (s.key.instance ∷ s.width ∷ s.length ∷ s.«use» ∷ s.saw ∷ []) h.key.id (h.key.instance, h.numbers),
      words_line (ascii "guide") (length s.nodes ∷ []) (k, tt),
      concat_most PieceFits piece_line 104 piece_most s.pieces h.pieces,
      concat_most WasteFits waste_line 50 waste_most s.waste h.waste,
      concat_most NodeFits node_line 81 node_most s.nodes h.nodes,
      length-append head (pieces ++ (waste ++ (guide ++ nodes))),
      length-append pieces (waste ++ (guide ++ nodes)),
      length-append waste (guide ++ nodes),
      length-append guide nodes,
    )

-- ---- a plan

hex_length : (count n : ℕ) → length (hex_digits count n) ≡ count
unfolding hex_digits
hex_length zero n = refl
hex_length (suc count) n = omega (arith, length-append (hex_digits count (n / 16)) (hex_digit (n % 16) ∷ []), hex_length count (n / 16))

first_most : (words : List ℕ) → All Word words → length (first_line words) ≤ 59
unfolding first_line
first_most words h =
    let plan_word : length (ascii "plan") ≡ 4 = refl in
    let fitness_word : length (ascii " fitness ") ≡ 9 = refl in
    let layout_word : length (ascii " layout") ≡ 7 = refl in
    let bits = hex_digits 16 (word words 1 + 2 ^ 32 * word words 2) in
    let layout = line (ascii " layout") (word words 3 ∷ []) in
    omega (
      arith,
      plan_word,
      fitness_word,
      layout_word,
      word_field (word words 0) (word_fits words 0 h),
      hex_length 16 (word words 1 + 2 ^ 32 * word words 2),
      words_line (ascii " layout") (word words 3 ∷ []) (word_fits words 3 h, tt),
      length-append (ascii "plan") (field (word words 0) ++ (ascii " fitness " ++ (bits ++ layout))),
      length-append (field (word words 0)) (ascii " fitness " ++ (bits ++ layout)),
      length-append (ascii " fitness ") (bits ++ layout),
      length-append bits layout,
    )

sheets_most : (bins : List GuillotineSheet) → All SheetFits (map sheet_view bins) → All Counted bins → All SheetCounts bins
    → length (concat_map sheet_text (map sheet_view bins)) ≤ 230 * length bins + 478 * piece_count bins
unfolding concat_map piece_count sum
sheets_most [] f c k = omega arith
sheets_most (b ∷ bins) f c k =
    omega (
      arith,
      length-append (sheet_text (sheet_view b)) (concat_map sheet_text (map sheet_view bins)),
      one,
      sheets_most bins f.1 c.1 k.1,
    )
  where
    one : length (sheet_text (sheet_view b)) ≤ 230 + 478 * length b.placed_pieces
    one =
        let pieces : length (sheet_view b).pieces ≡ length b.placed_pieces = unfold sheet_view in length-map piece_view b.placed_pieces in
        let waste : length (sheet_view b).waste ≡ length b.free_rects = unfold sheet_view in refl in
        let nodes : length (sheet_view b).nodes ≡ length (nodes_of b.slicing_tree) = unfold sheet_view in length-map node_view (nodes_of b.slicing_tree) in
        omega (arith, sheet_most (sheet_view b) f.0 (omega (arith, nodes, k.0.nodes)), pieces, waste, nodes, c.0.0, c.0.1)

-- of these sheets, with whatever follows it in memory
pub plan_most : (layout : LayoutKind) (share : Float) (bins : List GuillotineSheet) (rest : List ℕ) → All Word (plan_words layout share bins ++ rest) → All Counted bins → All SheetCounts bins
    → length (plan_text (plan_words layout share bins ++ rest)) ≤ 59 + 230 * length bins + 478 * piece_count bins
unfolding plan_text sheet_texts
plan_most layout share bins rest h c k =
    let words = plan_words layout share bins ++ rest in
    let read : sheets_in words ≡ map sheet_view bins = sheets_read layout share bins rest in
    omega (
      arith,
      length-append (first_line words) (concat_map sheet_text (sheets_in words)),
      first_most words h,
      ap (λ (ss : List SheetIn). length (concat_map sheet_text ss)) read,
      sheets_most bins (subst (All SheetFits) read (sheets_fit words h)) c k,
    )
