-- Reading a plan's words gives back what was written: each part is its sheet's words, and the sheets read are the definition's.
use Rattle.std.specs.Prelude.{if◌then◌else◌}
use Prim.Native.Nat.{ℕ, suc, ◌+◌, ◌*◌, ◌/◌, ◌%◌, ◌^◌, ◌≤◌, ◌<◌}
use native.Mathlib.Nat.{mod-add-div}
use native.Mathlib.Omega.{arith}
use mathlib.Core.Path.{◌≡◌, refl, sym, ap, ◌∙◌, subst}
use mathlib.Core.List.{List, [], ◌∷◌, ◌++◌, map, map-id, append_assoc, append-nil}
use mathlib.Core.Bool.{Bool, ◌&&◌, and-false}
use lib.Dec.{leb}
use borrow.Author.Tests.{le-leb, lt-ltb, le-ltb}
use lib.ListN.{length, length-map, get_or, take, drop, length-append, get_or-append}
use lib.Seq.{take-append_seam, take_at, drop_at, get_or_at, get_or-append-add, append_snoc, split_at, length-take-le}
use lib.Ieee.{Float, binary64, to_bits}
use Rattle.lists.specs.Base.{count_from, range, concat_map}
use Rattle.model.specs.declared.LayoutKind.{LayoutKind}
use Rattle.model.specs.declared.Rect.{Rect}
use Rattle.model.specs.declared.InstanceKey.{InstanceKey}
use Rattle.model.specs.Types.{stock_key, cut_key, pattern_code, layout_code, direction_code, flag_code}
use Rattle.model.specs.Guide.{SliceNode, cut, leaf, free, cut_piece}
use Rattle.model.specs.Sheet.{GuillotineSheet, PlacedPiece}
use Rattle.model.specs.Plan.{words64, rect_words, piece_words, nodes_of, node_words, use_of, saw_of, sheet_words, contents_from, plan_words, entry_of, part_of, sheet_part}
use Rattle.lists.proofs.Sums.{length_concat_map, map_append}
use Rattle.lists.proofs.Maps.{concat_map_append}
use Rattle.trust.specs.InLayout.{start_word, length_word}
use Rattle.trust.specs.Words.{PieceIn, NodeIn, SheetIn, groups, head_size, piece_size, waste_size, node_size, key_at, rect_at, piece_in, waste_in, node_in, sheet_in, sheet_count, fitness_bits, layout_word, sheets_in}

-- ---- the definition's sheet as it is read

unfoldable pub piece_view : PlacedPiece → PieceIn
piece_view p =
    record { key = cut_key p.by.cut; rect = p.fit.rect; pattern = pattern_code p.fit.pattern; rotated = flag_code p.fit.rotated }

unfoldable pub node_view : SliceNode → NodeIn
node_view (cut c a b) = record { kind = 0; first = direction_code c.orientation; second = c.offset; third = c.kerf_width; rect = c.work_rect }
node_view (leaf r (cut_piece k)) = record { kind = 1; first = k.id % 2 ^ 32; second = k.id / 2 ^ 32; third = k.instance; rect = r }
node_view (leaf r free) = record { kind = 2; first = 0; second = 0; third = 0; rect = r }

unfoldable pub sheet_view : GuillotineSheet → SheetIn
sheet_view s =
    record {
      key = stock_key s.stock;
      width = s.stock.width;
      length = s.stock.length;
      «use» = use_of s;
      saw = saw_of s;
      pieces = map piece_view s.placed_pieces;
      waste = s.free_rects;
      nodes = map node_view (nodes_of s.slicing_tree);
    }

-- ---- groups

module _ {A : Type 0} (f : A → List ℕ) (size : ℕ) (sized : (x : A) → length (f x) ≡ size) where
  rows_written : (xs : List A) (rest : List ℕ) → groups size (length xs) (concat_map f xs ++ rest) ≡ map f xs
  unfolding groups concat_map
  rows_written [] rest = refl
  rows_written (x ∷ xs) rest =
      rw (append_assoc (f x) (concat_map f xs) rest, take_at (f x) (concat_map f xs ++ rest) size (sized x), drop_at (f x) (concat_map f xs ++ rest) size (sized x))
      (ap {B = List (List ℕ)} (λ r. f x ∷ r) (rows_written xs rest))

  pub read_rows : {B : Type 0} (read : List ℕ → B) (view : A → B) → ((x : A) → read (f x) ≡ view x)
      → (xs : List A) (rest : List ℕ) → map read (groups size (length xs) (concat_map f xs ++ rest)) ≡ map view xs
  read_rows {B} read view e xs rest = ap (map read) (rows_written xs rest) ∙ go xs
    where
      go : (ys : List A) → map read (map f ys) ≡ map view ys
      go [] = refl
      go (y ∷ ys) = λ i. e y i ∷ go ys i

-- ---- a piece, a waste rectangle, a node

pub key_written : (k : InstanceKey) → ◌≡◌ {A = InstanceKey} (record { id = k.id % 2 ^ 32 + 2 ^ 32 * (k.id / 2 ^ 32); instance = k.instance }) k
key_written k = λ i. record { id = mod-add-div k.id (2 ^ 32) i; instance = k.instance }

piece_size_lem : (p : PlacedPiece) → length (piece_words p) ≡ piece_size
unfolding piece_words
piece_size_lem p = refl

piece_read : (p : PlacedPiece) → piece_in (piece_words p) ≡ piece_view p
unfolding piece_words piece_in key_at rect_at piece_view
piece_read p = λ i. record { key = key_written (cut_key p.by.cut) i; rect = p.fit.rect; pattern = pattern_code p.fit.pattern; rotated = flag_code p.fit.rotated }

waste_read : (r : Rect) → waste_in (rect_words r) ≡ r
unfolding waste_in rect_at
waste_read r = refl

pub node_size_lem : (n : SliceNode) → length (node_words n) ≡ node_size
unfolding node_words
node_size_lem (cut c a b) = refl
node_size_lem (leaf r (cut_piece k)) = refl
node_size_lem (leaf r free) = refl

node_read : (n : SliceNode) → node_in (node_words n) ≡ node_view n
unfolding node_words node_in rect_at node_view
node_read (cut c a b) = refl
node_read (leaf r (cut_piece k)) = refl
node_read (leaf r free) = refl

-- ---- a sheet

-- past the head and the pieces
drop_pieces : (head p rest : List ℕ) (n : ℕ) → length head ≡ head_size → length p ≡ piece_size * n → drop (head_size + piece_size * n) (head ++ (p ++ rest)) ≡ rest
drop_pieces head p rest n h k =
    rw (← append_assoc head p rest) (drop_at (head ++ p) rest (head_size + piece_size * n) (omega (arith, length-append head p, h, k)))

-- and past the waste
drop_waste : (head p w rest : List ℕ) (n m : ℕ) → length head ≡ head_size → length p ≡ piece_size * n → length w ≡ waste_size * m
    → drop (head_size + piece_size * n + waste_size * m) (head ++ (p ++ (w ++ rest))) ≡ rest
drop_waste head p w rest n m h k l =
    rw (← append_assoc p w rest, ← append_assoc head (p ++ w) rest)
    (drop_at (head ++ (p ++ w)) rest (head_size + piece_size * n + waste_size * m) (omega (arith, length-append head (p ++ w), length-append p w, h, k, l)))

-- the ten words before a sheet's pieces
unfoldable pub head_words : GuillotineSheet → List ℕ
head_words s =
    words64 s.stock.stock_id
    ++ (s.stock.instance ∷ s.stock.width ∷ s.stock.length ∷ use_of s ∷ saw_of s ∷ length s.placed_pieces ∷ length s.free_rects ∷ length (nodes_of s.slicing_tree) ∷ [])

abbrev all_pieces : GuillotineSheet → List ℕ
all_pieces s = concat_map piece_words s.placed_pieces

abbrev all_waste : GuillotineSheet → List ℕ
all_waste s = concat_map rect_words s.free_rects

abbrev all_nodes : GuillotineSheet → List ℕ
all_nodes s = concat_map node_words (nodes_of s.slicing_tree)

sheet_parts : (s : GuillotineSheet) → sheet_words s ≡ head_words s ++ (all_pieces s ++ (all_waste s ++ all_nodes s))
unfolding sheet_words head_words
sheet_parts s = ap (λ (r : List ℕ). head_words s ++ r) (append_assoc (all_pieces s) (all_waste s) (all_nodes s))

pub pieces_size : (ps : List PlacedPiece) → length (concat_map piece_words ps) ≡ piece_size * length ps
pieces_size ps = omega (arith, length_concat_map piece_size piece_words piece_size_lem ps)

pub waste_size_lem : (rs : List Rect) → length (concat_map rect_words rs) ≡ waste_size * length rs
waste_size_lem rs = omega (arith, length_concat_map waste_size rect_words (λ r. refl) rs)

pub nodes_size : (ns : List SliceNode) → length (concat_map node_words ns) ≡ node_size * length ns
nodes_size ns = omega (arith, length_concat_map node_size node_words node_size_lem ns)

-- how many words a sheet has
pub sheet_length : (s : GuillotineSheet)
    → length (sheet_words s) ≡ head_size + piece_size * length s.placed_pieces + waste_size * length s.free_rects + node_size * length (nodes_of s.slicing_tree)
unfolding head_words
sheet_length s =
    omega (
      arith,
      ap length (sheet_parts s),
      length-append (head_words s) (all_pieces s ++ (all_waste s ++ all_nodes s)),
      length-append (all_pieces s) (all_waste s ++ all_nodes s),
      length-append (all_waste s) (all_nodes s),
      pieces_size s.placed_pieces,
      waste_size_lem s.free_rects,
      nodes_size (nodes_of s.slicing_tree),
    )

-- what is read behind the head
module _ (s : GuillotineSheet) where
  abbrev body : List ℕ
  body = head_words s ++ (all_pieces s ++ (all_waste s ++ all_nodes s))

  waste_there : map waste_in (groups waste_size (length s.free_rects) (drop (head_size + piece_size * length s.placed_pieces) body)) ≡ s.free_rects
  unfolding head_words
  waste_there =
      rw (drop_pieces (head_words s) (all_pieces s) (all_waste s ++ all_nodes s) (length s.placed_pieces) refl (pieces_size s.placed_pieces))
      (read_rows rect_words waste_size (λ r. refl) waste_in (λ r. r) waste_read s.free_rects (all_nodes s) ∙ map-id s.free_rects)

  nodes_there : map node_in (groups node_size (length (nodes_of s.slicing_tree)) (drop (head_size + piece_size * length s.placed_pieces + waste_size * length s.free_rects) body))
      ≡ map node_view (nodes_of s.slicing_tree)
  unfolding head_words
  nodes_there =
      rw (drop_waste (head_words s) (all_pieces s) (all_waste s) (all_nodes s) (length s.placed_pieces) (length s.free_rects) refl (pieces_size s.placed_pieces) (waste_size_lem s.free_rects), ← append-nil (all_nodes s))
      (read_rows node_words node_size node_size_lem node_in node_view node_read (nodes_of s.slicing_tree) [])

  body_read : sheet_in body ≡ sheet_view s
  unfolding sheet_in sheet_view key_at head_words
  body_read = λ i. record {
    key = key_written (stock_key s.stock) i;
    width = s.stock.width;
    length = s.stock.length;
    «use» = use_of s;
    saw = saw_of s;
    pieces = read_rows piece_words piece_size piece_size_lem piece_in piece_view piece_read s.placed_pieces (all_waste s ++ all_nodes s) i;
    waste = waste_there i;
    nodes = nodes_there i;
  }

  pub sheet_read : sheet_in (sheet_words s) ≡ sheet_view s
  sheet_read = ap sheet_in (sheet_parts s) ∙ body_read

-- ---- the contents

abbrev pub joined : List (List ℕ) → List ℕ
joined bodies = concat_map (λ b. b) bodies

pub contents_length : (at : ℕ) (bodies : List (List ℕ)) → length (contents_from at bodies) ≡ 2 * length bodies
unfolding contents_from
contents_length at [] = refl
contents_length at (b ∷ bodies) = omega (arith, contents_length (at + length b) bodies)

pub contents_append : (at : ℕ) (us vs : List (List ℕ)) → contents_from at (us ++ vs) ≡ contents_from at us ++ contents_from (at + length (joined us)) vs
unfolding contents_from concat_map
contents_append at [] vs = ap (λ (n : ℕ). contents_from n vs) (omega arith)
contents_append at (u ∷ us) vs =
    ap {B = List ℕ} (λ r. at ∷ length u ∷ r)
    (contents_append (at + length u) us vs ∙ ap (λ (n : ℕ). contents_from (at + length u) us ++ contents_from n vs) (omega (arith, length-append u (joined us))))

-- an entry and a part that are in the slice
pub part_there : (words : List ℕ) (k : ℕ) → 4 ≤ length words → k < sheet_count words → entry_of k + 2 ≤ length words → start_word words k + length_word words k ≤ length words
    → sheet_part words k ≡ take (length_word words k) (drop (start_word words k) words)
unfolding sheet_part part_of
part_there words k four inside entry fits =
    rw (le-leb 4 (length words) four, lt-ltb k (sheet_count words) inside, le-leb (entry_of k + 2) (length words) entry, le-leb (start_word words k + length_word words k) (length words) fits)

-- a number that is not among the sheets'
pub part_absent : (words : List ℕ) (k : ℕ) → sheet_count words ≤ k → sheet_part words k ≡ []
unfolding sheet_part
part_absent words k h =
    rw (le-ltb k (sheet_count words) h)
    (ap (λ (b : Bool). if b && leb (entry_of k + 2) (length words) then part_of words (start_word words k) (length_word words k) else []) (and-false (leb 4 (length words))))

-- the entry of a number: where its body starts, how long it is, and that it is there
pub record Entry (words : List ℕ) (k at : ℕ) (body : List ℕ) : Type 0 where
  pub start : start_word words k ≡ at
  pub size : length_word words k ≡ length body
  pub inside : at + length body ≤ length words
  pub part : sheet_part words k ≡ body

-- a head of four words, of which the first is the count, the contents, the bodies, and whatever follows
abbrev pub with_contents : List ℕ → List (List ℕ) → List ℕ → List ℕ
with_contents head bodies rest = head ++ (contents_from (entry_of (length bodies)) bodies ++ (joined bodies ++ rest))

module _ (head : List ℕ) (us : List (List ℕ)) (b : List ℕ) (vs : List (List ℕ)) (rest : List ℕ) (four : length head ≡ 4) (count : get_or head 0 0 ≡ length (us ++ b ∷ vs)) where
  abbrev bodies : List (List ℕ)
  bodies = us ++ b ∷ vs

  abbrev at : ℕ
  at = entry_of (length bodies)

  abbrev before : List ℕ
  before = head ++ contents_from at us

  -- up to the body
  abbrev pre : List ℕ
  pre = (head ++ contents_from at bodies) ++ joined us

  -- from the body's entry on
  abbrev onward : List ℕ
  onward = (at + length (joined us)) ∷ length b ∷ (contents_from (at + length (joined us) + length b) vs ++ (joined bodies ++ rest))

  by_contents : with_contents head bodies rest ≡ before ++ onward
  unfolding contents_from
  by_contents =
      ap (λ (c : List ℕ). head ++ (c ++ (joined bodies ++ rest))) (contents_append at us (b ∷ vs))
      ∙ ap (λ (c : List ℕ). head ++ c) (append_assoc (contents_from at us) _ (joined bodies ++ rest))
      ∙ sym (append_assoc head (contents_from at us) _)

  by_body : with_contents head bodies rest ≡ pre ++ (b ++ (joined vs ++ rest))
  unfolding concat_map
  by_body =
      ap (λ (c : List ℕ). head ++ (contents_from at bodies ++ c))
      (ap (λ (c : List ℕ). c ++ rest) (concat_map_append (λ c. c) us (b ∷ vs)) ∙ append_assoc (joined us) (b ++ joined vs) rest ∙ ap (λ (c : List ℕ). joined us ++ c) (append_assoc b (joined vs) rest))
      ∙ sym (append_assoc head (contents_from at bodies) (joined us ++ (b ++ (joined vs ++ rest))))
      ∙ sym (append_assoc (head ++ contents_from at bodies) (joined us) (b ++ (joined vs ++ rest)))

  before_length : length before ≡ entry_of (length us)
  before_length = omega (arith, length-append head (contents_from at us), contents_length at us, four)

  pre_length : length pre ≡ at + length (joined us)
  pre_length = omega (arith, length-append (head ++ contents_from at bodies) (joined us), length-append head (contents_from at bodies), contents_length at bodies, four)

  size : length (with_contents head bodies rest) ≡ at + length (joined bodies ++ rest)
  size = omega (arith, length-append head (contents_from at bodies ++ (joined bodies ++ rest)), length-append (contents_from at bodies) (joined bodies ++ rest), contents_length at bodies, four)

  start_written : get_or (with_contents head bodies rest) (entry_of (length us)) 0 ≡ at + length (joined us)
  start_written = ap (λ (w : List ℕ). get_or w (entry_of (length us)) 0) by_contents ∙ get_or_at before _ _ 0 (entry_of (length us)) before_length

  length_written : get_or (with_contents head bodies rest) (entry_of (length us) + 1) 0 ≡ length b
  length_written =
      ap (λ (w : List ℕ). get_or w (entry_of (length us) + 1) 0) by_contents
      ∙ ap (λ (n : ℕ). get_or (before ++ onward) (n + 1) 0) (sym before_length)
      ∙ get_or-append-add before onward 1 0

  first_written : get_or (with_contents head bodies rest) 0 0 ≡ length bodies
  first_written = get_or-append head _ 0 0 (omega arith) ∙ count

  fits : at + length (joined us) + length b ≤ length (with_contents head bodies rest)
  fits = omega (arith, ap length by_body, length-append pre (b ++ (joined vs ++ rest)), length-append b (joined vs ++ rest), pre_length)

  entry_written : Entry (with_contents head bodies rest) (length us) (at + length (joined us)) b
  entry_written =
      record {
        start = start_written;
        size = length_written;
        inside = fits;
        part =
            part_there (with_contents head bodies rest) (length us) (omega (arith, size)) (omega (arith, first_written, length-append us (b ∷ vs))) (omega (arith, size, length-append us (b ∷ vs)))
            (omega (arith, start_written, length_written, fits))
            ∙ rw (start_written, length_written) (rw by_body (ap (take (length b)) (drop_at pre (b ++ (joined vs ++ rest)) (at + length (joined us)) pre_length) ∙ take-append_seam b (joined vs ++ rest)));
      }

-- ---- the plan

-- the first four words
abbrev pub plan_head : LayoutKind → Float → List GuillotineSheet → List ℕ
plan_head layout fitness bins = length bins ∷ words64 (to_bits binary64 fitness) ++ (layout_code layout ∷ [])

pub plan_written : (layout : LayoutKind) (fitness : Float) (bins : List GuillotineSheet) (rest : List ℕ)
    → plan_words layout fitness bins ++ rest ≡ with_contents (plan_head layout fitness bins) (map sheet_words bins) rest
unfolding plan_words
plan_written layout fitness bins rest =
    ap (λ (n : ℕ). plan_head layout fitness bins ++ (contents_from (entry_of n) (map sheet_words bins) ++ joined (map sheet_words bins) ++ rest)) (sym (length-map bins sheet_words))
    ∙ ap (λ (c : List ℕ). plan_head layout fitness bins ++ c) (append_assoc (contents_from (entry_of (length (map sheet_words bins))) (map sheet_words bins)) (joined (map sheet_words bins)) rest)

-- where a sheet's body starts, those before it being given
abbrev pub body_start : List GuillotineSheet → List GuillotineSheet → ℕ
body_start bins us = entry_of (length bins) + length (joined (map sheet_words us))

module _ (layout : LayoutKind) (fitness : Float) (rest : List ℕ) where
  pub entry_of_sheet : (us : List GuillotineSheet) (s : GuillotineSheet) (vs : List GuillotineSheet)
      → Entry (plan_words layout fitness (us ++ s ∷ vs) ++ rest) (length us) (body_start (us ++ s ∷ vs) us) (sheet_words s)
  entry_of_sheet us s vs =
      let bins = us ++ s ∷ vs in
      let head = plan_head layout fitness bins in
      let bodies : map sheet_words bins ≡ map sheet_words us ++ sheet_words s ∷ map sheet_words vs = map_append sheet_words us (s ∷ vs) in
      let count : length bins ≡ length (map sheet_words us ++ sheet_words s ∷ map sheet_words vs) = sym (length-map bins sheet_words) ∙ ap length bodies in
      let e = entry_written head (map sheet_words us) (sheet_words s) (map sheet_words vs) rest refl count in
      moved (sym (plan_written layout fitness bins rest ∙ ap (λ (bs : List (List ℕ)). with_contents head bs rest) bodies)) (length-map us sheet_words)
      (ap (λ (n : ℕ). entry_of n + length (joined (map sheet_words us))) (sym count)) e
    where
      moved : {v w : List ℕ} {k l a b : ℕ} {body : List ℕ} → v ≡ w → k ≡ l → a ≡ b → Entry v k a body → Entry w l b body
      moved {body} p q r e = subst (λ (x : ℕ × ℕ × List ℕ). Entry x.2 x.0 x.1 body) (λ i. (q i, r i, p i)) e

  -- the part that the reader finds at a sheet's number is that sheet's words
  pub part_is_sheet : (us : List GuillotineSheet) (s : GuillotineSheet) (vs : List GuillotineSheet)
      → sheet_part (plan_words layout fitness (us ++ s ∷ vs) ++ rest) (length us) ≡ sheet_words s
  part_is_sheet us s vs = (entry_of_sheet us s vs).part

  pub part_at : (bins : List GuillotineSheet) (k : ℕ) (d : GuillotineSheet) → k < length bins → sheet_part (plan_words layout fitness bins ++ rest) k ≡ sheet_words (get_or bins k d)
  part_at bins k d h =
      let e : bins ≡ take k bins ++ get_or bins k d ∷ drop (suc k) bins = split_at bins k d h in
      ap (λ (bs : List GuillotineSheet). sheet_part (plan_words layout fitness bs ++ rest) k) e
      ∙ ap (sheet_part (plan_words layout fitness (take k bins ++ get_or bins k d ∷ drop (suc k) bins) ++ rest)) (sym (length-take-le k bins (omega arith)))
      ∙ part_is_sheet (take k bins) (get_or bins k d) (drop (suc k) bins)

pub count_written : (layout : LayoutKind) (fitness : Float) (bins : List GuillotineSheet) (rest : List ℕ) → sheet_count (plan_words layout fitness bins ++ rest) ≡ length bins
unfolding plan_words
count_written layout fitness bins rest = refl

pub fitness_written : (layout : LayoutKind) (fitness : Float) (bins : List GuillotineSheet) (rest : List ℕ) → fitness_bits (plan_words layout fitness bins ++ rest) ≡ to_bits binary64 fitness
unfolding plan_words
fitness_written layout fitness bins rest = mod-add-div (to_bits binary64 fitness) (2 ^ 32)

pub layout_written : (layout : LayoutKind) (fitness : Float) (bins : List GuillotineSheet) (rest : List ℕ) → layout_word (plan_words layout fitness bins ++ rest) ≡ layout_code layout
unfolding plan_words
layout_written layout fitness bins rest = refl

-- the contents are there
pub contents_inside : (layout : LayoutKind) (fitness : Float) (bins : List GuillotineSheet) (rest : List ℕ) → entry_of (length bins) ≤ length (plan_words layout fitness bins ++ rest)
unfolding plan_words
contents_inside layout fitness bins rest =
    let bodies = map sheet_words bins in
    let contents = contents_from (entry_of (length bins)) bodies in
    omega (arith, length-append (contents ++ joined bodies) rest, length-append contents (joined bodies), contents_length (entry_of (length bins)) bodies, length-map bins sheet_words)

-- a function of the numbers of a list that is one of its elements
numbered : {A B : Type 0} (f : ℕ → B) (g : A → B) (us vs : List A) → ((ps : List A) (x : A) (qs : List A) → ps ++ x ∷ qs ≡ us ++ vs → f (length ps) ≡ g x)
    → map f (count_from (length us) (length vs)) ≡ map g vs
unfolding count_from
numbered f g us [] h = refl
numbered f g us (v ∷ vs) h =
    let grown : length (us ++ (v ∷ [])) ≡ suc (length us) = omega (arith, length-append us (v ∷ [])) in
    let later = numbered f g (us ++ (v ∷ [])) vs (λ ps x qs e. h ps x qs (e ∙ append_snoc us v vs)) in
    λ i. h us v vs refl i ∷ (ap (λ (n : ℕ). map f (count_from n (length vs))) (sym grown) ∙ later) i

-- the sheets that are read are the definition's
pub sheets_read : (layout : LayoutKind) (fitness : Float) (bins : List GuillotineSheet) (rest : List ℕ) → sheets_in (plan_words layout fitness bins ++ rest) ≡ map sheet_view bins
unfolding sheets_in
sheets_read layout fitness bins rest =
    ap (λ (n : ℕ). map (λ k. sheet_in (sheet_part (plan_words layout fitness bins ++ rest) k)) (range n)) (count_written layout fitness bins rest)
    ∙ numbered (λ k. sheet_in (sheet_part (plan_words layout fitness bins ++ rest) k)) sheet_view [] bins λ us s vs e.
    subst (λ bs. sheet_in (sheet_part (plan_words layout fitness bs ++ rest) (length us)) ≡ sheet_view s) e (ap sheet_in (part_is_sheet layout fitness rest us s vs) ∙ sheet_read s)
