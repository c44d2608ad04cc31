-- The lines and groups of a plan's text, from words at places.
use Prim.Native.Nat.{ℕ, zero, suc, ◌+◌, ◌*◌, ◌<◌}
use native.Mathlib.Nat.{add_assoc, mul-suc}
use native.Mathlib.Omega.{arith}
use mathlib.Core.Path.{◌≡◌, refl, sym, ap, ◌∙◌}
use mathlib.Core.List.{List, [], ◌∷◌, ◌++◌, map, append_assoc}
use lib.ListN.{length, take, drop}
use lib.Seq.{get_or-take, get_or-drop, drop-drop}
use Rattle.lists.specs.Base.{concat_map, count_from, range}
use Rattle.lists.proofs.Maps.{concat_map_map}
use Rattle.lists.proofs.Counts.{counted_later}
use Rattle.model.specs.Plan.{sheet_part}
use Rattle.trust.specs.Words.{word, groups, u64_at, key_at, rect_at, piece_in, waste_in, node_in, node_key, nodes_start, sheet_in, sheets_in}
use Rattle.words.specs.Ascii.{ascii}
use Rattle.words.specs.Numerals.{hex_of}
use Rattle.text.specs.PlanText.{field, line, key_fields, first_line, piece_line, waste_line, node_line, sheet_text, sheet_texts}
use Rattle.text.specs.BodyLines.{field_at, piece_at, waste_at, node_at, sheet_at}
use borrow.Author.Tests.{eq-eqb, ne_eqb}

-- a word of a row is a word of the body
in_row : (size row i : ℕ) (body : List ℕ) → i < size → word (take size (drop row body)) i ≡ word body (row + i)
in_row size row i body h = get_or-take size (drop row body) i 0 h ∙ get_or-drop row body i 0

in_row_first : (size row : ℕ) (body : List ℕ) → 0 < size → word (take size (drop row body)) 0 ≡ word body row
in_row_first size row body h = let e : row + 0 ≡ row = omega arith in in_row size row 0 body h ∙ ap (word body) e

-- a line by places: a keyword, as many words from one on
abbrev word_line : List ℕ → List ℕ → ℕ → ℕ → List ℕ
word_line keyword words from many = keyword ++ (concat_map (field_at words from) (range many) ++ (10 ∷ []))

-- the same with an id before them
abbrev id_line : List ℕ → List ℕ → ℕ → ℕ → List ℕ
id_line keyword words id many = keyword ++ (field (u64_at words id) ++ (concat_map (field_at words (id + 2)) (range many) ++ (10 ∷ [])))

module _ (body : List ℕ) (row : ℕ) where
  -- the words of a piece's, a waste rectangle's, a node's row
  nine : (i : ℕ) → i < 9 → word (take 9 (drop row body)) i ≡ word body (row + i)
  nine i h = in_row 9 row i body h

  four : (i : ℕ) → i < 4 → word (take 4 (drop row body)) i ≡ word body (row + i)
  four i h = in_row 4 row i body h

  eight : (i : ℕ) → i < 8 → word (take 8 (drop row body)) i ≡ word body (row + i)
  eight i h = in_row 8 row i body h

  pub piece_line_lem : id_line (ascii "piece") body row 7 ≡ piece_at body row
  unfolding piece_at piece_line line piece_in key_at rect_at concat_map count_from field_at
  piece_line_lem =
      simp (add_assoc, append_assoc, in_row_first 9 row body (omega arith), nine 1 (omega arith), nine 2 (omega arith), nine 3 (omega arith), nine 4 (omega arith), nine 5 (omega arith), nine 6 (omega arith), nine 7 (omega arith), nine 8 (omega arith))

  pub waste_line_lem : word_line (ascii "waste") body row 4 ≡ waste_at body row
  unfolding waste_at waste_line line waste_in rect_at concat_map count_from field_at
  waste_line_lem =
      simp (add_assoc, append_assoc, four 0 (omega arith), four 1 (omega arith), four 2 (omega arith), four 3 (omega arith))

  pub cut_line : word body row ≡ 0 → word_line (ascii "cut") body (row + 1) 7 ≡ node_at body row
  unfolding node_at node_line line node_in rect_at concat_map count_from field_at
  cut_line e =
      simp (add_assoc, append_assoc, in_row_first 8 row body (omega arith), eight 1 (omega arith), eight 2 (omega arith), eight 3 (omega arith), eight 4 (omega arith), eight 5 (omega arith), eight 6 (omega arith), eight 7 (omega arith), eq-eqb (word body row) 0 e)

  pub leaf_line : word body row ≡ 1 → id_line (ascii "leaf") body (row + 1) 5 ≡ node_at body row
  unfolding node_at node_line line node_in node_key rect_at concat_map count_from field_at
  leaf_line e =
      simp (add_assoc, append_assoc, in_row_first 8 row body (omega arith), eight 1 (omega arith), eight 2 (omega arith), eight 3 (omega arith), eight 4 (omega arith), eight 5 (omega arith), eight 6 (omega arith), eight 7 (omega arith), e)

  pub free_line : (word body row ≡ 0 → ⊥) → (word body row ≡ 1 → ⊥) → word_line (ascii "leaf waste") body (row + 4) 4 ≡ node_at body row
  unfolding node_at node_line line node_in rect_at concat_map count_from field_at
  free_line e f =
      simp (add_assoc, append_assoc, in_row_first 8 row body (omega arith), eight 1 (omega arith), eight 2 (omega arith), eight 3 (omega arith), eight 4 (omega arith), eight 5 (omega arith), eight 6 (omega arith), eight 7 (omega arith), ne_eqb (word body row) 0 e, ne_eqb (word body row) 1 f)

-- ---- the first line, the groups of a body, the sheets of a plan

pub first_line_lem : (words : List ℕ) → ascii "plan" ++ (concat_map (field_at words 0) (range 1) ++ (ascii " fitness " ++ (hex_of (u64_at words 1) ++ word_line (ascii " layout") words 3 1))) ≡ first_line words
unfolding first_line line concat_map count_from field_at
first_line_lem words = simp append_assoc

pub field_here : (words : List ℕ) (from k w : ℕ) → w ≡ word words (from + k) → field w ≡ field_at words from k
unfolding field_at
field_here words from k w e = ap field e

length_rows : {A : Type 0} (read : List ℕ → A) (size n : ℕ) (words : List ℕ) → length (map read (groups size n words)) ≡ n
unfolding groups
length_rows read size zero words = refl
length_rows read size (suc n) words = ap suc (length_rows read size n (drop size words))

grown : (size start n : ℕ) → start + (n + size) ≡ start + size + n
grown size start n = omega arith

module _ {A : Type 0} (text : A → List ℕ) (read : List ℕ → A) (size : ℕ) (body : List ℕ) where
  -- the groups of a part, by their places
  rows_text_lem : (start n : ℕ) → concat_map text (map read (groups size n (drop start body))) ≡ concat_map (λ k. text (read (take size (drop (start + size * k) body)))) (range n)
  unfolding groups concat_map count_from
  rows_text_lem start zero = refl
  rows_text_lem start (suc n) =
      let at : ℕ → List ℕ = λ (row : ℕ). text (read (take size (drop row body))) in
      let first : start ≡ start + size * 0 = omega arith in
      let next : (k : ℕ) → at (start + size * suc k) ≡ at (start + size + size * k) =
      λ k. ap at (ap (λ (m : ℕ). start + m) (mul-suc size k) ∙ grown size start (size * k)) in
      λ j. ap at first j
      ++ (ap (λ (r : List ℕ). concat_map text (map read (groups size n r))) (drop-drop size start body)
      ∙ rows_text_lem (start + size) n
      ∙ sym (counted_later (λ k. at (start + size * k)) (λ k. at (start + size + size * k)) 0 n next)) j

-- a sheet's first line, and the line that gives the number of its nodes
head_line : (body : List ℕ) → id_line (ascii "sheet") body 0 5 ≡ line (ascii "sheet") (key_fields (sheet_in body).key ++ ((sheet_in body).width ∷ (sheet_in body).length ∷ (sheet_in body).«use» ∷ (sheet_in body).saw ∷ []))
unfolding line sheet_in key_at concat_map count_from field_at
head_line body = simp append_assoc

guide_line : (body : List ℕ) → word_line (ascii "guide") body 9 1 ≡ line (ascii "guide") (length (sheet_in body).nodes ∷ [])
unfolding line sheet_in concat_map count_from field_at
guide_line body =
    ap (λ (n : ℕ). line (ascii "guide") (n ∷ [])) (sym (length_rows node_in 8 (word body 9) (drop (nodes_start body) body)))

pub sheet_text_lem : (body : List ℕ) (pieces waste nodes : ℕ) → pieces ≡ word body 7 → waste ≡ word body 8 → nodes ≡ word body 9
    → id_line (ascii "sheet") body 0 5
    ++ (concat_map (λ k. piece_at body (10 + 9 * k)) (range pieces)
    ++ (concat_map (λ k. waste_at body (10 + 9 * pieces + 4 * k)) (range waste)
    ++ (word_line (ascii "guide") body 9 1
    ++ concat_map (λ k. node_at body (10 + 9 * pieces + 4 * waste + 8 * k)) (range nodes))))
    ≡ sheet_text (sheet_in body)
unfolding piece_at waste_at node_at sheet_text sheet_in
sheet_text_lem body pieces waste nodes p w n =
    rw (p, w, n)
    (λ j. head_line body j
    ++ (sym (rows_text_lem piece_line piece_in 9 body 10 (word body 7)) j
    ++ (sym (rows_text_lem waste_line waste_in 4 body (10 + 9 * word body 7) (word body 8)) j
    ++ (guide_line body j
    ++ sym (rows_text_lem node_line node_in 8 body (10 + 9 * word body 7 + 4 * word body 8) (word body 9)) j))))

pub sheets_text : (words : List ℕ) (n : ℕ) → n ≡ word words 0 → concat_map (sheet_at words) (range n) ≡ sheet_texts words
unfolding sheet_at sheet_texts sheets_in
sheets_text words n e = rw e (sym (concat_map_map sheet_text (λ k. sheet_in (sheet_part words k)) (range (word words 0))))

pub sheet_here : (words body : List ℕ) (k : ℕ) → body ≡ sheet_part words k → sheet_text (sheet_in body) ≡ sheet_at words k
unfolding sheet_at
sheet_here words body k e = ap (λ (b : List ℕ). sheet_text (sheet_in b)) e
