-- A slot with a candidate stored in it gives the candidate back.
use mathlib.Core.Path.{◌≡◌, refl, sym, ap, ◌∙◌}
use mathlib.Core.List.{List, [], ◌∷◌, ◌++◌, append_assoc}
use Prim.Native.Nat.{ℕ, ◌+◌, ◌-◌, ◌*◌, ◌≤◌}
use native.Mathlib.Omega.{arith}
use lib.ListN.{length, get_or, take, drop, set, length-append, length-set}
use lib.Seq.{take_at, drop_at, take-append-add, drop-drop}
use Rattle.lists.specs.Parts.{part, patch}
use Rattle.lists.proofs.Parts.{length_patch, then_patch, set_patch, part_patch}
use Rattle.model.specs.Expand.{ProblemInstance}
use Rattle.candidate.specs.declared.Candidate.{Candidate as Words}
use Rattle.candidate.specs.Stands.{placed_words, unused_numbers, Stands}
use Rattle.search.specs.Slots.{slot_words, slot_of, packed, unpacked, stored_in, store_in, Storable}

-- ---- what the stores leave

-- two counts and three rows of words, one behind the other
pub store_words : (l l₂ l₃ l₄ : List ℕ) (at s p : ℕ) (b x y : List ℕ) → length b ≡ 64 → length x ≡ p → at + (66 + (p + length y)) ≤ length l
    → l₂ ≡ patch (set (set l at s) (at + 1) p) (at + 2) b → l₃ ≡ patch l₂ (at + 66) x → l₄ ≡ patch l₃ (at + 66 + p) y
    → l₄ ≡ patch l at (s ∷ p ∷ (b ++ (x ++ y)))
store_words l l₂ l₃ l₄ at s p b x y hb hx h e₂ e₃ e₄ =
    let l₀ : List ℕ = set l at s in
    let l₁ : List ℕ = set l₀ (at + 1) p in
    let k₀ : length l₀ ≡ length l = length-set l at s in
    let k₁ : length l₁ ≡ length l₀ = length-set l₀ (at + 1) p in
    let k₂ : length l₂ ≡ length l₁ = ap length e₂ ∙ length_patch l₁ (at + 2) b (omega arith) in
    then_patch l l₀ l₄ at (s ∷ []) (p ∷ (b ++ (x ++ y))) (at + 1) (set_patch l at s (omega arith))
    (then_patch l₀ l₁ l₄ (at + 1) (p ∷ []) (b ++ (x ++ y)) (at + 2) (set_patch l₀ (at + 1) p (omega arith))
    (then_patch l₁ l₂ l₄ (at + 2) b (x ++ y) (at + 66) e₂
    (then_patch l₂ l₃ l₄ (at + 66) x y (at + 66 + p) e₃ e₄ (omega arith) (omega arith)) (omega arith) (omega arith)) (omega arith) (omega arith)) (omega arith) (omega arith)

-- ---- a slot's words taken apart

unpacked_of : (s : ℕ) (b x y z : List ℕ) → length b ≡ 64
    → unpacked (length x + length y) (s ∷ length x ∷ (b ++ (x ++ (y ++ z)))) ≡ record { boards = b; sheets = s; insertions = record { items = x }; unused = record { items = y } }
unfolding unpacked
unpacked_of s b x y z hb =
    let p : ℕ = length x in
    let block : List ℕ = s ∷ p ∷ (b ++ (x ++ (y ++ z))) in
    let behind : drop 66 block ≡ x ++ (y ++ z) = drop_at b (x ++ (y ++ z)) 64 hb in
    let left : length y ≡ p + length y - p = omega arith in
    let placed : part block 66 p ≡ x = ap (take p) behind ∙ take_at x (y ++ z) p refl in
    let last : part block (66 + p) (p + length y - p) ≡ y =
    ap (take (p + length y - p)) (sym (drop-drop p 66 block) ∙ ap (drop p) behind ∙ drop_at x (y ++ z) p refl) ∙ take_at y z (p + length y - p) left
    in
    λ i. record { boards = take_at b (x ++ (y ++ z)) 64 hb i; sheets = s; insertions = record { items = placed i }; unused = record { items = last i } }

-- ---- the counts of a candidate that stands

pub storable : (inst : ProblemInstance) (c : Words) → Stands inst [] c → length inst.stock ≤ 64 → length inst.cuts ≤ 64 → Storable c
storable inst c h s k = record { sheets = omega (arith, h.sheets); cuts = omega (arith, h.counts) }

-- ---- a candidate with its 64 boards

abbrev pub cuts_of : Words → ℕ
cuts_of c = length (placed_words c) + length (unused_numbers c)

module _ (c : Words) (boards : length c.boards ≡ 64) where
  pub length_packed : length (packed c) ≡ 66 + cuts_of c
  unfolding packed
  length_packed = omega (arith, length-append c.boards (placed_words c ++ unused_numbers c), length-append (placed_words c) (unused_numbers c))

  module _ (ws : List ℕ) (slot : ℕ) (room : slot_words * slot + slot_words ≤ length ws) (few : cuts_of c ≤ 64) where
    -- the words behind it, as found
    abbrev rest : List ℕ
    rest = take (64 - cuts_of c) (drop (slot_words * slot + length (packed c)) ws)

    -- what is in the slot where it was stored
    stored_slot : slot_of (store_in ws slot c) slot ≡ c.sheets ∷ length (placed_words c) ∷ (c.boards ++ (placed_words c ++ (unused_numbers c ++ rest)))
    unfolding store_in packed
    stored_slot =
        let at : ℕ = slot_words * slot in
        let words : List ℕ = c.sheets ∷ length (placed_words c) ∷ (c.boards ++ (placed_words c ++ unused_numbers c)) in
        let more : List ℕ = drop (at + length words) ws in
        let size : length words ≡ 66 + cuts_of c = length_packed in
        let n : 130 ≡ length words + (64 - cuts_of c) = omega arith in
        part_patch ws at words slot_words (omega arith)
        ∙ ap (λ (m : ℕ). take m (words ++ more)) n
        ∙ take-append-add words more (64 - cuts_of c)
        ∙ ap {B = List ℕ} (λ r. c.sheets ∷ length (placed_words c) ∷ r)
        (append_assoc c.boards (placed_words c ++ unused_numbers c) rest ∙ ap (λ (r : List ℕ). c.boards ++ r) (append_assoc (placed_words c) (unused_numbers c) rest))

    -- its count of placed cuts
    pub stored_count : get_or (slot_of (store_in ws slot c) slot) 1 0 ≡ length (placed_words c)
    stored_count = ap (λ (l : List ℕ). get_or l 1 0) stored_slot

    -- what is loaded from there
    pub stored_back : stored_in (store_in ws slot c) slot (cuts_of c) ≡ c
    unfolding stored_in
    stored_back = ap (unpacked (cuts_of c)) stored_slot ∙ unpacked_of c.sheets c.boards (placed_words c) (unused_numbers c) rest boards
