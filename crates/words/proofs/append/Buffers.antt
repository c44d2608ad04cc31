-- What a buffer holds: nothing put in, one text after another, and what is put into a full buffer.
use Prim.Native.Nat.{ℕ, zero, suc, ◌+◌, ◌-◌, ◌≤◌, ◌<◌, min}
use native.Mathlib.Nat.{sub-zero}
use native.Mathlib.Omega.{arith}
use mathlib.Core.Path.{◌≡◌, refl, sym, ap, ◌∙◌}
use mathlib.Core.List.{List, [], ◌∷◌, ◌++◌, append_assoc, append-nil}
use lib.ListN.{length, take, length-append, length-take}
use lib.Seq.{take_all}
use Rattle.std.proofs.Common.{Result, Ok, Err, IsOk, OnOk, OnErr, ◌↔◌}
use Rattle.arrayvec.specs.ArrayVec.{ArrayVec}
use Rattle.lists.specs.Base.{concat_map, count_from, range}
use Rattle.lists.proofs.Arrays.{take_min}
use Rattle.lists.proofs.Counts.{counted_split, counted_next}
use Rattle.words.specs.Appending.{with_bytes}

take_nil : (k : ℕ) (l : List ℕ) → l ≡ [] → take k l ≡ []
take_nil zero l e = refl
take_nil (suc k) l e = rw e refl

take_both : (k : ℕ) (s t : List ℕ) → take k (s ++ t) ≡ take k s ++ take (k - length s) t
take_both zero s t = let e : 0 - length s ≡ 0 = omega arith in rw e refl
take_both (suc k) [] t = ap (λ (j : ℕ). take j t) (sym (sub-zero (suc k)))
take_both (suc k) (x ∷ s) t = let e : suc k - length (x ∷ s) ≡ k - length s = omega arith in rw e (ap (λ (r : List ℕ). x ∷ r) (take_both k s t))

pub with_bytes-nil : (room : ℕ) (held : List ℕ) → with_bytes room held [] ≡ held
unfolding with_bytes
with_bytes-nil room held = ap (λ (r : List ℕ). held ++ r) (take_nil (room - length held) [] refl) ∙ append-nil held

pub with_bytes-append : (room : ℕ) (held s t : List ℕ) → with_bytes room held (s ++ t) ≡ with_bytes room (with_bytes room held s) t
unfolding with_bytes
with_bytes-append room held s t =
    let k = room - length held in
    let left : k - length s ≡ room - length (held ++ take k s) = omega (arith, length-append held (take k s), length-take k s) in
    ap (λ (r : List ℕ). held ++ r) (take_both k s t ∙ ap (λ (j : ℕ). take k s ++ take j t) left) ∙ sym (append_assoc held (take k s) (take (room - length (held ++ take k s)) t))

-- one text put in after another
pub bytes_then : (room : ℕ) (held s t : List ℕ) {l m : List ℕ} → l ≡ with_bytes room held s → m ≡ with_bytes room l t → m ≡ with_bytes room held (s ++ t)
bytes_then room held s t p q = q ∙ ap (λ (k : List ℕ). with_bytes room k t) p ∙ sym (with_bytes-append room held s t)

pub with_bytes-full : (room : ℕ) (held t : List ℕ) → room ≤ length held → with_bytes room held t ≡ held
unfolding with_bytes
with_bytes-full room held t h = let none : room - length held ≡ 0 = omega arith in ap (λ (j : ℕ). held ++ take j t) none ∙ append-nil held

-- ---- texts of numbers one after the other, put in by a loop

module _ (f : ℕ → List ℕ) (room : ℕ) (held : List ℕ) where
  pub bytes_begin : held ≡ with_bytes room held (concat_map f (range 0))
  unfolding concat_map count_from
  bytes_begin = sym (with_bytes-nil room held)

  pub bytes_next : (i : ℕ) {l m : List ℕ} → l ≡ with_bytes room held (concat_map f (range i)) → m ≡ with_bytes room l (f i) → m ≡ with_bytes room held (concat_map f (range (i + 1)))
  bytes_next i p q = bytes_then room held _ _ p q ∙ ap (with_bytes room held) (counted_next f i)

  -- a full buffer ends the loop early
  pub bytes_stop : (i n : ℕ) {l : List ℕ} → l ≡ with_bytes room held (concat_map f (range i)) → i ≤ n → room ≤ length l → l ≡ with_bytes room held (concat_map f (range n))
  bytes_stop i n {l} p h full =
      let k : i + (n - i) ≡ n = omega arith in
      bytes_then room held _ _ p (sym (with_bytes-full room l (concat_map f (count_from (0 + i) (n - i))) full))
      ∙ ap (with_bytes room held) (sym (counted_split f 0 i (n - i)) ∙ ap (λ (j : ℕ). concat_map f (range j)) k)

-- ---- one byte, and many at once

module _ (room : ℕ) (held : List ℕ) where
  pub with_bytes-fits : (bytes : List ℕ) → length held + length bytes ≤ room → with_bytes room held bytes ≡ held ++ bytes
  unfolding with_bytes
  with_bytes-fits bytes h = ap (λ (r : List ℕ). held ++ r) (take_all (room - length held) bytes (omega arith))

  -- what `try_push` leaves, whether or not it had room
  pub with_byte : {E : Type 0} (r : Result (Unit {0}) E) (byte : ℕ) (new : ArrayVec ℕ) → (IsOk r ↔ (length held < room)) → OnOk r (new.items ≡ held ++ byte ∷ [])
      → OnErr r (new ≡ record { items = held }) → OnErr r (length held ≡ room) → new.items ≡ with_bytes room held (byte ∷ [])
  with_byte (Ok x) byte new v e f g = e ∙ sym (with_bytes-fits (byte ∷ []) (omega (arith, v.0 refl)))
  with_byte (Err x) byte new v e f g = ap (λ (w : ArrayVec ℕ). w.items) f ∙ sym (with_bytes-full room held (byte ∷ []) (omega (arith, g)))

  -- as much as there is room for, which `try_extend_from_slice` takes
  module _ (count left : ℕ) (bytes : List ℕ) (c : count ≡ min (length bytes) left) (l : left + length held ≡ room) where
    part : held ++ take count bytes ≡ with_bytes room held bytes
    unfolding with_bytes
    part =
        let same : left ≡ room - length held = omega arith in
        ap (λ (r : List ℕ). held ++ r) (ap (λ (j : ℕ). take j bytes) c ∙ take_min (length bytes) left bytes refl ∙ ap (λ (j : ℕ). take j bytes) same)

    pub with_part : {E : Type 0} (r : Result (Unit {0}) E) (new : List ℕ) → (IsOk r ↔ (length held + length (take count bytes) ≤ room)) → OnOk r (new ≡ held ++ take count bytes)
        → new ≡ with_bytes room held bytes
    with_part (Ok x) new v e = e ∙ part
    with_part (Err x) new v e = let no : IsOk {T = Unit {0}} (Err x) = v.1 (omega (arith, length-take count bytes, c)) in cc
