-- Rectangles a kerf apart, inside one another, and what a split and a merge do to that.
use Rattle.std.specs.Prelude.{if◌then◌else◌}
use Prim.Native.Nat.{ℕ, ◌+◌}
use native.Mathlib.Omega.{arith}
use mathlib.Core.Path.{◌≡◌, refl, sym, subst}
use mathlib.Core.Logic.{◌⊎◌, inl, inr}
use mathlib.Core.Bool.{Bool, true, false, ◌&&◌}
use mathlib.Core.Option.{none, some, some-injective, none-ne-some}
use lib.Dec.{T, eqb, eqb→eq}
use Rattle.model.specs.declared.Rect.{Rect}
use Rattle.model.specs.Merge.{below, beside, stacked, joined, merge_adjacent_rects}
use Rattle.trust.specs.Sound.{Apart, Positive, Within, above, beneath, left_of, right_of}
use Rattle.trust.proofs.Truth.{and_split}

pub apart_sym : {kerf : ℕ} (a b : Rect) → Apart kerf a b → Apart kerf b a
apart_sym a b (left_of h) = right_of h
apart_sym a b (right_of h) = left_of h
apart_sym a b (above h) = beneath h
apart_sym a b (beneath h) = above h

pub within_trans : {a b c : Rect} → Within a b → Within b c → Within a c
within_trans p q = record { left = omega arith; top = omega arith; right = omega arith; bottom = omega arith }

-- what lies in b is apart from whatever b is apart from
pub within_apart : {kerf : ℕ} {b a : Rect} (q : Rect) → Within b a → Apart kerf q b → Apart kerf q a
within_apart q w (left_of h) = left_of (omega arith)
within_apart q w (right_of h) = right_of (omega arith)
within_apart q w (above h) = above (omega arith)
within_apart q w (beneath h) = beneath (omega arith)

-- ---- merging

-- m is a and b with the kerf between them, b below a or beside it on the right
pub data Joins (kerf : ℕ) (a b m : Rect) : Type 0 where
  down : a.x ≡ b.x → a.width ≡ b.width → a.y + a.length + kerf ≡ b.y → m ≡ stacked kerf a b → Joins kerf a b m
  across : a.y ≡ b.y → a.length ≡ b.length → a.x + a.width + kerf ≡ b.x → m ≡ joined kerf a b → Joins kerf a b m

three : (a b c d e f : ℕ) → T (eqb a b && eqb c d && eqb e f) → (a ≡ b) × (c ≡ d) × (e ≡ f)
three a b c d e f h =
    let p = and_split (eqb a b && eqb c d) (eqb e f) h in
    let q = and_split (eqb a b) (eqb c d) p.0 in
    (eqb→eq a b q.0, eqb→eq c d q.1, eqb→eq e f p.1)

pub below_facts : (kerf : ℕ) (a b : Rect) → T (below kerf a b) → (a.x ≡ b.x) × (a.width ≡ b.width) × (a.y + a.length + kerf ≡ b.y)
below_facts kerf a b h = three a.x b.x a.width b.width (a.y + a.length + kerf) b.y h

pub beside_facts : (kerf : ℕ) (a b : Rect) → T (beside kerf a b) → (a.y ≡ b.y) × (a.length ≡ b.length) × (a.x + a.width + kerf ≡ b.x)
beside_facts kerf a b h = three a.y b.y a.length b.length (a.x + a.width + kerf) b.x h

chain : (X : Rect → Type 0) (b₁ b₂ b₃ b₄ : Bool) (m₁ m₂ m₃ m₄ m : Rect) → (T b₁ → X m₁) → (T b₂ → X m₂) → (T b₃ → X m₃) → (T b₄ → X m₄)
    → (if b₁ then some m₁ else if b₂ then some m₂ else if b₃ then some m₃ else if b₄ then some m₄ else none) ≡ some m → X m
chain X true b₂ b₃ b₄ m₁ m₂ m₃ m₄ m f₁ f₂ f₃ f₄ e = subst X (some-injective m₁ m e) (f₁ tt)
chain X false true b₃ b₄ m₁ m₂ m₃ m₄ m f₁ f₂ f₃ f₄ e = subst X (some-injective m₂ m e) (f₂ tt)
chain X false false true b₄ m₁ m₂ m₃ m₄ m f₁ f₂ f₃ f₄ e = subst X (some-injective m₃ m e) (f₃ tt)
chain X false false false true m₁ m₂ m₃ m₄ m f₁ f₂ f₃ f₄ e = subst X (some-injective m₄ m e) (f₄ tt)
chain X false false false false m₁ m₂ m₃ m₄ m f₁ f₂ f₃ f₄ e = absurd (none-ne-some m e)

pub merged_joins : (kerf : ℕ) (l r m : Rect) → merge_adjacent_rects kerf l r ≡ some m → Joins kerf l r m ⊎ Joins kerf r l m
unfolding merge_adjacent_rects
merged_joins kerf l r m e =
    chain (λ n. Joins kerf l r n ⊎ Joins kerf r l n)
    (below kerf l r) (below kerf r l) (beside kerf l r) (beside kerf r l)
    (stacked kerf l r) (stacked kerf r l) (joined kerf l r) (joined kerf r l) m
    (λ h. let t = below_facts kerf l r h in inl (down t.0 t.1 t.2 refl))
    (λ h. let t = below_facts kerf r l h in inr (down t.0 t.1 t.2 refl))
    (λ h. let t = beside_facts kerf l r h in inl (across t.0 t.1 t.2 refl))
    (λ h. let t = beside_facts kerf r l h in inr (across t.0 t.1 t.2 refl))
    e

-- a rectangle of positive sides that is a kerf apart from both is a kerf apart from the two merged
stacked_apart : {kerf : ℕ} {a b : Rect} (q : Rect) → Positive q → a.x ≡ b.x → a.width ≡ b.width → a.y + a.length + kerf ≡ b.y
    → Apart kerf q a → Apart kerf q b → Apart kerf q (stacked kerf a b)
stacked_apart q s e f g (left_of h) k = left_of h
stacked_apart q s e f g (right_of h) k = right_of h
stacked_apart q s e f g (above h) k = above h
stacked_apart q s e f g (beneath h) (left_of k) = left_of (omega arith)
stacked_apart q s e f g (beneath h) (right_of k) = right_of (omega arith)
stacked_apart q s e f g (beneath h) (above k) = absurd (omega arith)
stacked_apart q s e f g (beneath h) (beneath k) = beneath (omega arith)

-- the same along the other axis
abbrev turn : Rect → Rect
turn r = record { x = r.y; y = r.x; width = r.length; length = r.width }

turn_apart : {kerf : ℕ} (a b : Rect) → Apart kerf a b → Apart kerf (turn a) (turn b)
turn_apart a b (left_of h) = above h
turn_apart a b (right_of h) = beneath h
turn_apart a b (above h) = left_of h
turn_apart a b (beneath h) = right_of h

joined_apart : {kerf : ℕ} {a b : Rect} (q : Rect) → Positive q → a.y ≡ b.y → a.length ≡ b.length → a.x + a.width + kerf ≡ b.x
    → Apart kerf q a → Apart kerf q b → Apart kerf q (joined kerf a b)
joined_apart {kerf} {a} {b} q s e f g h k =
    turn_apart (turn q) (stacked kerf (turn a) (turn b)) (stacked_apart (turn q) (record { wide = s.long; long = s.wide }) e f g (turn_apart q a h) (turn_apart q b k))

pub joins_apart : {kerf : ℕ} {a b m : Rect} (q : Rect) → Positive q → Joins kerf a b m → Apart kerf q a → Apart kerf q b → Apart kerf q m
joins_apart q s (down e f g i) h k = subst (Apart _ q) (sym i) (stacked_apart q s e f g h k)
joins_apart q s (across e f g i) h k = subst (Apart _ q) (sym i) (joined_apart q s e f g h k)

pub joins_within : {kerf : ℕ} {a b m : Rect} (board : Rect) → Joins kerf a b m → Within board a → Within board b → Within board m
joins_within board (down e f g i) h k = subst (Within board) (sym i) (record { left = h.left; top = h.top; right = h.right; bottom = omega arith })
joins_within board (across e f g i) h k = subst (Within board) (sym i) (record { left = h.left; top = h.top; right = omega arith; bottom = h.bottom })

pub joins_positive : {kerf : ℕ} {a b m : Rect} → Joins kerf a b m → Positive a → Positive m
joins_positive (down e f g i) h = subst Positive (sym i) (record { wide = h.wide; long = omega arith })
joins_positive (across e f g i) h = subst Positive (sym i) (record { wide = omega arith; long = h.long })

-- the key law of merging, for the pair that the source merges
pub merge_apart : {kerf : ℕ} {l r m : Rect} (q : Rect) → Positive q → merge_adjacent_rects kerf l r ≡ some m → Apart kerf q l → Apart kerf q r → Apart kerf q m
merge_apart {kerf} {l} {r} {m} q s e h k = go (merged_joins kerf l r m e)
  where
    go : Joins kerf l r m ⊎ Joins kerf r l m → Apart kerf q m
    go (inl j) = joins_apart q s j h k
    go (inr j) = joins_apart q s j k h
