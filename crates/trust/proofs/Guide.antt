-- The guide: its leaves are exactly the pieces and the waste, and it is there exactly if no insertion merged.
use Rattle.std.specs.Prelude.{if◌then◌else◌}
use Prim.Native.Nat.{ℕ, ◌+◌, ◌-◌, ◌<◌}
use native.Mathlib.Omega.{arith}
use mathlib.Core.Path.{◌≡◌, refl, sym, ◌∙◌, subst, subst₂}
use mathlib.Core.Logic.{◌⊎◌, inl, inr}
use mathlib.Core.Bool.{Bool, true, false, ◌&&◌}
use mathlib.Core.List.Memᴰ
use mathlib.Core.List.{List, [], ◌∷◌, ◌++◌, append-nil, append_assoc, Memᴰ}
use mathlib.Core.Option.{Option, none, some, some-injective, none-ne-some}
use lib.Dec.{T, eqb, ltb, ltb→lt, eqb→eq, eqb_refl}
use borrow.Author.Tests.{ne_eqb, lt-leb}
use Rattle.lists.specs.Base.{◌>>=◌, ◌<|>◌}
use Rattle.lists.specs.Elements.{Perm, also}
use Rattle.model.specs.declared.Rect.{Rect}
use Rattle.model.specs.declared.Direction.{Direction}
use Rattle.model.specs.declared.CutInstance.{CutInstance}
use Rattle.model.specs.declared.InstanceKey.{InstanceKey}
use Rattle.model.specs.Types.{cut_key, same_rect}
use Rattle.model.specs.Split.{split_direction, bottom_remainder, right_remainder, split_free_rect}
use Rattle.model.specs.Guide.{GuideCut, SliceNode, cut, leaf, free, cut_piece, span, guide_cut, cut_off, insert_subtree, replace_free_leaf}
use Rattle.model.specs.Sheet.{GuillotineSheet, Insertion, Place, split_rects, split_tree, insert_at}
use Rattle.model.specs.Merge.{merges_any}
use Rattle.trust.specs.WellCut.{first_part, guide_cut_of, second_part}
use Rattle.trust.specs.Sound.{Positive}
use Rattle.lists.proofs.Perm.{perm_refl, perm_append_left, perm_append_right, perm_append_comm, perm_middle}
use Rattle.lists.proofs.Options.{through, Through}
use Rattle.lists.proofs.Booleans.{is_true}
use Rattle.trust.proofs.Truth.{and_split}
use Rattle.trust.proofs.RectLayout.{Corner}

unfoldable pub free_leaves : SliceNode → List Rect
free_leaves (cut c a b) = free_leaves a ++ free_leaves b
free_leaves (leaf r free) = r ∷ []
free_leaves (leaf r (cut_piece k)) = []

unfoldable pub piece_leaves : SliceNode → List (Rect × InstanceKey)
piece_leaves (cut c a b) = piece_leaves a ++ piece_leaves b
piece_leaves (leaf r free) = []
piece_leaves (leaf r (cut_piece k)) = (r, k) ∷ []

-- ---- equal rectangles

pub same_rect_eq : (a b : Rect) → T (same_rect a b) → a ≡ b
unfolding same_rect
same_rect_eq a b h =
    let p = and_split (eqb a.x b.x && eqb a.y b.y && eqb a.width b.width) (eqb a.length b.length) h in
    let q = and_split (eqb a.x b.x && eqb a.y b.y) (eqb a.width b.width) p.0 in
    let r = and_split (eqb a.x b.x) (eqb a.y b.y) q.0 in
    λ i. record { x = eqb→eq a.x b.x r.0 i; y = eqb→eq a.y b.y r.1 i; width = eqb→eq a.width b.width q.1 i; length = eqb→eq a.length b.length p.1 i }

pub same_rect_refl : (a : Rect) → same_rect a a ≡ true
unfolding same_rect
same_rect_refl a =
    rw (is_true (eqb a.x a.x) (eqb_refl a.x), is_true (eqb a.y a.y) (eqb_refl a.y), is_true (eqb a.width a.width) (eqb_refl a.width))
    (is_true (eqb a.length a.length) (eqb_refl a.length))

-- ---- replace_free_leaf

-- the second tree is the first with one free leaf at the target given way to sub
pub data Grafted (target : Rect) (sub : SliceNode) : SliceNode → SliceNode → Type 0 where
  at_leaf : Grafted target sub (leaf target free) sub
  in_first : {c : GuideCut} {a b n : SliceNode} → Grafted target sub a n → Grafted target sub (cut c a b) (cut c n b)
  in_second : {c : GuideCut} {a b n : SliceNode} → Grafted target sub b n → Grafted target sub (cut c a b) (cut c a n)

pub grafted : (tree : SliceNode) (target : Rect) (sub t : SliceNode) → replace_free_leaf tree target sub ≡ some t → Grafted target sub tree t
unfolding replace_free_leaf
grafted (cut c a b) target sub t e = go (replace_free_leaf a target sub) (λ n. grafted a target sub n) (replace_free_leaf b target sub) (λ n. grafted b target sub n) e
  where
    go : (o : Option SliceNode) → ((n : SliceNode) → o ≡ some n → Grafted target sub a n) → (q : Option SliceNode) → ((n : SliceNode) → q ≡ some n → Grafted target sub b n)
        → ((o >>= λ n. some (cut c n b)) <|> (q >>= λ n. some (cut c a n))) ≡ some t → Grafted target sub (cut c a b) t
    go (some n) f q g k = subst (Grafted target sub (cut c a b)) (some-injective _ _ k) (in_first (f n refl))
    go none f none g k = absurd (none-ne-some t k)
    go none f (some n) g k = subst (Grafted target sub (cut c a b)) (some-injective _ _ k) (in_second (g n refl))
grafted (leaf r free) target sub t e = go (same_rect r target) (same_rect_eq r target) e
  where
    go : (b : Bool) → (T b → r ≡ target) → (if b then some sub else none) ≡ some t → Grafted target sub (leaf r free) t
    go true f k = subst₂ (λ (x : Rect) (u : SliceNode). Grafted target sub (leaf x free) u) (sym (f tt)) (some-injective sub t k) at_leaf
    go false f k = absurd (none-ne-some t k)
grafted (leaf r (cut_piece key)) target sub t e = absurd (none-ne-some t e)

-- what this does to the leaves
pub record Replaced (target : Rect) (sub tree tree' : SliceNode) : Type 0 where
  pub rest : List Rect
  pub before : Perm (free_leaves tree) (target ∷ rest)
  pub after : Perm (free_leaves tree') (free_leaves sub ++ rest)
  pub pieces : Perm (piece_leaves tree') (piece_leaves sub ++ piece_leaves tree)

shift : {A : Type 0} (xs ys zs : List A) → Perm (xs ++ (ys ++ zs)) (ys ++ (xs ++ zs))
shift xs ys zs =
    let m = perm_append_right zs (perm_append_comm xs ys) in
    rw (append_assoc xs ys zs, append_assoc ys xs zs) at m

pub replaced : {target : Rect} {sub tree tree' : SliceNode} → Grafted target sub tree tree' → Replaced target sub tree tree'
unfolding free_leaves piece_leaves
replaced {target} {sub} at_leaf =
    record { rest = []; before = perm_refl (target ∷ []); after = rw append-nil (perm_refl (free_leaves sub)); pieces = rw append-nil (perm_refl (piece_leaves sub)) }
replaced {target} {sub} (in_first {c} {a} {b} {n} g) =
    let r = replaced g in
    record {
      rest = r.rest ++ free_leaves b;
      before = perm_append_right (free_leaves b) r.before;
      after = rw (← append_assoc (free_leaves sub) r.rest (free_leaves b)) (perm_append_right (free_leaves b) r.after);
      pieces = rw (← append_assoc (piece_leaves sub) (piece_leaves a) (piece_leaves b)) (perm_append_right (piece_leaves b) r.pieces);
    }
replaced {target} {sub} (in_second {c} {a} {b} {n} g) =
    let r = replaced g in
    record {
      rest = free_leaves a ++ r.rest;
      before = also (perm_append_left (free_leaves a) r.before) (perm_middle (free_leaves a) target r.rest);
      after = also (perm_append_left (free_leaves a) r.after) (shift (free_leaves a) (free_leaves sub) r.rest);
      pieces = also (perm_append_left (piece_leaves a) r.pieces) (shift (piece_leaves a) (piece_leaves sub) (piece_leaves b));
    }

pub replace_present : (tree : SliceNode) (target : Rect) (sub : SliceNode) → Memᴰ target (free_leaves tree) → (t : SliceNode) × (replace_free_leaf tree target sub ≡ some t)
unfolding replace_free_leaf free_leaves
replace_present (cut c a b) target sub m =
    go (Memᴰ.append_cases (free_leaves a) m) (replace_present a target sub) (replace_free_leaf a target sub) refl (replace_present b target sub)
  where
    go : Memᴰ target (free_leaves a) ⊎ Memᴰ target (free_leaves b)
        → (Memᴰ target (free_leaves a) → (t : SliceNode) × (replace_free_leaf a target sub ≡ some t))
        → (o : Option SliceNode) → replace_free_leaf a target sub ≡ o
        → (Memᴰ target (free_leaves b) → (t : SliceNode) × (replace_free_leaf b target sub ≡ some t))
        → (t : SliceNode) × (((o >>= λ n. some (cut c n b)) <|> (replace_free_leaf b target sub >>= λ n. some (cut c a n))) ≡ some t)
    go s f (some n) e g = (cut c n b, refl)
    go (inl k) f none e g = absurd (none-ne-some _ (sym e ∙ (f k).1))
    go (inr k) f none e g = (cut c a (g k).0, rw (g k).1)
replace_present (leaf r free) target sub m = (sub, go (Memᴰ.cases_cons m))
  where
    go : (target ≡ r) ⊎ Memᴰ target [] → (if same_rect r target then some sub else none) ≡ some sub
    go (inl e) = subst (λ (x : Rect). (if same_rect r x then some sub else none) ≡ some sub) (sym e) (rw (same_rect_refl r))
    go (inr k) = absurd (Memᴰ.not-nil k)
replace_present (leaf r (cut_piece key)) target sub m = absurd (Memᴰ.not-nil m)

-- ---- the subtree of an insertion

-- f is cut along d behind p, and what lies before that cut is cut along the other axis, each where more than a kerf is left
abbrev pub crossing : Direction → Direction
crossing Direction.Horizontal = Direction.Vertical
crossing Direction.Vertical = Direction.Horizontal

module _ (kerf : ℕ) (f p : Rect) where
  abbrev pub over : Direction → Bool
  over o = ltb kerf (span o f - span o p)

  abbrev pub before : Direction → Rect
  before d = first_part d (span d p) f

  abbrev pub behind : Direction → Rect → List Rect
  behind o work = if over o then second_part o (span o p) kerf work ∷ [] else []

  abbrev pub inner : Direction → SliceNode → Option SliceNode
  inner d n = cut_off (before d) (crossing d) (span (crossing d) p) kerf (behind (crossing d) (before d)) n

  abbrev pub outer : Direction → SliceNode → Option SliceNode
  outer d n = cut_off f d (span d p) kerf (behind d f) n

  two_cuts : (d : Direction) (c : CutInstance) → insert_subtree d kerf f p c ≡ (inner d (leaf p (cut_piece (cut_key c))) >>= outer d)
  unfolding insert_subtree bottom_remainder right_remainder
  two_cuts Direction.Horizontal c = refl
  two_cuts Direction.Vertical c = refl

  pub cut_twice : (d : Direction) (c : CutInstance) (t : SliceNode) → insert_subtree d kerf f p c ≡ some t → Through (inner d (leaf p (cut_piece (cut_key c)))) (outer d) t
  cut_twice d c t e = through (inner d (leaf p (cut_piece (cut_key c)))) (outer d) t (sym (two_cuts d c) ∙ e)

  pub room : (o : Direction) → T (over o) → span o p + kerf < span o f
  room o t = omega (arith, ltb→lt kerf (span o f - span o p) t)

  pub crossing_room : (d : Direction) → T (over (crossing d)) → span (crossing d) p + kerf < span (crossing d) (before d)
  crossing_room Direction.Horizontal t = room Direction.Vertical t
  crossing_room Direction.Vertical t = room Direction.Horizontal t

  pub piece_span : Positive p → (o : Direction) → 0 < span o p
  piece_span s Direction.Horizontal = s.long
  piece_span s Direction.Vertical = s.wide

  pub before_positive : Corner f p → Positive p → (d : Direction) → Positive (before d)
  before_positive at s Direction.Horizontal = record { wide = omega arith; long = omega arith }
  before_positive at s Direction.Vertical = record { wide = omega arith; long = omega arith }

  -- what lies behind the two cuts is what the split pushes
  pushed : (d : Direction) → Perm (behind (crossing d) (before d) ++ behind d f) (split_free_rect d kerf f p)
  unfolding split_free_rect bottom_remainder right_remainder
  pushed Direction.Horizontal = perm_append_comm (behind Direction.Vertical (before Direction.Horizontal)) (behind Direction.Horizontal f)
  pushed Direction.Vertical = perm_refl _

-- Cut::new never fails where a remainder is pushed
pub guide_cut_some : (work : Rect) (o : Direction) (offset kerf : ℕ) → Positive work → 0 < offset → offset + kerf < span o work
    → guide_cut work o offset kerf ≡ some (guide_cut_of work o offset kerf)
unfolding guide_cut
guide_cut_some work o offset kerf s h k =
    rw (ne_eqb work.width 0 (λ e. omega arith), ne_eqb work.length 0 (λ e. omega arith), ne_eqb offset 0 (λ e. omega arith), lt-leb (span o work) (offset + kerf) k)

-- a node with an optional remainder cut off
pub record CutOff (rs : List Rect) (node : SliceNode) (o : Option SliceNode) : Type 0 where
  pub tree : SliceNode
  pub made : o ≡ some tree
  pub waste : free_leaves tree ≡ free_leaves node ++ rs
  pub pieces : piece_leaves tree ≡ piece_leaves node

cut_off_made : (work : Rect) (o : Direction) (offset kerf : ℕ) (b : Bool) (r : Rect) (node : SliceNode) → Positive work → 0 < offset → (T b → offset + kerf < span o work)
    → CutOff (if b then r ∷ [] else []) node (cut_off work o offset kerf (if b then r ∷ [] else []) node)
unfolding cut_off free_leaves piece_leaves
cut_off_made work o offset kerf true r node s h k =
    record {
      tree = cut (guide_cut_of work o offset kerf) node (leaf r free);
      made = rw (guide_cut_some work o offset kerf s h (k tt));
      waste = refl;
      pieces = append-nil (piece_leaves node);
    }
cut_off_made work o offset kerf false r node s h k = record { tree = node; made = refl; waste = sym (append-nil (free_leaves node)); pieces = refl }

pub record Subtree (rs : List Rect) (p : Rect) (key : InstanceKey) (o : Option SliceNode) : Type 0 where
  pub tree : SliceNode
  pub made : o ≡ some tree
  pub waste : Perm (free_leaves tree) rs
  pub pieces : piece_leaves tree ≡ (p, key) ∷ []

pub subtree : (d : Direction) (kerf : ℕ) (f p : Rect) (c : CutInstance) → Corner f p → Positive p → Subtree (split_free_rect d kerf f p) p (cut_key c) (insert_subtree d kerf f p c)
unfolding free_leaves piece_leaves
subtree d kerf f p c at s =
    let first = cut_off_made (before kerf f p d) (crossing d) (span (crossing d) p) kerf (over kerf f p (crossing d)) (second_part (crossing d) (span (crossing d) p) kerf (before kerf f p d))
    (leaf p (cut_piece (cut_key c))) (before_positive kerf f p at s d) (piece_span kerf f p s (crossing d)) (crossing_room kerf f p d)
    in
    let all = cut_off_made f d (span d p) kerf (over kerf f p d) (second_part d (span d p) kerf f) first.tree (record { wide = omega arith; long = omega arith }) (piece_span kerf f p s d) (room kerf f p d) in
    record {
      tree = all.tree;
      made = two_cuts kerf f p d c ∙ rw first.made all.made;
      waste = rw (all.waste, first.waste) (pushed kerf f p d);
      pieces = all.pieces ∙ first.pieces;
    }

-- ---- the guide of a sheet with an insertion

-- is the old one with the insertion's subtree in the place of the free leaf
pub record Regrown (kerf : ℕ) (s : GuillotineSheet) (i : Insertion) (p : Place) (t : SliceNode) : Type 0 where
  pub old : SliceNode
  pub sub : SliceNode
  pub was : s.slicing_tree ≡ some old
  pub made : insert_subtree (split_direction p.free_rect p.fit.rect i.heuristic.split) kerf p.free_rect p.fit.rect i.cut ≡ some sub
  pub graft : Grafted p.free_rect sub old t

pub regrown : (kerf : ℕ) (s : GuillotineSheet) (i : Insertion) (p : Place) (t : SliceNode) → (insert_at kerf s i p).slicing_tree ≡ some t → Regrown kerf s i p t
unfolding insert_at split_tree
regrown kerf s i p t e = go (merges_any kerf (split_rects kerf s i p)) e
  where
    go : (m : Bool) → (if m then none else split_tree kerf s i p) ≡ some t → Regrown kerf s i p t
    go true k = absurd (none-ne-some t k)
    go false k =
        let a = through s.slicing_tree _ t k in
        let b = through _ (λ u. replace_free_leaf a.value p.free_rect u) t a.rest in
        record { old = a.value; sub = b.value; was = a.first; made = b.first; graft = grafted a.value p.free_rect b.value t b.rest }
