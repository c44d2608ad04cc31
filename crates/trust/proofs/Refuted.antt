-- Words that just break a rule, and the rule that they break, by computation: ★ plans (boards tried at the edge), which
-- pass, with one word changed.
use Prim.Native.Nat.{ℕ}
use mathlib.Core.Path.{◌≡◌, refl}
use mathlib.Core.Bool.{true, false, true≢false}
use borrow.Author.Tests.{eqb-false}
use mathlib.Core.List.{List, [], ◌∷◌, ◌++◌, map}
use lib.ListN.{set, take, drop}
use Rattle.model.specs.declared.Rect.{Rect}
use Rattle.model.specs.Types.{rect}
use Rattle.model.specs.Answer.{Answer, plan, refused, answer}
use Rattle.model.specs.Evaluate.{evaluate}
use Rattle.model.specs.FileOf.{file, record_bytes}
use Rattle.model.specs.Stars.{star4}
use Rattle.lists.proofs.Perm.{perm_refl, sum_perm}
use Rattle.trust.specs.Words.{groups, key_at, rect_at, piece_in, waste_in, node_in, node_key, sheet_in, sheets_in, pieces_in, NodeIn, SheetIn}
use Rattle.trust.specs.InLayout.{piece_codes, node_codes, subtrees, one_tree, sheet_codes, body_in_layout, bodies_from, in_layout, InLayout}
use Rattle.trust.specs.PieceRules.{keys_in, lies_once, uses_board, of_its_size, on_rack, lies_as, is_fit, is_panel, has_fit, inside_board, kerf_apart, pairwise, PieceRules}
use Rattle.trust.specs.GuideRules.{merged_from, piece_leaves_in, waste_leaves_in, sits_in, part_before, part_after, divides, fills_parts, use_in, saw_in}
use Rattle.trust.specs.Trusted.{plan_makings, Trusted}

-- whoever says `unfolding judge` computes with every rule
unfoldable judge : List ℕ → List SheetIn
unfolding evaluate file record_bytes star4 groups key_at rect_at piece_in waste_in node_in node_key sheet_in sheets_in pieces_in piece_codes node_codes subtrees one_tree sheet_codes body_in_layout bodies_from in_layout keys_in lies_once uses_board of_its_size on_rack lies_as is_fit is_panel has_fit inside_board kerf_apart pairwise merged_from piece_leaves_in waste_leaves_in sits_in part_before part_after divides fills_parts use_in saw_in plan_makings
judge words = sheets_in words

-- ---- the plans

star1 : List ℕ
star1 = file 3 0 0 ((1, 128, 64, 1, 0, 1) ∷ []) ((7, 64, 64, 1, 0, 0) ∷ [])

star8 : List ℕ
star8 = file 3 0 0 ((1, 20, 30, 1, 2, 1) ∷ []) ((7, 30, 20, 1, 1, 1) ∷ [])

-- two boards, both needed
two_boards : List ℕ
two_boards = file 3 0 0 ((1, 10, 10, 2, 0, 1) ∷ []) ((7, 10, 10, 2, 0, 0) ∷ [])

words_of : Answer → List ℕ
words_of (plan words) = words
words_of (refused k) = []

planned : List ℕ → List ℕ
planned bytes = words_of (answer bytes)

-- ---- as they are they pass every test, by computation

star1_passes : Trusted star1 (planned star1)
unfolding judge planned words_of star1
star1_passes =
    record {
      layout = tt;
      pieces = record { panels_once = tt; boards = tt; boards_once = tt; fits = tt; inside = tt; apart = tt };
      waste_inside = tt;
      apart = tt;
      made = (
        record {
          board = refl;
          panels = refl;
          account = refl;
          guide = record { present = refl; piece_leaves = λ h. perm_refl _; waste_leaves = λ h. perm_refl _; parts = λ h. tt; own_use = refl; own_saw = refl };
        },
        tt,
      );
    }

star4_passes : PieceRules star4 (planned star4)
unfolding judge planned words_of
star4_passes = record { panels_once = tt; boards = tt; boards_once = tt; fits = tt; inside = tt; apart = tt }

star8_passes : PieceRules star8 (planned star8)
unfolding judge planned words_of star8
star8_passes = record { panels_once = tt; boards = tt; boards_once = tt; fits = tt; inside = tt; apart = tt }

two_boards_pass : InLayout (planned two_boards) × PieceRules two_boards (planned two_boards)
unfolding judge planned words_of two_boards
two_boards_pass = (tt, record { panels_once = tt; boards = tt; boards_once = tt; fits = tt; inside = tt; apart = tt })

-- ---- the layout

-- a place of ★1's words, and another word there
layout_breaks : List (ℕ × ℕ)
layout_breaks =
    -- a sheet more than there are, another layout, a gap before the body, a body longer or shorter than its counts
    (0, 2) ∷ (3, 2) ∷ (4, 7) ∷ (5, 48) ∷ (5, 46)
    -- a piece, a waste rectangle or a node too many
    ∷ (13, 2) ∷ (14, 2) ∷ (15, 4)
    -- pattern 3, rotated 2
    ∷ (23, 3) ∷ (24, 2)
    -- orientation 2, kind 3, a word of a waste node
    ∷ (30, 2) ∷ (37, 3) ∷ (46, 1)
    -- a cut without children, a leaf with two
    ∷ (45, 0) ∷ (29, 1)
    ∷ []

layout_breaks_lem : map (λ e. in_layout (set (planned star1) e.0 e.1)) layout_breaks ≡ map (λ e. false) layout_breaks
unfolding judge star1 planned words_of layout_breaks
layout_breaks_lem = refl

-- the last body ends past the slice; what follows it is not read
layout_ends : (in_layout (take 52 (planned star1)) ≡ false) × (in_layout (planned star1 ++ (9 ∷ 9 ∷ [])) ≡ true)
unfolding judge star1 planned words_of
layout_ends = (refl, refl)

-- two bodies with a word between them, where the second one's entry says so
gap : List ℕ
gap = set (take 35 (planned two_boards) ++ (0 ∷ drop 35 (planned two_boards))) 6 36

bodies_apart : in_layout gap ≡ false
unfolding judge planned words_of two_boards gap
bodies_apart = refl

-- ---- the piece rules

-- ★4's second panel one unit too near the first
too_near : PieceRules star4 (set (planned star4) 29 41) → ⊥
unfolding judge planned words_of
too_near h = h.apart

-- it has the other's id: one panel twice, the other not at all
panel_twice : PieceRules star4 (set (planned star4) 25 7) → ⊥
unfolding judge planned words_of
panel_twice h = h.panels_once

-- a plan of no sheets, though a panel is asked for
no_sheets : PieceRules star4 (0 ∷ 0 ∷ 1072693248 ∷ 0 ∷ []) → ⊥
unfolding judge
no_sheets h = h.panels_once

-- of no panel's id
no_panel_lem : PieceRules star4 (set (planned star4) 27 1) → ⊥
unfolding judge planned words_of
no_panel_lem h = h.fits

-- one unit wider than its record
wider_panel : PieceRules star4 (set (planned star4) 21 61) → ⊥
unfolding judge planned words_of
wider_panel h = h.fits

-- one unit past the board's edge
past_edge : PieceRules star4 (set (planned star4) 19 41) → ⊥
unfolding judge planned words_of
past_edge h = h.inside

-- a board that is not on the rack, and one of another size
other_board : PieceRules star4 (set (planned star4) 6 2) → ⊥
unfolding judge planned words_of
other_board h = h.boards

wider_board : PieceRules star4 (set (planned star4) 9 101) → ⊥
unfolding judge planned words_of
wider_board h = h.boards

-- the second sheet on the first one's board
board_twice : PieceRules two_boards (set (planned two_boards) 37 0) → ⊥
unfolding judge planned words_of two_boards
board_twice h = h.boards_once

-- ★8 without its turned mark, and with the grain it has upright
unturned : PieceRules star8 (set (planned star8) 24 0) → ⊥
unfolding judge planned words_of star8
unturned h = h.fits

upright_grain : PieceRules star8 (set (planned star8) 23 1) → ⊥
unfolding judge planned words_of star8
upright_grain h = h.fits

-- a square whose pattern turning leaves equal is not turned
turned_square : PieceRules star1 (set (planned star1) 24 1) → ⊥
unfolding judge planned words_of star1
turned_square h = h.fits

-- ---- waste, account, guide

-- ★1's waste one unit nearer, or one unit past the edge
waste_near : Trusted star1 (set (planned star1) 25 66) → ⊥
unfolding judge planned words_of star1
waste_near h = h.apart

waste_past_edge : Trusted star1 (set (planned star1) 27 62) → ⊥
unfolding judge planned words_of star1
waste_past_edge h = h.waste_inside

-- narrower by one kerf: 128 × 64 is not 64 × 64, 58 × 64 and a loss of 3 × 64
account_short : Trusted star1 (set (planned star1) 27 58) → ⊥
unfolding judge planned words_of star1
account_short h = eqb-false _ _ refl h.made.0.account

-- ★4's first waste rectangle without the kerf that the merge gave back, 2 × 38
no_gain : Trusted star4 (set (planned star4) 37 70) → ⊥
unfolding judge planned words_of
no_gain h = eqb-false _ _ refl h.made.0.account

-- ★1 without its guide, though nothing merged
no_guide : Trusted star1 (set (set (set (take 29 (planned star1)) 5 23) 12 0) 15 0) → ⊥
unfolding judge planned words_of star1
no_guide h = true≢false h.made.0.guide.present

-- a leaf with another panel's id
other_leaf : Trusted star1 (set (planned star1) 38 8) → ⊥
unfolding judge planned words_of star1
other_leaf h = eqb-false _ _ refl (sum_perm (λ e. e.1.id) (h.made.0.guide.piece_leaves tt))

-- a cut one unit before the panel's edge
other_cut : Trusted star1 (set (planned star1) 31 63) → ⊥
unfolding judge planned words_of star1
other_cut h = h.made.0.guide.parts tt

-- invented use and saw
other_use : Trusted star1 (set (planned star1) 11 501) → ⊥
unfolding judge planned words_of star1
other_use h = eqb-false _ _ refl h.made.0.guide.own_use

other_saw : Trusted star1 (set (planned star1) 12 0) → ⊥
unfolding judge planned words_of star1
other_saw h = eqb-false _ _ refl h.made.0.guide.own_saw

-- ---- parts

waste_leaf : Rect → NodeIn
waste_leaf r = record { kind = 2; first = 0; second = 0; third = 0; rect = r }

piece_leaf : ℕ → Rect → NodeIn
piece_leaf id r = record { kind = 1; first = id; second = 0; third = 0; rect = r }

cut_node : ℕ → ℕ → Rect → NodeIn
cut_node orientation offset r = record { kind = 0; first = orientation; second = offset; third = 3; rect = r }

-- a leaf a kerf short of its part along both sides, and two kerfs along one
kerf_short : fills_parts 3 (rect 0 0 20 30 ∷ []) (waste_leaf (rect 0 0 17 27) ∷ []) ≡ true
unfolding judge waste_leaf
kerf_short = refl

two_kerfs_short : map (λ r. fills_parts 3 (rect 0 0 20 30 ∷ []) (waste_leaf r ∷ [])) (rect 0 0 14 30 ∷ rect 0 0 20 24 ∷ []) ≡ false ∷ false ∷ []
unfolding judge waste_leaf
two_kerfs_short = refl

-- Four panels on a board of 100 × 26, round a hole, so that no cut from edge to edge separates them; and cuts that reach out of what they cut, which
-- leave waste of no width.
round_a_hole : List Rect
round_a_hole = rect 0 0 20 6 ∷ rect 0 9 6 17 ∷ rect 9 16 20 10 ∷ rect 23 0 77 9 ∷ []

left_over : List Rect
left_over =
    rect 9 9 11 4 ∷ rect 32 16 0 10 ∷ rect 23 12 65 1 ∷ rect 91 12 0 2 ∷ rect 94 12 0 5 ∷ rect 97 12 0 8 ∷ rect 100 12 0 11 ∷ []

reaching : List NodeIn
reaching =
    cut_node 1 20 (rect 0 0 100 26)
    ∷ cut_node 0 6 (rect 0 0 20 26) ∷ piece_leaf 7 (rect 0 0 20 6)
    ∷ cut_node 1 6 (rect 0 9 20 17) ∷ piece_leaf 8 (rect 0 9 6 17)
    ∷ cut_node 0 4 (rect 9 9 11 17) ∷ waste_leaf (rect 9 9 11 4)
    ∷ cut_node 1 20 (rect 9 16 11 10) ∷ piece_leaf 9 (rect 9 16 20 10) ∷ waste_leaf (rect 32 16 0 10)
    ∷ cut_node 0 9 (rect 23 0 77 26) ∷ piece_leaf 10 (rect 23 0 77 9)
    ∷ cut_node 1 74 (rect 23 12 74 11) ∷ cut_node 1 71 (rect 23 12 71 8) ∷ cut_node 1 68 (rect 23 12 68 5) ∷ cut_node 1 65 (rect 23 12 65 2)
    ∷ waste_leaf (rect 23 12 65 1) ∷ waste_leaf (rect 91 12 0 2) ∷ waste_leaf (rect 94 12 0 5) ∷ waste_leaf (rect 97 12 0 8) ∷ waste_leaf (rect 100 12 0 11)
    ∷ []

-- they are one tree, its leaves are the panels and the waste, and these lie a kerf apart
reaching_leaves : (one_tree reaching ≡ true)
    × (map (λ e. e.0) (piece_leaves_in reaching) ≡ round_a_hole)
    × (waste_leaves_in reaching ≡ left_over)
    × (pairwise (kerf_apart 3) (round_a_hole ++ left_over) ≡ true)
unfolding judge reaching round_a_hole left_over cut_node piece_leaf waste_leaf
reaching_leaves = (refl, refl, refl, refl)

-- and no guide
no_guide_reaches : fills_parts 3 (rect 0 0 100 26 ∷ []) reaching ≡ false
unfolding judge reaching cut_node piece_leaf waste_leaf
no_guide_reaches = refl
