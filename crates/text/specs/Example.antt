-- The text of a plan of one board, and of one with no sheets, by computation.
use Rattle.std.specs.Prelude.{ℕ, ◌≡◌, refl, List, [], ◌∷◌}
use Rattle.lists.specs.Base.{concat_map, count_from}
use Rattle.model.specs.Plan.{sheet_part, part_of}
use Rattle.trust.specs.Words.{groups, key_at, rect_at, piece_in, waste_in, node_in, node_key, sheet_in, sheets_in}
use Rattle.words.specs.Ascii.{ascii}
use Rattle.words.specs.Numerals.{decimal_within, decimal_of, hex_digit, hex_digits}
use Rattle.text.specs.PlanText.{field, line, piece_line, waste_line, node_line, sheet_text, sheet_texts, first_line, plan_text}

-- ★1, fast
unfoldable pub star_words : List ℕ
star_words =
    1 ∷ 0 ∷ 0x3fe0_0000 ∷ 0
    ∷ 6 ∷ 47
    ∷ 1 ∷ 0 ∷ 0 ∷ 128 ∷ 64 ∷ 500 ∷ 64 ∷ 1 ∷ 1 ∷ 3
    ∷ 7 ∷ 0 ∷ 0 ∷ 0 ∷ 0 ∷ 64 ∷ 64 ∷ 0 ∷ 0
    ∷ 67 ∷ 0 ∷ 61 ∷ 64
    ∷ 0 ∷ 1 ∷ 64 ∷ 3 ∷ 0 ∷ 0 ∷ 128 ∷ 64
    ∷ 1 ∷ 7 ∷ 0 ∷ 0 ∷ 0 ∷ 0 ∷ 64 ∷ 64
    ∷ 2 ∷ 0 ∷ 0 ∷ 0 ∷ 67 ∷ 0 ∷ 61 ∷ 64 ∷ []

pub star : plan_text star_words
    ≡ ascii "plan 1 fitness 3FE0000000000000 layout 0\nsheet 1 0 128 64 500 64\npiece 7 0 0 0 64 64 0 0\nwaste 67 0 61 64\nguide 3\ncut 1 64 3 0 0 128 64\nleaf 7 0 0 0 64 64\nleaf waste 67 0 61 64\n"
unfolding star_words plan_text first_line sheet_texts sheet_text node_line waste_line piece_line line field decimal_of decimal_within hex_digits hex_digit sheets_in sheet_in node_key node_in waste_in piece_in rect_at key_at groups part_of sheet_part concat_map count_from
star = refl

pub no_sheets : plan_text (0 ∷ 0 ∷ 0x3ff0_0000 ∷ 1 ∷ []) ≡ ascii "plan 0 fitness 3FF0000000000000 layout 1\n"
unfolding plan_text first_line sheet_texts line field decimal_of decimal_within hex_digits hex_digit sheets_in concat_map count_from
no_sheets = refl
