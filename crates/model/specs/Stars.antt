-- The ★ cases: files, and the answers that the Rust gives them. proofs/Stars shows that the definition gives the same.
-- (Written by tools/write_tables.py.)
use Rattle.std.specs.Prelude.{ℕ, List, [], ◌∷◌, map}
use Rattle.model.specs.Project.{project_of}
use Rattle.model.specs.Sheet.{new_sheet}
use Rattle.model.specs.Account.{account_from}
use Rattle.model.specs.Answer.{Answer, plan, refused, made_by}
use Rattle.model.specs.FileOf.{file}

unfoldable pub cases : List (List ℕ × Answer)
cases =
    -- ★1, stock 128×64, cut 64×64
    (
      file 3 0 0 ((1, 128, 64, 1, 0, 1) ∷ []) ((7, 64, 64, 1, 0, 0) ∷ []),
      plan (1 ∷ 0 ∷ 1071644672 ∷ 0
          ∷ 6 ∷ 47
          ∷ 1 ∷ 0 ∷ 0 ∷ 128 ∷ 64 ∷ 500 ∷ 64 ∷ 1 ∷ 1 ∷ 3
          ∷ 7 ∷ 0 ∷ 0 ∷ 0 ∷ 0 ∷ 64 ∷ 64 ∷ 0 ∷ 0
          ∷ 67 ∷ 0 ∷ 61 ∷ 64
          ∷ 0 ∷ 1 ∷ 64 ∷ 3 ∷ 0 ∷ 0 ∷ 128 ∷ 64
          ∷ 1 ∷ 7 ∷ 0 ∷ 0 ∷ 0 ∷ 0 ∷ 64 ∷ 64
          ∷ 2 ∷ 0 ∷ 0 ∷ 0 ∷ 67 ∷ 0 ∷ 61 ∷ 64 ∷ []),
    )
    -- ★2, cut 125×64: no waste
    ∷ (
      file 3 0 0 ((1, 128, 64, 1, 0, 1) ∷ []) ((7, 125, 64, 1, 0, 0) ∷ []),
      plan (1 ∷ 0 ∷ 1072644096 ∷ 0
          ∷ 6 ∷ 27
          ∷ 1 ∷ 0 ∷ 0 ∷ 128 ∷ 64 ∷ 976 ∷ 0 ∷ 1 ∷ 0 ∷ 1
          ∷ 7 ∷ 0 ∷ 0 ∷ 0 ∷ 0 ∷ 125 ∷ 64 ∷ 0 ∷ 0
          ∷ 1 ∷ 7 ∷ 0 ∷ 0 ∷ 0 ∷ 0 ∷ 125 ∷ 64 ∷ []),
    )
    -- ★3, cut 124×64: waste (127,0,1,64)
    ∷ (
      file 3 0 0 ((1, 128, 64, 1, 0, 1) ∷ []) ((7, 124, 64, 1, 0, 0) ∷ []),
      plan (1 ∷ 0 ∷ 1072627712 ∷ 0
          ∷ 6 ∷ 47
          ∷ 1 ∷ 0 ∷ 0 ∷ 128 ∷ 64 ∷ 968 ∷ 64 ∷ 1 ∷ 1 ∷ 3
          ∷ 7 ∷ 0 ∷ 0 ∷ 0 ∷ 0 ∷ 124 ∷ 64 ∷ 0 ∷ 0
          ∷ 127 ∷ 0 ∷ 1 ∷ 64
          ∷ 0 ∷ 1 ∷ 124 ∷ 3 ∷ 0 ∷ 0 ∷ 128 ∷ 64
          ∷ 1 ∷ 7 ∷ 0 ∷ 0 ∷ 0 ∷ 0 ∷ 124 ∷ 64
          ∷ 2 ∷ 0 ∷ 0 ∷ 0 ∷ 127 ∷ 0 ∷ 1 ∷ 64 ∷ []),
    )
    -- ★4, a merge: waste (62,0,38,72), (0,74,100,26), no guide
    ∷ (
      file 2 0 0 ((1, 100, 100, 1, 0, 1) ∷ []) ((7, 60, 40, 1, 0, 0) ∷ (8, 60, 30, 1, 0, 0) ∷ []),
      plan (1 ∷ 2920577761 ∷ 1071309127 ∷ 0
          ∷ 6 ∷ 36
          ∷ 1 ∷ 0 ∷ 0 ∷ 100 ∷ 100 ∷ 420 ∷ 0 ∷ 2 ∷ 2 ∷ 0
          ∷ 7 ∷ 0 ∷ 0 ∷ 0 ∷ 0 ∷ 60 ∷ 40 ∷ 0 ∷ 0
          ∷ 8 ∷ 0 ∷ 0 ∷ 0 ∷ 42 ∷ 60 ∷ 30 ∷ 0 ∷ 0
          ∷ 62 ∷ 0 ∷ 38 ∷ 72
          ∷ 0 ∷ 74 ∷ 100 ∷ 26 ∷ []),
    )
    -- ★5, no cuts: no sheets
    ∷ (
      file 3 0 0 ((1, 128, 64, 1, 0, 1) ∷ []) [],
      plan (0 ∷ 0 ∷ 1072693248 ∷ 0 ∷ []),
    )
    -- ★6, two cuts 10×10 on a board of that size
    ∷ (
      file 3 0 0 ((1, 10, 10, 1, 0, 1) ∷ []) ((7, 10, 10, 2, 0, 0) ∷ []),
      refused 16,
    )
    -- ★7, two cuts 6×6 on 10×10, kerf 0
    ∷ (
      file 0 0 0 ((1, 10, 10, 1, 0, 1) ∷ []) ((7, 6, 6, 1, 0, 0) ∷ (8, 6, 6, 1, 0, 0) ∷ []),
      refused 17,
    )
    -- ★8, turned to the board's grain
    ∷ (
      file 3 0 0 ((1, 20, 30, 1, 2, 1) ∷ []) ((7, 30, 20, 1, 1, 1) ∷ []),
      plan (1 ∷ 0 ∷ 1072693248 ∷ 0
          ∷ 6 ∷ 27
          ∷ 1 ∷ 0 ∷ 0 ∷ 20 ∷ 30 ∷ 1000 ∷ 0 ∷ 1 ∷ 0 ∷ 1
          ∷ 7 ∷ 0 ∷ 0 ∷ 0 ∷ 0 ∷ 20 ∷ 30 ∷ 2 ∷ 1
          ∷ 1 ∷ 7 ∷ 0 ∷ 0 ∷ 0 ∷ 0 ∷ 20 ∷ 30 ∷ []),
    )
    -- ★9, the same without turning
    ∷ (
      file 3 0 0 ((1, 20, 30, 1, 2, 1) ∷ []) ((7, 30, 20, 1, 1, 0) ∷ []),
      refused 15,
    )
    ∷ []

-- quantity 64 passes, 65 refuses: 0 for a plan, or the refusal
unfoldable pub limits : List (List ℕ × ℕ)
limits =
    (file 3 0 0 ((1, 128, 64, 64, 0, 1) ∷ []) ((7, 128, 64, 1, 0, 0) ∷ []), 0)
    ∷ (file 3 0 0 ((1, 128, 64, 65, 0, 1) ∷ []) ((7, 128, 64, 1, 0, 0) ∷ []), 10)
    ∷ (file 0 0 0 ((1, 64, 1, 1, 0, 1) ∷ []) ((7, 1, 1, 64, 0, 0) ∷ []), 0)
    ∷ (file 0 0 0 ((1, 65, 1, 1, 0, 1) ∷ []) ((7, 1, 1, 65, 0, 0) ∷ []), 12)
    ∷ []

abbrev pub verdict : Answer → ℕ
verdict (plan words) = 0
verdict (refused n) = n

-- ★4's splits took 540 and its merge gave 76 back: 4,200 of pieces, 5,336 of waste and 540 are 10,000 and 76
unfoldable pub accounts : List ℕ → List (ℕ × ℕ)
accounts bytes = map (λ m. account_from (project_of bytes).kerf (new_sheet m.0) m.1) (made_by bytes)

unfoldable pub star4 : List ℕ
star4 = file 2 0 0 ((1, 100, 100, 1, 0, 1) ∷ []) ((7, 60, 40, 1, 0, 0) ∷ (8, 60, 30, 1, 0, 0) ∷ [])
