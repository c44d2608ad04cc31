-- The bounds that the laws of this crate show, by name: of a sheet, of a candidate, of a plan and of the search.
use Rattle.std.specs.Prelude.{ℕ, ◌+◌, ◌*◌, min}

-- a rectangle's start, side and kerf together
abbrev pub most_edge : ℕ
most_edge = 2_000_000

-- the area of a rectangle, and that of all boards or all panels
abbrev pub most_area : ℕ
most_area = 1_000_000_000_000

abbrev pub most_areas : ℕ
most_areas = 64_000_000_000_000

-- of one sheet
abbrev pub most_pieces : ℕ
most_pieces = 64

abbrev pub most_waste : ℕ
most_waste = 65

abbrev pub most_nodes : ℕ
most_nodes = 257

-- the free rectangles of all sheets of a candidate
abbrev pub most_free : ℕ
most_free = 128

-- the words of a plan for so many panels and boards, and of any plan
abbrev pub plan_limit : ℕ → ℕ → ℕ
plan_limit panels boards = 4 + 45 * panels + 24 * min panels boards

abbrev pub most_plan : ℕ
most_plan = 4_420

-- candidates before and after a generation, and within one
abbrev pub most_population : ℕ
most_population = 32

abbrev pub most_candidates : ℕ
most_candidates = 48
