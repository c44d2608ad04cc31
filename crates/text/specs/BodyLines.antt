-- The lines of a body's pieces, waste and nodes, by where each is in the body.
use Rattle.std.specs.Prelude.{ℕ, ◌+◌, List, take, drop}
use Rattle.model.specs.Plan.{sheet_part}
use Rattle.trust.specs.Words.{word, piece_in, waste_in, node_in, sheet_in, piece_size, waste_size, node_size}
use Rattle.text.specs.PlanText.{field, piece_line, waste_line, node_line, sheet_text}

-- the word k places behind one, as a field
unfoldable pub field_at : List ℕ → ℕ → ℕ → List ℕ
field_at words from k = field (word words (from + k))

unfoldable pub piece_at : List ℕ → ℕ → List ℕ
piece_at body at = piece_line (piece_in (take piece_size (drop at body)))

unfoldable pub waste_at : List ℕ → ℕ → List ℕ
waste_at body at = waste_line (waste_in (take waste_size (drop at body)))

unfoldable pub node_at : List ℕ → ℕ → List ℕ
node_at body at = node_line (node_in (take node_size (drop at body)))

-- sheet k of a plan
unfoldable pub sheet_at : List ℕ → ℕ → List ℕ
sheet_at words k = sheet_text (sheet_in (sheet_part words k))
