-- The ★ cases, proved together: the definition answers every file of the table as the table does.
-- (Written by tools/write_tables.py; the answers are the Rust's.)
use Rattle.std.specs.Prelude.{◌≡◌, refl, [], ◌∷◌, map}
use Rattle.model.specs.Answer.{answer}
use Rattle.model.specs.Evaluate.{evaluate}
use Rattle.model.specs.FileOf.{file}
use Rattle.model.specs.Stars.{cases, limits, verdict, accounts, star4}

pub stars : (map (λ c. answer c.0) cases ≡ map (λ c. c.1) cases)
    × (map (λ c. verdict (answer c.0)) limits ≡ map (λ c. c.1) limits)
    × (accounts star4 ≡ (540, 76) ∷ [])
unfolding evaluate cases file limits accounts star4
stars = (refl, refl, refl)
