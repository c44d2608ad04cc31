-- Plans of all three efforts, each with something that decides it, proved by computation.
-- (Written by tools/write_tables.py; the answers are the Rust's.)
use Rattle.std.specs.Prelude.{◌≡◌, refl, map}
use Rattle.model.specs.Answer.{answer}
use Rattle.model.specs.Evaluate.{evaluate}
use Rattle.model.specs.FileOf.{file}
use Rattle.model.specs.Stars.{cases}
use Rattle.model.specs.Plans.{decided}
use Rattle.model.proofs.Stars.{stars}

-- the ★ cases and these
pub plans : (map (λ c. answer c.0) cases ≡ map (λ c. c.1) cases) × (map (λ c. answer c.0) decided ≡ map (λ c. c.1) decided)
unfolding evaluate decided file
plans = (stars.0, refl)
