-- The number of a refusal.
use Rattle.std.specs.Prelude.{ℕ, Result, Ok, Err}
use Rattle.std.proofs.Math.Option.{Option, none, some}
use Rattle.project.specs.declared.Refusal.{Refusal}

abbrev pub refusal_number : Refusal → ℕ
refusal_number Refusal.TooSmallMemory = 1
refusal_number Refusal.NotWellFormed = 2
refusal_number Refusal.BadSettings = 3
refusal_number Refusal.LargeKerf = 4
refusal_number Refusal.BadCodes = 5
refusal_number Refusal.ZeroSide = 6
refusal_number Refusal.LargeSide = 7
refusal_number Refusal.UnlimitedStock = 8
refusal_number Refusal.RepeatedId = 9
refusal_number Refusal.TooManyStockInstances = 10
refusal_number Refusal.ZeroQuantity = 11
refusal_number Refusal.TooManyCutInstances = 12
refusal_number Refusal.NoStock = 13
refusal_number Refusal.NestedLayout = 14
refusal_number Refusal.CutFitsNoStock = 15
refusal_number Refusal.CutAreaTooLarge = 16
refusal_number Refusal.NoCandidate = 17

-- the number of the refusal, if there is one
abbrev pub refusal_of : {A : Type 0} → Result A Refusal → Option ℕ
refusal_of (Ok a) = none
refusal_of (Err r) = some (refusal_number r)
