-- The instances of a record.
use Rattle.std.specs.Prelude.{ℕ, List, map, eqb}
use Rattle.lists.specs.Base.{range}
use Rattle.model.specs.declared.StockInstance.{StockInstance}
use Rattle.model.specs.declared.CutInstance.{CutInstance}
use Rattle.model.specs.Types.{pattern_of}
use Rattle.model.specs.Project.{Record}

-- number n of a record of boards, and of one of cuts
abbrev pub stock_instance : Record → ℕ → StockInstance
stock_instance p n =
    record { stock_id = p.id; instance = n; width = p.width; length = p.length; pattern = pattern_of p.pattern }

abbrev pub cut_instance : Record → ℕ → CutInstance
cut_instance p n =
    record { cut_id = p.id; instance = n; width = p.width; length = p.length; pattern = pattern_of p.pattern; can_rotate = eqb p.flag 1 }

-- all of a record
abbrev pub made_of : {T : Type 0} → (Record → ℕ → T) → Record → List T
made_of make p = map (make p) (range p.quantity)
