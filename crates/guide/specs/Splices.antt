-- Nodes in the place of one, and what a cut puts before and behind others.
use Rattle.std.specs.Prelude.{ℕ, ◌+◌, List, [], ◌∷◌, ◌++◌, Option, None, Some, take, drop}
use Rattle.guide.specs.declared.subtree.Node.{Node}
use Rattle.guide.specs.declared.subtree.CutOff.{CutOff}

-- a list in which others take the place of one element
abbrev pub spliced : {A : Type 0} → List A → ℕ → List A → List A
spliced nodes at others = take at nodes ++ (others ++ drop (at + 1) nodes)

-- the two nodes of a cut, if there is one: it stands before what it cuts, and the remainder that it takes off behind
abbrev pub before_nodes : Option CutOff → List Node
before_nodes None = []
before_nodes (Some c) = c.cut ∷ []

abbrev pub after_nodes : Option CutOff → List Node
after_nodes None = []
after_nodes (Some c) = c.remainder ∷ []
