-- `plan_words::put_nodes`: the words of the nodes so far are written.
use Rattle.std.proofs.Common.{◌≡◌, take}
use Rattle.lists.specs.Base.{concat_map}
use Rattle.lists.specs.Parts.{patch}
use Rattle.guide.specs.Nodes.{words_of}
use Rattle.plan.proofs.plan_words.put_nodes.Given as goal

abbrev pub invariant-loop-index : goal.invariant-loop-index
invariant-loop-index l = l.plan ≡ patch l.initial.plan l.at (concat_map words_of (take l.index l.nodes))
