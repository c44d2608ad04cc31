-- Four words, of which two are the bits of 1.0.
use mathlib.Core.Path.{◌≡◌, refl}
use denote.Enum.Declared.{tag_of}
use Rattle.model.specs.declared.LayoutKind.{LayoutKind}
use Rattle.model.specs.contracts.LayoutKind as layout
use Rattle.model.specs.Types.{layout_code}
use Rattle.plan.proofs.Whole.{empty_written}
use Rattle.plan.proofs.empty_plan.Goals as goal

layout_number : (l : LayoutKind) → tag_of layout.the_type l ≡ layout_code l
layout_number LayoutKind.Guillotine = refl
layout_number LayoutKind.Nested = refl

pub returns : goal.returns
returns c = empty_written c.args.layout c.args.plan.now _ _ (layout_number c.args.layout) c.put_words.ensures
