-- `line_words::digits` meets its contract: the digits that are left make the number of the word.
use Rattle.std.proofs.Common.{◌≡◌, drop}
use Rattle.typed.specs.Words.{read_digits}
use Rattle.typed.proofs.line_words.digits.Given as goal

abbrev pub invariant-loop-byte : goal.invariant-loop-byte
invariant-loop-byte l = read_digits l.most 0 l.word ≡ read_digits l.most l.number (drop l.byte-index l.word)
