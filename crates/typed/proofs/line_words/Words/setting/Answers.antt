-- `line_words::Words::setting` meets its contract, a field for each setting.
use Rattle.typed.proofs.line_words.Words.setting.Goals as goal

pub returns-in-Layout : goal.returns-in-Layout
returns-in-Layout c = rw c.in-Layout.is c.choice.ensures

pub returns-in-Effort : goal.returns-in-Effort
returns-in-Effort c = rw c.in-Effort.is c.choice-in-Effort.ensures
