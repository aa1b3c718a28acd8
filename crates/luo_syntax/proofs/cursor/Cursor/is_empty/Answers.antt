use Rattle.luo_syntax.proofs.Lexemes.{some_lexemes}
use Rattle.luo_syntax.proofs.cursor.Cursor.is_empty.Goals as goal

pub returns-in-len1-up : goal.returns-in-len1-up
returns-in-len1-up c = some_lexemes _ _ _ c.self.view_is c.in-len1-up.len_at_least
