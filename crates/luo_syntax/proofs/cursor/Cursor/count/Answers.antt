use Rattle.std.proofs.Common.{length, sym, ap, ◌∙◌}
use Rattle.luo_syntax.proofs.Lexemes.{as_many}
use Rattle.luo_syntax.proofs.cursor.Cursor.count.Goals as goal

pub returns : goal.returns
returns c = sym (sym (ap length c.self.view_is) ∙ as_many _ _ _)
