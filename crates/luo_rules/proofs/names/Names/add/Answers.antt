use Rattle.std.proofs.Common.{◌≡◌, None, sym, ◌∙◌}
use Rattle.luo_rules.specs.Meanings.{meaning}
use Rattle.luo_rules.proofs.NameLemmas.{added, not_some}
use Rattle.luo_rules.proofs.names.Names.add.Goals as goal

pub returns-in_ok-insert : goal.returns-in_ok-insert
returns-in_ok-insert c =
    let none : meaning c.args.self.now c.args.name.now ≡ None = sym c.meaning.ensures ∙ not_some c.meaning.result c.if-is_none.ensures in
    added c.self.inside.known c.insert.new.self c.args.self.now c.in_ok-key.key c.args.name.now c.args.what c.self.view_is c.in_ok-key.ensures.items none c.in_ok-insert.ensures.entries
