use Rattle.std.proofs.Common.{◌∙◌}
use Rattle.luo_rules.proofs.NameLemmas.{meaning-known}
use Rattle.luo_rules.proofs.names.Names.meaning.Goals as goal

pub returns : goal.returns
returns c = c.copied.ensures ∙ c.get.ensures.value ∙ meaning-known c.self.inside.known c.args.self.now c.args.name.now c.self.view_is
