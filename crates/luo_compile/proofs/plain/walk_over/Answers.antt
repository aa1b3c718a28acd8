use Rattle.std.proofs.Common.{sym, ◌∙◌}
use Rattle.luo_compile.proofs.CodeLemmas.{no_walk, some_walk}
use Rattle.luo_compile.proofs.plain.walk_over.Goals as goal

pub returns-then-is_nothing : goal.returns-then-is_nothing
returns-then-is_nothing c = no_walk c.args.kind c.args.inner c.args.low c.args.high c.args.marked (sym c.is_nothing.ensures ∙ c.if-is_nothing.true)

pub returns : goal.returns
returns c = some_walk c.args.kind c.args.inner c.in_ok-new.field-0 c.args.low c.args.high c.args.marked c.in_ok-new-2.field-0 (sym c.is_nothing.ensures
    ∙ c.if-is_nothing.false) c.in_ok-new.ensures c.in_ok-new-2.ensures
