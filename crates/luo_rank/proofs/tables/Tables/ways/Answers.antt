use Rattle.std.proofs.Common.{sym, ◌∙◌, ◌≡◌, arith, true, false}
use Rattle.luo_model.specs.View.{plain_of}
use Rattle.luo_rank.specs.inner.Lookup.{tail_at}
use Rattle.luo_rank.proofs.ShareLemmas.{ways_plain, ways_least}
use Rattle.luo_rank.proofs.tables.Tables.ways.Goals as goal

pub returns-then-not-is_led : goal.returns-then-not-is_led
returns-then-not-is_led c =
    ways_plain c.args.self.now.program.universe (tail_at (plain_of c.args.self.now.program) c.args.x c.args.f) c.args.n c.args.k c.marked.result (sym c.universe.ensures ∙ c.in-Labelled.is)
    (λ d. let q : false ≡ true = sym c.if-not-is_led.true ∙ c.is_led.ensures.1 d in cc) (omega (arith, c.requires.size, c.requires.tables.few)) c.marked.ensures

pub returns-else-k-eq0 : goal.returns-else-k-eq0
returns-else-k-eq0 c =
    ways_least c.args.self.now.program.universe (tail_at (plain_of c.args.self.now.program) c.args.x c.args.f) c.args.n c.args.k c.marked-else-k-eq0.result (sym c.universe.ensures ∙ c.in-Labelled.is)
    (c.is_led.ensures.0 c.if-not-is_led.false) (omega (arith, c.requires.size, c.requires.tables.few)) (λ e. c.if-k-eq0.false e) c.marked-else-k-eq0.ensures
