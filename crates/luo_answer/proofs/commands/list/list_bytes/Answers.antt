use Rattle.std.proofs.Common.{◌≡◌, ◌+◌, ◌-◌, min, sym, subst, ◌∙◌, arith}
use Rattle.luo_model.specs.Tables.{IsCount}
use Rattle.luo_model.specs.View.{plain_of}
use Rattle.luo_answer.proofs.ListedLines.{shown_from}
use Rattle.luo_answer.proofs.commands.list.list_bytes.Goals as goal

pub returns : goal.returns
returns c =
    let made = c.in_ok-ranker.ensures.made in
    let first = c.min-first.result in
    let many = c.from-2.result in
    let more : many ≡ min (c.count-count.result - first) c.args.most = omega (arith, c.from-2.ensures, c.min-many.ensures, c.from.ensures, c.ranges.most.fits) in
    let span : c.new-cursor.result ≡ record { program = c.args.ranks.now; node = c.args.node; size = c.args.size; place = first; end = first + many } =
    c.new-cursor.ensures ∙ (λ i. record { program = made.0 i; node = made.1 i; size = made.2 i; place = first; end = first + many }) in
    shown_from (λ text. text.items) c.lines-text.result c.args.ranks.now c.args.node c.args.size c.count-count.result c.args.start c.args.most first many c.new-cursor.result
    (subst (IsCount (plain_of c.args.ranks.now) c.args.node c.args.size) (sym c.count-count.ensures.same) c.in_ok-ranker.ensures.count)
    c.count-count.ensures.small c.min-first.ensures more span c.lines-text.ensures
