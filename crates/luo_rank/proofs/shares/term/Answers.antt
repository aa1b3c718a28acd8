use Rattle.std.proofs.Common.{◌≡◌, ◌*◌, ◌-◌, ◌<◌, slice_index, ◌∙◌, ap, subst, arith}
use Rattle.luo_model.specs.View.{plain_of}
use Rattle.luo_num.specs.Mark.{capped}
use Rattle.luo_places.specs.Tails.{first_node, behind_first, tail_count, head_ways}
use Rattle.luo_rank.specs.inner.Lookup.{entry_of, tail_at}
use Rattle.luo_rank.proofs.StepLemmas.{next_stands, first_there}
use Rattle.luo_rank.proofs.ShareLemmas.{term_marked, ways_small, rest_as, some_left}
use Rattle.luo_rank.proofs.shares.term.Goals as goal

pub bounds-behind-n : goal.bounds-behind-n
bounds-behind-n c =
    let stands = next_stands c.args.tables.now c.requires.tables c.args.x c.args.f c.args.n c.args.k 0 c.requires.stands c.requires.left c.requires.within
    (subst (λ y. 0 < entry_of c.args.tables.now.counts y c.args.k) c.first_node.ensures.first (subst (λ v. 0 < v) c.entry-first.ensures (some_left c.entry-first.result (λ e. c.if-first-eq0.false e)))) in
    let read = c.requires.behind (c.args.n - c.args.k) stands (omega (arith, c.requires.size)) in
    read.0

pub returns-else-first-eq0 : goal.returns-else-first-eq0
returns-else-first-eq0 c =
    let t = c.args.tables.now in
    let tail = tail_at (plain_of t.program) c.args.x c.args.f in
    let first : c.entry-first.result ≡ entry_of t.counts (first_node tail) c.args.k = c.entry-first.ensures ∙ ap (λ y. entry_of t.counts y c.args.k) c.first_node.ensures.first in
    let stands = next_stands c.args.tables.now c.requires.tables c.args.x c.args.f c.args.n c.args.k 0 c.requires.stands c.requires.left c.requires.within
    (subst (λ y. 0 < entry_of c.args.tables.now.counts y c.args.k) c.first_node.ensures.first (subst (λ v. 0 < v) c.entry-first.ensures (some_left c.entry-first.result (λ e. c.if-first-eq0.false e)))) in
    let read = c.requires.behind (c.args.n - c.args.k) stands (omega (arith, c.requires.size)) in
    let value = slice_index c.args.behind.now (c.args.n - c.args.k) in
    term_marked (entry_of t.counts (first_node tail) c.args.k) (tail_count t.program.universe (entry_of t.counts) (behind_first tail) (c.args.n - c.args.k)) (head_ways t.program.universe tail c.args.n c.args.k) value c.marked_mul-both.result c.marked_mul.result
    (rest_as t c.args.x c.args.f (c.args.n - c.args.k) value read.1)
    (c.marked_mul-both.ensures ∙ ap (λ v. capped (v * value)) first)
    (c.marked_mul.ensures ∙ ap (λ v. capped (c.marked_mul-both.result * v)) c.ways.ensures)
    (c.requires.tables.small (first_node tail) c.args.k (first_there t c.requires.tables c.args.x c.args.f c.args.n c.requires.stands c.requires.left) (omega (arith, c.requires.within, c.requires.size)))
    (ways_small t.program.universe tail c.args.n c.args.k (omega (arith, c.requires.size, c.requires.tables.few)))
