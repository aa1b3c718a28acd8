use Rattle.std.proofs.Common.{◌∙◌, ap, ◌≡◌, ◌-◌, ◌*◌, slice_index, arith}
use Rattle.luo_num.specs.Mark.{capped}
use Rattle.luo_model.specs.View.{plain_of}
use Rattle.luo_places.specs.Tails.{first_node}
use Rattle.luo_rank.specs.inner.Lookup.{tail_at, entry_of}
use Rattle.luo_rank.proofs.StepLemmas.{few_left, next_stands, first_there, next_top}
use Rattle.luo_rank.proofs.ShareLemmas.{next_spread, rest_as, share_rank, found_some, shared, both_marked}
use Rattle.luo_rank.proofs.shares.share_first.Goals as goal

pub size_at-found-requires-clause-rank : goal.size_at-found-requires-clause-rank
size_at-found-requires-clause-rank c = share_rank c.args.tables.now c.requires.tables.base c.args.x c.args.f c.args.n c.args.rank c.requires.size c.requires.spread c.requires.left c.requires.rank

pub overflow_add-f : goal.overflow_add-f
overflow_add-f c = omega (arith, few_left c.args.tables.now c.requires.tables.base c.args.x c.args.f c.args.n c.requires.stands)

pub rest-behind-requires-clause-spread : goal.rest-behind-requires-clause-spread
rest-behind-requires-clause-spread c = next_spread c.args.tables.now c.args.x c.args.f c.requires.spread

pub rest-behind-requires-clause-within : goal.rest-behind-requires-clause-within
rest-behind-requires-clause-within c = next_top c.args.tables.now c.args.x c.args.f c.args.n c.requires.stands c.requires.left

pub bounds-behind-n : goal.bounds-behind-n
bounds-behind-n c =
    let t = c.args.tables.now in
    let g = c.size_at-found.result.group in
    let stands = next_stands t c.requires.tables.base c.args.x c.args.f c.args.n g 0 c.requires.stands c.requires.left (omega (arith, c.size_at-found.ensures.there))
    (found_some t c.requires.tables.base c.args.x c.args.f c.args.n c.args.rank c.requires.size c.requires.spread c.requires.left c.requires.rank g c.size_at-found.result.rest c.size_at-found.ensures) in
    let read = c.rest-behind.ensures (c.args.n - g) stands (omega (arith, c.requires.size)) in
    let value = slice_index c.rest-behind.result.now (c.args.n - g) in
    let width = rest_as t c.args.x c.args.f (c.args.n - g) value read.1 in
    read.0

pub nonzero_rem-within : goal.nonzero_rem-within
nonzero_rem-within c =
    let t = c.args.tables.now in
    let g = c.size_at-found.result.group in
    let tail = tail_at (plain_of t.program) c.args.x c.args.f in
    let stands = next_stands t c.requires.tables.base c.args.x c.args.f c.args.n g 0 c.requires.stands c.requires.left (omega (arith, c.size_at-found.ensures.there))
    (found_some t c.requires.tables.base c.args.x c.args.f c.args.n c.args.rank c.requires.size c.requires.spread c.requires.left c.requires.rank g c.size_at-found.result.rest c.size_at-found.ensures) in
    let read = c.rest-behind.ensures (c.args.n - g) stands (omega (arith, c.requires.size)) in
    let value = slice_index c.rest-behind.result.now (c.args.n - g) in
    let width = rest_as t c.args.x c.args.f (c.args.n - g) value read.1 in
    let first : c.entry.result ≡ entry_of t.counts (first_node tail) g = c.entry.ensures ∙ ap (λ y. entry_of t.counts y g) c.first_node.ensures.first in
    let there = first_there t c.requires.tables.base c.args.x c.args.f c.args.n c.requires.stands c.requires.left in
    let few = c.requires.tables.base.small (first_node tail) g there (omega (arith, c.size_at-found.ensures.there, c.requires.size)) in
    let both = both_marked (entry_of t.counts (first_node tail) g) _ value c.marked_mul-both.result width (c.marked_mul-both.ensures ∙ ap (λ v. capped (v * value)) first) few in
    (shared t c.requires.tables.base c.args.x c.args.f c.args.n c.args.rank c.requires.size c.requires.spread c.requires.left c.requires.rank g c.size_at-found.result.rest value c.marked_mul-both.result c.size_at-found.ensures c.requires.small width both).both_some

pub nonzero_div-result : goal.nonzero_div-result
nonzero_div-result c =
    let t = c.args.tables.now in
    let g = c.size_at-found.result.group in
    let tail = tail_at (plain_of t.program) c.args.x c.args.f in
    let stands = next_stands t c.requires.tables.base c.args.x c.args.f c.args.n g 0 c.requires.stands c.requires.left (omega (arith, c.size_at-found.ensures.there))
    (found_some t c.requires.tables.base c.args.x c.args.f c.args.n c.args.rank c.requires.size c.requires.spread c.requires.left c.requires.rank g c.size_at-found.result.rest c.size_at-found.ensures) in
    let read = c.rest-behind.ensures (c.args.n - g) stands (omega (arith, c.requires.size)) in
    let value = slice_index c.rest-behind.result.now (c.args.n - g) in
    let width = rest_as t c.args.x c.args.f (c.args.n - g) value read.1 in
    let first : c.entry.result ≡ entry_of t.counts (first_node tail) g = c.entry.ensures ∙ ap (λ y. entry_of t.counts y g) c.first_node.ensures.first in
    let there = first_there t c.requires.tables.base c.args.x c.args.f c.args.n c.requires.stands c.requires.left in
    let few = c.requires.tables.base.small (first_node tail) g there (omega (arith, c.size_at-found.ensures.there, c.requires.size)) in
    let both = both_marked (entry_of t.counts (first_node tail) g) _ value c.marked_mul-both.result width (c.marked_mul-both.ensures ∙ ap (λ v. capped (v * value)) first) few in
    (shared t c.requires.tables.base c.args.x c.args.f c.args.n c.args.rank c.requires.size c.requires.spread c.requires.left c.requires.rank g c.size_at-found.result.rest value c.marked_mul-both.result c.size_at-found.ensures c.requires.small width both).both_some

pub nonzero_div-result-2 : goal.nonzero_div-result-2
nonzero_div-result-2 c =
    let t = c.args.tables.now in
    let g = c.size_at-found.result.group in
    let tail = tail_at (plain_of t.program) c.args.x c.args.f in
    let stands = next_stands t c.requires.tables.base c.args.x c.args.f c.args.n g 0 c.requires.stands c.requires.left (omega (arith, c.size_at-found.ensures.there))
    (found_some t c.requires.tables.base c.args.x c.args.f c.args.n c.args.rank c.requires.size c.requires.spread c.requires.left c.requires.rank g c.size_at-found.result.rest c.size_at-found.ensures) in
    let read = c.rest-behind.ensures (c.args.n - g) stands (omega (arith, c.requires.size)) in
    let value = slice_index c.rest-behind.result.now (c.args.n - g) in
    let width = rest_as t c.args.x c.args.f (c.args.n - g) value read.1 in
    let first : c.entry.result ≡ entry_of t.counts (first_node tail) g = c.entry.ensures ∙ ap (λ y. entry_of t.counts y g) c.first_node.ensures.first in
    let there = first_there t c.requires.tables.base c.args.x c.args.f c.args.n c.requires.stands c.requires.left in
    let few = c.requires.tables.base.small (first_node tail) g there (omega (arith, c.size_at-found.ensures.there, c.requires.size)) in
    let both = both_marked (entry_of t.counts (first_node tail) g) _ value c.marked_mul-both.result width (c.marked_mul-both.ensures ∙ ap (λ v. capped (v * value)) first) few in
    (shared t c.requires.tables.base c.args.x c.args.f c.args.n c.args.rank c.requires.size c.requires.spread c.requires.left c.requires.rank g c.size_at-found.result.rest value c.marked_mul-both.result c.size_at-found.ensures c.requires.small width both).width_some

pub nonzero_rem-result : goal.nonzero_rem-result
nonzero_rem-result c =
    let t = c.args.tables.now in
    let g = c.size_at-found.result.group in
    let tail = tail_at (plain_of t.program) c.args.x c.args.f in
    let stands = next_stands t c.requires.tables.base c.args.x c.args.f c.args.n g 0 c.requires.stands c.requires.left (omega (arith, c.size_at-found.ensures.there))
    (found_some t c.requires.tables.base c.args.x c.args.f c.args.n c.args.rank c.requires.size c.requires.spread c.requires.left c.requires.rank g c.size_at-found.result.rest c.size_at-found.ensures) in
    let read = c.rest-behind.ensures (c.args.n - g) stands (omega (arith, c.requires.size)) in
    let value = slice_index c.rest-behind.result.now (c.args.n - g) in
    let width = rest_as t c.args.x c.args.f (c.args.n - g) value read.1 in
    let first : c.entry.result ≡ entry_of t.counts (first_node tail) g = c.entry.ensures ∙ ap (λ y. entry_of t.counts y g) c.first_node.ensures.first in
    let there = first_there t c.requires.tables.base c.args.x c.args.f c.args.n c.requires.stands c.requires.left in
    let few = c.requires.tables.base.small (first_node tail) g there (omega (arith, c.size_at-found.ensures.there, c.requires.size)) in
    let both = both_marked (entry_of t.counts (first_node tail) g) _ value c.marked_mul-both.result width (c.marked_mul-both.ensures ∙ ap (λ v. capped (v * value)) first) few in
    (shared t c.requires.tables.base c.args.x c.args.f c.args.n c.args.rank c.requires.size c.requires.spread c.requires.left c.requires.rank g c.size_at-found.result.rest value c.marked_mul-both.result c.size_at-found.ensures c.requires.small width both).width_some

pub returns-clause-first : goal.returns-clause-first
returns-clause-first c =
    let t = c.args.tables.now in
    let g = c.size_at-found.result.group in
    let tail = tail_at (plain_of t.program) c.args.x c.args.f in
    let stands = next_stands t c.requires.tables.base c.args.x c.args.f c.args.n g 0 c.requires.stands c.requires.left (omega (arith, c.size_at-found.ensures.there))
    (found_some t c.requires.tables.base c.args.x c.args.f c.args.n c.args.rank c.requires.size c.requires.spread c.requires.left c.requires.rank g c.size_at-found.result.rest c.size_at-found.ensures) in
    let read = c.rest-behind.ensures (c.args.n - g) stands (omega (arith, c.requires.size)) in
    let value = slice_index c.rest-behind.result.now (c.args.n - g) in
    let width = rest_as t c.args.x c.args.f (c.args.n - g) value read.1 in
    let first : c.entry.result ≡ entry_of t.counts (first_node tail) g = c.entry.ensures ∙ ap (λ y. entry_of t.counts y g) c.first_node.ensures.first in
    let there = first_there t c.requires.tables.base c.args.x c.args.f c.args.n c.requires.stands c.requires.left in
    let few = c.requires.tables.base.small (first_node tail) g there (omega (arith, c.size_at-found.ensures.there, c.requires.size)) in
    let both = both_marked (entry_of t.counts (first_node tail) g) _ value c.marked_mul-both.result width (c.marked_mul-both.ensures ∙ ap (λ v. capped (v * value)) first) few in
    (shared t c.requires.tables.base c.args.x c.args.f c.args.n c.args.rank c.requires.size c.requires.spread c.requires.left c.requires.rank g c.size_at-found.result.rest value c.marked_mul-both.result c.size_at-found.ensures c.requires.small width both).first

pub returns-clause-small : goal.returns-clause-small
returns-clause-small c =
    let t = c.args.tables.now in
    let g = c.size_at-found.result.group in
    let tail = tail_at (plain_of t.program) c.args.x c.args.f in
    let stands = next_stands t c.requires.tables.base c.args.x c.args.f c.args.n g 0 c.requires.stands c.requires.left (omega (arith, c.size_at-found.ensures.there))
    (found_some t c.requires.tables.base c.args.x c.args.f c.args.n c.args.rank c.requires.size c.requires.spread c.requires.left c.requires.rank g c.size_at-found.result.rest c.size_at-found.ensures) in
    let read = c.rest-behind.ensures (c.args.n - g) stands (omega (arith, c.requires.size)) in
    let value = slice_index c.rest-behind.result.now (c.args.n - g) in
    let width = rest_as t c.args.x c.args.f (c.args.n - g) value read.1 in
    let first : c.entry.result ≡ entry_of t.counts (first_node tail) g = c.entry.ensures ∙ ap (λ y. entry_of t.counts y g) c.first_node.ensures.first in
    let there = first_there t c.requires.tables.base c.args.x c.args.f c.args.n c.requires.stands c.requires.left in
    let few = c.requires.tables.base.small (first_node tail) g there (omega (arith, c.size_at-found.ensures.there, c.requires.size)) in
    let both = both_marked (entry_of t.counts (first_node tail) g) _ value c.marked_mul-both.result width (c.marked_mul-both.ensures ∙ ap (λ v. capped (v * value)) first) few in
    (shared t c.requires.tables.base c.args.x c.args.f c.args.n c.args.rank c.requires.size c.requires.spread c.requires.left c.requires.rank g c.size_at-found.result.rest value c.marked_mul-both.result c.size_at-found.ensures c.requires.small width both).small
