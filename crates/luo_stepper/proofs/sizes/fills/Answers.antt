use Rattle.std.proofs.Common.{◌≡◌, ◌≤◌, ◌-◌, arith, refl, true, false, slice_index_or}
use Rattle.luo_model.specs.View.{plain_of}
use Rattle.luo_rank.proofs.StepLemmas.{few_left, next_top}
use Rattle.luo_rank.proofs.ShareLemmas.{next_spread}
use Rattle.luo_stepper.proofs.SizeLemmas.{next_stands_by, fills_told, none_fills}
use Rattle.luo_stepper.proofs.sizes.fills.Goals as goal

pub overflow_add-f : goal.overflow_add-f
overflow_add-f c = omega (arith, few_left c.args.tables.now c.requires.tables.base c.args.x c.args.f c.args.n c.requires.stands)

pub rest-row-requires-clause-spread : goal.rest-row-requires-clause-spread
rest-row-requires-clause-spread c = next_spread c.args.tables.now c.args.x c.args.f c.requires.spread

pub rest-row-requires-clause-within : goal.rest-row-requires-clause-within
rest-row-requires-clause-within c = next_top c.args.tables.now c.args.x c.args.f c.args.n c.requires.stands c.requires.left

pub bounds-row-n : goal.bounds-row-n
bounds-row-n c = (c.rest-row.ensures (c.args.n - c.args.k)
    (next_stands_by (plain_of c.args.tables.now.program) c.args.x c.args.f c.args.n c.args.k c.args.tables.now.last c.requires.stands c.requires.left c.requires.some c.requires.within)
    (let q : c.args.n - c.args.k ≤ c.args.tables.now.last = omega (arith, c.requires.size) in q)).0

pub returns-then-row-n-eq0 : goal.returns-then-row-n-eq0
returns-then-row-n-eq0 c = (
  (λ h. absurd (let q : false ≡ true = h in cc)),
  λ h. absurd (none_fills c.args.tables.now c.args.x c.args.f c.args.n c.args.node c.args.k c.entry.result (slice_index_or c.rest-row.result.now (c.args.n - c.args.k) 0) c.requires.first c.requires.within
      (c.rest-row.ensures (c.args.n - c.args.k)
      (next_stands_by (plain_of c.args.tables.now.program) c.args.x c.args.f c.args.n c.args.k c.args.tables.now.last c.requires.stands c.requires.left c.requires.some c.requires.within)
      (let q : c.args.n - c.args.k ≤ c.args.tables.now.last = omega (arith, c.requires.size) in q)).1 c.if-row-n-eq0.true h),
)

pub returns : goal.returns
returns c = (
  (λ h. fills_told c.args.tables.now c.args.x c.args.f c.args.n c.args.node c.args.k c.entry.result (slice_index_or c.rest-row.result.now (c.args.n - c.args.k) 0) c.requires.first c.requires.within
      (c.rest-row.ensures (c.args.n - c.args.k)
      (next_stands_by (plain_of c.args.tables.now.program) c.args.x c.args.f c.args.n c.args.k c.args.tables.now.last c.requires.stands c.requires.left c.requires.some c.requires.within)
      (let q : c.args.n - c.args.k ≤ c.args.tables.now.last = omega (arith, c.requires.size) in q)).1 c.entry.ensures c.if-entry-eq0.false c.if-row-n-eq0.false),
  λ h. refl,
)
