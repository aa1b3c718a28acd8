use Rattle.std.proofs.Common.{◌≡◌, ◌≤◌, ℕ, suc, List, length, slice_index, sym, ◌∙◌, ap, subst, arith, true, false}
use Rattle.luo_model.specs.Program.{shape_of}
use Rattle.luo_model.specs.View.{plain_of}
use Rattle.luo_num.specs.declared.TheConstants.{MAX}
use Rattle.luo_rank.specs.inner.Lookup.{entry_of, ArePlanes, HasPlanes}
use Rattle.luo_rank.proofs.FillLemmas.{has_planes, no_planes, part_there}
use Rattle.luo_rank.proofs.MadeLemmas.{ok_into}
use Rattle.luo_rank.proofs.filling.node_planes.Goals as goal

pub row-requires : goal.row-requires
row-requires c = part_there c.args.tables.now c.requires.tables c.args.x c.in-Coll.kind c.in-Coll.part c.in-Coll.low c.in-Coll.high (sym c.shape.ensures ∙ c.in-Coll.is)

pub planes_of-requires-clause-bag : goal.planes_of-requires-clause-bag
planes_of-requires-clause-bag c = c.is_bag.ensures.0 c.if-is_bag.true

pub planes_of-requires-clause-few : goal.planes_of-requires-clause-few
planes_of-requires-clause-few c = omega (arith, c.last.ensures, c.requires.tables.few)

pub planes_of-requires-clause-long : goal.planes_of-requires-clause-long
planes_of-requires-clause-long c =
    omega (arith, c.last.ensures, ap length c.row.ensures, c.requires.tables.long c.in-Coll.part.node (part_there c.args.tables.now c.requires.tables c.args.x c.in-Coll.kind c.in-Coll.part c.in-Coll.low c.in-Coll.high (sym c.shape.ensures ∙ c.in-Coll.is)))

pub planes_of-requires-clause-small : goal.planes_of-requires-clause-small
planes_of-requires-clause-small c d l =
    subst (λ (r : List ℕ). slice_index r d ≤ MAX) (sym c.row.ensures) (c.requires.tables.small c.in-Coll.part.node d (part_there c.args.tables.now c.requires.tables c.args.x c.in-Coll.kind c.in-Coll.part c.in-Coll.low c.in-Coll.high (sym c.shape.ensures ∙ c.in-Coll.is)) (omega (arith, l, c.last.ensures)))

pub returns-then-is_bag : goal.returns-then-is_bag
returns-then-is_bag c =
    let t = c.args.tables.now in
    ok_into c.planes_of.result (ArePlanes c.in-Coll.kind (slice_index c.row.result.now) c.last.result (suc c.last.result)) (HasPlanes (entry_of t.counts) t.last (shape_of (plain_of t.program) c.args.x))
    (λ planes h. has_planes (entry_of t.counts) t.last (shape_of (plain_of t.program) c.args.x) c.in-Coll.kind c.in-Coll.part c.in-Coll.low c.in-Coll.high planes (sym c.shape.ensures ∙ c.in-Coll.is)
    (λ b. subst (λ n. ArePlanes c.in-Coll.kind (entry_of t.counts c.in-Coll.part.node) n (suc n) planes) c.last.ensures (subst (λ (r : List ℕ). ArePlanes c.in-Coll.kind (slice_index r) c.last.result (suc c.last.result) planes) c.row.ensures h))) c.planes_of.ensures

pub returns-else-is_bag : goal.returns-else-is_bag
returns-else-is_bag c =
    let t = c.args.tables.now in
    has_planes (entry_of t.counts) t.last (shape_of (plain_of t.program) c.args.x) c.in-Coll.kind c.in-Coll.part c.in-Coll.low c.in-Coll.high _ (sym c.shape.ensures ∙ c.in-Coll.is) (λ b. absurd (let o : false ≡ true = sym c.if-is_bag.false ∙ c.is_bag.ensures.1 b in cc))

pub returns-in_default : goal.returns-in_default
returns-in_default c = no_planes (entry_of c.args.tables.now.counts) c.args.tables.now.last c.shape.result.now (shape_of (plain_of c.args.tables.now.program) c.args.x) _ c.shape.ensures (λ kind part low high e. c.in_default.not-Coll kind part low high e)
