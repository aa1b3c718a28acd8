use Rattle.std.proofs.Common.{◌≡◌, ◌+◌, ◌-◌, ◌/◌, ◌<◌, ◌≤◌, ℕ, arith, true, false, sym, ◌∙◌}
use Rattle.luo_model.specs.View.{plain_of}
use Rattle.luo_struct.specs.View.{tree_of}
use Rattle.luo_rank.proofs.HalvingLemmas.{half_left, half_right}
use Rattle.luo_rank.proofs.RankerLemmas.{looks_structure}
use Rattle.luo_rank.proofs.ranker.Ranker.halved.Goals as goal

pub is_before-requires-clause-a_small : goal.is_before-requires-clause-a_small
is_before-requires-clause-a_small c = looks_structure c.self.inside.tables c.self.inside.labels c.self.inside.node c.self.inside.count c.self.invariant c.args.self.now c.self.view_is (tree_of c.args.s.now) c.requires.structure

pub is_before-requires-clause-b_small : goal.is_before-requires-clause-b_small
is_before-requires-clause-b_small c = looks_structure c.self.inside.tables c.self.inside.labels c.self.inside.node c.self.inside.count c.self.invariant c.args.self.now c.self.view_is (tree_of c.in_ok-other.other) c.in_ok-other.ensures.there

pub returns-then-is_before : goal.returns-then-is_before
returns-then-is_before c =
    let r = c.args.self.now in
    let middle : ℕ = c.args.span.low + (c.args.span.high - c.args.span.low) / 2 in
    half_left (plain_of r.program) r.node r.size (tree_of c.args.s.now) (tree_of c.in_ok-other.other) c.args.span.low middle c.args.span.high (omega (arith, c.requires.wide)) (omega (arith, c.requires.wide)) c.in_ok-other.ensures (c.is_before.ensures.0 c.if-is_before.true)

pub returns : goal.returns
returns c =
    let r = c.args.self.now in
    let middle : ℕ = c.args.span.low + (c.args.span.high - c.args.span.low) / 2 in
    half_right (plain_of r.program) r.node r.size (tree_of c.args.s.now) (tree_of c.in_ok-other.other) c.args.span.low middle c.args.span.high (omega (arith, c.requires.wide)) (omega (arith, c.requires.wide)) c.in_ok-other.ensures
    (λ h. let q : false ≡ true = sym c.if-is_before.false ∙ c.is_before.ensures.1 h in cc)
