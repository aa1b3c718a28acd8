use Rattle.std.proofs.Common.{◌≤◌, arith, subst}
use Rattle.luo_model.specs.Invariant.{IsProgram}
use Rattle.luo_model.specs.Tree.{size_of}
use Rattle.luo_model.specs.View.{Held, plain_of}
use Rattle.luo_struct.specs.View.{tree_of}
use Rattle.luo_rank.proofs.HalvingLemmas.{small_structure}
use Rattle.luo_counting.proofs.OfPrograms.{light_program}
use Rattle.luo_listings_tested.proofs.tests_structures.is_structure.Goals as goal

pub returns-clause-small : goal.returns-clause-small
returns-clause-small c = λ h.
    let p = plain_of c.args.program.now in
    let t = tree_of c.args.s.now in
    let few : size_of t ≤ 40 = omega (arith, c.size-size.ensures, c.if-size-gt-LIST_SIZE_LIMIT.false) in
    small_structure p (light_program p (subst (λ (h : Held). IsProgram (plain_of h)) c.program.view_is c.program.invariant)) c.args.node (size_of t) t few (c.whole.ensures.0 h)
