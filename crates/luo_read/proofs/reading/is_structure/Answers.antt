use Rattle.std.proofs.Common.{sym, ap, subst, ◌∙◌}
use Rattle.luo_model.specs.Invariant.{IsProgram}
use Rattle.luo_model.specs.View.{Held, plain_of}
use Rattle.luo_struct.specs.View.{tree_of}
use Rattle.luo_struct.proofs.MemberLemmas.{never, failed}
use Rattle.luo_struct.proofs.WholeLemmas.{whole_labelled, whole_unlabelled, whole_size}
use Rattle.luo_read.proofs.ReadLemmas.{ok_other}
use Rattle.luo_read.proofs.reading.is_structure.Goals as goal

pub returns-then-not-member : goal.returns-then-not-member
returns-then-not-member c = record {
  of_program = subst (λ (h : Held). IsProgram (plain_of h)) c.program.view_is c.program.invariant;
  is = never (λ s. failed c.member.result c.member.ensures c.if-not-member.true s.0);
}

pub returns-in-Unlabelled : goal.returns-in-Unlabelled
returns-in-Unlabelled c = record {
  of_program = subst (λ (h : Held). IsProgram (plain_of h)) c.program.view_is c.program.invariant;
  is = whole_unlabelled (plain_of c.args.program.now) c.args.node (tree_of c.args.s.now) (c.member.ensures.0 c.if-not-member.false)
      (sym (ap (λ (h : Held). h.universe) c.program.view_is) ∙ c.in-Unlabelled.is);
}

pub returns-in-Labelled : goal.returns-in-Labelled
returns-in-Labelled c = record {
  of_program = subst (λ (h : Held). IsProgram (plain_of h)) c.program.view_is c.program.invariant;
  is = ok_other c.has_each_label.result _ _
      (λ has d. whole_labelled (plain_of c.args.program.now) c.args.node (tree_of c.args.s.now) (c.member.ensures.0 c.if-not-member.false) c.size.result has
      (whole_size (tree_of c.args.s.now) c.size.result c.size.ensures c.requires.small) (sym (ap (λ (h : Held). h.universe) c.program.view_is) ∙ c.in-Labelled.is) d)
      c.has_each_label.ensures;
}
