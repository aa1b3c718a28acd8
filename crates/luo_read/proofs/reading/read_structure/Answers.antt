use Rattle.std.proofs.Common.{◌≡◌}
use Rattle.luo_model.specs.View.{plain_of}
use Rattle.luo_struct.specs.View.{tree_of}
use Rattle.luo_struct.proofs.WholeLemmas.{whole_size}
use Rattle.luo_read.specs.Reading.{WantsMemory, Answers}
use Rattle.luo_read.proofs.MemberLemmas.{read_small, named_read, one_named}
use Rattle.luo_read.proofs.AnswerLemmas.{passed_on, refuses_s2, refuses_s3, reads_named, reads, stops_early, stops_refuses, early_always, early_first, s2_always, s2_first, s3_always, s3_first, ok_always, ok_first}
use Rattle.luo_read.proofs.reading.read_structure.Goals as goal

pub returns-in_err-s-clause-always : goal.returns-in_err-s-clause-always
returns-in_err-s-clause-always c =
    let p = plain_of c.args.program.now in
    let e = c.in_err-s.field-0.0 in
    λ t r. passed_on c.from_residual.result e (λ s. tree_of s ≡ t) WantsMemory c.from_residual.ensures.1
    (early_always p c.args.node c.args.text.now e (stops_early p c.args.node c.args.text.now e c.in_err-s.ensures)
    (stops_refuses p c.args.node c.args.text.now e c.if-text-gt-STRUCTURE_TEXT_LIMIT.false c.in_err-s.ensures) t r)

pub returns-in_err-s-clause-first : goal.returns-in_err-s-clause-first
returns-in_err-s-clause-first c =
    let p = plain_of c.args.program.now in
    let e = c.in_err-s.field-0.0 in
    λ f h. passed_on c.from_residual.result e (λ s. ⊥) (Answers f) c.from_residual.ensures.1
    (early_first p c.args.node c.args.text.now e (stops_early p c.args.node c.args.text.now e c.in_err-s.ensures)
    (stops_refuses p c.args.node c.args.text.now e c.if-text-gt-STRUCTURE_TEXT_LIMIT.false c.in_err-s.ensures) f h)

pub is_structure-requires : goal.is_structure-requires
is_structure-requires c = record { small = read_small c.args.text.now (tree_of c.in_ok-s.s) c.in_ok-s.ensures c.if-text-gt-STRUCTURE_TEXT_LIMIT.false }

pub returns-then-not-branch-clause-err : goal.returns-then-not-branch-clause-err
returns-then-not-branch-clause-err c =
    let p = plain_of c.args.program.now in
    let x = c.args.node in
    let text = c.args.text.now in
    let r = tree_of c.in_ok-s.s in
    let h = c.in_ok-s.ensures in
    let l = c.if-text-gt-STRUCTURE_TEXT_LIMIT.false in
    let inv = c.is_structure.ensures.of_program in
    let k = refuses_s2 p x text r l h c.in_ok-is_structure.field-0 c.in_ok-is_structure.ensures.is c.if-not-branch.true (λ t n. named_read p inv x text l r t h n) in
    k

pub returns-then-not-branch-clause-always : goal.returns-then-not-branch-clause-always
returns-then-not-branch-clause-always c =
    let p = plain_of c.args.program.now in
    let x = c.args.node in
    let text = c.args.text.now in
    let r = tree_of c.in_ok-s.s in
    let h = c.in_ok-s.ensures in
    let l = c.if-text-gt-STRUCTURE_TEXT_LIMIT.false in
    let inv = c.is_structure.ensures.of_program in
    let k = refuses_s2 p x text r l h c.in_ok-is_structure.field-0 c.in_ok-is_structure.ensures.is c.if-not-branch.true (λ t n. named_read p inv x text l r t h n) in
    s2_always p x text k

pub returns-then-not-branch-clause-first : goal.returns-then-not-branch-clause-first
returns-then-not-branch-clause-first c =
    let p = plain_of c.args.program.now in
    let x = c.args.node in
    let text = c.args.text.now in
    let r = tree_of c.in_ok-s.s in
    let h = c.in_ok-s.ensures in
    let l = c.if-text-gt-STRUCTURE_TEXT_LIMIT.false in
    let inv = c.is_structure.ensures.of_program in
    let k = refuses_s2 p x text r l h c.in_ok-is_structure.field-0 c.in_ok-is_structure.ensures.is c.if-not-branch.true (λ t n. named_read p inv x text l r t h n) in
    s2_first p x text k

pub returns-then-size-gt-STRUCTURE_SIZE_LIMIT-clause-err : goal.returns-then-size-gt-STRUCTURE_SIZE_LIMIT-clause-err
returns-then-size-gt-STRUCTURE_SIZE_LIMIT-clause-err c =
    let p = plain_of c.args.program.now in
    let x = c.args.node in
    let text = c.args.text.now in
    let r = tree_of c.in_ok-s.s in
    let h = c.in_ok-s.ensures in
    let l = c.if-text-gt-STRUCTURE_TEXT_LIMIT.false in
    let inv = c.is_structure.ensures.of_program in
    let size = whole_size r c.size-size.result c.size-size.ensures (read_small text r h l) in
    let n = reads_named p x text r h c.in_ok-is_structure.field-0 c.in_ok-is_structure.ensures.is c.if-not-branch.false in
    let k = refuses_s3 p x text r c.size-size.result l h n size c.if-size-gt-STRUCTURE_SIZE_LIMIT.true in
    k

pub returns-then-size-gt-STRUCTURE_SIZE_LIMIT-clause-always : goal.returns-then-size-gt-STRUCTURE_SIZE_LIMIT-clause-always
returns-then-size-gt-STRUCTURE_SIZE_LIMIT-clause-always c =
    let p = plain_of c.args.program.now in
    let x = c.args.node in
    let text = c.args.text.now in
    let r = tree_of c.in_ok-s.s in
    let h = c.in_ok-s.ensures in
    let l = c.if-text-gt-STRUCTURE_TEXT_LIMIT.false in
    let inv = c.is_structure.ensures.of_program in
    let size = whole_size r c.size-size.result c.size-size.ensures (read_small text r h l) in
    let n = reads_named p x text r h c.in_ok-is_structure.field-0 c.in_ok-is_structure.ensures.is c.if-not-branch.false in
    let k = refuses_s3 p x text r c.size-size.result l h n size c.if-size-gt-STRUCTURE_SIZE_LIMIT.true in
    s3_always p x text (λ l t u n m. one_named p inv x text l t u n m) c.size-size.result k

pub returns-then-size-gt-STRUCTURE_SIZE_LIMIT-clause-first : goal.returns-then-size-gt-STRUCTURE_SIZE_LIMIT-clause-first
returns-then-size-gt-STRUCTURE_SIZE_LIMIT-clause-first c =
    let p = plain_of c.args.program.now in
    let x = c.args.node in
    let text = c.args.text.now in
    let r = tree_of c.in_ok-s.s in
    let h = c.in_ok-s.ensures in
    let l = c.if-text-gt-STRUCTURE_TEXT_LIMIT.false in
    let inv = c.is_structure.ensures.of_program in
    let size = whole_size r c.size-size.result c.size-size.ensures (read_small text r h l) in
    let n = reads_named p x text r h c.in_ok-is_structure.field-0 c.in_ok-is_structure.ensures.is c.if-not-branch.false in
    let k = refuses_s3 p x text r c.size-size.result l h n size c.if-size-gt-STRUCTURE_SIZE_LIMIT.true in
    s3_first p x text (λ l t u n m. one_named p inv x text l t u n m) c.size-size.result k

pub returns-clause-always : goal.returns-clause-always
returns-clause-always c =
    let p = plain_of c.args.program.now in
    let x = c.args.node in
    let text = c.args.text.now in
    let r = tree_of c.in_ok-s.s in
    let h = c.in_ok-s.ensures in
    let l = c.if-text-gt-STRUCTURE_TEXT_LIMIT.false in
    let inv = c.is_structure.ensures.of_program in
    let size = whole_size r c.size-size.result c.size-size.ensures (read_small text r h l) in
    let n = reads_named p x text r h c.in_ok-is_structure.field-0 c.in_ok-is_structure.ensures.is c.if-not-branch.false in
    let k = reads p x text r c.size-size.result l h n size c.if-size-gt-STRUCTURE_SIZE_LIMIT.false in
    ok_always p x text (λ l t u n m. one_named p inv x text l t u n m) r k

pub returns-clause-first : goal.returns-clause-first
returns-clause-first c =
    let p = plain_of c.args.program.now in
    let x = c.args.node in
    let text = c.args.text.now in
    let r = tree_of c.in_ok-s.s in
    let h = c.in_ok-s.ensures in
    let l = c.if-text-gt-STRUCTURE_TEXT_LIMIT.false in
    let inv = c.is_structure.ensures.of_program in
    let size = whole_size r c.size-size.result c.size-size.ensures (read_small text r h l) in
    let n = reads_named p x text r h c.in_ok-is_structure.field-0 c.in_ok-is_structure.ensures.is c.if-not-branch.false in
    let k = reads p x text r c.size-size.result l h n size c.if-size-gt-STRUCTURE_SIZE_LIMIT.false in
    ok_first p x text (λ l t u n m. one_named p inv x text l t u n m) r k
