use Rattle.std.proofs.Common.{sym, subst, length, Some}
use Rattle.luo_scan.specs.declared.token.TokenKind.TheVariants.{Mark}
use Rattle.luo_scan.proofs.Pieces.{IsCut, mark_cut, no_cut}
use Rattle.luo_scan.proofs.piece.mark_piece.Goals as goal

pub returns-in-Some : goal.returns-in-Some
returns-in-Some c =
    let k = subst (λ z. IsCut c.args.text.now (length z) (Some (Mark c.in-Some.mark))) (sym c.written.ensures)
    (mark_cut c.in-Some.mark c.args.text.now c.in-Some.ensures.0 c.in-Some.ensures.1) in
    (k.some, k.begins, tt)

pub returns-in-None : goal.returns-in-None
returns-in-None c =
    no_cut c.args.text.now c.requires.some c.requires.separator c.requires.percent c.requires.letter c.requires.digit c.in-None.ensures
