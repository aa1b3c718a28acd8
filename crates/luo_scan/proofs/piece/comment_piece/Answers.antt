use Rattle.luo_scan.proofs.Pieces.{comment_cut}
use Rattle.luo_scan.proofs.piece.comment_piece.Goals as goal

pub returns : goal.returns
returns c =
    let k = comment_cut c.args.text.now c.run.result c.requires.some c.requires.first c.run.ensures in (k.some, k.begins)
