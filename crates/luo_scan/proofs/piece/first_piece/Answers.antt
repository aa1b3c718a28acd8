use Rattle.std.proofs.Common.{rules}
use Rattle.luo_scan.proofs.Pieces.{separator_cut}
use Rattle.luo_scan.proofs.piece.first_piece.Goals as goal

pub returns-then-is_separator : goal.returns-then-is_separator
returns-then-is_separator c =
    let k = separator_cut c.args.text.now c.requires (search rules) in (k.some, k.begins)
