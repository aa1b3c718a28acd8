-- Procedures and analyses that are read are read before other lists too.
use Rattle.std.proofs.Common.{List, ◌∷◌, refl, ap}
use Rattle.luo_scan.specs.declared.token.Word.TheVariants.{KwProcedure, KwAnalyze}
use Rattle.luo_scan.specs.declared.token.Mark.TheVariants.{Semicolon, Colon, LeftRound, RightRound}
use Rattle.luo_scan.specs.declared.token.TokenKind.TheVariants as kind
use Rattle.luo_scan.specs.Lexemes.{Lexeme, lexeme}
use Rattle.luo_source.specs.declared.names.Name.{Name}
use Rattle.luo_source.specs.declared.source.ProcBody.{ProcBody}
use Rattle.luo_source.specs.declared.source.ProcDef.{ProcDef}
use Rattle.luo_syntax.specs.inner.Next.{next, next_name}
use Rattle.luo_source.specs.Grammar.{IsProcBody, statements_body, value_body, IsProc, proc, IsAnalyze, analyze}
use Rattle.luo_syntax.specs.inner.StopsProgram.{IsParam, one_param}
use Rattle.luo_syntax.proofs.Prefixes.{nothing, put, both, Moves}
use Rattle.luo_syntax.proofs.StatementsMoves.{block_moves}
use Rattle.luo_syntax.proofs.ValueMoves.{value_moves}

pub body_moves : {from to : List Lexeme} {body : ProcBody} → IsProcBody from to body → Moves (λ a b. IsProcBody a b body) from to
body_moves (statements_body {b} {k} p) = let m = block_moves p in record {
  prefix = put (lexeme (kind.Mark Semicolon) b k) m.prefix;
  cut = ap (λ z. lexeme (kind.Mark Semicolon) b k ∷ z) m.cut;
  moves = λ o. statements_body (m.moves o);
}
body_moves (value_body {b} {text} {c} {colon} {at} {k} p) = let m = value_moves p in record {
  prefix = put (lexeme (kind.Mark Colon) b colon) (put (lexeme kind.Name text at) (put (lexeme (kind.Mark Semicolon) c k) m.prefix));
  cut = ap (λ z. lexeme (kind.Mark Colon) b colon ∷ lexeme kind.Name text at ∷ lexeme (kind.Mark Semicolon) c k ∷ z) m.cut;
  moves = λ o. value_body (m.moves o);
}

pub param_moves : {from to : List Lexeme} {p : Name × Name} → IsParam from to p → Moves (λ a b. IsParam a b p) from to
param_moves (one_param (next {bytes = b} {at = k}) (next_name {text = param} {at = param_at}) (next {bytes = c} {at = l}) (next_name {text = on} {at = on_at}) (next {bytes = d} {at = m})) = record {
  prefix = put (lexeme (kind.Mark LeftRound) b k) (put (lexeme kind.Name param param_at) (put (lexeme (kind.Mark Colon) c l) (put (lexeme kind.Name on on_at) (put (lexeme (kind.Mark RightRound) d m) nothing))));
  cut = refl;
  moves = λ o. one_param next next_name next next_name next;
}

pub proc_moves : {from to : List Lexeme} {p : ProcDef} → IsProc from to p → Moves (λ a b. IsProc a b p) from to
proc_moves (proc {b} {text} {c} {param} {d} {type} {e} {f} {k} {at} {l} {param_at} {m} {type_at} {n} {o} p) = let r = body_moves p in record {
  prefix = put (lexeme (kind.Word KwProcedure) b k) (put (lexeme kind.Name text at) (put (lexeme (kind.Mark LeftRound) c l) (put (lexeme kind.Name param param_at) (put (lexeme (kind.Mark Colon) d m) (put (lexeme kind.Name type type_at) (put (lexeme (kind.Mark RightRound) e n) (both r.prefix (put (lexeme (kind.Mark Semicolon) f o) nothing))))))));
  cut = ap (λ z. lexeme (kind.Word KwProcedure) b k ∷ lexeme kind.Name text at ∷ lexeme (kind.Mark LeftRound) c l ∷ lexeme kind.Name param param_at ∷ lexeme (kind.Mark Colon) d m ∷ lexeme kind.Name type type_at ∷ lexeme (kind.Mark RightRound) e n ∷ z) r.cut;
  moves = λ other. proc (r.moves (lexeme (kind.Mark Semicolon) f o ∷ other));
}

pub analyze_moves : {from to : List Lexeme} {name : Name} → IsAnalyze from to name → Moves (λ a b. IsAnalyze a b name) from to
analyze_moves (analyze {b} {text} {c} {k} {at} {l}) = record {
  prefix = put (lexeme (kind.Word KwAnalyze) b k) (put (lexeme kind.Name text at) (put (lexeme (kind.Mark Semicolon) c l) nothing));
  cut = refl;
  moves = λ o. analyze;
}
