-- What is read is not refused.
use Rattle.std.proofs.Common.{ℕ, List, refl}
use Rattle.luo_scan.specs.declared.token.Token.{Token}
use Rattle.luo_scan.specs.Tokens.{Tokens}
use Rattle.luo_scan.proofs.Unique.{not_both}
use Rattle.luo_answer.specs.Step.{HasNone}
use Rattle.luo_top.specs.Refusals.{LexicalRefusal}

pub no_fault : (text : List ℕ) (ts : List Token) → Tokens text ts → HasNone (LexicalRefusal text)
no_fault text ts t other (f, at, p, e) = not_both 0 0 at text text ts f t p refl
