-- Where tokens lie, and which bytes they have.
use Rattle.std.proofs.Common.{◌≡◌, ◌≤◌, ◌<◌, ◌+◌, ◌-◌, ℕ, List, [], ◌∷◌, length, take, drop, refl, ap, sym, ◌∙◌, subst, arith, Option, None, Some}
use Rattle.std.specs.List.{AllByRecursion}
use Rattle.std.proofs.Math.Seq.{take-append_seam, drop-append_seam}
use Rattle.std.proofs.lemmas.List.{length-append, drop-drop}
use Rattle.luo_num.specs.declared.limits.TheConstants.{NAME_LIMIT}
use Rattle.luo_scan.specs.declared.token.TokenKind.{TokenKind}
use Rattle.luo_scan.specs.declared.token.TokenKind.TheVariants as kind
use Rattle.luo_scan.specs.declared.token.Token.{Token}
use Rattle.luo_scan.specs.Faults.{AllInside}
use Rattle.luo_scan.specs.Laws.{IsFit}
use Rattle.luo_scan.specs.Lexemes.{lexeme, lexemes_from, lexemes}
use Rattle.luo_scan.specs.Tokens.{IsPiece, Begins, IsWithin, Tokens, TokensFrom, at_end, skipped, taken}
use Rattle.luo_scan.proofs.OneKind.{piece_some}

parts : (text piece rest : List ℕ) (what : Option TokenKind) → Begins text piece rest what → length text ≡ length piece + length rest
parts text piece rest what b = ap length b.whole ∙ length-append piece rest

inside_from : (count at : ℕ) (text : List ℕ) (ts : List Token) → TokensFrom at text ts → at + length text ≡ count → AllInside count ts
inside_from count at text ts at_end e = tt
inside_from count at text ts (skipped p r b x) e =
    let h = parts text p r None b in inside_from count _ r ts x (omega arith)
inside_from count at text ts (taken p r k b w x) e =
    let h = parts text p r (Some k) b in (omega arith, omega arith, inside_from count _ r _ x (omega arith))

-- each token of a text lies inside it
pub tokens_inside : (text : List ℕ) (ts : List Token) → Tokens text ts → AllInside (length text) ts
tokens_inside text ts t = inside_from (length text) 0 text ts t (omega arith)

behind : (whole : List ℕ) (at : ℕ) (text piece rest : List ℕ) (what : Option TokenKind) → drop at whole ≡ text → Begins text piece rest what → drop (at + length piece) whole ≡ rest
behind whole at text piece rest what e b =
    sym (drop-drop (length piece) at whole) ∙ (ap (λ z. drop (length piece) z) (e ∙ b.whole) ∙ drop-append_seam piece rest)

bytes_of : (whole : List ℕ) (at : ℕ) (text piece rest : List ℕ) (what : Option TokenKind) → drop at whole ≡ text → Begins text piece rest what → take (at + length piece - at) (drop at whole) ≡ piece
bytes_of whole at text piece rest what e b =
    let n : at + length piece - at ≡ length piece = omega arith in
    ap (λ k. take k (drop at whole)) n ∙ (ap (λ z. take (length piece) z) (e ∙ b.whole) ∙ take-append_seam piece rest)

fit_from : (whole : List ℕ) (at number : ℕ) (text : List ℕ) (ts : List Token) → TokensFrom at text ts → drop at whole ≡ text → AllByRecursion IsFit (lexemes_from number whole ts)
fit_from whole at number text ts at_end e = tt
fit_from whole at number text ts (skipped p r b x) e = fit_from whole _ number r ts x (behind whole at text p r None e b)
fit_from whole at number text ts (taken p r k b w x) e = (
  subst (λ z. IsPiece z (Some k) × IsWithin z k) (sym (bytes_of whole at text p r (Some k) e b)) (b.is, w),
  fit_from whole _ (number + 1) r _ x (behind whole at text p r (Some k) e b),
)

-- each lexeme of a text is a piece of it, within the limits
pub lexemes_fit : (text : List ℕ) (ts : List Token) → Tokens text ts → AllByRecursion IsFit (lexemes text ts)
lexemes_fit text ts t = fit_from text 0 0 text ts t refl

-- the bytes of a name: at least one and at most the limit
pub name_length : (bytes : List ℕ) (at : ℕ) → IsFit (lexeme kind.Name bytes at) → (0 < length bytes) × (length bytes ≤ NAME_LIMIT)
name_length [] at f = absurd (piece_some [] (Some kind.Name) f.0 refl)
name_length (b ∷ bs) at f = (omega arith, f.1)
