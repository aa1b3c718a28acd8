-- The lexemes of a text's tokens.
use Rattle.std.proofs.Common.{◌≡◌, ℕ, zero, suc, List, [], ◌∷◌, ◌+◌, ◌-◌, ◌<◌, ◌≤◌, length, take, subst, arith}
use Rattle.luo_scan.specs.declared.token.Token.{Token}
use Rattle.luo_scan.specs.Faults.{AllInside}
use Rattle.luo_scan.specs.Lexemes.{Lexeme, lexemes}
use Rattle.luo_scan.specs.Tokens.{Tokens}
use Rattle.luo_scan.proofs.Inside.{tokens_inside, lexemes_fit}
use Rattle.luo_source.specs.declared.source.Source.{Source}
use Rattle.luo_syntax.specs.declared.error.SyntaxError.{SyntaxError}
use Rattle.luo_syntax.specs.declared.error.SyntaxError.TheVariants.{Grammar, Depth}
use Rattle.luo_source.specs.Grammar.{IsProgram, Derives}
use Rattle.luo_syntax.specs.Viable.{IsShallow, IsFirstDeep, StopsWhole, Explains}
use Rattle.luo_syntax.specs.inner.StopsProgram.{ProgramStops}
use Rattle.luo_syntax.proofs.Lexemes.{as_many, first_lexemes}
use Rattle.luo_syntax.proofs.Final.{longest, none_read, stops_within}
use Rattle.luo_syntax.proofs.AllRead.{explained, stops_first, deep_first, deep_read}

inside_prefix : (n count : ℕ) (ts : List Token) → AllInside count ts → AllInside count (take n ts)
inside_prefix zero count ts a = tt
inside_prefix (suc n) count [] a = tt
inside_prefix (suc n) count (t ∷ ts) (a, b, c) = (a, b, inside_prefix n count ts c)

-- the first tokens of a text lie inside it
pub first_inside : (n : ℕ) (text : List ℕ) (ts : List Token) → Tokens text ts → AllInside (length text) (take n ts)
first_inside n text ts t = inside_prefix n (length text) ts (tokens_inside text ts t)

stops_from : (text : List ℕ) (ts : List Token) {from at : List Lexeme} → from ≡ lexemes text ts → ProgramStops from at → ProgramStops (lexemes text ts) at
stops_from text ts {at} e s = subst (λ z. ProgramStops z at) e s

-- reading the tokens stops where this many are left
pub text_stops : (text : List ℕ) (ts : List Token) {from at : List Lexeme} {left : ℕ} → from ≡ lexemes text ts → ProgramStops from at → left ≡ length at → StopsWhole (lexemes text ts) (Grammar (length ts - left))
text_stops text ts {at} {left} e s l =
    let f : length (lexemes text ts) - length at ≡ length ts - left = omega (arith, l, as_many 0 text ts) in
    let w = stops_from text ts e s in
    subst (λ z. StopsWhole (lexemes text ts) (Grammar z)) f (longest _ _ w, none_read _ _ w)

pub left_within : (text : List ℕ) (ts : List Token) {from at : List Lexeme} {left : ℕ} → from ≡ lexemes text ts → ProgramStops from at → left ≡ length at → left ≤ length ts
left_within text ts {at} e s l = omega (arith, stops_within (lexemes text ts) at (stops_from text ts e s), l, as_many 0 text ts)

pub deep_within : (ts : List Token) (m : ℕ) → ((text : List ℕ) → IsFirstDeep (lexemes text ts) m) → m < length ts
deep_within ts m f = omega (arith, (f []).0, as_many 0 [] ts)

pub text_stops_first : (text : List ℕ) (ts : List Token) (m k : ℕ) → Tokens text ts → ((text : List ℕ) → IsFirstDeep (lexemes text ts) m) → StopsWhole (lexemes text (take (m + 1) ts)) (Grammar k) → k ≤ m → Explains (lexemes text ts) (Grammar k)
text_stops_first text ts m k t f s a = stops_first (lexemes text ts) m k (lexemes_fit text ts t) (f text) (subst (λ z. StopsWhole z (Grammar k)) (first_lexemes (m + 1) 0 text ts) s) a

pub text_deep : (text : List ℕ) (ts : List Token) (m k : ℕ) → ((text : List ℕ) → IsFirstDeep (lexemes text ts) m) → StopsWhole (lexemes text (take (m + 1) ts)) (Grammar k) → m < k → Explains (lexemes text ts) (Depth m)
text_deep text ts m k f s a = deep_first (lexemes text ts) m k (f text) (subst (λ z. StopsWhole z (Grammar k)) (first_lexemes (m + 1) 0 text ts) s) a

pub text_deep_read : (text : List ℕ) (ts : List Token) (m : ℕ) (s : Source) → ((text : List ℕ) → IsFirstDeep (lexemes text ts) m) → Derives text (take (m + 1) ts) s → Explains (lexemes text ts) (Depth m)
text_deep_read text ts m s f p = deep_read (lexemes text ts) m s (f text) (subst (λ z. IsProgram z [] s) (first_lexemes (m + 1) 0 text ts) p)

pub text_explained : (text : List ℕ) (ts : List Token) (e : SyntaxError) → ((text : List ℕ) → IsShallow (lexemes text ts)) → StopsWhole (lexemes text ts) e → Explains (lexemes text ts) e
text_explained text ts e f s = explained (lexemes text ts) e (f text) s

pub ruleset texts = (tokens_inside, first_inside, text_explained)
