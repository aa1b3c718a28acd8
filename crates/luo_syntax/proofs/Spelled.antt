-- Lexemes that can be made up, spelled as the language spells them.
use Rattle.std.proofs.Common.{◌≢◌, [], ◌∷◌, inr, refl, arith}
use Rattle.luo_scan.specs.declared.token.Word.{Word}
use Rattle.luo_scan.specs.declared.token.Word.TheVariants.{KwLabelled, KwUnlabelled, KwType, KwEpsilon, KwAtom, KwProduct, KwSequence, KwSet, KwCycle, KwMultiset, KwPowerset, KwCard, KwIn, KwMeasure, KwProcedure, KwAnalyze, KwBegin, KwEnd, KwCase, KwOf, KwForall, KwDo, KwSkip, KwAs}
use Rattle.luo_scan.specs.declared.token.Mark.{Mark}
use Rattle.luo_scan.specs.declared.token.TokenKind.TheVariants as kind
use Rattle.luo_scan.specs.Lexemes.{Lexeme, lexeme}
use Rattle.luo_scan.specs.Spellings.{spelling, sign}
use Rattle.luo_scan.specs.Tokens.{name, word, number, mark}
use Rattle.luo_scan.specs.Laws.{IsFit}

-- a word, a mark, the name `a` and the number 0, as lexemes
abbrev pub a_word : Word → Lexeme
a_word w = lexeme (kind.Word w) (spelling w) 0

abbrev pub a_mark : Mark → Lexeme
a_mark m = lexeme (kind.Mark m) (sign m) 0

abbrev pub a_name : Lexeme
a_name = lexeme kind.Name (97 ∷ []) 0

abbrev pub a_number : Lexeme
a_number = lexeme (kind.Number 0) (48 ∷ []) 0

pub word_fit : (w : Word) → IsFit (a_word w)
word_fit w = (word w, tt)

pub mark_fit : (m : Mark) → IsFit (a_mark m)
mark_fit m = (mark m, tt)

no_word : (w : Word) → spelling w ≢ 97 ∷ []
no_word KwLabelled e = cc
no_word KwUnlabelled e = cc
no_word KwType e = cc
no_word KwEpsilon e = cc
no_word KwAtom e = cc
no_word KwProduct e = cc
no_word KwSequence e = cc
no_word KwSet e = cc
no_word KwCycle e = cc
no_word KwMultiset e = cc
no_word KwPowerset e = cc
no_word KwCard e = cc
no_word KwIn e = cc
no_word KwMeasure e = cc
no_word KwProcedure e = cc
no_word KwAnalyze e = cc
no_word KwBegin e = cc
no_word KwEnd e = cc
no_word KwCase e = cc
no_word KwOf e = cc
no_word KwForall e = cc
no_word KwDo e = cc
no_word KwSkip e = cc
no_word KwAs e = cc

pub name_fit : IsFit a_name
name_fit = (name 97 [] (inr (omega arith, omega arith)) tt no_word, omega arith)

pub number_fit : IsFit a_number
number_fit = (number 48 [] (omega arith, omega arith) tt (λ e. refl), omega arith)
