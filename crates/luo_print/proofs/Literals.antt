-- The words and marks of canonical texts, with the spaces around them.
use Rattle.std.proofs.Common.{ℕ, List, [], ◌∷◌, refl, codes, arith}
use Rattle.luo_scan.specs.declared.token.Word.{Word}
use Rattle.luo_scan.specs.declared.token.Word.TheVariants.{KwLabelled, KwUnlabelled, KwType, KwEpsilon, KwAtom, KwProduct, KwCard, KwIn, KwMeasure, KwProcedure, KwAnalyze, KwBegin, KwEnd, KwCase, KwOf, KwForall, KwDo, KwSkip, KwAs}
use Rattle.luo_scan.specs.declared.token.Mark.{Mark}
use Rattle.luo_scan.specs.declared.token.Mark.TheVariants.{Semicolon, Comma, Equals, Bar, LeftRound, RightRound, LessEqual, GreaterEqual, Dots, Colon, Underscore}
use Rattle.luo_scan.specs.declared.token.TokenKind.TheVariants as kind
use Rattle.luo_scan.specs.Lexemes.{Lexeme}
use Rattle.luo_scan.specs.Spellings.{spelling, sign}
use Rattle.luo_print.proofs.Cuts.{Quiet, Any, Reads, Then, Takes, seq, next, mark_reads, word_reads, spaced, lined, space_before, quiet_space}

-- this word comes next
abbrev pub TakesWord : Word → List Lexeme → List Lexeme → Type 0
TakesWord w = Takes (kind.Word w) (spelling w)

-- this mark comes next
abbrev pub TakesMark : Mark → List Lexeme → List Lexeme → Type 0
TakesMark m = Takes (kind.Mark m) (sign m)

pub quiet_round : (rest : List ℕ) → Quiet (40 ∷ rest)
quiet_round rest h = grind arith

pub bar : Reads Any (codes " | ") (TakesMark Bar)
bar = space_before (spaced (λ rest. tt) (mark_reads Bar 124 [] refl))

pub comma : Reads Any (codes ", ") (TakesMark Comma)
comma = spaced (λ rest. tt) (mark_reads Comma 44 [] refl)

pub opening_round : Reads Any (codes "(") (TakesMark LeftRound)
opening_round = mark_reads LeftRound 40 [] refl

pub closing_round : Reads Any (codes ")") (TakesMark RightRound)
closing_round = mark_reads RightRound 41 [] refl

pub semicolon : Reads Any (codes ";") (TakesMark Semicolon)
semicolon = mark_reads Semicolon 59 [] refl

pub semicolon_line : Reads Any (codes ";\n") (TakesMark Semicolon)
semicolon_line = lined (λ rest. tt) (mark_reads Semicolon 59 [] refl)

pub colon : Reads Any (codes " : ") (TakesMark Colon)
colon = space_before (spaced (λ rest. tt) (mark_reads Colon 58 [] refl))

pub equals : Reads Any (codes " = ") (TakesMark Equals)
equals = space_before (spaced (λ rest. tt) (mark_reads Equals 61 [] refl))

pub exactly : Reads Any (codes "= ") (TakesMark Equals)
exactly = spaced (λ rest. tt) (mark_reads Equals 61 [] refl)

pub at_most : Reads Any (codes "<= ") (TakesMark LessEqual)
at_most = spaced (λ rest. tt) (mark_reads LessEqual 60 (61 ∷ []) refl)

pub at_least : Reads Any (codes ">= ") (TakesMark GreaterEqual)
at_least = spaced (λ rest. tt) (mark_reads GreaterEqual 62 (61 ∷ []) refl)

pub dots : Reads Any (codes "..") (TakesMark Dots)
dots = mark_reads Dots 46 (46 ∷ []) refl

pub underscore : Reads Any (codes "_") (TakesMark Underscore)
underscore = mark_reads Underscore 95 [] refl

pub in_word : Reads Any (codes "in ") (TakesWord KwIn)
in_word = spaced quiet_space (word_reads KwIn 105 (codes "n") refl)

pub in_between : Reads Any (codes " in ") (TakesWord KwIn)
in_between = space_before in_word

pub card : Reads Any (codes ", card ") (Then (TakesMark Comma) (TakesWord KwCard))
card = next comma (spaced quiet_space (word_reads KwCard 99 (codes "ard") refl))

pub epsilon : Reads Quiet (codes "epsilon") (TakesWord KwEpsilon)
epsilon = word_reads KwEpsilon 101 (codes "psilon") refl

pub atom_round : Reads Any (codes "atom(") (Then (TakesWord KwAtom) (TakesMark LeftRound))
atom_round = seq (word_reads KwAtom 97 (codes "tom") refl) opening_round (λ rest q. quiet_round rest)

pub product_round : Reads Any (codes "product(") (Then (TakesWord KwProduct) (TakesMark LeftRound))
product_round = seq (word_reads KwProduct 112 (codes "roduct") refl) opening_round (λ rest q. quiet_round rest)

pub type_word : Reads Any (codes "type ") (TakesWord KwType)
type_word = spaced quiet_space (word_reads KwType 116 (codes "ype") refl)

pub measure_word : Reads Any (codes "measure ") (TakesWord KwMeasure)
measure_word = spaced quiet_space (word_reads KwMeasure 109 (codes "easure") refl)

pub procedure_word : Reads Any (codes "procedure ") (TakesWord KwProcedure)
procedure_word = spaced quiet_space (word_reads KwProcedure 112 (codes "rocedure") refl)

pub analyze_word : Reads Any (codes "analyze ") (TakesWord KwAnalyze)
analyze_word = spaced quiet_space (word_reads KwAnalyze 97 (codes "nalyze") refl)

pub as_word : Reads Any (codes " as ") (TakesWord KwAs)
as_word = space_before (spaced quiet_space (word_reads KwAs 97 (codes "s") refl))

pub underscore_as : Reads Any (codes "_ as ") (Then (TakesMark Underscore) (TakesWord KwAs))
underscore_as = next underscore as_word

pub begin_word : Reads Quiet (codes "begin") (TakesWord KwBegin)
begin_word = word_reads KwBegin 98 (codes "egin") refl

pub end_word : Reads Quiet (codes "end") (TakesWord KwEnd)
end_word = word_reads KwEnd 101 (codes "nd") refl

pub case_word : Reads Any (codes "case ") (TakesWord KwCase)
case_word = spaced quiet_space (word_reads KwCase 99 (codes "ase") refl)

pub of_word : Reads Quiet (codes " of") (TakesWord KwOf)
of_word = space_before (word_reads KwOf 111 (codes "f") refl)

pub forall_word : Reads Any (codes "forall ") (TakesWord KwForall)
forall_word = spaced quiet_space (word_reads KwForall 102 (codes "orall") refl)

pub do_word : Reads Any (codes " do ") (TakesWord KwDo)
do_word = space_before (spaced quiet_space (word_reads KwDo 100 (codes "o") refl))

pub skip_word : Reads Quiet (codes "skip") (TakesWord KwSkip)
skip_word = word_reads KwSkip 115 (codes "kip") refl

pub atom_word : Reads Quiet (codes "atom") (TakesWord KwAtom)
atom_word = word_reads KwAtom 97 (codes "tom") refl

pub labelled_line : Reads Any (codes "labelled;\n") (Then (TakesWord KwLabelled) (TakesMark Semicolon))
labelled_line = seq (word_reads KwLabelled 108 (codes "abelled") refl) semicolon_line (λ rest q h. grind arith)

pub unlabelled_line : Reads Any (codes "unlabelled;\n") (Then (TakesWord KwUnlabelled) (TakesMark Semicolon))
unlabelled_line = seq (word_reads KwUnlabelled 117 (codes "nlabelled") refl) semicolon_line (λ rest q h. grind arith)
