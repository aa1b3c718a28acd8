-- How words and marks are spelled, and what digits are worth.
use Rattle.std.specs.Prelude.{ℕ, ◌+◌, ◌-◌, ◌*◌, List, [], ◌∷◌, codes}
use Rattle.luo_scan.specs.declared.token.Word.{Word}
use Rattle.luo_scan.specs.declared.token.Word.TheVariants.{KwLabelled, KwUnlabelled, KwType, KwEpsilon, KwAtom, KwProduct, KwSequence, KwSet, KwCycle, KwMultiset, KwPowerset, KwCard, KwIn, KwMeasure, KwProcedure, KwAnalyze, KwBegin, KwEnd, KwCase, KwOf, KwForall, KwDo, KwSkip, KwAs}
use Rattle.luo_scan.specs.declared.token.Mark.{Mark}
use Rattle.luo_scan.specs.declared.token.Mark.TheVariants.{Semicolon, Comma, Equals, Bar, LeftRound, RightRound, LessEqual, GreaterEqual, Dots, Colon, Underscore}

abbrev pub spelling : Word → List ℕ
spelling KwLabelled = codes "labelled"
spelling KwUnlabelled = codes "unlabelled"
spelling KwType = codes "type"
spelling KwEpsilon = codes "epsilon"
spelling KwAtom = codes "atom"
spelling KwProduct = codes "product"
spelling KwSequence = codes "sequence"
spelling KwSet = codes "set"
spelling KwCycle = codes "cycle"
spelling KwMultiset = codes "multiset"
spelling KwPowerset = codes "powerset"
spelling KwCard = codes "card"
spelling KwIn = codes "in"
spelling KwMeasure = codes "measure"
spelling KwProcedure = codes "procedure"
spelling KwAnalyze = codes "analyze"
spelling KwBegin = codes "begin"
spelling KwEnd = codes "end"
spelling KwCase = codes "case"
spelling KwOf = codes "of"
spelling KwForall = codes "forall"
spelling KwDo = codes "do"
spelling KwSkip = codes "skip"
spelling KwAs = codes "as"

abbrev pub sign : Mark → List ℕ
sign Semicolon = codes ";"
sign Comma = codes ","
sign Equals = codes "="
sign Bar = codes "|"
sign LeftRound = codes "("
sign RightRound = codes ")"
sign LessEqual = codes "<="
sign GreaterEqual = codes ">="
sign Dots = codes ".."
sign Colon = codes ":"
sign Underscore = codes "_"

-- the number that decimal digits give, read after a number
abbrev pub value_after : ℕ → List ℕ → ℕ
value_after n [] = n
value_after n (d ∷ ds) = value_after (10 * n + (d - 48)) ds
