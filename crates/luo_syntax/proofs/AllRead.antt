-- A whole list of lexemes: what an error says of it, with nothing too deep, and with a lexeme that is.
use Rattle.std.proofs.Common.{◌≡◌, ℕ, List, [], ◌+◌, ◌≤◌, ◌<◌, sym, subst, ap, ◌∙◌, length, take, arith}
use Rattle.std.proofs.Math.Seq.{take-length}
use Rattle.std.proofs.lemmas.List.{append-nil, length-take}
use Rattle.luo_scan.specs.Lexemes.{Lexeme}
use Rattle.luo_source.specs.declared.source.Source.{Source}
use Rattle.luo_syntax.specs.declared.error.SyntaxError.{SyntaxError}
use Rattle.luo_syntax.specs.declared.error.SyntaxError.TheVariants.{Grammar, Depth, NoMemory}
use Rattle.luo_source.specs.Grammar.{IsProgram}
use Rattle.luo_syntax.specs.Viable.{AllSpelled, IsNoProgram, IsViable, IsLongestViable, IsFirstDeep, IsShallow, StopsWhole, Explains}
use Rattle.luo_syntax.proofs.Final.{longest_within, take_take}

whole_viable : (ls : List Lexeme) (s : Source) → IsProgram ls [] s → IsViable ls
whole_viable ls s p = ([], tt, s, subst (λ z. IsProgram z [] s) (sym (append-nil ls)) p)

none_of : (ls : List Lexeme) (k : ℕ) → IsLongestViable ls k → k < length ls → IsNoProgram ls
none_of ls k v a s p = v.longest (length ls) a (omega arith) (subst IsViable (sym (take-length ls)) (whole_viable ls s p))

-- with nothing too deep
pub explained : (ls : List Lexeme) (e : SyntaxError) → IsShallow ls → StopsWhole ls e → Explains ls e
explained ls (Grammar k) none (v, n) = (v, n, λ j d. none (j + 1) (omega (arith, d.0.0)) d.0.1)
explained ls (Depth k) none s = absurd s
explained ls NoMemory none s = tt

-- this lexeme is the first that is too deep, and reading stops before it or at it
pub stops_first : (ls : List Lexeme) (m k : ℕ) → AllSpelled ls → IsFirstDeep ls m → StopsWhole (take (m + 1) ls) (Grammar k) → k ≤ m → Explains ls (Grammar k)
stops_first ls m k spelled (c, deep, first) (v, n) a =
    let w = longest_within ls (m + 1) k spelled (omega (arith, a)) (omega (arith, c)) v in (
      w,
      none_of ls k w (omega (arith, a, c)),
      λ j d.
          let not_above : m < j → ⊥ = λ b. d.0.2 (m + 1) (omega (arith, b)) deep in
          let not_below : j < m → ⊥ = λ b. first (j + 1) (omega (arith, b)) d.0.1 in
          w.longest (j + 1) (omega (arith, a, not_above, not_below)) (omega (arith, d.0.0)) d.1,
    )

-- this lexeme is the first that is too deep, and reading stops behind it
pub deep_first : (ls : List Lexeme) (m k : ℕ) → IsFirstDeep ls m → StopsWhole (take (m + 1) ls) (Grammar k) → m < k → Explains ls (Depth m)
deep_first ls m k f (v, n) a =
    let e : k ≡ m + 1 = omega (arith, a, v.within, length-take (m + 1) ls) in
    (f, subst IsViable (ap (λ z. take z (take (m + 1) ls)) e ∙ take_take (m + 1) (m + 1) ls (omega arith)) v.viable)

-- this lexeme is the first that is too deep, and all up to it is read
pub deep_read : (ls : List Lexeme) (m : ℕ) (s : Source) → IsFirstDeep ls m → IsProgram (take (m + 1) ls) [] s → Explains ls (Depth m)
deep_read ls m s f p = (f, whole_viable (take (m + 1) ls) s p)
