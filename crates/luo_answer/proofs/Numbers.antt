-- The number of a word.
use Rattle.std.proofs.Common.{◌≡◌, ℕ, List, [], ◌∷◌, refl, min}
use Rattle.std.proofs.lemmas.Bool.{leb-true, le-leb}
use Rattle.std.specs.Prelude.{Bool, true, false, ◌&&◌, leb, Option, None, Some, MatchOption}
use Rattle.std.specs.List.{AllByRecursion}
use Rattle.luo_scan.specs.Bytes.{IsDigit}
use Rattle.luo_scan.specs.Spellings.{value_after}
use Rattle.luo_answer.specs.declared.words.TheConstants.{NUMBER_CAP}
use Rattle.luo_answer.specs.Words.{are_digits, is_led, number_of}
use Rattle.luo_answer.specs.inner.Requests.{IsNumber}

false_true : false ≡ true → ⊥
false_true e = cc

both : (a b : Bool) → (a && b) ≡ true → (a ≡ true) × (b ≡ true)
both true true e = (refl, refl)
both true false e = absurd (false_true e)
both false b e = absurd (false_true e)

pub digits-all : (ds : List ℕ) → are_digits ds ≡ true → AllByRecursion IsDigit ds
digits-all [] e = tt
digits-all (d ∷ ds) e =
    let parts = both (leb 48 d && leb d 57) (are_digits ds) e in
    let ends = both (leb 48 d) (leb d 57) parts.0 in
    ((leb-true 48 d ends.0, leb-true d 57 ends.1), digits-all ds parts.1)

pub all-digits : (ds : List ℕ) → AllByRecursion IsDigit ds → are_digits ds ≡ true
all-digits [] a = refl
all-digits (d ∷ ds) a = rw (le-leb 48 d a.0.0, le-leb d 57 a.0.1, all-digits ds a.1) refl

pub unled : (word : List ℕ) → is_led word ≡ false → IsNumber word None
unled word e = rw e refl

pub numbered : (word : List ℕ) (o : Option ℕ) → is_led word ≡ true
    → MatchOption o (AllByRecursion IsDigit word → ⊥) (λ v. AllByRecursion IsDigit word × (v ≡ min (value_after 0 word) NUMBER_CAP)) → IsNumber word o
numbered word (Some v) led (a, e) = (value_after 0 word, rw (led, all-digits word a) refl, e)
numbered word None led none = by (are_digits word) refl
  where
    by : (b : Bool) → are_digits word ≡ b → number_of word ≡ None
    by true e = absurd (none (digits-all word e))
    by false e = rw (led, e) refl
