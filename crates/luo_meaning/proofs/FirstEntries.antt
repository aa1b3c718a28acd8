-- The names of a source mean what their first entries say.
use Rattle.std.proofs.Common.{◌≡◌, ℕ, suc, List, [], ◌∷◌, ◌++◌, Option, Some, None, refl, sym, ap, ◌∙◌}
use Rattle.std.specs.Prelude.{Bool, true, false, if◌then◌else◌, is_some}
use Rattle.std.specs.Str.{bytes_eq}
use Rattle.luo_source.specs.declared.names.Name.{Name}
use Rattle.luo_source.specs.Plain.Source.{ProcDef, Source}
use Rattle.luo_rules.specs.declared.names.Meaning.{Meaning}
use Rattle.luo_rules.specs.declared.names.Meaning.TheVariants as mean
use Rattle.luo_rules.specs.Meanings.{meaning, with_name}
use Rattle.luo_rules.specs.Definitions.{Definition, definitions, measures, with_definitions, with_measures, with_procedures, names_of}
use Rattle.luo_rules.specs.TypeBreaches.{first_some}
use Rattle.luo_rules.proofs.Lists.{none_some}
use Rattle.luo_meaning.specs.Names.{types_from, measures_from, procedures_from, entries}
use Rattle.luo_meaning.proofs.NamesMean.{same_text}

abbrev Names : Type 0
Names = List (List ℕ × Meaning)

first_or_none : (o : Option Meaning) → first_some o None ≡ o
first_or_none None = refl
first_or_none (Some m) = refl

first_of_three : (a b c : Option Meaning) → first_some (first_some a b) c ≡ first_some a (first_some b c)
first_of_three None b c = refl
first_of_three (Some m) b c = refl

-- an entry in front
in_front : (first : List ℕ × Meaning) (rest : Names) (text : List ℕ)
    → meaning (first ∷ rest) text ≡ first_some (meaning (first ∷ []) text) (meaning rest text)
in_front first rest text = by (bytes_eq first.0 text)
  where
    by : (b : Bool) → (if b then Some first.1 else meaning rest text) ≡ first_some (if b then Some first.1 else None) (meaning rest text)
    by true = refl
    by false = refl

joined : (xs ys : Names) (text : List ℕ) → meaning (xs ++ ys) text ≡ first_some (meaning xs text) (meaning ys text)
joined [] ys text = refl
joined (x ∷ xs) ys text = by (bytes_eq x.0 text) (joined xs ys text)
  where
    by : (b : Bool) → meaning (xs ++ ys) text ≡ first_some (meaning xs text) (meaning ys text)
        → (if b then Some x.1 else meaning (xs ++ ys) text) ≡ first_some (if b then Some x.1 else meaning xs text) (meaning ys text)
    by true e = refl
    by false e = e

-- a name that has a meaning has it under each name of the same text
kept : (names : Names) (more : List ℕ × Meaning) (text : List ℕ) (m : Meaning) (o : Option Meaning) (b : Bool)
    → meaning names more.0 ≡ Some m → meaning names text ≡ o → bytes_eq more.0 text ≡ b
    → o ≡ first_some o (if b then Some more.1 else None)
kept names more text m (Some k) b e f g = refl
kept names more text m None false e f g = refl
kept names more text m None true e f g = absurd (none_some m (sym (ap (meaning names) (same_text more.0 text g) ∙ f) ∙ e))

-- a name that has a meaning already keeps it, and one that has none gets this one
with_one : (names : Names) (more : List ℕ × Meaning) (text : List ℕ)
    → meaning (with_name names more) text ≡ first_some (meaning names text) (meaning (more ∷ []) text)
with_one names more text = by (meaning names more.0) refl
  where
    by : (o : Option Meaning) → meaning names more.0 ≡ o
        → meaning (if is_some o then names else names ++ more ∷ []) text ≡ first_some (meaning names text) (meaning (more ∷ []) text)
    by None e = joined names (more ∷ []) text
    by (Some m) e = kept names more text m (meaning names text) (bytes_eq more.0 text) e refl refl

-- one entry behind names, and the others behind it
one_more : (names : Names) (more : List ℕ × Meaning) (rest : Names) (text : List ℕ) (o : Option Meaning)
    → o ≡ first_some (meaning (with_name names more) text) (meaning rest text) → o ≡ first_some (meaning names text) (meaning (more ∷ rest) text)
one_more names more rest text o e =
    e ∙ ap (λ m. first_some m (meaning rest text)) (with_one names more text)
    ∙ first_of_three (meaning names text) (meaning (more ∷ []) text) (meaning rest text)
    ∙ ap (first_some (meaning names text)) (sym (in_front more rest text))

types_added : (names : Names) (i : ℕ) (ds : List Definition) (text : List ℕ)
    → meaning (with_definitions names i ds) text ≡ first_some (meaning names text) (meaning (types_from i ds) text)
types_added names i [] text = sym (first_or_none (meaning names text))
types_added names i (d ∷ ds) text =
    one_more names (d.name.text, mean.Definition i) (types_from (suc i) ds) text _
    (types_added (with_name names (d.name.text, mean.Definition i)) (suc i) ds text)

measures_added : (names : Names) (k : ℕ) (ms : List (Name × ℕ)) (text : List ℕ)
    → meaning (with_measures names k ms) text ≡ first_some (meaning names text) (meaning (measures_from k ms) text)
measures_added names k [] text = sym (first_or_none (meaning names text))
measures_added names k (m ∷ ms) text =
    one_more names (m.0.text, mean.Measure k m.1) (measures_from (suc k) ms) text _
    (measures_added (with_name names (m.0.text, mean.Measure k m.1)) (suc k) ms text)

procedures_added : (names : Names) (f : ℕ) (ps : List ProcDef) (text : List ℕ)
    → meaning (with_procedures names f ps) text ≡ first_some (meaning names text) (meaning (procedures_from f ps) text)
procedures_added names f [] text = sym (first_or_none (meaning names text))
procedures_added names f (p ∷ ps) text =
    one_more names (p.name.text, mean.Procedure f) (procedures_from (suc f) ps) text _
    (procedures_added (with_name names (p.name.text, mean.Procedure f)) (suc f) ps text)

-- three lists of entries, one behind the other
three : (ts ms ps : Names) (text : List ℕ)
    → first_some (first_some (meaning ts text) (meaning ms text)) (meaning ps text) ≡ meaning (ts ++ ms ++ ps) text
three ts ms ps text = sym (joined (ts ++ ms) ps text ∙ ap (λ m. first_some m (meaning ps text)) (joined ts ms text))

added : (defs : List Definition) (measured : List (Name × ℕ)) (procs : List ProcDef) (text : List ℕ)
    → meaning (with_procedures (with_measures (with_definitions [] 0 defs) 0 measured) 0 procs) text
    ≡ first_some (first_some (meaning (types_from 0 defs) text) (meaning (measures_from 0 measured) text)) (meaning (procedures_from 0 procs) text)
added defs measured procs text =
    procedures_added (with_measures (with_definitions [] 0 defs) 0 measured) 0 procs text
    ∙ ap (λ m. first_some m (meaning (procedures_from 0 procs) text))
    (measures_added (with_definitions [] 0 defs) 0 measured text
    ∙ ap (λ m. first_some m (meaning (measures_from 0 measured) text)) (types_added [] 0 defs text))

pub names_mean_first_entries : (source : Source) (text : List ℕ) → meaning (names_of source) text ≡ meaning (entries source) text
names_mean_first_entries source text =
    added (definitions source) (measures source) source.procs text
    ∙ three (types_from 0 (definitions source)) (measures_from 0 (measures source)) (procedures_from 0 source.procs) text
