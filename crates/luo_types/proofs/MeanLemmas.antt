-- Names mean definitions that are there.
use Rattle.std.proofs.Common.{◌≡◌, ℕ, suc, ◌+◌, ◌<◌, true, false, cond, List, [], ◌∷◌, ◌++◌, length, Option, Some, None, is_some, ◌⊎◌, inl, inr, refl, ap, ◌∙◌, sym, arith}
use Rattle.std.specs.Str.{bytes_eq}
use Rattle.luo_source.specs.Plain.Source.{ProcDef, Source}
use Rattle.luo_source.specs.declared.names.Name.{Name}
use Rattle.luo_rules.specs.declared.names.Meaning.{Meaning}
use Rattle.luo_rules.specs.declared.names.Meaning.TheVariants as mean
use Rattle.luo_rules.specs.Meanings.{meaning, with_name}
use Rattle.luo_rules.specs.Definitions.{Definition, definitions, measures, definition_meant, with_definitions, with_measures, with_procedures, names_of}
use Rattle.luo_types.specs.inner.NodeLists.{MeanBelow}

-- one name more gives its meaning or changes nothing
snoc : (names : List (List ℕ × Meaning)) (more : List ℕ × Meaning) (text : List ℕ) → (meaning (names ++ more ∷ []) text ≡ meaning names text) ⊎ (meaning (names ++ more ∷ []) text ≡ Some more.1)
snoc [] more text = elim (bytes_eq more.0 text) as (λ b. (cond b (Some more.1) None ≡ None) ⊎ (cond b (Some more.1) None ≡ Some more.1)) [ true ↦ inr refl | false ↦ inl refl ]
snoc (first ∷ rest) more text =
    elim (bytes_eq first.0 text) as (λ b. (cond b (Some first.1) (meaning (rest ++ more ∷ []) text) ≡ cond b (Some first.1) (meaning rest text)) ⊎ (cond b (Some first.1) (meaning (rest ++ more ∷ []) text) ≡ Some more.1))
    [ true ↦ inl refl | false ↦ snoc rest more text ]

either : (names : List (List ℕ × Meaning)) (more : List ℕ × Meaning) (text : List ℕ) → (meaning (with_name names more) text ≡ meaning names text) ⊎ (meaning (with_name names more) text ≡ Some more.1)
either names more text =
    elim (is_some (meaning names more.0)) as (λ b. (meaning (cond b names (names ++ more ∷ [])) text ≡ meaning names text) ⊎ (meaning (cond b names (names ++ more ∷ [])) text ≡ Some more.1))
    [ true ↦ inl refl | false ↦ snoc names more text ]

one_more : (names : List (List ℕ × Meaning)) (more : List ℕ × Meaning) (n : ℕ) → MeanBelow names n → ((i : ℕ) → definition_meant (Some more.1) ≡ Some i → i < n) → MeanBelow (with_name names more) n
one_more names more n below here text i e = elim (either names more text) [
  | inl same ↦ below text i (ap definition_meant (sym same) ∙ e)
  | inr new ↦ here i (ap definition_meant (sym new) ∙ e)
]

more_definitions : (names : List (List ℕ × Meaning)) (i : ℕ) (ds : List Definition) → MeanBelow names i → MeanBelow (with_definitions names i ds) (i + length ds)
more_definitions names i [] below text j e = omega (arith, below text j e)
more_definitions names i (d ∷ ds) below text j e =
    let wider : MeanBelow names (suc i) = λ text k f. omega (arith, below text k f) in
    let next = more_definitions (with_name names (d.name.text, mean.Definition i)) (suc i) ds (one_more names (d.name.text, mean.Definition i) (suc i) wider (λ k f. omega (arith, ap (some_or 0) f))) text j e in
    omega (arith, next)
  where
    some_or : ℕ → Option ℕ → ℕ
    some_or d None = d
    some_or d (Some n) = n

more_measures : (names : List (List ℕ × Meaning)) (n k : ℕ) (ms : List (Name × ℕ)) → MeanBelow names n → MeanBelow (with_measures names k ms) n
more_measures names n k [] below = below
more_measures names n k (m ∷ ms) below = more_measures (with_name names (m.0.text, mean.Measure k m.1)) n (suc k) ms (one_more names (m.0.text, mean.Measure k m.1) n below (λ i e. cc))

more_procedures : (names : List (List ℕ × Meaning)) (n f : ℕ) (ps : List ProcDef) → MeanBelow names n → MeanBelow (with_procedures names f ps) n
more_procedures names n f [] below = below
more_procedures names n f (p ∷ ps) below = more_procedures (with_name names (p.name.text, mean.Procedure f)) n (suc f) ps (one_more names (p.name.text, mean.Procedure f) n below (λ i e. cc))

-- the names of a source mean its definitions alone
pub mean_below : (s : Source) → MeanBelow (names_of s) (length (definitions s))
mean_below s = more_procedures _ _ 0 s.procs (more_measures _ _ 0 (measures s) (λ text i e. omega (arith, more_definitions [] 0 (definitions s) (λ text i e. cc) text i e)))
