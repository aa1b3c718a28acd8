-- What the names of a sample mean.
use Rattle.std.proofs.Common.{◌≡◌, ◌<◌, ◌⊎◌, ℕ, zero, suc, List, [], ◌∷◌, refl, ap, sym, ◌∙◌, subst, inl, inr, arith, Some, codes}
use Rattle.std.specs.Prelude.{flat_map}
use Rattle.std.specs.Fmt.{digits}
use Rattle.luo_model.specs.declared.program.Universe.{Universe}
use Rattle.luo_source.specs.Plain.Types.{TypeDef}
use Rattle.luo_source.specs.declared.types.MeasureDef.{MeasureDef}
use Rattle.luo_source.specs.Plain.Source.{ProcDef, Source}
use Rattle.luo_rules.specs.declared.names.Meaning.{Meaning}
use Rattle.luo_rules.specs.declared.names.Meaning.TheVariants as mean
use Rattle.luo_rules.specs.Meanings.{meaning, with_name}
use Rattle.luo_rules.specs.Definitions.{copies, values, definitions, measures, with_definitions, with_measures, with_procedures, names_of}
use Rattle.luo_sample.specs.declared.choice.Choice.{Choice}
use Rattle.luo_sample.specs.Text.{type_name, proc_name}
use Rattle.luo_sample.proofs.Form.{atom_def, type_of, unit_def, proc_of, AreTypes, AreProcs, AllTypes, OneMeasure, IsSource}

abbrev Names : Type 0
Names = List (List ℕ × Meaning)

abbrev add_types : Names → ℕ → ℕ → Names
add_types names i zero = names
add_types names i (suc n) = add_types (with_name names (type_name i, mean.Definition (suc i))) (suc i) n

abbrev add_procs : Names → ℕ → ℕ → Names
add_procs names i zero = names
add_procs names i (suc n) = add_procs (with_name names (proc_name i, mean.Procedure i)) (suc i) n

types_added : (u : Universe) (choice : ℕ → Choice) (names : Names) (i n : ℕ) (ds : List TypeDef) → AreTypes u choice i n ds → with_definitions names (suc i) (flat_map copies ds) ≡ add_types names i n
types_added u choice names i zero [] e = refl
types_added u choice names i zero (d ∷ ds) e = absurd e
types_added u choice names i (suc n) [] e = absurd e
types_added u choice names i (suc n) (_ ∷ ds) (type_of ks, e) = types_added u choice (with_name names (type_name i, mean.Definition (suc i))) (suc i) n ds e

procs_added : (choice : ℕ → Choice) (names : Names) (i n : ℕ) (ps : List ProcDef) → AreProcs choice i n ps → with_procedures names i ps ≡ add_procs names i n
procs_added choice names i zero [] e = refl
procs_added choice names i zero (p ∷ ps) e = absurd e
procs_added choice names i (suc n) [] e = absurd e
procs_added choice names i (suc n) (_ ∷ ps) (proc_of ks, e) = procs_added choice (with_name names (proc_name i, mean.Procedure i)) (suc i) n ps e

all_types_added : (u : Universe) (choice : ℕ → Choice) (ds : List TypeDef) → AllTypes u choice ds → with_definitions [] 0 (flat_map copies ds) ≡ add_types ((codes "z", mean.Definition 0) ∷ []) 0 20
all_types_added u choice [] e = absurd e
all_types_added u choice (_ ∷ ds) (atom_def, e) = types_added u choice ((codes "z", mean.Definition 0) ∷ []) 0 20 ds e

measures_added : (names : Names) (ms : List MeasureDef) → OneMeasure ms → with_measures names 0 (flat_map values ms) ≡ with_name names (codes "unit", mean.Measure 0 1)
measures_added names [] e = absurd e
measures_added names (_ ∷ []) unit_def = refl
measures_added names (_ ∷ (_ ∷ _)) e = absurd e

-- all names, each with its meaning
abbrev pub table : Names
table =
    (codes "z", mean.Definition 0)
    ∷ (codes "t0", mean.Definition 1)
    ∷ (codes "t1", mean.Definition 2)
    ∷ (codes "t2", mean.Definition 3)
    ∷ (codes "t3", mean.Definition 4)
    ∷ (codes "t4", mean.Definition 5)
    ∷ (codes "t5", mean.Definition 6)
    ∷ (codes "t6", mean.Definition 7)
    ∷ (codes "t7", mean.Definition 8)
    ∷ (codes "t8", mean.Definition 9)
    ∷ (codes "t9", mean.Definition 10)
    ∷ (codes "t10", mean.Definition 11)
    ∷ (codes "t11", mean.Definition 12)
    ∷ (codes "t12", mean.Definition 13)
    ∷ (codes "t13", mean.Definition 14)
    ∷ (codes "t14", mean.Definition 15)
    ∷ (codes "t15", mean.Definition 16)
    ∷ (codes "t16", mean.Definition 17)
    ∷ (codes "t17", mean.Definition 18)
    ∷ (codes "t18", mean.Definition 19)
    ∷ (codes "t19", mean.Definition 20)
    ∷ (codes "unit", mean.Measure 0 1)
    ∷ (codes "p0", mean.Procedure 0)
    ∷ (codes "p1", mean.Procedure 1)
    ∷ (codes "p2", mean.Procedure 2)
    ∷ (codes "p3", mean.Procedure 3)
    ∷ (codes "p4", mean.Procedure 4)
    ∷ (codes "p5", mean.Procedure 5)
    ∷ (codes "p6", mean.Procedure 6)
    ∷ (codes "p7", mean.Procedure 7)
    ∷ (codes "p8", mean.Procedure 8)
    ∷ (codes "p9", mean.Procedure 9)
    ∷ (codes "p10", mean.Procedure 10)
    ∷ (codes "p11", mean.Procedure 11)
    ∷ (codes "p12", mean.Procedure 12)
    ∷ (codes "p13", mean.Procedure 13)
    ∷ (codes "p14", mean.Procedure 14)
    ∷ (codes "p15", mean.Procedure 15)
    ∷ (codes "p16", mean.Procedure 16)
    ∷ (codes "p17", mean.Procedure 17)
    ∷ (codes "p18", mean.Procedure 18)
    ∷ (codes "p19", mean.Procedure 19)
    ∷ []

made : add_procs (with_name (add_types ((codes "z", mean.Definition 0) ∷ []) 0 20) (codes "unit", mean.Measure 0 1)) 0 20 ≡ table
unfolding digits
made = refl

pub names_are : (u : Universe) (choice : ℕ → Choice) (s : Source) → IsSource u choice s → names_of s ≡ table
names_are u choice s q =
    procs_added choice (with_measures (with_definitions [] 0 (definitions s)) 0 (measures s)) 0 20 s.procs q.procs
    ∙ ap (λ names. add_procs names 0 20) (measures_added (with_definitions [] 0 (definitions s)) s.measures q.measures ∙ ap (λ names. with_name names (codes "unit", mean.Measure 0 1)) (all_types_added u choice s.types q.types))
    ∙ made

-- P holds of each number below n
abbrev pub AllBelow : (ℕ → Type 0) → ℕ → Type 0
AllBelow P zero = Unit {0}
AllBelow P (suc n) = AllBelow P n × P n

pub by_all : (P : ℕ → Type 0) (n : ℕ) → AllBelow P n → (i : ℕ) → i < n → P i
by_all P zero a i l = absurd (omega (arith, l))
by_all P (suc n) a i l = elim (last i n l) [ inl e ↦ subst P (sym e) a.1 | inr m ↦ by_all P n a.0 i m ]
  where
    last : (i n : ℕ) → i < suc n → (i ≡ n) ⊎ (i < n)
    last i n l = grind arith

types_mean : AllBelow (λ i. meaning table (type_name i) ≡ Some (mean.Definition (suc i))) 20
unfolding digits
types_mean = ((((((((((((((((((((tt, refl), refl), refl), refl), refl), refl), refl), refl), refl), refl), refl), refl), refl), refl), refl), refl), refl), refl), refl), refl)

procs_mean : AllBelow (λ i. meaning table (proc_name i) ≡ Some (mean.Procedure i)) 20
unfolding digits
procs_mean = ((((((((((((((((((((tt, refl), refl), refl), refl), refl), refl), refl), refl), refl), refl), refl), refl), refl), refl), refl), refl), refl), refl), refl), refl)

pub type_means : (i : ℕ) → i < 20 → meaning table (type_name i) ≡ Some (mean.Definition (suc i))
type_means i l = by_all (λ i. meaning table (type_name i) ≡ Some (mean.Definition (suc i))) 20 types_mean i l

pub proc_means : (i : ℕ) → i < 20 → meaning table (proc_name i) ≡ Some (mean.Procedure i)
proc_means i l = by_all (λ i. meaning table (proc_name i) ≡ Some (mean.Procedure i)) 20 procs_mean i l

pub z_means : meaning table (codes "z") ≡ Some (mean.Definition 0)
z_means = refl

pub unit_means : meaning table (codes "unit") ≡ Some (mean.Measure 0 1)
unit_means = refl
