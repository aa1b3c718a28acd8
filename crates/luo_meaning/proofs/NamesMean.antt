-- The meaning of a name is a definition, a measure or a procedure of this name, and each of these has a meaning.
use Rattle.std.proofs.Common.{◌≡◌, ℕ, zero, suc, ◌+◌, List, [], ◌∷◌, ◌++◌, Some, None, slice_get, refl, sym, ap, ◌∙◌, subst, inl, inr, arith}
use Rattle.std.specs.Prelude.{flat_map, Bool, true, false, if◌then◌else◌, is_some}
use Rattle.std.specs.Str.{bytes_eq}
use Rattle.std.proofs.lemmas.Slice.Eq.{bytes_eq-Decides}
use Rattle.luo_finite.specs.Listing.{In}
use Rattle.luo_finite.proofs.Membership.{In-append_left, In-append_right, In-append_cases, In-map, In-map_back}
use Rattle.luo_source.specs.declared.names.Name.{Name}
use Rattle.luo_source.specs.Plain.Types.{TypeDef}
use Rattle.luo_source.specs.declared.types.MeasureDef.{MeasureDef}
use Rattle.luo_source.specs.Plain.Source.{ProcDef, Source}
use Rattle.luo_rules.specs.declared.names.Meaning.{Meaning}
use Rattle.luo_rules.specs.declared.names.Meaning.TheVariants as mean
use Rattle.luo_rules.specs.Meanings.{meaning, with_name}
use Rattle.luo_rules.specs.Definitions.{Definition, copies, definitions, measures, values, with_definitions, with_measures, with_procedures, names_of}
use Rattle.luo_rules.proofs.Lists.{some_same, none_some}
use Rattle.luo_rules.proofs.NameFacts.{either_if}
use Rattle.luo_meaning.specs.Defined.{IsNamedIn}

-- a meaning is of the thing of this name at its place
abbrev pub Means : List Definition → List (Name × ℕ) → List ProcDef → List ℕ → Meaning → Type 0
Means defs ms ps text (mean.Definition i) = (d : Definition) × (slice_get defs i ≡ Some d) × (d.name.text ≡ text)
Means defs ms ps text (mean.Measure k v) = (m : Name × ℕ) × (slice_get ms k ≡ Some m) × (m.0.text ≡ text) × (m.1 ≡ v)
Means defs ms ps text (mean.Procedure f) = (p : ProcDef) × (slice_get ps f ≡ Some p) × (p.name.text ≡ text)

abbrev AllMean : List Definition → List (Name × ℕ) → List ProcDef → List (List ℕ × Meaning) → Type 0
AllMean defs ms ps names = (text : List ℕ) (m : Meaning) → meaning names text ≡ Some m → Means defs ms ps text m

pub same_text : (a b : List ℕ) → bytes_eq a b ≡ true → a ≡ b
same_text a b e = (bytes_eq-Decides a b).0 e

module _ (defs : List Definition) (ms : List (Name × ℕ)) (ps : List ProcDef) where
  one_means : (more : List ℕ × Meaning) (text : List ℕ) (m : Meaning) (b : Bool) → bytes_eq more.0 text ≡ b → Means defs ms ps more.0 more.1 → (if b then Some more.1 else None) ≡ Some m → Means defs ms ps text m
  one_means more text m true t w e = subst (λ z. Means defs ms ps text z) (some_same more.1 m e) (subst (λ z. Means defs ms ps z more.1) (same_text more.0 text t) w)
  one_means more text m false t w e = absurd (none_some m e)

  pushed : (names : List (List ℕ × Meaning)) (more : List ℕ × Meaning) → Means defs ms ps more.0 more.1 → (text : List ℕ) (m : Meaning) → (meaning names text ≡ Some m → Means defs ms ps text m) → meaning (names ++ more ∷ []) text ≡ Some m → Means defs ms ps text m
  pushed [] more w text m h e = one_means more text m (bytes_eq more.0 text) refl w e
  pushed (first ∷ rest) more w text m h e = by (bytes_eq first.0 text) (λ g. pushed rest more w text m g) h e
    where
      by : (b : Bool) → ((meaning rest text ≡ Some m → Means defs ms ps text m) → meaning (rest ++ more ∷ []) text ≡ Some m → Means defs ms ps text m)
          → ((if b then Some first.1 else meaning rest text) ≡ Some m → Means defs ms ps text m) → (if b then Some first.1 else meaning (rest ++ more ∷ []) text) ≡ Some m → Means defs ms ps text m
      by true on h e = h e
      by false on h e = on h e

  with_one : (names : List (List ℕ × Meaning)) (more : List ℕ × Meaning) → AllMean defs ms ps names → Means defs ms ps more.0 more.1 → AllMean defs ms ps (with_name names more)
  with_one names more h w = either_if (AllMean defs ms ps) (is_some (meaning names more.0)) names (names ++ more ∷ []) h (λ text m e. pushed names more w text m (h text m) e)

  definitions_mean : (names : List (List ℕ × Meaning)) (i : ℕ) (ds : List Definition) → ((k : ℕ) (d : Definition) → slice_get ds k ≡ Some d → slice_get defs (i + k) ≡ Some d) → AllMean defs ms ps names → AllMean defs ms ps (with_definitions names i ds)
  definitions_mean names i [] l h = h
  definitions_mean names i (d ∷ ds) l h =
      let here : slice_get defs i ≡ Some d = ap (slice_get defs) (omega arith) ∙ l zero d refl in
      definitions_mean (with_name names (d.name.text, mean.Definition i)) (suc i) ds (λ k e g. ap (slice_get defs) (omega arith) ∙ l (suc k) e g)
      (with_one names (d.name.text, mean.Definition i) h (d, here, refl))

  measures_mean : (names : List (List ℕ × Meaning)) (k : ℕ) (rest : List (Name × ℕ)) → ((j : ℕ) (m : Name × ℕ) → slice_get rest j ≡ Some m → slice_get ms (k + j) ≡ Some m) → AllMean defs ms ps names → AllMean defs ms ps (with_measures names k rest)
  measures_mean names k [] l h = h
  measures_mean names k (m ∷ rest) l h =
      let here : slice_get ms k ≡ Some m = ap (slice_get ms) (omega arith) ∙ l zero m refl in
      measures_mean (with_name names (m.0.text, mean.Measure k m.1)) (suc k) rest (λ j e g. ap (slice_get ms) (omega arith) ∙ l (suc j) e g)
      (with_one names (m.0.text, mean.Measure k m.1) h (m, here, refl, refl))

  procedures_mean : (names : List (List ℕ × Meaning)) (f : ℕ) (rest : List ProcDef) → ((j : ℕ) (p : ProcDef) → slice_get rest j ≡ Some p → slice_get ps (f + j) ≡ Some p) → AllMean defs ms ps names → AllMean defs ms ps (with_procedures names f rest)
  procedures_mean names f [] l h = h
  procedures_mean names f (p ∷ rest) l h =
      let here : slice_get ps f ≡ Some p = ap (slice_get ps) (omega arith) ∙ l zero p refl in
      procedures_mean (with_name names (p.name.text, mean.Procedure f)) (suc f) rest (λ j e g. ap (slice_get ps) (omega arith) ∙ l (suc j) e g)
      (with_one names (p.name.text, mean.Procedure f) h (p, here, refl))

from_nothing : {A : Type 0} (xs : List A) (k : ℕ) (x : A) → slice_get xs k ≡ Some x → slice_get xs (0 + k) ≡ Some x
from_nothing xs k x e = ap (slice_get xs) (omega arith) ∙ e

-- all names of a source mean so
pub names_mean : (source : Source) (text : List ℕ) (m : Meaning) → meaning (names_of source) text ≡ Some m → Means (definitions source) (measures source) source.procs text m
names_mean source =
    let defs : List Definition = definitions source in
    let ms : List (Name × ℕ) = measures source in
    let first : List (List ℕ × Meaning) = with_definitions [] 0 defs in
    let second : List (List ℕ × Meaning) = with_measures first 0 ms in
    procedures_mean defs ms source.procs second 0 source.procs (from_nothing source.procs)
    (measures_mean defs ms source.procs first 0 ms (from_nothing ms)
    (definitions_mean defs ms source.procs [] 0 defs (from_nothing defs) (λ text m e. absurd (none_some m e))))

-- a definition of this name is one of those of the source, with its right side
pub type_of : (ts : List TypeDef) (d : Definition) → In d (flat_map copies ts) → (t : TypeDef) × In t ts × IsNamedIn d.name.text t.names × (t.body ≡ d.right)
type_of [] d h = absurd h
type_of (t ∷ ts) d h =
    elim (In-append_cases d (copies t) (flat_map copies ts) h) [
      | inl i ↦
          let n = In-map_back (λ (name : Name). let v : Definition = record { name = name; right = t.body } in v) d t.names i in
          (t, inl refl, (n.0, n.1, sym (ap (λ (z : Definition). z.name.text) n.2)), sym (ap (λ (z : Definition). z.right) n.2))
      | inr i ↦ let r = type_of ts d i in (r.0, inr r.1, r.2, r.3)
    ]

pub of_type : (ts : List TypeDef) (t : TypeDef) (name : Name) → In t ts → In name t.names → In (let v : Definition = record { name = name; right = t.body } in v) (flat_map copies ts)
of_type [] t name h i = absurd h
of_type (u ∷ ts) t name (inl e) i =
    let v : Definition = record { name = name; right = t.body } in
    In-append_left v (copies u) (flat_map copies ts) (subst (λ (w : TypeDef). In v (copies w)) e (In-map (λ (name : Name). let v : Definition = record { name = name; right = t.body } in v) name t.names i))
of_type (u ∷ ts) t name (inr h) i = In-append_right _ (copies u) (flat_map copies ts) (of_type ts t name h i)

pub measure_of : (ms : List MeasureDef) (m : Name × ℕ) → In m (flat_map values ms) → (d : MeasureDef) × In d ms × IsNamedIn m.0.text d.names × (d.value ≡ m.1)
measure_of [] m h = absurd h
measure_of (d ∷ ms) m h =
    elim (In-append_cases m (values d) (flat_map values ms) h) [
      | inl i ↦
          let n = In-map_back (λ (name : Name). let v : Name × ℕ = (name, d.value) in v) m d.names i in
          (d, inl refl, (n.0, n.1, sym (ap (λ (z : Name × ℕ). z.0.text) n.2)), sym (ap (λ (z : Name × ℕ). z.1) n.2))
      | inr i ↦ let r = measure_of ms m i in (r.0, inr r.1, r.2, r.3)
    ]

pub of_measure : (ms : List MeasureDef) (d : MeasureDef) (name : Name) → In d ms → In name d.names → In (let v : Name × ℕ = (name, d.value) in v) (flat_map values ms)
of_measure [] d name h i = absurd h
of_measure (u ∷ ms) d name (inl e) i =
    let v : Name × ℕ = (name, d.value) in
    In-append_left v (values u) (flat_map values ms) (subst (λ (w : MeasureDef). In v (values w)) e (In-map (λ (name : Name). let v : Name × ℕ = (name, d.value) in v) name d.names i))
of_measure (u ∷ ms) d name (inr h) i = In-append_right _ (values u) (flat_map values ms) (of_measure ms d name h i)
