-- What the names of a source mean: each definition, measure and procedure by its own name.
use Rattle.std.proofs.Common.{◌≡◌, ℕ, zero, suc, ◌+◌, ◌<◌, ◌≤◌, ◌⊎◌, List, [], ◌∷◌, ◌++◌, map, length, Option, Some, None, slice_get, refl, sym, ap, ◌∙◌, subst, inl, inr, arith}
use Rattle.std.specs.Prelude.{flat_map, Bool, true, false, if◌then◌else◌, is_some}
use Rattle.std.specs.Str.{bytes_eq}
use Rattle.std.proofs.lemmas.Bool.{eqb-true}
use Rattle.std.proofs.lemmas.List.{length-map}
use Rattle.luo_model.specs.declared.program.Universe.{Universe}
use Rattle.luo_source.specs.declared.names.Name.{Name}
use Rattle.luo_source.specs.Plain.Types.{TypeExpr, Named, TypeDef}
use Rattle.luo_source.specs.declared.types.MeasureDef.{MeasureDef}
use Rattle.luo_source.specs.Plain.Source.{ProcDef, Source}
use Rattle.luo_rules.specs.declared.names.Meaning.{Meaning}
use Rattle.luo_rules.specs.declared.names.Meaning.TheVariants as mean
use Rattle.luo_rules.specs.Meanings.{meaning, with_name}
use Rattle.luo_rules.specs.Definitions.{Definition, copies, definitions, measures, values, with_definitions, with_measures, with_procedures, names_of}
use Rattle.luo_rules.specs.inner.Naming.{circle}
use Rattle.luo_rules.specs.TypeBreaches.{is_meaning, name_breaches, expr_breaches, circle_breaches, circle_breach, first_circle, first_some, new_types, type_breaches, types_breaches}
use Rattle.luo_rules.proofs.Lists.{some_same, none_some, get_cases, map_get, nil_left, nil_right, none_first, none_then, chosen_true}

-- one of two by a test
pub split_if : {A : Type 0} (b : Bool) (x y : Option A) (m : A) → (if b then x else y) ≡ Some m → (x ≡ Some m) ⊎ (y ≡ Some m)
split_if true x y m e = inl e
split_if false x y m e = inr e

pub either_if : {A : Type 0} (P : A → Type 0) (b : Bool) (x y : A) → P x → P y → P (if b then x else y)
either_if P true x y p q = p
either_if P false x y p q = q

-- what a name may mean: a definition below this number, a measure of at most this value, or a procedure below this number
abbrev pub MeansWithin : ℕ → ℕ → ℕ → Meaning → Type 0
MeansWithin defs most procs (mean.Definition i) = i < defs
MeansWithin defs most procs (mean.Measure k v) = v ≤ most
MeansWithin defs most procs (mean.Procedure f) = f < procs

abbrev pub NamesWithin : ℕ → ℕ → ℕ → List (List ℕ × Meaning) → Type 0
NamesWithin defs most procs names = (text : List ℕ) (m : Meaning) → meaning names text ≡ Some m → MeansWithin defs most procs m

meaning_push : (names : List (List ℕ × Meaning)) (more : List ℕ × Meaning) (text : List ℕ) (m : Meaning) → meaning (names ++ more ∷ []) text ≡ Some m → (meaning names text ≡ Some m) ⊎ (more.1 ≡ m)
meaning_push [] more text m e = elim (split_if (bytes_eq more.0 text) (Some more.1) None m e) [ inl h ↦ inr (some_same more.1 m h) | inr h ↦ absurd (none_some m h) ]
meaning_push (first ∷ rest) more text m e = by (λ h. meaning_push rest more text m h) (bytes_eq first.0 text) e
  where
    by : (meaning (rest ++ more ∷ []) text ≡ Some m → (meaning rest text ≡ Some m) ⊎ (more.1 ≡ m)) → (b : Bool) → (if b then Some first.1 else meaning (rest ++ more ∷ []) text) ≡ Some m → ((if b then Some first.1 else meaning rest text) ≡ Some m) ⊎ (more.1 ≡ m)
    by on true h = inl h
    by on false h = on h

with_name_within : (defs most procs : ℕ) (names : List (List ℕ × Meaning)) (more : List ℕ × Meaning) → NamesWithin defs most procs names → MeansWithin defs most procs more.1 → NamesWithin defs most procs (with_name names more)
with_name_within defs most procs names more h w =
    either_if (NamesWithin defs most procs) (is_some (meaning names more.0)) names (names ++ more ∷ []) h
    (λ text m e. elim (meaning_push names more text m e) [ inl k ↦ h text m k | inr k ↦ subst (MeansWithin defs most procs) k w ])

definitions_within : (defs most procs : ℕ) (names : List (List ℕ × Meaning)) (i : ℕ) (ds : List Definition) → i + length ds ≤ defs → NamesWithin defs most procs names → NamesWithin defs most procs (with_definitions names i ds)
definitions_within defs most procs names i [] l h = h
definitions_within defs most procs names i (d ∷ ds) l h =
    definitions_within defs most procs (with_name names (d.name.text, mean.Definition i)) (suc i) ds (omega arith) (with_name_within defs most procs names (d.name.text, mean.Definition i) h (omega arith))

-- no measure has a greater value
abbrev pub AllWithin : ℕ → List (Name × ℕ) → Type 0
AllWithin most [] = Unit {0}
AllWithin most (m ∷ ms) = (m.1 ≤ most) × AllWithin most ms

measures_within : (defs most procs : ℕ) (names : List (List ℕ × Meaning)) (k : ℕ) (ms : List (Name × ℕ)) → AllWithin most ms → NamesWithin defs most procs names → NamesWithin defs most procs (with_measures names k ms)
measures_within defs most procs names k [] w h = h
measures_within defs most procs names k (m ∷ ms) w h =
    measures_within defs most procs (with_name names (m.0.text, mean.Measure k m.1)) (suc k) ms w.1 (with_name_within defs most procs names (m.0.text, mean.Measure k m.1) h w.0)

procedures_within : (defs most procs : ℕ) (names : List (List ℕ × Meaning)) (f : ℕ) (ps : List ProcDef) → f + length ps ≤ procs → NamesWithin defs most procs names → NamesWithin defs most procs (with_procedures names f ps)
procedures_within defs most procs names f [] l h = h
procedures_within defs most procs names f (p ∷ ps) l h =
    procedures_within defs most procs (with_name names (p.name.text, mean.Procedure f)) (suc f) ps (omega arith) (with_name_within defs most procs names (p.name.text, mean.Procedure f) h (omega arith))

none_within : (defs most procs : ℕ) → NamesWithin defs most procs []
none_within defs most procs text m e = absurd (none_some m e)

-- a name means what there is
pub names_within : (source : Source) (most : ℕ) → AllWithin most (measures source) → NamesWithin (length (definitions source)) most (length source.procs) (names_of source)
names_within source most w =
    let defs : ℕ = length (definitions source) in
    let procs : ℕ = length source.procs in
    let first : List (List ℕ × Meaning) = with_definitions [] 0 (definitions source) in
    let second : List (List ℕ × Meaning) = with_measures first 0 (measures source) in
    procedures_within defs most procs second 0 source.procs (omega arith)
    (measures_within defs most procs first 0 (measures source) w (definitions_within defs most procs [] 0 (definitions source) (omega arith) (none_within defs most procs)))

-- no measure definition has a greater value
abbrev pub ValuesWithin : ℕ → List MeasureDef → Type 0
ValuesWithin most [] = Unit {0}
ValuesWithin most (m ∷ ms) = (m.value ≤ most) × ValuesWithin most ms

within_append : (most : ℕ) (xs ys : List (Name × ℕ)) → AllWithin most xs → AllWithin most ys → AllWithin most (xs ++ ys)
within_append most [] ys h k = k
within_append most (x ∷ xs) ys h k = (h.0, within_append most xs ys h.1 k)

copies_within : (most value : ℕ) (names : List Name) → value ≤ most → AllWithin most (map (λ name. (name, value)) names)
copies_within most value [] h = tt
copies_within most value (n ∷ ns) h = (h, copies_within most value ns h)

pub all_within : (most : ℕ) (ms : List MeasureDef) → ValuesWithin most ms → AllWithin most (flat_map values ms)
all_within most [] h = tt
all_within most (m ∷ ms) h = within_append most (values m) (flat_map values ms) (copies_within most m.value m.names h.0) (all_within most ms h.1)

-- a meaning that is this one
definition_is : (o : Option Meaning) (j : ℕ) → is_meaning o (mean.Definition j) ≡ true → o ≡ Some (mean.Definition j)
definition_is None j e = absurd (cc)
definition_is (Some (mean.Definition i)) j e = ap (λ k. Some (mean.Definition k)) (eqb-true i j e)
definition_is (Some (mean.Measure k v)) j e = absurd (cc)
definition_is (Some (mean.Procedure f)) j e = absurd (cc)

procedure_is : (o : Option Meaning) (j : ℕ) → is_meaning o (mean.Procedure j) ≡ true → o ≡ Some (mean.Procedure j)
procedure_is None j e = absurd (cc)
procedure_is (Some (mean.Definition i)) j e = absurd (cc)
procedure_is (Some (mean.Measure k v)) j e = absurd (cc)
procedure_is (Some (mean.Procedure f)) j e = ap (λ k. Some (mean.Procedure k)) (eqb-true f j e)

module _ (names : List (List ℕ × Meaning)) where
  pub means_definition : (name : Name) (i : ℕ) → name_breaches names name (mean.Definition i) ≡ [] → meaning names name.text ≡ Some (mean.Definition i)
  means_definition name i e = definition_is (meaning names name.text) i (chosen_true (is_meaning (meaning names name.text) (mean.Definition i)) [] _ e)

  pub means_procedure : (name : Name) (f : ℕ) → name_breaches names name (mean.Procedure f) ≡ [] → meaning names name.text ≡ Some (mean.Procedure f)
  means_procedure name f e = procedure_is (meaning names name.text) f (chosen_true (is_meaning (meaning names name.text) (mean.Procedure f)) [] _ e)

-- a right side that is a name is on no circle
abbrev pub NoCircle : List (List ℕ × Meaning) → List Definition → ℕ → TypeExpr → Type 0
NoCircle names defs i (Named name) = circle names defs i ≡ None
NoCircle names defs i _ = Unit {0}

-- a definition without breach
pub record Sound (universe : Universe) (names : List (List ℕ × Meaning)) (defs : List Definition) (i : ℕ) (d : Definition) : Type 0 where
  pub own_name : meaning names d.name.text ≡ Some (mean.Definition i)
  pub right_side : expr_breaches universe names d.right ≡ []
  pub no_circle : NoCircle names defs i d.right

module _ (universe : Universe) (names : List (List ℕ × Meaning)) (defs : List Definition) where
  new_get : (i : ℕ) (ns : List Name) (k : ℕ) (name : Name) → new_types names i ns ≡ [] → slice_get ns k ≡ Some name → meaning names name.text ≡ Some (mean.Definition (i + k))
  new_get i [] k name e h = absurd (none_some name h)
  new_get i (n ∷ ns) zero name e h =
      let m = means_definition names n i (nil_left (name_breaches names n (mean.Definition i)) (new_types names (suc i) ns) e) in
      ap (λ (z : Name). meaning names z.text) (sym (some_same n name h)) ∙ m ∙ ap (λ k. Some (mean.Definition k)) (omega arith)
  new_get i (n ∷ ns) (suc k) name e h =
      new_get (suc i) ns k name (nil_right (name_breaches names n (mean.Definition i)) (new_types names (suc i) ns) e) h ∙ ap (λ k. Some (mean.Definition k)) (omega arith)

  first_none : {A : Type 0} (o p : Option A) → first_some o p ≡ None → (o ≡ None) × (p ≡ None)
  first_none None p e = (refl, e)
  first_none (Some x) p e = absurd (cc)

  circles_none : (i : ℕ) (ns : List Name) (k : ℕ) (name : Name) → first_circle names defs i ns ≡ None → slice_get ns k ≡ Some name → circle names defs (i + k) ≡ None
  circles_none i [] k name e h = absurd (none_some name h)
  circles_none i (n ∷ ns) zero name e h = ap (circle names defs) (omega arith) ∙ (first_none (circle names defs i) (first_circle names defs (suc i) ns) e).0
  circles_none i (n ∷ ns) (suc k) name e h =
      ap (circle names defs) (omega arith) ∙ circles_none (suc i) ns k name (first_none (circle names defs i) (first_circle names defs (suc i) ns) e).1 h

  no_breach : (name : Name) (o : Option (List (List ℕ))) → circle_breach name o ≡ [] → o ≡ None
  no_breach name None e = refl
  no_breach name (Some chain) e = absurd (cc)

  no_circles : (i : ℕ) (ns : List Name) (k : ℕ) (name : Name) (e : TypeExpr) → circle_breaches names defs i ns e ≡ [] → slice_get ns k ≡ Some name → NoCircle names defs (i + k) e
  no_circles i ns k name (Named used) h at = circles_none i ns k name (no_breach used (first_circle names defs i ns) h) at
  no_circles i ns k name _ h at = tt

  pub sound : (i : ℕ) (ts : List TypeDef) (k : ℕ) (d : Definition) → types_breaches universe names defs i ts ≡ [] → slice_get (flat_map copies ts) k ≡ Some d → Sound universe names defs (i + k) d
  sound i [] k d e h = absurd (none_some d h)
  sound i (t ∷ ts) k d e h =
      let here : type_breaches universe names defs i t ≡ [] = nil_left (type_breaches universe names defs i t) (types_breaches universe names defs (i + length t.names) ts) e in
      let new : new_types names i t.names ≡ [] = nil_left (new_types names i t.names) _ here in
      let body = nil_right (new_types names i t.names) _ here in
      elim (get_cases (copies t) (flat_map copies ts) k d h) [
        | inl g ↦
            let n = map_get (λ (name : Name). let v : Definition = record { name = name; right = t.body } in v) t.names k d g in
            let made : Sound universe names defs (i + k) (record { name = n.0; right = t.body }) =
            record {
              own_name = new_get i t.names k n.0 new n.1;
              right_side = none_first (expr_breaches universe names t.body) (circle_breaches names defs i t.names t.body) body;
              no_circle = no_circles i t.names k n.0 t.body (none_then (expr_breaches universe names t.body) (circle_breaches names defs i t.names t.body) body) n.1;
            } in
            subst (Sound universe names defs (i + k)) (sym n.2) made
        | inr g ↦
            let more = sound (i + length t.names) ts g.0 d (nil_right (type_breaches universe names defs i t) (types_breaches universe names defs (i + length t.names) ts) e) g.2 in
            let long : length (copies t) ≡ length t.names = length-map t.names (λ (name : Name). let v : Definition = record { name = name; right = t.body } in v) in
            subst (λ n. Sound universe names defs n d) (omega (arith, g.1, long)) more
      ]
