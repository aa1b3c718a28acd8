-- What breaks a rule is what is listed of it, thing by thing.
use Rattle.std.proofs.Common.{◌≡◌, ◌<◌, ℕ, List, [], ◌∷◌, length, inl, inr, ⊎_elim, Option, Some, None, Bool, true, false, not, nat_eq, nat_le, refl, sym, ap, ◌∙◌, subst, arith}
use Rattle.std.specs.Prelude.{if◌then◌else◌, decimal, flat_map}
use Rattle.std.proofs.lemmas.Bool.{eq-eqb, le-leb, leb-false, leb-true, eqb-true}
use Rattle.luo_finite.specs.Listing.{In}
use Rattle.luo_finite.proofs.Membership.{In-append_left, In-append_right, In-append_cases}
use Rattle.luo_model.specs.declared.program.Universe.{Universe}
use Rattle.luo_model.specs.declared.program.Universe.TheVariants.{Unlabelled, Labelled}
use Rattle.luo_model.specs.declared.program.Kind.{Kind}
use Rattle.luo_model.specs.declared.program.Kind.TheVariants.{Sequence, Set, Cycle, Multiset, Powerset}
use Rattle.luo_model.specs.declared.program.Part.{Part}
use Rattle.luo_model.specs.declared.program.Shape.{Shape}
use Rattle.luo_model.specs.declared.program.Shape.TheVariants as shape
use Rattle.luo_model.specs.Invariant.{IsKind, IsLow, greatest_weight}
use Rattle.luo_model.specs.Scopes.Stands.{Stand, IsCollection}
use Rattle.luo_source.specs.declared.names.Name.{Name}
use Rattle.luo_source.specs.declared.types.Bound.{Bound}
use Rattle.luo_source.specs.declared.statements.Pattern.{Pattern}
use Rattle.luo_source.specs.declared.statements.Pattern.TheVariants as pattern
use Rattle.luo_rules.specs.declared.names.Meaning.{Meaning}
use Rattle.luo_rules.specs.declared.names.Meaning.TheVariants as mean
use Rattle.luo_rules.specs.declared.rule.Rule.TheVariants.{Y1, Y2, Y3, Y4, Y5, Y6, Y7, Y8, Y9, Y10, Y11, Y12, Y13, Y14, Y15}
use Rattle.luo_rules.specs.declared.rule.Breach.{Breach}
use Rattle.luo_rules.specs.declared.setting.Setting.{Setting}
use Rattle.luo_rules.specs.declared.setting.Variable.{Variable}
use Rattle.luo_rules.specs.Breaches.{broken}
use Rattle.luo_rules.specs.Meanings.{type_use, procedure_use}
use Rattle.luo_rules.specs.Settings.{meant, signature_meant, shape_at, found, variable_use, argument_breaches, case_stands}
use Rattle.luo_rules.specs.Patterns.{fits, first_token, is_among, misfit, pattern_type_use, case_breaches}
use Rattle.luo_rules.specs.ValueBreaches.{misplaced, may_stand, given_breaches, differs}
use Rattle.luo_rules.specs.ValueBreaches as value
use Rattle.luo_rules.specs.Definitions.{Definition}
use Rattle.luo_rules.specs.TypeBreaches.{is_meaning, kind_word, kind_breaches, low_in, high_in, is_at_most, is_low, first_circle, circle_breach}
use Rattle.luo_rules.specs.StatementBreaches.{walk_into, walk_breaches}
use Rattle.luo_rules.specs.Whole.{result_breaches}
use Rattle.luo_rules.specs.Asked.{Sort, a_type, a_measure, a_procedure, Asked, defines, uses, collects, bounds, weighs, renames, results, reads, hands, cases, walks, gives, matches, repeats, makes, builds}
use Rattle.luo_rules.proofs.CircleFacts.{first_is, is_first}
use Rattle.luo_rules.specs.Broken.{at_name, at_token, is_sort, IsType, IsProcedure, IsTyped, Breaks, defined_again, bound_again, undefined, other_sort, circle, other_universe, unlabelled_cycle, no_number, low_bound, heavy, other_argument, other_arms, no_collection, unbound, labelled_result, other_variable, no_result, other_result, other_construct}
use Rattle.luo_rules.specs.Broken as break
use Rattle.luo_rules.proofs.AskedBreaches.{silent, use_of, if_bound, own}

-- an element of a list of lists is of one of them, and back
pub In_flat : {A B : Type 0} (f : A → List B) (xs : List A) (b : B) → In b (flat_map f xs) → (x : A) × In x xs × In b (f x)
In_flat f [] b i = absurd i
In_flat f (x ∷ xs) b i = ⊎_elim (λ j. (x, inl refl, j)) (λ j. let r = In_flat f xs b j in (r.0, inr r.1, r.2)) (In-append_cases b (f x) (flat_map f xs) i)

pub flat_In : {A B : Type 0} (f : A → List B) (xs : List A) (x : A) (b : B) → In x xs → In b (f x) → In b (flat_map f xs)
flat_In f [] x b h i = absurd h
flat_In f (y ∷ xs) x b (inl e) i = In-append_left b (f y) (flat_map f xs) (subst (λ z. In b (f z)) e i)
flat_In f (y ∷ xs) x b (inr h) i = In-append_right b (f y) (flat_map f xs) (flat_In f xs x b h i)

one_is : {A : Type 0} (x b : A) → In b (x ∷ []) → x ≡ b
one_is x b (inl e) = sym e
one_is x b (inr i) = absurd i

in_else : {A : Type 0} (t : Bool) (x b : A) → In b (if t then [] else (x ∷ [])) → (t ≡ false) × (x ≡ b)
in_else true x b i = absurd i
in_else false x b i = (refl, one_is x b i)

in_then : {A : Type 0} (t : Bool) (x b : A) → In b (if t then (x ∷ []) else []) → (t ≡ true) × (x ≡ b)
in_then true x b i = (refl, one_is x b i)
in_then false x b i = absurd i

else_in : {A : Type 0} (t : Bool) (x : A) → t ≡ false → In x (if t then [] else (x ∷ []))
else_in true x e = absurd (cc)
else_in false x e = inl refl

then_in : {A : Type 0} (t : Bool) (x : A) → t ≡ true → In x (if t then (x ∷ []) else [])
then_in true x e = inl refl
then_in false x e = absurd (cc)

differ : (a b : ℕ) → nat_eq a b ≡ false → a ≡ b → ⊥
differ a b e f = let k = eq-eqb a b f in cc

by_test : (a b : ℕ) (t : Bool) → nat_eq a b ≡ t → (a ≡ b → ⊥) → t ≡ false
by_test a b true e n = absurd (n (eqb-true a b e))
by_test a b false e n = refl

apart : (a b : ℕ) → (a ≡ b → ⊥) → nat_eq a b ≡ false
apart a b n = by_test a b (nat_eq a b) refl n

above : (a b : ℕ) → a < b → nat_le b a ≡ false
above a b h = by (nat_le b a) refl
  where
    by : (t : Bool) → nat_le b a ≡ t → t ≡ false
    by true e = absurd (omega (arith, h, leb-true b a e))
    by false e = refl

opposite : (t : Bool) → not t ≡ true → t ≡ false
opposite true e = absurd (cc)
opposite false e = refl

module _ (defs : List Definition) (s : Setting) where
  -- ---- what is listed breaks a rule
  use_breaks : (sort : Sort) (name : Name) (b : Breach) (m : Option Meaning) → meant s name ≡ m → In b (use_of sort m name) → Breaks defs s (uses sort name) b
  use_breaks a_type name b None e i = subst (Breaks defs s (uses a_type name)) (one_is _ b i) (undefined e)
  use_breaks a_type name b (Some (mean.Definition k)) e i = absurd i
  use_breaks a_type name b (Some (mean.Measure k v)) e i = subst (Breaks defs s (uses a_type name)) (one_is _ b i) (other_sort (mean.Measure k v) e refl)
  use_breaks a_type name b (Some (mean.Procedure f)) e i = subst (Breaks defs s (uses a_type name)) (one_is _ b i) (other_sort (mean.Procedure f) e refl)
  use_breaks a_measure name b None e i = subst (Breaks defs s (uses a_measure name)) (one_is _ b i) (undefined e)
  use_breaks a_measure name b (Some (mean.Definition k)) e i = subst (Breaks defs s (uses a_measure name)) (one_is _ b i) (other_sort (mean.Definition k) e refl)
  use_breaks a_measure name b (Some (mean.Measure k v)) e i = absurd i
  use_breaks a_measure name b (Some (mean.Procedure f)) e i = subst (Breaks defs s (uses a_measure name)) (one_is _ b i) (other_sort (mean.Procedure f) e refl)
  use_breaks a_procedure name b None e i = subst (Breaks defs s (uses a_procedure name)) (one_is _ b i) (undefined e)
  use_breaks a_procedure name b (Some (mean.Definition k)) e i = subst (Breaks defs s (uses a_procedure name)) (one_is _ b i) (other_sort (mean.Definition k) e refl)
  use_breaks a_procedure name b (Some (mean.Measure k v)) e i = subst (Breaks defs s (uses a_procedure name)) (one_is _ b i) (other_sort (mean.Measure k v) e refl)
  use_breaks a_procedure name b (Some (mean.Procedure f)) e i = absurd i

  no_set : s.universe ≡ Unlabelled → s.universe ≡ Labelled → ⊥
  no_set e k = cc

  kind_breaks : (kind : Kind) (at : ℕ) (b : Breach) (u : Universe) → s.universe ≡ u → In b (kind_breaches u kind at) → Breaks defs s (collects kind at) b
  kind_breaks Sequence at b Unlabelled e i = absurd i
  kind_breaks Set at b Unlabelled e i = subst (Breaks defs s (collects Set at)) (one_is _ b i) (other_universe (λ k. no_set e k) (λ k. cc))
  kind_breaks Cycle at b Unlabelled e i = subst (Breaks defs s (collects Cycle at)) (one_is _ b i) (unlabelled_cycle e)
  kind_breaks Multiset at b Unlabelled e i = absurd i
  kind_breaks Powerset at b Unlabelled e i = absurd i
  kind_breaks Sequence at b Labelled e i = absurd i
  kind_breaks Set at b Labelled e i = absurd i
  kind_breaks Cycle at b Labelled e i = absurd i
  kind_breaks Multiset at b Labelled e i = subst (Breaks defs s (collects Multiset at)) (one_is _ b i) (other_universe (λ k. no_set k e) (λ k. cc))
  kind_breaks Powerset at b Labelled e i = subst (Breaks defs s (collects Powerset at)) (one_is _ b i) (other_universe (λ k. no_set k e) (λ k. cc))

  no_low : (kind : Kind) (low : ℕ) → is_low kind low ≡ false → IsLow kind low → ⊥
  no_low Sequence low e h = cc
  no_low Set low e h = cc
  no_low Cycle low e h = let k = le-leb 1 low h in cc
  no_low Multiset low e h = cc
  no_low Powerset low e h = let k = le-leb low 1 h in cc

  high_below : (low : ℕ) (o : Option ℕ) → is_at_most low o ≡ false → (high : ℕ) × (o ≡ Some high) × (high < low)
  high_below low None e = absurd (cc)
  high_below low (Some high) e = (high, refl, leb-false low high e)

  bound_breaks : (kind : Kind) (bound : Bound) (b : Breach) (t u : Bool) → is_at_most (low_in kind bound.range) (high_in bound.range) ≡ t → is_low kind (low_in kind bound.range) ≡ u
      → In b (if t then (if u then [] else broken Y7 bound.at (kind_word kind)) else broken Y7 bound.at (kind_word kind)) → Breaks defs s (bounds kind bound) b
  bound_breaks kind bound b true true e f i = absurd i
  bound_breaks kind bound b true false e f i = subst (Breaks defs s (bounds kind bound)) (one_is _ b i) (low_bound (no_low kind (low_in kind bound.range) f))
  bound_breaks kind bound b false u e f i =
      let r = high_below (low_in kind bound.range) (high_in bound.range) e in
      subst (Breaks defs s (bounds kind bound)) (one_is _ b i) (no_number r.0 r.1 r.2)

  circle_breaks : (k : ℕ) (owners : List Name) (name : Name) (b : Breach) (o : Option (List (List ℕ))) → first_circle s.names defs k owners ≡ o → IsType s name → In b (circle_breach name o) → Breaks defs s (renames k owners name) b
  circle_breaks k owners name b None e h i = absurd i
  circle_breaks k owners name b (Some chain) e h i = subst (Breaks defs s (renames k owners name)) (one_is _ b i) (circle chain h (first_is s.names defs owners k chain e))

  renamed_breaks : (k : ℕ) (owners : List Name) (name : Name) (b : Breach) (m : Option Meaning) → meant s name ≡ m → In b (silent (type_use m name) (circle_breach name (first_circle s.names defs k owners))) → Breaks defs s (renames k owners name) b
  renamed_breaks k owners name b None e i = absurd i
  renamed_breaks k owners name b (Some (mean.Definition j)) e i = circle_breaks k owners name b (first_circle s.names defs k owners) refl (j, e) i
  renamed_breaks k owners name b (Some (mean.Measure j v)) e i = absurd i
  renamed_breaks k owners name b (Some (mean.Procedure f)) e i = absurd i

  result_breaks : (colon : ℕ) (name : Name) (b : Breach) (u : Universe) → s.universe ≡ u → In b (result_breaches u colon name) → Breaks defs s (results colon name) b
  result_breaks colon name b Unlabelled e i = absurd i
  result_breaks colon name b Labelled e i = subst (Breaks defs s (results colon name)) (one_is _ b i) (labelled_result e)

  read_breaks : (scope : List Variable) (var : Name) (b : Breach) (o : Option (ℕ × Part)) → found scope var ≡ o → In b (variable_use o var) → Breaks defs s (reads scope var) b
  read_breaks scope var b None e i = subst (Breaks defs s (reads scope var)) (one_is _ b i) (unbound e)
  read_breaks scope var b (Some v) e i = absurd i

  hand_breaks : (scope : List Variable) (arg callee : Name) (b : Breach) (o : Option (ℕ × Part)) (on : Option ℕ) → found scope arg ≡ o → (signature_meant s (meant s callee)).on ≡ on
      → In b (if_bound o (argument_breaches o on arg callee)) → Breaks defs s (hands scope arg callee) b
  hand_breaks scope arg callee b None on e f i = absurd i
  hand_breaks scope arg callee b (Some v) None e f i = absurd i
  hand_breaks scope arg callee b (Some v) (Some node) e f i =
      let r = in_else (nat_eq v.1.node node) _ b i in
      subst (Breaks defs s (hands scope arg callee)) r.1 (other_argument v node e f (differ v.1.node node r.0))

  cased_breaks : (scope : List Variable) (var : Name) (arms : ℕ) (b : Breach) (o : Option (ℕ × Part)) → found scope var ≡ o → In b (if_bound o (case_breaches s o var arms [])) → Breaks defs s (cases scope var arms) b
  cased_breaks scope var arms b None e i = absurd i
  cased_breaks scope var arms b (Some v) e i =
      let r = in_else (nat_eq arms (length (case_stands s (Some v)))) _ b i in
      subst (Breaks defs s (cases scope var arms)) r.1 (other_arms v e (differ arms (length (case_stands s (Some v))) r.0))

  into_breaks : (scope : List Variable) (var : Name) (b : Breach) (v : ℕ × Part) (form : Shape) → found scope var ≡ Some v → shape_at s v.1.node ≡ form → In b (walk_into form var []) → Breaks defs s (walks scope var) b
  into_breaks scope var b v (shape.Coll kind part low high) e f i = absurd i
  into_breaks scope var b v (shape.Atom weight) e f i = subst (Breaks defs s (walks scope var)) (one_is _ b i) (no_collection v e (λ c. subst IsCollection f c))
  into_breaks scope var b v (shape.Union parts) e f i = subst (Breaks defs s (walks scope var)) (one_is _ b i) (no_collection v e (λ c. subst IsCollection f c))
  into_breaks scope var b v (shape.Product parts) e f i = subst (Breaks defs s (walks scope var)) (one_is _ b i) (no_collection v e (λ c. subst IsCollection f c))

  walk_breaks : (scope : List Variable) (var : Name) (b : Breach) (o : Option (ℕ × Part)) → found scope var ≡ o → In b (if_bound o (walk_breaches s o var [])) → Breaks defs s (walks scope var) b
  walk_breaks scope var b None e i = absurd i
  walk_breaks scope var b (Some v) e i = into_breaks scope var b v (shape_at s v.1.node) e refl i

  give_breaks : (scope : List Variable) (expected : Option ℕ) (var : Name) (b : Breach) (o : Option (ℕ × Part)) → found scope var ≡ o → In b (if_bound o (given_breaches o expected var)) → Breaks defs s (gives scope expected var) b
  give_breaks scope expected var b None e i = absurd i
  give_breaks scope None var b (Some v) e i = absurd i
  give_breaks scope (Some node) var b (Some v) e i =
      let r = in_then (not (nat_eq v.1.node node)) _ b i in
      subst (Breaks defs s (gives scope (Some node) var)) r.1 (other_variable node v e (differ v.1.node node (opposite (nat_eq v.1.node node) r.0)))

  type_known : (name : Name) (m : Option Meaning) (rest : List Breach) (b : Breach) → meant s name ≡ m → In b (silent (type_use m name) rest) → IsType s name × In b rest
  type_known name None rest b e i = absurd i
  type_known name (Some (mean.Definition k)) rest b e i = ((k, e), i)
  type_known name (Some (mean.Measure k v)) rest b e i = absurd i
  type_known name (Some (mean.Procedure f)) rest b e i = absurd i

  typed : (p : Pattern) (rest : List Breach) (b : Breach) → In b (silent (pattern_type_use s p) rest) → IsTyped s p × In b rest
  typed (pattern.Named type) rest b i = type_known type (meant s type) rest b refl i
  typed (pattern.NamedWhole type name) rest b i = type_known type (meant s type) rest b refl i
  typed (pattern.NamedParts type names) rest b i = type_known type (meant s type) rest b refl i
  typed (pattern.Parts names at) rest b i = (tt, i)
  typed (pattern.Any at) rest b i = (tt, i)
  typed (pattern.AnyWhole name at) rest b i = (tt, i)

  fit_breaks : (stand : Stand) (var : Name) (p : Pattern) (b : Breach) (t : Bool) → fits s stand p ≡ t → IsTyped s p → In b (misfit t p var) → Breaks defs s (matches stand var p) b
  fit_breaks stand var p b true e h i = absurd i
  fit_breaks stand var p b false e h i = subst (Breaks defs s (matches stand var p)) (one_is _ b i) (break.misfit h e)

  make_breaks : (expected : Option ℕ) (callee : Name) (b : Breach) (o : Option (Option ℕ)) → IsProcedure s callee → (signature_meant s (meant s callee)).result ≡ o → In b (value.result_breaches expected o callee) → Breaks defs s (makes expected callee) b
  make_breaks None callee b o h e i = absurd i
  make_breaks (Some node) callee b None h e i = subst (Breaks defs s (makes (Some node) callee)) (one_is _ b i) (no_result node h e)
  make_breaks (Some node) callee b (Some None) h e i = absurd i
  make_breaks (Some node) callee b (Some (Some given)) h e i =
      let r = in_then (not (nat_eq given node)) _ b i in
      subst (Breaks defs s (makes (Some node) callee)) r.1 (other_result node given h e (differ given node (opposite (nat_eq given node) r.0)))

  made_breaks : (expected : Option ℕ) (callee : Name) (b : Breach) (m : Option Meaning) → meant s callee ≡ m → In b (silent (procedure_use m callee) (value.result_breaches expected (signature_meant s (meant s callee)).result callee)) → Breaks defs s (makes expected callee) b
  made_breaks expected callee b None e i = absurd i
  made_breaks expected callee b (Some (mean.Definition k)) e i = absurd i
  made_breaks expected callee b (Some (mean.Measure k v)) e i = absurd i
  made_breaks expected callee b (Some (mean.Procedure f)) e i = make_breaks expected callee b (signature_meant s (meant s callee)).result (f, e) refl i

  build_breaks : (test : Shape → Bool) (node at : ℕ) (text : List ℕ) (b : Breach) (t : Bool) → test (shape_at s node) ≡ t → In b (misplaced t at text) → Breaks defs s (builds test (Some node) at text) b
  build_breaks test node at text b true e i = absurd i
  build_breaks test node at text b false e i = subst (Breaks defs s (builds test (Some node) at text)) (one_is _ b i) (other_construct node e)

  pub own_breaks : (q : Asked) (b : Breach) → In b (own defs s q) → Breaks defs s q b
  own_breaks (defines name meaning) b i = let r = in_else (is_meaning (meant s name) meaning) _ b i in subst (Breaks defs s (defines name meaning)) r.1 (defined_again r.0)
  own_breaks (uses sort name) b i = use_breaks sort name b (meant s name) refl i
  own_breaks (collects kind at) b i = kind_breaks kind at b s.universe refl i
  own_breaks (bounds kind bound) b i = bound_breaks kind bound b (is_at_most (low_in kind bound.range) (high_in bound.range)) (is_low kind (low_in kind bound.range)) refl refl i
  own_breaks (weighs weight at) b i = let r = in_else (nat_le weight (greatest_weight s.universe)) _ b i in subst (Breaks defs s (weighs weight at)) r.1 (heavy (leb-false weight (greatest_weight s.universe) r.0))
  own_breaks (renames k owners name) b i = renamed_breaks k owners name b (meant s name) refl i
  own_breaks (results colon name) b i = result_breaks colon name b s.universe refl i
  own_breaks (reads scope var) b i = read_breaks scope var b (found scope var) refl i
  own_breaks (hands scope arg callee) b i = hand_breaks scope arg callee b (found scope arg) (signature_meant s (meant s callee)).on refl refl i
  own_breaks (cases scope var arms) b i = cased_breaks scope var arms b (found scope var) refl i
  own_breaks (walks scope var) b i = walk_breaks scope var b (found scope var) refl i
  own_breaks (gives scope expected var) b i = give_breaks scope expected var b (found scope var) refl i
  own_breaks (matches stand var p) b i = let r = typed p (misfit (fits s stand p) p var) b i in fit_breaks stand var p b (fits s stand p) refl r.0 r.1
  own_breaks (repeats earlier name) b i = let r = in_then (is_among name.text earlier) _ b i in subst (Breaks defs s (repeats earlier name)) r.1 (bound_again r.0)
  own_breaks (makes expected callee) b i = made_breaks expected callee b (meant s callee) refl i
  own_breaks (builds test None at text) b i = absurd i
  own_breaks (builds test (Some node) at text) b i = build_breaks test node at text b (test (shape_at s node)) refl i

  -- ---- what breaks a rule is listed
  use_undefined : (sort : Sort) (name : Name) → In (at_name Y2 name) (use_of sort None name)
  use_undefined a_type name = inl refl
  use_undefined a_measure name = inl refl
  use_undefined a_procedure name = inl refl

  use_other : (sort : Sort) (name : Name) (m : Meaning) → is_sort sort m ≡ false → In (at_name Y3 name) (use_of sort (Some m) name)
  use_other a_type name (mean.Definition k) e = absurd (cc)
  use_other a_type name (mean.Measure k v) e = inl refl
  use_other a_type name (mean.Procedure f) e = inl refl
  use_other a_measure name (mean.Definition k) e = inl refl
  use_other a_measure name (mean.Measure k v) e = absurd (cc)
  use_other a_measure name (mean.Procedure f) e = inl refl
  use_other a_procedure name (mean.Definition k) e = inl refl
  use_other a_procedure name (mean.Measure k v) e = inl refl
  use_other a_procedure name (mean.Procedure f) e = absurd (cc)

  foreign : (kind : Kind) (at : ℕ) (u : Universe) → (IsKind u kind → ⊥) → (kind ≡ Cycle → ⊥) → In (at_token Y5 at (kind_word kind)) (kind_breaches u kind at)
  foreign Sequence at u h n = absurd (h tt)
  foreign Cycle at u h n = absurd (n refl)
  foreign Set at Unlabelled h n = inl refl
  foreign Set at Labelled h n = absurd (h refl)
  foreign Multiset at Unlabelled h n = absurd (h refl)
  foreign Multiset at Labelled h n = inl refl
  foreign Powerset at Unlabelled h n = absurd (h refl)
  foreign Powerset at Labelled h n = inl refl

  no_high : (low high : ℕ) → high < low → is_at_most low (Some high) ≡ false
  no_high low high h = above high low h

  low_test : (kind : Kind) (low : ℕ) → (IsLow kind low → ⊥) → is_low kind low ≡ false
  low_test Sequence low h = absurd (h tt)
  low_test Set low h = absurd (h tt)
  low_test Cycle low h = by (nat_le 1 low) refl
    where
      by : (t : Bool) → nat_le 1 low ≡ t → t ≡ false
      by true e = absurd (h (leb-true 1 low e))
      by false e = refl
  low_test Multiset low h = absurd (h tt)
  low_test Powerset low h = by (nat_le low 1) refl
    where
      by : (t : Bool) → nat_le low 1 ≡ t → t ≡ false
      by true e = absurd (h (leb-true low 1 e))
      by false e = refl

  bound_first : (kind : Kind) (bound : Bound) (t u : Bool) → t ≡ false → In (at_token Y7 bound.at (kind_word kind)) (if t then (if u then [] else broken Y7 bound.at (kind_word kind)) else broken Y7 bound.at (kind_word kind))
  bound_first kind bound true u e = absurd (cc)
  bound_first kind bound false u e = inl refl

  bound_second : (kind : Kind) (bound : Bound) (t u : Bool) → u ≡ false → In (at_token Y7 bound.at (kind_word kind)) (if t then (if u then [] else broken Y7 bound.at (kind_word kind)) else broken Y7 bound.at (kind_word kind))
  bound_second kind bound true true e = absurd (cc)
  bound_second kind bound true false e = inl refl
  bound_second kind bound false u e = inl refl

  no_walk : (form : Shape) (var : Name) → (IsCollection form → ⊥) → In (at_name Y12 var) (walk_into form var [])
  no_walk (shape.Coll kind part low high) var h = absurd (h tt)
  no_walk (shape.Atom weight) var h = inl refl
  no_walk (shape.Union parts) var h = inl refl
  no_walk (shape.Product parts) var h = inl refl

  behind_type : (name : Name) (rest : List Breach) (b : Breach) → IsType s name → In b rest → In b (silent (type_use (meant s name) name) rest)
  behind_type name rest b h i = subst (λ m. In b (silent (type_use m name) rest)) (sym h.1) i

  behind_typed : (p : Pattern) (rest : List Breach) (b : Breach) → IsTyped s p → In b rest → In b (silent (pattern_type_use s p) rest)
  behind_typed (pattern.Named type) rest b h i = behind_type type rest b h i
  behind_typed (pattern.NamedWhole type name) rest b h i = behind_type type rest b h i
  behind_typed (pattern.NamedParts type names) rest b h i = behind_type type rest b h i
  behind_typed (pattern.Parts names at) rest b h i = i
  behind_typed (pattern.Any at) rest b h i = i
  behind_typed (pattern.AnyWhole name at) rest b h i = i

  behind_procedure : (callee : Name) (rest : List Breach) (b : Breach) → IsProcedure s callee → In b rest → In b (silent (procedure_use (meant s callee) callee) rest)
  behind_procedure callee rest b h i = subst (λ m. In b (silent (procedure_use m callee) rest)) (sym h.1) i

  opposite_of : (t : Bool) → t ≡ false → not t ≡ true
  opposite_of true e = absurd (cc)
  opposite_of false e = refl

  pub breaks_own : (q : Asked) (b : Breach) → Breaks defs s q b → In b (own defs s q)
  breaks_own (defines name own) b (defined_again h) = else_in (is_meaning (meant s name) own) (at_name Y1 name) h
  breaks_own (repeats earlier name) b (bound_again h) = then_in (is_among name.text earlier) (at_name Y1 name) h
  breaks_own (uses sort name) b (undefined h) = subst (λ m. In (at_name Y2 name) (use_of sort m name)) (sym h) (use_undefined sort name)
  breaks_own (uses sort name) b (other_sort m h n) = subst (λ m. In (at_name Y3 name) (use_of sort m name)) (sym h) (use_other sort name m n)
  breaks_own (renames k owners name) b (circle chain h e) =
      let told : Breach = record { rule = Y4; token = name.at; names = chain } in
      behind_type name (circle_breach name (first_circle s.names defs k owners)) told h (subst (λ o. In told (circle_breach name o)) (sym (is_first s.names defs owners k chain e)) (inl refl))
  breaks_own (collects kind at) b (other_universe h n) = foreign kind at s.universe h n
  breaks_own (collects kind at) b (unlabelled_cycle h) = subst (λ u. In (at_token Y6 at (kind_word Cycle)) (kind_breaches u Cycle at)) (sym h) (inl refl)
  breaks_own (bounds kind bound) b (no_number high e h) =
      bound_first kind bound (is_at_most (low_in kind bound.range) (high_in bound.range)) (is_low kind (low_in kind bound.range)) (ap (is_at_most (low_in kind bound.range)) e ∙ no_high (low_in kind bound.range) high h)
  breaks_own (bounds kind bound) b (low_bound h) =
      bound_second kind bound (is_at_most (low_in kind bound.range) (high_in bound.range)) (is_low kind (low_in kind bound.range)) (low_test kind (low_in kind bound.range) h)
  breaks_own (weighs weight at) b (heavy h) = else_in (nat_le weight (greatest_weight s.universe)) (at_token Y8 at (decimal weight)) (above (greatest_weight s.universe) weight h)
  breaks_own (hands scope arg callee) b (other_argument v node e f n) =
      let told : Breach = record { rule = Y9; token = arg.at; names = arg.text ∷ callee.text ∷ [] } in
      subst (λ o. In told (if_bound o (argument_breaches o (signature_meant s (meant s callee)).on arg callee))) (sym e)
      (subst (λ on. In told (argument_breaches (Some v) on arg callee)) (sym f) (else_in (nat_eq v.1.node node) told (apart v.1.node node n)))
  breaks_own (cases scope var arms) b (other_arms v e n) =
      subst (λ o. In (at_name Y10 var) (if_bound o (case_breaches s o var arms []))) (sym e) (else_in (nat_eq arms (length (case_stands s (Some v)))) (at_name Y10 var) (apart arms (length (case_stands s (Some v))) n))
  breaks_own (matches stand var p) b (break.misfit h n) =
      let told : Breach = at_token Y11 (first_token p) var.text in
      behind_typed p (misfit (fits s stand p) p var) told h (subst (λ t. In told (misfit t p var)) (sym n) (inl refl))
  breaks_own (walks scope var) b (no_collection v e n) =
      subst (λ o. In (at_name Y12 var) (if_bound o (walk_breaches s o var []))) (sym e) (no_walk (shape_at s v.1.node) var n)
  breaks_own (reads scope var) b (unbound e) = subst (λ o. In (at_name Y13 var) (variable_use o var)) (sym e) (inl refl)
  breaks_own (results colon name) b (labelled_result e) = subst (λ u. In (at_token Y14 colon name.text) (result_breaches u colon name)) (sym e) (inl refl)
  breaks_own (gives scope expected var) b (other_variable node v e n) =
      subst (λ o. In (at_name Y15 var) (if_bound o (given_breaches o (Some node) var))) (sym e) (then_in (not (nat_eq v.1.node node)) (at_name Y15 var) (opposite_of (nat_eq v.1.node node) (apart v.1.node node n)))
  breaks_own (makes expected callee) b (no_result node h e) =
      behind_procedure callee (value.result_breaches (Some node) (signature_meant s (meant s callee)).result callee) (at_name Y15 callee) h
      (subst (λ o. In (at_name Y15 callee) (value.result_breaches (Some node) o callee)) (sym e) (inl refl))
  breaks_own (makes expected callee) b (other_result node given h e n) =
      behind_procedure callee (value.result_breaches (Some node) (signature_meant s (meant s callee)).result callee) (at_name Y15 callee) h
      (subst (λ o. In (at_name Y15 callee) (value.result_breaches (Some node) o callee)) (sym e) (then_in (not (nat_eq given node)) (at_name Y15 callee) (opposite_of (nat_eq given node) (apart given node n))))
  breaks_own (builds test expected at text) b (other_construct node e) = subst (λ t. In (at_token Y15 at text) (misplaced t at text)) (sym e) (inl refl)
