-- What is asked and what is broken: joined lists, and rules on names alone.
use Rattle.std.proofs.Common.{◌⊎◌, ◌↔◌, ℕ, suc, ◌+◌, List, [], ◌∷◌, ◌++◌, map, length, Option, Some, None, refl, sym, subst, inl, inr}
use Rattle.luo_finite.specs.Listing.{In}
use Rattle.luo_finite.proofs.Membership.{In-append_left, In-append_right, In-append_cases}
use Rattle.luo_model.specs.declared.program.Kind.{Kind}
use Rattle.luo_source.specs.declared.names.Name.{Name}
use Rattle.luo_source.specs.declared.types.Bound.{Bound}
use Rattle.luo_source.specs.Plain.Types.{TypeExpr, Named, Epsilon, Atom, Union, Product, Coll, TypeExprs, no_exprs, an_expr, TypeDef}
use Rattle.luo_source.specs.declared.statements.Pattern.{Pattern}
use Rattle.luo_source.specs.declared.statements.Pattern.TheVariants as pattern
use Rattle.luo_source.specs.Plain.Source.{Source}
use Rattle.luo_rules.specs.declared.names.Meaning.TheVariants as mean
use Rattle.luo_rules.specs.declared.rule.Breach.{Breach}
use Rattle.luo_rules.specs.Definitions.{definitions, measures}
use Rattle.luo_rules.specs.Nodes.{setting_of}
use Rattle.luo_rules.specs.Asked.{Asked, a_type, a_measure, a_procedure, defines, uses, collects, bounds, weighs, renames, reads, hands, cases, walks, gives, matches, repeats, makes, builds, bound_asked, expr_asked, exprs_asked, renames_asked, new_asked, types_asked, measures_asked, type_asked, repeats_asked, charge_asked, first_asked}
use Rattle.luo_rules.specs.Broken.{Breaks, defined_again, bound_again, undefined, other_sort, circle, other_universe, unlabelled_cycle, no_number, low_bound, heavy, labelled_result}
use Rattle.luo_meaning.specs.Broken.{BreaksNames, BreaksSome}

-- ---- both sides of an alternative, one after another

pub or_iff : {A B C D : Type 0} → A ↔ C → B ↔ D → (A ⊎ B) ↔ (C ⊎ D)
or_iff f g = (λ h. elim h [ inl a ↦ inl (f.0 a) | inr b ↦ inr (g.0 b) ], λ h. elim h [ inl a ↦ inl (f.1 a) | inr b ↦ inr (g.1 b) ])

pub then_iff : {A B C : Type 0} → A ↔ B → B ↔ C → A ↔ C
then_iff f g = (λ a. g.0 (f.0 a), λ c. f.1 (g.1 c))

pub back_iff : {A B : Type 0} → A ↔ B → B ↔ A
back_iff f = (f.1, f.0)

pub no_iff : {A B : Type 0} → A ↔ B → (A → ⊥) ↔ (B → ⊥)
no_iff f = (λ n b. n (f.1 b), λ n a. n (f.0 a))

module _ (source : Source) where
  -- one of these is broken
  abbrev pub Asks : List Asked → Breach → Type 0
  Asks qs b = (q : Asked) × In q qs × Breaks (definitions source) (setting_of source) q b

  abbrev pub One : Asked → Breach → Type 0
  One q b = Breaks (definitions source) (setting_of source) q b

  pub asks_nil : (b : Breach) → Asks [] b ↔ ⊥
  asks_nil b = (λ h. absurd h.1, λ h. absurd h)

  pub asks_cons : (q : Asked) (qs : List Asked) (b : Breach) → Asks (q ∷ qs) b ↔ (One q b ⊎ Asks qs b)
  asks_cons q qs b = (
    λ h. elim h.1 [ inl e ↦ inl (subst (λ z. One z b) e h.2) | inr i ↦ inr (h.0, i, h.2) ],
    λ h. elim h [ inl o ↦ (q, inl refl, o) | inr r ↦ (r.0, inr r.1, r.2) ],
  )

  pub asks_append : (xs ys : List Asked) (b : Breach) → Asks (xs ++ ys) b ↔ (Asks xs b ⊎ Asks ys b)
  asks_append xs ys b = (
    λ h. elim (In-append_cases h.0 xs ys h.1) [ inl i ↦ inl (h.0, i, h.2) | inr i ↦ inr (h.0, i, h.2) ],
    λ h. elim h [ inl r ↦ (r.0, In-append_left r.0 xs ys r.1, r.2) | inr r ↦ (r.0, In-append_right r.0 xs ys r.1, r.2) ],
  )

  pub asks_one : (q : Asked) (b : Breach) → Asks (q ∷ []) b ↔ One q b
  asks_one q b = (
    λ h. elim h.1 [ inl e ↦ subst (λ z. One z b) e h.2 | inr i ↦ absurd i ],
    λ h. (q, inl refl, h),
  )

  -- ---- rules on names and the universe alone

  abbrev pub IsOfNames : Asked → Type 0
  IsOfNames (reads scope var) = ⊥
  IsOfNames (hands scope arg callee) = ⊥
  IsOfNames (cases scope var arms) = ⊥
  IsOfNames (walks scope var) = ⊥
  IsOfNames (gives scope expected var) = ⊥
  IsOfNames (matches stand var p) = ⊥
  IsOfNames (makes expected callee) = ⊥
  IsOfNames (builds test expected at text) = ⊥
  IsOfNames _ = Unit {0}

  names_forth : (q : Asked) (b : Breach) → IsOfNames q → One q b → BreaksNames source q b
  names_forth q b n (defined_again h) = defined_again h
  names_forth q b n (bound_again h) = bound_again h
  names_forth q b n (undefined e) = undefined e
  names_forth q b n (other_sort m e f) = other_sort m e f
  names_forth q b n (circle chain is e) = circle chain is e
  names_forth q b n (other_universe f g) = other_universe f g
  names_forth q b n (unlabelled_cycle e) = unlabelled_cycle e
  names_forth q b n (no_number high e l) = no_number high e l
  names_forth q b n (low_bound f) = low_bound f
  names_forth q b n (heavy l) = heavy l
  names_forth q b n (labelled_result e) = labelled_result e
  names_forth q b n _ = absurd n

  names_back : (q : Asked) (b : Breach) → IsOfNames q → BreaksNames source q b → One q b
  names_back q b n (defined_again h) = defined_again h
  names_back q b n (bound_again h) = bound_again h
  names_back q b n (undefined e) = undefined e
  names_back q b n (other_sort m e f) = other_sort m e f
  names_back q b n (circle chain is e) = circle chain is e
  names_back q b n (other_universe f g) = other_universe f g
  names_back q b n (unlabelled_cycle e) = unlabelled_cycle e
  names_back q b n (no_number high e l) = no_number high e l
  names_back q b n (low_bound f) = low_bound f
  names_back q b n (heavy l) = heavy l
  names_back q b n (labelled_result e) = labelled_result e
  names_back q b n _ = absurd n

  pub of_names : (q : Asked) (b : Breach) → IsOfNames q → One q b ↔ BreaksNames source q b
  of_names q b n = (names_forth q b n, names_back q b n)

  abbrev pub AllOfNames : List Asked → Type 0
  AllOfNames qs = (q : Asked) → In q qs → IsOfNames q

  pub some_of_names : (qs : List Asked) (b : Breach) → AllOfNames qs → Asks qs b ↔ BreaksSome source qs b
  some_of_names qs b n = (λ h. (h.0, h.1, (of_names h.0 b (n h.0 h.1)).0 h.2), λ h. (h.0, h.1, (of_names h.0 b (n h.0 h.1)).1 h.2))

  one_name : (q : Asked) (qs : List Asked) → IsOfNames q → AllOfNames qs → AllOfNames (q ∷ qs)
  one_name q qs n m r i = elim i [ inl e ↦ subst IsOfNames (sym e) n | inr j ↦ m r j ]

  no_names : AllOfNames []
  no_names r i = absurd i

  both_names : (xs ys : List Asked) → AllOfNames xs → AllOfNames ys → AllOfNames (xs ++ ys)
  both_names xs ys n m r i = elim (In-append_cases r xs ys i) [ inl j ↦ n r j | inr j ↦ m r j ]

  pub type_names : (p : Pattern) → AllOfNames (type_asked p)
  type_names (pattern.Named type) = one_name (uses a_type type) [] tt no_names
  type_names (pattern.NamedWhole type name) = one_name (uses a_type type) [] tt no_names
  type_names (pattern.NamedParts type names) = one_name (uses a_type type) [] tt no_names
  type_names (pattern.Parts names at) = no_names
  type_names (pattern.Any at) = no_names
  type_names (pattern.AnyWhole name at) = no_names

  pub repeat_names : (earlier names : List Name) → AllOfNames (repeats_asked earlier names)
  repeat_names earlier [] = no_names
  repeat_names earlier (name ∷ names) = one_name (repeats earlier name) (repeats_asked (earlier ++ name ∷ []) names) tt (repeat_names (earlier ++ name ∷ []) names)

  pub charge_names : (charge : Option Name) → AllOfNames (charge_asked charge)
  charge_names None = no_names
  charge_names (Some measure) = one_name (uses a_measure measure) [] tt no_names

  bound_names : (kind : Kind) (bound : Option Bound) → AllOfNames (bound_asked kind bound)
  bound_names kind None = no_names
  bound_names kind (Some bound) = one_name (bounds kind bound) [] tt no_names

  mutual
    expr_names : (e : TypeExpr) → AllOfNames (expr_asked e)
    expr_names (Named name) = one_name (uses a_type name) [] tt no_names
    expr_names (Epsilon at) = no_names
    expr_names (Atom weight weight_at at) = one_name (weighs weight weight_at) [] tt no_names
    expr_names (Union parts) = exprs_names parts
    expr_names (Product parts at) = exprs_names parts
    expr_names (Coll kind part bound at) = one_name (collects kind at) (expr_asked part ++ bound_asked kind bound) tt (both_names (expr_asked part) (bound_asked kind bound) (expr_names part) (bound_names kind bound))

    exprs_names : (row : TypeExprs) → AllOfNames (exprs_asked row)
    exprs_names no_exprs = no_names
    exprs_names (an_expr e rest) = both_names (expr_asked e) (exprs_asked rest) (expr_names e) (exprs_names rest)

  renamed_names : (i : ℕ) (owners : List Name) (e : TypeExpr) → AllOfNames (renames_asked i owners e)
  renamed_names i owners (Named name) = one_name (renames i owners name) [] tt no_names
  renamed_names i owners (Epsilon at) = no_names
  renamed_names i owners (Atom weight weight_at at) = no_names
  renamed_names i owners (Union parts) = no_names
  renamed_names i owners (Product parts at) = no_names
  renamed_names i owners (Coll kind part bound at) = no_names

  new_names : (i : ℕ) (names : List Name) → AllOfNames (new_asked i names)
  new_names i [] = no_names
  new_names i (name ∷ rest) = one_name (defines name (mean.Definition i)) (new_asked (suc i) rest) tt (new_names (suc i) rest)

  types_names : (i : ℕ) (ds : List TypeDef) → AllOfNames (types_asked i ds)
  types_names i [] = no_names
  types_names i (d ∷ ds) =
      let inner = expr_asked d.body ++ renames_asked i d.names d.body in
      both_names (new_asked i d.names ++ inner) (types_asked (i + length d.names) ds)
      (both_names (new_asked i d.names) inner (new_names i d.names) (both_names (expr_asked d.body) (renames_asked i d.names d.body) (expr_names d.body) (renamed_names i d.names d.body)))
      (types_names (i + length d.names) ds)

  measures_names : (k : ℕ) (ms : List (Name × ℕ)) → AllOfNames (measures_asked k ms)
  measures_names k [] = no_names
  measures_names k (m ∷ ms) = one_name (defines m.0 (mean.Measure k m.1)) (measures_asked (suc k) ms) tt (measures_names (suc k) ms)

  pub first_names : AllOfNames (first_asked source)
  first_names = both_names (types_asked 0 source.types) (measures_asked 0 (measures source)) (types_names 0 source.types) (measures_names 0 (measures source))

  pub line_names : (names : List Name) → AllOfNames (map (uses a_procedure) names)
  line_names [] = no_names
  line_names (name ∷ names) = one_name (uses a_procedure name) (map (uses a_procedure) names) tt (line_names names)
