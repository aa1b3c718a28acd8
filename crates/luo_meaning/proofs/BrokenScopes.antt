-- Scopes, arms and patterns by nodes, and by types in their places.
use Rattle.std.proofs.Common.{◌≡◌, ◌⊎◌, ◌↔◌, ℕ, suc, List, [], ◌∷◌, map, length, Option, Some, None, Bool, true, false, slice_get, refl, sym, ap, ◌∙◌, subst, inl, inr, arith}
use Rattle.std.specs.Prelude.{if◌then◌else◌, ◌&&◌}
use Rattle.std.specs.Option.{option_map}
use Rattle.std.specs.Str.{bytes_eq}
use Rattle.std.proofs.lemmas.Bool.{eqb-true, eq-eqb}
use Rattle.luo_finite.specs.Listing.{In}
use Rattle.luo_model.specs.declared.program.Def.{Def}
use Rattle.luo_model.specs.declared.program.Part.{Part}
use Rattle.luo_model.specs.Scopes.Stands.{Stand, inside, itself, stand_part, stands, factors, component, IsCollection}
use Rattle.luo_source.specs.declared.names.Name.{Name}
use Rattle.luo_source.specs.Plain.Types.{Named}
use Rattle.luo_source.specs.declared.statements.Pattern.{Pattern}
use Rattle.luo_source.specs.declared.statements.Pattern.TheVariants as pattern
use Rattle.luo_source.specs.Plain.Source.{ProcDef, Source}
use Rattle.luo_rules.specs.declared.names.Meaning.{Meaning}
use Rattle.luo_rules.specs.declared.names.Meaning.TheVariants as mean
use Rattle.luo_rules.specs.declared.setting.Signature.{Signature}
use Rattle.luo_rules.specs.declared.setting.Variable.{Variable}
use Rattle.luo_rules.specs.Meanings.{meaning}
use Rattle.luo_rules.specs.Settings.{meant, def_node, node_meant, type_node, no_signature, signature_meant, found_from, found}
use Rattle.luo_rules.specs.Patterns.{is_node, has_factors, fits, variables, bound}
use Rattle.luo_rules.specs.Definitions.{Definition, definitions, names_of, definition_meant}
use Rattle.luo_rules.specs.inner.Naming.{node_of}
use Rattle.luo_rules.specs.Nodes.{setting_of, named_node, result_name, signature_of}
use Rattle.luo_rules.specs.Broken.{IsTyped}
use Rattle.luo_rules.proofs.Lists.{some_same, none_some, get_map, index_get, below_get, place_in}
use Rattle.luo_rules.proofs.NodeLists.{def_get}
use Rattle.luo_rules.proofs.DefinitionFacts.{SoundAll, definition_back, whole_node}
use Rattle.luo_meaning.specs.Constructs.{IsConstruct}
use Rattle.luo_meaning.specs.Places.{Placed, of_name, LeadsAt, by_name, IsSameType, IsUnionAt, IsProductAt, IsCollectionAt, IsAtomAt}
use Rattle.luo_meaning.specs.Places as places
use Rattle.luo_meaning.specs.Scopes as written
use Rattle.luo_meaning.specs.Scopes.{Scope, type_at, one_variable, named_parts, Look, looked_at, AreLooks, branches, tuples, of_collection, of_atom, HasFactors, FitsBranch, FitsTuple, Fits, BindsScope}
use Rattle.luo_meaning.specs.Broken.{MeansType, NamesType, MeansProcedure}
use Rattle.luo_meaning.proofs.NamesMean.{names_mean}
use Rattle.luo_meaning.proofs.Sits.{shape_at_node}
use Rattle.luo_meaning.proofs.PlacedTypes.{HoldsAt, AllHoldAt, nodes_of, name_holds, same_type, union_held, product_held, collection_held, atom_held, Sorted, a_union, a_product, a_collection, an_atom, sorted}

-- a name that leads to a construct means a type
name_means : (source : Source) (c a : Placed) (name : Name) → LeadsAt source c a → IsConstruct c.form → a.form ≡ Named name → (d : Definition) × In d (definitions source) × (d.name.text ≡ name.text)
name_means source c a name places.itself q e = absurd (subst IsConstruct e q)
name_means source c a name (by_name {name = other} d i f l) q e = (d, i, f ∙ ap (λ (z : Name). z.text) (same other name e))
  where
    same : (m n : Name) → Named m ≡ Named n → m ≡ n
    same m n e = cc

and_both : (b c : Bool) → (b && c) ≡ true → (b ≡ true) × (c ≡ true)
and_both true c e = (refl, e)
and_both false c e = absurd (cc)

both_and : (b c : Bool) → b ≡ true → c ≡ true → (b && c) ≡ true
both_and true c e f = f
both_and false c e f = absurd (cc)

pub false_true : (b : Bool) → b ≡ false → b ≡ true → ⊥
false_true b e f = cc

pub not_true : (b : Bool) → (b ≡ true → ⊥) → b ≡ false
not_true true n = absurd (n refl)
not_true false n = refl

module _ (source : Source) where
  -- a variable by its node, and by its type
  abbrev pub Found : Option (ℕ × Part) → Option Placed → Type 0
  Found o p = ((o ≡ None) × (p ≡ None)) ⊎ ((v : ℕ × Part) × (a : Placed) × (o ≡ Some v) × (p ≡ Some a) × HoldsAt source v.1.node a)

  abbrev pub AgreeScope : List Variable → Scope → Type 0
  AgreeScope [] [] = Unit {0}
  AgreeScope (v ∷ vs) (t ∷ ts) = (v.name ≡ t.0) × HoldsAt source v.part.node t.1 × AgreeScope vs ts
  AgreeScope _ _ = ⊥

  found_step : (b : Bool) (k : ℕ) (x : Part) (a : Placed) (more : Option (ℕ × Part)) (other : Option Placed) → HoldsAt source x.node a → Found more other → Found (if b then Some (k, x) else more) (if b then Some a else other)
  found_step true k x a more other h f = let v : ℕ × Part = (k, x) in inr (v, a, refl, refl, h)
  found_step false k x a more other h f = f

  found_both : (scope : List Variable) (types : Scope) → AgreeScope scope types → (k : ℕ) (text : List ℕ) → Found (found_from k scope text) (type_at types text)
  found_both [] [] agree k text = inl (refl, refl)
  found_both [] (t ∷ ts) agree k text = absurd agree
  found_both (v ∷ vs) [] agree k text = absurd agree
  found_both (v ∷ vs) (t ∷ ts) agree k text =
      let tested : bytes_eq v.name text ≡ bytes_eq t.0 text = ap (λ z. bytes_eq z text) agree.0 in
      subst (λ b. Found (found_from k (v ∷ vs) text) (if b then Some t.1 else type_at ts text)) tested
      (found_step (bytes_eq v.name text) k v.part t.1 (found_from (suc k) vs text) (type_at ts text) agree.1 (found_both vs ts agree.2 (suc k) text))

  pub found_agree : (scope : List Variable) (types : Scope) → AgreeScope scope types → (var : Name) → Found (found scope var) (type_at types var.text)
  found_agree scope types agree var = found_both scope types agree 0 var.text

  pub one_agrees : (var : Name) (x : Part) (a : Placed) → HoldsAt source x.node a → AgreeScope (record { name = var.text; part = x } ∷ []) (one_variable var a)
  one_agrees var x a h = (refl, h, tt)

  parts_agree : (names : List Name) (xs : List Part) (parts : List Placed) → AllHoldAt source (nodes_of xs) parts → AgreeScope (variables names xs) (named_parts names parts)
  parts_agree [] [] [] h = tt
  parts_agree [] [] (a ∷ parts) h = absurd h
  parts_agree [] (x ∷ xs) [] h = absurd h
  parts_agree [] (x ∷ xs) (a ∷ parts) h = tt
  parts_agree (name ∷ names) [] [] h = tt
  parts_agree (name ∷ names) [] (a ∷ parts) h = absurd h
  parts_agree (name ∷ names) (x ∷ xs) [] h = absurd h
  parts_agree (name ∷ names) (x ∷ xs) (a ∷ parts) h = (refl, h.0, parts_agree names xs parts h.1)

  -- what arms stand for, and what they look at
  abbrev pub AgreeLook : Stand → Look → Type 0
  AgreeLook (inside y) (written.inside a) = HoldsAt source y.node a
  AgreeLook (itself x) (written.tuple a) = HoldsAt source x.node a
  AgreeLook _ _ = ⊥

  abbrev pub AgreeLooks : List Stand → List Look → Type 0
  AgreeLooks [] [] = Unit {0}
  AgreeLooks (s ∷ ss) (l ∷ ls) = AgreeLook s l × AgreeLooks ss ls
  AgreeLooks _ _ = ⊥

  pub look_holds : (s : Stand) (l : Look) → AgreeLook s l → HoldsAt source (stand_part s).node (looked_at l)
  look_holds (inside y) (written.inside a) h = h
  look_holds (inside y) (written.tuple a) h = absurd h
  look_holds (itself x) (written.inside a) h = absurd h
  look_holds (itself x) (written.tuple a) h = h

  pub looks_length : (ss : List Stand) (ls : List Look) → AgreeLooks ss ls → length ss ≡ length ls
  looks_length [] [] h = refl
  looks_length [] (l ∷ ls) h = absurd h
  looks_length (s ∷ ss) [] h = absurd h
  looks_length (s ∷ ss) (l ∷ ls) h = ap suc (looks_length ss ls h.1)

  branches_agree : (ps : List Part) (parts : List Placed) → AllHoldAt source (nodes_of ps) parts → AgreeLooks (map inside ps) (map written.inside parts)
  branches_agree [] [] h = tt
  branches_agree [] (a ∷ parts) h = absurd h
  branches_agree (p ∷ ps) [] h = absurd h
  branches_agree (p ∷ ps) (a ∷ parts) h = (h.0, branches_agree ps parts h.1)

  all_length : (ps : List Part) (parts : List Placed) → AllHoldAt source (nodes_of ps) parts → length ps ≡ length parts
  all_length [] [] h = refl
  all_length [] (a ∷ parts) h = absurd h
  all_length (p ∷ ps) [] h = absurd h
  all_length (p ∷ ps) (a ∷ parts) h = ap suc (all_length ps parts h.1)

  module _ (all : SoundAll source.universe (names_of source) (definitions source)) where
    pub looks_down : (x : Part) (a : Placed) (looks : List Look) → HoldsAt source x.node a → AreLooks source a looks → AgreeLooks (stands x (shape_at_node source x.node)) looks
    looks_down x a looks h (branches parts u) =
        let k = union_held source all x.node a parts h u in
        subst (λ z. AgreeLooks (stands x z) (map written.inside parts)) (sym k.is) (branches_agree k.ps parts k.hold)
    looks_down x a looks h (tuples parts u) =
        let k = product_held source all x.node a parts h u in
        subst (λ z. AgreeLooks (stands x z) (written.tuple a ∷ [])) (sym k.is) (h, tt)
    looks_down x a looks h (of_collection f u) = subst (λ z. AgreeLooks (stands x z) []) (sym (collection_held source all x.node a f h u).is) tt
    looks_down x a looks h (of_atom u) = let k = atom_held source all x.node a h u in subst (λ z. AgreeLooks (stands x z) []) (sym k.1) tt

    pub looks_up : (x : ℕ) (a : Placed) → HoldsAt source x a → (looks : List Look) × AreLooks source a looks
    looks_up x a h = by (sorted source all x a h)
      where
        by : Sorted source all a → (looks : List Look) × AreLooks source a looks
        by (a_union parts u) = (map written.inside parts, branches parts u)
        by (a_product parts u) = (written.tuple a ∷ [], tuples parts u)
        by (a_collection f u) = ([], of_collection f u)
        by (an_atom u) = ([], of_atom u)

    -- a product of so many factors
    pub factors_same : (x : ℕ) (a : Placed) (k : ℕ) → HoldsAt source x a → HasFactors source a k ↔ (has_factors k (shape_at_node source x) ≡ true)
    factors_same x a k h = (forth, λ e. back e (sorted source all x a h))
      where
        forth : HasFactors source a k → has_factors k (shape_at_node source x) ≡ true
        forth (parts, u, e) =
            let p = product_held source all x a parts h u in
            ap (has_factors k) p.is ∙ eq-eqb (length p.ps) k (all_length p.ps parts p.hold ∙ e)

        back : has_factors k (shape_at_node source x) ≡ true → Sorted source all a → HasFactors source a k
        back e (a_union parts u) = let p = union_held source all x a parts h u in absurd (false_true (has_factors k (shape_at_node source x)) (ap (has_factors k) p.is) e)
        back e (a_product parts u) =
            let p = product_held source all x a parts h u in
            (parts, u, sym (all_length p.ps parts p.hold) ∙ eqb-true (length p.ps) k (sym (ap (has_factors k) p.is) ∙ e))
        back e (a_collection f u) = absurd (false_true (has_factors k (shape_at_node source x)) (ap (has_factors k) (collection_held source all x a f h u).is) e)
        back e (an_atom u) = absurd (false_true (has_factors k (shape_at_node source x)) (ap (has_factors k) (atom_held source all x a h u).1) e)

    pub collection_same : (x : ℕ) (a : Placed) → HoldsAt source x a → ((f : Placed) × IsCollectionAt source a f) ↔ IsCollection (shape_at_node source x)
    collection_same x a h = (λ u. subst IsCollection (sym (collection_held source all x a u.0 h u.1).is) tt, λ e. back e (sorted source all x a h))
      where
        back : IsCollection (shape_at_node source x) → Sorted source all a → (f : Placed) × IsCollectionAt source a f
        back e (a_union parts u) = absurd (subst IsCollection (union_held source all x a parts h u).is e)
        back e (a_product parts u) = absurd (subst IsCollection (product_held source all x a parts h u).is e)
        back e (a_collection f u) = (f, u)
        back e (an_atom u) = absurd (subst IsCollection (atom_held source all x a h u).1 e)

    pub component_holds : (x : ℕ) (a f : Placed) → HoldsAt source x a → IsCollectionAt source a f → HoldsAt source (component (shape_at_node source x)).node f
    component_holds x a f h u = let k = collection_held source all x a f h u in subst (λ z. HoldsAt source (component z).node f) (sym k.is) k.hold

    -- the node of a name that means a type
    pub type_node_is : (name : Name) (i : ℕ) → meaning (names_of source) name.text ≡ Some (mean.Definition i) → type_node (setting_of source) name ≡ Some (node_of (names_of source) (definitions source) i)
    type_node_is name i e =
        let names = names_of source in
        let defs = definitions source in
        let d = names_mean source name.text (mean.Definition i) e in
        let at = def_get names defs 0 defs i d.0 d.1 in
        let node : def_node (setting_of source) i ≡ node_of names defs i =
        ap (λ (z : Def). z.whole.node) (index_get (setting_of source).defs i _ (record { name = []; whole = record { node = 0; name = None } }) at)
        ∙ whole_node source.universe names defs all i d.0 _ d.1 (omega arith) (below_get defs i d.0 d.1) in
        ap (node_meant (setting_of source)) e ∙ ap Some node

    node_means : (o : Option Meaning) (x : ℕ) → node_meant (setting_of source) o ≡ Some x → (i : ℕ) × (o ≡ Some (mean.Definition i))
    node_means None x e = absurd (none_some x e)
    node_means (Some (mean.Definition i)) x e = (i, refl)
    node_means (Some (mean.Measure k v)) x e = absurd (none_some x e)
    node_means (Some (mean.Procedure f)) x e = absurd (none_some x e)

    pub type_node_means : (name : Name) (x : ℕ) → type_node (setting_of source) name ≡ Some x → MeansType source name
    type_node_means name x e = node_means (meant (setting_of source) name) x e

    pub type_holds : (name : Name) (x : ℕ) → type_node (setting_of source) name ≡ Some x → HoldsAt source x (of_name name)
    type_holds name x e =
        let m = type_node_means name x e in
        subst (λ y. HoldsAt source y (of_name name)) (some_same _ x (sym (type_node_is name m.0 m.1) ∙ e)) (name_holds source all name m.0 m.1)

    pub same_means : (name : Name) (b : Placed) → IsSameType source (of_name name) b → MeansType source name
    same_means name b t =
        let d = name_means source t.c (of_name name) name t.first t.first_construct refl in
        let at = place_in d.0 (definitions source) d.1 in
        (at.0, ap (meaning (names_of source)) (sym d.2) ∙ (all.each at.0 d.0 at.1).own_name)

    -- the type that a pattern names is that of the node
    named_same : (name : Name) (y : ℕ) (a : Placed) → HoldsAt source y a → IsSameType source (of_name name) a ↔ (is_node (type_node (setting_of source) name) y ≡ true)
    named_same name y a h = (
      λ t.
          let m = same_means name a t in
          let e = type_node_is name m.0 m.1 in
          let same = (same_type source all _ y (of_name name) a (name_holds source all name m.0 m.1) h).0 t in
          ap (λ o. is_node o y) e ∙ eq-eqb (node_of (names_of source) (definitions source) m.0) y same,
      λ e. by (type_node (setting_of source) name) refl e,
    )
      where
        by : (o : Option ℕ) → type_node (setting_of source) name ≡ o → is_node o y ≡ true → IsSameType source (of_name name) a
        by None e t = absurd (false_true false refl t)
        by (Some x) e t = (same_type source all x y (of_name name) a (type_holds name x e) h).1 (eqb-true x y t)

    pub fits_same : (s : Stand) (l : Look) (p : Pattern) → AgreeLook s l → Fits source l p ↔ (fits (setting_of source) s p ≡ true)
    fits_same (inside y) (written.tuple a) p h = absurd h
    fits_same (itself y) (written.inside a) p h = absurd h
    fits_same (inside y) (written.inside a) (pattern.Named type) h = named_same type y.node a h
    fits_same (inside y) (written.inside a) (pattern.NamedWhole type name) h = named_same type y.node a h
    fits_same (inside y) (written.inside a) (pattern.NamedParts type names) h =
        let one = named_same type y.node a h in
        let two = factors_same y.node a (length names) h in (
          λ g. both_and _ _ (one.0 g.0) (two.0 g.1),
          λ e. let b = and_both (is_node (type_node (setting_of source) type) y.node) (has_factors (length names) (shape_at_node source y.node)) e in (one.1 b.0, two.1 b.1),
        )
    fits_same (inside y) (written.inside a) (pattern.Parts names at) h = factors_same y.node a (length names) h
    fits_same (inside y) (written.inside a) (pattern.Any at) h = (λ g. refl, λ e. tt)
    fits_same (inside y) (written.inside a) (pattern.AnyWhole name at) h = (λ g. refl, λ e. tt)
    fits_same (itself y) (written.tuple a) (pattern.Named type) h = (λ g. absurd g, λ e. absurd (false_true false refl e))
    fits_same (itself y) (written.tuple a) (pattern.NamedWhole type name) h = (λ g. absurd g, λ e. absurd (false_true false refl e))
    fits_same (itself y) (written.tuple a) (pattern.NamedParts type names) h =
        let one = named_same type y.node a h in
        let two = factors_same y.node a (length names) h in (
          λ g. both_and _ _ (one.0 g.0) (two.0 g.1),
          λ e. let b = and_both (is_node (type_node (setting_of source) type) y.node) (has_factors (length names) (shape_at_node source y.node)) e in (one.1 b.0, two.1 b.1),
        )
    fits_same (itself y) (written.tuple a) (pattern.Parts names at) h = factors_same y.node a (length names) h
    fits_same (itself y) (written.tuple a) (pattern.Any at) h = (λ g. refl, λ e. tt)
    fits_same (itself y) (written.tuple a) (pattern.AnyWhole name at) h = (λ g. absurd g, λ e. absurd (false_true false refl e))

    pub typed_same : (p : Pattern) → NamesType source p ↔ IsTyped (setting_of source) p
    typed_same (pattern.Named type) = (λ h. h, λ h. h)
    typed_same (pattern.NamedWhole type name) = (λ h. h, λ h. h)
    typed_same (pattern.NamedParts type names) = (λ h. h, λ h. h)
    typed_same (pattern.Parts names at) = (λ h. h, λ h. h)
    typed_same (pattern.Any at) = (λ h. h, λ h. h)
    typed_same (pattern.AnyWhole name at) = (λ h. h, λ h. h)

    -- what a pattern binds
    product_agrees : (names : List Name) (x : ℕ) (a : Placed) (parts : List Placed) → HoldsAt source x a → IsProductAt source a parts → AgreeScope (variables names (factors (shape_at_node source x))) (named_parts names parts)
    product_agrees names x a parts h u =
        let k = product_held source all x a parts h u in
        subst (λ z. AgreeScope (variables names (factors z)) (named_parts names parts)) (sym k.is) (parts_agree names k.ps parts k.hold)

    pub bound_agrees : (s : Stand) (p : Pattern) (a : Placed) (scope : Scope) → HoldsAt source (stand_part s).node a → BindsScope source p a scope → AgreeScope (bound (setting_of source) s p) scope
    bound_agrees s (pattern.Named type) a scope h b = subst (AgreeScope []) (sym b) tt
    bound_agrees s (pattern.NamedWhole type name) a scope h b = subst (AgreeScope (record { name = name.text; part = stand_part s } ∷ [])) (sym b) (one_agrees name (stand_part s) a h)
    bound_agrees s (pattern.NamedParts type names) a scope h b = subst (AgreeScope (variables names (factors (shape_at_node source (stand_part s).node)))) (sym b.2) (product_agrees names (stand_part s).node a b.0 h b.1)
    bound_agrees s (pattern.Parts names at) a scope h b = subst (AgreeScope (variables names (factors (shape_at_node source (stand_part s).node)))) (sym b.2) (product_agrees names (stand_part s).node a b.0 h b.1)
    bound_agrees s (pattern.Any at) a scope h b = subst (AgreeScope []) (sym b) tt
    bound_agrees s (pattern.AnyWhole name at) a scope h b = subst (AgreeScope (record { name = name.text; part = stand_part s } ∷ [])) (sym b) (one_agrees name (stand_part s) a h)

    pub binds_there : (l : Look) (p : Pattern) → Fits source l p → (scope : Scope) × BindsScope source p (looked_at l) scope
    binds_there l (pattern.Named type) f = ([], refl)
    binds_there l (pattern.NamedWhole type name) f = (one_variable name (looked_at l), refl)
    binds_there (written.inside a) (pattern.NamedParts type names) f = (named_parts names f.1.0, (f.1.0, f.1.1, refl))
    binds_there (written.tuple a) (pattern.NamedParts type names) f = (named_parts names f.1.0, (f.1.0, f.1.1, refl))
    binds_there (written.inside a) (pattern.Parts names at) f = (named_parts names f.0, (f.0, f.1, refl))
    binds_there (written.tuple a) (pattern.Parts names at) f = (named_parts names f.0, (f.0, f.1, refl))
    binds_there l (pattern.Any at) f = ([], refl)
    binds_there l (pattern.AnyWhole name at) f = (one_variable name (looked_at l), refl)

    -- ---- procedures and their signatures

    pub record SignatureIs (callee : Name) : Type 0 where
      pub f : ℕ
      pub p : ProcDef
      pub means : meaning (names_of source) callee.text ≡ Some (mean.Procedure f)
      pub there : slice_get source.procs f ≡ Some p
      pub is : signature_meant (setting_of source) (meant (setting_of source) callee) ≡ signature_of (names_of source) (definitions source) p

    pub signature_there : (callee : Name) (p : ProcDef) → MeansProcedure source callee p → signature_meant (setting_of source) (meant (setting_of source) callee) ≡ signature_of (names_of source) (definitions source) p
    signature_there callee p (f, means, there) =
        ap (signature_meant (setting_of source)) means ∙ index_get (setting_of source).signatures f (signature_of (names_of source) (definitions source) p) no_signature
        (get_map (signature_of (names_of source) (definitions source)) source.procs f p there)

    -- a callee that is a procedure
    pub procedure_there : (callee : Name) (f : ℕ) → meaning (names_of source) callee.text ≡ Some (mean.Procedure f) → (p : ProcDef) × MeansProcedure source callee p
    procedure_there callee f e = let m = names_mean source callee.text (mean.Procedure f) e in (m.0, (f, e, m.1))

    signature_means : (o : Option Meaning) (n : ℕ) → (signature_meant (setting_of source) o).on ≡ Some n → (f : ℕ) × (o ≡ Some (mean.Procedure f))
    signature_means None n e = absurd (none_some n e)
    signature_means (Some (mean.Definition i)) n e = absurd (none_some n e)
    signature_means (Some (mean.Measure k v)) n e = absurd (none_some n e)
    signature_means (Some (mean.Procedure f)) n e = (f, refl)

    mapped : (o : Option ℕ) (f : ℕ → ℕ) (n : ℕ) → option_map f o ≡ Some n → (i : ℕ) × (o ≡ Some i) × (f i ≡ n)
    mapped None f n e = absurd (none_some n e)
    mapped (Some i) f n e = (i, refl, some_same (f i) n e)

    node_known : (name : Name) (n : ℕ) → named_node (names_of source) (definitions source) name ≡ Some n → MeansType source name × HoldsAt source n (of_name name)
    node_known name n e =
        let i = mapped (definition_meant (meaning (names_of source) name.text)) (node_of (names_of source) (definitions source)) n e in
        let means = definition_back (meaning (names_of source) name.text) i.0 i.1 in
        ((i.0, means), subst (λ y. HoldsAt source y (of_name name)) i.2 (name_holds source all name i.0 means))

    pub known_parameter : (callee : Name) (n : ℕ) → (signature_meant (setting_of source) (meant (setting_of source) callee)).on ≡ Some n → (p : ProcDef) × MeansProcedure source callee p × MeansType source p.on × HoldsAt source n (of_name p.on)
    known_parameter callee n e =
        let m = signature_means (meant (setting_of source) callee) n e in
        let q = procedure_there callee m.0 m.1 in
        let on : named_node (names_of source) (definitions source) q.0.on ≡ Some n = sym (ap (λ (z : Signature). z.on) (signature_there callee q.0 q.1)) ∙ e in
        let k = node_known q.0.on n on in
        (q.0, q.1, k.0, k.1)

    pub parameter_is : (callee : Name) (p : ProcDef) → MeansProcedure source callee p → MeansType source p.on
        → (n : ℕ) × ((signature_meant (setting_of source) (meant (setting_of source) callee)).on ≡ Some n) × HoldsAt source n (of_name p.on)
    parameter_is callee p means on =
        let names = names_of source in
        let defs = definitions source in (
          node_of names defs on.0,
          ap (λ (z : Signature). z.on) (signature_there callee p means) ∙ ap (λ o. option_map (node_of names defs) (definition_meant o)) on.1,
          name_holds source all p.on on.0 on.1,
        )

    -- a result of a procedure: none, or of a type
    result_means : (o : Option Name) (n : ℕ) → option_map (named_node (names_of source) (definitions source)) o ≡ Some (Some n) → (r : Name) × (o ≡ Some r) × (named_node (names_of source) (definitions source) r ≡ Some n)
    result_means None n e = absurd (cc)
    result_means (Some r) n e = (r, refl, some_same (named_node (names_of source) (definitions source) r) (Some n) e)

    no_result_name : (o : Option Name) → option_map (named_node (names_of source) (definitions source)) o ≡ None → o ≡ None
    no_result_name None e = refl
    no_result_name (Some r) e = absurd (cc)

    pub known_result : (p : ProcDef) (n : ℕ) → (signature_of (names_of source) (definitions source) p).result ≡ Some (Some n) → (r : Name) × (result_name p.body ≡ Some r) × MeansType source r × HoldsAt source n (of_name r)
    known_result p n e =
        let r = result_means (result_name p.body) n e in
        let k = node_known r.0 n r.2 in
        (r.0, r.1, k.0, k.1)

    pub unknown_result : (p : ProcDef) → (signature_of (names_of source) (definitions source) p).result ≡ None → result_name p.body ≡ None
    unknown_result p e = no_result_name (result_name p.body) e

    pub result_is : (p : ProcDef) (r : Name) → result_name p.body ≡ Some r → (t : MeansType source r) → (signature_of (names_of source) (definitions source) p).result ≡ Some (Some (node_of (names_of source) (definitions source) t.0))
    result_is p r e t =
        let names = names_of source in
        let defs = definitions source in
        ap (option_map (named_node names defs)) e ∙ ap (λ o. Some (option_map (node_of names defs) (definition_meant o))) t.1
