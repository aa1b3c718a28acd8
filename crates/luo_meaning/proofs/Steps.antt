-- Bodies put together from parts, and variables that have the same structures by place and by name.
use Rattle.std.proofs.Common.{◌≡◌, ℕ, zero, suc, ◌+◌, ◌↔◌, List, [], ◌∷◌, Option, Some, None, slice_get, refl, ap, ◌∙◌, subst, arith}
use Rattle.std.specs.Prelude.{Bool, true, false, if◌then◌else◌}
use Rattle.std.specs.Str.{bytes_eq}
use Rattle.luo_model.specs.declared.program.Part.{Part}
use Rattle.luo_model.specs.Tree.{Tree, Trees, Atom, Inj, Tup, Coll, none, more}
use Rattle.luo_model.specs.Program.{Does, Items, no_items, item, Item, no_arms}
use Rattle.luo_model.specs.Charges.{parts_of, EachCharges, BodyCharges, ItemsCharge, ItemCharges, CaseCharges}
use Rattle.luo_model.specs.Scopes.Stands.{Stand}
use Rattle.luo_model.specs.Scopes.ValueBodies.{join_items}
use Rattle.luo_model.specs.Charges as model
use Rattle.luo_source.specs.declared.names.Name.{Name}
use Rattle.luo_source.specs.declared.statements.Pattern.{Pattern}
use Rattle.luo_source.specs.declared.statements.Pattern.TheVariants.{Named, NamedWhole, NamedParts, Parts, Any, AnyWhole}
use Rattle.luo_rules.specs.declared.setting.Setting.{Setting}
use Rattle.luo_rules.specs.declared.setting.Variable.{Variable}
use Rattle.luo_rules.specs.Settings.{found_from, found}
use Rattle.luo_rules.specs.Patterns as patterns
use Rattle.luo_rules.specs.Patterns.{bind_of, variables}
use Rattle.luo_rules.proofs.Lists.{some_same, none_some}
use Rattle.luo_meaning.specs.Variables.{Environment, structure_of, paired, binds}

module _ (R : ℕ → Tree → ℕ → Type 0) where
  -- items one after another charge what each part does
  pub split_items : (is more : Items) (vars : List Tree) (r : ℕ) → ItemsCharge R (join_items is more) vars r → (a : ℕ) × (b : ℕ) × ItemsCharge R is vars a × ItemsCharge R more vars b × (r ≡ a + b)
  split_items no_items rest vars r h = (0, r, refl, h, omega arith)
  split_items (item i is) rest vars r h =
      let s = split_items is rest vars h.1 h.3 in
      let e : r ≡ (h.0 + s.0) + s.1 = omega (arith, h.4, s.4) in
      (h.0 + s.0, s.1, (h.0, s.0, h.2, s.2, refl), s.3, e)

  pub joined_items : (is more : Items) (vars : List Tree) (a b r : ℕ) → ItemsCharge R is vars a → ItemsCharge R more vars b → r ≡ a + b → ItemsCharge R (join_items is more) vars r
  joined_items no_items rest vars a b r h k e = subst (ItemsCharge R rest vars) (omega (arith, h, e)) k
  joined_items (item i is) rest vars a b r h k e =
      let e' : r ≡ h.0 + (h.1 + b) = omega (arith, h.4, e) in
      (h.0, h.1 + b, h.2, joined_items is rest vars h.1 b (h.1 + b) h.3 k refl, e')

  pub split_body : (own other : ℕ) (is rest : Items) (vars : List Tree) (q : ℕ) → BodyCharges R (Does (own + other) (join_items is rest)) vars q
      → (a : ℕ) × (b : ℕ) × BodyCharges R (Does own is) vars a × BodyCharges R (Does other rest) vars b × (q ≡ a + b)
  split_body own other is rest vars q h =
      let s = split_items is rest vars h.0 h.1 in
      let e : q ≡ (own + s.0) + (other + s.1) = omega (arith, h.2, s.4) in
      (own + s.0, other + s.1, (s.0, s.2, refl), (s.1, s.3, refl), e)

  pub joined_body : (own other : ℕ) (is rest : Items) (vars : List Tree) (a b q : ℕ) → BodyCharges R (Does own is) vars a → BodyCharges R (Does other rest) vars b → q ≡ a + b → BodyCharges R (Does (own + other) (join_items is rest)) vars q
  joined_body own other is rest vars a b q h k e =
      let e' : q ≡ own + other + (h.0 + k.0) = omega (arith, h.2, k.2, e) in
      (h.0 + k.0, joined_items is rest vars h.0 k.0 (h.0 + k.0) h.1 k.1 refl, e')

  -- a body of one item charges what the item does
  pub of_one : (i : Item) (vars : List Tree) (q : ℕ) → BodyCharges R (Does 0 (item i no_items)) vars q → ItemCharges R i vars q
  of_one i vars q h = subst (ItemCharges R i vars) (omega (arith, h.1.3, h.1.4, h.2)) h.1.2

  pub one_of : (i : Item) (vars : List Tree) (q : ℕ) → ItemCharges R i vars q → BodyCharges R (Does 0 (item i no_items)) vars q
  one_of i vars q h = let e : q ≡ q + 0 = omega arith in let f : q ≡ 0 + q = omega arith in (q, (q, 0, h, refl, e), f)

  -- nothing else than its own
  pub own_only : (own : ℕ) (vars : List Tree) (q : ℕ) → BodyCharges R (Does own no_items) vars q ↔ (q ≡ own)
  own_only own vars q = (λ h. omega (arith, h.1, h.2), λ e. let f : q ≡ own + 0 = omega (arith, e) in (0, refl, f))

  -- no arm does anything
  pub no_arm : (t : Tree) (q : ℕ) → CaseCharges R no_arms t q → ⊥
  no_arm (Atom w l) q h = h
  no_arm (Inj zero t) q h = h
  no_arm (Inj (suc zero) t) q h = h
  no_arm (Inj (suc (suc i)) t) q h = h
  no_arm (Tup ts) q h = h
  no_arm (Coll ts) q h = h

-- each component by each
pub each_map : (P Q : Tree → ℕ → Type 0) → ((t : Tree) (q : ℕ) → P t q → Q t q) → (ts : Trees) (q : ℕ) → EachCharges P ts q → EachCharges Q ts q
each_map P Q f none q h = h
each_map P Q f (more t ts) q h = (h.0, h.1, f t h.0 h.2, each_map P Q f ts h.1 h.3, h.4)

-- what is found in a scope stands among the structures where its name has it
abbrev pub Agree : List Variable → Environment → List Tree → Type 0
Agree scope env vars = (name : Name) (v : ℕ × Part) → found scope name ≡ Some v → slice_get vars v.0 ≡ structure_of env name.text

-- the same for a list of names from a place on
-- one step of finding: the variable itself, or one behind it
found_step : (k : ℕ) (x : Part) (more : Option (ℕ × Part)) (t : Tree) (ts : List Tree) (other : Option Tree) (v : ℕ × Part) (b : Bool)
    → (more ≡ Some v → (j : ℕ) × (v.0 ≡ suc k + j) × (slice_get ts j ≡ other))
    → (if b then Some (k, x) else more) ≡ Some v → (j : ℕ) × (v.0 ≡ k + j) × (slice_get (t ∷ ts) j ≡ (if b then Some t else other))
found_step k x rest t ts other v true on e = let same : k ≡ v.0 = ap (λ (z : ℕ × Part). z.0) (some_same (k, x) v e) in let f : v.0 ≡ k + 0 = omega (arith, same) in (0, f, refl)
found_step k x rest t ts other v false on e = let g = on e in let f : v.0 ≡ k + suc g.0 = omega (arith, g.1) in (suc g.0, f, g.2)

-- where there are no structures none is found by name
none_step : (k : ℕ) (x : Part) (rest : Option (ℕ × Part)) (v : ℕ × Part) (b : Bool) → (rest ≡ Some v → (j : ℕ) × (v.0 ≡ suc k + j)) → (if b then Some (k, x) else rest) ≡ Some v → (j : ℕ) × (v.0 ≡ k + j)
none_step k x rest v true on e = let same : k ≡ v.0 = ap (λ (z : ℕ × Part). z.0) (some_same (k, x) v e) in let f : v.0 ≡ k + 0 = omega (arith, same) in (0, f)
none_step k x rest v false on e = let g = on e in let f : v.0 ≡ k + suc g.0 = omega (arith, g.1) in (suc g.0, f)

found_later : (k : ℕ) (names : List Name) (parts : List Part) (text : List ℕ) (v : ℕ × Part) → found_from k (variables names parts) text ≡ Some v → (j : ℕ) × (v.0 ≡ k + j)
found_later k [] [] text v e = absurd (none_some v e)
found_later k [] (x ∷ parts) text v e = absurd (none_some v e)
found_later k (n ∷ names) [] text v e = absurd (none_some v e)
found_later k (n ∷ names) (x ∷ parts) text v e = none_step k x (found_from (suc k) (variables names parts) text) v (bytes_eq n.text text) (λ g. found_later (suc k) names parts text v g) e

agree_from : (k : ℕ) (names : List Name) (parts : List Part) (ts : List Tree) (text : List ℕ) (v : ℕ × Part) → found_from k (variables names parts) text ≡ Some v → (j : ℕ) × (v.0 ≡ k + j) × (slice_get ts j ≡ structure_of (paired names ts) text)
agree_from k [] [] ts text v e = absurd (none_some v e)
agree_from k [] (x ∷ parts) ts text v e = absurd (none_some v e)
agree_from k (n ∷ names) [] ts text v e = absurd (none_some v e)
agree_from k (n ∷ names) (x ∷ parts) [] text v e = let g = found_later k (n ∷ names) (x ∷ parts) text v e in (g.0, g.1, refl)
agree_from k (n ∷ names) (x ∷ parts) (t ∷ ts) text v e =
    found_step k x (found_from (suc k) (variables names parts) text) t ts (structure_of (paired names ts) text) v (bytes_eq n.text text) (λ g. agree_from (suc k) names parts ts text v g) e

pub agree_parts : (names : List Name) (parts : List Part) (ts : List Tree) → Agree (variables names parts) (paired names ts) ts
agree_parts names parts ts name v e = let g = agree_from 0 names parts ts name.text v e in ap (slice_get ts) (g.1 ∙ omega arith) ∙ g.2

pub agree_none : Agree [] [] []
agree_none name v e = absurd (none_some v e)

pub agree_one : (text : List ℕ) (part : Part) (t : Tree) → Agree (record { name = text; part = part } ∷ []) ((text, t) ∷ []) (t ∷ [])
agree_one text part t name v e =
    let g = found_step 0 part None t [] None v (bytes_eq text name.text) (λ n. absurd (none_some v n)) e in
    ap (slice_get (t ∷ [])) (g.1 ∙ omega arith) ∙ g.2

-- a pattern binds the same by name and by place
pub agree_bound : (s : Setting) (stand : Stand) (pattern : Pattern) (t : Tree) → Agree (patterns.bound s stand pattern) (binds pattern t) (model.bound (bind_of pattern) t)
agree_bound s stand (Named type) t = agree_none
agree_bound s stand (NamedWhole type name) t = agree_one name.text _ t
agree_bound s stand (NamedParts type names) t = agree_parts names _ (parts_of t)
agree_bound s stand (Parts names at) t = agree_parts names _ (parts_of t)
agree_bound s stand (Any at) t = agree_none
agree_bound s stand (AnyWhole name at) t = agree_one name.text _ t
