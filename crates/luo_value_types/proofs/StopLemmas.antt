-- Where a check over several parts stops.
use Rattle.std.proofs.Common.{◌≡◌, ℕ, true, List, [], ◌++◌, Option, Some, None, length, nat_eq, refl, sym, ◌∙◌, ap, subst}
use Rattle.luo_source.specs.declared.names.Name.{Name}
use Rattle.luo_source.specs.declared.statements.Pattern.{Pattern}
use Rattle.luo_model.specs.Scopes.Stands.{Stand}
use Rattle.luo_model.specs.declared.program.Part.{Part}
use Rattle.luo_rules.specs.declared.rule.Breach.{Breach}
use Rattle.luo_rules.specs.declared.rule.Stop.{Stop}
use Rattle.luo_rules.specs.declared.rule.Stop.TheVariants as stop
use Rattle.luo_rules.specs.declared.setting.Setting.{Setting}
use Rattle.luo_rules.specs.Breaches.{◌or_if_none◌, StopsAt}
use Rattle.luo_rules.specs.Settings.{case_stands}
use Rattle.luo_rules.specs.Patterns.{fits, pattern_breaches, arm_breaches, case_breaches}

-- memory may be refused in every check
pub StopsAt-no_memory : (bs : List Breach) → StopsAt bs stop.NoMemory
StopsAt-no_memory bs = tt

-- the first part stops
pub StopsAt-left : (xs ys : List Breach) (s : Stop) → StopsAt xs s → StopsAt (xs ++ ys) s
StopsAt-left xs ys (stop.Breach b) (rest, e) = (rest ++ ys, ap (λ z. z ++ ys) e)
StopsAt-left xs ys stop.NoMemory h = tt

-- the first part has none, and the second stops
pub StopsAt-right : (xs ys : List Breach) (s : Stop) → xs ≡ [] → StopsAt ys s → StopsAt (xs ++ ys) s
StopsAt-right xs ys s e h = subst (λ z. StopsAt (z ++ ys) s) (sym e) h

pub StopsAt-first : (xs ys : List Breach) (s : Stop) → StopsAt xs s → StopsAt (xs or_if_none ys) s
StopsAt-first xs ys (stop.Breach b) (rest, e) = (rest, ap (λ z. z or_if_none ys) e)
StopsAt-first xs ys stop.NoMemory h = tt

pub StopsAt-then : (xs ys : List Breach) (s : Stop) → xs ≡ [] → StopsAt ys s → StopsAt (xs or_if_none ys) s
StopsAt-then xs ys s e h = subst (λ z. StopsAt (z or_if_none ys) s) (sym e) h

-- neither part has any
pub none-append : (xs ys : List Breach) → xs ≡ [] → ys ≡ [] → xs ++ ys ≡ []
none-append xs ys e f = ap (λ z. z ++ ys) e ∙ f

pub none-or_if_none : (xs ys : List Breach) → xs ≡ [] → ys ≡ [] → (xs or_if_none ys) ≡ []
none-or_if_none xs ys e f = ap (λ z. z or_if_none ys) e ∙ f

-- an arm whose pattern fits has the breaches of its body
pub arm-body : (s : Setting) (stand : Stand) (var : Name) (pattern : Pattern) (body : List Breach) → pattern_breaches s stand var pattern ≡ [] → fits s stand pattern ≡ true → arm_breaches s stand var pattern body ≡ body
arm-body s stand var pattern body e f = search (e, f)

-- the pattern of an arm stops
pub StopsAt-pattern : (s : Setting) (stand : Stand) (var : Name) (pattern : Pattern) (body : List Breach) (at : Stop) → StopsAt (pattern_breaches s stand var pattern) at → StopsAt (arm_breaches s stand var pattern body) at
StopsAt-pattern s stand var pattern body at h = StopsAt-left _ _ at h

-- the body of an arm stops
pub StopsAt-body : (s : Setting) (stand : Stand) (var : Name) (pattern : Pattern) (body : List Breach) (at : Stop) → pattern_breaches s stand var pattern ≡ [] → fits s stand pattern ≡ true → StopsAt body at → StopsAt (arm_breaches s stand var pattern body) at
StopsAt-body s stand var pattern body at e f h = subst (λ z. StopsAt z at) (sym (arm-body s stand var pattern body e f)) h

-- a case whose variable is bound, with an arm for each thing to stand for, has the breaches of its arms
pub case-arms : (s : Setting) (there : Option (ℕ × Part)) (variable : ℕ × Part) (var : Name) (arms : ℕ) (inner : List Breach) → there ≡ Some variable → nat_eq arms (length (case_stands s there)) ≡ true → case_breaches s there var arms inner ≡ inner
case-arms s None variable var arms inner e f = cc
case-arms s (Some v) variable var arms inner e f = rw f refl

-- an arm of such a case stops
pub StopsAt-case : (s : Setting) (there : Option (ℕ × Part)) (variable : ℕ × Part) (var : Name) (arms : ℕ) (inner : List Breach) (at : Stop) → there ≡ Some variable → nat_eq arms (length (case_stands s there)) ≡ true → StopsAt inner at → StopsAt (case_breaches s there var arms inner) at
StopsAt-case s there variable var arms inner at e f h = subst (λ z. StopsAt z at) (sym (case-arms s there variable var arms inner e f)) h

pub ruleset stop_steps = (StopsAt-left, StopsAt-right, StopsAt-first, StopsAt-then, none-append, none-or_if_none, StopsAt-pattern, StopsAt-body, StopsAt-case)
