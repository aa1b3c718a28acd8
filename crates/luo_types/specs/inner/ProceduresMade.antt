-- What checking procedures gives.
use Rattle.std.specs.Prelude.{◌≡◌, ℕ, ◌+◌, List, [], map, Option, Some}
use Rattle.std.specs.Option.{option_map}
use Rattle.luo_model.specs.declared.body.Body.{Body}
use Rattle.luo_model.specs.declared.program.Proc.{Proc}
use Rattle.luo_model.specs.declared.value.Made.{Made}
use Rattle.luo_model.specs.View.{body_of, result_of, procedure_of}
use Rattle.luo_source.specs.Plain.Source.{ProcDef}
use Rattle.luo_rules.specs.declared.rule.Breach.{Breach}
use Rattle.luo_rules.specs.declared.setting.Setting.{Setting}
use Rattle.luo_model.specs.Program as plain
use Rattle.luo_rules.specs.Whole.{body_breaches, body_core, sites_of, result_core, proc_breaches, proc_core, procs_breaches, procs_core}

-- nothing is broken; the body does this, and so many sites are the next ones
pub record IsDone (breaches : List Breach) (does : plain.Body) (sites : ℕ) (body : Body)
    (first next : ℕ) : Type 0 where
  pub unbroken : breaches ≡ []
  pub done : body_of body ≡ does
  pub numbered : next ≡ first + sites

-- the body of a procedure was checked, whose parameter has this node, and made, with its result
pub record IsBodyMade (s : Setting) (p : ProcDef) (node : ℕ) (body : Body) (made : Option Made)
    (first next : ℕ) : Type 0 where
  pub unbroken : body_breaches s p (Some node) p.body ≡ []
  pub done : body_of body ≡ body_core s p first p.body
  pub result : option_map result_of made ≡ result_core s p p.body
  pub numbered : next ≡ first + sites_of s p p.body

-- procedure f was checked and made
pub record IsProcMade (s : Setting) (f : ℕ) (p : ProcDef) (made : Proc)
    (first next : ℕ) : Type 0 where
  pub unbroken : proc_breaches s f p ≡ []
  pub formed : procedure_of made ≡ proc_core s first p
  pub numbered : next ≡ first + sites_of s p p.body + 1

-- procedures were checked and made
pub record AreProcsMade (s : Setting) (procs : List ProcDef) (made : List Proc) : Type 0 where
  pub unbroken : procs_breaches s 0 procs ≡ []
  pub formed : map procedure_of made ≡ procs_core s 0 procs
