-- The parts of a source that breaks no rule.
use Rattle.std.specs.Prelude.{◌≡◌, [], map}
use Rattle.luo_model.specs.View.{procedure_of}
use Rattle.luo_source.specs.Plain.Source.{Source}
use Rattle.luo_rules.specs.Meanings as meanings
use Rattle.luo_rules.specs.Meanings.{procedure_use}
use Rattle.luo_rules.specs.Settings.{meant}
use Rattle.luo_rules.specs.Nodes.{setting_of}
use Rattle.luo_rules.specs.Whole.{breaches, procs_core}
use Rattle.luo_types.specs.declared.checking.Typed.{Typed}

-- no rule is broken; the setting is that of the source, and the procedures and analyze lines are
-- those of its core form
pub record IsTyped (source : Source) (t : Typed) : Type 0 where
  pub unbroken : breaches source ≡ []
  pub setting : t.setting ≡ setting_of source
  pub procs : map procedure_of t.procs ≡ procs_core (setting_of source) 0 source.procs
  pub analyses : t.analyses
      ≡ map (λ name. meanings.procedure_of (meant (setting_of source) name)) source.analyses
