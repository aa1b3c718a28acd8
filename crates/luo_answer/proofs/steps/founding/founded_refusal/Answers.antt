use Rattle.std.proofs.Common.{ap, refl}
use Rattle.luo_model.specs.Program.{Program}
use Rattle.luo_model.specs.View.{plain_of}
use Rattle.luo_founded.specs.declared.checking.NotFounded.{NotFounded}
use Rattle.luo_founded.specs.declared.checking.NotFounded.TheVariants.{W1, W2, W3, W4, NoMemory}
use Rattle.luo_founded.specs.Found.{Breaks, Refuses, WantsMemory}
use Rattle.luo_answer.specs.declared.status.Status.TheVariants.{Refused}
use Rattle.luo_answer.specs.Answer.{Refusal}
use Rattle.luo_answer.proofs.steps.founding.founded_refusal.Goals as goal

breaks : (p : Program) (e : NotFounded) → Refuses p e → (WantsMemory e → ⊥) → Breaks p e
breaks p (W1 x) h none = h
breaks p (W2 x) h none = h
breaks p (W3 chain) h none = h
breaks p (W4 chain) h none = h
breaks p NoMemory h none = absurd (none refl)

pub returns-in-Ok : goal.returns-in-Ok
returns-in-Ok c =
    (c.args.error.now, breaks (plain_of c.args.program.now) c.args.error.now c.requires c.in-Ok.ensures.told, ap (Refusal Refused) c.in-Ok.ensures.line)
