use Rattle.luo_model.specs.Program.{shape_of}
use Rattle.luo_model.specs.View.{plain_of}
use Rattle.luo_compile.proofs.BodyLemmas.{union_stands}
use Rattle.luo_compile.proofs.bodies.stands.Goals as goal

pub returns-in-Some-Union : goal.returns-in-Some-Union
returns-in-Some-Union c =
    union_stands c.in-Some-Union.parts c.as_slice.result.now c.args.on.now c.in-Some-Union.field-0.now (shape_of (plain_of c.args.program.now) c.args.on.now.node)
    c.as_slice.ensures c.in-Some-Union.field-0-is c.in-Some-Union.ensures.some
