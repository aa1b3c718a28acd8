use Rattle.std.proofs.Common.{◌++◌, ◌∷◌, [], ap, ◌∙◌, arith}
use Rattle.luo_read.proofs.ReaderLemmas.{branch_closed, tuple_stays, collection_stays, longer}
use Rattle.luo_read.specs.declared.reader.Frame.TheVariants.{Branch, Tuple, Collection}
use Rattle.luo_struct.specs.declared.structure.Structure.{Inj}
use Rattle.std.proofs.Common.{refl}
use Rattle.luo_read.proofs.steps.behind.Goals as goal

pub loop-frame-preserved : goal.loop-frame-preserved
loop-frame-preserved c =
    let e = c.in-Some.ensures ∙ ap (λ f. c.pop.new.self ++ f ∷ []) c.in-Branch.is in (
      branch_closed c.loop-frame.frames c.pop.new.self c.in-Branch.number c.loop-frame.s c.in_ok-inner-in-Branch.inner
          (Inj c.in-Branch.number c.in_ok-inner-in-Branch.inner) e refl c.in_ok-inner-in-Branch.ensures ∙ c.loop-frame.invariant.0,
      omega (arith, longer c.loop-frame.frames c.pop.new.self (Branch c.in-Branch.number) e, c.loop-frame.invariant.1),
    )

pub returns-in-Tuple-clause-ok : goal.returns-in-Tuple-clause-ok
returns-in-Tuple-clause-ok c =
    let e = c.in-Some.ensures ∙ ap (λ f. c.pop.new.self ++ f ∷ []) c.in-Tuple.is in (
      tuple_stays c.loop-frame.frames c.pop.new.self c.push.new.self c.in-Tuple.parts c.loop-frame.s e c.in_ok-push-in-Tuple.ensures.ok ∙ c.loop-frame.invariant.0,
      omega (
        arith,
        longer c.loop-frame.frames c.pop.new.self (Tuple c.in-Tuple.parts) e,
        longer c.push.new.self c.pop.new.self
            (Tuple c.in-Tuple.parts) c.in_ok-push-in-Tuple.ensures.ok,
        c.loop-frame.invariant.1,
      ),
    )

pub returns-in-Collection-clause-ok : goal.returns-in-Collection-clause-ok
returns-in-Collection-clause-ok c =
    let e = c.in-Some.ensures ∙ ap (λ f. c.pop.new.self ++ f ∷ []) c.in-Collection.is in (
      collection_stays c.loop-frame.frames c.pop.new.self c.push-in-Collection.new.self c.in-Collection.parts c.loop-frame.s e c.in_ok-push-in-Collection.ensures.ok ∙ c.loop-frame.invariant.0,
      omega (
        arith,
        longer c.loop-frame.frames c.pop.new.self (Collection c.in-Collection.parts) e,
        longer c.push-in-Collection.new.self c.pop.new.self
            (Collection c.in-Collection.parts) c.in_ok-push-in-Collection.ensures.ok,
        c.loop-frame.invariant.1,
      ),
    )
