use Rattle.std.proofs.Common.{◌++◌, ◌∷◌, [], ap, ◌∙◌, refl}
use Rattle.luo_read.specs.declared.reader.Frame.TheVariants.{Branch, Tuple, Collection}
use Rattle.luo_read.specs.declared.reader.Stop.TheVariants.{Unreadable}
use Rattle.std.specs.Prelude.{Err}
use Rattle.luo_read.proofs.ReaderLemmas.{passed_top}
use Rattle.luo_read.proofs.steps.passed.Goals as goal

pub returns-in-Branch : goal.returns-in-Branch
returns-in-Branch c =
    passed_top c.args.frames c.pop.new.self (Branch c.in-Branch.number) c.args.s c.args.byte (Err Unreadable) (c.in-Some.ensures ∙ ap (λ f. c.pop.new.self ++ f ∷ []) c.in-Branch.is) refl

pub returns-in-Tuple : goal.returns-in-Tuple
returns-in-Tuple c =
    passed_top c.args.frames c.pop.new.self (Tuple c.in-Tuple.parts) c.args.s c.args.byte c.tuple_passed.result
    (c.in-Some.ensures ∙ ap (λ f. c.pop.new.self ++ f ∷ []) c.in-Tuple.is) c.tuple_passed.ensures

pub returns-in-Collection : goal.returns-in-Collection
returns-in-Collection c =
    passed_top c.args.frames c.pop.new.self (Collection c.in-Collection.parts) c.args.s c.args.byte c.collection_passed.result
    (c.in-Some.ensures ∙ ap (λ f. c.pop.new.self ++ f ∷ []) c.in-Collection.is) c.collection_passed.ensures
