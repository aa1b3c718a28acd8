use Rattle.std.proofs.Common.{◌++◌, ◌∷◌, [], ap, ◌∙◌, refl}
use Rattle.luo_read.specs.declared.reader.Frame.TheVariants.{Branch, Tuple}
use Rattle.luo_read.proofs.ReaderLemmas.{first_closed, first_stuck}
use Rattle.luo_read.proofs.steps.first.Goals as goal

pub returns-in-Branch : goal.returns-in-Branch
returns-in-Branch c = first_stuck c.args.frames c.pop.new.self (Branch c.in-Branch.number) c.args.byte c.if-byte-ne93.false
    (c.in-Some.ensures ∙ ap (λ f. c.pop.new.self ++ f ∷ []) c.in-Branch.is) refl

pub returns-in-Tuple : goal.returns-in-Tuple
returns-in-Tuple c = first_stuck c.args.frames c.pop.new.self (Tuple c.in-Tuple.parts) c.args.byte c.if-byte-ne93.false (c.in-Some.ensures ∙ ap (λ f. c.pop.new.self ++ f ∷ []) c.in-Tuple.is) refl

pub returns-in-Collection : goal.returns-in-Collection
returns-in-Collection c =
    first_closed c.args.frames c.pop.new.self c.in-Collection.parts c.args.byte c.behind.result c.requires.few c.if-byte-ne93.false
    (c.in-Some.ensures ∙ ap (λ f. c.pop.new.self ++ f ∷ []) c.in-Collection.is)
    c.behind.ensures.ok c.behind.ensures.err
