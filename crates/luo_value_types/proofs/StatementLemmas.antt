-- Statements that are counted one by one.
use Rattle.std.proofs.Common.{◌≡◌, ℕ, suc, ◌+◌, ◌≤◌, List, drop, length, ap, sym, ◌∙◌, arith}
use Rattle.std.proofs.lemmas.List.{drop_all}
use Rattle.luo_num.specs.Mark.{capped}
use Rattle.luo_source.specs.declared.names.Name.{Name}
use Rattle.luo_source.specs.declared.values.SourceValue.{SourceValue}
use Rattle.luo_source.specs.declared.values.SourceValueArm.{SourceValueArm}
use Rattle.luo_source.specs.declared.values.SourceValue as source
use Rattle.luo_source.specs.View.{source_value_of}
use Rattle.luo_rules.specs.Statements.{value_statements}
use Rattle.luo_value_types.specs.inner.Lists.{parts_statements, arms_statements}
use Rattle.luo_rules.proofs.ValueForms.{tuple_statements, branch_statements, case_statements}

-- all the statements are those so far with those that are left
pub record CountedSoFar (all sum left : ℕ) : Type 0 where
  pub counted : capped (sum + left) ≡ capped all
  pub small : capped sum ≡ sum

pub parts_counted : (parts : List SourceValue) (i sum : ℕ) → length parts ≤ i → CountedSoFar (parts_statements parts) sum (parts_statements (drop i parts)) → sum ≡ capped (parts_statements parts)
parts_counted parts i sum past so = omega (arith, so.counted, so.small, ap parts_statements (drop_all i parts past))

pub arms_counted : (arms : List SourceValueArm) (i sum : ℕ) → length arms ≤ i → CountedSoFar (arms_statements arms) sum (arms_statements (drop i arms)) → sum ≡ capped (arms_statements arms)
arms_counted arms i sum past so = omega (arith, so.counted, so.small, ap arms_statements (drop_all i arms past))

pub count_tuple : (v : SourceValue) (parts items : List SourceValue) (at n : ℕ) → v ≡ source.Tuple parts at → items ≡ parts → n ≡ capped (parts_statements items) → n ≡ capped (value_statements (source_value_of v))
count_tuple v parts items at n is same e = e ∙ ap (λ z. capped (parts_statements z)) same ∙ ap capped (sym (tuple_statements parts at)) ∙ ap (λ z. capped (value_statements (source_value_of z))) (sym is)

pub count_branch : (v inner held : SourceValue) (number at n : ℕ) → v ≡ source.Branch number at inner → held ≡ inner → n ≡ capped (value_statements (source_value_of held)) → n ≡ capped (value_statements (source_value_of v))
count_branch v inner held number at n is same e = e ∙ ap (λ z. capped (value_statements (source_value_of z))) same ∙ ap capped (sym (branch_statements number at inner)) ∙ ap (λ z. capped (value_statements (source_value_of z))) (sym is)

pub count_case : (v : SourceValue) (var : Name) (arms items : List SourceValueArm) (n all : ℕ) → v ≡ source.Case var arms → items ≡ arms → n ≡ capped (arms_statements items) → all ≡ capped (1 + n) → all ≡ capped (value_statements (source_value_of v))
count_case v var arms items n all is same e f =
    let inside : n ≡ capped (arms_statements arms) = e ∙ ap (λ z. capped (arms_statements z)) same in
    let here : value_statements (source_value_of v) ≡ suc (arms_statements arms) = ap (λ z. value_statements (source_value_of z)) is ∙ case_statements var arms in
    omega (arith, inside, f, here)
