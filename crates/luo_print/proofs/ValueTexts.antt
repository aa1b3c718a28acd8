-- The texts of values and arms in a list and in a box.
use Rattle.std.proofs.Common.{◌≡◌, ℕ, ◌+◌, List, [], ◌∷◌, ◌++◌, refl, ap, ◌∙◌, sym, map, codes, decimal}
use Rattle.std.specs.List.{join_by}
use Rattle.luo_source.specs.declared.names.Name.{Name}
use Rattle.luo_source.specs.declared.values.SourceValueArm.{SourceValueArm}
use Rattle.luo_source.specs.declared.values.SourceValue.{SourceValue, Tuple, Branch, Case}
use Rattle.luo_source.specs.View.{source_value_of, source_value_list, source_value_arm_list}
use Rattle.luo_source.proofs.ViewLemmas.{tuple_value, branch_value, case_value}
use Rattle.luo_print.specs.Layout.{joined, new_line, lines}
use Rattle.luo_print.specs.CanonicalStatements.{pattern_text, case_of}
use Rattle.luo_print.specs.CanonicalValues.{opening, closing, value_text, value_texts, value_arm_texts}
use Rattle.luo_print.proofs.Joins.{joined_map, lines_map}

-- an arm in a line of this indentation
abbrev pub value_arm_text : ℕ → SourceValueArm → List ℕ
value_arm_text n arm = pattern_text arm.pattern ++ codes " : " ++ value_text n (source_value_of arm.body)

-- an arm on a new line of this indentation
abbrev pub value_arm_line : ℕ → SourceValueArm → List ℕ
value_arm_line n arm = new_line n ++ value_arm_text n arm

-- the text of a value directly inside a branch
abbrev pub inner_text : ℕ → SourceValue → List ℕ
inner_text n v = let w = source_value_of v in opening w ++ value_text n w ++ closing w

list_texts : (n : ℕ) (vs : List SourceValue) → value_texts n (source_value_list vs) ≡ map (λ v. value_text n (source_value_of v)) vs
list_texts n [] = refl
list_texts n (v ∷ vs) = ap (λ t. value_text n (source_value_of v) ∷ t) (list_texts n vs)

arm_list_texts : (n : ℕ) (arms : List SourceValueArm) → value_arm_texts n (source_value_arm_list arms) ≡ map (value_arm_text n) arms
arm_list_texts n [] = refl
arm_list_texts n (a ∷ arms) = ap (λ t. value_arm_text n a ∷ t) (arm_list_texts n arms)

-- values of a list put together
pub values_joined : (n : ℕ) (vs : List SourceValue) → joined (codes ", ") (value_texts n (source_value_list vs)) ≡ join_by (λ v. value_text n (source_value_of v)) (codes ", ") vs
values_joined n vs = ap (joined (codes ", ")) (list_texts n vs) ∙ joined_map (λ v. value_text n (source_value_of v)) (codes ", ") vs

-- arms of a list as lines
pub arms_joined : (n : ℕ) (arms : List SourceValueArm) → lines n (value_arm_texts n (source_value_arm_list arms)) ≡ join_by (value_arm_line n) (codes ";") arms
arms_joined n arms = ap (lines n) (arm_list_texts n arms) ∙ lines_map (value_arm_text n) n arms

pub tuple_text : (n : ℕ) (parts : List SourceValue) (at : ℕ) → value_text n (source_value_of (Tuple parts at)) ≡ codes "product(" ++ joined (codes ", ") (value_texts n (source_value_list parts)) ++ codes ")"
tuple_text n parts at = ap (value_text n) (tuple_value parts at)

pub branch_text : (n number at : ℕ) (inner : SourceValue) → value_text n (source_value_of (Branch number at inner)) ≡ decimal number ++ codes " : " ++ inner_text n inner
branch_text n number at inner = ap (value_text n) (branch_value number at inner)

pub case_text : (n : ℕ) (var : Name) (arms : List SourceValueArm) → value_text n (source_value_of (Case var arms)) ≡ case_of n var (value_arm_texts (n + 2) (source_value_arm_list arms))
case_text n var arms = ap (value_text n) (case_value var arms)

-- a branch stands in brackets, and a tuple and a case in none

pub branch_opening : (number at : ℕ) (inner : SourceValue) → opening (source_value_of (Branch number at inner)) ≡ codes "("
branch_opening number at inner = ap opening (branch_value number at inner)

pub branch_closing : (number at : ℕ) (inner : SourceValue) → closing (source_value_of (Branch number at inner)) ≡ codes ")"
branch_closing number at inner = ap closing (branch_value number at inner)

pub tuple_opening : (parts : List SourceValue) (at : ℕ) → opening (source_value_of (Tuple parts at)) ≡ []
tuple_opening parts at = ap opening (tuple_value parts at)

pub tuple_closing : (parts : List SourceValue) (at : ℕ) → closing (source_value_of (Tuple parts at)) ≡ []
tuple_closing parts at = ap closing (tuple_value parts at)

pub case_opening : (var : Name) (arms : List SourceValueArm) → opening (source_value_of (Case var arms)) ≡ []
case_opening var arms = ap opening (case_value var arms)

pub case_closing : (var : Name) (arms : List SourceValueArm) → closing (source_value_of (Case var arms)) ≡ []
case_closing var arms = ap closing (case_value var arms)

pub put_tuple : (n : ℕ) (v : SourceValue) (parts items : List SourceValue) (at : ℕ) → v ≡ Tuple parts at → items ≡ parts → codes "product(" ++ joined (codes ", ") (value_texts n (source_value_list items)) ++ codes ")" ≡ value_text n (source_value_of v)
put_tuple n v parts items at is same = ap (λ l. codes "product(" ++ joined (codes ", ") (value_texts n (source_value_list l)) ++ codes ")") same ∙ sym (tuple_text n parts at) ∙ ap (λ z. value_text n (source_value_of z)) (sym is)

pub put_branch : (n : ℕ) (v : SourceValue) (number at : ℕ) (inner held : SourceValue) → v ≡ Branch number at inner → held ≡ inner → decimal number ++ codes " : " ++ inner_text n held ≡ value_text n (source_value_of v)
put_branch n v number at inner held is same = ap (λ w. decimal number ++ codes " : " ++ inner_text n w) same ∙ sym (branch_text n number at inner) ∙ ap (λ z. value_text n (source_value_of z)) (sym is)

pub put_case : (n : ℕ) (v : SourceValue) (var : Name) (arms items : List SourceValueArm) → v ≡ Case var arms → items ≡ arms → case_of n var (value_arm_texts (n + 2) (source_value_arm_list items)) ≡ value_text n (source_value_of v)
put_case n v var arms items is same = ap (λ l. case_of n var (value_arm_texts (n + 2) (source_value_arm_list l))) same ∙ sym (case_text n var arms) ∙ ap (λ z. value_text n (source_value_of z)) (sym is)
