-- The equations of a program with cases on tuples, arms that bind the whole, and a walk within
-- bounds.
use Rattle.std.specs.Prelude.{◌≡◌, ℕ, [], ◌∷◌, Some}
use Rattle.luo_model.specs.declared.program.Universe.TheVariants.{Unlabelled}
use Rattle.luo_model.specs.declared.program.Kind.TheVariants as kind
use Rattle.luo_model.specs.declared.program.Shape.TheVariants as shape
use Rattle.luo_model.specs.declared.body.Bind.TheVariants.{Nothing, Whole, Parts}
use Rattle.luo_model.specs.Program.{Program, Body, Does, no_items, item, Call, Case, Forall, no_arms, arm}
use Rattle.luo_model.specs.Examples.{part, node}
use Rattle.luo_equation.specs.Expr.{Expr, Exprs, Number, Power, Series, Tau, Sum, Prod, Coll, Point, no_exprs, expr}
use Rattle.luo_equation.specs.Equation.{Equation}
use Rattle.luo_equation.specs.declared.equation.Left.TheVariants as left
use Rattle.luo_system.specs.System.{system}
use Rattle.luo_system.specs.Facts.{by_name, def, on, three, equation}

-- what charges so much, and does nothing else
abbrev pub charges : ℕ → Body
charges own = Does own no_items

-- on (a, b, c): a case on b, which charges 1 and calls procedure 1 on its second factor, then a
-- call of procedure 1 on c
abbrev pub tuple_body : Body
tuple_body = Does 2 (item (Case 0 (arm (Parts 3) (Does 0
    (item (Case 1 (arm (Parts 2) (Does 1 (item (Call 1 1 0) no_items)) no_arms) 0)
    (item (Call 2 1 0) no_items))) no_arms) 0) no_items)

-- 3 at the first branch; the second is bound whole, and a case on it calls procedure 1 on the
-- second factor
abbrev pub branch_body : Body
branch_body = Does 0 (item (Case 0 (arm Nothing (charges 3)
    (arm Whole (Does 1 (item
    (Case 0 (arm (Parts 2)
    (Does 0 (item (Call 1 1 0) no_items)) no_arms) 0) no_items)) no_arms)) 0) no_items)

-- a walk that charges 4 and calls procedure 1 at each component, then one that does nothing
abbrev pub walk_body : Body
walk_body =
    Does 1 (item (Forall 0 (Does 4 (item (Call 0 1 0) no_items)) 0 0)
    (item (Forall 0 (charges 0) 0 0) no_items))

-- two cases on a product: an arm that binds nothing, and one that binds the whole and calls
-- procedure 3 on it
abbrev pub whole_body : Body
whole_body = Does 0 (item (Case 0 (arm Nothing (charges 5) no_arms) 0)
    (item (Case 0 (arm Whole (Does 1 (item (Call 0 3 0) no_items)) no_arms) 0) no_items))

-- z = atom(1); u = z | product(z, u); w = product(z, product(z, u), u); s = multiset(u, card in
-- 2..5); e = epsilon; v = u. Procedures on w, on u, on s, on w, and on epsilon as a construct,
-- where 3 is charged
abbrev pub cases : Program
cases = record {
  universe = Unlabelled;
  defs =
      def (part 0)
      ∷ (def (part 1)
      ∷ (def (part 3) ∷ (def (part 5) ∷ (def (part 6) ∷ (def (by_name 1 1) ∷ [])))));
  nodes =
      node (shape.Atom 1)
      ∷ (node (shape.Union (by_name 0 0 ∷ (part 2 ∷ [])))
      ∷ (node (shape.Product (by_name 0 0 ∷ (by_name 1 1 ∷ [])))
      ∷ (node (shape.Product (by_name 0 0 ∷ (part 4 ∷ (by_name 1 1 ∷ []))))
      ∷ (node (shape.Product (by_name 0 0 ∷ (by_name 1 1 ∷ [])))
      ∷ (node (shape.Coll kind.Multiset (by_name 1 1) 2 (Some 5)) ∷ (node (shape.Atom 0) ∷ []))))));
  procs =
      on (by_name 3 2) tuple_body
      ∷ (on (by_name 1 1) branch_body
      ∷ (on (by_name 5 3) walk_body
      ∷ (on (by_name 3 2) whole_body ∷ (on (part 6) (charges 3) ∷ []))));
  sites = [];
  analyses = [];
}

abbrev pub descriptor_is : ℕ → Expr → Equation
descriptor_is f e = record { left = left.Tau f; right = e }

abbrev pub plus : Expr → Exprs → Expr
plus e es = Sum (expr e es)

abbrev pub two : Expr → Expr → Exprs
two a b = expr a (expr b no_exprs)

-- z(z) = z; u(z) = z(z) + z(z)*u(z); w(z) = z(z)*z(z)*u(z)*u(z); s(z) = MSet[u(z), k in 2..5]; e(z)
-- = 1; v(z) = u(z); tau(z) of the first: 2*w(z) + (z(z)*u(z) + tau1(z)*z(z))*z(z)*u(z) +
-- tau1(z)*z(z)*z(z)*u(z); of the second: 3*z(z) + z(z)*u(z) + tau1(z)*z(z); of the third: s(z) +
-- Point[MSet[u(z), k in 2..5]; 4*u(z) + tau1(z)]; of the fourth: 5*w(z) + w(z) + tau3(z); of the
-- fifth: 3
abbrev pub SystemOfCases : Type 0
SystemOfCases = system cases ≡ equation 0 (Power 1)
    ∷ (equation 1 (Sum (two (Series 0) (Prod (two (Series 0) (Series 1)))))
    ∷ (equation 2 (Prod (expr (Series 0) (expr (Series 0) (two (Series 1) (Series 1)))))
    ∷ (equation 3 (Coll kind.Multiset (Series 1) 2 (Some 5))
    ∷ (equation 4 (Number 1)
    ∷ (equation 5 (Series 1)
    ∷ (descriptor_is 0 (plus (Prod (two (Number 2) (Series 2)))
    (two (three (Sum (two (Prod (two (Series 0) (Series 1))) (Prod (two (Tau 1) (Series 0)))))
    (Series 0) (Series 1))
    (Prod (expr (Tau 1) (expr (Series 0) (two (Series 0) (Series 1)))))))
    ∷ (descriptor_is 1
    (plus (Prod (two (Number 3) (Series 0)))
    (two (Prod (two (Series 0) (Series 1))) (Prod (two (Tau 1) (Series 0)))))
    ∷ (descriptor_is 2
    (Sum (two (Series 3)
    (Point kind.Multiset (Series 1) 2 (Some 5)
    (Sum (two (Prod (two (Number 4) (Series 1))) (Tau 1))))))
    ∷ (descriptor_is 3 (plus (Prod (two (Number 5) (Series 2))) (two (Series 2) (Tau 3)))
    ∷ (descriptor_is 4 (Number 3) ∷ []))))))))))
