-- Small sources.
use Rattle.std.specs.Prelude.{[], ◌∷◌, codes, Some}
use Rattle.luo_model.specs.declared.program.Universe.TheVariants.{Unlabelled}
use Rattle.luo_model.specs.declared.program.Kind.TheVariants.{Multiset, Powerset}
use Rattle.luo_source.specs.declared.types.Range.TheVariants.{AtMost}
use Rattle.luo_source.specs.Plain.Types.{Named, Atom, Union, Coll, no_exprs, an_expr}
use Rattle.luo_source.specs.declared.statements.Pattern.TheVariants as pattern
use Rattle.luo_source.specs.Plain.Statements.{Skip, Charge, Call, Block, Case, Forall, no_stmts, a_stmt, no_source_arms, a_source_arm}
use Rattle.luo_source.specs.Plain.Source.{Statements, Source}
use Rattle.luo_rules.specs.Sources.{name, binary_source}

-- type a, b = atom(1); type z = a | b; type u = powerset(z, card <= 2); type x = multiset(z, card
-- <= 2); measure m : 1; procedure p(s : u); begin forall y in s do m end; analyze p;
abbrev pub choices : Source
choices = record {
  universe = Unlabelled;
  types =
      record { names = name (codes "a") 1 ∷ name (codes "b") 3 ∷ []; body = Atom 1 7 5 }
      ∷ record {
        names = name (codes "z") 11 ∷ [];
        body =
            Union (an_expr (Named (name (codes "a") 13))
            (an_expr (Named (name (codes "b") 15)) no_exprs));
      }
      ∷ record {
        names = name (codes "u") 18 ∷ [];
        body =
            Coll Powerset (Named (name (codes "z") 22))
            (Some (record { range = AtMost 2; at = 24 })) 20;
      }
      ∷ record {
        names = name (codes "x") 30 ∷ [];
        body =
            Coll Multiset (Named (name (codes "z") 34))
            (Some (record { range = AtMost 2; at = 36 })) 32;
      }
      ∷ [];
  measures = record { names = name (codes "m") 42 ∷ []; value = 1 } ∷ [];
  procs =
      record {
        name = name (codes "p") 47;
        param = name (codes "s") 49;
        on = name (codes "u") 51;
        body =
            Statements
            (a_stmt
            (Forall (name (codes "y") 56) (name (codes "s") 58)
            (Charge (name (codes "m") 60))) no_stmts);
      }
      ∷ [];
  analyses = name (codes "p") 64 ∷ [];
}

-- the types and the measure of binary trees, and: procedure spine(t : tree); begin case t of leaf :
-- skip; (n, l, r) : begin step; spine(l) end end end; analyze spine;
abbrev pub spines : Source
spines = record binary_source {
  procs =
      record {
        name = name (codes "spine") 33;
        param = name (codes "t") 35;
        on = name (codes "tree") 37;
        body =
            Statements
            (a_stmt
            (Case (name (codes "t") 42)
            (a_source_arm (pattern.Named (name (codes "leaf") 44)) Skip
            (a_source_arm
            (pattern.Parts
            (name (codes "n") 49 ∷ name (codes "l") 51 ∷ name (codes "r") 53 ∷ []) 48)
            (Block
            (a_stmt (Charge (name (codes "step") 57))
            (a_stmt
            (Call (name (codes "spine") 59) (name (codes "l") 61)) no_stmts)))
            no_source_arms))) no_stmts);
      }
      ∷ [];
  analyses = name (codes "spine") 68 ∷ [];
}
