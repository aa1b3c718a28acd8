-- Sources without breach, as their texts give them.
use Rattle.std.specs.Prelude.{ℕ, List, [], ◌∷◌, codes, Some, None}
use Rattle.luo_model.specs.declared.program.Universe.TheVariants.{Unlabelled, Labelled}
use Rattle.luo_model.specs.declared.program.Kind.TheVariants.{Sequence, Set, Cycle, Multiset}
use Rattle.luo_source.specs.declared.names.Name.{Name}
use Rattle.luo_source.specs.declared.types.Range.TheVariants.{Exactly, AtMost, AtLeast}
use Rattle.luo_source.specs.Plain.Types.{Named, Epsilon, Atom, Union, Product, Coll, no_exprs, an_expr}
use Rattle.luo_source.specs.declared.statements.Pattern.TheVariants as pattern
use Rattle.luo_source.specs.Plain.Statements.{Skip, Charge, Call, Block, Case, Forall, no_stmts, a_stmt, no_source_arms, a_source_arm}
use Rattle.luo_source.specs.Plain.Values.{no_source_values, a_source_value, no_source_value_arms, a_source_value_arm}
use Rattle.luo_source.specs.Plain.Values as made
use Rattle.luo_source.specs.Plain.Source.{Statements, Value, Source}

-- a name at its token
abbrev pub name : List ℕ → ℕ → Name
name text at = record { text = text; at = at }

-- type leaf = epsilon; type node = atom(1); type tree = leaf | product(node, tree, tree); measure
-- step : 1; procedure size(t : tree); begin case t of leaf : skip; (n, l, r) : begin step; size(l);
-- size(r) end end end; procedure path(t : tree); begin case t of leaf : skip; (n, l, r) : begin
-- size(l); size(r); path(l); path(r) end end end; analyze path;
abbrev pub binary_source : Source
binary_source = record {
  universe = Unlabelled;
  types =
      record { names = (name (codes "leaf") 1) ∷ []; body = Epsilon 3 }
      ∷ record { names = (name (codes "node") 6) ∷ []; body = Atom 1 10 8 }
      ∷ record {
        names = (name (codes "tree") 14) ∷ [];
        body =
            Union (an_expr (Named (name (codes "leaf") 16))
            (an_expr
            (Product (an_expr (Named (name (codes "node") 20))
            (an_expr (Named (name (codes "tree") 22))
            (an_expr (Named (name (codes "tree") 24)) no_exprs))) 18) no_exprs));
      }
      ∷ [];
  measures = record { names = (name (codes "step") 28) ∷ []; value = 1 } ∷ [];
  procs =
      record {
        name = name (codes "size") 33;
        param = name (codes "t") 35;
        on = name (codes "tree") 37;
        body =
            Statements (a_stmt (Case (name (codes "t") 42)
            (a_source_arm (pattern.Named (name (codes "leaf") 44)) Skip
            (a_source_arm
            (pattern.Parts
            ((name (codes "n") 49) ∷ (name (codes "l") 51) ∷ (name (codes "r") 53) ∷ []) 48)
            (Block (a_stmt (Charge (name (codes "step") 57))
            (a_stmt (Call (name (codes "size") 59) (name (codes "l") 61))
            (a_stmt
            (Call (name (codes "size") 64)
            (name (codes "r") 66)) no_stmts)))) no_source_arms))) no_stmts);
      } ∷ record {
        name = name (codes "path") 73;
        param = name (codes "t") 75;
        on = name
            (codes "tree") 77;
        body =
            Statements (a_stmt (Case (name (codes "t") 82)
            (a_source_arm (pattern.Named (name (codes "leaf") 84)) Skip
            (a_source_arm
            (pattern.Parts
            ((name (codes "n") 89) ∷ (name (codes "l") 91) ∷ (name (codes "r") 93) ∷ []) 88)
            (Block (a_stmt (Call (name (codes "size") 97) (name (codes "l") 99))
            (a_stmt (Call (name (codes "size") 102) (name (codes "r") 104))
            (a_stmt (Call (name (codes "path") 107) (name (codes "l") 109))
            (a_stmt
            (Call (name (codes "path") 112)
            (name (codes "r") 114)) no_stmts))))) no_source_arms))) no_stmts);
      } ∷ [];
  analyses = (name (codes "path") 121) ∷ [];
}

-- labelled; type point = atom(1); type cyc = cycle(point); type perm = set(cyc); measure one : 1;
-- procedure cycles(p : perm); begin forall c in p do one end; analyze cycles;
abbrev pub permutations_source : Source
permutations_source = record {
  universe = Labelled;
  types =
      record { names = (name (codes "point") 3) ∷ []; body = Atom 1 7 5 }
      ∷ record {
        names = (name (codes "cyc") 11) ∷ [];
        body =
            Coll Cycle (Named (name (codes "point") 15)) None 13;
      }
      ∷ record {
        names = (name (codes "perm") 19) ∷ [];
        body =
            Coll Set (Named (name (codes "cyc") 23)) None 21;
      } ∷ [];
  measures = record { names = (name (codes "one") 27) ∷ []; value = 1 } ∷ [];
  procs =
      record {
        name = name (codes "cycles") 32;
        param = name (codes "p") 34;
        on = name (codes "perm") 36;
        body =
            Statements (a_stmt (Forall (name (codes "c") 41) (name (codes "p") 43)
            (Charge (name (codes "one") 45))) no_stmts);
      } ∷ [];
  analyses = (name (codes "cycles") 49) ∷ [];
}

-- type unit = atom(1); type part = sequence(unit, card >= 1); type partition = multiset(part);
-- measure one : 1; procedure parts(p : partition); begin forall x in p do one end; analyze parts;
abbrev pub partitions_source : Source
partitions_source = record {
  universe = Unlabelled;
  types =
      record { names = (name (codes "unit") 1) ∷ []; body = Atom 1 5 3 }
      ∷ record {
        names = (name (codes "part") 9) ∷ [];
        body =
            Coll Sequence (Named (name (codes "unit") 13))
            (Some (record { range = AtLeast 1; at = 15 })) 11;
      }
      ∷ record {
        names = (name (codes "partition") 21) ∷ [];
        body =
            Coll Multiset (Named (name (codes "part") 25)) None 23;
      }
      ∷ [];
  measures = record { names = (name (codes "one") 29) ∷ []; value = 1 } ∷ [];
  procs =
      record {
        name = name (codes "parts") 34;
        param = name (codes "p") 36;
        on = name (codes "partition") 38;
        body =
            Statements (a_stmt (Forall (name (codes "x") 43) (name (codes "p") 45)
            (Charge (name (codes "one") 47))) no_stmts);
      } ∷ [];
  analyses = (name (codes "parts") 51) ∷ [];
}

-- type leaf = atom(1); type h = leaf | multiset(h, card >= 2); measure one : 1; procedure leaves(t
-- : h); begin case t of leaf : one; _ as s : begin forall u in s do leaves(u) end end end; analyze
-- leaves;
abbrev pub hierarchies_source : Source
hierarchies_source = record {
  universe = Unlabelled;
  types =
      record { names = (name (codes "leaf") 1) ∷ []; body = Atom 1 5 3 }
      ∷ record {
        names = (name (codes "h") 9) ∷ [];
        body =
            Union (an_expr (Named (name (codes "leaf") 11))
            (an_expr
            (Coll Multiset (Named (name (codes "h") 15))
            (Some (record { range = AtLeast 2; at = 17 })) 13) no_exprs));
      } ∷ [];
  measures = record { names = (name (codes "one") 23) ∷ []; value = 1 } ∷ [];
  procs =
      record {
        name = name (codes "leaves") 28;
        param = name (codes "t") 30;
        on = name (codes "h") 32;
        body =
            Statements (a_stmt (Case (name (codes "t") 37)
            (a_source_arm (pattern.Named (name (codes "leaf") 39)) (Charge (name (codes "one") 41))
            (a_source_arm (pattern.AnyWhole (name (codes "s") 45) 43)
            (Block (a_stmt
            (Forall (name (codes "u") 49) (name (codes "s") 51) (Call (name (codes "leaves") 53)
            (name (codes "u") 55))) no_stmts)) no_source_arms))) no_stmts);
      } ∷ [];
  analyses = (name (codes "leaves") 62) ∷ [];
}

-- labelled; type node = atom(1); type tree = product(node, set(tree)); measure one : 1; procedure
-- size(t : tree); begin one; case t of (n, s) : begin forall u in s do size(u) end end end; analyze
-- size;
abbrev pub rooted_source : Source
rooted_source = record {
  universe = Labelled;
  types =
      record { names = (name (codes "node") 3) ∷ []; body = Atom 1 7 5 }
      ∷ record {
        names = (name (codes "tree") 11) ∷ [];
        body =
            Product (an_expr (Named (name (codes "node") 15))
            (an_expr
            (Coll Set (Named (name (codes "tree") 19)) None 17) no_exprs)) 13;
      } ∷ [];
  measures = record { names = (name (codes "one") 24) ∷ []; value = 1 } ∷ [];
  procs =
      record {
        name = name (codes "size") 29;
        param = name (codes "t") 31;
        on = name (codes "tree") 33;
        body =
            Statements (a_stmt (Charge (name (codes "one") 37))
            (a_stmt (Case (name (codes "t") 40)
            (a_source_arm (pattern.Parts ((name (codes "n") 43) ∷ (name (codes "s") 45) ∷ []) 42)
            (Block (a_stmt
            (Forall (name (codes "u") 50) (name (codes "s") 52) (Call (name (codes "size") 54)
            (name (codes "u") 56))) no_stmts)) no_source_arms)) no_stmts));
      } ∷ [];
  analyses = (name (codes "size") 63) ∷ [];
}

-- labelled; type point = atom(1); type cyc = cycle(point, card <= 3); type perm = set(cyc, card =
-- 2); measure one : 1; procedure cycles(p : perm); begin forall c in p do one end; analyze cycles;
abbrev pub few_cycles : Source
few_cycles = record {
  universe = Labelled;
  types =
      record { names = (name (codes "point") 3) ∷ []; body = Atom 1 7 5 }
      ∷ record {
        names = (name (codes "cyc") 11) ∷ [];
        body =
            Coll Cycle (Named (name (codes "point") 15))
            (Some (record { range = AtMost 3; at = 17 })) 13;
      }
      ∷ record {
        names = (name (codes "perm") 23) ∷ [];
        body =
            Coll Set (Named (name (codes "cyc") 27))
            (Some (record { range = Exactly 2; at = 29 })) 25;
      } ∷ [];
  measures = record { names = (name (codes "one") 35) ∷ []; value = 1 } ∷ [];
  procs =
      record {
        name = name (codes "cycles") 40;
        param = name (codes "p") 42;
        on = name (codes "perm") 44;
        body =
            Statements (a_stmt (Forall (name (codes "c") 49) (name (codes "p") 51)
            (Charge (name (codes "one") 53))) no_stmts);
      } ∷ [];
  analyses = (name (codes "cycles") 57) ∷ [];
}

-- type z = atom(1); type pair = product(z, z); measure one : 1; measure two : 2; procedure p(x :
-- pair); begin one; begin case x of (a, b) : begin q(b); two end end; two end; begin end end;
-- procedure q(y : z); begin one end; analyze q; analyze p;
abbrev pub nested : Source
nested = record {
  universe = Unlabelled;
  types =
      record { names = (name (codes "z") 1) ∷ []; body = Atom 1 5 3 }
      ∷ record {
        names = (name (codes "pair") 9) ∷ [];
        body =
            Product (an_expr (Named (name (codes "z") 13))
            (an_expr (Named (name (codes "z") 15)) no_exprs)) 11;
      } ∷ [];
  measures =
      record { names = (name (codes "one") 19) ∷ []; value = 1 }
      ∷ record { names = (name (codes "two") 24) ∷ []; value = 2 } ∷ [];
  procs =
      record {
        name = name (codes "p") 29;
        param = name (codes "x") 31;
        on = name (codes "pair") 33;
        body =
            Statements (a_stmt (Charge (name (codes "one") 37)) (a_stmt (Block (a_stmt
            (Case (name (codes "x") 41)
            (a_source_arm (pattern.Parts ((name (codes "a") 44) ∷ (name (codes "b") 46) ∷ []) 43)
            (Block (a_stmt (Call (name (codes "q") 50) (name (codes "b") 52))
            (a_stmt (Charge (name (codes "two") 55)) no_stmts))) no_source_arms))
            (a_stmt (Charge (name (codes "two") 59)) no_stmts)))
            (a_stmt (Block no_stmts) no_stmts)));
      } ∷ record {
        name = name (codes "q") 67;
        param = name (codes "y") 69;
        on = name
            (codes "z") 71;
        body = Statements (a_stmt (Charge (name (codes "one") 75)) no_stmts);
      } ∷ [];
  analyses = (name (codes "q") 79) ∷ (name (codes "p") 82) ∷ [];
}

-- type zero, one = atom(1); type bit = zero | one; type pair = product(bit, bit); measure step : 3;
-- procedure turn(b : bit) : bit; case b of zero : 2 : step atom; _ as o : 1 : atom end; procedure
-- both(p : pair) : pair; case p of (a, b) : product(turn(b), a) end; analyze both;
abbrev pub copying : Source
copying = record {
  universe = Unlabelled;
  types =
      record { names = (name (codes "zero") 1) ∷ (name (codes "one") 3) ∷ []; body = Atom 1 7 5 }
      ∷ record {
        names = (name (codes "bit") 11) ∷ [];
        body =
            Union (an_expr (Named (name (codes "zero") 13))
            (an_expr (Named (name (codes "one") 15)) no_exprs));
      }
      ∷ record {
        names = (name (codes "pair") 18) ∷ [];
        body =
            Product (an_expr (Named (name (codes "bit") 22))
            (an_expr (Named (name (codes "bit") 24)) no_exprs)) 20;
      } ∷ [];
  measures = record { names = (name (codes "step") 28) ∷ []; value = 3 } ∷ [];
  procs =
      record {
        name = name (codes "turn") 33;
        param = name (codes "b") 35;
        on = name (codes "bit") 37;
        body =
            Value 39 (name (codes "bit") 40)
            (made.Case (name (codes "b") 43)
            (a_source_value_arm (pattern.Named (name (codes "zero") 45))
            (made.Branch 2 47 (made.Atom (Some (name (codes "step") 49)) 50))
            (a_source_value_arm (pattern.AnyWhole (name (codes "o") 54) 52)
            (made.Branch 1 56 (made.Atom None 58)) no_source_value_arms)));
      }
      ∷ record {
        name = name (codes "both") 62;
        param = name (codes "p") 64;
        on = name (codes "pair") 66;
        body =
            Value 68 (name (codes "pair") 69)
            (made.Case (name (codes "p") 72) (a_source_value_arm
            (pattern.Parts ((name (codes "a") 75) ∷ (name (codes "b") 77) ∷ []) 74)
            (made.Tuple (a_source_value (made.Made (name (codes "turn") 82) (name (codes "b") 84))
            (a_source_value
            (made.Given (name (codes "a") 87)) no_source_values)) 80) no_source_value_arms));
      } ∷ [];
  analyses = (name (codes "both") 92) ∷ [];
}
