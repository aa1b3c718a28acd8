-- Sources that break rules, as their texts give them.
use Rattle.std.specs.Prelude.{ℕ, List, [], ◌∷◌, codes, Some, None}
use Rattle.luo_model.specs.declared.program.Universe.TheVariants.{Unlabelled, Labelled}
use Rattle.luo_model.specs.declared.program.Kind.TheVariants.{Sequence, Set, Cycle, Multiset, Powerset}
use Rattle.luo_source.specs.declared.names.Name.{Name}
use Rattle.luo_source.specs.declared.types.Range.TheVariants.{AtMost, AtLeast}
use Rattle.luo_source.specs.Plain.Types.{Named, Atom, Union, Product, Coll, no_exprs, an_expr}
use Rattle.luo_source.specs.declared.statements.Pattern.TheVariants as pattern
use Rattle.luo_source.specs.Plain.Statements.{Skip, Charge, Call, Case, Forall, no_stmts, a_stmt, no_source_arms, a_source_arm}
use Rattle.luo_source.specs.Plain.Values.{no_source_values, a_source_value, no_source_value_arms, a_source_value_arm}
use Rattle.luo_source.specs.Plain.Values as made
use Rattle.luo_source.specs.Plain.Source.{Statements, Value, Source}

-- a name at its token
abbrev pub name : List ℕ → ℕ → Name
name text at = record { text = text; at = at }

-- type z = atom(1); type t = product(z, z); procedure p(x : t); begin case x of (a, a) : skip end
-- end; analyze p;
abbrev pub second_variable : Source
second_variable = record {
  universe = Unlabelled;
  types =
      record { names = (name (codes "z") 1) ∷ []; body = Atom 1 5 3 }
      ∷ record {
        names = (name (codes "t") 9) ∷ [];
        body =
            Product (an_expr (Named (name (codes "z") 13))
            (an_expr (Named (name (codes "z") 15)) no_exprs)) 11;
      } ∷ [];
  measures = [];
  procs =
      record {
        name = name (codes "p") 19;
        param = name (codes "x") 21;
        on = name (codes "t") 23;
        body =
            Statements (a_stmt (Case (name (codes "x") 28) (a_source_arm
            (pattern.Parts
            ((name (codes "a") 31) ∷ (name (codes "a") 33)
            ∷ []) 30) Skip no_source_arms)) no_stmts);
      } ∷ [];
  analyses = (name (codes "p") 41) ∷ [];
}

-- type z = atom(1); procedure p(x : z); begin end; procedure p(y : z); begin end; analyze p;
abbrev pub second_procedure : Source
second_procedure = record {
  universe = Unlabelled;
  types = record { names = (name (codes "z") 1) ∷ []; body = Atom 1 5 3 } ∷ [];
  measures = [];
  procs =
      record {
        name = name (codes "p") 9;
        param = name (codes "x") 11;
        on = name (codes "z") 13;
        body = Statements no_stmts;
      }
      ∷ record {
        name = name (codes "p") 20;
        param = name (codes "y") 22;
        on = name (codes "z") 24;
        body = Statements no_stmts;
      } ∷ [];
  analyses = (name (codes "p") 31) ∷ [];
}

-- type z = atom(1); type t = product(y, z); procedure p(x : z); begin end; analyze p;
abbrev pub undefined_type : Source
undefined_type = record {
  universe = Unlabelled;
  types =
      record { names = (name (codes "z") 1) ∷ []; body = Atom 1 5 3 }
      ∷ record {
        names = (name (codes "t") 9) ∷ [];
        body =
            Product (an_expr (Named (name (codes "y") 13))
            (an_expr (Named (name (codes "z") 15)) no_exprs)) 11;
      } ∷ [];
  measures = [];
  procs =
      record {
        name = name (codes "p") 19;
        param = name (codes "x") 21;
        on = name (codes "z") 23;
        body = Statements no_stmts;
      } ∷ [];
  analyses = (name (codes "p") 30) ∷ [];
}

-- type z = atom(1); measure m : 1; procedure p(x : m); begin end; analyze p;
abbrev pub measure_as_type : Source
measure_as_type = record {
  universe = Unlabelled;
  types = record { names = (name (codes "z") 1) ∷ []; body = Atom 1 5 3 } ∷ [];
  measures = record { names = (name (codes "m") 9) ∷ []; value = 1 } ∷ [];
  procs =
      record {
        name = name (codes "p") 14;
        param = name (codes "x") 16;
        on = name (codes "m") 18;
        body = Statements no_stmts;
      } ∷ [];
  analyses = (name (codes "p") 25) ∷ [];
}

-- type z = atom(1); procedure p(x : z); begin q(x); z(x); p end; analyze z;
abbrev pub wrong_uses : Source
wrong_uses = record {
  universe = Unlabelled;
  types = record { names = (name (codes "z") 1) ∷ []; body = Atom 1 5 3 } ∷ [];
  measures = [];
  procs =
      record {
        name = name (codes "p") 9;
        param = name (codes "x") 11;
        on = name (codes "z") 13;
        body =
            Statements (a_stmt (Call (name (codes "q") 17) (name (codes "x") 19))
            (a_stmt (Call (name (codes "z") 22) (name (codes "x") 24))
            (a_stmt (Charge (name (codes "p") 27)) no_stmts)));
      }
      ∷ [];
  analyses = (name (codes "z") 31) ∷ [];
}

-- type z = atom(1); type s = set(z); type c = cycle(z); procedure p(x : z); begin end; analyze p;
abbrev pub kinds_with_labels : Source
kinds_with_labels = record {
  universe = Unlabelled;
  types =
      record { names = (name (codes "z") 1) ∷ []; body = Atom 1 5 3 }
      ∷ record {
        names = (name (codes "s") 9) ∷ [];
        body = Coll Set (Named (name (codes "z") 13)) None 11;
      }
      ∷ record {
        names = (name (codes "c") 17) ∷ [];
        body =
            Coll Cycle (Named (name (codes "z") 21)) None 19;
      } ∷ [];
  measures = [];
  procs =
      record {
        name = name (codes "p") 25;
        param = name (codes "x") 27;
        on = name (codes "z") 29;
        body = Statements no_stmts;
      } ∷ [];
  analyses = (name (codes "p") 36) ∷ [];
}

-- labelled; type z = atom(1); type m = multiset(z); type w = powerset(z); procedure p(x : z); begin
-- end; analyze p;
abbrev pub kinds_without : Source
kinds_without = record {
  universe = Labelled;
  types =
      record { names = (name (codes "z") 3) ∷ []; body = Atom 1 7 5 }
      ∷ record {
        names = (name (codes "m") 11) ∷ [];
        body =
            Coll Multiset (Named (name (codes "z") 15)) None 13;
      }
      ∷ record {
        names = (name (codes "w") 19) ∷ [];
        body =
            Coll Powerset (Named (name (codes "z") 23)) None 21;
      }
      ∷ [];
  measures = [];
  procs =
      record {
        name = name (codes "p") 27;
        param = name (codes "x") 29;
        on = name (codes "z") 31;
        body = Statements no_stmts;
      } ∷ [];
  analyses = (name (codes "p") 38) ∷ [];
}

-- labelled; type z = atom(1); type a = cycle(z, card <= 0); type b = cycle(z, card >= 0); procedure
-- p(x : z); begin end; analyze p;
abbrev pub low_cycles : Source
low_cycles = record {
  universe = Labelled;
  types =
      record { names = (name (codes "z") 3) ∷ []; body = Atom 1 7 5 }
      ∷ record {
        names = (name (codes "a") 11) ∷ [];
        body =
            Coll Cycle (Named (name (codes "z") 15))
            (Some (record { range = AtMost 0; at = 17 })) 13;
      }
      ∷ record {
        names = (name (codes "b") 23) ∷ [];
        body =
            Coll Cycle (Named (name (codes "z") 27))
            (Some (record { range = AtLeast 0; at = 29 })) 25;
      } ∷ [];
  measures = [];
  procs =
      record {
        name = name (codes "p") 35;
        param = name (codes "x") 37;
        on = name (codes "z") 39;
        body = Statements no_stmts;
      } ∷ [];
  analyses = (name (codes "p") 46) ∷ [];
}

-- type z = atom(1); type a = powerset(z, card >= 2); procedure p(x : z); begin end; analyze p;
abbrev pub low_powerset : Source
low_powerset = record {
  universe = Unlabelled;
  types =
      record { names = (name (codes "z") 1) ∷ []; body = Atom 1 5 3 }
      ∷ record {
        names = (name (codes "a") 9) ∷ [];
        body =
            Coll Powerset (Named (name (codes "z") 13))
            (Some (record { range = AtLeast 2; at = 15 })) 11;
      } ∷ [];
  measures = [];
  procs =
      record {
        name = name (codes "p") 21;
        param = name (codes "x") 23;
        on = name (codes "z") 25;
        body = Statements no_stmts;
      } ∷ [];
  analyses = (name (codes "p") 32) ∷ [];
}

-- type z = atom(17); procedure p(x : z); begin end; analyze p;
abbrev pub heavy : Source
heavy = record {
  universe = Unlabelled;
  types = record { names = (name (codes "z") 1) ∷ []; body = Atom 17 5 3 } ∷ [];
  measures = [];
  procs =
      record {
        name = name (codes "p") 9;
        param = name (codes "x") 11;
        on = name (codes "z") 13;
        body = Statements no_stmts;
      } ∷ [];
  analyses = (name (codes "p") 20) ∷ [];
}

-- labelled; type z = atom(2); procedure p(x : z); begin end; analyze p;
abbrev pub heavy_label : Source
heavy_label = record {
  universe = Labelled;
  types = record { names = (name (codes "z") 3) ∷ []; body = Atom 2 7 5 } ∷ [];
  measures = [];
  procs =
      record {
        name = name (codes "p") 11;
        param = name (codes "x") 13;
        on = name (codes "z") 15;
        body = Statements no_stmts;
      } ∷ [];
  analyses = (name (codes "p") 22) ∷ [];
}

-- type z = atom(1); type w = atom(1); procedure p(x : z); begin q(x) end; procedure q(y : w); begin
-- end; analyze p;
abbrev pub other_argument : Source
other_argument = record {
  universe = Unlabelled;
  types =
      record { names = (name (codes "z") 1) ∷ []; body = Atom 1 5 3 }
      ∷ record { names = (name (codes "w") 9) ∷ []; body = Atom 1 13 11 } ∷ [];
  measures = [];
  procs =
      record {
        name = name (codes "p") 17;
        param = name (codes "x") 19;
        on = name (codes "z") 21;
        body = Statements (a_stmt (Call (name (codes "q") 25) (name (codes "x") 27)) no_stmts);
      }
      ∷ record {
        name = name (codes "q") 32;
        param = name (codes "y") 34;
        on = name (codes "w") 36;
        body = Statements no_stmts;
      } ∷ [];
  analyses = (name (codes "p") 43) ∷ [];
}

-- type z = atom(1); procedure p(x : z); begin case x of _ : skip end end; analyze p;
abbrev pub case_on_atom : Source
case_on_atom = record {
  universe = Unlabelled;
  types = record { names = (name (codes "z") 1) ∷ []; body = Atom 1 5 3 } ∷ [];
  measures = [];
  procs =
      record {
        name = name (codes "p") 9;
        param = name (codes "x") 11;
        on = name (codes "z") 13;
        body =
            Statements (a_stmt (Case (name (codes "x") 18)
            (a_source_arm (pattern.Any 20) Skip no_source_arms)) no_stmts);
      } ∷ [];
  analyses = (name (codes "p") 27) ∷ [];
}

-- type z = atom(1); type t = z | z; procedure p(x : t); begin case x of _ : skip end end; analyze
-- p;
abbrev pub missing_arm : Source
missing_arm = record {
  universe = Unlabelled;
  types =
      record { names = (name (codes "z") 1) ∷ []; body = Atom 1 5 3 }
      ∷ record {
        names = (name (codes "t") 9) ∷ [];
        body =
            Union (an_expr (Named (name (codes "z") 11))
            (an_expr (Named (name (codes "z") 13)) no_exprs));
      } ∷ [];
  measures = [];
  procs =
      record {
        name = name (codes "p") 16;
        param = name (codes "x") 18;
        on = name (codes "t") 20;
        body =
            Statements (a_stmt (Case (name (codes "x") 25)
            (a_source_arm (pattern.Any 27) Skip no_source_arms)) no_stmts);
      } ∷ [];
  analyses = (name (codes "p") 34) ∷ [];
}

-- type z = atom(1); type t = z | z; procedure p(x : t); begin case x of (a, b) : skip; z : skip end
-- end; analyze p;
abbrev pub wrong_pattern : Source
wrong_pattern = record {
  universe = Unlabelled;
  types =
      record { names = (name (codes "z") 1) ∷ []; body = Atom 1 5 3 }
      ∷ record {
        names = (name (codes "t") 9) ∷ [];
        body =
            Union (an_expr (Named (name (codes "z") 11))
            (an_expr (Named (name (codes "z") 13)) no_exprs));
      } ∷ [];
  measures = [];
  procs =
      record {
        name = name (codes "p") 16;
        param = name (codes "x") 18;
        on = name (codes "t") 20;
        body =
            Statements (a_stmt (Case (name (codes "x") 25) (a_source_arm
            (pattern.Parts ((name (codes "a") 28) ∷ (name (codes "b") 30) ∷ []) 27) Skip
            (a_source_arm (pattern.Named (name (codes "z") 35)) Skip no_source_arms))) no_stmts);
      }
      ∷ [];
  analyses = (name (codes "p") 42) ∷ [];
}

-- type z = atom(1); type t = product(z, z, z); procedure p(x : t); begin case x of (a, a) : skip
-- end end; analyze p;
abbrev pub wrong_and_twice : Source
wrong_and_twice = record {
  universe = Unlabelled;
  types =
      record { names = (name (codes "z") 1) ∷ []; body = Atom 1 5 3 }
      ∷ record {
        names = (name (codes "t") 9) ∷ [];
        body =
            Product (an_expr (Named (name (codes "z") 13))
            (an_expr (Named (name (codes "z") 15))
            (an_expr (Named (name (codes "z") 17)) no_exprs))) 11;
      } ∷ [];
  measures = [];
  procs =
      record {
        name = name (codes "p") 21;
        param = name (codes "x") 23;
        on = name (codes "t") 25;
        body =
            Statements (a_stmt (Case (name (codes "x") 30) (a_source_arm
            (pattern.Parts
            ((name (codes "a") 33) ∷ (name (codes "a") 35)
            ∷ []) 32) Skip no_source_arms)) no_stmts);
      } ∷ [];
  analyses = (name (codes "p") 43) ∷ [];
}

-- type z = atom(1); procedure p(x : z); begin forall u in x do skip end; analyze p;
abbrev pub walk_on_atom : Source
walk_on_atom = record {
  universe = Unlabelled;
  types = record { names = (name (codes "z") 1) ∷ []; body = Atom 1 5 3 } ∷ [];
  measures = [];
  procs =
      record {
        name = name (codes "p") 9;
        param = name (codes "x") 11;
        on = name (codes "z") 13;
        body =
            Statements (a_stmt (Forall (name (codes "u") 18) (name (codes "x") 20) Skip) no_stmts);
      } ∷ [];
  analyses = (name (codes "p") 26) ∷ [];
}

-- type z = atom(1); type s = sequence(z); procedure p(x : s); begin forall u in x do p(x) end;
-- analyze p;
abbrev pub outer_variable : Source
outer_variable = record {
  universe = Unlabelled;
  types =
      record { names = (name (codes "z") 1) ∷ []; body = Atom 1 5 3 }
      ∷ record {
        names = (name (codes "s") 9) ∷ [];
        body =
            Coll Sequence (Named (name (codes "z") 13)) None 11;
      }
      ∷ [];
  measures = [];
  procs =
      record {
        name = name (codes "p") 17;
        param = name (codes "x") 19;
        on = name (codes "s") 21;
        body =
            Statements (a_stmt (Forall (name (codes "u") 26) (name (codes "x") 28)
            (Call (name (codes "p") 30) (name (codes "x") 32))) no_stmts);
      } ∷ [];
  analyses = (name (codes "p") 37) ∷ [];
}

-- labelled; type z = atom(1); procedure p(x : z) : z; x; analyze p;
abbrev pub labelled_result : Source
labelled_result = record {
  universe = Labelled;
  types = record { names = (name (codes "z") 3) ∷ []; body = Atom 1 7 5 } ∷ [];
  measures = [];
  procs =
      record {
        name = name (codes "p") 11;
        param = name (codes "x") 13;
        on = name (codes "z") 15;
        body = Value 17 (name (codes "z") 18) (made.Given (name (codes "x") 20));
      } ∷ [];
  analyses = (name (codes "p") 23) ∷ [];
}

-- type z = atom(1); type w = atom(1); type t = product(z, w); procedure p(x : t) : t; case x of (a,
-- b) : product(b, q(a)) end; procedure q(y : z) : z; y; analyze p;
abbrev pub other_results : Source
other_results = record {
  universe = Unlabelled;
  types =
      record { names = (name (codes "z") 1) ∷ []; body = Atom 1 5 3 }
      ∷ record { names = (name (codes "w") 9) ∷ []; body = Atom 1 13 11 }
      ∷ record {
        names = (name (codes "t") 17) ∷ [];
        body =
            Product (an_expr (Named (name (codes "z") 21))
            (an_expr (Named (name (codes "w") 23)) no_exprs)) 19;
      } ∷ [];
  measures = [];
  procs =
      record {
        name = name (codes "p") 27;
        param = name (codes "x") 29;
        on = name (codes "t") 31;
        body =
            Value 33 (name (codes "t") 34)
            (made.Case (name (codes "x") 37) (a_source_value_arm
            (pattern.Parts ((name (codes "a") 40) ∷ (name (codes "b") 42) ∷ []) 39)
            (made.Tuple (a_source_value (made.Given (name (codes "b") 47))
            (a_source_value
            (made.Made (name (codes "q") 49)
            (name (codes "a") 51)) no_source_values)) 45) no_source_value_arms));
      }
      ∷ record {
        name = name (codes "q") 57;
        param = name (codes "y") 59;
        on = name (codes "z") 61;
        body = Value 63 (name (codes "z") 64) (made.Given (name (codes "y") 66));
      } ∷ [];
  analyses = (name (codes "p") 69) ∷ [];
}

-- type z = atom(1); procedure p(x : z) : z; q(x); procedure q(y : z); begin end; analyze p;
abbrev pub no_results : Source
no_results = record {
  universe = Unlabelled;
  types = record { names = (name (codes "z") 1) ∷ []; body = Atom 1 5 3 } ∷ [];
  measures = [];
  procs =
      record {
        name = name (codes "p") 9;
        param = name (codes "x") 11;
        on = name (codes "z") 13;
        body =
            Value 15 (name (codes "z") 16) (made.Made (name (codes "q") 18) (name (codes "x") 20));
      }
      ∷ record {
        name = name (codes "q") 24;
        param = name (codes "y") 26;
        on = name (codes "z") 28;
        body = Statements no_stmts;
      } ∷ [];
  analyses = (name (codes "p") 35) ∷ [];
}

-- type z = atom(1); procedure p(x : z) : z; q(c); procedure q(y : z); begin end; analyze p;
abbrev pub result_and_argument : Source
result_and_argument = record {
  universe = Unlabelled;
  types = record { names = (name (codes "z") 1) ∷ []; body = Atom 1 5 3 } ∷ [];
  measures = [];
  procs =
      record {
        name = name (codes "p") 9;
        param = name (codes "x") 11;
        on = name (codes "z") 13;
        body =
            Value 15 (name (codes "z") 16) (made.Made (name (codes "q") 18) (name (codes "c") 20));
      }
      ∷ record {
        name = name (codes "q") 24;
        param = name (codes "y") 26;
        on = name (codes "z") 28;
        body = Statements no_stmts;
      } ∷ [];
  analyses = (name (codes "p") 35) ∷ [];
}

-- type z = atom(1); type t = product(z, z); procedure p(x : z) : t; atom; procedure q(x : z) : z;
-- product(x, x); analyze p;
abbrev pub other_constructs : Source
other_constructs = record {
  universe = Unlabelled;
  types =
      record { names = (name (codes "z") 1) ∷ []; body = Atom 1 5 3 }
      ∷ record {
        names = (name (codes "t") 9) ∷ [];
        body =
            Product (an_expr (Named (name (codes "z") 13))
            (an_expr (Named (name (codes "z") 15)) no_exprs)) 11;
      } ∷ [];
  measures = [];
  procs =
      record {
        name = name (codes "p") 19;
        param = name (codes "x") 21;
        on = name (codes "z") 23;
        body = Value 25 (name (codes "t") 26) (made.Atom None 28);
      }
      ∷ record {
        name = name (codes "q") 31;
        param = name (codes "x") 33;
        on = name (codes "z") 35;
        body =
            Value 37 (name (codes "z") 38)
            (made.Tuple (a_source_value (made.Given (name (codes "x") 42))
            (a_source_value (made.Given (name (codes "x") 44)) no_source_values)) 40);
      } ∷ [];
  analyses = (name (codes "p") 48) ∷ [];
}

-- type z = atom(1); type u = z | z; procedure p(x : z) : u; 3 : x; analyze p;
abbrev pub no_branch : Source
no_branch = record {
  universe = Unlabelled;
  types =
      record { names = (name (codes "z") 1) ∷ []; body = Atom 1 5 3 }
      ∷ record {
        names = (name (codes "u") 9) ∷ [];
        body =
            Union (an_expr (Named (name (codes "z") 11))
            (an_expr (Named (name (codes "z") 13)) no_exprs));
      } ∷ [];
  measures = [];
  procs =
      record {
        name = name (codes "p") 16;
        param = name (codes "x") 18;
        on = name (codes "z") 20;
        body =
            Value 22 (name (codes "u") 23)
            (made.Branch 3 25 (made.Given (name (codes "x") 27)));
      } ∷ [];
  analyses = (name (codes "p") 30) ∷ [];
}
