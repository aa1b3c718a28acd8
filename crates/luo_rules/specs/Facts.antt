-- Known facts about small sources.
use Rattle.std.specs.Prelude.{◌≡◌, [], ◌∷◌, codes, None, Some}
use Rattle.luo_model.specs.declared.program.Universe.TheVariants.{Unlabelled}
use Rattle.luo_model.specs.declared.program.Shape.TheVariants as shape
use Rattle.luo_model.specs.Program.{Does, no_items, item, Call, Atom}
use Rattle.luo_model.specs.Invariant.{bare}
use Rattle.luo_rules.specs.declared.rule.Rule.TheVariants.{Y1, Y4, Y13}
use Rattle.luo_rules.specs.Counted.{node_count, statement_count}
use Rattle.luo_rules.specs.Examples.{circular, twice, unbound, copied, called}
use Rattle.luo_rules.specs.Whole.{breaches, core}

-- each definition of a circle is told with those it leads through
abbrev pub CirclesAreTold : Type 0
CirclesAreTold =
    breaches circular
    ≡ record { rule = Y4; token = 3; names = codes "a" ∷ codes "b" ∷ codes "a" ∷ [] }
    ∷ record { rule = Y4; token = 8; names = codes "b" ∷ codes "a" ∷ codes "b" ∷ [] } ∷ []

-- the second definition of a name is the wrong one
abbrev pub SecondDefinitionsAreTold : Type 0
SecondDefinitionsAreTold =
    breaches twice ≡ record { rule = Y1; token = 9; names = codes "z" ∷ [] } ∷ []

-- a variable that the scope doesn't bind is the wrong one
abbrev pub UnboundVariablesAreTold : Type 0
UnboundVariablesAreTold =
    breaches unbound ≡ record { rule = Y13; token = 19; names = codes "u" ∷ [] } ∷ []

-- each name of a definition has nodes of its own, and a definition that is a name has that of the
-- other
abbrev pub CopiesHaveTheirOwnNodes : Type 0
CopiesHaveTheirOwnNodes = (node_count copied ≡ 2)
    × ((core copied).defs
    ≡ record { name = codes "a"; whole = bare 0 } ∷ record { name = codes "b"; whole = bare 1 }
    ∷ record { name = codes "z"; whole = record { node = 1; name = Some 1 } } ∷ [])
    × ((core copied).nodes
    ≡ record { shape = shape.Atom 1; owner = 0; place = 0 }
    ∷ record { shape = shape.Atom 1; owner = 1; place = 0 } ∷ [])

-- charges are summed, a call has the site before its procedure's whole, and a value gives the body
-- of its procedure
abbrev pub CallsStandBeforeTheWhole : Type 0
CallsStandBeforeTheWhole =
    (breaches called ≡ []) × (statement_count called ≡ 4) × (core called ≡ record {
      universe = Unlabelled;
      defs = record { name = codes "z"; whole = bare 0 } ∷ [];
      nodes = record { shape = shape.Atom 1; owner = 0; place = 0 } ∷ [];
      procs =
          record {
            name = codes "p";
            on = record { node = 0; name = Some 0 };
            body = Does 6 (item (Call 0 1 0) no_items);
            site = 1;
            result = None;
          }
          ∷ record {
            name = codes "u";
            on = record { node = 0; name = Some 0 };
            body = Does 3 no_items;
            site = 2;
            result = Some (record { on = record { node = 0; name = Some 0 }; value = Atom 1 3 });
          }
          ∷ [];
      sites =
          record { node = 0; caller = 0; place = 0 } ∷ record { node = 0; caller = 0; place = 1 }
          ∷ record { node = 0; caller = 1; place = 0 } ∷ [];
      analyses = 0 ∷ [];
    })
