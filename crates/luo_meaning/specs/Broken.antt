-- Which rule a source breaks where, and with which names, by its forms as written.
use Rattle.std.specs.Prelude.{◌≡◌, ◌⊎◌, ℕ, suc, ◌≤◌, List, [], ◌∷◌, length, map, codes, decimal, Option, Some, None, slice_get}
use Rattle.luo_finite.specs.Listing.{In}
use Rattle.luo_source.specs.declared.names.Name.{Name}
use Rattle.luo_source.specs.declared.statements.Pattern.{Pattern}
use Rattle.luo_source.specs.declared.statements.Pattern.TheVariants as pattern
use Rattle.luo_source.specs.Plain.Statements.{Stmt, Skip, Charge, Call, Block, Case, Forall, Stmts, no_stmts, a_stmt, SourceArms, a_source_arm}
use Rattle.luo_source.specs.Plain.Values as value
use Rattle.luo_source.specs.Plain.Values.{SourceValue, Given, Made, Atom, Tuple, Branch, SourceValues, no_source_values, a_source_value, SourceValueArms, a_source_value_arm}
use Rattle.luo_source.specs.Plain.Source.{ProcBody, Statements, Value, ProcDef, Source}
use Rattle.luo_rules.specs.declared.names.Meaning.TheVariants as mean
use Rattle.luo_rules.specs.declared.rule.Rule.TheVariants.{Y9, Y10, Y11, Y12, Y13, Y15}
use Rattle.luo_rules.specs.declared.rule.Breach.{Breach}
use Rattle.luo_rules.specs.declared.setting.Setting.{Setting}
use Rattle.luo_rules.specs.Meanings.{meaning}
use Rattle.luo_rules.specs.Definitions.{definitions, names_of}
use Rattle.luo_rules.specs.Patterns.{first_token, factor_names}
use Rattle.luo_rules.specs.StatementBreaches.{count_arms}
use Rattle.luo_rules.specs.ValueBreaches.{count_values, count_value_arms}
use Rattle.luo_rules.specs.Nodes.{result_name}
use Rattle.luo_rules.specs.Asked.{Asked, a_type, a_measure, a_procedure, defines, uses, results, type_asked, repeats_asked, charge_asked, first_asked}
use Rattle.luo_rules.specs.Broken.{Breaks, at_name, at_token}
use Rattle.luo_meaning.specs.Places.{Placed, of_name, IsSameType, IsUnionAt, IsProductAt, IsCollectionAt, IsAtomAt}
use Rattle.luo_meaning.specs.Scopes.{Scope, type_at, one_variable, Look, looked_at, AreLooks, HasFactors, Fits, BindsScope}

-- the universe of a source, and what its names mean
abbrev pub names_alone : Source → Setting
names_alone source =
    record {
      universe = source.universe;
      names = names_of source;
      defs = [];
      nodes = [];
      signatures = [];
    }

-- a rule on names and the universe is broken by this
abbrev pub BreaksNames : Source → Asked → Breach → Type 0
BreaksNames source q b = Breaks (definitions source) (names_alone source) q b

-- or by one of these
abbrev pub BreaksSome : Source → List Asked → Breach → Type 0
BreaksSome source qs b = (q : Asked) × In q qs × BreaksNames source q b

-- the name means a type
abbrev pub MeansType : Source → Name → Type 0
MeansType source name = (i : ℕ) × (meaning (names_of source) name.text ≡ Some (mean.Definition i))

-- the type that a pattern names, if any, is one
abbrev pub NamesType : Source → Pattern → Type 0
NamesType source (pattern.Named type) = MeansType source type
NamesType source (pattern.NamedWhole type name) = MeansType source type
NamesType source (pattern.NamedParts type names) = MeansType source type
NamesType source _ = Unit {0}

-- the name means this procedure
abbrev pub MeansProcedure : Source → Name → ProcDef → Type 0
MeansProcedure source name p =
    (f : ℕ) × (meaning (names_of source) name.text ≡ Some (mean.Procedure f))
    × (slice_get source.procs f ≡ Some p)

module _ (source : Source) where
  -- a variable isn't bound by its scope
  abbrev pub Unbound : Scope → Name → Breach → Type 0
  Unbound scope var b = (type_at scope var.text ≡ None) × (b ≡ at_name Y13 var)

  -- an argument is of another type than the parameter
  abbrev pub OtherArgument : Scope → Name → Name → Breach → Type 0
  OtherArgument scope arg callee b =
      (a : Placed) × (p : ProcDef) × (type_at scope arg.text ≡ Some a)
      × MeansProcedure source callee p × MeansType source p.on
      × (IsSameType source a (of_name p.on) → ⊥)
      × (b ≡ record { rule = Y9; token = arg.at; names = arg.text ∷ callee.text ∷ [] })

  -- a call: its callee is a procedure, its argument is bound, and of the parameter's type
  abbrev pub CallBreaks : Scope → Name → Name → Breach → Type 0
  CallBreaks scope callee arg b =
      BreaksNames source (uses a_procedure callee) b ⊎ Unbound scope arg b
      ⊎ OtherArgument scope arg callee b

  -- a pattern doesn't fit, where the type that it names, if any, is one
  abbrev pub Misfit : Look → Name → Pattern → Breach → Type 0
  Misfit look var pattern b =
      NamesType source pattern × (Fits source look pattern → ⊥)
      × (b ≡ at_token Y11 (first_token pattern) var.text)

  -- the pattern of an arm: the type that it names is one, it fits, and no name stands in it twice
  abbrev pub PatternBreaks : Look → Name → Pattern → Breach → Type 0
  PatternBreaks look var pattern b =
      BreaksSome source (type_asked pattern) b ⊎ Misfit look var pattern b
      ⊎ BreaksSome source (repeats_asked [] (factor_names pattern)) b

  -- a case has not as many arms as there is to look at
  abbrev pub OtherCount : Scope → Name → ℕ → Breach → Type 0
  OtherCount scope var arms b =
      (a : Placed) × (looks : List Look) × (type_at scope var.text ≡ Some a)
      × AreLooks source a looks × (arms ≡ length looks → ⊥) × (b ≡ at_name Y10 var)

  -- a walk is over what is no collection
  abbrev pub NoCollection : Scope → Name → Breach → Type 0
  NoCollection scope var b =
      (a : Placed) × (type_at scope var.text ≡ Some a)
      × ((f : Placed) → IsCollectionAt source a f → ⊥) × (b ≡ at_name Y12 var)

  abbrev mutual
    -- a statement breaks a rule in this scope. What is inside a case is spoken of where it has as
    -- many arms as there is to look at, what is inside an arm where its pattern fits, and what is
    -- inside a walk where it is over a collection
    pub StmtBreaks : Scope → Stmt → Breach → Type 0
    StmtBreaks scope Skip b = ⊥
    StmtBreaks scope (Charge measure) b = BreaksNames source (uses a_measure measure) b
    StmtBreaks scope (Call callee arg) b = CallBreaks scope callee arg b
    StmtBreaks scope (Block stmts) b = StmtsBreak scope stmts b
    StmtBreaks scope (Case var arms) b =
        Unbound scope var b ⊎ OtherCount scope var (count_arms arms) b
        ⊎ ((a : Placed) × (looks : List Look) × (type_at scope var.text ≡ Some a)
        × AreLooks source a looks × (count_arms arms ≡ length looks) × ArmsBreak looks var arms b)
    StmtBreaks scope (Forall var over body) b =
        Unbound scope over b ⊎ NoCollection scope over b
        ⊎ ((a : Placed) × (f : Placed) × (type_at scope over.text ≡ Some a)
        × IsCollectionAt source a f × StmtBreaks (one_variable var f) body b)

    pub StmtsBreak : Scope → Stmts → Breach → Type 0
    StmtsBreak scope no_stmts b = ⊥
    StmtsBreak scope (a_stmt stmt rest) b = StmtBreaks scope stmt b ⊎ StmtsBreak scope rest b

    pub ArmsBreak : List Look → Name → SourceArms → Breach → Type 0
    ArmsBreak (look ∷ looks) var (a_source_arm pattern body rest) b =
        PatternBreaks look var pattern b
        ⊎ (Fits source look pattern
        × ((scope : Scope) × BindsScope source pattern (looked_at look) scope
        × StmtBreaks scope body b))
        ⊎ ArmsBreak looks var rest b
    ArmsBreak _ var _ b = ⊥

  -- ---- values, where a structure of a type is wanted, if any is known

  -- a variable is of another type
  abbrev pub OtherVariable : Scope → Option Placed → Name → Breach → Type 0
  OtherVariable scope wanted var b =
      (e : Placed) × (a : Placed) × (wanted ≡ Some e) × (type_at scope var.text ≡ Some a)
      × (IsSameType source a e → ⊥) × (b ≡ at_name Y15 var)

  -- a procedure has no result, or one of another type
  abbrev pub OtherResult : Option Placed → Name → Breach → Type 0
  OtherResult wanted callee b =
      (e : Placed) × (p : ProcDef) × (wanted ≡ Some e) × MeansProcedure source callee p
      × ((result_name p.body ≡ None)
      ⊎ ((r : Name) × (result_name p.body ≡ Some r) × MeansType source r
      × (IsSameType source (of_name r) e → ⊥))) × (b ≡ at_name Y15 callee)

  -- a construct at this token, of this text, isn't one of the type
  abbrev pub OtherConstruct : (Placed → Type 0) → Option Placed → ℕ → List ℕ → Breach → Type 0
  OtherConstruct Is wanted at text b =
      (e : Placed) × (wanted ≡ Some e) × (Is e → ⊥) × (b ≡ at_token Y15 at text)

  -- e leads to a union with a branch of this number, from 1, which is of f
  abbrev pub IsBranchAt : ℕ → Placed → Placed → Type 0
  IsBranchAt number e f =
      (parts : List Placed) × (i : ℕ) × IsUnionAt source e parts × (number ≡ suc i)
      × (slice_get parts i ≡ Some f)

  abbrev pub HasBranch : ℕ → Placed → Type 0
  HasBranch number e = (f : Placed) × IsBranchAt number e f

  -- what is wanted of the parts of a tuple of k parts: the factors of a product of so many, and
  -- else nothing is known
  pub data WantedParts (wanted : Option Placed) (k : ℕ) : List Placed → Type 0 where
    the_factors : (e : Placed) (parts : List Placed) → wanted ≡ Some e → IsProductAt source e parts
        → length parts ≡ k → WantedParts wanted k parts
    no_factors : (e : Placed) → wanted ≡ Some e → (HasFactors source e k → ⊥)
        → WantedParts wanted k []
    nothing_known : wanted ≡ None → WantedParts wanted k []

  -- what is wanted inside a branch of this number
  pub data WantedInside (wanted : Option Placed) (number : ℕ) : Option Placed → Type 0 where
    the_branch : (e f : Placed) → wanted ≡ Some e → IsBranchAt number e f
        → WantedInside wanted number (Some f)
    no_branch : (e : Placed) → wanted ≡ Some e → (HasBranch number e → ⊥)
        → WantedInside wanted number None
    none_known : wanted ≡ None → WantedInside wanted number None

  abbrev mutual
    pub ValueBreaks : Scope → Option Placed → SourceValue → Breach → Type 0
    ValueBreaks scope wanted (Given var) b = Unbound scope var b ⊎ OtherVariable scope wanted var b
    ValueBreaks scope wanted (Made callee arg) b =
        OtherResult wanted callee b ⊎ CallBreaks scope callee arg b
    ValueBreaks scope wanted (Atom charge at) b =
        BreaksSome source (charge_asked charge) b
        ⊎ OtherConstruct (IsAtomAt source) wanted at (codes "atom") b
    ValueBreaks scope wanted (Tuple parts at) b =
        OtherConstruct (λ e. HasFactors source e (count_values parts)) wanted at (codes "product") b
        ⊎ ((es : List Placed) × WantedParts wanted (count_values parts) es
        × ValuesBreak scope es parts b)
    ValueBreaks scope wanted (Branch number at inner) b =
        OtherConstruct (HasBranch number) wanted at (decimal number) b
        ⊎ ((w : Option Placed) × WantedInside wanted number w × ValueBreaks scope w inner b)
    ValueBreaks scope wanted (value.Case var arms) b =
        Unbound scope var b ⊎ OtherCount scope var (count_value_arms arms) b
        ⊎ ((a : Placed) × (looks : List Look) × (type_at scope var.text ≡ Some a)
        × AreLooks source a looks × (count_value_arms arms ≡ length looks)
        × ValueArmsBreak looks wanted var arms b)

    -- parts of which these are wanted, and of further ones nothing is known
    pub ValuesBreak : Scope → List Placed → SourceValues → Breach → Type 0
    ValuesBreak scope es no_source_values b = ⊥
    ValuesBreak scope [] (a_source_value v rest) b =
        ValueBreaks scope None v b ⊎ ValuesBreak scope [] rest b
    ValuesBreak scope (e ∷ es) (a_source_value v rest) b =
        ValueBreaks scope (Some e) v b ⊎ ValuesBreak scope es rest b

    pub ValueArmsBreak : List Look → Option Placed → Name → SourceValueArms → Breach
        → Type 0
    ValueArmsBreak (look ∷ looks) wanted var (a_source_value_arm pattern v rest) b =
        PatternBreaks look var pattern b
        ⊎ (Fits source look pattern
        × ((scope : Scope) × BindsScope source pattern (looked_at look) scope
        × ValueBreaks scope wanted v b))
        ⊎ ValueArmsBreak looks wanted var rest b
    ValueArmsBreak _ wanted var _ b = ⊥

  -- ---- procedures, analyze lines, and the whole source

  -- the type of a result is wanted where its name means one
  pub data WantedResult (result : Name) : Option Placed → Type 0 where
    the_type : MeansType source result → WantedResult result (Some (of_name result))
    no_type : (MeansType source result → ⊥) → WantedResult result None

  -- what is inside a body is spoken of where the parameter's type is one
  abbrev pub BodyBreaks : ProcDef → ProcBody → Breach → Type 0
  BodyBreaks p (Statements stmts) b =
      MeansType source p.on × StmtsBreak (one_variable p.param (of_name p.on)) stmts b
  BodyBreaks p (Value colon result v) b =
      BreaksNames source (results colon p.name) b ⊎ BreaksNames source (uses a_type result) b
      ⊎ (MeansType source p.on
      × ((w : Option Placed) × WantedResult result w
      × ValueBreaks (one_variable p.param (of_name p.on)) w v b))

  -- procedure f
  abbrev pub ProcBreaks : ℕ → ProcDef → Breach → Type 0
  ProcBreaks f p b =
      BreaksNames source (defines p.name (mean.Procedure f)) b
      ⊎ BreaksNames source (uses a_type p.on) b ⊎ BodyBreaks p p.body b

  abbrev pub ProcsBreak : ℕ → List ProcDef → Breach → Type 0
  ProcsBreak f [] b = ⊥
  ProcsBreak f (p ∷ ps) b = ProcBreaks f p b ⊎ ProcsBreak (suc f) ps b

  -- definitions and measures break a rule
  abbrev pub DefinitionsBreak : Breach → Type 0
  DefinitionsBreak b = BreaksSome source (first_asked source) b

  -- procedures or analyze lines do
  abbrev pub ProceduresBreak : Breach → Type 0
  ProceduresBreak b =
      ProcsBreak 0 source.procs b ⊎ BreaksSome source (map (uses a_procedure) source.analyses) b

  -- a rule is broken: by definitions and measures, or, where they break none, by procedures and
  -- analyze lines
  abbrev pub IsBrokenIn : Breach → Type 0
  IsBrokenIn b = DefinitionsBreak b ⊎ (((a : Breach) → DefinitionsBreak a → ⊥) × ProceduresBreak b)

-- this is broken, and nothing is broken before it
abbrev pub IsFirstBrokenIn : Source → Breach → Type 0
IsFirstBrokenIn source first =
    IsBrokenIn source first × ((b : Breach) → IsBrokenIn source b → first.token ≤ b.token)

-- no rule is broken
abbrev pub BreaksNothingIn : Source → Type 0
BreaksNothingIn source = (b : Breach) → IsBrokenIn source b → ⊥
