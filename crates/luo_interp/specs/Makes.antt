-- What procedures with a result make of a structure.
use Rattle.std.specs.Prelude.{◌≡◌, ℕ, zero, suc, List, [], ◌∷◌, slice_get, Some}
use Rattle.luo_model.specs.Tree.{Tree, Trees, Inj, Tup, none, more}
use Rattle.luo_model.specs.Tree as tree
use Rattle.luo_model.specs.Program.{Program, Procedure, Result, Value, Given, Made, Atom, Tuple, Branch, Chosen, Values, no_values, value, ValueArms, no_value_arms, value_arm}
use Rattle.luo_model.specs.Charges.{bound}

-- R says what a called procedure makes of a structure
module _ (R : ℕ → Tree → Tree → Type 0) where
  abbrev mutual
    -- a value makes the structure of its variable, what a procedure makes of it, an atom without a
    -- label, a tuple, a structure of a branch, or what an arm makes
    pub ValueMakes : Value → List Tree → Tree → Type 0
    ValueMakes (Given var) vars made = slice_get vars var ≡ Some made
    ValueMakes (Made var callee) vars made =
        (t : Tree) × (slice_get vars var ≡ Some t) × R callee t made
    ValueMakes (Atom weight own) vars made = made ≡ tree.Atom weight 0
    ValueMakes (Tuple vs) vars made = (ts : Trees) × ValuesMake vs vars ts × (made ≡ Tup ts)
    ValueMakes (Branch number v) vars made =
        (t : Tree) × ValueMakes v vars t × (made ≡ Inj number t)
    ValueMakes (Chosen var arms) vars made =
        (t : Tree) × (slice_get vars var ≡ Some t) × ArmsMake arms t made

    -- one structure for each value, in order
    pub ValuesMake : Values → List Tree → Trees → Type 0
    ValuesMake no_values vars made = made ≡ none
    ValuesMake (value v vs) vars made =
        (t : Tree) × (ts : Trees) × ValueMakes v vars t × ValuesMake vs vars ts × (made ≡ more t ts)

    -- of a structure of branch i what arm i makes, and of a tuple what the one arm does
    pub ArmsMake : ValueArms → Tree → Tree → Type 0
    ArmsMake (value_arm bind v arms) (Inj (suc zero) t) made = ValueMakes v (bound bind t) made
    ArmsMake (value_arm bind v arms) (Inj (suc (suc i)) t) made = ArmsMake arms (Inj (suc i) t) made
    ArmsMake (value_arm bind v no_value_arms) (Tup ts) made =
        ValueMakes v (bound bind (Tup ts)) made
    ArmsMake _ _ made = ⊥

-- what a procedure makes of a structure, by calls that are at most so many deep
abbrev pub MakesWithin : List Procedure → ℕ → ℕ → Tree → Tree → Type 0
MakesWithin procs zero f s made = ⊥
MakesWithin procs (suc depth) f s made =
    (P : Procedure) × (r : Result) × (slice_get procs f ≡ Some P) × (P.result ≡ Some r)
    × ValueMakes (MakesWithin procs depth) r.value (s ∷ []) made

-- procedure f makes this of s
abbrev pub Makes : Program → ℕ → Tree → Tree → Type 0
Makes p f s made = (depth : ℕ) × MakesWithin p.procs depth f s made
