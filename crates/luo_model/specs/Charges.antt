-- What procedures and sites charge on a structure.
use Rattle.std.specs.Prelude.{◌≡◌, ℕ, zero, suc, ◌+◌, List, [], ◌∷◌, ◌++◌, flat_map, slice_get, Some}
use Rattle.luo_finite.specs.Listing.{In}
use Rattle.luo_model.specs.declared.body.Bind.{Bind}
use Rattle.luo_model.specs.declared.body.Bind.TheVariants.{Nothing, Whole, Parts}
use Rattle.luo_model.specs.Tree.{Tree, Trees, Inj, Tup, Coll, none, more, to_list}
use Rattle.luo_model.specs.Program.{Program, Procedure, Body, Does, Items, no_items, item, Item, Call, Case, Forall, Arms, no_arms, arm}

-- the parts of a tuple
abbrev pub parts_of : Tree → List Tree
parts_of (Tup ts) = to_list ts
parts_of _ = []

-- the variables that an arm binds: none, the structure itself, or its parts
abbrev pub bound : Bind → Tree → List Tree
bound Nothing t = []
bound Whole t = t ∷ []
bound (Parts k) t = parts_of t

-- the numbers that C relates to the trees, one to each, sum to q
abbrev pub EachCharges : (Tree → ℕ → Type 0) → Trees → ℕ → Type 0
EachCharges C none q = q ≡ 0
EachCharges C (more t ts) q = (a : ℕ) × (b : ℕ) × C t a × EachCharges C ts b × (q ≡ a + b)

-- R says what a called procedure charges on a structure
module _ (R : ℕ → Tree → ℕ → Type 0) where
  abbrev mutual
    -- a body charges its own, and what its items charge
    pub BodyCharges : Body → List Tree → ℕ → Type 0
    BodyCharges (Does own items) vars q = (r : ℕ) × ItemsCharge items vars r × (q ≡ own + r)

    pub ItemsCharge : Items → List Tree → ℕ → Type 0
    ItemsCharge no_items vars q = q ≡ 0
    ItemsCharge (item i is) vars q =
        (a : ℕ) × (b : ℕ) × ItemCharges i vars a × ItemsCharge is vars b × (q ≡ a + b)

    -- a call charges what its procedure does on the variable, a case what the arm does, a walk what
    -- its body does on each component, copies included
    pub ItemCharges : Item → List Tree → ℕ → Type 0
    ItemCharges (Call var callee site) vars q =
        (t : Tree) × (slice_get vars var ≡ Some t) × R callee t q
    ItemCharges (Case var arms site) vars q =
        (t : Tree) × (slice_get vars var ≡ Some t) × CaseCharges arms t q
    ItemCharges (Forall var body body_site site) vars q =
        (ts : Trees) × (slice_get vars var ≡ Some (Coll ts))
        × EachCharges (λ t. BodyCharges body (t ∷ [])) ts q

    -- a structure of branch i charges what arm i does, and a tuple what the one arm does
    pub CaseCharges : Arms → Tree → ℕ → Type 0
    CaseCharges (arm bind body arms) (Inj (suc zero) t) q = BodyCharges body (bound bind t) q
    CaseCharges (arm bind body arms) (Inj (suc (suc i)) t) q = CaseCharges arms (Inj (suc i) t) q
    CaseCharges (arm bind body no_arms) (Tup ts) q = BodyCharges body (bound bind (Tup ts)) q
    CaseCharges _ _ q = ⊥

-- what a procedure charges on a structure, by calls that are at most so many deep
abbrev pub ChargesWithin : List Procedure → ℕ → ℕ → Tree → ℕ → Type 0
ChargesWithin procs zero f s q = ⊥
ChargesWithin procs (suc depth) f s q =
    (P : Procedure) × (slice_get procs f ≡ Some P)
    × BodyCharges (ChargesWithin procs depth) P.body (s ∷ []) q

-- procedure f charges q on s
abbrev pub Charges : Program → ℕ → Tree → ℕ → Type 0
Charges p f s q = (depth : ℕ) × ChargesWithin p.procs depth f s q

-- what is done at a site, on the one structure of its variable
pub data Work : Type 0 where
  -- a procedure's whole, or a walk's body
  of_body : Body → Work
  of_call : ℕ → Work
  of_case : Arms → Work
  of_walk : Body → Work

-- the sites with what is done there: each item after all that stands inside it, and a walk's body
-- directly before the walk
abbrev mutual
  pub works_of_body : Body → List (ℕ × Work)
  works_of_body (Does own items) = works_of_items items

  pub works_of_items : Items → List (ℕ × Work)
  works_of_items no_items = []
  works_of_items (item i is) = works_of_item i ++ works_of_items is

  pub works_of_item : Item → List (ℕ × Work)
  works_of_item (Call var callee site) = (site, of_call callee) ∷ []
  works_of_item (Case var arms site) = works_of_arms arms ++ (site, of_case arms) ∷ []
  works_of_item (Forall var body body_site site) =
      works_of_body body ++ (body_site, of_body body) ∷ ((site, of_walk body) ∷ [])

  pub works_of_arms : Arms → List (ℕ × Work)
  works_of_arms no_arms = []
  works_of_arms (arm bind body arms) = works_of_body body ++ works_of_arms arms

-- the sites of a procedure, its whole last
abbrev pub works_of_procedure : Procedure → List (ℕ × Work)
works_of_procedure P = works_of_body P.body ++ (P.site, of_body P.body) ∷ []

abbrev pub works_of : Program → List (ℕ × Work)
works_of p = flat_map works_of_procedure p.procs

abbrev pub WorkCharges : Program → Work → Tree → ℕ → Type 0
WorkCharges p (of_body body) s q = BodyCharges (Charges p) body (s ∷ []) q
WorkCharges p (of_call callee) s q = Charges p callee s q
WorkCharges p (of_case arms) s q = CaseCharges (Charges p) arms s q
WorkCharges p (of_walk body) s q =
    (ts : Trees) × (s ≡ Coll ts) × EachCharges (λ t. BodyCharges (Charges p) body (t ∷ [])) ts q

-- site i charges q on s
abbrev pub SiteCharges : Program → ℕ → Tree → ℕ → Type 0
SiteCharges p i s q = (work : Work) × In (i, work) (works_of p) × WorkCharges p work s q
