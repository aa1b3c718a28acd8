-- The tables of a program's walks over collections, each at the place of its site.
use Rattle.std.specs.Prelude.{◌≡◌, ℕ, suc, ◌+◌, ◌≤◌, ◌<◌, false, List, length, slice_index, slice_index_or, slice_get, Option, Some, None}
use Rattle.luo_finite.specs.Listing.{In}
use Rattle.luo_model.specs.declared.program.Universe.TheVariants.{Unlabelled}
use Rattle.luo_model.specs.declared.program.Kind.{Kind}
use Rattle.luo_model.specs.declared.program.Kind.TheVariants.{Sequence}
use Rattle.luo_model.specs.declared.program.Part.{Part}
use Rattle.luo_model.specs.declared.program.Shape.{Shape}
use Rattle.luo_model.specs.declared.program.Shape.TheVariants.{Coll}
use Rattle.luo_model.specs.Program.{Program, Body, shape_of, site_node}
use Rattle.luo_model.specs.Member.{IsWithin}
use Rattle.luo_model.specs.Charges.{of_body, of_walk, works_of}
use Rattle.luo_model.specs.Tables.{IsCount, IsTotal}
use Rattle.luo_engine.specs.inner.Grid.{row_of}
use Rattle.luo_engine.specs.inner.Filled.{IsRightOf}
use Rattle.luo_engine.specs.inner.Asked.{Asked, AskedWalk, unasked, unasked_walk, form_of, of_chain, KeepsCounts, asked_more}

-- at site i a walk goes over the collection of its node, and at site s its body is done on each
-- component
pub record IsWalk (p : Program) (i s : ℕ) : Type 0 where
  pub kind : Kind
  pub part : Part
  pub low : ℕ
  pub high : Option ℕ
  pub body : Body
  pub shape : shape_of p (site_node p i) ≡ Coll kind part low high
  pub walk : In (i, of_walk body) (works_of p)
  pub inner : In (s, of_body body) (works_of p)
  pub site : i < length p.sites
  pub there : s < length p.sites
  pub node : site_node p s ≡ part.node

-- the table of site i; a place without one has what no table has been asked
abbrev pub walk_or : Option AskedWalk → AskedWalk
walk_or (Some w) = w
walk_or None = unasked_walk (unasked Unlabelled Sequence 0 None 0)

abbrev pub walk_at : List (Option AskedWalk) → ℕ → AskedWalk
walk_at walks i = walk_or (slice_index_or walks i None)

-- site i has a table
abbrev pub HasWalk : List (Option AskedWalk) → ℕ → Type 0
HasWalk walks i = slice_get walks i ≡ Some (Some (walk_at walks i))

-- the table is for this walk, and was given the numbers of components and the totals of the body in
-- so many calls; the last of them count only where one component is within the bounds, and the last
-- number of components is kept in the labelled universe alone
pub record IsAskedWalk (p : Program) (i s : ℕ) (walk : IsWalk p i s) (n_max calls : ℕ)
    (w : AskedWalk) : Type 0 where
  pub form_is : w.sums.form ≡ form_of p.universe walk.kind walk.low walk.high
  pub kind_is : w.sums.kind ≡ walk.kind
  pub low_is : w.sums.low ≡ walk.low
  pub high_is : w.sums.high ≡ walk.high
  pub n_max_is : w.sums.n_max ≡ n_max
  pub going : w.sums.over ≡ false
  pub calls_are : length w.sums.given ≡ calls
  pub agrees : (m : ℕ) → suc m < calls → IsTotal p s m (slice_index w.sums.given m)
  pub last_agrees : (m : ℕ) → suc m ≡ calls → IsWithin walk.low walk.high 1
      → IsTotal p s m (slice_index w.sums.given m)
  pub counts_agree : (m : ℕ) → suc m < calls → IsCount p walk.part.node m (slice_index w.counts m)
  pub counts_last : form_of p.universe walk.kind walk.low walk.high ≡ of_chain → (m : ℕ)
      → suc m ≡ calls
      → IsWithin walk.low walk.high 1 → IsCount p walk.part.node m (slice_index w.counts m)

-- site i has a table, and it has been asked so often
pub record HasAskedWalk
    (p : Program) (n_max : ℕ) (walks : List (Option AskedWalk)) (i s : ℕ) (walk : IsWalk p i s)
    (calls : ℕ) : Type 0 where
  pub there : HasWalk walks i
  pub asked : IsAskedWalk p i s walk n_max calls (walk_at walks i)

-- if a walk is at site i, and its body at site s, its table has been asked so often
abbrev pub IsWalkAsked : Program → ℕ → List (Option AskedWalk) → ℕ → ℕ → ℕ → Type 0
IsWalkAsked p n_max walks i s calls =
    (walk : IsWalk p i s) → HasAskedWalk p n_max walks i s walk calls

-- the walks before place k of the order have answered size n, those from it on the sizes below n,
-- and none with a mark; `Goes` says at which sites walks are, and at which their bodies
pub record AreWalks
    (p : Program) (Goes : ℕ → ℕ → Type 0) (n_max : ℕ) (order : List ℕ)
    (walks : List (Option AskedWalk))
    (n k : ℕ) : Type 0 where
  pub asked : (j i s : ℕ) → j < k → slice_get order j ≡ Some i → Goes i s
      → IsWalkAsked p n_max walks i s (n + 1)
  pub to_ask : (j i s : ℕ) → k ≤ j → slice_get order j ≡ Some i → Goes i s
      → IsWalkAsked p n_max walks i s n

-- one component is allowed
abbrev pub AllowsOne : Shape → Type 0
AllowsOne (Coll kind part low high) = IsWithin low high 1
AllowsOne _ = ⊥

-- the table of site i has answered the value, when it was given these numbers, and the others are
-- as they were
pub record HasAnswered
    (c : Asked) (old new : List (Option AskedWalk)) (i : ℕ) (comp body : List ℕ)
    (here value : ℕ) : Type 0 where
  pub now : AskedWalk
  pub there : slice_get new i ≡ Some (Some now)
  pub counts : KeepsCounts c comp now.counts
  pub sums : now.sums ≡ asked_more (walk_at old i).sums body here value
  pub others : (j : ℕ) → (j ≡ i → ⊥) → slice_get new j ≡ slice_get old j

-- the totals of site s are right below size n
pub record HasTotals (p : Program) (totals : List (List ℕ)) (s n : ℕ) : Type 0 where
  pub there : s < length totals
  pub reach : n < length (row_of totals s)
  pub below : (m : ℕ) → m < n → IsRightOf (IsTotal p) totals s m
