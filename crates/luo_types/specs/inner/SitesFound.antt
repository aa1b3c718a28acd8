-- What is found in finished bodies: the nodes of their sites, and their walks over multisets and
-- powersets.
use Rattle.std.specs.Prelude.{◌≡◌, ℕ, ◌+◌, List, [], ◌∷◌, ◌++◌, map}
use Rattle.luo_model.specs.declared.program.Site.{Site}
use Rattle.luo_model.specs.Invariant.{sites_from}
use Rattle.luo_model.specs.Program.{Program, Procedure}
use Rattle.luo_model.specs.Scopes.Walks.{body_walks, body_items}
use Rattle.luo_types.specs.declared.sites.Found.{Found}

-- the nodes of sites
abbrev pub nodes_of : List (ℕ × ℕ) → List ℕ
nodes_of sites = map (λ site. site.1) sites

-- these nodes come after those found before, and so many walks were found
pub record IsFound (nodes : List ℕ) (walks : ℕ) (old new : Found) : Type 0 where
  pub nodes_are : new.nodes ≡ old.nodes ++ nodes
  pub walks_are : new.walks ≡ old.walks + walks

-- sites of these nodes, by their places in a procedure from this one on
abbrev pub sites_at : ℕ → ℕ → List ℕ → List Site
sites_at caller place [] = []
sites_at caller place (node ∷ nodes) =
    record { node = node; caller = caller; place = place } ∷ sites_at caller (place + 1) nodes

-- the sites of procedures from the one of this number on
abbrev pub sites_in : Program → ℕ → List Procedure → List Site
sites_in p f procs = map (λ site. site.1) (sites_from p f procs)

-- the walks of procedures over multisets and powersets
abbrev pub procedure_walks : Program → Procedure → ℕ
procedure_walks p P = body_walks p (P.on ∷ []) P.body

abbrev pub procedure_items : Procedure → ℕ
procedure_items P = body_items P.body
