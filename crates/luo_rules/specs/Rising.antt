-- Breaches at rising tokens.
use Rattle.std.specs.Prelude.{◌<◌, List}
use Rattle.luo_finite.specs.Listing.{Pairwise}
use Rattle.luo_rules.specs.declared.rule.Breach.{Breach}

-- each breach stands before those after it
abbrev pub Rises : List Breach → Type 0
Rises bs = Pairwise (λ earlier later. earlier.token < later.token) bs
