-- The ranker that a cursor finds structures with.
use Rattle.luo_rank.specs.Ranked.{Ranked}
use Rattle.luo_list.specs.declared.cursor.Finder.{Finder}
use Rattle.luo_list.specs.declared.cursor.Finder.TheVariants.{Owned, Lent}

-- the ranker, the cursor's own or a lent one
abbrev pub ranked_of : Finder → Ranked
ranked_of (Owned ranker) = ranker
ranked_of (Lent ranker) = ranker.now
