use Rattle.std.proofs.Common.{subst, None}
use Rattle.std.proofs.lemmas.Option.{slice_get_within}
use Rattle.luo_finite.specs.Listing.{In}
use Rattle.luo_engine.proofs.tasks.scope_at.Goals as goal

pub sites_sum-sites-requires-clause-there : goal.sites_sum-sites-requires-clause-there
sites_sum-sites-requires-clause-there c = λ s i. c.requires.there.sites_there s (subst (In s) c.as_slice.ensures i)

pub point_at-point-requires-clause-room : goal.point_at-point-requires-clause-room
point_at-point-requires-clause-room c = slice_get_within c.args.links.now _ None c.requires.there.end_row
