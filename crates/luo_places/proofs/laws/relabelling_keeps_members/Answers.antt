use Rattle.luo_model.specs.Tree.{labels_of}
use Rattle.std.proofs.Common.{inr}
use Rattle.luo_places.specs.relabelling.Relabelling.{IsAmong}
use Rattle.luo_places.proofs.relabelling.LabelLemmas.{Each-all}
use Rattle.luo_places.proofs.relabelling.Relabelled.{member_sent}
use Rattle.luo_places.proofs.laws.relabelling_keeps_members.Goals as goal

pub returns : goal.returns
returns c f D rises p x t h m = member_sent f D rises p x t (Each-all (IsAmong D) (labels_of t) (λ l i. inr (h l i))) m
