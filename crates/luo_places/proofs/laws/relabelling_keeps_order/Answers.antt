use Rattle.luo_model.specs.Tree.{labels_of}
use Rattle.std.proofs.Common.{inr}
use Rattle.luo_places.specs.relabelling.Relabelling.{IsAmong}
use Rattle.luo_places.proofs.relabelling.LabelLemmas.{Each-all, order_sent}
use Rattle.luo_places.proofs.laws.relabelling_keeps_order.Goals as goal

pub returns : goal.returns
returns c f D rises s t h g =
    order_sent f D rises s t (Each-all (IsAmong D) (labels_of s) (λ l i. inr (h l i))) (Each-all (IsAmong D) (labels_of t) (λ l i. inr (g l i)))
