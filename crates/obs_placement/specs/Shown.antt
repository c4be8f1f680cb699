-- The layers of a plan without what they list.
use Rattle.obs_matroid.specs.Placement.{Layer}
use Rattle.obs_placement.specs.declared.plans.Layer.{Layer as PlanLayer}

-- a layer of a plan as the laws of layers speak of it
abbrev pub bare_layer : PlanLayer → Layer
bare_layer l = record { from = l.from; to = l.to; rank = l.rank; outside = l.outside }
