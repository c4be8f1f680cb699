-- What a call of `next` gives.
use Rattle.std.specs.Prelude.{◌≡◌, List, [], ◌∷◌, Option, MatchOption}
use Rattle.obs_cert.specs.declared.line.Item as program
use Rattle.obs_cert.specs.declared.walk.LayerLines.{LayerLines}
use Rattle.obs_cert.specs.declared.walk.PairLine.{PairLine}
use Rattle.obs_cert.specs.Claims.{Item, Layer, Pair}
use Rattle.obs_cert.specs.inner.Said.{item_said}
use Rattle.obs_cert.specs.inner.Walked.{parts_in}

-- a pair and a layer of the program
abbrev pub pair_said : PairLine → Pair
pair_said p = record { item = item_said p.item; branch = p.branch.now }

abbrev pub layer_said : LayerLines → Layer
layer_said l = record { from = l.from; to = l.to; rank = l.rank; outside = l.outside; inside = (parts_in l.rest.now).inside }

-- the first of what is left is given, and the others are left after it; or nothing is left
abbrev pub GivesItem : List Item → Option program.Item → List Item → Type 0
GivesItem before given after = MatchOption given (before ≡ []) (λ item. before ≡ item_said item ∷ after)

abbrev pub GivesPair : List Pair → Option PairLine → List Pair → Type 0
GivesPair before given after = MatchOption given (before ≡ []) (λ pair. before ≡ pair_said pair ∷ after)

abbrev pub GivesLayer : List Layer → Option LayerLines → List Layer → Type 0
GivesLayer before given after = MatchOption given (before ≡ []) (λ layer. before ≡ layer_said layer ∷ after)
