-- What a session keeps.
use Rattle.std.specs.Prelude.{Bool}
use Rattle.obs_case.specs.Tables.{Tables}
use Rattle.obs_assign.specs.Assignment.{Assignment}
use Rattle.obs_assign.specs.inner.Assignment.{pairs}
use Rattle.obs_edit.specs.declared.hand.AtHand.{AtHand}

-- a session: the present case, whether it was begun with candidates, the kept pairs, and what is at hand
pub record Session : Type 0 where
  pub tables : Tables
  pub offered : Bool
  pub pairs : Assignment
  pub at_hand : AtHand
