-- What a list of items is seen as.
use Rattle.std.specs.Prelude.{ℕ, List}
use Rattle.obs_meter.specs.declared.Touch.{Touch}

-- what each item touches, and for how many items there is room
pub record Meters : Type 0 where
  pub touches : List Touch
  pub most : ℕ
