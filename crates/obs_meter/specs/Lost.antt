-- Items that are lost: they touch nothing.
use Rattle.std.specs.Prelude.{ℕ, ◌==◌, Bool, if◌then◌else◌, List, map, slice_index_or}
use Rattle.std.specs.List.{list_any}
use Rattle.obs_meter.specs.declared.Touch.{Touch}
use Rattle.obs_meter.specs.declared.Touch.TheVariants.{Nothing}
use Rattle.obs_meter.specs.Touches.{every_item}

-- what items touch where those that the test marks are lost
unfoldable pub losing : (ℕ → Bool) → List Touch → List Touch
losing lost touches = map (λ m. if lost m then Nothing else slice_index_or touches m Nothing) (every_item touches)

-- whether an item is on a list
abbrev pub is_listed : List ℕ → ℕ → Bool
is_listed list m = list_any (λ x. x == m) list
