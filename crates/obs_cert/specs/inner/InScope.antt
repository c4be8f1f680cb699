-- What the program's scopes mean.
use Rattle.std.specs.Prelude.{ℕ, Bool}
use Rattle.obs_case.specs.Tables.{Tables}
use Rattle.obs_cert.specs.declared.scopes.Scope as program
use Rattle.obs_cert.specs.declared.scopes.Scope.TheVariants.{Component, Plan, Live}
use Rattle.obs_cert.specs.inner.Marks.{is_marked}
use Rattle.obs_cert.specs.Scopes.{is_live_item, is_meter_in, is_of_plan}

-- whether an item is in a scope
abbrev pub in_scope : Tables → program.Scope → ℕ → Bool
in_scope t (Component c) m = is_meter_in t c m
in_scope t (Plan marks stamp) m = is_of_plan t (is_marked marks.now stamp) m
in_scope t Live m = is_live_item t m
