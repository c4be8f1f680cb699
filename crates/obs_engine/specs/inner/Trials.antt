-- A case in which each meter is in service.
use Rattle.std.specs.Prelude.{◌≡◌, true, All}
use Rattle.obs_case.specs.declared.rows.Meter.{Meter as Row}
use Rattle.obs_case.specs.Tables.{Tables}

-- each meter of a case is in service
abbrev pub AreInService : Tables → Type 0
AreInService t = All (λ (row : Row). row.inservice ≡ true) t.meters
