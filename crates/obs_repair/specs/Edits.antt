-- What an edit makes of a case.
use Rattle.obs_case.specs.Flags.{with_branch_inservice, with_closed, with_meter_inservice}
use Rattle.obs_case.specs.Tables.{Tables}
use Rattle.obs_repair.specs.declared.edit.Edit.{Edit}
use Rattle.obs_repair.specs.declared.edit.Edit.TheVariants.{Switch, Branch, Meter}

-- the tables after an edit: one flag of one row is set
abbrev pub edited : Tables → Edit → Tables
edited t (Switch at closed) = with_closed t at closed
edited t (Branch at inservice) = with_branch_inservice t at inservice
edited t (Meter at inservice) = with_meter_inservice t at inservice
