-- The links that closed switches are.
use Rattle.std.specs.Prelude.{◌≡◌, true, List, Contains}
use Rattle.obs_case.specs.declared.rows.Switch.{Switch}
use Rattle.obs_switch.specs.declared.link.Link.{Link}

-- a link leads from the one node of a closed switch to the other
pub record IsClosedSwitch (switches : List Switch) (l : Link) : Type 0 where
  pub row : Switch
  pub listed : Contains switches row
  pub closed : row.closed ≡ true
  pub from : l.from ≡ row.from
  pub to : l.to ≡ row.to
