-- The statuses with which no session begins.
use Rattle.std.specs.Prelude.{◌≡◌, ◌⊎◌, Bool, Option, None, Some}
use Rattle.obs_files.specs.declared.status.Status.{Status}
use Rattle.obs_files.specs.declared.status.Status.TheVariants.{Usage, WriteFault}
use Rattle.obs_engine.specs.Forms.{CanStop}

-- the statuses with which no session begins, whatever the outside tells. Words of no session take no memory and no file
abbrev pub CanRefuse : Option Bool → Status → Type 0
CanRefuse None status = (status ≡ Usage) ⊎ (status ≡ WriteFault)
CanRefuse (Some offered) status = CanStop status
