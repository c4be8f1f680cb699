-- The numbers and names of flaws.
use Rattle.std.specs.Prelude.{ℕ, List, codes}
use Rattle.obs_cert.specs.declared.flaw.FlawCode.{FlawCode}
use Rattle.obs_cert.specs.declared.flaw.FlawCode.TheVariants.{UnknownName, NotComponent, NotInside, NotTouched, Twice, Cycle, WrongLength, WrongRank, WrongOutside, NotBelow, WrongLayers, WrongCost}

-- a flaw's number
abbrev pub flaw_code : FlawCode → ℕ
flaw_code UnknownName = 1
flaw_code NotComponent = 2
flaw_code NotInside = 3
flaw_code NotTouched = 4
flaw_code Twice = 5
flaw_code Cycle = 6
flaw_code WrongLength = 7
flaw_code WrongRank = 8
flaw_code WrongOutside = 9
flaw_code NotBelow = 10
flaw_code WrongLayers = 11
flaw_code WrongCost = 12

-- a flaw's name in bytes
abbrev pub flaw_name : FlawCode → List ℕ
flaw_name UnknownName = codes "UnknownName"
flaw_name NotComponent = codes "NotComponent"
flaw_name NotInside = codes "NotInside"
flaw_name NotTouched = codes "NotTouched"
flaw_name Twice = codes "Twice"
flaw_name Cycle = codes "Cycle"
flaw_name WrongLength = codes "WrongLength"
flaw_name WrongRank = codes "WrongRank"
flaw_name WrongOutside = codes "WrongOutside"
flaw_name NotBelow = codes "NotBelow"
flaw_name WrongLayers = codes "WrongLayers"
flaw_name WrongCost = codes "WrongCost"
