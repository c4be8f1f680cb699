-- What an input fault says.
use Rattle.obs_text.specs.declared.faults.InputFault.{InputFault}
use Rattle.obs_text.specs.Faults.{Fault}

-- what an input fault says
abbrev pub fault_of : InputFault → Fault
fault_of fault = record { part = fault.part.now; place = fault.place; code = fault.code; name = fault.name.now }
