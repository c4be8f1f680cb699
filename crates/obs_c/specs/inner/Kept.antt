-- What a handle owns.
use Rattle.std.specs.Prelude.{Bool, true, false, Option, Some, None}
use base.Fml.{Fml, ftrue}
use denote.RawPtr.{Ptr}
use Rattle.std.specs.declared.alloc.Global.{Global}
use Rattle.std.specs.contracts.impls.GlobalAllocator.TheImpl.{ghosts}
use Rattle.std.specs.Box.Ownership.{box_owns}
use Rattle.obs_edit.specs.Sessions.{Session}
use Rattle.obs_edit.specs.contracts.session.Session.{the_row}

-- a whole box at the pointer, or nothing
abbrev pub keeps : Global → Ptr → Option Session → Fml
keeps a p (Some x) = box_owns (ghosts.dealloc_token a) the_row p x
keeps a p None = ftrue

-- whether there is a value
abbrev pub is_kept : Option Session → Bool
is_kept (Some x) = true
is_kept None = false
