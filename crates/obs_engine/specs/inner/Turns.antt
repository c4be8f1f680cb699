-- The edits of a trial, which lose and regain each meter, and the searches that they took.
use Rattle.std.specs.Prelude.{ℕ, zero, suc, ◌≡◌, ◌≤◌, ◌+◌, true, false, length}
use Rattle.obs_edit.specs.declared.applied.Applied.{Applied}
use Rattle.obs_repair.specs.declared.edit.Edit.TheVariants.{Meter}
use Rattle.obs_edit.specs.inner.Edits.{IsEdited}
use Rattle.obs_edit.specs.Sessions.{Session}
use Rattle.obs_engine.specs.Trials.{dips_of, edits_of}

-- a session became this one by two edits, of which the first lost a meter and the second regained it; they took so many searches
pub record IsTurn (m : ℕ) (before after : Session) (searches : ℕ) : Type 0 where
  pub between : Session
  pub lost : Applied
  pub regained : Applied
  pub loses : IsEdited before (Meter m false) between lost
  pub regains : IsEdited between (Meter m true) after regained
  pub taken : searches ≡ lost.searches + regained.searches

-- it became this one as so many meters, from the first on, were lost and regained in turn; the edits took so many searches together
abbrev pub AreTurns : ℕ → Session → Session → ℕ → Type 0
AreTurns zero before after searches = (after ≡ before) × (searches ≡ 0)
AreTurns (suc m) before after searches =
    (at : Session) × (earlier last : ℕ) × AreTurns m before at earlier × IsTurn m at after last × (searches ≡ earlier + last)

-- the searches of a trial: each meter was lost and regained in turn, and the edits took so many, from the dips to the edits
pub record AreSearches (before after : Session) (searches : ℕ) : Type 0 where
  pub turns : AreTurns (length before.tables.meters) before after searches
  pub least : dips_of before.tables ≤ searches
  pub most : searches ≤ edits_of before.tables
