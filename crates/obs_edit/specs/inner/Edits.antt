-- What an edit makes of a session.
use Rattle.std.specs.Prelude.{ℕ, ◌≡◌, ◌≢◌, ◌⊎◌, false, None}
use Rattle.obs_assign.specs.inner.Assignment.{branch_at}
use Rattle.obs_network.specs.Network.{case_needed}
use Rattle.obs_edit.specs.declared.applied.Applied.{Applied}
use Rattle.obs_repair.specs.declared.edit.Edit.{Edit}
use Rattle.obs_repair.specs.declared.edit.Edit.TheVariants.{Meter}
use Rattle.obs_edit.specs.declared.hand.AtHand.{AtHand}
use Rattle.obs_network.specs.Observable.{IsRankOf, case_rank}
use Rattle.obs_repair.specs.Edits.{edited}
use Rattle.obs_repair.specs.inner.Edits.{IsRepaired, TakesOne}
use Rattle.obs_edit.specs.Sessions.{Session}

-- nothing is at hand
abbrev pub nothing_at_hand : AtHand
nothing_at_hand = record { first = false; critical = false; islands = false; bound = None; placed = false }

-- a session became this one by an edit, of which this is said
pub record IsEdited (before : Session) (edit : Edit) (after : Session) (said : Applied) : Type 0 where
  -- the one flag is set
  pub tables : after.tables ≡ edited before.tables edit
  pub offered : after.offered ≡ before.offered
  pub rank : IsRankOf after.tables said.rank
  pub computed : said.rank ≡ case_rank after.tables
  pub needed : said.needed ≡ case_needed after.tables
  -- the pairs are repaired
  pub repaired : IsRepaired after.tables before.pairs after.pairs said.rank said.searches
  pub meter : TakesOne edit before.pairs after.pairs said.searches
  pub without_pair : (at : ℕ) → edit ≡ Meter at false → branch_at before.pairs at ≡ None
      → (said.searches ≡ 0) × (after.pairs.turns ≡ before.pairs.turns)
  -- either no flag changes, and the session stays as it is, or nothing is at hand
  pub flag : ((after ≡ before) × (said.searches ≡ 0)) ⊎ ((after.tables ≢ before.tables) × (after.at_hand ≡ nothing_at_hand))
