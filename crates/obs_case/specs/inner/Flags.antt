-- The mark of a node that is an absolute time reference.
use Rattle.std.specs.Prelude.{ℕ, Bool}
use Rattle.obs_case.specs.declared.rows.Node.{Node}
use Rattle.obs_case.specs.Tables.{Tables}
use Rattle.obs_case.specs.Flags.{changed_at}

-- a node marked absolute, or not
abbrev pub with_absolute : Tables → ℕ → Bool → Tables
with_absolute t at absolute = record t { nodes = changed_at (λ (row : Node). record row { absolute = absolute }) at t.nodes }
