use Rattle.std.proofs.Common.{◌≡◌, ◌∙◌, ◌<◌, List, arith, get_or, length, subst, sym}
use Rattle.obs_case.specs.Tables.{Tables}
use Rattle.obs_matroid.specs.Lists.{In}
use Rattle.obs_matroid.proofs.Contained.{In-get_or}
use Rattle.obs_outage.specs.declared.outages.Outage.{Outage}
use Rattle.obs_outage.specs.Outages.{outage_rows, outages_of}
use Rattle.obs_outage.proofs.Reported.{entry_row}
use Rattle.obs_tests.proofs.study_caller_tests.lends_outages.Goals as goal

-- what an index gives past the end
abbrev none : Outage
none = record { branch = 0; rank = 0; needed = 0 }

-- the branch of the first entry is a row, also of a case that is still the same
first_row : (t u : Tables) (entries : List Outage) → u ≡ t → entries ≡ outages_of t → 0 < length entries → In (get_or entries 0 none).branch (outage_rows u)
first_row t u entries same is some =
    subst (λ (x : Tables). In (get_or entries 0 none).branch (outage_rows x)) (sym same)
    (entry_row t (get_or entries 0 none) (subst (λ (xs : List Outage). In (get_or entries 0 none) xs) is (In-get_or entries 0 none some)))

pub one-one-requires-clause-row : goal.one-one-requires-clause-row
one-one-requires-clause-row g c =
    first_row c.args.case.now _ c.list.result.now (c.list-2.ensures.case ∙ c.list.ensures.case) c.list.ensures.list (omega (arith, c.if-listed-ne5.false))

pub one-two-requires-clause-row : goal.one-two-requires-clause-row
one-two-requires-clause-row g c =
    first_row c.args.case.now _ c.list.result.now (c.one-one.ensures.case ∙ (c.list-2.ensures.case ∙ c.list.ensures.case)) c.list.ensures.list (omega (arith, c.if-listed-ne5.false))
