-- What an entry of the outage list says.
use Rattle.std.proofs.Common.{◌≡◌, ℕ, refl, sym, subst}
use Rattle.obs_case.specs.Tables.{IsValid, Tables}
use Rattle.obs_matroid.specs.Lists.{In}
use Rattle.obs_network.specs.Network.{case_needed, network_of}
use Rattle.obs_network.specs.Observable.{IsRankOf, case_rank}
use Rattle.obs_outage.specs.declared.outages.Outage.{Outage}
use Rattle.obs_network.specs.Parted.{outage_case}
use Rattle.obs_outage.specs.Outages.{outage_of, outage_rows, outages_of}
use Rattle.obs_outage.proofs.Entries.{entry_from}
use Rattle.obs_outage.proofs.InOutage.{out_valid, rank_is}

at_row : (t : Tables) (o : Outage) → In o (outages_of t) → (e : ℕ) × In e (outage_rows t) × (o ≡ outage_of t e)
unfolding outages_of
at_row t o i = entry_from (outage_of t) (outage_rows t) o i

pub entry_row : (t : Tables) (o : Outage) → In o (outages_of t) → In o.branch (outage_rows t)
entry_row t o i = let r = at_row t o i in subst (λ (x : Outage). In x.branch (outage_rows t)) (sym r.2) r.1

pub entry_rank : (t : Tables) → IsValid t → (o : Outage) → In o (outages_of t) → (o.rank ≡ case_rank (outage_case t o.branch)) × IsRankOf (outage_case t o.branch) o.rank
entry_rank t v o i =
    let r = at_row t o i in
    subst (λ (x : Outage). (x.rank ≡ case_rank (outage_case t x.branch)) × IsRankOf (outage_case t x.branch) x.rank) (sym r.2)
    (refl, rank_is (outage_case t r.0) (out_valid t v r.0))

pub entry_needed : (t : Tables) (o : Outage) → In o (outages_of t) → (o.needed ≡ case_needed (outage_case t o.branch)) × (o.needed ≡ (network_of (outage_case t o.branch)).needed)
entry_needed t o i =
    let r = at_row t o i in
    subst (λ (x : Outage). (x.needed ≡ case_needed (outage_case t x.branch)) × (x.needed ≡ (network_of (outage_case t x.branch)).needed)) (sym r.2) (refl, refl)
