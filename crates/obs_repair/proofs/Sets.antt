-- Pairs that an edit leaves as they are, and the room after it.
use Rattle.std.proofs.Common.{◌≡◌, ℕ, ◌*◌, length, refl, sym, ap, ◌∙◌, subst, arith}
use Rattle.obs_case.specs.Tables.{Tables}
use Rattle.obs_assign.specs.Assignment.{Assignment}
use Rattle.obs_assign.specs.inner.Assignment.{StandsOver, pairs}
use Rattle.obs_exchange.specs.inner.Found.{Work}
use Rattle.obs_exchange.specs.inner.Lengthened.{HasLengthened}
use Rattle.obs_network.specs.Network.{Rows, case_meters, network_of, rows_of}
use Rattle.obs_network.specs.inner.Network.{case_position_count}
use Rattle.obs_meter.specs.inner.Sizes.{Sizes}
use Rattle.obs_repair.specs.declared.edit.Edit.{Edit}
use Rattle.obs_repair.specs.declared.edit.Edit.TheVariants as edit
use Rattle.obs_repair.specs.Edits.{edited}
use Rattle.obs_repair.specs.inner.Edits.{IsRepaired, TakesOne}
use Rattle.obs_repair.specs.inner.Kept.{HasRoom, case_room}
use Rattle.obs_repair.proofs.Flagged.{positions-edited, rows-edited}
use Rattle.obs_repair.proofs.Repaired.{IsRepaired-by, kept-same}

-- no search takes more than one
pub takes_none : (e : Edit) (a : Assignment) (searches : ℕ) → searches ≡ 0 → TakesOne e a a searches
takes_none (edit.Switch at closed) a searches none = tt
takes_none (edit.Branch at inservice) a searches none = tt
takes_none (edit.Meter at inservice) a searches none = (omega (arith, none), omega arith)

no_search : (a : Assignment) → HasLengthened a a 0
no_search a = record {
  keeps = λ m n. n;
  frozen = refl;
  frozen_pairs = λ m n. refl;
  grown = omega arith;
  all_but_one = omega arith;
  turns_rise = omega arith;
  turns_found = omega arith;
  none = λ n. refl;
}

-- pairs that stand are repaired without a search
pub repaired-same : (t : Tables) (a : Assignment) (rank searches : ℕ) → StandsOver a (network_of t).graph (case_meters t) → rank ≡ length (pairs a) → searches ≡ 0 → IsRepaired t a a rank searches
repaired-same t a rank searches stands is none =
    subst (λ r. IsRepaired t a a r searches) (sym is) (subst (λ s. IsRepaired t a a (length (pairs a)) s) (sym none) (IsRepaired-by t a a a 0 (kept-same t a stands) (no_search a)))

-- the room is that for as many rows and positions
sizes_of : Rows → ℕ → Sizes
sizes_of r positions = record { meters = r.meters; branches = positions; vertices = 2 * r.nodes }

pub sizes-edited : (t : Tables) (e : Edit) → case_room t ≡ case_room (edited t e)
unfolding sizes_of
sizes-edited t e = ap (λ r. sizes_of r (case_position_count t)) (sym (rows-edited t e)) ∙ ap (sizes_of (rows_of (edited t e))) (sym (positions-edited t e))

pub room-edited : (t : Tables) (e : Edit) (a : Assignment) (w : Work) → HasRoom t a w → HasRoom (edited t e) a w
room-edited t e a w r =
    let same = sizes-edited t e in
    record {
      pair_meters = r.pair_meters ∙ ap (λ (x : Sizes). x.meters) same;
      pair_branches = r.pair_branches ∙ ap (λ (x : Sizes). x.branches) same;
      pair_vertices = r.pair_vertices ∙ ap (λ (x : Sizes). x.vertices) same;
      work = r.work ∙ same;
    }
