-- What a trial counts: the islands, and the dips of meters that are lost and regained.
use Rattle.std.proofs.Common.{◌≡◌, ℕ, zero, suc, ◌+◌, ◌-◌, ◌*◌, ◌<◌, ◌≤◌, Bool, true, false, All, List, [], ◌∷◌, ◌++◌, length, filter, refl, sym, ap, ◌∙◌, subst, arith, inl, inr}
use Rattle.std.specs.Prelude.{if◌then◌else◌}
use Rattle.std.specs.List.{range_with_len}
use Rattle.std.proofs.lemmas.Bool.{cases_Bool}
use Rattle.std.proofs.lemmas.List.Elements.{All-head, All-tail}
use Rattle.std.proofs.lemmas.List.FromFn.{length-range_with_len}
use Rattle.obs_case.specs.declared.rows.Meter.{Meter}
use Rattle.obs_case.specs.Flags.{changed_at, with_meter_inservice}
use Rattle.obs_case.specs.Tables.{IsValid, Tables}
use Rattle.obs_case.proofs.RowLemmas.{length-changed}
use Rattle.obs_assign.specs.Assignment.{Assignment}
use Rattle.obs_assign.specs.inner.Assignment.{pairs}
use Rattle.obs_assign.specs.inner.Still.{is_still}
use Rattle.obs_network.specs.Network.{Network, case_branches, case_meters, network_of}
use Rattle.obs_network.specs.Switched.{case_bus_count}
use Rattle.obs_report.specs.Counts.{counts_text}
use Rattle.obs_report.specs.Totals.{totals_text, trial_line}
use Rattle.obs_network.specs.Observable.{IsRankOf, case_rank}
use Rattle.obs_repair.specs.inner.Edits.{IsRepaired}
use Rattle.obs_kept.specs.inner.Kept.{AreLongest}
use Rattle.obs_edit.specs.Sessions.{Session}
use Rattle.obs_engine.specs.Trials.{dip_meters, dips_of, edits_of, is_dip, is_first_of_island, island_count, trial_text}
use Rattle.obs_engine.specs.inner.Trials.{AreInService}
use Rattle.obs_engine.specs.inner.Turns.{AreSearches, AreTurns, IsTurn}
use Rattle.obs_network.proofs.OfCase.{few_meters}
use Rattle.obs_claimed.proofs.Small.{filter_few}

module _ (p : ℕ → Bool) where
  -- how many numbers from i on and below n pass
  abbrev pub left : ℕ → ℕ → ℕ
  left i n = length (filter p (range_with_len i (n - i)))

  pub left_step : (i n : ℕ) → i < n → left i n ≡ (if p i then 1 else 0) + left (i + 1) n
  left_step i n low =
      let e : n - i ≡ suc (n - (i + 1)) = omega (arith, low) in
      elim (cases_Bool (p i)) [
        | inl t ↦ rw (e, t) (omega arith)
        | inr f ↦ rw (e, f) (omega arith)
      ]

  pub left_none : (i n : ℕ) → n ≤ i → left i n ≡ 0
  left_none i n past = let e : n - i ≡ 0 = omega (arith, past) in rw e refl

  pub left_all : (n : ℕ) → left 0 n ≡ length (filter p (range_with_len 0 n))
  left_all n = let e : n - 0 ≡ n = omega arith in ap (λ k. length (filter p (range_with_len 0 k))) e

-- the meters before i were lost and regained: so many dips, and so many searches of at most two for each meter
pub record AreTurned (p : ℕ → Bool) (n i dips searches : ℕ) : Type 0 where
  pub counted : dips + left p i n ≡ length (filter p (range_with_len 0 n))
  pub least : dips ≤ searches
  pub most : searches ≤ 2 * i
  pub few : i ≤ n

module _ (p : ℕ → Bool) (n : ℕ) where
  pub turned_none : AreTurned p n 0 0 0
  turned_none = let a = left_all p n in record { counted = omega (arith, a); least = omega arith; most = omega arith; few = omega arith }

  pub turned_one : (i dips searches one more : ℕ) → AreTurned p n i dips searches → i < n → one ≡ (if p i then 1 else 0) → one ≤ more → more ≤ 2
      → AreTurned p n (i + 1) (dips + one) (searches + more)
  turned_one i dips searches one more h low is least most =
      let c = h.counted in
      let s = left_step p i n low in
      let l = h.least in
      let m = h.most in
      record { counted = omega (arith, c, s, is); least = omega (arith, l, least); most = omega (arith, m, most); few = omega (arith, low) }

  pub turned_all : (i dips searches : ℕ) → AreTurned p n i dips searches → n ≤ i → (dips ≡ length (filter p (range_with_len 0 n))) × (dips ≤ searches) × (searches ≤ 2 * n)
  turned_all i dips searches h past =
      let c = h.counted in
      let m = h.most in
      let f = h.few in
      let none = left_none p i n past in
      (omega (arith, c, none), h.least, omega (arith, m, f))

-- one turn more
pub turns_more : (before at after : Session) (i searches more : ℕ) → AreTurns i before at searches → IsTurn i at after more → AreTurns (i + 1) before after (searches + more)
turns_more before at after i searches more h turn =
    let one : suc i ≡ i + 1 = omega arith in
    subst (λ (k : ℕ). AreTurns k before after (searches + more)) one (at, searches, more, h, turn, refl)

pub turns_all : (before after : Session) (i n searches : ℕ) → AreTurns i before after searches → i ≤ n → n ≤ i → AreTurns n before after searches
turns_all before after i n searches h few past = let same : i ≡ n = omega (arith, few, past) in subst (λ (k : ℕ). AreTurns k before after searches) same h

-- with one turn more there are still few of both
pub turned_few : (t : Tables) (p : ℕ → Bool) (i dips searches one more : ℕ) → IsValid t → AreTurned p (length t.meters) i dips searches → one ≤ more → more ≤ 2
    → (dips + one < 4294967296) × (searches + more < 4294967296)
turned_few t p i dips searches one more v h less two =
    let rows = few_meters t v in
    let least = h.least in
    let most = h.most in
    let few = h.few in
    (omega (arith, rows, least, most, few, less, two), omega (arith, rows, most, few, two))

-- which are the searches of a trial
pub searches_are : (before after : Session) (dips searches : ℕ) → AreTurns (length before.tables.meters) before after searches → dips ≡ dips_of before.tables → dips ≤ searches
    → searches ≤ edits_of before.tables → AreSearches before after searches
searches_are before after dips searches turns is least most = record { turns = turns; least = subst (λ (k : ℕ). k ≤ searches) is least; most = most }

-- a count that rose by so many
pub rose_by : (before now more : ℕ) → now ≡ before + more → more ≡ now - before
rose_by before now more e = omega (arith, e)

-- the same of the islands, of which none is counted but by a bus
pub record AreCounted (p : ℕ → Bool) (n i count : ℕ) : Type 0 where
  pub counted : count + left p i n ≡ length (filter p (range_with_len 0 n))
  pub few : count ≤ i

module _ (p : ℕ → Bool) (n : ℕ) where
  pub counted_none : AreCounted p n 0 0
  counted_none = let a = left_all p n in record { counted = omega (arith, a); few = omega arith }

  pub counted_yes : (i count : ℕ) → AreCounted p n i count → i < n → p i ≡ true → AreCounted p n (i + 1) (count + 1)
  counted_yes i count h low passes =
      let c = h.counted in
      let f = h.few in
      let s = left_step p i n low ∙ ap (λ (b : Bool). (if b then 1 else 0) + left p (i + 1) n) passes in
      record { counted = omega (arith, c, s); few = omega (arith, f) }

  pub counted_no : (i count : ℕ) → AreCounted p n i count → i < n → p i ≡ false → AreCounted p n (i + 1) count
  counted_no i count h low fails =
      let c = h.counted in
      let f = h.few in
      let s = left_step p i n low ∙ ap (λ (b : Bool). (if b then 1 else 0) + left p (i + 1) n) fails in
      record { counted = omega (arith, c, s); few = omega (arith, f) }

  pub counted_all : (i count : ℕ) → AreCounted p n i count → n ≤ i → count ≡ length (filter p (range_with_len 0 n))
  counted_all i count h past =
      let c = h.counted in
      let none = left_none p i n past in
      omega (arith, c, none)

pub islands_are_counted : (t : Tables) → length (filter (is_first_of_island t) (range_with_len 0 (case_bus_count t))) ≡ island_count t
unfolding island_count
islands_are_counted t = refl

pub dips_are_counted : (t : Tables) → length (filter (is_dip t) (range_with_len 0 (length t.meters))) ≡ dips_of t
unfolding dip_meters
dips_are_counted t = refl

-- a meter that goes and comes back leaves the rows as they were
regained_rows : (rows : List Meter) (at : ℕ) → All (λ (row : Meter). row.inservice ≡ true) rows
    → changed_at (λ (row : Meter). record row { inservice = true }) at (changed_at (λ (row : Meter). record row { inservice = false }) at rows) ≡ rows
unfolding changed_at
regained_rows [] at h = refl
regained_rows (row ∷ rows) zero h = ap (λ (b : Bool). record row { inservice = b } ∷ rows) (sym (All-head (λ (r : Meter). r.inservice ≡ true) row rows h))
regained_rows (row ∷ rows) (suc at) h = ap (λ xs. row ∷ xs) (regained_rows rows at (All-tail (λ (r : Meter). r.inservice ≡ true) row rows h))

pub regained_case : (t : Tables) (at : ℕ) → AreInService t → with_meter_inservice (with_meter_inservice t at false) at true ≡ t
regained_case t at h = ap (λ (rows : List Meter). record t { meters = rows }) (regained_rows t.meters at h)

-- and as many of them in between
pub rows_lost : (t : Tables) (at : ℕ) → length (with_meter_inservice t at false).meters ≡ length t.meters
rows_lost t at = length-changed (λ (row : Meter). record row { inservice = false }) t.meters at

-- so there are at most as many dips as edits
pub dips_few : (t : Tables) → dips_of t ≤ edits_of t
unfolding dip_meters
dips_few t =
    let few = filter_few (is_dip t) (range_with_len 0 (length t.meters)) in
    omega (arith, few, length-range_with_len 0 (length t.meters))

-- where the rank was lower, a meter that comes back takes a search
pub turn_searched : (u w : Tables) (kept after : Assignment) (low rank searches : ℕ) → AreLongest u kept → IsRankOf u low → IsRepaired w kept after rank searches → low < rank → 1 ≤ searches
turn_searched u w kept after low rank searches longest is_low repaired below =
    let best = longest.longest in
    let few = is_low.none_longer best.longest best.assigns in
    let long = best.long in
    let standing_few = filter_few (is_still (case_branches w) (case_meters w)) (pairs kept) in
    let least = repaired.least in
    omega (arith, few, long, standing_few, least, below)

-- the counts of the network that is at hand
pub counts_now : (t : Tables) (n : Network) (rank : ℕ) → n ≡ network_of t → rank ≡ case_rank t → counts_text n rank ≡ counts_text (network_of t) (case_rank t)
counts_now t n rank same r = ap (λ (x : Network). counts_text x rank) same ∙ ap (counts_text (network_of t)) r

-- the text of what was found
pub trial_is : (rows seed : ℕ) (t u : Tables) (islands dips searches : ℕ) → u ≡ t → islands ≡ island_count t → dips ≡ dips_of t
    → trial_line rows seed ++ (counts_text (network_of u) (case_rank u) ++ totals_text islands dips (edits_of u) searches) ≡ trial_text rows seed t searches
unfolding trial_text
trial_is rows seed t u islands dips searches same i d =
    ap (λ (x : Tables). trial_line rows seed ++ (counts_text (network_of x) (case_rank x) ++ totals_text islands dips (edits_of x) searches)) same
    ∙ (ap (λ (k : ℕ). trial_line rows seed ++ (counts_text (network_of t) (case_rank t) ++ totals_text k dips (edits_of t) searches)) i
    ∙ ap (λ (k : ℕ). trial_line rows seed ++ (counts_text (network_of t) (case_rank t) ++ totals_text (island_count t) k (edits_of t) searches)) d)
