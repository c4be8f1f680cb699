-- The islands of a case, by the first vertex of each.
use Rattle.std.proofs.Common.{◌≡◌, ◌≢◌, ◌↔◌, ℕ, ◌+◌, ◌<◌, ◌≤◌, ◌∷◌, ◌++◌, length, refl, sym, ◌∙◌, subst, arith}
use Rattle.std.specs.Prelude.{slice_index}
use Rattle.std.proofs.lemmas.List.FromFn.{get_or-map-range_with_len}
use Rattle.obs_case.specs.Tables.{Tables}
use Rattle.obs_matroid.specs.Lists.{In}
use Rattle.obs_meter.specs.Assignments.{IsRhoAt}
use Rattle.obs_meter.specs.Spanned.{ends_at}
use Rattle.obs_meter.specs.Touches.{touch_at}
use Rattle.obs_islands.specs.Firsts.{island_first}
use Rattle.obs_islands.specs.inner.Firsts.{LiesBetweenAt}
use Rattle.obs_islands.specs.Islands.{IsFirstIn}
use Rattle.obs_islands.proofs.Between.{between_islands_raise, ends_are}
use Rattle.obs_islands.proofs.Firsts.{first_in, first_same, partition}
use Rattle.obs_network.specs.Network.{case_branches, case_meters, case_offered, case_rows, case_vertex_count}
use Rattle.obs_network.specs.Observable.{case_live_meters}
use Rattle.obs_network.specs.Switched.{case_buses}
use Rattle.obs_network.specs.Touching.{candidate_touches}
use Rattle.obs_network.proofs.OfCase.{case_branches-are, length-case_meters}
use Rattle.obs_edit.specs.Answers.{case_islands}
use Rattle.obs_edit.specs.Laws.{CandidatesBetweenIslandsRaise, IslandsAreNamed, IslandsBeginWithBuses, IslandsTellApart}

-- the name of a vertex's island
name_is : (t : Tables) (u : ℕ) → u < case_vertex_count t → slice_index (case_islands t) u ≡ island_first (case_vertex_count t) (case_branches t) (case_meters t) u
unfolding case_islands
name_is t u l = get_or-map-range_with_len (island_first (case_vertex_count t) (case_branches t) (case_meters t)) 0 (case_vertex_count t) u u 0 l (omega arith)

pub islands_are_named : IslandsAreNamed
islands_are_named t u v l =
    let n = case_vertex_count t in
    let ends = case_branches t in
    let touches = case_meters t in
    let ok = case_branches-are t v in
    let s = partition n ends touches ok u l in
    (s.0, s.1, subst (λ (x : ℕ). IsFirstIn n s.0 x) (sym (name_is t u l)) (first_in n ends touches ok u l s.0 s.1.island s.1.has))

pub islands_begin_with_buses : IslandsBeginWithBuses
islands_begin_with_buses t u v l =
    let low : u < case_vertex_count t = omega (arith, l) in
    let s = islands_are_named t u v low in
    let has = s.1.has in
    let first = s.2.first u low has in
    omega (arith, l, first)

pub islands_tell_apart : IslandsTellApart
islands_tell_apart t u w v lu lw =
    let same = first_same (case_vertex_count t) (case_branches t) (case_meters t) (case_branches-are t v) u w lu lw in (
      (λ e. same.0 (sym (name_is t u lu) ∙ (e ∙ name_is t w lw))),
      (λ s. name_is t u lu ∙ (same.1 s ∙ sym (name_is t w lw))),
    )

-- a branch lies between two islands exactly where its ends are named differently
named_apart : (t : Tables) (e : ℕ) → ((ends_at (case_branches t) e).0 < case_vertex_count t) × ((ends_at (case_branches t) e).1 < case_vertex_count t)
    → LiesBetweenAt (case_vertex_count t) (case_branches t) (case_meters t) e
    ↔ (slice_index (case_islands t) (ends_at (case_branches t) e).0 ≢ slice_index (case_islands t) (ends_at (case_branches t) e).1)
named_apart t e (l, m) =
    let a = (ends_at (case_branches t) e).0 in
    let b = (ends_at (case_branches t) e).1 in (
      (λ apart same. apart (sym (name_is t a l) ∙ (same ∙ name_is t b m))),
      (λ apart same. apart (name_is t a l ∙ (same ∙ sym (name_is t b m)))),
    )

offered_are : (t : Tables) → case_offered t ≡ case_meters t ++ candidate_touches (case_rows t) (case_buses t) (length t.meters) t.candidates
unfolding case_offered case_meters
offered_are t = refl

pub candidates_between_islands : CandidatesBetweenIslandsRaise
candidates_between_islands t c r v behind rank =
    let n = case_vertex_count t in
    let ends = case_branches t in
    let touches = case_meters t in
    let more = candidate_touches (case_rows t) (case_buses t) (length t.meters) t.candidates in
    let ok = case_branches-are t v in
    let past : length touches ≤ c = omega (arith, behind, length-case_meters t) in
    let same = offered_are t in
    let law = between_islands_raise n ends touches more c r ok past rank in
    let low : (e : ℕ) → In e (touch_at ends (case_offered t) c) → ((ends_at ends e).0 < n) × ((ends_at ends e).1 < n) = λ e i.
    ends_are n ends touches more c ok past e (subst (λ l. In e (touch_at ends l c)) same i) in (
      λ q.
          let b = law.0 (subst (λ l. IsRhoAt ends l (c ∷ case_live_meters t) (r + 1)) same q) in
          let i = subst (λ l. In b.0 (touch_at ends l c)) (sym same) b.1 in
          (b.0, i, (named_apart t b.0 (low b.0 i)).0 b.2),
      λ b.
          let i = subst (λ l. In b.0 (touch_at ends l c)) same b.1 in
          subst (λ l. IsRhoAt ends l (c ∷ case_live_meters t) (r + 1)) (sym same) (law.1 (b.0, i, (named_apart t b.0 (low b.0 b.1)).1 b.2)),
    )
