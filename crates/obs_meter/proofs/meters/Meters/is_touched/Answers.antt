use Rattle.std.proofs.Common.{◌≡◌, ◌<◌, ℕ, List, None, ap, sym, subst, ◌∙◌, eqb, false, inl, inr, true}
use Rattle.std.specs.List.{Contains, list_any}
use Rattle.std.specs.Prelude.{AllPairs, take}
use Rattle.std.proofs.lemmas.Bool.{cases_Bool}
use Rattle.std.proofs.lemmas.List.{get_or_default}
use Rattle.obs_graph.specs.Positions.{branches_at, has_end}
use Rattle.obs_graph.proofs.AtVertex.{at_vertex, positions_from_rise}
use Rattle.obs_meter.specs.declared.Touch.{Touch}
use Rattle.obs_meter.specs.Touches.{touched}
use Rattle.obs_meter.proofs.Touched.{In-from_any, In-take, any-from_In, star_touched}
use Rattle.obs_meter.proofs.meters.Meters.is_touched.Goals as goal

pub is_among-requires-clause-rising : goal.is_among-requires-clause-rising
is_among-requires-clause-rising c =
    subst (λ (xs : List ℕ). AllPairs ◌<◌ xs) (sym c.branches_at.ensures.branches) (positions_from_rise (has_end c.in-Front.at) 0 c.args.g.now.ends)

pub is_among-requires-clause-entry : goal.is_among-requires-clause-entry
is_among-requires-clause-entry c =
    let read = c.ends-in-Front.ensures.ends ∙ get_or_default c.args.g.now.ends c.args.e c.ends-in-Front.result None c.requires.branch in
    let end = ap (has_end c.in-Front.at) (sym read) ∙ (sym c.has_end_at-in-Front.ensures.value ∙ c.if-has_end_at.true) in
    subst (λ (xs : List ℕ). Contains xs c.args.e) (sym c.branches_at.ensures.branches) (at_vertex c.args.g.now.ends c.in-Front.at c.args.e end)

pub returns-in-Star : goal.returns-in-Star
returns-in-Star c =
    let ends = c.args.g.now.ends in
    let read = c.ends-in-Star.ensures.ends ∙ get_or_default ends c.args.e c.ends-in-Star.result None c.requires.branch in
    record {
      touched = c.has_end_at.ensures.value ∙ (ap (has_end c.in-Star.v) read ∙ (star_touched ends c.in-Star.v c.args.e
          ∙ ap (λ (t : Touch). list_any (λ p. eqb p c.args.e) (touched ends t)) c.in-Star.ensures.kind));
    }

pub returns-else-has_end_at : goal.returns-else-has_end_at
returns-else-has_end_at c =
    let ends = c.args.g.now.ends in
    let e = c.args.e in
    let xs = branches_at ends c.in-Front.at in
    let read = c.ends-in-Front.ensures.ends ∙ get_or_default ends e c.ends-in-Front.result None c.requires.branch in
    let no : list_any (λ p. eqb p e) xs ≡ false = sym (star_touched ends c.in-Front.at e) ∙ (ap (has_end c.in-Front.at) (sym read) ∙ (sym c.has_end_at-in-Front.ensures.value ∙ c.if-has_end_at.false)) in
    let none : false ≡ list_any (λ p. eqb p e) (take c.in-Front.count xs) = elim (cases_Bool (list_any (λ p. eqb p e) (take c.in-Front.count xs))) [
      | inl t ↦ let f : list_any (λ p. eqb p e) xs ≡ true = any-from_In xs e (In-take c.in-Front.count xs e (In-from_any (take c.in-Front.count xs) e t)) in absurd (cc (f, no))
      | inr f ↦ sym f
    ] in
    record { touched = c.if-has_end_at.false ∙ (none ∙ ap (λ (t : Touch). list_any (λ p. eqb p e) (touched ends t)) c.in-Front.ensures.kind) }
