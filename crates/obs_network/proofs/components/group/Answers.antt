use Rattle.std.proofs.Common.{◌≡◌, ◌∙◌, ◌++◌, ◌<◌, ℕ, List, All, ap, drop, length, subst, sym, take}
use Rattle.std.proofs.lemmas.List.FromFn.{length-map-range_with_len}
use Rattle.obs_graph.specs.declared.Ends.{Ends}
use Rattle.obs_graph.specs.Positions.{present}
use Rattle.obs_network.specs.Components.{component_of, components_of}
use Rattle.obs_network.proofs.Fronts.{front}
use Rattle.obs_network.proofs.components.group.Goals as goal

-- the numbers of the buses, read back
kept : (n : ℕ) (live : List Ends) (numbers rest : List ℕ) → numbers ≡ components_of n live → take n (numbers ++ rest) ≡ numbers
kept n live numbers rest made = front n numbers rest (sym (ap (λ l. length l) made ∙ length-map-range_with_len (component_of live) 0 n))

pub returns-clause-numbers : goal.returns-clause-numbers
returns-clause-numbers c = kept (length c.args.firsts.now) (present c.args.live.now) c.number-count.new.numbers (drop (length c.args.firsts.now) c.args.numbers.now) c.number-count.ensures.numbers ∙ c.number-count.ensures.numbers

pub returns-clause-count : goal.returns-clause-count
returns-clause-count c = c.number-count.ensures.count

pub returns-clause-first_buses : goal.returns-clause-first_buses
returns-clause-first_buses c = c.number-count.ensures.first_buses

pub returns-clause-few : goal.returns-clause-few
returns-clause-few c = c.number-count.ensures.few

pub returns-clause-below : goal.returns-clause-below
returns-clause-below c = subst (All (λ k. k < c.number-count.result)) (sym (kept (length c.args.firsts.now) (present c.args.live.now) c.number-count.new.numbers (drop (length c.args.firsts.now) c.args.numbers.now) c.number-count.ensures.numbers)) c.number-count.ensures.below

pub returns-clause-firsts : goal.returns-clause-firsts
returns-clause-firsts c = c.number-count.ensures.firsts
