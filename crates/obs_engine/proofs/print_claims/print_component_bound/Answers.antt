use Rattle.std.proofs.Common.{◌∙◌, ◌<◌, All, List, ℕ, length, ap, subst, sym, arith}
use Rattle.obs_case.specs.Tables.{Tables}
use Rattle.obs_network.specs.Network.{case_component_count}
use Rattle.obs_report.specs.Meters.{bound_text}
use Rattle.obs_engine.specs.Asks.{bound_claim}
use Rattle.obs_engine.proofs.Asked.{appends_as, bound_is}
use Rattle.obs_network.proofs.OfCase.{count_of}
use Rattle.obs_engine.proofs.OfNetwork.{bound_below}
use Rattle.obs_engine.proofs.print_claims.print_component_bound.Goals as goal

pub print_bound-requires-clause-component : goal.print_bound-requires-clause-component
print_bound-requires-clause-component g c =
    let n = count_of c.network.result.now c.find_bound.new.self.tables c.network.ensures.network in
    let same = ap (λ (t : Tables). case_component_count t) (c.find_bound.ensures.tables ∙ c.find_critical.ensures.tables) in
    let low = c.requires.component in
    omega (arith, n, same, low)

pub print_bound-requires-clause-inside : goal.print_bound-requires-clause-inside
print_bound-requires-clause-inside g c =
    subst (λ (t : Tables). All (λ m. m < length t.meters) c.found_bound-bound.result.inside.now) (sym c.present.ensures.case)
    (subst (λ (xs : List ℕ). All (λ m. m < length c.find_bound.new.self.tables.meters) xs) (sym c.found_bound-bound.ensures.inside) (bound_below c.find_bound.new.self.tables c.args.c))

pub returns-clause-appends : goal.returns-clause-appends
returns-clause-appends g c =
    let b = c.found_bound-bound in
    appends_as
    (ap (λ (t : Tables). bound_text t c.args.c b.result.inside.now b.result.rank b.result.outside) c.present.ensures.case
    ∙ (bound_is c.find_bound.new.self.tables c.args.c b.result.rank b.result.outside b.result.inside.now b.ensures.inside b.ensures.rank b.ensures.outside
    ∙ ap (λ (t : Tables). bound_claim t c.args.c) (c.find_bound.ensures.tables ∙ c.find_critical.ensures.tables)))
    c.print_bound.ensures.appends
