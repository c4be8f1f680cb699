use Rattle.obs_matroid.proofs.Partners.{is_partner_is, newly_critical, one_class, partners_apart, partners_both_ways, partners_in, partners_of_unpaired, partners_together}
use Rattle.obs_matroid.proofs.laws.partners.Goals as goal

pub returns-clause-computed : goal.returns-clause-computed
returns-clause-computed c = λ g laws touch M d m k. (is_partner_is g laws touch M d m k, λ p. let i = partners_in g laws touch M d m k p in (partners_apart g laws touch M d m k p, i.0, i.1))

pub returns-clause-newly_critical : goal.returns-clause-newly_critical
returns-clause-newly_critical c = λ g laws touch M d m h k. newly_critical g laws touch M d m k h

pub returns-clause-together : goal.returns-clause-together
returns-clause-together c = λ g laws touch M d. (partners_both_ways g laws touch M d, partners_together g laws touch M d)

pub returns-clause-classes : goal.returns-clause-classes
returns-clause-classes c = λ g laws touch M d. one_class g laws touch M d

pub returns-clause-of_unpaired : goal.returns-clause-of_unpaired
returns-clause-of_unpaired c = λ g laws touch M d. partners_of_unpaired g laws touch M d
