use Rattle.obs_cert.proofs.claims.flaw_of.Goals as goal

pub returns-in-Cost-clause-flaw : goal.returns-in-Cost-clause-flaw
returns-in-Cost-clause-flaw c = rw c.in-Cost.is c.plan.ensures.flaw

pub tree-requires : goal.tree-requires
tree-requires c = record { ready = c.requires.ready }

pub bound-requires : goal.bound-requires
bound-requires c = record { ready = c.requires.ready }

pub plan-requires-clause-keys : goal.plan-requires-clause-keys
plan-requires-clause-keys c = c.requires.keys

pub plan-requires-clause-ready : goal.plan-requires-clause-ready
plan-requires-clause-ready c = c.requires.ready

pub shortfall-requires-clause-live : goal.shortfall-requires-clause-live
shortfall-requires-clause-live c = c.requires.live

pub shortfall-requires-clause-ready : goal.shortfall-requires-clause-ready
shortfall-requires-clause-ready c = c.requires.ready

pub returns-in-Tree-clause-flaw : goal.returns-in-Tree-clause-flaw
returns-in-Tree-clause-flaw c = rw c.in-Tree.is c.tree.ensures.flaw

pub returns-in-Bound-clause-flaw : goal.returns-in-Bound-clause-flaw
returns-in-Bound-clause-flaw c = rw c.in-Bound.is c.bound.ensures.flaw

pub returns-in-Shortfall-clause-flaw : goal.returns-in-Shortfall-clause-flaw
returns-in-Shortfall-clause-flaw c = rw c.in-Shortfall.is c.shortfall.ensures.flaw

pub returns-in-Tree-clause-ready : goal.returns-in-Tree-clause-ready
returns-in-Tree-clause-ready c = c.tree.ensures.ready

pub returns-in-Bound-clause-ready : goal.returns-in-Bound-clause-ready
returns-in-Bound-clause-ready c = c.bound.ensures.ready

pub returns-in-Cost-clause-ready : goal.returns-in-Cost-clause-ready
returns-in-Cost-clause-ready c = c.plan.ensures.ready

pub returns-in-Shortfall-clause-ready : goal.returns-in-Shortfall-clause-ready
returns-in-Shortfall-clause-ready c = c.shortfall.ensures.ready
