-- What a contract sees of a `Case`.
use Rattle.obs_case.specs.declared.case.Case.TheInside.{Inside}
use Rattle.obs_case.specs.Tables.{Tables}

-- the rows of the five sets, in their order, and the limit
abbrev pub tables_of : Inside → Tables
tables_of c =
    record {
      nodes = c.nodes.keys;
      switches = c.switches.keys;
      branches = c.branches.keys;
      meters = c.meters.keys;
      candidates = c.candidates.keys;
      most = c.most;
    }
