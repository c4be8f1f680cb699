use Rattle.std.proofs.Common.{[], refl, sym, ◌∙◌, arith}
use Rattle.obs_assign.proofs.Slotted.{IsForestAt-nil}
use Rattle.obs_assign.proofs.assignment.Assignment.make.Goals as goal

pub returns : goal.returns
returns c = record { empty = rw c.in_ok-kept.ensures.empty refl }

pub invariant_of-result : goal.invariant_of-result
invariant_of-result c =
    rw c.in_ok-kept.ensures.empty
    (record {
      whole = record {
        paired = record {
          flags = refl;
          holds = record { forest = IsForestAt-nil []; exactly = λ p. ((λ h. absurd cc), (λ i. absurd i)) };
          frozen_have = λ m h. absurd cc;
        };
        meters = omega arith;
        vertices = omega arith;
        positions = omega arith;
      };
      frozen_len = sym c.in_ok-frozen.frozen.ok.0 ∙ c.in_ok-frozen.ensures.len;
      path_len = sym c.in_ok-path.path.ok.0 ∙ c.in_ok-path.ensures.len;
      remaining_len = sym c.in_ok-remaining.remaining.ok.0 ∙ c.in_ok-remaining.ensures.len;
      search_len = c.in_ok-search.ensures.room;
    })
