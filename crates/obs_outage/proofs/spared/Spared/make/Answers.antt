use Rattle.std.proofs.Common.{Bool, List, ℕ, length, false, sym, ap, ◌∙◌}
use Rattle.std.proofs.lemmas.List.{length-replicate}
use Rattle.obs_network.proofs.OfCase.{length-case_branches}
use Rattle.obs_outage.proofs.spared.Spared.make.Goals as goal

pub returns : goal.returns
returns c =
    let flags = ap (λ (bs : List Bool). length bs) (c.in_ok-vec.ensures.items_if_clones_equal (λ y e. e)) ∙ length-replicate c.position_count-branches.result false in
    let costly = ap (λ (bs : List Bool). length bs) (c.in_ok-vec-2.ensures.items_if_clones_equal (λ y e. e)) ∙ length-replicate c.position_count-branches.result false in
    let fronts = ap (λ (ks : List ℕ). length ks) (c.in_ok-vec-3.ensures.items_if_clones_equal (λ y e. e)) ∙ length-replicate c.vertex_room-vertices.result 0 in
    record {
      room = record {
        branches = flags ∙ (c.position_count-branches.ensures.count ∙ sym (length-case_branches c.args.case.now));
        costly = costly ∙ (c.position_count-branches.ensures.count ∙ sym (length-case_branches c.args.case.now));
        vertices = fronts ∙ c.vertex_room-vertices.ensures.room;
      };
    }
