use Rattle.std.proofs.Common.{◌≡◌, ◌++◌, false, length, replicate, take, drop, ap, ◌∙◌}
use Rattle.obs_graph.proofs.Stored.{written_back}
use Rattle.obs_placement.specs.inner.Holding.{Known}
use Rattle.obs_placement.specs.inner.Taking.{never}
use Rattle.obs_placement.proofs.known.Known.begin.Goals as goal

pub returns : goal.returns
returns c =
    let o = c.args.offer.now in
    let i = c.self.inside in
    let since = c.forget.new.since in
    let touched = c.unset.new.flags in
    let fronts = c.forget_counts.new.counts in
    let since_len : length since ≡ length i.since.items = c.forget.ensures.count ∙ ap length c.deref_mut.ensures.value in
    let touched_len : length touched ≡ length i.touched.items = c.unset.ensures.count ∙ ap length c.deref_mut-2.ensures.value in
    let fronts_len : length fronts ≡ length i.fronts.items = c.forget_counts.ensures.count ∙ ap length c.deref_mut-3.ensures.value in
    let since_back : take i.since.len (since ++ drop (length since) i.since.items) ≡ since = written_back i.since.len since i.since.items since_len i.since.ok.0 in
    let touched_back : take i.touched.len (touched ++ drop (length touched) i.touched.items) ≡ touched = written_back i.touched.len touched i.touched.items touched_len i.touched.ok.0 in
    let fronts_back : take i.fronts.len (fronts ++ drop (length fronts) i.fronts.items) ≡ fronts = written_back i.fronts.len fronts i.fronts.items fronts_len i.fronts.ok.0 in
    record {
      begun = rw (since_back, touched_back, fronts_back, c.forget.ensures.forgotten, c.unset.ensures.unset, c.forget_counts.ensures.forgotten, c.count.ensures.count, c.positions.ensures.count, c.vertices.ensures.value, since_len, touched_len, fronts_len)
          (ap (λ (k : Known). record k { since = replicate (length o.items.now.touches) never; touched = replicate (length o.graph.now.ends) false; fronts = replicate o.graph.now.vertices 0 }) c.self.view_is);
    }
