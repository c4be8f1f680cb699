use Rattle.std.specs.Prelude.{◌<◌, true}
use Rattle.std.proofs.Common.{◌≡◌, Bool, List, length, ap, sym, subst, ◌∙◌, arith}
use Rattle.obs_graph.proofs.Stored.{written_back}
use Rattle.obs_meter.proofs.Live.{live_low}
use Rattle.obs_assign.specs.inner.Assignment.{has_flag}
use Rattle.obs_exchange.specs.declared.Sources.{Sources}
use Rattle.obs_exchange.specs.inner.Noting.{Noted}
use Rattle.obs_exchange.specs.inner.Setting.{IsSourceIn, end_of, first_of}
use Rattle.obs_exchange.proofs.noted.Noted.put_sources.Goals as goal

pub new-over-requires : goal.new-over-requires
new-over-requires c = record { stands = c.requires.stands; in_range = c.requires.in_range; low = omega arith }

pub put_sources-requires : goal.put_sources-requires
put_sources-requires c =
    let n = c.new-over.ensures.over in
    let flags = c.deref_mut.ensures.value in
    record {
      first = ap first_of n.sources;
      end = ap (λ (s : Sources). end_of s (length c.new-over.result.touches)) n.sources;
      room = omega (arith, c.requires.room, ap length n.touches, ap length flags, ap (λ (x : Noted). length x.flags) c.self.view_is);
      blocks = rw (flags, c.deref_mut-2.ensures.value) c.self.invariant;
    }

pub invariant_of-self : goal.invariant_of-self
invariant_of-self c =
    let ins = c.self.inside in
    let f = c.put_sources in
    let flags : length f.new.flags ≡ length ins.flags.items = f.auto.flags ∙ ap length c.deref_mut.ensures.value in
    let blocks : length f.new.blocks ≡ length ins.blocks.items = f.auto.blocks ∙ ap length c.deref_mut-2.ensures.value in
    rw (written_back ins.flags.len f.new.flags ins.flags.items flags ins.flags.ok.0, written_back ins.blocks.len f.new.blocks ins.blocks.items blocks ins.blocks.ok.0) f.ensures.blocks

pub returns : goal.returns
returns c =
    let ins = c.self.inside in
    let f = c.put_sources in
    let n = c.new-over.ensures.over in
    let flags : length f.new.flags ≡ length ins.flags.items = f.auto.flags ∙ ap length c.deref_mut.ensures.value in
    let back = written_back ins.flags.len f.new.flags ins.flags.items flags ins.flags.ok.0 in
    record {
      noted = λ m s.
          let low : m < length c.new-over.result.touches = rw n.touches (live_low c.args.g.now.ends c.args.ms.now.touches m s.0) in
          let source : IsSourceIn c.new-over.result m = rw (n.graph, n.touches, n.assignment, n.sources) s in
          subst (λ (x : List Bool). has_flag x m ≡ true) (sym back) (f.ensures.sources m low source);
      length = ap length back ∙ flags ∙ ap (λ (x : Noted). length x.flags) c.self.view_is;
    }
