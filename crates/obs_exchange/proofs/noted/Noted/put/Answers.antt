use Rattle.std.proofs.Common.{◌≡◌, length, ap, ◌∙◌, arith}
use Rattle.obs_graph.proofs.Stored.{written_back}
use Rattle.obs_exchange.specs.inner.Noting.{Noted}
use Rattle.obs_exchange.proofs.noted.Noted.put.Goals as goal

pub put-requires : goal.put-requires
put-requires c =
    let flags = c.deref_mut.ensures.value in
    record {
      m = omega (arith, c.requires.m, ap length flags, ap (λ (x : Noted). length x.flags) c.self.view_is);
      blocks = rw (flags, c.deref_mut-2.ensures.value) c.self.invariant;
    }

pub invariant_of-self : goal.invariant_of-self
invariant_of-self c =
    let ins = c.self.inside in
    let f = c.put in
    let flags : length f.new.flags ≡ length ins.flags.items = f.auto.flags ∙ ap length c.deref_mut.ensures.value in
    let blocks : length f.new.blocks ≡ length ins.blocks.items = f.auto.blocks ∙ ap length c.deref_mut-2.ensures.value in
    rw (written_back ins.flags.len f.new.flags ins.flags.items flags ins.flags.ok.0, written_back ins.blocks.len f.new.blocks ins.blocks.items blocks ins.blocks.ok.0) f.ensures.blocks
