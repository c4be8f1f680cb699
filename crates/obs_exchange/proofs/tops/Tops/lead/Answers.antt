use Rattle.std.proofs.Common.{◌∙◌, sym, arith, length-set}
use Rattle.obs_exchange.proofs.Clearing.{AreLedFrom-more}
use Rattle.obs_exchange.proofs.tops.Tops.lead.Goals as goal

pub invariant_of-self : goal.invariant_of-self
invariant_of-self c =
    let s = c.self.inside in
    let i = c.self.invariant in
    let t = c.if-self-len.true in
    let n = c.len.ensures in
    let ok = s.list.ok.0 in
    let set = length-set s.list.items s.count c.args.v in
    record {
      same_length = i.same_length ∙ sym (length-set s.tops.items c.args.v c.args.to);
      numbers = i.numbers;
      count = omega (arith, t, n, ok, set);
      listed = λ f. AreLedFrom-more s.tops.items s.list.items s.count c.args.v c.args.to (omega (arith, t, n, ok)) (i.listed f);
    }
