use Rattle.std.proofs.Common.{◌≡◌, ◌++◌, ◌∙◌, ◌≤◌, ℕ, List, length, take, drop, sym, ap, subst, arith}
use Rattle.std.specs.Prelude.{filter}
use Rattle.std.specs.List.{range_with_len}
use Rattle.std.proofs.lemmas.List.{length-take-le}
use Rattle.obs_graph.proofs.Stored.{written_back}
use Rattle.obs_placement.specs.inner.Choosing.{AreFirstBelow, Laying}
use Rattle.obs_placement.specs.inner.Layers.{is_added}
use Rattle.obs_placement.specs.inner.Order.{IsOrder}
use Rattle.obs_placement.specs.inner.Taking.{since_at}
use Rattle.obs_placement.proofs.laying.Laying.list_next.Goals as goal

pub returns-clause-listed : goal.returns-clause-listed
returns-clause-listed c = λ since from order first rise.
    let f = c.list_next-self-inside in
    let v = c.self.inside.inside in
    let added = filter (is_added since from c.args.to) (range_with_len 0 (length since)) in
    let keys : take c.self.inside.items c.deref.result.now ≡ c.args.self.now.keys = ap (take c.self.inside.items) c.deref.ensures.value ∙ ap (λ (l : Laying). l.keys) c.self.view_is in
    let upto : length c.args.self.now.inside ≡ c.self.inside.upto =
    ap (λ (l : Laying). length l.inside) (sym c.self.view_is) ∙ length-take-le c.self.inside.upto v.items (let a = c.self.invariant.upto in let b = c.self.invariant.items in omega (arith, a, b)) in
    let same : length f.new.inside ≡ length v.items = f.auto.inside ∙ ap length c.deref_mut.ensures.value in
    let back : take v.len (f.new.inside ++ drop (length f.new.inside) v.items) ≡ f.new.inside = written_back v.len f.new.inside v.items same v.ok.0 in
    let here = f.ensures.listed since from
    (subst (λ (ks : List (ℕ × ℕ)). IsOrder (since_at since) (length since) ks) (sym keys) order)
    (subst (λ (p : ℕ). AreFirstBelow since (take c.self.inside.items c.deref.result.now) p from) upto (subst (λ (ks : List (ℕ × ℕ)). AreFirstBelow since ks (length c.args.self.now.inside) from) (sym keys) first))
    rise ∙ ap (λ xs. take c.self.inside.upto xs ++ added) c.deref_mut.ensures.value in
    rw (back, here, same) (ap (λ (l : Laying). record l { inside = l.inside ++ added }) c.self.view_is)

pub returns-clause-below : goal.returns-clause-below
returns-clause-below c = λ since from order first rise.
    let f = c.list_next-self-inside in
    let v = c.self.inside.inside in
    let keys : take c.self.inside.items c.deref.result.now ≡ c.args.self.now.keys = ap (take c.self.inside.items) c.deref.ensures.value ∙ ap (λ (l : Laying). l.keys) c.self.view_is in
    let upto : length c.args.self.now.inside ≡ c.self.inside.upto =
    ap (λ (l : Laying). length l.inside) (sym c.self.view_is) ∙ length-take-le c.self.inside.upto v.items (let a = c.self.invariant.upto in let b = c.self.invariant.items in omega (arith, a, b)) in
    let same : length f.new.inside ≡ length v.items = f.auto.inside ∙ ap length c.deref_mut.ensures.value in
    let back : take v.len (f.new.inside ++ drop (length f.new.inside) v.items) ≡ f.new.inside = written_back v.len f.new.inside v.items same v.ok.0 in
    let here = f.ensures.below since from
    (subst (λ (ks : List (ℕ × ℕ)). IsOrder (since_at since) (length since) ks) (sym keys) order)
    (subst (λ (p : ℕ). AreFirstBelow since (take c.self.inside.items c.deref.result.now) p from) upto (subst (λ (ks : List (ℕ × ℕ)). AreFirstBelow since ks (length c.args.self.now.inside) from) (sym keys) first))
    rise in
    let few : f.result ≤ length f.new.inside =
    let a = f.ensures.upto in let b = c.self.invariant.items in let k = c.self.invariant.keys in let e = ap length c.deref.ensures.value in
    let t = length-take-le c.self.inside.items c.deref.result.now (omega (arith, b, k, e)) in omega (arith, a, b, t, same) in
    rw (back, length-take-le f.result f.new.inside few, ← c.deref.ensures.value) here
