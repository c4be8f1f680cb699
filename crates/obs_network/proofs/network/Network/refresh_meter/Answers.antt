use Rattle.std.proofs.Common.{◌≡◌, ◌∙◌, ℕ, sym, ap, ◌<◌, length, get_or, set, subst, arith}
use Rattle.obs_meter.specs.declared.Touch.TheVariants.{Nothing}
use Rattle.std.proofs.lemmas.List.Elements.{All-get_or}
use Rattle.obs_meter.specs.Held.{Meters}
use Rattle.obs_meter.specs.inner.Touches.{IsInRange}
use Rattle.obs_case.specs.Tables.{Tables}
use Rattle.obs_network.specs.contracts.network.Network.{the_view}
use Rattle.obs_network.specs.Network.{Network, case_meters, case_offered}
use Rattle.obs_network.proofs.Items.{meters-in_range, offered-in_range}
use Rattle.obs_network.proofs.OfCase.{length-case_meters}
use Rattle.obs_network.proofs.RefreshedMeter.{AreAfter, length-lists_of, lists-set, meter_edited, with_touch}
use Rattle.obs_network.proofs.network.Network.refresh_meter.Goals as goal

pub change_item-requires : goal.change_item-requires
change_item-requires c =
    let f = meter_edited c.args.self.now c.args.m c.args.case.now c.requires.before c.requires.meter in
    let is = c.self.view_is in
    record {
      buses = ap (λ (x : Network). x.buses.buses) is ∙ f.buses;
      count = ap (λ (x : Network). x.buses.count) is ∙ f.count;
      vertices = ap (λ (x : Network). x.graph.vertices) is ∙ f.vertices;
      ends = ap (λ (x : Network). x.graph.ends) is ∙ f.ends;
      meter = c.requires.meter;
      meters = subst (λ (x : Network). c.args.m < length x.meters.touches) (sym is) f.item;
      offered = subst (λ (x : Network). c.args.m < length x.offered.touches) (sym is) f.item_offered;
    }

-- what the meters and the items touch after
of_meters : (n : Network) (m : ℕ) (after : Tables) (s : Network) → s ≡ n → AreAfter n after m → (i : Meters) → i ≡ record s.meters { touches = set s.meters.touches m (get_or (case_meters after) m Nothing) } → i.touches ≡ case_meters after
of_meters n m after s is f i e = ap (λ (x : Meters). x.touches) e ∙ ap (λ (x : Network). set x.meters.touches m (get_or (case_meters after) m Nothing)) is ∙ f.meters

of_offered : (n : Network) (m : ℕ) (after : Tables) (s : Network) → s ≡ n → AreAfter n after m → (i : Meters) → i ≡ record s.offered { touches = set s.offered.touches m (get_or (case_meters after) m Nothing) } → i.touches ≡ case_offered after
of_offered n m after s is f i e = ap (λ (x : Meters). x.touches) e ∙ ap (λ (x : Network). set x.offered.touches m (get_or (case_meters after) m Nothing)) is ∙ f.offered

pub kind-touch-requires : goal.kind-touch-requires
kind-touch-requires c =
    let f = meter_edited c.args.self.now c.args.m c.args.case.now c.requires.before c.requires.meter in
    let touches = of_meters c.args.self.now c.args.m c.args.case.now (the_view c.self.inside) c.self.view_is f c.change_item.new.meters c.change_item.ensures.meters in
    record { item = omega (arith, c.requires.meter, length-case_meters c.args.case.now, ap length touches) }

pub set-requires-clause-meter : goal.set-requires-clause-meter
set-requires-clause-meter c =
    let f = meter_edited c.args.self.now c.args.m c.args.case.now c.requires.before c.requires.meter in
    let item = subst (λ (x : Network). c.args.m < length x.meters.touches) (sym c.self.view_is) f.item in
    omega (arith, item, ap length c.self.invariant.lists, length-lists_of c.self.inside.components c.self.inside.graph c.self.inside.meters)

pub set-requires-clause-in_range : goal.set-requires-clause-in_range
set-requires-clause-in_range c =
    let f = meter_edited c.args.self.now c.args.m c.args.case.now c.requires.before c.requires.meter in
    let is = c.self.view_is in
    let g = c.self.inside.graph in
    let touches = of_meters c.args.self.now c.args.m c.args.case.now (the_view c.self.inside) is f c.change_item.new.meters c.change_item.ensures.meters in
    let all = meters-in_range c.args.case.now c.change_item.ensures.valid g (ap (λ (x : Network). x.graph.vertices) is ∙ f.vertices) (ap (λ (x : Network). x.graph.ends) is ∙ f.ends) in
    let low : c.args.m < length (case_meters c.args.case.now) = omega (arith, c.requires.meter, length-case_meters c.args.case.now) in
    subst (IsInRange g) (sym (c.kind-touch.ensures.kind ∙ ap (λ l. get_or l c.args.m Nothing) touches)) (All-get_or (IsInRange g) (case_meters c.args.case.now) c.args.m Nothing low all)

pub invariant_of-self : goal.invariant_of-self
invariant_of-self c =
    let f = meter_edited c.args.self.now c.args.m c.args.case.now c.requires.before c.requires.meter in
    let is = c.self.view_is in
    let v = c.self.invariant in
    let g = c.self.inside.graph in
    let vertices = ap (λ (x : Network). x.graph.vertices) is ∙ f.vertices in
    let ends = ap (λ (x : Network). x.graph.ends) is ∙ f.ends in
    let items = c.change_item.ensures in
    let listed = c.set.ensures in
    let most = ap (λ (i : Meters). i.most) items.meters in
    let most_offered = ap (λ (i : Meters). i.most) items.offered in
    record {
      buses_room = v.buses_room;
      vertices_room = v.vertices_room;
      branches_room = omega (arith, v.branches_room, most_offered);
      kept_len = omega (arith, v.kept_len, most_offered);
      kept_ends = v.kept_ends;
      touches_len = v.touches_len ∙ sym most_offered;
      fewer = omega (arith, v.fewer, most, most_offered);
      search_room = v.search_room;
      sides_room = v.sides_room;
      vertices = v.vertices;
      of_buses = v.of_buses;
      meters_in_range = rw (of_meters c.args.self.now c.args.m c.args.case.now (the_view c.self.inside) is f c.change_item.new.meters items.meters) (meters-in_range c.args.case.now c.change_item.ensures.valid g vertices ends);
      offered_in_range = rw (of_offered c.args.self.now c.args.m c.args.case.now (the_view c.self.inside) is f c.change_item.new.offered items.offered) (offered-in_range c.args.case.now c.change_item.ensures.valid g vertices ends);
      listed_meters = omega (arith, v.listed_meters, listed.most_meters, most);
      listed_components = omega (arith, v.listed_components, listed.most_components);
      listed_count = listed.components ∙ v.listed_count;
      lists = lists-set c.self.inside.components g c.self.inside.meters c.change_item.new.meters c.args.m (get_or (case_meters c.args.case.now) c.args.m Nothing) c.kind-touch.result
          (subst (λ (x : Network). c.args.m < length x.meters.touches) (sym is) f.item) items.meters c.kind-touch.ensures.kind c.self.inside.live_meters.lists c.set.new.self.lists v.lists listed.lists;
    }

pub returns : goal.returns
returns c =
    let f = meter_edited c.args.self.now c.args.m c.args.case.now c.requires.before c.requires.meter in
    let items = c.change_item.ensures in
    let touch = get_or (case_meters c.args.case.now) c.args.m Nothing in
    record { whole = rw (items.meters, items.offered) (ap (λ (x : Network). with_touch x c.args.m touch) c.self.view_is ∙ f.whole) }
