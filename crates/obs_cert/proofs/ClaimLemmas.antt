-- The flaw of a claim, where the clauses before are true.
use Rattle.std.proofs.Common.{◌≡◌, ℕ, suc, ◌+◌, ◌-◌, ◌*◌, ◌^◌, ◌<◌, ◌≤◌, ◌||◌, min, Bool, true, false, Option, Some, None, Vec, List, [], ◌∷◌, length, refl, sym, ap, ◌∙◌, subst, arith}
use Rattle.std.specs.Option.{IfNone, IfSome}
use Rattle.std.specs.List.{list_any, sum_by}
use Rattle.std.proofs.lemmas.Bool.{eq-eqb, ne_eqb, lt-ltb, le-ltb, or_parts}
use Rattle.obs_case.specs.Tables.{Tables, has_name, node_names}
use Rattle.obs_matroid.specs.Assignments.{Pair as NumberPair}
use Rattle.obs_cert.specs.declared.flaw.FlawCode.{FlawCode}
use Rattle.obs_cert.specs.declared.flaw.FlawCode.TheVariants.{UnknownName, NotComponent, NotInside, NotTouched, Twice, WrongRank, WrongOutside, NotBelow}
use Rattle.obs_cert.specs.declared.work.Work.{Work}
use Rattle.obs_cert.specs.Claims.{BoundClaim, CostClaim, Layer, ShortfallClaim, TreeClaim}
use Rattle.obs_cert.specs.Flaws.{Listed, bound_clauses, bound_flaw, cost_flaw, costs_clauses, first_true, forest_clauses, layers_clauses, list_clauses, listed_layers, not_below, not_inside, not_touched, outside_of, paired_twice, rank_of_items, runs_on, shortfall_flaw, shows, tree_flaw, twice, unknown_item, unknown_pair, wrong_rank, wrong_outside}
use Rattle.obs_cert.specs.inner.Hubs.{Hubs}
use Rattle.obs_cert.specs.inner.Marks.{AreBelow}
use Rattle.obs_cert.specs.Numbered.{candidate_items, items_of, paired_items, pairs_of}
use Rattle.obs_cert.specs.inner.Ready.{HasRoomForRows, IsReadyFor}
use Rattle.obs_cert.specs.inner.Joins.{AreFree, AreJoined}
use Rattle.obs_cert.specs.inner.Stars.{AreStarRanks}
use Rattle.std.proofs.lemmas.List.{length-map, with_items_is}
use Rattle.std.specs.Vec.{with_items}
use Rattle.obs_cert.specs.Claims.{Item}
use Rattle.obs_cert.specs.Flaws.{outside_of_plan, twice_in_plan, unknown_in_plan}
use Rattle.obs_cert.specs.Numbered.{item_of}
use Rattle.obs_cert.proofs.OutsideLemmas.{outside_is}
use Rattle.obs_meter.specs.Lost.{is_listed}
use Rattle.obs_cert.specs.Scopes.{scope_of, is_below, is_live_item, is_meter_in, is_of_plan, named_component, named_need, names_component, price_at}
use Rattle.obs_cert.specs.inner.Scopes.{OfItems}
use Rattle.obs_network.specs.Network.{Rows, case_needed, rows_of}

pub more_below : (stamp : ℕ) (marks : List ℕ) → AreBelow stamp marks → AreBelow (suc stamp) marks
more_below stamp marks b x = let l = b x in omega (arith, l)

-- after marks of the stamp were made
pub ready_more : (t : Tables) (stamp : ℕ) (w w2 : Work) → IsReadyFor t stamp w
    → length w2.chosen.items ≡ length w.chosen.items → length w2.paired.items ≡ length w.paired.items → length w2.listed.items ≡ length w.listed.items → length w2.taken.items ≡ length w.taken.items
    → w2.ups.items ≡ w.ups.items → w2.moved.items ≡ w.moved.items → w2.stars.items ≡ w.stars.items → w2.hubs ≡ w.hubs → w2.links.items ≡ w.links.items
    → AreBelow (suc stamp) w2.chosen.items → AreBelow (suc stamp) w2.paired.items → AreBelow (suc stamp) w2.listed.items → AreBelow (suc stamp) w2.taken.items → IsReadyFor t (suc stamp) w2
ready_more t stamp w w2 r e1 e2 e3 e4 e5 e6 e7 e8 e9 b1 b2 b3 b4 =
    let m = r.room in
    record {
      room = record {
        chosen = omega (arith, m.chosen, e1);
        paired = omega (arith, m.paired, e2);
        listed = omega (arith, m.listed, e3);
        taken = omega (arith, m.taken, e4);
        ups = omega (arith, m.ups, ap length e5);
        few = omega (arith, m.few, ap length e5);
        moved = omega (arith, m.moved, ap length e5, ap length e6);
        stars = omega (arith, m.stars, ap length e5, ap length e7);
        hubs = omega (arith, m.hubs, ap length e5, ap (λ (h : Hubs). h.room) e8);
        links = omega (arith, m.links, ap length e9);
      };
      chosen = b1;
      paired = b2;
      listed = b3;
      taken = b4;
      clear = rw e5 r.clear;
      known = rw e7 r.known;
      links = rw e9 r.links;
    }

-- what the clauses on the branches say is the whole
pub forest_end : (t : Tables) (pairs : List NumberPair) (need : ℕ) (r : Option FlawCode)
    → IfNone r ((clauses : List (Bool × FlawCode)) → first_true (forest_clauses t pairs need clauses) ≡ first_true clauses)
    → IfSome r (λ code. (clauses : List (Bool × FlawCode)) → first_true (forest_clauses t pairs need clauses) ≡ Some code)
    → r ≡ first_true (forest_clauses t pairs need [])
forest_end t pairs need None none some = sym (none [])
forest_end t pairs need (Some code) none some = sym (some [])

pub tree_nameless : (t : Tables) (c : TreeClaim) → has_name (node_names t) c.component ≡ false → Some UnknownName ≡ tree_flaw t c
tree_nameless t c k = rw k refl

pub tree_unknown : (t : Tables) (c : TreeClaim) → has_name (node_names t) c.component ≡ true → unknown_pair t c.pairs ≡ true → Some UnknownName ≡ tree_flaw t c
tree_unknown t c k u = rw (k, u) refl

pub tree_dead : (t : Tables) (c : TreeClaim) → has_name (node_names t) c.component ≡ true → unknown_pair t c.pairs ≡ false → names_component t c.component ≡ false → Some NotComponent ≡ tree_flaw t c
tree_dead t c k u n = rw (k, u, n) refl

pub tree_outside : (t : Tables) (c : TreeClaim) → has_name (node_names t) c.component ≡ true → unknown_pair t c.pairs ≡ false → names_component t c.component ≡ true
    → not_inside (is_meter_in t (named_component t c.component)) (items_of t (paired_items c.pairs)) ≡ true → Some NotInside ≡ tree_flaw t c
tree_outside t c k u n i = rw (k, u, n, i) refl

pub tree_touched : (t : Tables) (c : TreeClaim) → has_name (node_names t) c.component ≡ true → unknown_pair t c.pairs ≡ false → names_component t c.component ≡ true
    → not_inside (is_meter_in t (named_component t c.component)) (items_of t (paired_items c.pairs)) ≡ false → not_touched t (pairs_of t c.pairs) ≡ true → Some NotTouched ≡ tree_flaw t c
tree_touched t c k u n i d = rw (k, u, n, i, d) refl

pub tree_rest : (t : Tables) (c : TreeClaim) → has_name (node_names t) c.component ≡ true → unknown_pair t c.pairs ≡ false → names_component t c.component ≡ true
    → not_inside (is_meter_in t (named_component t c.component)) (items_of t (paired_items c.pairs)) ≡ false → not_touched t (pairs_of t c.pairs) ≡ false → paired_twice t c.pairs ≡ false
    → tree_flaw t c ≡ first_true (forest_clauses t (pairs_of t c.pairs) (named_need t c.component) [])
tree_rest t c k u n i d w = rw (k, u, n, i, d, w) refl

pub tree_twice : (t : Tables) (c : TreeClaim) → has_name (node_names t) c.component ≡ true → unknown_pair t c.pairs ≡ false → names_component t c.component ≡ true
    → not_inside (is_meter_in t (named_component t c.component)) (items_of t (paired_items c.pairs)) ≡ false → not_touched t (pairs_of t c.pairs) ≡ false → paired_twice t c.pairs ≡ true
    → Some Twice ≡ tree_flaw t c
tree_twice t c k u n i d w = rw (k, u, n, i, d, w) refl

-- the clauses on stated numbers, one after the other
pub bound_rank : (t : Tables) (test : ℕ → Bool) (list : List ℕ) (rank outside need : ℕ) → (rank_of_items t list ≡ rank → ⊥)
    → Some WrongRank ≡ first_true (bound_clauses t test list rank outside need)
bound_rank t test list rank outside need r = rw (ne_eqb (rank_of_items t list) rank r) refl

pub bound_wrong : (t : Tables) (test : ℕ → Bool) (list : List ℕ) (rank outside need : ℕ) → rank_of_items t list ≡ rank → (outside_of t test list ≡ outside → ⊥)
    → Some WrongOutside ≡ first_true (bound_clauses t test list rank outside need)
bound_wrong t test list rank outside need r o = rw (eq-eqb (rank_of_items t list) rank r, ne_eqb (outside_of t test list) outside o) refl

pub bound_high : (t : Tables) (test : ℕ → Bool) (list : List ℕ) (rank outside need : ℕ) → rank_of_items t list ≡ rank → outside_of t test list ≡ outside → need ≤ rank + outside
    → Some NotBelow ≡ first_true (bound_clauses t test list rank outside need)
bound_high t test list rank outside need r o h = rw (eq-eqb (rank_of_items t list) rank r, eq-eqb (outside_of t test list) outside o, le-ltb (rank + outside) need h) refl

pub bound_right : (t : Tables) (test : ℕ → Bool) (list : List ℕ) (rank outside need : ℕ) → rank_of_items t list ≡ rank → outside_of t test list ≡ outside → rank + outside < need
    → None ≡ first_true (bound_clauses t test list rank outside need)
bound_right t test list rank outside need r o h = rw (eq-eqb (rank_of_items t list) rank r, eq-eqb (outside_of t test list) outside o, lt-ltb (rank + outside) need h) refl

-- what is counted is the number outside
pub outside_counted : (t : Tables) (test : ℕ → Bool) (items : List Item) (scope count : ℕ) → scope ≤ 4294967295 → scope ≡ length (scope_of t test) → OfItems t test → not_inside test (items_of t items) ≡ false → twice (items_of t items) ≡ false
    → count ≡ min (0 + length items) 4294967295 → outside_of t test (items_of t items) ≡ scope - count
outside_counted t test items scope count few is of inside once counted =
    let o = outside_is t test (items_of t items) of inside once in
    let e = o.0 in
    let l = o.1 in
    let m = length-map items (item_of t) in
    grind (arith, e, l, m, counted, is, few)

back : {Z : Type 0} (v : Vec ℕ Z) (ws : List ℕ) → length ws ≡ length v.items → (with_items v ws).items ≡ ws
back v ws e = with_items_is v ws (omega (arith, e, v.ok.0))

-- after marks were made in some of the arrays
-- where a claim ends before it marks anything
pub ready_later : (t : Tables) (stamp : ℕ) (w : Work) → IsReadyFor t stamp w → IsReadyFor t (suc stamp) w
ready_later t stamp w r =
    ready_more t stamp w w r refl refl refl refl refl refl refl refl refl (more_below stamp w.chosen.items r.chosen) (more_below stamp w.paired.items r.paired) (more_below stamp w.listed.items r.listed) (more_below stamp w.taken.items r.taken)

-- the ways up are free
pub free_of : (rows : Rows) (w : Work) → HasRoomForRows rows w → AreJoined [] w.ups.items [] → AreFree (2 * rows.nodes) w.ups.items w.moved.items
free_of rows w m clear = record { vertices = m.ups; few = m.few; room = m.moved; clear = clear }

-- after branches were joined and parted again
pub room_joined : (rows : Rows) (w : Work) (ups moved : List ℕ) → HasRoomForRows rows w → length ups ≡ length w.ups.items → length moved ≡ length w.moved.items
    → HasRoomForRows rows (record w { ups = with_items w.ups ups; moved = with_items w.moved moved })
room_joined rows w ups moved m e f =
    let p = ap length (back w.ups ups e) ∙ e in
    let k = ap length (back w.moved moved f) ∙ f in
    record {
      chosen = m.chosen;
      paired = m.paired;
      listed = m.listed;
      taken = m.taken;
      ups = omega (arith, m.ups, p);
      few = omega (arith, m.few, p);
      moved = omega (arith, m.moved, p, k);
      stars = omega (arith, m.stars, p);
      hubs = omega (arith, m.hubs, p);
      links = m.links;
    }

pub clear_joined : (w : Work) (ups : List ℕ) → length ups ≡ length w.ups.items → AreJoined [] ups [] → AreJoined [] (with_items w.ups ups).items []
clear_joined w ups e clear = subst (λ us. AreJoined [] us []) (sym (back w.ups ups e)) clear

pub ready_joined : (t : Tables) (stamp : ℕ) (w : Work) (ups moved : List ℕ) → IsReadyFor t stamp w → length ups ≡ length w.ups.items → length moved ≡ length w.moved.items
    → AreJoined [] ups [] → IsReadyFor t stamp (record w { ups = with_items w.ups ups; moved = with_items w.moved moved })
ready_joined t stamp w ups moved r e f clear = record {
  room = room_joined (rows_of t) w ups moved r.room e f;
  chosen = r.chosen;
  paired = r.paired;
  listed = r.listed;
  taken = r.taken;
  clear = clear_joined w ups e clear;
  known = r.known;
  links = r.links;
}

-- and rows at vertices were listed
pub ready_hubs : (t : Tables) (stamp : ℕ) (w : Work) (hubs : Hubs) → IsReadyFor t stamp w → hubs.room ≡ w.hubs.room → IsReadyFor t stamp (record w { hubs = hubs })
ready_hubs t stamp w hubs r e =
    let m = r.room in
    record {
      room = record {
        chosen = m.chosen;
        paired = m.paired;
        listed = m.listed;
        taken = m.taken;
        ups = m.ups;
        few = m.few;
        moved = m.moved;
        stars = m.stars;
        hubs = omega (arith, m.hubs, e);
        links = m.links;
      };
      chosen = r.chosen;
      paired = r.paired;
      listed = r.listed;
      taken = r.taken;
      clear = r.clear;
      known = r.known;
      links = r.links;
    }

-- and ranks were kept
pub ready_measured : (t : Tables) (stamp : ℕ) (w : Work) (hubs : Hubs) (stars ups moved : List ℕ) → IsReadyFor t stamp w → hubs.room ≡ w.hubs.room → length stars ≡ length w.stars.items → length ups ≡ length w.ups.items → length moved ≡ length w.moved.items
    → AreJoined [] ups [] → AreStarRanks t stars → IsReadyFor t stamp (record w { hubs = hubs; stars = with_items w.stars stars; ups = with_items w.ups ups; moved = with_items w.moved moved })
ready_measured t stamp w hubs stars ups moved r d g e f clear known =
    let m = r.room in
    let s = back w.stars stars g in
    let p = ap length (back w.ups ups e) ∙ e in
    let k = ap length (back w.moved moved f) ∙ f in
    let l = ap length s ∙ g in
    record {
      room = record {
        chosen = m.chosen;
        paired = m.paired;
        listed = m.listed;
        taken = m.taken;
        ups = omega (arith, m.ups, p);
        few = omega (arith, m.few, p);
        moved = omega (arith, m.moved, p, k);
        stars = omega (arith, m.stars, p, l);
        hubs = omega (arith, m.hubs, p, d);
        links = m.links;
      };
      chosen = r.chosen;
      paired = r.paired;
      listed = r.listed;
      taken = r.taken;
      clear = subst (λ us. AreJoined [] us []) (sym (back w.ups ups e)) clear;
      known = subst (AreStarRanks t) (sym s) known;
      links = r.links;
    }

pub ready_pairs : (t : Tables) (stamp : ℕ) (w : Work) (paired taken : List ℕ) → IsReadyFor t stamp w → length paired ≡ length w.paired.items → length taken ≡ length w.taken.items
    → AreBelow (suc stamp) paired → AreBelow (suc stamp) taken → IsReadyFor t (suc stamp) (record w { paired = with_items w.paired paired; taken = with_items w.taken taken })
ready_pairs t stamp w paired taken r e f a b =
    let p = back w.paired paired e in
    let k = back w.taken taken f in
    ready_more t stamp w (record w { paired = with_items w.paired paired; taken = with_items w.taken taken }) r refl (ap length p ∙ e) refl (ap length k ∙ f) refl refl refl refl refl
    (more_below stamp w.chosen.items r.chosen) (subst (AreBelow (suc stamp)) (sym p) a) (more_below stamp w.listed.items r.listed) (subst (AreBelow (suc stamp)) (sym k) b)

pub ready_chosen : (t : Tables) (stamp : ℕ) (w : Work) (chosen : List ℕ) → IsReadyFor t stamp w → length chosen ≡ length w.chosen.items
    → AreBelow (suc stamp) chosen → IsReadyFor t (suc stamp) (record w { chosen = with_items w.chosen chosen })
ready_chosen t stamp w chosen r e a =
    let p = back w.chosen chosen e in
    ready_more t stamp w (record w { chosen = with_items w.chosen chosen }) r (ap length p ∙ e) refl refl refl refl refl refl refl refl
    (subst (AreBelow (suc stamp)) (sym p) a) (more_below stamp w.paired.items r.paired) (more_below stamp w.listed.items r.listed) (more_below stamp w.taken.items r.taken)

pub ready_listed : (t : Tables) (stamp : ℕ) (w : Work) (listed : List ℕ) → IsReadyFor t stamp w → length listed ≡ length w.listed.items
    → AreBelow (suc stamp) listed → IsReadyFor t (suc stamp) (record w { listed = with_items w.listed listed })
ready_listed t stamp w listed r e a =
    let p = back w.listed listed e in
    ready_more t stamp w (record w { listed = with_items w.listed listed }) r refl refl (ap length p ∙ e) refl refl refl refl refl refl
    (more_below stamp w.chosen.items r.chosen) (more_below stamp w.paired.items r.paired) (subst (AreBelow (suc stamp)) (sym p) a) (more_below stamp w.taken.items r.taken)

pub ready_plan : (t : Tables) (stamp : ℕ) (w : Work) (chosen paired listed taken : List ℕ) → IsReadyFor t stamp w → length chosen ≡ length w.chosen.items → length paired ≡ length w.paired.items → length listed ≡ length w.listed.items → length taken ≡ length w.taken.items
    → AreBelow (suc stamp) chosen → AreBelow (suc stamp) paired → AreBelow (suc stamp) listed → AreBelow (suc stamp) taken
    → IsReadyFor t (suc stamp) (record w { chosen = with_items w.chosen chosen; paired = with_items w.paired paired; listed = with_items w.listed listed; taken = with_items w.taken taken })
ready_plan t stamp w chosen paired listed taken r e f g h a b c d =
    let p = back w.chosen chosen e in
    let q = back w.paired paired f in
    let s = back w.listed listed g in
    let k = back w.taken taken h in
    ready_more t stamp w (record w { chosen = with_items w.chosen chosen; paired = with_items w.paired paired; listed = with_items w.listed listed; taken = with_items w.taken taken }) r
    (ap length p ∙ e) (ap length q ∙ f) (ap length s ∙ g) (ap length k ∙ h) refl refl refl refl refl
    (subst (AreBelow (suc stamp)) (sym p) a) (subst (AreBelow (suc stamp)) (sym q) b) (subst (AreBelow (suc stamp)) (sym s) c) (subst (AreBelow (suc stamp)) (sym k) d)

-- no clause on the cost is false
pub costs_right : (t : Tables) (c : CostClaim) (chosen shown : ℕ) → list_any (λ (l : Layer). not_below l.rank l.outside (case_needed t)) c.layers ≡ false → runs_on 0 c.layers ≡ true
    → sum_by (price_at t) (items_of t (candidate_items c.chosen)) ≡ c.number → sum_by (shows (case_needed t)) c.layers ≡ c.number
    → None ≡ first_true (costs_clauses t c)
costs_right t c chosen shown n r a b =
    rw (n, r, eq-eqb (sum_by (price_at t) (items_of t (candidate_items c.chosen))) c.number a, eq-eqb (sum_by (shows (case_needed t)) c.layers) c.number b) refl

-- a number that isn't too great to be counted
pub counted_right : (sum number : ℕ) → min sum (2 ^ 128 - 1) ≡ number → number < 2 ^ 64 → sum ≡ number
counted_right sum number e l = grind (arith, e, l)

pub bound_nameless : (t : Tables) (c : BoundClaim) → has_name (node_names t) c.component ≡ false → Some UnknownName ≡ bound_flaw t c
bound_nameless t c k = rw k refl

pub bound_unknown : (t : Tables) (c : BoundClaim) → has_name (node_names t) c.component ≡ true → unknown_item t c.inside ≡ true → Some UnknownName ≡ bound_flaw t c
bound_unknown t c k u = rw (k, u) refl

pub bound_dead : (t : Tables) (c : BoundClaim) → has_name (node_names t) c.component ≡ true → unknown_item t c.inside ≡ false → names_component t c.component ≡ false → Some NotComponent ≡ bound_flaw t c
bound_dead t c k u n = rw (k, u, n) refl

pub bound_list : (t : Tables) (c : BoundClaim) (k need : ℕ) → k ≡ named_component t c.component → need ≡ named_need t c.component
    → has_name (node_names t) c.component ≡ true → unknown_item t c.inside ≡ false → names_component t c.component ≡ true
    → first_true ((not_inside (is_meter_in t k) (items_of t c.inside), NotInside) ∷ list_clauses t (is_meter_in t k) (items_of t c.inside) c.rank c.outside need) ≡ bound_flaw t c
bound_list t c k need is same known unknown names =
    ap (λ (x : ℕ). first_true ((not_inside (is_meter_in t x) (items_of t c.inside), NotInside) ∷ list_clauses t (is_meter_in t x) (items_of t c.inside) c.rank c.outside need)) is
    ∙ ap (λ (x : ℕ). first_true ((not_inside (is_meter_in t (named_component t c.component)) (items_of t c.inside), NotInside)
    ∷ list_clauses t (is_meter_in t (named_component t c.component)) (items_of t c.inside) c.rank c.outside x)) same
    ∙ sym (rw (known, unknown, names) refl)

pub bound_rest : (t : Tables) (c : BoundClaim) (k need : ℕ) → k ≡ named_component t c.component → need ≡ named_need t c.component
    → has_name (node_names t) c.component ≡ true → unknown_item t c.inside ≡ false → names_component t c.component ≡ true
    → not_inside (is_meter_in t k) (items_of t c.inside) ≡ false
    → first_true (list_clauses t (is_meter_in t k) (items_of t c.inside) c.rank c.outside need) ≡ bound_flaw t c
bound_rest t c k need is same known unknown names inside =
    ap (λ (b : Bool). first_true ((b, NotInside) ∷ list_clauses t (is_meter_in t k) (items_of t c.inside) c.rank c.outside need)) (sym inside)
    ∙ bound_list t c k need is same known unknown names

pub shortfall_rest : (t : Tables) (c : ShortfallClaim) → unknown_item t c.inside ≡ false
    → first_true ((not_inside (is_live_item t) (items_of t c.inside), NotInside) ∷ list_clauses t (is_live_item t) (items_of t c.inside) c.rank c.outside (case_needed t)) ≡ shortfall_flaw t c
shortfall_rest t c known = rw known refl

pub layers_rank : (t : Tables) (c : CostClaim) → list_any (λ (l : Listed). wrong_rank t l.list l.layer.rank) (listed_layers t c.layers) ≡ true → Some WrongRank ≡ first_true (layers_clauses t c)
layers_rank t c r = rw r refl

pub layers_outside : (t : Tables) (c : CostClaim) → list_any (λ (l : Listed). wrong_rank t l.list l.layer.rank) (listed_layers t c.layers) ≡ false
    → list_any (λ (l : Listed). wrong_outside t (is_below t l.layer.to) l.list l.layer.outside) (listed_layers t c.layers) ≡ true → Some WrongOutside ≡ first_true (layers_clauses t c)
layers_outside t c r o = rw (r, o) refl

pub layers_rest : (t : Tables) (c : CostClaim) → list_any (λ (l : Listed). wrong_rank t l.list l.layer.rank) (listed_layers t c.layers) ≡ false
    → list_any (λ (l : Listed). wrong_outside t (is_below t l.layer.to) l.list l.layer.outside) (listed_layers t c.layers) ≡ false → first_true (costs_clauses t c) ≡ first_true (layers_clauses t c)
layers_rest t c r o = rw (r, o) refl

pub plan_outside : (t : Tables) (c : CostClaim) → unknown_in_plan t c ≡ false → outside_of_plan t c ≡ true → Some NotInside ≡ cost_flaw t c
plan_outside t c u o = rw (u, o) refl

pub plan_touched : (t : Tables) (c : CostClaim) → unknown_in_plan t c ≡ false → outside_of_plan t c ≡ false → not_touched t (pairs_of t c.pairs) ≡ true → Some NotTouched ≡ cost_flaw t c
plan_touched t c u o d = rw (u, o, d) refl

pub plan_twice : (t : Tables) (c : CostClaim) → unknown_in_plan t c ≡ false → outside_of_plan t c ≡ false → not_touched t (pairs_of t c.pairs) ≡ false → twice_in_plan t c ≡ true → Some Twice ≡ cost_flaw t c
plan_twice t c u o d w = rw (u, o, d, w) refl

pub plan_rest : (t : Tables) (c : CostClaim) → unknown_in_plan t c ≡ false → outside_of_plan t c ≡ false → not_touched t (pairs_of t c.pairs) ≡ false → twice_in_plan t c ≡ false
    → first_true (forest_clauses t (pairs_of t c.pairs) (case_needed t) (layers_clauses t c)) ≡ cost_flaw t c
plan_rest t c u o d w = rw (u, o, d, w) refl

pub three_same : (a x b y c z : Bool) → a ≡ x → b ≡ y → c ≡ z → (a || (b || c)) ≡ (x || (y || z))
three_same a x b y c z e f g = ap (λ (k : Bool). k || (b || c)) e ∙ ap (λ (k : Bool). x || (k || c)) f ∙ ap (λ (k : Bool). x || (y || k)) g

pub plan_layers : (t : Tables) (c : CostClaim) → outside_of_plan t c ≡ false → list_any (λ (l : Listed). not_inside (is_below t l.layer.to) l.list) (listed_layers t c.layers) ≡ false
plan_layers t c e =
    (or_parts (not_inside (is_of_plan t (is_listed (items_of t (candidate_items c.chosen)))) (items_of t (paired_items c.pairs)))
    (list_any (λ (l : Listed). not_inside (is_below t l.layer.to) l.list) (listed_layers t c.layers)) e).1
