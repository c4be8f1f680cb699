use Rattle.std.proofs.Common.{◌≡◌, ◌++◌, length, take, drop, ap, ◌∙◌, arith}
use Rattle.obs_graph.proofs.Stored.{written_back}
use Rattle.obs_cert.proofs.MarkLemmas.{below_first, read_none}
use Rattle.obs_cert.proofs.work.Work.begin.Goals as goal

pub begin-requires : goal.begin-requires
begin-requires c = record { few = omega (arith, c.deref_mut.ensures.len, c.requires.room.few) }

pub sort_links-requires : goal.sort_links-requires
sort_links-requires c = record { room = ap length c.deref_mut-2.ensures.value ∙ c.requires.room.links }

pub returns : goal.returns
returns c =
    let room = c.requires.room in
    let v = c.args.self.now.ups in
    let w = c.args.self.now.links in
    let same : length c.begin.new.ups ≡ length v.items = c.begin.auto.ups ∙ ap length c.deref_mut.ensures.value in
    let back : take v.len (c.begin.new.ups ++ drop (length c.begin.new.ups) v.items) ≡ c.begin.new.ups = written_back v.len c.begin.new.ups v.items same v.ok.0 in
    let long = ap length back ∙ same in
    let linked : length c.sort_links.new.links ≡ length w.items = c.sort_links.ensures.len ∙ ap length c.deref_mut-2.ensures.value in
    let kept : take w.len (c.sort_links.new.links ++ drop (length c.sort_links.new.links) w.items) ≡ c.sort_links.new.links = written_back w.len c.sort_links.new.links w.items linked w.ok.0 in
    record {
      ready = record {
        room = record {
          chosen = omega (arith, room.chosen, c.fill.ensures.len);
          paired = omega (arith, room.paired, c.fill-2.ensures.len);
          listed = omega (arith, room.listed, c.fill-3.ensures.len);
          taken = omega (arith, room.taken, c.fill-4.ensures.len);
          ups = omega (arith, room.ups, long);
          few = omega (arith, room.few, long);
          moved = omega (arith, room.moved, long);
          stars = omega (arith, room.stars, long, c.fill-5.ensures.len);
          hubs = omega (arith, room.hubs, long);
          links = ap length kept ∙ linked ∙ room.links;
        };
        chosen = below_first _ _ (c.fill.ensures.items (λ y e. e));
        paired = below_first _ _ (c.fill-2.ensures.items (λ y e. e));
        listed = below_first _ _ (c.fill-3.ensures.items (λ y e. e));
        taken = below_first _ _ (c.fill-4.ensures.items (λ y e. e));
        clear = rw back c.begin.ensures.clear;
        known = λ k l. let none = read_none _ _ (c.fill-5.ensures.items (λ y e. e)) k in absurd (omega (arith, l, none));
        links = rw kept c.sort_links.ensures.links;
      };
    }
