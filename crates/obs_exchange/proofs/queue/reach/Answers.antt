use Rattle.std.proofs.Common.{◌<◌, length, arith, sym, ◌∙◌}
use Rattle.obs_exchange.proofs.Queued.{IsVisiting-push, flag-set, visiting_room}
use Rattle.obs_exchange.proofs.Trails.{Stays-push}
use Rattle.obs_exchange.proofs.queue.reach.Goals as goal

pub push-requires : goal.push-requires
push-requires c = let r = c.requires in record {
  x = omega (arith, r.x, r.visiting.searching.marks_len);
  tail = visiting_room c.args.over.now c.args.trail.now c.args.x c.args.by r.visiting r.x (sym c.is_marked.ensures.marked ∙ c.if-is_marked.false);
}

pub returns : goal.returns
returns c = let r = c.requires in let t = c.args.trail.now in
    let low : c.args.x < length t.marks = omega (arith, r.x, r.visiting.searching.marks_len) in
    rw c.push.ensures.pushed
    (record {
      visiting = IsVisiting-push c.args.over.now t c.args.x c.args.by r.visiting r.x (sym c.is_marked.ensures.marked ∙ c.if-is_marked.false)
          (sym c.is_frozen.ensures.frozen ∙ c.if-is_frozen.false) r.touched r.needed;
      reached = λ f. flag-set t.marks c.args.x low;
      stays = Stays-push t c.args.x c.args.by low (omega (arith, r.x, r.visiting.searching.parents_len));
    })
