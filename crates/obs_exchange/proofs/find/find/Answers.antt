use Rattle.std.proofs.Common.{◌≤◌, ◌-◌, length, length-set, sym, ap, ◌∙◌, subst, arith}
use Rattle.obs_exchange.specs.declared.Sources.{Sources}
use Rattle.obs_exchange.specs.inner.Searching.{IsAsLarge, IsReady}
use Rattle.obs_exchange.specs.inner.Setting.{first_of}
use Rattle.obs_exchange.proofs.Closing.{AreListed-queue, IsLeastClosedAt-search, tail_low}
use Rattle.obs_exchange.proofs.Growing.{IsReady-one}
use Rattle.obs_exchange.proofs.Shut.{IsReady-shut}
use Rattle.obs_exchange.proofs.Tracing.{drop_last}
use Rattle.obs_exchange.proofs.Trails.{HasRoomIn-ahead, HasRoomIn-as_large, IsAsLarge-run, IsAsLarge-stars, IsAsLarge-then}
use Rattle.obs_exchange.proofs.find.find.Goals as goal
use Rattle.obs_exchange.proofs.find.find.Goals.{After-spread_all}

pub free_move-requires : goal.free_move-requires
free_move-requires c = let r = c.requires in
    record { noted = r.can.noted; first = r.can.tried; room = omega (arith, ap length c.renew.ensures.same, r.room.stars) }

pub overflow_sub-last : goal.overflow_sub-last
overflow_sub-last c = let low = c.in-Some.ensures.free.0 in omega (arith, low, c.requires.room.meters, c.requires.path)

pub bounds-path-last : goal.bounds-path-last
bounds-path-last c = let low = c.in-Some.ensures.free.0 in omega (arith, low, c.requires.room.meters, c.requires.path)

pub returns-in-Some : goal.returns-in-Some
returns-in-Some c =
    let over = c.args.over.now in
    let path = c.args.path.now in
    let f = c.in-Some.ensures.free in
    let low = f.0 in
    record {
      found = record {
        bound = omega (arith, low, c.requires.room.meters, c.requires.path, length-set path (length path - 1) c.in-Some.x);
        ready = subst (IsReady over) (sym (drop_last path (length path - 1) c.in-Some.x (omega (arith, low, c.requires.path, c.requires.room.meters)))) (IsReady-one over c.in-Some.x c.requires.can.sound f.0 f.1 f.2);
      };
      as_large = IsAsLarge-stars c.args.search.now c.free_move.new.stars (c.free_move.ensures.same ∙ c.renew.ensures.same);
    }

-- what the search that passes meters over is over
pub find_open-requires : goal.find_open-requires
find_open-requires c =
    let r = c.requires in
    let o = r.can.passes in
    let over = c.args.over.now in
    let p = c.args.search.now in
    let tried : IsAsLarge p (record p { stars = c.free_move.new.stars }) = IsAsLarge-stars p c.free_move.new.stars (c.free_move.ensures.same ∙ c.renew.ensures.same) in
    record {
      sound = o.sound;
      flags = omega (arith, ap length o.touches, r.can.noted.room);
      searched = subst (λ (s : Sources). first_of s ≤ c.args.start.searched) (sym o.sources) r.can.searched;
      room = HasRoomIn-ahead over c.args.ahead.now (record p { stars = c.free_move.new.stars }) o (HasRoomIn-as_large over p (record p { stars = c.free_move.new.stars }) tried r.room);
      path = r.path;
    }

pub returns-in-Some-find_open : goal.returns-in-Some-find_open
returns-in-Some-find_open c =
    let e = c.in-Some-find_open.ensures in
    let p = c.args.search.now in
    record {
      found = record { bound = e.found.bound; ready = IsReady-shut c.args.over.now c.args.ahead.now c.requires.can.passes _ e.found.ready };
      as_large = IsAsLarge-then p (record p { stars = c.free_move.new.stars }) c.find_open.new.search (IsAsLarge-stars p c.free_move.new.stars (c.free_move.ensures.same ∙ c.renew.ensures.same)) e.as_large;
    }

pub start_anew-requires : goal.start_anew-requires
start_anew-requires c =
    let over = c.args.over.now in
    let p = c.args.search.now in
    let f = c.find_open in
    record {
      sound = c.requires.can.sound;
      room = HasRoomIn-as_large over p f.new.search (IsAsLarge-then p (record p { stars = c.free_move.new.stars }) f.new.search (IsAsLarge-stars p c.free_move.new.stars (c.free_move.ensures.same ∙ c.renew.ensures.same)) f.ensures.as_large) c.requires.room;
    }

pub spread_all-requires : goal.spread_all-requires
spread_all-requires c = record { noted = c.requires.can.noted; middle = c.requires.can.searched; resting = c.start_anew.ensures.resting }

-- after the search that passes nothing over
walked : (c : After-spread_all) → IsAsLarge c.args.search.now c.spread_all.new.search
walked c =
    let p = c.args.search.now in
    let f = c.find_open in
    let s = c.start_anew in
    let n = c.spread_all.new.search in
    IsAsLarge-then p f.new.search n (IsAsLarge-then p (record p { stars = c.free_move.new.stars }) f.new.search (IsAsLarge-stars p c.free_move.new.stars (c.free_move.ensures.same ∙ c.renew.ensures.same)) f.ensures.as_large)
    (IsAsLarge-then f.new.search s.new.search n s.ensures.as_large (IsAsLarge-run c.args.over.now s.new.search n s.ensures.resting.running c.spread_all.ensures.runs_on))

pub trace-requires : goal.trace-requires
trace-requires c = let large = walked (goal.at.trace-requires c).After-spread_all in record {
  end = (c.args.over.now, c.in-Some-spread_all.ensures.found);
  room = omega (arith, large.meters, c.find_open.auto.path, c.requires.path);
}

pub returns-in-Some-spread_all : goal.returns-in-Some-spread_all
returns-in-Some-spread_all c = record {
  found = record { bound = c.trace.ensures.bound; ready = c.trace.ensures.ready c.args.over.now c.in-Some-spread_all.ensures.found };
  as_large = walked (goal.at.returns-in-Some-spread_all c).After-spread_all;
}

pub returns-in-None : goal.returns-in-None
returns-in-None c =
    let over = c.args.over.now in
    let n = c.spread_all.new.search.trail in
    let q = c.spread_all.ensures.runs_on.running.searching in
    let t = tail_low over n q in
    let found = c.in-None.ensures.found in
    record {
      found = record {
        few = omega (arith, t, c.tail.ensures.tail, q.marks_len);
        least = IsLeastClosedAt-search over n q found.0 found.1;
        listed = rw c.tail.ensures.tail (AreListed-queue over n q);
      };
      as_large = walked (goal.at.returns-in-None c).After-spread_all;
    }
