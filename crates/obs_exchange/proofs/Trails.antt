-- A trail and those that follow it, and a search and what it goes on to.
use Rattle.std.proofs.Common.{◌≡◌, ℕ, ◌<◌, true, false, Option, Some, None, List, length, get_or, set, refl, sym, ap, ◌∙◌, inl, inr, subst, arith, length-set, get_or-set_other, get_or-set_same}
use Rattle.std.proofs.lemmas.Bool.{cases_eq}
use Rattle.obs_graph.specs.Graph.{Graph}
use Rattle.obs_meter.specs.declared.Touch.{Touch}
use Rattle.obs_assign.specs.declared.Move.{Move}
use Rattle.obs_exchange.specs.declared.progress.Progress.{Progress}
use Rattle.obs_exchange.specs.inner.Searching.{HasRoomIn, IsAsLarge, IsRunning, RunsOn}
use Rattle.obs_exchange.specs.inner.Setting.{IsOpen, Setting}
use Rattle.obs_exchange.specs.inner.Trail.{AreLed, AreLedBut, Follows, IsRoot, Stays, Trail, pushed}
use Rattle.obs_exchange.proofs.Queued.{flag-kept}

pub Follows-same : (t : Trail) → Follows t t
Follows-same t = record { marks = λ k f. f; walked = λ k f. f; tail = omega arith; queue = λ k l. refl; meters = refl; branches = refl }

pub Follows-then : (t u v : Trail) → Follows t u → Follows u v → Follows t v
Follows-then t u v f g = record {
  marks = λ k h. g.marks k (f.marks k h);
  walked = λ k h. g.walked k (f.walked k h);
  tail = let p = f.tail in let q = g.tail in omega (arith, p, q);
  queue = λ k l. g.queue k (let p = f.tail in omega (arith, p, l)) ∙ f.queue k l;
  meters = g.meters ∙ f.meters;
  branches = g.branches ∙ f.branches;
}

pub Stays-same : (t : Trail) → Stays t t
Stays-same t = record { follows = Follows-same t; led = λ x r. r; head = refl }

pub Stays-then : (t u v : Trail) → Stays t u → Stays u v → Stays t v
Stays-then t u v f g = record { follows = Follows-then t u v f.follows g.follows; led = λ x r. f.led x (g.led x r); head = g.head ∙ f.head }

-- after a meter was put into the queue
pub Follows-push : (t : Trail) (x : ℕ) (o : Option Move) → x < length t.marks → Follows t (pushed t x o)
Follows-push t x o l = record {
  marks = flag-kept t.marks x l;
  walked = λ k f. f;
  tail = omega arith;
  queue = λ k m. get_or-set_other t.queue t.tail k x 0 (λ e. omega (arith, e, m));
  meters = length-set t.marks x true;
  branches = refl;
}

-- another meter that no other led to was so before
pub root_before : (t : Trail) (x y : ℕ) (o : Option Move) → (y ≡ x → ⊥) → IsRoot (pushed t x o) y → IsRoot t y
root_before t x y o n r = record {
  marked = sym (get_or-set_other t.marks x y true false n) ∙ r.marked;
  first = sym (get_or-set_other t.parents x y o None n) ∙ r.first;
}

some_none : (p : Move) → Some p ≡ None → ⊥
some_none p e = absurd cc

-- where another led to it
pub Stays-push : (t : Trail) (x : ℕ) (p : Move) → x < length t.marks → x < length t.parents → Stays t (pushed t x (Some p))
Stays-push t x p l m = record {
  follows = Follows-push t x (Some p) l;
  led = λ y r. elim (cases_eq y x) [
    | inl e ↦ absurd (some_none p (sym (get_or-set_same t.parents x (Some p) None m) ∙ subst (λ (z : ℕ). get_or (set t.parents x (Some p)) z None ≡ None) e r.first))
    | inr n ↦ root_before t x y (Some p) n r
  ];
  head = refl;
}

-- and where none did
pub led_but_pushed : (t u : Trail) (x : ℕ) → AreLed (pushed t x None) u → AreLedBut x t u
led_but_pushed t u x led y r = elim (cases_eq y x) [ inl e ↦ inr e | inr n ↦ inl (root_before t x y None n (led y r)) ]

-- after a branch was walked
pub Stays-walk : (t : Trail) (e : ℕ) → e < length t.walked → Stays t (record t { walked = set t.walked e true })
Stays-walk t e l = record {
  follows = record { marks = λ k f. f; walked = flag-kept t.walked e l; tail = omega arith; queue = λ k m. refl; meters = refl; branches = length-set t.walked e true };
  led = λ x r. record { marked = r.marked; first = r.first };
  head = refl;
}

-- a search that has come further, and one that has come further than that
pub RunsOn-same : (over : Setting) (p : Progress) → IsRunning over p → RunsOn over p p
RunsOn-same over p r = record { running = r; follows = Follows-same p.trail; stars = refl }

pub RunsOn-then : (over : Setting) (p q r : Progress) → RunsOn over p q → RunsOn over q r → RunsOn over p r
RunsOn-then over p q r f g = record { running = g.running; follows = Follows-then p.trail q.trail r.trail f.follows g.follows; stars = g.stars ∙ f.stars }

-- arrays that a search has gone on in are as large as they were
pub IsAsLarge-same : (p : Progress) → IsAsLarge p p
IsAsLarge-same p = record { meters = refl; branches = refl; stars = refl; tops = refl }

pub IsAsLarge-stars : (p : Progress) (ns : List ℕ) → ns ≡ p.stars → IsAsLarge p (record p { stars = ns })
IsAsLarge-stars p ns is = record { meters = refl; branches = refl; stars = ap length is; tops = refl }

pub IsAsLarge-then : (p q r : Progress) → IsAsLarge p q → IsAsLarge q r → IsAsLarge p r
IsAsLarge-then p q r f g = record { meters = g.meters ∙ f.meters; branches = g.branches ∙ f.branches; stars = g.stars ∙ f.stars; tops = g.tops ∙ f.tops }

pub IsAsLarge-run : (over : Setting) (p q : Progress) → IsRunning over p → RunsOn over p q → IsAsLarge p q
IsAsLarge-run over p q r f = record {
  meters = f.follows.meters;
  branches = f.follows.branches;
  stars = f.stars;
  tops = f.running.classes.are_tops.tops_len ∙ sym r.classes.are_tops.tops_len;
}

-- there is room in what is as large
pub HasRoomIn-as_large : (over : Setting) (p q : Progress) → IsAsLarge p q → HasRoomIn over p → HasRoomIn over q
HasRoomIn-as_large over p q f r = record {
  meters = omega (arith, r.meters, f.meters);
  branches = omega (arith, r.branches, f.branches);
  stars = omega (arith, r.stars, f.stars);
  tops = f.tops ∙ r.tops;
  fits = r.fits;
}

-- there is room for a search that passes more over
pub HasRoomIn-ahead : (over ahead : Setting) (p : Progress) → IsOpen over ahead → HasRoomIn over p → HasRoomIn ahead p
HasRoomIn-ahead over ahead p o r =
    let vertices = ap (λ (g : Graph). g.vertices) o.graph in
    record {
      meters = omega (arith, ap (λ (l : List Touch). length l) o.touches, r.meters);
      branches = omega (arith, ap (λ (g : Graph). length g.ends) o.graph, r.branches);
      stars = omega (arith, vertices, r.stars);
      tops = r.tops ∙ sym o.room;
      fits = omega (arith, vertices, o.room, r.fits);
    }
