use Rattle.std.proofs.Common.{◌≡◌, ◌∙◌, ◌<◌, ◌≤◌, ℕ, List, set, take, ap, length, arith, subst, sym}
use Rattle.std.proofs.Math.Seq.{take-set-lt}
use Rattle.std.proofs.lemmas.List.{length-set, length-take-le}
use Rattle.obs_meter.specs.declared.Touch.{Touch}
use Rattle.obs_meter.specs.Held.{Meters}
use Rattle.obs_meter.proofs.meters.Meters.set.Goals as goal

-- what is seen of a list of touches and their number, after one was set
seen_after_set : (n m : ℕ) (items : List Touch) (x : Touch) (before : Meters) → (let i : Meters = record { touches = take n items; most = length items } in i) ≡ before → n ≤ length items → m < length before.touches
    → (let i : Meters = record { touches = take n (set items m x); most = length (set items m x) } in i) ≡ record before { touches = set before.touches m x }
seen_after_set n m items x before is few low =
    let low_in : m < length (take n items) = subst (λ (b : Meters). m < length b.touches) (sym is) low in
    let len = length-take-le n items few in
    let e = take-set-lt n items m x (omega (arith, low_in, len)) in
    subst (λ (b : Meters). (let i : Meters = record { touches = take n (set items m x); most = length (set items m x) } in i) ≡ record b { touches = set b.touches m x }) is
    (ap (λ (l : List Touch). let i : Meters = record { touches = l; most = length (set items m x) } in i) e
    ∙ ap (λ k. let i : Meters = record { touches = set (take n items) m x; most = k } in i) (length-set items m x))

pub returns : goal.returns
returns c = record { set = seen_after_set c.self.inside.count c.args.m c.self.inside.touches.items c.args.touch c.args.self.now c.self.view_is c.self.invariant.0 c.requires.item }
