use Rattle.std.proofs.Common.{◌≡◌, ◌||◌, ◌&&◌, Bool, true, false, None, is_some, get_or, sym, ap, ◌∙◌, arith}
use Rattle.obs_assign.specs.inner.Assignment.{has_flag}
use Rattle.obs_exchange.proofs.Shut.{frozen_is, length-frozen_by, no_flag_beyond}
use Rattle.obs_exchange.proofs.setting.Setting.is_frozen.Goals as goal

pub returns-then-frozen : goal.returns-then-frozen
returns-then-frozen c =
    let s = c.self.inside in
    let a = s.assignment.now in
    let m = c.args.m in
    let rest = has_flag s.shut.now m && is_some (get_or a.slots m None) in
    let i = frozen_is a.frozen s.shut.now a.slots m (sym (length-frozen_by a.frozen s.shut.now a.slots) ∙ c.self.invariant.whole.paired.flags) in
    let f : has_flag a.frozen m ≡ true = sym c.frozen.ensures.frozen ∙ c.if-frozen.true in
    rw (← c.self.view_is) (record { frozen = sym (i ∙ ap (λ (b : Bool). b || rest) f) })

pub returns-then-m-self : goal.returns-then-m-self
returns-then-m-self c =
    let s = c.self.inside in
    let a = s.assignment.now in
    let m = c.args.m in
    let rest = has_flag s.shut.now m && is_some (get_or a.slots m None) in
    let i = frozen_is a.frozen s.shut.now a.slots m (sym (length-frozen_by a.frozen s.shut.now a.slots) ∙ c.self.invariant.whole.paired.flags) in
    let f : has_flag a.frozen m ≡ false = sym c.frozen.ensures.frozen ∙ c.if-frozen.false in
    let t = c.if-m-self.true in
    let g = no_flag_beyond s.shut.now m (omega (arith, t)) in
    rw (← c.self.view_is) (record { frozen = sym (i ∙ (ap (λ (b : Bool). b || rest) f ∙ ap (λ (b : Bool). b && is_some (get_or a.slots m None)) g)) })

pub returns-then-self-m : goal.returns-then-self-m
returns-then-self-m c =
    let s = c.self.inside in
    let a = s.assignment.now in
    let m = c.args.m in
    let rest = has_flag s.shut.now m && is_some (get_or a.slots m None) in
    let i = frozen_is a.frozen s.shut.now a.slots m (sym (length-frozen_by a.frozen s.shut.now a.slots) ∙ c.self.invariant.whole.paired.flags) in
    let f : has_flag a.frozen m ≡ false = sym c.frozen.ensures.frozen ∙ c.if-frozen.false in
    let t : has_flag s.shut.now m ≡ true = c.if-self-m.true in
    rw (← c.self.view_is)
    (record { frozen = c.is_some.ensures ∙ (ap is_some c.branch_of.ensures.branch ∙ sym (i ∙ (ap (λ (b : Bool). b || rest) f ∙ ap (λ (b : Bool). b && is_some (get_or a.slots m None)) t))) })

pub returns-else-self-m : goal.returns-else-self-m
returns-else-self-m c =
    let s = c.self.inside in
    let a = s.assignment.now in
    let m = c.args.m in
    let rest = has_flag s.shut.now m && is_some (get_or a.slots m None) in
    let i = frozen_is a.frozen s.shut.now a.slots m (sym (length-frozen_by a.frozen s.shut.now a.slots) ∙ c.self.invariant.whole.paired.flags) in
    let f : has_flag a.frozen m ≡ false = sym c.frozen.ensures.frozen ∙ c.if-frozen.false in
    let t : has_flag s.shut.now m ≡ false = c.if-self-m.false in
    rw (← c.self.view_is) (record { frozen = t ∙ sym (i ∙ (ap (λ (b : Bool). b || rest) f ∙ ap (λ (b : Bool). b && is_some (get_or a.slots m None)) t)) })
