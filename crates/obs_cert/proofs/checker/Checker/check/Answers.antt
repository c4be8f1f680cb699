use Rattle.std.proofs.Common.{◌≡◌, ◌+◌, length, sym, ap, ◌∙◌, subst, arith}
use Rattle.std.proofs.lemmas.List.{with_items_is}
use Rattle.obs_network.specs.Network.{Network, network_of}
use Rattle.obs_cert.specs.inner.Ready.{HasRoomForRows}
use Rattle.obs_cert.proofs.checker.Checker.check.Goals as goal
use Rattle.obs_cert.proofs.checker.Checker.check.Goals.{After-deref_mut}

is : (c : After-deref_mut) → c.self.inside.network ≡ network_of c.of-present.result
is c = c.self.view_is ∙ c.requires.of_case ∙ ap network_of (sym c.of-present.ensures.case)

pub of-present-requires : goal.of-present-requires
of-present-requires c = record { of_case = c.self.view_is ∙ c.requires.of_case }

pub first_flaw-requires-clause-room : goal.first_flaw-requires-clause-room
first_flaw-requires-clause-room c = subst (λ (n : Network). HasRoomForRows n.rows c.self.inside.work) (is c) c.self.invariant.0

pub first_flaw-requires-clause-keys : goal.first_flaw-requires-clause-keys
first_flaw-requires-clause-keys c = ap length c.deref_mut.ensures.value ∙ c.self.invariant.1 ∙ ap (λ (n : Network). n.rows.meters + n.rows.candidates) (is c)

pub invariant_of-self : goal.invariant_of-self
invariant_of-self c =
    let same : c.self.inside.network ≡ network_of c.of-present.result = c.self.view_is ∙ c.requires.of_case ∙ ap network_of (sym c.of-present.ensures.case) in
    let e : length c.first_flaw.new.keys ≡ length c.self.inside.keys.items = c.first_flaw.ensures.keys ∙ ap length c.deref_mut.ensures.value in (
      subst (λ (n : Network). HasRoomForRows n.rows c.first_flaw.new.work) (sym same) c.first_flaw.ensures.room,
      ap length (with_items_is c.self.inside.keys c.first_flaw.new.keys (omega (arith, e, c.self.inside.keys.ok.0))) ∙ e ∙ c.self.invariant.1,
    )

pub returns-clause-unchanged : goal.returns-clause-unchanged
returns-clause-unchanged c = c.self.view_is
