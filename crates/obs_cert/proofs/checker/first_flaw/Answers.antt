use Rattle.std.proofs.Common.{◌≡◌, ℕ, ◌+◌, ◌∷◌, Some, None, List, length, refl, sym, ap, ◌∙◌, add-one, arith}
use Rattle.obs_case.specs.Tables.{Tables}
use Rattle.obs_cert.specs.Claims.{Claim}
use Rattle.obs_cert.specs.declared.flaw.FlawCode.{FlawCode}
use Rattle.obs_cert.specs.Flaws.{first_flaw, flaw_of}
use Rattle.obs_cert.specs.inner.Walked.{claim_said, parts_in}
use Rattle.obs_cert.proofs.checker.first_flaw.Goals as goal

pub begin-requires : goal.begin-requires
begin-requires c = record { room = c.requires.room }

pub sort_keys-requires : goal.sort_keys-requires
sort_keys-requires c = record { room = c.requires.keys }

pub flaw_of-requires-clause-keys : goal.flaw_of-requires-clause-keys
flaw_of-requires-clause-keys c = c.sort_keys.ensures.keys

pub returns-in-Some-flaw_of-clause-keys : goal.returns-in-Some-flaw_of-clause-keys
returns-in-Some-flaw_of-clause-keys c = c.sort_keys.ensures.len

pub returns-clause-keys : goal.returns-clause-keys
returns-clause-keys c = c.sort_keys.ensures.len

pub returns-in-Some-flaw_of-clause-room : goal.returns-in-Some-flaw_of-clause-room
returns-in-Some-flaw_of-clause-room c = c.flaw_of.ensures.ready.room

pub returns-clause-room : goal.returns-clause-room
returns-clause-room c = c.loop-claim.invariant.2.room

pub flaw_of-requires-clause-ready : goal.flaw_of-requires-clause-ready
flaw_of-requires-clause-ready c = rw (add-one c.loop-claim.at) c.loop-claim.invariant.2

passes : (t : Tables) (at : ℕ) (claim : Claim) (claims : List Claim) → flaw_of t claim ≡ None → first_flaw t at (claim ∷ claims) ≡ first_flaw t (at + 1) claims
passes t at claim claims none = rw none refl

fails : (t : Tables) (at : ℕ) (claim : Claim) (claims : List Claim) (code : FlawCode) → flaw_of t claim ≡ Some code → first_flaw t at (claim ∷ claims) ≡ Some (record { claim = at; code = code })
fails t at claim claims code some = rw some refl

pub loop-claim-init : goal.loop-claim-init
loop-claim-init c =
    let t = c.args.present.now in
    (ap (first_flaw t 1) (sym c.bytes-rest.ensures.claims), omega (arith, ap length c.bytes-rest.ensures.claims), c.begin.ensures.ready)

pub overflow_add-at : goal.overflow_add-at
overflow_add-at c = omega (arith, c.loop-claim.invariant.1, ap length c.in-Some.ensures.claim, c.bytes-rest.ensures.few)

pub loop-claim-smaller : goal.loop-claim-smaller
loop-claim-smaller c = omega (arith, ap length c.in-Some.ensures.claim)

pub loop-claim-preserved : goal.loop-claim-preserved
loop-claim-preserved c =
    let t = c.args.present.now in
    let l = c.loop-claim in (
      l.invariant.0 ∙ ap (first_flaw t (l.at + 1)) c.in-Some.ensures.claim ∙ passes t (l.at + 1) (claim_said c.in-Some.claim) (parts_in c.in-Some.behind.now).claims (sym c.flaw_of.ensures.flaw ∙ c.in_default-flaw_of.is),
      omega (arith, l.invariant.1, ap length c.in-Some.ensures.claim),
      c.flaw_of.ensures.ready,
    )

pub returns-in-Some-flaw_of-clause-flaw : goal.returns-in-Some-flaw_of-clause-flaw
returns-in-Some-flaw_of-clause-flaw c =
    let t = c.args.present.now in
    let l = c.loop-claim in
    sym (
    l.invariant.0 ∙ ap (first_flaw t (l.at + 1)) c.in-Some.ensures.claim
    ∙ fails t (l.at + 1) (claim_said c.in-Some.claim) (parts_in c.in-Some.behind.now).claims c.in-Some-flaw_of.code (sym c.flaw_of.ensures.flaw ∙ c.in-Some-flaw_of.is)
    )

pub returns-clause-flaw : goal.returns-clause-flaw
returns-clause-flaw c = sym (c.loop-claim.invariant.0 ∙ ap (first_flaw c.args.present.now (c.loop-claim.at + 1)) c.in_default.ensures.none)
