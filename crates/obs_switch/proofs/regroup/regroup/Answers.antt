use Rattle.std.proofs.Common.{◌≡◌, ℕ, List, length, get_or, set, refl, sym, subst, arith}
use Rattle.std.proofs.lemmas.List.{set-get_or}
use Rattle.obs_switch.specs.inner.Groups.{AreGroups}
use Rattle.obs_switch.proofs.regroup.regroup.Goals.{then-old-key, else-old-key+then-key-old, else-old-key+else-key-old}
use Rattle.obs_switch.proofs.regroup.regroup.Goals as goal

pub regroup_back-requires-clause-few : goal.regroup_back-requires-clause-few
regroup_back-requires-clause-few c = c.requires.few

pub regroup_back-requires-clause-room : goal.regroup_back-requires-clause-room
regroup_back-requires-clause-room c = c.requires.room

pub regroup_back-requires-clause-item : goal.regroup_back-requires-clause-item
regroup_back-requires-clause-item c = c.requires.item

pub regroup_back-requires-clause-above : goal.regroup_back-requires-clause-above
regroup_back-requires-clause-above c = c.if-old-key.true

pub regroup_back-requires-clause-key : goal.regroup_back-requires-clause-key
regroup_back-requires-clause-key c = c.requires.key

pub regroup_back-requires-clause-groups : goal.regroup_back-requires-clause-groups
regroup_back-requires-clause-groups c = c.requires.groups

pub regroup_front-requires-clause-few : goal.regroup_front-requires-clause-few
regroup_front-requires-clause-few c = c.requires.few

pub regroup_front-requires-clause-room : goal.regroup_front-requires-clause-room
regroup_front-requires-clause-room c = c.requires.room

pub regroup_front-requires-clause-item : goal.regroup_front-requires-clause-item
regroup_front-requires-clause-item c = c.requires.item

pub regroup_front-requires-clause-below : goal.regroup_front-requires-clause-below
regroup_front-requires-clause-below c = c.if-key-old.true

pub regroup_front-requires-clause-old_key : goal.regroup_front-requires-clause-old_key
regroup_front-requires-clause-old_key c = c.requires.old_key

pub regroup_front-requires-clause-groups : goal.regroup_front-requires-clause-groups
regroup_front-requires-clause-groups c = c.requires.groups

pub returns-clause-keys : goal.returns-clause-keys
returns-clause-keys c = refl

pub returns-clause-groups : goal.returns-clause-groups
returns-clause-groups c =
    let keys = c.args.keys.now in
    let item = c.args.item in
    let count = length c.args.starts.now in
    elim c.if-old-key.branch [
      | then-old-key w ↦ rw (w.members-is, w.starts-is) w.regroup_back.ensures.groups
      | else-old-key+then-key-old w ↦ rw (w.members-is, w.starts-is) w.regroup_front.ensures.groups
      | else-old-key+else-key-old w ↦
          let f = w.if-old-key.false in
          let e = w.if-key-old.false in
          let same : get_or keys item 0 ≡ c.args.key = omega (arith, f, e) in
          rw (w.members-is, w.starts-is) (subst (λ (k : ℕ). AreGroups (set keys item k) c.args.members.now c.args.starts.now count) same
          (subst (λ (ks : List ℕ). AreGroups ks c.args.members.now c.args.starts.now count) (sym (set-get_or keys item 0)) c.requires.groups))
    ]
