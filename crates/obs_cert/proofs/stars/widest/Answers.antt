use Rattle.std.proofs.Common.{◌≡◌, ◌∷◌, ℕ, List, ◌∙◌, ap, subst, inl, inr}
use Rattle.obs_case.specs.Tables.{Tables}
use Rattle.obs_matroid.specs.Lists.{In}
use Rattle.obs_cert.specs.Claims.{Item}
use Rattle.obs_cert.specs.Numbered.{item_of, items_of}
use Rattle.obs_cert.specs.inner.Said.{item_said}
use Rattle.obs_cert.proofs.stars.widest.Goals as goal

pub loop-item-init : goal.loop-item-init
loop-item-init c = rw c.into_iter-item-iterator.ensures.into_iter_gives (λ m i. i, tt, tt)

pub loop-item-preserved : goal.loop-item-preserved
loop-item-preserved c =
    let l = c.loop-item in
    let t = c.args.present.now in
    let is : c.item_of.result ≡ item_of t (item_said c.in-Some.item) = c.item_of.ensures.number ∙ ap (λ (x : Tables). item_of x (item_said c.in-Some.item)) c.case-case.ensures.case in
    let inside : (m : ℕ) → In m (items_of t (item_said c.in-Some.item ∷ c.next.new.self)) → In m (items_of t c.args.items) =
    subst (λ (is : List Item). (m : ℕ) → In m (items_of t is) → In m (items_of t c.args.items)) c.in-Some.ensures.steps l.invariant.0 in (
      λ m i. inside m (inr i),
      c.wider-widest.ensures.injection l.invariant.1,
      c.wider-widest.ensures.listed (items_of t c.args.items) (inside c.item_of.result (inl is)) l.invariant.2,
    )
