use Rattle.std.proofs.Common.{◌≡◌, ◌<◌, ℕ, true, nat_eq, length, get_or, subst, arith}
use Rattle.std.proofs.lemmas.Bool.Decides.{nat_tests}
use Rattle.obs_matroid.specs.Lists.{In}
use Rattle.obs_matroid.proofs.Contained.{In-get_or}
use Rattle.obs_cert.proofs.hubs.stands.Goals as goal

same : (x y : ℕ) → nat_eq x y ≡ true → x ≡ y
same x y t = grind (arith, nat_tests)

pub returns : goal.returns
returns c =
    let list = c.args.list.now in
    let place = get_or c.args.places.now c.args.v 0 in
    let low : place < length list = omega arith in
    record { listed = λ t. subst (λ (u : ℕ). In u list) (same (get_or list place 0) c.args.v t) (In-get_or list place 0 low) }
