use Rattle.std.proofs.Common.{◌≡◌, length, false, sym, ap, ◌∙◌, arith}
use Rattle.std.proofs.lemmas.List.{length-replicate}
use Rattle.obs_assign.proofs.Keeping.{replicate_at}
use Rattle.obs_assign.specs.inner.Assignment.{has_flag}
use Rattle.obs_exchange.specs.inner.Trail.{Trail}
use Rattle.obs_exchange.proofs.Beginning.{AreStarred-start, IsSearching-start}
use Rattle.obs_exchange.proofs.Upward.{AreClasses-own}
use Rattle.obs_exchange.proofs.find.start_anew.Goals as goal

pub returns-clause-resting : goal.returns-clause-resting
returns-clause-resting c =
    let r = c.requires.room in
    let over = c.args.over.now in
    let p = c.args.search.now in
    let cleared = c.clear.ensures.cleared in
    let len : length c.separate.new.self ≡ over.room = c.separate.ensures.length ∙ r.tops in
    record {
      running = rw (cleared, c.clear-2.ensures.cleared) (record {
        searching = IsSearching-start over c.requires.sound p.trail r.meters r.branches (rw cleared at c.clear.ensures.full);
        starred = AreStarred-start over _ _ r.stars;
        classes = AreClasses-own over _ c.separate.new.self len r.fits (λ k l. c.separate.ensures.own k (omega (arith, l, r.fits, len)));
      });
      done = ap (λ (t : Trail). t.head) cleared ∙ sym (ap (λ (t : Trail). t.tail) cleared);
    }

pub returns-clause-as_large : goal.returns-clause-as_large
returns-clause-as_large c =
    let p = c.args.search.now in
    record {
      meters = ap (λ (t : Trail). length t.marks) c.clear.ensures.cleared ∙ length-replicate (length p.trail.marks) false;
      branches = ap (λ (t : Trail). length t.walked) c.clear.ensures.cleared ∙ length-replicate (length p.trail.walked) false;
      stars = ap length c.clear-2.ensures.cleared ∙ length-replicate (length p.stars) 0;
      tops = c.separate.ensures.length;
    }

pub returns-clause-unmarked : goal.returns-clause-unmarked
returns-clause-unmarked c = λ m. ap (λ (t : Trail). has_flag t.marks m) c.clear.ensures.cleared ∙ replicate_at (length c.args.search.now.trail.marks) m false
