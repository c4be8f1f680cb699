use Rattle.std.proofs.Common.{◌≡◌, ap, ◌∙◌}
use Rattle.obs_script.specs.Gathered.{content_of, is_comment}
use Rattle.obs_script.specs.inner.Gathered.{is_passed}
use Rattle.obs_script.proofs.HeldLemmas.{is_comment-some, is_passed-held}
use Rattle.obs_script.proofs.gather.Gather.passed.Goals as goal

pub returns-in-len1-up : goal.returns-in-len1-up
returns-in-len1-up c = record {
  passed = λ line holds.
      let content : c.without_return.result.now ≡ content_of c.args.self.now = c.without_return.ensures.stripped ∙ ap content_of c.self.view_is in
      is_comment-some c.without_return.result.now c.in-len1-up.len_at_least ∙ ap is_comment content ∙ ap is_passed holds ∙ is_passed-held line;
}
