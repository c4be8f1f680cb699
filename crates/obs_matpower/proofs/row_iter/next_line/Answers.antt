use Rattle.std.proofs.Common.{◌≡◌, Bool, true, false, not, ◌&&◌, refl, sym, ap, ◌∙◌}
use Rattle.std.specs.List.{list_any}
use Rattle.obs_text.specs.Lines.{is_feed, lines_of}
use Rattle.obs_matpower.specs.Lines.{without_comment}
use Rattle.obs_matpower.proofs.TextLemmas.{after_line-none, first_code-content, first_content}
use Rattle.obs_matpower.proofs.row_iter.next_line.Goals as goal
use Rattle.obs_matpower.proofs.row_iter.next_line.Goals.{else-ended-via-then-ended+else-not-contains, else-ended-via-else-ended}

pub returns-then-not-contains-clause-rest : goal.returns-then-not-contains-clause-rest
returns-then-not-contains-clause-rest c =
    let none : list_any is_feed c.args.text.now ≡ false = sym c.contains.ensures.value ∙ c.if-not-contains.true in
    sym (after_line-none c.args.text.now none)

pub returns-in-Some-clause-code : goal.returns-in-Some-clause-code
returns-in-Some-clause-code c =
    let text = c.args.text.now in
    let plain : (c.args.ended && not (list_any is_feed text)) ≡ false = elim c.else-ended.branch [
      | else-ended-via-then-ended+else-not-contains w ↦
          (let there : list_any is_feed text ≡ true = sym w.contains.ensures.value ∙ w.if-not-contains.false in rw there (both c.args.ended))
      | else-ended-via-else-ended w ↦ (let plain : c.args.ended ≡ false = w.if-ended.false in rw plain)
    ] in
    c.without_comment-in-Some.ensures.code
    ∙ ap without_comment (first_content text c.in-Some.line.now c.next.new.self (sym (ap lines_of c.lines-rest.ensures.bytes) ∙ c.in-Some.ensures.steps.first))
    ∙ sym (first_code-content c.args.ended text plain)
  where
    both : (b : Bool) → (b && false) ≡ false
    both true = refl
    both false = refl
