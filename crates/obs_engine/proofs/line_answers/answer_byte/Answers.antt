use Rattle.std.proofs.Common.{◌≡◌, ◌∙◌, ap, List, subst, sym, true, ℕ}
use Rattle.std.proofs.lemmas.List.{append-nil}
use Rattle.obs_script.specs.Gathered.{content_of}
use Rattle.obs_script.specs.inner.Gathered.{Holds}
use Rattle.obs_text.specs.Lines.{is_feed}
use Rattle.obs_engine.specs.Lines.{line_text, lines_case, lines_text}
use Rattle.obs_engine.proofs.Asked.{appends_as}
use Rattle.obs_engine.proofs.Lined.{feed_ended, feed_fed}
use Rattle.obs_engine.proofs.line_answers.answer_byte.Goals as goal

pub returns-in-Ok-clause-tables : goal.returns-in-Ok-clause-tables
returns-in-Ok-clause-tables g c = λ line holds.
    let o = c.args.session.now.offered in
    let t = c.args.session.now.tables in
    let feed : is_feed c.args.byte ≡ true = sym c.feed.ensures.ends ∙ c.if-feed.true in
    let here : Holds c.feed.new.self line = subst (λ (x : List ℕ). Holds c.feed.new.self x) (feed_fed line c.args.byte feed) (c.feed.ensures.added line holds) in
    c.in-Ok.ensures.tables line here ∙ ap (λ (ls : List (List ℕ)). lines_case o t ls) (sym (feed_ended line c.args.byte feed))

pub returns-in-Ok-clause-appends : goal.returns-in-Ok-clause-appends
returns-in-Ok-clause-appends g c = λ line holds.
    let o = c.args.session.now.offered in
    let t = c.args.session.now.tables in
    let feed : is_feed c.args.byte ≡ true = sym c.feed.ensures.ends ∙ c.if-feed.true in
    let here : Holds c.feed.new.self line = subst (λ (x : List ℕ). Holds c.feed.new.self x) (feed_fed line c.args.byte feed) (c.feed.ensures.added line holds) in
    appends_as (sym (append-nil (line_text o t (content_of line))) ∙ ap (λ (ls : List (List ℕ)). lines_text o t ls) (sym (feed_ended line c.args.byte feed))) (c.in-Ok.ensures.appends line here)

pub returns-in-Err-clause-tables : goal.returns-in-Err-clause-tables
returns-in-Err-clause-tables g c = λ line holds.
    let o = c.args.session.now.offered in
    let t = c.args.session.now.tables in
    let feed : is_feed c.args.byte ≡ true = sym c.feed.ensures.ends ∙ c.if-feed.true in
    let here : Holds c.feed.new.self line = subst (λ (x : List ℕ). Holds c.feed.new.self x) (feed_fed line c.args.byte feed) (c.feed.ensures.added line holds) in
    c.in-Err.ensures.tables line here ∙ ap (λ (ls : List (List ℕ)). lines_case o t ls) (sym (feed_ended line c.args.byte feed))

pub returns-in-Err-clause-appends : goal.returns-in-Err-clause-appends
returns-in-Err-clause-appends g c = λ line holds.
    let o = c.args.session.now.offered in
    let t = c.args.session.now.tables in
    let feed : is_feed c.args.byte ≡ true = sym c.feed.ensures.ends ∙ c.if-feed.true in
    let here : Holds c.feed.new.self line = subst (λ (x : List ℕ). Holds c.feed.new.self x) (feed_fed line c.args.byte feed) (c.feed.ensures.added line holds) in
    appends_as (sym (append-nil (line_text o t (content_of line))) ∙ ap (λ (ls : List (List ℕ)). lines_text o t ls) (sym (feed_ended line c.args.byte feed))) (c.in-Err.ensures.appends line here)
