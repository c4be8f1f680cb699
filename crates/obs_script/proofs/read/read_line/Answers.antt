use Rattle.std.proofs.Common.{◌≡◌, ◌≢◌, None, Some, length, sym, ap, ◌∙◌}
use Rattle.obs_text.specs.Names.{is_name}
use Rattle.obs_script.specs.Commands.{ask_of, command_word, edit_of, name_in}
use Rattle.obs_script.specs.inner.Commands.{said_of}
use Rattle.obs_script.proofs.WordLemmas.{with_bad_name, with_name, without_name}
use Rattle.obs_script.proofs.read.read_line.Goals as goal

pub returns-then-word-line-clause-refused : goal.returns-then-word-line-clause-refused
returns-then-word-line-clause-refused c =
    let line = c.args.line.now in
    let edit = said_of c.in-Some-edit.command in
    let no_ask : ask_of line ≡ None = sym c.ask.ensures.ask ∙ c.in_default.is in
    let is : edit_of (command_word line) (name_in line) ≡ Some edit = sym (c.in-Some-edit.ensures.edit ∙ ap (λ w. edit_of w c.split_word.result.1.now) c.split_word.ensures.word ∙ ap (edit_of (command_word line)) c.split_word.ensures.name) in
    without_name line edit c.if-line-gt-LONGEST.false no_ask is (sym (ap length c.split_word.ensures.word) ∙ c.if-word-line.true)

pub returns-in-Some-name_of-clause-command : goal.returns-in-Some-name_of-clause-command
returns-in-Some-name_of-clause-command c =
    let line = c.args.line.now in
    let edit = said_of c.in-Some-edit.command in
    let no_ask : ask_of line ≡ None = sym c.ask.ensures.ask ∙ c.in_default.is in
    let is : edit_of (command_word line) (name_in line) ≡ Some edit = sym (c.in-Some-edit.ensures.edit ∙ ap (λ w. edit_of w c.split_word.result.1.now) c.split_word.ensures.word ∙ ap (edit_of (command_word line)) c.split_word.ensures.name) in
    let part : length (command_word line) ≢ length line = λ e. c.if-word-line.false (ap length c.split_word.ensures.word ∙ e) in
    with_name line edit c.if-line-gt-LONGEST.false no_ask is part (sym (c.in-Some-name_of.ensures.name ∙ ap is_name c.split_word.ensures.name))

pub returns-in-None-clause-refused : goal.returns-in-None-clause-refused
returns-in-None-clause-refused c =
    let line = c.args.line.now in
    let edit = said_of c.in-Some-edit.command in
    let no_ask : ask_of line ≡ None = sym c.ask.ensures.ask ∙ c.in_default.is in
    let is : edit_of (command_word line) (name_in line) ≡ Some edit = sym (c.in-Some-edit.ensures.edit ∙ ap (λ w. edit_of w c.split_word.result.1.now) c.split_word.ensures.word ∙ ap (edit_of (command_word line)) c.split_word.ensures.name) in
    let part : length (command_word line) ≢ length line = λ e. c.if-word-line.false (ap length c.split_word.ensures.word ∙ e) in
    with_bad_name line edit c.if-line-gt-LONGEST.false no_ask is part (sym (c.in-None.ensures.name ∙ ap is_name c.split_word.ensures.name))
