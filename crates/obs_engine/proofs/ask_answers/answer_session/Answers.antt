use Rattle.std.proofs.Common.{◌∙◌, ap}
use Rattle.obs_case.specs.Tables.{Tables}
use Rattle.obs_engine.specs.Asks.{ask_reply, ask_text}
use Rattle.obs_engine.proofs.Asked.{appends_as}
use Rattle.obs_engine.proofs.Replied.{ask_status-is, replied_verdict}
use Rattle.obs_engine.proofs.ask_answers.answer_session.Goals as goal

pub print_ask-requires : goal.print_ask-requires
print_ask-requires g c = record { offered = λ e. c.status_of-status.ensures.offered ∙ c.requires.offered e }

pub returns : goal.returns
returns g c =
    let t = c.args.session.now.tables in
    let ask = c.args.ask in
    let text = ap (λ (x : Tables). ask_text ask x) c.status_of-status.ensures.tables in
    record {
      replied = replied_verdict (ask_reply ask t) c.print_ask.result c.status_of-status.result c.printed_status.result c.printed_status.ensures.status
          c.status_of-status.ensures.status (ask_status-is ask t) (appends_as text c.print_ask.ensures.appends);
    }
