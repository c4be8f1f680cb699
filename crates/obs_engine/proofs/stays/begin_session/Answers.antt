use Rattle.std.proofs.Common.{◌≤◌, map, subst, sym}
use Rattle.std.specs.Prelude.{string_bytes}
use Rattle.obs_files.specs.Limits.{Limits, usual_limits}
use Rattle.obs_files.specs.Words.{form_of}
use Rattle.obs_engine.proofs.Ran.{begins_as, files_as, none_as, unread_as}
use Rattle.obs_engine.proofs.stays.begin_session.Goals as goal

pub begin_session_within-requires : goal.begin_session_within-requires
begin_session_within-requires g c = record { furthest = subst (λ (l : Limits). l.bytes ≤ g.F.Files.furthest) (sym c.usual.ensures.usual) g.met.F.Files.usual }

pub returns : goal.returns
returns g c =
    let same = c.usual.ensures.usual in
    let begun = c.begin_session_within.ensures in
    let form = form_of (map string_bytes c.args.words.now) in
    record {
      begins = λ file told. begins_as _ usual_limits same form file _ _ _ (begun.begins file (files_as _ usual_limits same form _ file told));
      room = λ file told reply rest not. begun.room file (files_as _ usual_limits same form _ file told) reply rest (none_as _ usual_limits same form file reply not);
      statuses = begun.statuses;
      silent = begun.silent;
      unread = begun.unread;
      memory = begun.memory;
      read = λ e. unread_as _ usual_limits same form _ _ _ _ (begun.read e);
      steady = begun.steady;
      quiet_files = begun.quiet_files;
      write = begun.write;
      quiet_output = begun.quiet_output;
    }
