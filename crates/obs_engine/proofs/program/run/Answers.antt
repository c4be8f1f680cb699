use Rattle.std.proofs.Common.{◌≤◌, map, subst, sym}
use Rattle.std.specs.Prelude.{string_bytes}
use Rattle.obs_files.specs.Limits.{Limits, usual_limits}
use Rattle.obs_files.specs.Words.{form_of}
use Rattle.obs_engine.proofs.Ran.{failed_as, front_as, tells_as}
use Rattle.obs_engine.proofs.program.run.Goals as goal

pub run_within-requires : goal.run_within-requires
run_within-requires g c = record { furthest = subst (λ (l : Limits). l.bytes ≤ g.F.Files.furthest) (sym c.usual.ensures.usual) g.met.F.Files.usual }

pub returns : goal.returns
returns g c =
    let same = c.usual.ensures.usual in
    let ran = c.run_within.ensures in
    let form = form_of (map string_bytes c.args.words.now) in
    record {
      stated = λ told tells. ran.stated told (tells_as _ usual_limits same form _ _ told tells);
      complete = λ told tells. ran.complete told (tells_as _ usual_limits same form _ _ told tells);
      statuses = ran.statuses;
      read = λ e. failed_as _ usual_limits same form _ _ _ _ _ _ _ _ _ (ran.read e);
      write = ran.write;
      quiet_files = ran.quiet_files;
      quiet_input = ran.quiet_input;
      quiet_output = ran.quiet_output;
      memory = ran.memory;
      memory_input = ran.memory_input;
      taken = λ takes bytes is. front_as _ usual_limits same form bytes _ _ (ran.taken takes bytes is);
      input = ran.input;
    }
