use Rattle.obs_engine.proofs.program.run_within.Goals as goal

pub returns : goal.returns
returns g c =
    let ran = c.run_with_summary.ensures.ran in
    record {
      stated = ran.stated;
      complete = ran.complete;
      statuses = ran.statuses;
      read = ran.read;
      write = ran.write;
      quiet_files = ran.quiet_files;
      quiet_input = ran.quiet_input;
      quiet_output = ran.quiet_output;
      memory = ran.memory;
      memory_input = ran.memory_input;
      taken = ran.taken;
      input = c.run_with_summary.ensures.input;
    }
