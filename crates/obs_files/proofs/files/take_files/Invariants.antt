use Rattle.obs_files.specs.Words.{parts_of, words_of}
use Rattle.obs_files.proofs.Contents.{Reading}
use Rattle.obs_files.proofs.files.take_files.Given as goal

abbrev pub invariant-loop-k : goal.invariant-loop-k
invariant-loop-k g l =
    Reading l.limits (parts_of l.form) (words_of l.form) (g.F.Files.content l.fn.files) (g.F.Files.faults l.fn.files) (g.F.Files.steady l.fn.files)
    l.k (g.F.Files.content l.files) (g.F.Files.faults l.files) (g.F.Files.steady l.files) l.contents.items
