use Rattle.obs_io.proofs.blocks.files.+content_of.Given as goal

abbrev pub decreases-content_of : goal.decreases-content_of
decreases-content_of l = l.word
