-- Contents in a block.
use Rattle.std.proofs.Common.{zero, suc, [], ◌∷◌, length, map, ap, ◌∙◌, refl}
use Rattle.std.proofs.Math.Seq.{drop-append_seam, take-append_seam}
use Rattle.std.specs.List.{concat}
use Rattle.obs_io.specs.Contents.{content_at}
use Rattle.obs_io.specs.inner.Laws.{ContentsStandInBlock}

pub ContentsStandInBlock-holds : ContentsStandInBlock
unfolding content_at
ContentsStandInBlock-holds [] word = refl
ContentsStandInBlock-holds (content ∷ contents) zero = take-append_seam content (concat contents)
ContentsStandInBlock-holds (content ∷ contents) (suc word) =
    ap (λ rest. content_at rest (map length contents) word) (drop-append_seam content (concat contents)) ∙ ContentsStandInBlock-holds contents word
