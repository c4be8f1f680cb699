use Rattle.std.proofs.Common.{sym, ◌∙◌}
use Rattle.obs_io.proofs.Contents.{content_behind, content_here, content_none}
use Rattle.obs_io.proofs.blocks.files.+content_of.Goals as goal

pub returns-in_default : goal.returns-in_default
returns-in_default t c = record { content = sym (content_none c.args.bytes.now c.args.lengths.now c.args.word c.in_default.ensures.value) }

pub returns-then-word-eq0 : goal.returns-then-word-eq0
returns-then-word-eq0 t c = record {
  content = rw c.min-count.ensures (sym (content_here c.args.bytes.now c.args.lengths.now c.args.word c.in-Some.n.now c.in-Some.ensures.value c.if-word-eq0.true));
}

pub returns : goal.returns
returns t c = record {
  content =
      c.content_of.ensures.content
      ∙ sym (content_behind c.args.bytes.now c.args.lengths.now c.args.word c.in-Some.n.now c.min-count.result c.in-Some.ensures.value c.if-word-eq0.false c.min-count.ensures);
}
