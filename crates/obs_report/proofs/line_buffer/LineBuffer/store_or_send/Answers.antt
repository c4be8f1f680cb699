use Rattle.std.proofs.Common.{inl, inr, length, ◌≡◌, ◌∙◌, [], ap, take, arith}
use Rattle.obs_report.specs.inner.Printed.{Buffered}
use Rattle.obs_report.proofs.Printing.{failed_printed, passed_printed, stored_printed}
use Rattle.obs_report.proofs.line_buffer.LineBuffer.store_or_send.Goals as goal

pub returns-then-bytes-gt-CAPACITY : goal.returns-then-bytes-gt-CAPACITY
returns-then-bytes-gt-CAPACITY g c =
    let sent = c.write_all-self-inside.ensures in
    let nothing : c.args.self.now.held ≡ [] = grind (arith, c.requires.room) in
    let none : take c.self.inside.len c.self.inside.bytes ≡ [] = ap (λ (v : Buffered). v.held) c.self.view_is ∙ nothing in
    record { printed = rw (← c.self.view_is, c.in-Ok.is) (passed_printed c.in-Ok.field-0 none sent.writes sent.cause sent.quiet (λ rest has. (sent.succeeds rest has, sent.room rest has))) }

pub hold-requires : goal.hold-requires
hold-requires g c = record { room = elim c.requires.room [ inl l ↦ l | inr none ↦ omega (arith, ap length none, c.if-bytes-gt-CAPACITY.false) ] }

pub returns-else-bytes-gt-CAPACITY : goal.returns-else-bytes-gt-CAPACITY
returns-else-bytes-gt-CAPACITY g c =
    record { printed = rw (c.hold.ensures.held, c.hold.ensures.outcome, ← c.self.view_is, c.in-Ok.is) (stored_printed c.in-Ok.field-0) }

pub returns-in_default : goal.returns-in_default
returns-in_default g c = record { printed = rw (← c.self.view_is, c.in_default.is) (failed_printed c.in_default.field-0) }
