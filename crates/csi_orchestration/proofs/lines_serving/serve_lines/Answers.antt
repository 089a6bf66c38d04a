-- What was read are lines, of which those that are counted were answered.
use Rattle.std.proofs.Common.{◌∙◌, ap, ◌≤◌, ◌^◌, length, arith}
use Rattle.std.specs.Io.KnownBytes.{IsAtEnd}
use Rattle.csi_stores.specs.Public.Counting.{HasRisen}
use Rattle.csi_orchestration.specs.Public.LinesAnswering.{AnswersInRecord}
use Rattle.csi_orchestration.specs.declared.lines_serving.handling.ResponderHandler.{ResponderHandler}
use Rattle.csi_orchestration.proofs.LinesServed.{reader_stays, reader_failed, served, halted, all_answered}
use Rattle.csi_orchestration.proofs.lines_serving.serve_lines.Goals as goal

pub read-requires : goal.read-requires
read-requires g c = record {
  begun = record { buffer = c.new-lines.ensures.buffer; count = c.new-lines.ensures.count; flushed = ap (λ (h : ResponderHandler _). h.waiting.items) c.new-lines.ensures.handler ∙ c.new.ensures.items };
  room = omega arith;
  asks = λ gone read now consumed rests. c.requires.asks gone read now.store now.out consumed
      (all_answered (AnswersInRecord g.C.Responder.is_fit g.C.Responder.spells g.C.Responder.parts_of g.C.Responder.answers) g.C.Responder.parts_of g.K.Keep.store g.W.Write.contents _ now read
      (record { out = c.new.ensures.out; parts = c.new.ensures.parts; items = c.new.ensures.items; committed = c.new.ensures.committed; answers = c.new.ensures.answers }) (rw c.new-lines.ensures.handler at rests));
}

pub returns-in-Ok-clause-serves : goal.returns-in-Ok-clause-serves
returns-in-Ok-clause-serves g c =
    let read = rw c.new-lines.ensures.handler at c.in-Ok.ensures.reads in
    rw c.handler.ensures (
      read.read,
      read.consumed,
      (served (AnswersInRecord g.C.Responder.is_fit g.C.Responder.spells g.C.Responder.parts_of g.C.Responder.answers) g.C.Responder.parts_of g.K.Keep.store g.W.Write.contents g.C.Responder.is_older _ _ _ _ _ (record { out = c.new.ensures.out; parts = c.new.ensures.parts; items = c.new.ensures.items; committed = c.new.ensures.committed; answers = c.new.ensures.answers })
          (IsAtEnd (g.R.Source.remaining c.read.new.reader)) (HasRisen (g.R.Source.faults c.args.reader.now) (g.R.Source.faults c.read.new.reader)) (2 ^ 63 ≤ length read.read) tt read (λ at_end. at_end)).0,
    )

pub returns-in-Ok-clause-writer : goal.returns-in-Ok-clause-writer
returns-in-Ok-clause-writer g c =
    let read = rw c.new-lines.ensures.handler at c.in-Ok.ensures.reads in
    (served (AnswersInRecord g.C.Responder.is_fit g.C.Responder.spells g.C.Responder.parts_of g.C.Responder.answers) g.C.Responder.parts_of g.K.Keep.store g.W.Write.contents g.C.Responder.is_older _ _ _ _ _ (record { out = c.new.ensures.out; parts = c.new.ensures.parts; items = c.new.ensures.items; committed = c.new.ensures.committed; answers = c.new.ensures.answers }) (Unit {0}) (Unit {0}) (Unit {0}) tt read (λ at_end. tt)).2

pub returns-in-Ok-clause-follows : goal.returns-in-Ok-clause-follows
returns-in-Ok-clause-follows g c =
    let read = rw c.new-lines.ensures.handler at c.in-Ok.ensures.reads in
    (served (AnswersInRecord g.C.Responder.is_fit g.C.Responder.spells g.C.Responder.parts_of g.C.Responder.answers) g.C.Responder.parts_of g.K.Keep.store g.W.Write.contents g.C.Responder.is_older _ _ _ _ _ (record { out = c.new.ensures.out; parts = c.new.ensures.parts; items = c.new.ensures.items; committed = c.new.ensures.committed; answers = c.new.ensures.answers }) (Unit {0}) (Unit {0}) (Unit {0}) tt read (λ at_end. tt)).1

pub returns-clause-serves : goal.returns-clause-serves
returns-clause-serves g c =
    let read = rw c.new-lines.ensures.handler at c.in-Err.ensures.reads in
    rw (c.stopped.ensures, c.handler-handler.ensures) (
      read.read,
      read.consumed,
      (halted (AnswersInRecord g.C.Responder.is_fit g.C.Responder.spells g.C.Responder.parts_of g.C.Responder.answers) g.C.Responder.parts_of g.K.Keep.store g.W.Write.contents g.C.Responder.is_older _ _ _ _ _ (record { out = c.new.ensures.out; parts = c.new.ensures.parts; items = c.new.ensures.items; committed = c.new.ensures.committed; answers = c.new.ensures.answers })
          (IsAtEnd (g.R.Source.remaining c.read.new.reader)) (HasRisen (g.R.Source.faults c.args.reader.now) (g.R.Source.faults c.read.new.reader)) (2 ^ 63 ≤ length read.read) c.in-Err.stop read (λ at_end. at_end)
          (reader_failed (g.R.Source.faults c.args.reader.now) (g.R.Source.faults c.read.new.reader) c.in-Err.stop c.in-Err.ensures.reader) (λ many. many)).0,
    )

pub returns-clause-reader : goal.returns-clause-reader
returns-clause-reader g c = rw c.stopped.ensures (reader_stays (g.R.Source.faults c.args.reader.now) (g.R.Source.faults c.read.new.reader) c.handler-handler.result.now.waiting.committed c.handler-handler.result.now.is_older c.in-Err.stop c.in-Err.ensures.reader)

pub returns-clause-writer : goal.returns-clause-writer
returns-clause-writer g c =
    let read = rw c.new-lines.ensures.handler at c.in-Err.ensures.reads in
    rw (c.stopped.ensures, c.handler-handler.ensures)
    (halted (AnswersInRecord g.C.Responder.is_fit g.C.Responder.spells g.C.Responder.parts_of g.C.Responder.answers) g.C.Responder.parts_of g.K.Keep.store g.W.Write.contents g.C.Responder.is_older _ _ _ _ _ (record { out = c.new.ensures.out; parts = c.new.ensures.parts; items = c.new.ensures.items; committed = c.new.ensures.committed; answers = c.new.ensures.answers }) (Unit {0}) (Unit {0}) (Unit {0}) c.in-Err.stop read (λ e. tt) (λ e. tt) (λ e. tt)).2

pub returns-clause-follows : goal.returns-clause-follows
returns-clause-follows g c =
    let read = rw c.new-lines.ensures.handler at c.in-Err.ensures.reads in
    (halted (AnswersInRecord g.C.Responder.is_fit g.C.Responder.spells g.C.Responder.parts_of g.C.Responder.answers) g.C.Responder.parts_of g.K.Keep.store g.W.Write.contents g.C.Responder.is_older _ _ _ _ _ (record { out = c.new.ensures.out; parts = c.new.ensures.parts; items = c.new.ensures.items; committed = c.new.ensures.committed; answers = c.new.ensures.answers }) (Unit {0}) (Unit {0}) (Unit {0}) c.in-Err.stop read (λ e. tt) (λ e. tt) (λ e. tt)).1
