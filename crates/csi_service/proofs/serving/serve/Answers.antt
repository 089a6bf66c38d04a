-- What was read are frames, of which those that are counted were answered.
use Rattle.std.proofs.Common.{◌∙◌, ap, ◌≤◌, ◌^◌, length, arith, refl}
use Rattle.std.specs.Io.KnownBytes.{IsAtEnd}
use Rattle.csi_stores.specs.Public.Counting.{HasRisen}
use Rattle.csi_service.specs.Public.Answering.{AnswersInRecord}
use Rattle.csi_service.specs.declared.serving.handling.CoreHandler.{CoreHandler}
use Rattle.csi_service.proofs.ServingEnds.{reader_stays, reader_failed, served, halted, all_answered}
use Rattle.csi_service.proofs.serving.serve.Goals as goal

pub read-requires : goal.read-requires
read-requires g c = record {
  begun = record { splitter = c.new-frames.ensures.splitter; count = c.new-frames.ensures.count; flushed = ap (λ (h : CoreHandler _). h.waiting.items) c.new-frames.ensures.handler ∙ c.new.ensures.items };
  room = omega arith;
  asks = λ gone read now consumed rests. c.requires.asks gone read now.store now.out consumed
      (all_answered (AnswersInRecord g.C.Core.is_fit g.C.Core.spells g.C.Core.parts_of g.C.Core.answers) g.C.Core.parts_of g.K.Keep.store g.W.Write.contents _ now read
      (record { out = c.new.ensures.out; parts = c.new.ensures.parts; items = c.new.ensures.items; committed = c.new.ensures.committed; answers = c.new.ensures.answers }) (rw c.new-frames.ensures.handler at rests));
}

pub returns-in-Ok-clause-serves : goal.returns-in-Ok-clause-serves
returns-in-Ok-clause-serves g c =
    let read = rw c.new-frames.ensures.handler at c.in-Ok.ensures.reads in
    rw (c.handler.ensures, c.handler-in-Ok.ensures) (
      read.read,
      read.consumed,
      (served (AnswersInRecord g.C.Core.is_fit g.C.Core.spells g.C.Core.parts_of g.C.Core.answers) g.C.Core.parts_of g.K.Keep.store g.W.Write.contents _ _ _ _ _ (record { out = c.new.ensures.out; parts = c.new.ensures.parts; items = c.new.ensures.items; committed = c.new.ensures.committed; answers = c.new.ensures.answers })
          (IsAtEnd (g.R.Source.remaining c.read.new.reader)) (HasRisen (g.R.Source.faults c.args.reader.now) (g.R.Source.faults c.read.new.reader)) (2 ^ 63 ≤ length read.read) tt read (λ at_end. at_end)).0,
    )

pub returns-in-Ok-clause-writer : goal.returns-in-Ok-clause-writer
returns-in-Ok-clause-writer g c =
    let read = rw c.new-frames.ensures.handler at c.in-Ok.ensures.reads in
    (served (AnswersInRecord g.C.Core.is_fit g.C.Core.spells g.C.Core.parts_of g.C.Core.answers) g.C.Core.parts_of g.K.Keep.store g.W.Write.contents _ _ _ _ _ (record { out = c.new.ensures.out; parts = c.new.ensures.parts; items = c.new.ensures.items; committed = c.new.ensures.committed; answers = c.new.ensures.answers }) (Unit {0}) (Unit {0}) (Unit {0}) tt read (λ at_end. tt)).2

pub returns-in-Ok-clause-follows : goal.returns-in-Ok-clause-follows
returns-in-Ok-clause-follows g c =
    let read = rw c.new-frames.ensures.handler at c.in-Ok.ensures.reads in
    (served (AnswersInRecord g.C.Core.is_fit g.C.Core.spells g.C.Core.parts_of g.C.Core.answers) g.C.Core.parts_of g.K.Keep.store g.W.Write.contents _ _ _ _ _ (record { out = c.new.ensures.out; parts = c.new.ensures.parts; items = c.new.ensures.items; committed = c.new.ensures.committed; answers = c.new.ensures.answers }) (Unit {0}) (Unit {0}) (Unit {0}) tt read (λ at_end. tt)).1

pub returns-clause-serves : goal.returns-clause-serves
returns-clause-serves g c =
    let read = rw c.new-frames.ensures.handler at c.in-Err.ensures.reads in
    rw (c.stopped.ensures, c.handler-in-Err.ensures) (
      read.read,
      read.consumed,
      (halted (AnswersInRecord g.C.Core.is_fit g.C.Core.spells g.C.Core.parts_of g.C.Core.answers) g.C.Core.parts_of g.K.Keep.store g.W.Write.contents _ _ _ _ _ (record { out = c.new.ensures.out; parts = c.new.ensures.parts; items = c.new.ensures.items; committed = c.new.ensures.committed; answers = c.new.ensures.answers })
          (IsAtEnd (g.R.Source.remaining c.read.new.reader)) (HasRisen (g.R.Source.faults c.args.reader.now) (g.R.Source.faults c.read.new.reader)) (2 ^ 63 ≤ length read.read) c.in-Err.stop read (λ at_end. at_end)
          (reader_failed (g.R.Source.faults c.args.reader.now) (g.R.Source.faults c.read.new.reader) c.in-Err.stop c.in-Err.ensures.reader) (λ many. many)).0,
    )

pub returns-clause-reader : goal.returns-clause-reader
returns-clause-reader g c = rw c.stopped.ensures (reader_stays (g.R.Source.faults c.args.reader.now) (g.R.Source.faults c.read.new.reader) c.handler-in-Err.result.now.waiting.committed c.in-Err.stop c.in-Err.ensures.reader)

pub returns-clause-writer : goal.returns-clause-writer
returns-clause-writer g c =
    let read = rw c.new-frames.ensures.handler at c.in-Err.ensures.reads in
    rw c.stopped.ensures
    (halted (AnswersInRecord g.C.Core.is_fit g.C.Core.spells g.C.Core.parts_of g.C.Core.answers) g.C.Core.parts_of g.K.Keep.store g.W.Write.contents _ _ _ _ _ (record { out = c.new.ensures.out; parts = c.new.ensures.parts; items = c.new.ensures.items; committed = c.new.ensures.committed; answers = c.new.ensures.answers }) (Unit {0}) (Unit {0}) (Unit {0}) c.in-Err.stop read (λ e. tt) (λ e. tt) (λ e. tt)).2

pub returns-clause-follows : goal.returns-clause-follows
returns-clause-follows g c =
    let read = rw c.new-frames.ensures.handler at c.in-Err.ensures.reads in
    (halted (AnswersInRecord g.C.Core.is_fit g.C.Core.spells g.C.Core.parts_of g.C.Core.answers) g.C.Core.parts_of g.K.Keep.store g.W.Write.contents _ _ _ _ _ (record { out = c.new.ensures.out; parts = c.new.ensures.parts; items = c.new.ensures.items; committed = c.new.ensures.committed; answers = c.new.ensures.answers }) (Unit {0}) (Unit {0}) (Unit {0}) c.in-Err.stop read (λ e. tt) (λ e. tt) (λ e. tt)).1
