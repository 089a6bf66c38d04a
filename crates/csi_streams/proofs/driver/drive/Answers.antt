use Rattle.std.proofs.Common.{◌≡◌, ◌∙◌, sym, subst, arith, ◌++◌, ℕ, List, Option, take, length-append}
use Rattle.std.specs.Io.KnownBytes.{Consumes}
use Rattle.std.proofs.KnownBytes.{Consumes-trans}
use Rattle.csi_streams.proofs.Streams.{AreBytes-both}
use Rattle.csi_streams.proofs.driver.drive.Goals as goal

-- what was read, and a piece of a buffer, was read
consumed-more : (left mid now : Option (List ℕ)) (fed piece buffer : List ℕ) (n : ℕ) → Consumes left mid fed → Consumes mid now (take n buffer) → piece ≡ take n buffer → Consumes left now (fed ++ piece)
consumed-more left mid now fed piece buffer n before more is = subst (λ (bytes : List ℕ). Consumes left now (fed ++ bytes)) (sym is) (Consumes-trans left mid now fed (take n buffer) before more)

-- it is asked where all that it gave was taken, and nothing waits
pub give-requires : goal.give-requires
give-requires g c =
    let i = c.loop-read.invariant.taken in
    c.requires.asks c.loop-read.reader i.0 (record { own = c.loop-read.consumer; store = c.loop-read.store; out = c.loop-read.out }) i.2 i.5

pub loop-read-preserved : goal.loop-read-preserved
loop-read-preserved g c =
    let i = c.loop-read.invariant.taken in
    let remaining = g.R.Source.remaining in
    let piece = c.split_at.result.0.now in
    record {
      taken = (
        i.0 ++ piece,
        AreBytes-both i.0 piece i.1 c.take.ensures.bytes,
        consumed-more (remaining c.args.reader.now) (remaining c.loop-read.reader) (remaining c.give.new.self) i.0 piece c.give.new.piece c.in-Ok.n i.2 c.in-Ok.ensures.bytes.0 c.split_at.ensures.front,
        omega (arith, i.3, c.split_at.ensures.front_len, length-append i.0 piece),
        omega (arith, i.3, c.loop-read-test.true, c.split_at.ensures.front_len, length-append i.0 piece),
        c.in-Ok-take.ensures.takes (record { own = c.args.consumer.now; store = c.args.store.now; out = c.args.out.now }) i.0 i.5 (omega (arith, i.3, c.loop-read-test.true, c.split_at.ensures.front_len)),
      );
      room = c.give.auto.piece ∙ c.loop-read.invariant.room;
      quiet = c.in-Ok.ensures.faults ∙ c.loop-read.invariant.quiet;
    }

pub returns-in-Err-take-clause-drives : goal.returns-in-Err-take-clause-drives
returns-in-Err-take-clause-drives g c =
    let i = c.loop-read.invariant.taken in
    let remaining = g.R.Source.remaining in
    let piece = c.split_at.result.0.now in
    record {
      read = i.0 ++ piece;
      are = AreBytes-both i.0 piece i.1 c.take.ensures.bytes;
      few = omega (arith, i.3, c.loop-read-test.true, c.split_at.ensures.front_len, length-append i.0 piece);
      consumed = consumed-more (remaining c.args.reader.now) (remaining c.loop-read.reader) (remaining c.give.new.self) i.0 piece c.give.new.piece c.in-Ok.n i.2 c.in-Ok.ensures.bytes.0 c.split_at.ensures.front;
      ends = c.in-Err-take.ensures.takes (record { own = c.args.consumer.now; store = c.args.store.now; out = c.args.out.now }) i.0 i.5 (omega (arith, i.3, c.loop-read-test.true, c.split_at.ensures.front_len));
    }
