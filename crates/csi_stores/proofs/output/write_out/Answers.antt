use Rattle.std.proofs.Common.{◌∙◌, sym, ap, ◌++◌, List, ℕ, take, drop, append_assoc, arith}
use Rattle.std.proofs.lemmas.List.{take-append-drop}
use Rattle.std.proofs.KnownBytes.{Appends-trans}
use Rattle.csi_stores.proofs.Failures.{taken-stays}
use Rattle.csi_stores.proofs.output.write_out.Goals as goal

pub loop-rest-preserved : goal.loop-rest-preserved
loop-rest-preserved g c =
    let contents = g.W.Write.contents in
    let i = c.loop-rest.invariant in
    let rest = c.loop-rest.rest.now in
    record {
      front = i.front ++ take c.in-Ok.n rest;
      parts = i.parts ∙ ap (λ (bytes : List ℕ). i.front ++ bytes) (sym (take-append-drop c.in-Ok.n rest)) ∙ sym (append_assoc i.front (take c.in-Ok.n rest) (drop c.in-Ok.n rest)) ∙ ap (λ (bytes : List ℕ). (i.front ++ take c.in-Ok.n rest) ++ bytes) (sym c.split_at.ensures.back);
      appended = Appends-trans (contents c.args.writer.now.inner) (contents c.loop-rest.writer.inner) (contents c.write.new.self.inner) i.front (take c.in-Ok.n rest) i.appended c.in-Ok.ensures.bytes.bytes;
      faults = omega (arith, i.faults, c.write.ensures.rises);
      quiet = taken-stays c.in-Ok.n rest c.loop-rest.writer.faults c.write.new.self.faults (omega arith) c.in-Ok.ensures.faults ∙ i.quiet;
    }
