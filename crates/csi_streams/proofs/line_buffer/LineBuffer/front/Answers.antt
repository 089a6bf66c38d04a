use Rattle.std.proofs.Common.{◌-◌, ◌∙◌, ap, List, ℕ, subst, sym, length, slice_index, arith}
use Rattle.csi_streams.specs.declared.line_buffer.Front.TheVariants as fronts
use Rattle.csi_streams.specs.Private.Lining.{IsFront}
use Rattle.csi_streams.specs.Private.Looked.{IsLookedThrough}
use Rattle.csi_streams.proofs.Fronts.{looked_further, long_front, line_front, part_front}
use Rattle.csi_streams.proofs.line_buffer.LineBuffer.front.Goals as goal
use Rattle.csi_streams.proofs.line_buffer.LineBuffer.front.Goals.{then-len-gt-LINE_ROOM, else-len-gt-LINE_ROOM+then-self-len, else-len-gt-LINE_ROOM+else-self-len}

pub returns-clause-front : goal.returns-clause-front
returns-clause-front c =
    let bytes : List ℕ = c.self.inside.bytes.items in
    let start = c.self.inside.start in
    let to = c.newline_from-self-inside.result in
    let e = c.newline_from-self-inside.ensures in
    let a = c.as_slice.ensures in
    let looked : IsLookedThrough bytes (length bytes) start to = looked_further bytes c.as_slice.result.now _ start c.self.inside.looked to c.self.invariant a.value a.len e.behind e.within e.none in
    let len_is = ap length a.value in
    elim c.if-len-gt-LINE_ROOM.branch [
      | then-len-gt-LINE_ROOM w ↦ rw w.result-is (subst (λ (kept : List ℕ). IsFront kept fronts.Long) c.self.view_is (long_front bytes start to looked w.if-len-gt-LINE_ROOM.true))
      | else-len-gt-LINE_ROOM+then-self-len w ↦
          rw w.result-is
          (subst (λ (kept : List ℕ). IsFront kept (fronts.Line (to - start))) c.self.view_is
          (line_front bytes start to looked (omega (arith, len_is)) (ap (λ (all : List ℕ). slice_index all to) (sym a.value) ∙ e.there (omega (arith, len_is))) w.if-len-gt-LINE_ROOM.false))
      | else-len-gt-LINE_ROOM+else-self-len w ↦
          rw w.result-is (subst (λ (kept : List ℕ). IsFront kept fronts.Part) c.self.view_is (part_front bytes start to looked (omega (arith, len_is)) w.if-len-gt-LINE_ROOM.false))
    ]
