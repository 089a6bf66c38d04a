-- The pieces are one line, behind what was there.
use Rattle.std.proofs.Common.{◌∙◌, ap, rules, ℕ, List, [], ◌∷◌, ◌++◌}
use Rattle.std.specs.Fmt.{decimal}
use Rattle.csi_streams.specs.Public.Shown.{frame_words}
use Rattle.csi_streams.specs.Private.Showing.{after_blanks}
use Rattle.csi_streams.proofs.ShownLines.{line-parts}
use Rattle.csi_streams.proofs.showing.append_line.Goals as goal

pub returns-in_err-extend_from_slice-clause-err : goal.returns-in_err-extend_from_slice-clause-err
returns-in_err-extend_from_slice-clause-err c = search rules

pub returns-clause-ok : goal.returns-clause-ok
returns-clause-ok c =
    let text = decimal c.args.place ++ (after_blanks (frame_words c.args.frame.now) ++ 10 ∷ []) in
    c.in_ok-extend_from_slice.ensures.items
    ∙ ap (λ (bytes : List ℕ). c.args.out.now.items ++ bytes)
    (c.as_bytes.ensures.value ∙ c.in_ok-writeln.ensures.bytes ∙ ap (λ (front : List ℕ). front ++ text) c.clear.ensures.bytes ∙ line-parts c.args.place c.args.frame.now)
