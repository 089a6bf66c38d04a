-- The text is that of the tokens, with the names in place.
use Rattle.std.proofs.Common.{ℕ, List, map, ap, ◌∙◌}
use Rattle.std.specs.Borrow.{Bor}
use Rattle.serde_json.specs.Written.{compact_text}
use Rattle.csi_reports.specs.Public.Responses.{opened_entry}
use Rattle.csi_reports.proofs.WrittenSteps.{alone}
use Rattle.csi_reports.proofs.responses.opened_line.Goals as goal

pub returns : goal.returns
returns c =
    let see : Bor (List ℕ) → List ℕ = λ name. name.now in
    record {
      wanted = map see c.in_ok-wanted.wanted.items;
      of = c.in_ok-wanted.ensures;
      written = c.into_string.ensures (opened_entry c.args.session (map see c.deref.result.now)) (alone _ _ _ c.new-out.ensures c.in_ok-write_opened.ensures)
          ∙ ap (λ (lent : List (Bor (List ℕ))). compact_text (opened_entry c.args.session (map see lent))) c.deref.ensures.value;
    }
