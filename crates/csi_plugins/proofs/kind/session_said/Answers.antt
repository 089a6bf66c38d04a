-- What is printed of a number is read as that number.
use Rattle.std.proofs.Common.{◌≡◌, ◌∙◌, sym, ap, rules, Ok, true, string_bytes}
use Rattle.std.specs.Fmt.{decimal}
use Rattle.std.proofs.lemmas.Bool.{true≢false}
use Rattle.std.proofs.lemmas.Fmt.{parse-decimal}
use Rattle.csi_types.specs.Model.Same.{same_text}
use Rattle.csi_types.proofs.Equality.{same_text-tells}
use Rattle.csi_plugins.proofs.kind.session_said.Goals as goal

pub returns-in_default-clause-refused : goal.returns-in_default-clause-refused
returns-in_default-clause-refused c = λ session says.
    let read : c.parse.result ≡ Ok session = parse-decimal 64 session c.args.word.now c.parse.result says.0 says.0 says.1 c.parse.ensures.value.0 in
    let is = c.in_default.is in
    absurd (cc)

pub returns-clause-refused : goal.returns-clause-refused
returns-clause-refused c = λ session says.
    let read : c.parse.result ≡ Ok session = parse-decimal 64 session c.args.word.now c.parse.result says.0 says.0 says.1 c.parse.ensures.value.0 in
    let same : c.in-Ok.session ≡ session = (let is = c.in-Ok.is in cc) in
    let text : string_bytes c.in_ok-printed.printed ≡ decimal c.in-Ok.session = search rules in
    let shown : c.as_str.result.now ≡ c.args.word.now = c.as_str.ensures.value ∙ text ∙ ap decimal same ∙ sym says.1 in
    let equal : same_text c.as_str.result.now c.args.word.now ≡ true = (same_text-tells c.as_str.result.now c.args.word.now).1 shown in
    true≢false (sym equal ∙ sym c.if-eq.ensures)
