-- What the reader of all values says, the rows say.
use Rattle.std.proofs.Common.{◌∙◌, ap, sym, map, ℕ, List}
use Rattle.std.specs.Prelude.{option_map}
use Rattle.std.specs.Borrow.{Bor}
use Rattle.std.proofs.lemmas.Result.{IfOk-weaker}
use Rattle.clap.specs.Words.{all_of, found_of, matched_of, raw_values, rows_of}
use Rattle.csi_words.proofs.AllTexts.{all-rows, some-texts, no-texts}
use Rattle.csi_words.proofs.command_line.texts.Goals as goal

pub returns-in-Some : goal.returns-in-Some
returns-in-Some c =
    let found = found_of c.args.matches.now in
    let id = c.args.id.now in
    let see : Bor (List (Bor (List ℕ))) → List (List ℕ) = λ s. map (λ v. v.now) s.now in
    IfOk-weaker c.copied_texts.result _ _
    (λ texts is. is ∙ sym (some-texts (all_of id (rows_of found)) (option_map raw_values (matched_of found id)) (see c.in-Some.found) (all-rows found id) (sym c.get_strs.ensures ∙ ap (option_map see) c.in-Some.is)))
    c.copied_texts.ensures

pub returns-in-None : goal.returns-in-None
returns-in-None c =
    let found = found_of c.args.matches.now in
    let id = c.args.id.now in
    let see : Bor (List (Bor (List ℕ))) → List (List ℕ) = λ s. map (λ v. v.now) s.now in
    ap (map (λ (v : Bor (List ℕ)). v.now)) c.new.ensures.items
    ∙ sym (no-texts (all_of id (rows_of found)) (option_map raw_values (matched_of found id)) (all-rows found id) (sym c.get_strs.ensures ∙ ap (option_map see) c.in-None.is))
