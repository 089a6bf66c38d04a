-- Member by member.
use Rattle.std.proofs.Common.{◌≡◌, ◌++◌, ◌∷◌, [], ap, refl, codes, subst, sym}
use Rattle.std.proofs.lemmas.Result.{on_ok_weaker}
use Rattle.json.specs.Token.{begin_object}
use Rattle.json.specs.Tree.{json_tokens}
use Rattle.serde_json.specs.Written.{outline}
use Rattle.csi_orchestrator.specs.declared.thing.Thing.{Thing}
use Rattle.csi_reports.specs.Public.Entries.{known_text, thing_entry}
use Rattle.csi_reports.proofs.WrittenSteps.{next, of_text}
use Rattle.csi_reports.proofs.things.Tuple2ThingKnownEntry.write.Goals as goal

pub returns-in_ok-put_text-in-Exists-2 : goal.returns-in_ok-put_text-in-Exists-2
returns-in_ok-put_text-in-Exists-2 c =
    let writes : Thing → Type 0 = λ thing. c.end_object.new.self ≡ c.args.out.now ++ json_tokens (outline (thing_entry (known_text c.args.self.now.1) thing)) in
    on_ok_weaker c.end_object.result
    (λ last. subst writes (sym c.in-Exists.is)
    (next _ _ _ _ (begin_object ∷ []) _ c.in_ok-begin_object.ensures refl
    (next _ _ _ _ _ _ c.in_ok-put_text.ensures (ap (of_text (codes "known")) c.known_text.ensures)
    (next _ _ _ _ _ _ c.in_ok-put_text-in-Exists.ensures (ap (of_text (codes "name")) c.as_str.ensures.value)
    (next _ _ _ _ (of_text (codes "thing") (codes "exists")) _ c.in_ok-put_text-in-Exists-2.ensures refl last)))))
    c.end_object.ensures

pub returns-in_ok-put_text-in-Attached-3 : goal.returns-in_ok-put_text-in-Attached-3
returns-in_ok-put_text-in-Attached-3 c =
    let writes : Thing → Type 0 = λ thing. c.end_object-in-Attached.new.self ≡ c.args.out.now ++ json_tokens (outline (thing_entry (known_text c.args.self.now.1) thing)) in
    on_ok_weaker c.end_object-in-Attached.result
    (λ last. subst writes (sym c.in-Attached.is)
    (next _ _ _ _ (begin_object ∷ []) _ c.in_ok-begin_object.ensures refl
    (next _ _ _ _ _ _ c.in_ok-put_text.ensures (ap (of_text (codes "known")) c.known_text.ensures)
    (next _ _ _ _ _ _ c.in_ok-put_text-in-Attached.ensures (ap (of_text (codes "name")) c.as_str-in-Attached.ensures.value)
    (next _ _ _ _ _ _ c.in_ok-put_text-in-Attached-2.ensures (ap (of_text (codes "node")) c.as_str-in-Attached-2.ensures.value)
    (next _ _ _ _ (of_text (codes "thing") (codes "attached")) _ c.in_ok-put_text-in-Attached-3.ensures refl last))))))
    c.end_object-in-Attached.ensures

pub returns-in_ok-put_text-in-Staged-3 : goal.returns-in_ok-put_text-in-Staged-3
returns-in_ok-put_text-in-Staged-3 c =
    let writes : Thing → Type 0 = λ thing. c.end_object-in-Staged.new.self ≡ c.args.out.now ++ json_tokens (outline (thing_entry (known_text c.args.self.now.1) thing)) in
    on_ok_weaker c.end_object-in-Staged.result
    (λ last. subst writes (sym c.in-Staged.is)
    (next _ _ _ _ (begin_object ∷ []) _ c.in_ok-begin_object.ensures refl
    (next _ _ _ _ _ _ c.in_ok-put_text.ensures (ap (of_text (codes "known")) c.known_text.ensures)
    (next _ _ _ _ _ _ c.in_ok-put_text-in-Staged.ensures (ap (of_text (codes "name")) c.as_str-in-Staged.ensures.value)
    (next _ _ _ _ _ _ c.in_ok-put_text-in-Staged-2.ensures (ap (of_text (codes "node")) c.as_str-in-Staged-2.ensures.value)
    (next _ _ _ _ (of_text (codes "thing") (codes "staged")) _ c.in_ok-put_text-in-Staged-3.ensures refl last))))))
    c.end_object-in-Staged.ensures

pub returns-in_ok-put_text-in-Published-4 : goal.returns-in_ok-put_text-in-Published-4
returns-in_ok-put_text-in-Published-4 c =
    let writes : Thing → Type 0 = λ thing. c.end_object-in-Published.new.self ≡ c.args.out.now ++ json_tokens (outline (thing_entry (known_text c.args.self.now.1) thing)) in
    on_ok_weaker c.end_object-in-Published.result
    (λ last. subst writes (sym c.in-Published.is)
    (next _ _ _ _ (begin_object ∷ []) _ c.in_ok-begin_object.ensures refl
    (next _ _ _ _ _ _ c.in_ok-put_text.ensures (ap (of_text (codes "known")) c.known_text.ensures)
    (next _ _ _ _ _ _ c.in_ok-put_text-in-Published.ensures (ap (of_text (codes "name")) c.as_str-in-Published.ensures.value)
    (next _ _ _ _ _ _ c.in_ok-put_text-in-Published-2.ensures (ap (of_text (codes "node")) c.as_str-in-Published-2.ensures.value)
    (next _ _ _ _ _ _ c.in_ok-put_text-in-Published-3.ensures (ap (of_text (codes "target")) c.as_str-in-Published-3.ensures.value)
    (next _ _ _ _ (of_text (codes "thing") (codes "published")) _ c.in_ok-put_text-in-Published-4.ensures refl last)))))))
    c.end_object-in-Published.ensures
