-- What the calls of a handle give, from what is done with what it has.
use Rattle.std.proofs.Common.{◌≡◌, ℕ, ◌-◌, List, [], length, Option, Some, None, is_some, true, false, Result, Ok, Err, IfOk, IfErr, refl, sym, ap, ◌∙◌, subst, inl, inr, arith}
use Rattle.std.proofs.lemmas.Bool.{true≢false}
use Rattle.std.proofs.lemmas.List.{length-drop}
use Rattle.csi_frames.specs.Public.Spelling.{spelling, BeginsWith}
use Rattle.csi_stores.specs.Public.Content.{all_changed}
use Rattle.csi_embedded.specs.declared.ending.CallEnding.{CallEnding}
use Rattle.csi_embedded.specs.declared.ending.CallEnding.TheVariants.{NoMemory, Empty, Full}
use Rattle.csi_embedded.specs.declared.embedded.Embedded.{Embedded}
use Rattle.csi_embedded.specs.Public.Plugins.{plugin_parts}
use Rattle.csi_embedded.specs.Public.Calls.{frame_front, told_changes, AnswersFrame, HasFailed, HasTold, AnswersRecord}
use Rattle.csi_embedded.specs.Private.Calls.{AnswersFront}
use Rattle.csi_embedded.specs.Public.Making.{Makes}
use Rattle.csi_embedded.specs.Private.Making.{GivesHandle}

-- a handle that has a plugin gets no other
pub full-made : (Is : Embedded → CallEnding → Type 0) (Why : CallEnding → Type 0) (old : Option Embedded) (number : ℕ) → is_some old ≡ true → number ≡ 3 → Makes Is Why old old number
full-made Is Why None number full is = absurd (true≢false (sym full))
full-made Is Why (Some embedded) number full is = inr (record { same = refl; ending = Full; is = is; why = refl })

-- an empty one gets what was made
pub put-made : (Is : Embedded → CallEnding → Type 0) (Why : CallEnding → Type 0) (old new : Option Embedded) (number : ℕ) (made : Result (Embedded × CallEnding) CallEnding)
    → is_some old ≡ false → IfOk made (λ m. Is m.0 m.1) → IfErr made Why → Why NoMemory → GivesHandle made new number → Makes Is Why old new number
put-made Is Why (Some embedded) new number made empty such why memory gives = absurd (true≢false empty)
put-made Is Why None new number (Ok m) empty such why memory (inl gives) = inl (record { empty = refl; made = m.0; has = gives.0; ending = m.1; is = gives.1; such = such })
put-made Is Why None new number (Ok m) empty such why memory (inr none) = inr (record { same = none.0; ending = NoMemory; is = none.1; why = memory })
put-made Is Why None new number (Err ending) empty such why memory gives = inr (record { same = gives.0; ending = ending; is = gives.1; why = why })

-- an empty handle answers nothing, tells nothing and has no record
pub empty-failed : (old new : Option Embedded) (bytes : List ℕ) (room number : ℕ) → None ≡ old → new ≡ None → number ≡ 2 → HasFailed old bytes room new number
empty-failed old new bytes room number empty none is =
    subst (λ (o : Option Embedded). HasFailed o bytes room new number) empty (subst (λ (n : Option Embedded). HasFailed None bytes room n number) (sym none) (record { ending = Empty; is = is; why = refl; remains = tt }))

-- an empty handle tells nothing
pub empty-told : (old : Option Embedded) (place key room count : ℕ) (bytes : List ℕ) (number : ℕ) → None ≡ old → number ≡ 2 → HasTold old place key room count bytes number
empty-told old place key room count bytes number empty is = subst (λ (o : Option Embedded). HasTold o place key room count bytes number) empty (record { ending = Empty; is = is; tells = refl })

-- an empty handle has no record
pub empty-record : (old : Option Embedded) (room count : ℕ) (bytes : List ℕ) (number : ℕ) → None ≡ old → number ≡ 2 → AnswersRecord old room count bytes number
empty-record old room count bytes number empty is = subst (λ (o : Option Embedded). AnswersRecord o room count bytes number) empty (record { ending = Empty; is = is; tells = refl })

-- a frame that the bytes begin with took those that aren't left: said of the bytes that were shown and kept, and of what stood before the reply
pub answered-next : (old new : Embedded) (bytes shown kept rest before reply : List ℕ) (left : ℕ) → shown ≡ frame_front bytes → kept ≡ shown → before ≡ []
    → AnswersFront old.plugin kept new.plugin rest before reply → left ≡ length rest
    → plugin_parts new.plugin ≡ all_changed (told_changes new) (plugin_parts old.plugin) → AnswersFrame old bytes (length shown - left) new reply
answered-next old new bytes shown kept rest before reply left is-front is-shown is-none answers is changed =
    let own : AnswersFront old.plugin shown new.plugin rest [] reply = subst (λ (b : List ℕ). AnswersFront old.plugin shown new.plugin rest b reply) is-none (subst (λ (k : List ℕ). AnswersFront old.plugin k new.plugin rest before reply) is-shown answers) in
    let size = length (spelling own.frame) in
    let used : size ≡ length shown - left = omega (arith, own.begins.within, is ∙ (ap length own.left ∙ length-drop size shown)) in
    record {
      frame = own.frame;
      begins = subst (λ (bs : List ℕ). BeginsWith bs own.frame (length shown - left)) is-front (subst (λ (n : ℕ). BeginsWith shown own.frame n) used own.begins);
      replied = own.replied;
      answers = own.answers;
      changed = changed;
    }
