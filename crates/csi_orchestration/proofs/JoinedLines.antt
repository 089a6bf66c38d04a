-- Two runs over one store are one run.
use Rattle.std.proofs.Common.{◌≡◌, sym, refl, subst, inl, inr, ℕ, ◌+◌, ◌≤◌, List, [], ◌++◌, length, take, Result, Ok, Err, arith, length-append}
use Rattle.std.proofs.lemmas.List.{append-nil, length-take}
use Rattle.csi_streams.proofs.Items.{front-taken}
use Rattle.csi_stores.specs.declared.counted.Counted.{Counted}
use Rattle.csi_stores.specs.Public.Part.{StoredPart}
use Rattle.csi_stores.specs.Public.Stores.{Store, Found, Parts, Has, IsOnly}
use Rattle.csi_orchestration.specs.declared.lines_serving.fault.ServedLines.{ServedLines}
use Rattle.csi_orchestration.specs.declared.lines_serving.fault.LinesServeFault.{LinesServeFault}
use Rattle.csi_orchestration.specs.declared.lines_serving.fault.LinesServeFaultKind.{LinesServeFaultKind}
use Rattle.csi_orchestration.specs.declared.lines_serving.fault.LinesServeFaultKind.TheVariants as kinds
use Rattle.csi_orchestration.specs.Public.LinesServing.{AnswersEach, lines_counted, ServesLines, StopsBy}
use Rattle.csi_orchestration.specs.Public.LinesRuns.{RunSetting, served_in, AreMade, LinesRunsLaw}
use Rattle.csi_orchestration.proofs.GrowingAnswers.{answers-append}

-- the lines that left their mark in what opening the store again finds, and what they led to
record Marked {C : Type 0} (answers : C → List ℕ → List ℕ → C → Type 0) (parts_of : C → List StoredPart) (responder : C) (there given : List (List ℕ)) (AreSo : ℕ → Type 0) (found : Found) : Type 0 where
  made : ℕ
  are_made : AreSo made
  unwritten : List (List ℕ)
  left : C
  runs : AnswersEach answers responder (take made there) (given ++ unwritten) left
  is : found ≡ Parts (parts_of left)

module _ {C K R W : Type 0} (setting : RunSetting C K R W) (responder : C) (before after : K) (reader read : Counted R) (writer written : Counted W) (bytes : List ℕ) (honest : (setting.seen after).honest) (only : IsOnly (setting.seen before) (Parts (setting.parts_of responder)))
    (found : Found) (left : (setting.seen after).leaves found) where
  -- those that are counted
  counted-mark : (there given : List (List ℕ)) (now : C) (counted : ℕ) (group : List (List ℕ)) → AnswersEach setting.answers responder (take counted there) given now → found ≡ Parts (setting.parts_of now)
      → Marked setting.answers setting.parts_of responder there given (AreMade counted group) found
  counted-mark there given now counted group runs is = record {
    made = counted;
    are_made = inl refl;
    unwritten = [];
    left = now;
    runs = subst (λ (gs : List (List ℕ)). AnswersEach setting.answers responder (take counted there) gs now) (sym (append-nil given)) runs;
    is = is;
  }

  -- by why serving stopped
  kind-mark : (kind : LinesServeFaultKind) (lines : List (List ℕ)) (rest : List ℕ) (there : List (List ℕ)) (counted : ℕ) (given : List (List ℕ)) (now : C) (group : List (List ℕ)) → counted ≤ length there
      → AnswersEach setting.answers responder (take counted there) given now → StopsBy (served_in setting responder before after reader read writer written bytes) lines rest there counted given now group kind
      → Marked setting.answers setting.parts_of responder there given (AreMade counted group) found
  kind-mark kinds.Input lines rest there counted given now group within runs stop = counted-mark there given now counted group runs ((stop.4.kept honest only).alone found left)
  kind-mark kinds.Output lines rest there counted given now group within runs stop = counted-mark there given now counted group runs ((stop.2.kept honest only).alone found left)
  kind-mark (kinds.Long number) lines rest there counted given now group within runs stop = counted-mark there given now counted group runs ((stop.2.kept honest only).alone found left)
  kind-mark kinds.NoMemory lines rest there counted given now group within runs stop = counted-mark there given now counted group runs ((stop.1.kept honest only).alone found left)
  kind-mark kinds.OlderStore lines rest there counted given now group within runs stop = counted-mark there given now counted group runs ((stop.2.kept honest only).alone found left)
  kind-mark kinds.Endless lines rest there counted given now group within runs stop = counted-mark there given now counted group runs ((stop.4.kept honest only).alone found left)
  kind-mark (kinds.Keep fault) lines rest there counted given now group within runs stop =
      let refused = stop.1 in
      elim ((refused.left honest only).each found left) [
        | inl old ↦ counted-mark there given now counted group runs old
        | inr new ↦ record {
          made = counted + length group;
          are_made = inr refl;
          unwritten = refused.told;
          left = refused.next;
          runs =
              subst (λ (ls : List (List ℕ)). AnswersEach setting.answers responder ls (given ++ refused.told) refused.next)
              (sym
              (front-taken there (take counted there ++ group) stop.0.behind (counted + length group) stop.0.here
              (omega (arith, within, length-take counted there, length-append (take counted there) group))))
              (answers-append setting.answers responder (take counted there) given now group refused.told refused.next runs refused.answered);
          is = new;
        }
      ]

  -- by what it answered
  mark : (result : Result ServedLines LinesServeFault) (s : ServesLines (served_in setting responder before after reader read writer written bytes) bytes result) → Marked setting.answers setting.parts_of responder s.there s.given (AreMade (lines_counted result) s.group) found
  mark (Ok served) s = counted-mark s.there s.given s.now served.lines s.group s.runs ((s.ends.4.kept honest only).alone found left)
  mark (Err fault) s = kind-mark fault.kind s.lines s.rest s.there fault.lines s.given s.now s.group s.within s.runs s.ends

-- the second began with what opening again found
pub one-run : {C K L R W : Type 0} (setting : RunSetting C K R W) (seen_too : L → Store) → LinesRunsLaw setting seen_too
one-run setting seen_too before between again after content r r_read s s_read w w_written v v_written result result_too honest honest_too holds one reopens two =
    let here = one.is_opened (one.served.honest honest) content holds in
    let marked = mark setting one.responder one.opened between r r_read w w_written one.served.bytes honest here.1 reopens.0 reopens.1 result one.served.serves in
    let there = subst (Has (seen_too again)) marked.is reopens.2.there in
    let here_too = two.is_opened (two.served.honest honest_too) (setting.parts_of marked.left) there in
    record {
      opened = here.0;
      made = marked.made;
      are_made = marked.are_made;
      unwritten = marked.unwritten;
      left = marked.left;
      runs = marked.runs;
      found = there;
      reopened = here_too.0;
      goes_on = two.served.serves.runs;
    }
