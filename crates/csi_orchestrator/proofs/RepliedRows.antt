-- Why the row whose open call a reply is to is found by its number, plugin and kind.
use Rattle.csi_orchestrator.proofs.Words.{◌≡◌, Bool, true, refl, sym, ◌∙◌, ap, Option, Some, None, option_map}
use Rattle.csi_orchestrator.proofs.Words.{option_and_then, find, ◌&&◌, Kind, Party, Number, kind_of, IsAmong, same_text}
use Rattle.csi_orchestrator.proofs.Words.{same_number, same_party, same_kind, OpenCall, Issued, History, open_call}
use Rattle.csi_orchestrator.proofs.Words.{issued_in, call_replied, is_number_open, IsWellFormed, Due, call_for}
use Rattle.csi_orchestrator.proofs.Words.{RowShown, OrchestratorParts, row_of, goal_in, issued_of_open_call, open_in_row, Shows}
use Rattle.csi_orchestrator.proofs.Words.{due_open, is_issued_as, row_replied, AreSoundRows, arith}
use Rattle.csi_orchestrator.proofs.Lemmas.{and_parts, and_from, false≢true, false_from_ne_true, among-find, none_passes}
use Rattle.csi_orchestrator.proofs.Lemmas.{find-passes, find-one, find-none, none-some, same_text-tells}
use Rattle.csi_orchestrator.proofs.Lemmas.{same_number-tells, same_party-tells, same_kind-tells}
use Rattle.csi_orchestrator.proofs.Numbers.{one-call, open-sent}
use Rattle.csi_orchestrator.proofs.RowsAfterSending.{issued-by}
use Rattle.csi_orchestrator.proofs.JoinedLists.{own-entry}

-- the call has this number, party and kind
abbrev is-call : Number → Party → Kind → Issued → Bool
is-call number party kind issued = same_number issued.number number && same_party issued.party party && same_kind (kind_of issued.call) kind

-- the same as a relation
pub record IsCall (number : Number) (party : Party) (kind : Kind) (issued : Issued) : Type 0 where
  pub has_number : issued.number ≡ number
  pub has_party : issued.party ≡ party
  pub has_kind : kind_of issued.call ≡ kind

-- a call that passes the test has this number, party and kind
such-call : (number : Number) (party : Party) (kind : Kind) (issued : Issued) → is-call number party kind issued ≡ true → IsCall number party kind issued
such-call number party kind issued e = grind (arith, and_parts, same_number-tells, same_party-tells, same_kind-tells)

-- what passes the test is an open call
that-passes : (number : Number) (party : Party) (kind : Kind) (o : Option Issued) → is_issued_as number party kind o ≡ true → (issued : Issued) × (o ≡ Some issued) × (is-call number party kind issued ≡ true)
that-passes number party kind None e = absurd (false≢true e)
that-passes number party kind (Some issued) e = (issued, refl, e)

-- a row whose open call a reply is to
pub record HearsIt (row : RowShown) (number : Number) (party : Party) (kind : Kind) : Type 0 where
  pub kept : OpenCall
  pub due : Due
  pub own : row.open_call ≡ Some kept
  pub has_number : kept.number ≡ number
  pub has_kind : kind_of due.call ≡ kind
  pub is_open : due_open row ≡ Some due
  pub told : open_in_row row ≡ Some (issued-by row.name number due)

-- a row whose open call has the reply's number, party and kind is one that the reply is to
pub hears-it : (row : RowShown) (number : Number) (party : Party) (kind : Kind) → is_issued_as number party kind (open_in_row row) ≡ true → HearsIt row number party kind
hears-it row number party kind e = by row.open_call refl e
  where
    found : (kept : OpenCall) → row.open_call ≡ Some kept → (d : Option Due) → call_for row.name (goal_in row) row.id kept.kind ≡ d
        → is_issued_as number party kind (option_map (issued-by row.name kept.number) d) ≡ true → HearsIt row number party kind
    found kept own None is f = absurd (false≢true f)
    found kept own (Some due) is f =
        let such = such-call number party kind (issued-by row.name kept.number due) f in
        record {
          kept = kept;
          due = due;
          own = own;
          has_number = such.has_number;
          has_kind = such.has_kind;
          is_open = ap (λ o. due_open (record row { open_call = o })) own ∙ is;
          told = ap (option_and_then (issued_of_open_call row)) own ∙ ap (option_map (issued-by row.name kept.number)) is ∙ ap (λ n. Some (issued-by row.name n due)) such.has_number;
        }

    by : (o : Option OpenCall) → row.open_call ≡ o → is_issued_as number party kind (option_and_then (issued_of_open_call row) o) ≡ true → HearsIt row number party kind
    by None own f = absurd (false≢true f)
    by (Some kept) own f = found kept own (call_for row.name (goal_in row) row.id kept.kind) refl f

-- a call that a reply is to, by the history, is the open call of its name
pub own-open : (history : History) (number : Number) (party : Party) (kind : Kind) (issued : Issued) → IsWellFormed history → IsAmong issued (issued_in history.items)
    → (is-call number party kind issued && is_number_open number (open_call history issued.name)) ≡ true → (open_call history issued.name ≡ Some issued) × IsCall number party kind issued
own-open history number party kind issued form among e = (by (open_call history issued.name) refl parted.1, such-call number party kind issued parted.0)
  where
    parted : (is-call number party kind issued ≡ true) × (is_number_open number (open_call history issued.name) ≡ true)
    parted = and_parts (is-call number party kind issued) (is_number_open number (open_call history issued.name)) e

    by : (o : Option Issued) → open_call history issued.name ≡ o → is_number_open number o ≡ true → o ≡ Some issued
    by None is f = absurd (false≢true f)
    by (Some other) is f =
        ap Some (one-call history.began history.items other issued form (open-sent issued.name history.items other is).0 among
        ((same_number-tells other.number number).0 f ∙ sym (such-call number party kind issued parted.0).has_number))

-- it is also the row that is found for its name
pub found-own : (parts : OrchestratorParts) (number : Number) (party : Party) (kind : Kind) (row : RowShown) → AreSoundRows parts.rows → row_replied parts.rows number party kind ≡ Some row → row_of parts.rows row.name ≡ Some row
found-own parts number party kind row kept e =
    own-entry (λ (r : RowShown). r.name) parts.rows row kept.names (among-find (λ (r : RowShown). is_issued_as number party kind (open_in_row r)) parts.rows row e)

-- the open call that a reply is to is that of the row found by it
pub replied : (parts : OrchestratorParts) (history : History) (number : Number) (party : Party) (kind : Kind) → IsWellFormed history → AreSoundRows parts.rows → Shows parts history
    → call_replied history number party kind ≡ option_and_then open_in_row (row_replied parts.rows number party kind)
replied parts history number party kind form kept agrees = by (row_replied parts.rows number party kind) refl
  where
    test : Issued → Bool
    test issued = same_number issued.number number && same_party issued.party party && same_kind (kind_of issued.call) kind && is_number_open number (open_call history issued.name)

    row_test : RowShown → Bool
    row_test row = is_issued_as number party kind (open_in_row row)

    found : (row : RowShown) → row_replied parts.rows number party kind ≡ Some row → (call : Issued) → open_in_row row ≡ Some call → is-call number party kind call ≡ true → find test (issued_in history.items) ≡ open_in_row row
    found row e call own_call is = find-one test (issued_in history.items) call there.0 passes only ∙ sym own_call
      where
        is_open : open_call history row.name ≡ Some call
        is_open = sym (agrees.same_open_calls row.name) ∙ ap (option_and_then open_in_row) (found-own parts number party kind row kept e) ∙ own_call

        there : IsAmong call (issued_in history.items) × (same_text call.name row.name ≡ true)
        there = open-sent row.name history.items call is_open

        passes : test call ≡ true
        passes = and_from (is-call number party kind call) (is_number_open number (open_call history call.name)) is
            (ap (is_number_open number) (ap (open_call history) ((same_text-tells call.name row.name).0 there.1) ∙ is_open) ∙ (same_number-tells call.number number).1 (such-call number party kind call is).has_number)

        only : (other : Issued) → IsAmong other (issued_in history.items) → test other ≡ true → other ≡ call
        only other among e =
            one-call history.began history.items other call form among there.0
            ((own-open history number party kind other form among e).1.has_number ∙ sym (such-call number party kind call is).has_number)

    unheard : (issued : Issued) → row_replied parts.rows number party kind ≡ None → is-call number party kind issued ≡ true → (o : Option RowShown) → row_of parts.rows issued.name ≡ o → option_and_then open_in_row o ≡ Some issued → ⊥
    unheard issued none passes None e f = none-some issued f
    unheard issued none passes (Some row) e f =
        let among = among-find (λ (r : RowShown). same_text r.name issued.name) parts.rows row e in
        false≢true (sym (none_passes row_test parts.rows row none among) ∙ ap (is_issued_as number party kind) f ∙ passes)

    by : (o : Option RowShown) → row_replied parts.rows number party kind ≡ o → find test (issued_in history.items) ≡ option_and_then open_in_row o
    by (Some row) e =
        let call = that-passes number party kind (open_in_row row) (find-passes row_test parts.rows row e) in
        found row e call.0 call.1 call.2
    by None e =
        find-none test (issued_in history.items)
        (λ issued among. false_from_ne_true (test issued) (λ passes.
        let own = own-open history number party kind issued form among passes in
        unheard issued e (and_parts (is-call number party kind issued) _ passes).0 (row_of parts.rows issued.name) refl (agrees.same_open_calls issued.name ∙ own.0)))
