-- Why the marks at a goal's node stay as they may be: where the due call is sent, and where it succeeds.
use Rattle.csi_orchestrator.proofs.Words.{◌≡◌, ◌≢◌, ℕ, List, [], ◌∷◌, Bool, true, false, not, length, refl, sym, ◌∙◌}
use Rattle.csi_orchestrator.proofs.Words.{ap, inl, inr, arith, ◌&&◌, ◌||◌, list_any, same_text, TargetEntry, Known, Yes}
use Rattle.csi_orchestrator.proofs.Words.{No, Maybe, is_yes, is_no, NodeEntryShown, mark_in, publication_known}
use Rattle.csi_orchestrator.proofs.Words.{Attachment, Staging, Publication, node_marked, HasOne, IsAtWork, HasMarks}
use Rattle.csi_orchestrator.proofs.Lemmas.{false≢true, or_parts}
use Rattle.csi_orchestrator.proofs.EntriesBounded.{change-long}
use Rattle.csi_orchestrator.proofs.HasOnes.{one-found, one-change}

-- the marks on the way to a use, or back from it
abbrev pub IsOnWay : Known → Known → Known → Type 0
IsOnWay Yes Yes published = Unit {0}
IsOnWay Yes Maybe No = Unit {0}
IsOnWay Yes No No = Unit {0}
IsOnWay Maybe No No = Unit {0}
IsOnWay No No No = Unit {0}
IsOnWay attached staged published = ⊥

-- ---- what becomes of them

-- those at work are on the way
pub work-way : (a s p : Known) → IsAtWork a s p → IsOnWay a s p
work-way a s p w = grind arith

-- an attachment is at work once it is sent, and on the way once it succeeded
pub attach-goes : (a s p : Known) → is_yes a ≡ false → IsOnWay a s p → IsAtWork Maybe s p × IsOnWay Yes s p
attach-goes a s p e w = grind (arith, false≢true)

-- so is a staging
pub stage-goes : (a s p : Known) → is_yes a ≡ true → is_yes s ≡ false → IsOnWay a s p → IsAtWork a Maybe p × IsOnWay a Yes p
stage-goes a s p e f w = grind (arith, false≢true)

-- a publication
pub publish-goes : (a s : Known) → is_yes a ≡ true → is_yes s ≡ true → IsAtWork a s Maybe × IsOnWay a s Yes
publish-goes a s e f = grind (arith, false≢true)

-- its end
pub unpublish-goes : (a s p : Known) → is_no p ≡ false → IsOnWay a s p → IsAtWork a s Maybe × IsOnWay a s No
unpublish-goes a s p e w = grind (arith, false≢true)

-- the end of a staging
pub unstage-goes : (a s p : Known) → is_no p ≡ true → is_no s ≡ false → IsOnWay a s p → IsAtWork a Maybe p × IsOnWay a No p
unstage-goes a s p e f w = grind (arith, false≢true)

-- the end of an attachment
pub detach-goes : (s p : Known) → is_no p ≡ true → is_no s ≡ true → IsAtWork Maybe s p × IsOnWay No s p
detach-goes s p e f = grind (arith, false≢true)

-- ---- targets

-- a target's text
abbrev target_of : TargetEntry → List ℕ
target_of t = t.target

-- these targets, of which one has this mark, and each other one is published
abbrev AreTargets : List ℕ → Known → List TargetEntry → Type 0
AreTargets target mark ts = HasOne target_of target (λ (t : TargetEntry). t.published ≡ mark) (λ (t : TargetEntry). t.published ≡ Yes) ts

-- the volume may be published at another target
abbrev is_at_another_target : List ℕ → TargetEntry → Bool
is_at_another_target target t = not (same_text t.target target) && not (is_no t.published)

-- where it may be at no other target, there is one
pub alone-then : (target : List ℕ) (mark : Known) (ts : List TargetEntry) → AreTargets target mark ts → list_any (is_at_another_target target) ts ≡ false → length ts ≡ 1
alone-then target mark [] one none = absurd one
alone-then target mark (t ∷ []) (inl here) none = refl
alone-then target mark (t ∷ u ∷ us) (inl here) none =
    let second = or_parts (is_at_another_target target u) (list_any (is_at_another_target target) us) (or_parts (is_at_another_target target t) _ none).1 in
    absurd (false≢true (sym second.0 ∙ ap (λ b. not b && not (is_no u.published)) here.2.0.0 ∙ ap (λ k. not (is_no k)) here.2.0.1))
alone-then target mark (t ∷ ts) (inr later) none =
    absurd (false≢true (sym (or_parts (is_at_another_target target t) (list_any (is_at_another_target target) ts) none).0 ∙ ap (λ b. not b && not (is_no t.published)) later.0 ∙ ap (λ k. not (is_no k)) later.1))

-- where there is one, it may be at no other target
pub then-alone : (target : List ℕ) (mark : Known) (ts : List TargetEntry) → AreTargets target mark ts → length ts ≡ 1 → list_any (is_at_another_target target) ts ≡ false
then-alone target mark [] one long = absurd one
then-alone target mark (t ∷ []) (inl here) long = ap (λ b. (not b && not (is_no t.published)) || false) here.0
then-alone target mark (t ∷ []) (inr later) long = absurd later.2
then-alone target mark (t ∷ u ∷ us) one long = absurd (omega (arith, long))

-- ---- an entry

-- what is known of the publication is the one's mark
pub known-there : (Are : Known → Known → Known → Type 0) (target : List ℕ) (entry : NodeEntryShown) (has : HasMarks Are target entry) → publication_known target entry ≡ has.published
known-there Are target entry has =
    let found = one-found target_of target (λ (t : TargetEntry). t.published ≡ has.published) (λ (t : TargetEntry). t.published ≡ Yes) entry.target_entries has.targets in
    ap (mark_in (λ (t : TargetEntry). t.published)) found.1 ∙ found.2

-- an attachment is marked
pub attachment-marked : (Are Then : Known → Known → Known → Type 0) (target : List ℕ) (mark : Known) (entry : NodeEntryShown) → (has : HasMarks Are target entry) → Then mark entry.staged has.published
    → HasMarks Then target (node_marked mark Attachment target entry)
attachment-marked Are Then target mark entry has then = record { published = has.published; marks = then; targets = has.targets; alone = has.alone }

-- a staging is marked
pub staging-marked : (Are Then : Known → Known → Known → Type 0) (target : List ℕ) (mark : Known) (entry : NodeEntryShown) → (has : HasMarks Are target entry) → Then entry.attached mark has.published
    → (mark ≢ Yes → length entry.target_entries ≡ 1) → HasMarks Then target (node_marked mark Staging target entry)
staging-marked Are Then target mark entry has then alone = record { published = has.published; marks = then; targets = has.targets; alone = alone }

-- a publication is marked
pub publication-marked : (Are Then : Known → Known → Known → Type 0) (target : List ℕ) (mark : Known) (entry : NodeEntryShown) → HasMarks Are target entry → Then entry.attached entry.staged mark
    → HasMarks Then target (node_marked mark Publication target entry)
publication-marked Are Then target mark entry has then =
    record {
      published = mark;
      marks = then;
      targets =
          one-change target_of target marked (λ (t : TargetEntry). t.published ≡ has.published) (λ (t : TargetEntry). t.published ≡ Yes) (λ (t : TargetEntry). t.published ≡ mark) entry.target_entries (λ t. refl)
          (λ t found own. refl) has.targets;
      alone = λ unstaged. change-long target_of target marked entry.target_entries ∙ has.alone unstaged;
    }
  where
    marked : TargetEntry → TargetEntry
    marked t = record t { published = mark }
