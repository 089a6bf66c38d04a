-- A walk along a list, which tests the first of a text in one way and all others in another, is gone through exactly where one is so and each other
-- one otherwise.
use Rattle.csi_orchestrator.proofs.Words.{◌≡◌, ◌≢◌, ℕ, List, [], ◌∷◌, Bool, true, false, cond, not, length, map, refl}
use Rattle.csi_orchestrator.proofs.Words.{sym, ◌∙◌, ap, subst, inl, inr, arith, ◌==◌, ◌&&◌, ◌||◌, AllByRecursion}
use Rattle.csi_orchestrator.proofs.Words.{list_all, IsAmong, same_text, TargetEntry, Known, Yes, No, Maybe}
use Rattle.csi_orchestrator.proofs.Words.{NodeEntryShown, is_yes, AreTargetsApart, HasOne, IsAtWork, HasMarks, IsLast}
use Rattle.csi_orchestrator.proofs.Words.{is_published, is_way, is_at_target}
use Rattle.csi_orchestrator.proofs.Lemmas.{and_from, and_parts, eq-eqb, false≢true, each-weaker}
use Rattle.csi_orchestrator.proofs.EntryRules.{HaveDistinctKeys}
use Rattle.csi_orchestrator.proofs.HasOnes.{others-of}
use Rattle.csi_orchestrator.proofs.Tells.{Tells, never, passes, like, same_test, yes_tells, empty, both, where_so, each, each_shown}
use Rattle.csi_orchestrator.proofs.KnownTests.{yes_is_yes}

-- ---- what the walk tests alone

-- of a list that is walked along so, as it is shown, one is so
pub one_tells : {R X : Type 0} (view : R → X) (key : X → List ℕ) (text : List ℕ) (P Q : X → Type 0) (here other : R → Bool) (walk : List R → Bool) → walk [] ≡ false
    → ((r : R) (rs : List R) → walk (r ∷ rs) ≡ cond (same_text (key (view r)) text) (here r && list_all other rs) (other r && walk rs)) → ((r : R) → Tells (other r) (Q (view r)))
    → (rs : List R) → ((r : R) → IsAmong (view r) (map view rs) → Tells (here r) (P (view r))) → HaveDistinctKeys key (map view rs) → Tells (walk rs) (HasOne key text P Q (map view rs))
one_tells view key text P Q here other walk ends on rest [] own apart = same_test ends (never (λ one. one))
one_tells view key text P Q here other walk ends on rest (r ∷ rs) own apart =
    same_test (on r rs) (by (same_text (key (view r)) text) refl (one_tells view key text P Q here other walk ends on rest rs (λ s among. own s (inr among)) apart.1))
  where
    by : (b : Bool) → same_text (key (view r)) text ≡ b → Tells (walk rs) (HasOne key text P Q (map view rs)) → Tells (cond b (here r && list_all other rs) (other r && walk rs)) (HasOne key text P Q (view r ∷ map view rs))
    by true e later = like (both (own r (inl refl)) (each_shown view other Q rest rs)) (λ is. inl (e, is.0, others-of key text Q (view r) (map view rs) e apart.0 is.1)) back
      where
        back : HasOne key text P Q (view r ∷ map view rs) → P (view r) × AllByRecursion Q (map view rs)
        back (inl first) = (first.1, each-weaker (λ y. (same_text (key y) text ≡ false) × Q y) Q (map view rs) (λ y otherwise. otherwise.1) first.2)
        back (inr more) = absurd (false≢true (sym more.0 ∙ e))
    by false e later = like (both (rest r) later) (λ is. inr (e, is.0, is.1)) back
      where
        back : HasOne key text P Q (view r ∷ map view rs) → Q (view r) × HasOne key text P Q (map view rs)
        back (inl first) = absurd (false≢true (sym e ∙ first.0))
        back (inr more) = (more.1, more.2)

-- ---- what comes last

-- with one more in front the same comes last
last-more : {X : Type 0} (key : X → List ℕ) (text : List ℕ) (x : X) (xs : List X) → IsLast key text xs → IsLast key text (x ∷ xs)
last-more key text x [] last = absurd last
last-more key text x (y ∷ ys) last = last

-- and without the first, unless it was the one
last-later : {X : Type 0} (key : X → List ℕ) (text : List ℕ) (x : X) (xs : List X) → same_text (key x) text ≡ false → IsLast key text (x ∷ xs) → IsLast key text xs
last-later key text x [] other last = absurd (false≢true (sym other ∙ last))
last-later key text x (y ∷ ys) other last = last

-- nothing of other texts stands behind the last one
only-last : {X : Type 0} (key : X → List ℕ) (text : List ℕ) (Q : X → Type 0) (x : X) (xs : List X) → AllByRecursion (λ y. (same_text (key y) text ≡ false) × Q y) xs → IsLast key text (x ∷ xs) → xs ≡ []
only-last key text Q x [] all last = refl
only-last key text Q x (y ∷ []) all last = absurd (false≢true (sym all.0.0 ∙ last))
only-last key text Q x (y ∷ z ∷ zs) all last = grind (arith, (only-last key text Q y (z ∷ zs) all.1 last))

-- a list of which one is so has one
one-some : {X : Type 0} (key : X → List ℕ) (text : List ℕ) (P Q : X → Type 0) (xs : List X) → HasOne key text P Q xs → length xs ≢ 0
one-some key text P Q [] one none = one
one-some key text P Q (x ∷ xs) one none = absurd (omega (arith, none))

-- ---- the targets of an entry

-- No isn't Yes
pub no-yes : No ≢ Yes
no-yes e = cc

-- nor is Maybe
pub maybe-yes : Maybe ≢ Yes
maybe-yes e = cc

-- a call that is on its way is at work, where the target is alone unless the volume is staged
way : (alone : Bool) (attached staged published : Known) → Tells (is_way alone attached staged published) (IsAtWork attached staged published × (staged ≢ Yes → alone ≡ true))
way alone attached staged published = grind (arith, like, passes, no-yes, maybe-yes, never)

-- the target comes last
abbrev pub TargetLast : List ℕ → List TargetEntry → Type 0
TargetLast target targets = IsLast (λ (t : TargetEntry). t.target) target targets

-- what the walk along targets tells: the target is published so, and each other one is published
record AreMarkedSo (must : Bool) (attached staged : Known) (target : List ℕ) (first : Bool) (targets : List TargetEntry) : Type 0 where
  pub published : Known
  pub marks : IsAtWork attached staged published
  pub one : HasOne (λ (t : TargetEntry). t.target) target (λ (t : TargetEntry). t.published ≡ published) (λ (t : TargetEntry). t.published ≡ Yes) targets
  pub alone : staged ≢ Yes → (first ≡ true) × (length targets ≡ 1)
  pub last : must ≡ true → TargetLast target targets

-- the walk's test of the target, and of those behind it
here_tells : (must first : Bool) (attached staged published : Known) (later : List TargetEntry)
    → Tells (is_way (first && (length later == 0)) attached staged published && ((not must || (length later == 0)) && list_all is_published later))
    ((IsAtWork attached staged published × (staged ≢ Yes → (first && (length later == 0)) ≡ true)) × ((must ≡ true → later ≡ []) × AllByRecursion (λ (u : TargetEntry). u.published ≡ Yes) later))
here_tells must first attached staged published later =
    both (way (first && (length later == 0)) attached staged published) (both (where_so must (empty later)) (each is_published (λ (u : TargetEntry). u.published ≡ Yes) (λ u. yes_tells u.published) later))

-- by the test
targets-from : (must : Bool) (attached staged : Known) (target : List ℕ) (first : Bool) (targets : List TargetEntry) → HaveDistinctKeys (λ (t : TargetEntry). t.target) targets → is_at_target must attached staged target first targets ≡ true
    → AreMarkedSo must attached staged target first targets
targets-from must attached staged target first [] apart h = absurd (false≢true h)
targets-from must attached staged target first (t ∷ later) apart h = by (same_text t.target target) refl h (λ e. targets-from must attached staged target false later apart.1 e)
  where
    here : Bool
    here = is_way (first && (length later == 0)) attached staged t.published && ((not must || (length later == 0)) && list_all is_published later)

    by : (b : Bool) → same_text t.target target ≡ b → cond b here (is_published t && is_at_target must attached staged target false later) ≡ true
        → (is_at_target must attached staged target false later ≡ true → AreMarkedSo must attached staged target false later) → AreMarkedSo must attached staged target first (t ∷ later)
    by true e k rest =
        let is = (here_tells must first attached staged t.published later).from k in
        record {
          published = t.published;
          marks = is.0.0;
          one = inl (e, refl, others-of (λ (u : TargetEntry). u.target) target (λ (u : TargetEntry). u.published ≡ Yes) t later e apart.0 is.1.1);
          alone = λ other. let only = (both (passes first) (empty later)).from (is.0.1 other) in (only.0, ap (λ (us : List TargetEntry). length (t ∷ us)) only.1);
          last = λ m. subst (λ (us : List TargetEntry). TargetLast target (t ∷ us)) (sym (is.1.0 m)) e;
        }
    by false e k rest =
        let parts = and_parts (is_published t) (is_at_target must attached staged target false later) k in
        let on : AreMarkedSo must attached staged target false later = rest parts.1 in
        record {
          published = on.published;
          marks = on.marks;
          one = inr (e, yes_is_yes t.published parts.0, on.one);
          alone = λ other. absurd (false≢true (on.alone other).0);
          last = λ m. last-more (λ (u : TargetEntry). u.target) target t later (on.last m);
        }

-- and back
from-targets : (must : Bool) (attached staged : Known) (target : List ℕ) (first : Bool) (targets : List TargetEntry) (is : AreMarkedSo must attached staged target first targets)
    → HasOne (λ (t : TargetEntry). t.target) target (λ (t : TargetEntry). t.published ≡ is.published) (λ (t : TargetEntry). t.published ≡ Yes) targets → is_at_target must attached staged target first targets ≡ true
from-targets must attached staged target first [] is one = absurd one
from-targets must attached staged target first (t ∷ later) is (inl own) =
    let otherwise = each-weaker (λ (u : TargetEntry). (same_text u.target target ≡ false) × (u.published ≡ Yes)) (λ (u : TargetEntry). u.published ≡ Yes) later (λ u own. own.1) own.2 in
    let only : staged ≢ Yes → (first && (length later == 0)) ≡ true = λ other. let alone = is.alone other in and_from first (length later == 0) alone.0 (eq-eqb (length later) 0 (let long = alone.1 in omega (arith, long))) in
    rw own.0
    ((here_tells must first attached staged t.published later).back
    ((subst (IsAtWork attached staged) (sym own.1) is.marks, only), (λ m. only-last (λ (u : TargetEntry). u.target) target (λ (u : TargetEntry). u.published ≡ Yes) t later own.2 (is.last m), otherwise)))
from-targets must attached staged target first (t ∷ later) is (inr more) =
    let later-is : AreMarkedSo must attached staged target false later =
    record {
      published = is.published;
      marks = is.marks;
      one = more.2;
      alone = λ other. let long = (is.alone other).1 in absurd (one-some (λ (u : TargetEntry). u.target) target (λ (u : TargetEntry). u.published ≡ is.published) (λ (u : TargetEntry). u.published ≡ Yes) later more.2 (omega (arith, long)));
      last = λ m. last-later (λ (u : TargetEntry). u.target) target t later more.0 (is.last m);
    } in
    rw more.0 (and_from (is_published t) (is_at_target must attached staged target false later) (ap is_yes more.1) (from-targets must attached staged target false later later-is more.2))

-- an entry at which a goal is at work, by the test; its target is the last one where it must be
pub marks_tell : (must : Bool) (entry : NodeEntryShown) (target : List ℕ) → AreTargetsApart entry
    → Tells (is_at_target must entry.attached entry.staged target true entry.target_entries) (HasMarks IsAtWork target entry × (must ≡ true → TargetLast target entry.target_entries))
marks_tell must entry target apart =
    record {
      from = λ h. let is = targets-from must entry.attached entry.staged target true entry.target_entries apart h in (record { published = is.published; marks = is.marks; targets = is.one; alone = λ other. (is.alone other).1 }, is.last);
      back = λ is. from-targets must entry.attached entry.staged target true entry.target_entries (record { published = is.0.published; marks = is.0.marks; one = is.0.targets; alone = λ other. (refl, is.0.alone other); last = is.1 }) is.0.targets;
    }
