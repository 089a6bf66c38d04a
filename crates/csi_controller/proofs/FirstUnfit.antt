-- The first row that no record of a session has there.
use Rattle.std.proofs.Common.{◌≡◌, ◌≤◌, ◌-◌, ℕ, take, drop, Bool, true, false, cond, List, [], ◌∷◌, refl, sym, ◌∙◌, ap, subst, arith}
use Rattle.std.specs.Prelude.{Option, Some, None, MatchOption, filter, max, ◌||◌, ◌==◌, nat_le}
use Rattle.std.specs.List.{AllByRecursion}
use Rattle.std.proofs.lemmas.Bool.{eqb-true, leb-false, leb-true}
use Rattle.std.proofs.Math.Nat.{le-max_left, le-max_right}
use Rattle.std.proofs.lemmas.List.{take-append-drop, take-take}
use Rattle.csi_types.proofs.Each.{each-weaker}
use Rattle.csi_fence.proofs.JudgedRows.{each-front}
use Rattle.csi_controller.specs.declared.row.ControllerRow.{ControllerRow}
use Rattle.csi_controller.specs.Public.Core.{IsCurrentRow, IsCurrent}
use Rattle.csi_controller.specs.Public.Judging.{AreRecorded, IsFirstRefused}
use Rattle.csi_controller.specs.Private.Judging.{earlier_of}
use Rattle.csi_controller.specs.Public.Views.{AreSameRows}
use Rattle.csi_controller.specs.Public.WithoutSession.{latest_session, stays_in}
use Rattle.csi_controller.proofs.Copies.{sound-copies, current-copies}
use Rattle.csi_controller.proofs.FirstRefused.{sound-take}

-- the first rows of a session's are of it
pub current-take : (session : ℕ) (rows : List ControllerRow) (k : ℕ) → IsCurrent session rows → IsCurrent session (take k rows)
current-take session rows k current = each-front (IsCurrentRow session) (take k rows) (drop k rows) (subst (IsCurrent session) (sym (take-append-drop k rows)) current)

-- ---- two rules at once

-- rules that the first rows keep where all do
abbrev pub IsOfFronts : (List ControllerRow → Type 0) → Type 0
IsOfFronts Rules = (rows : List ControllerRow) (k : ℕ) → Rules rows → Rules (take k rows)

-- both rules
abbrev pub Both : (List ControllerRow → Type 0) → (List ControllerRow → Type 0) → List ControllerRow → Type 0
Both P Q rows = P rows × Q rows

-- the first that is refused by the first rule, where the rows before it keep the second
by-first : (P Q : List ControllerRow → Type 0) (rows : List ControllerRow) (place : ℕ) → IsFirstRefused P rows place → Q (take (place - 1) rows) → IsFirstRefused (Both P Q) rows place
by-first P Q rows place first other = record { from = first.from; to = first.to; before = (first.before, other); refused = λ both. first.refused both.0 }

-- and the other way round
by-second : (P Q : List ControllerRow → Type 0) (rows : List ControllerRow) (place : ℕ) → IsFirstRefused Q rows place → P (take (place - 1) rows) → IsFirstRefused (Both P Q) rows place
by-second P Q rows place first other = record { from = first.from; to = first.to; before = (other, first.before); refused = λ both. first.refused both.1 }

-- the rows before a place keep a rule by which the first that is refused isn't before it
kept-before : (P : List ControllerRow → Type 0) (rows : List ControllerRow) (a b : ℕ) → IsOfFronts P → IsFirstRefused P rows b → a ≤ b → P (take (a - 1) rows)
kept-before P rows a b fronts first less = subst P (take-take (a - 1) (b - 1) rows (omega (arith, less))) (fronts (take (b - 1) rows) (a - 1) first.before)

-- of what each rule refuses, if anything, both together refuse the earlier one
pub first-of_both : (P Q : List ControllerRow → Type 0) (rows : List ControllerRow) (a b : Option ℕ) → IsOfFronts P → IsOfFronts Q → MatchOption a (P rows) (IsFirstRefused P rows) → MatchOption b (Q rows) (IsFirstRefused Q rows)
    → MatchOption (earlier_of a b) (Both P Q rows) (IsFirstRefused (Both P Q) rows)
first-of_both P Q rows None None fronts_p fronts_q one two = (one, two)
first-of_both P Q rows None (Some b) fronts_p fronts_q one two = by-second P Q rows b two (fronts_p rows (b - 1) one)
first-of_both P Q rows (Some a) None fronts_p fronts_q one two = by-first P Q rows a one (fronts_q rows (a - 1) two)
first-of_both P Q rows (Some a) (Some b) fronts_p fronts_q one two = by (nat_le a b) refl
  where
    by : (t : Bool) → nat_le a b ≡ t → IsFirstRefused (Both P Q) rows (cond t a b)
    by true e = by-first P Q rows a one (kept-before Q rows a b fronts_q two (leb-true a b e))
    by false e = let more = leb-false a b e in by-second P Q rows b two (kept-before P rows b a fronts_p one (omega (arith, more)))

-- rows that keep the rules have no first one that is refused
pub none-refused : (P : List ControllerRow → Type 0) (rows : List ControllerRow) (place : ℕ) → IsOfFronts P → IsFirstRefused P rows place → P rows → ⊥
none-refused P rows place fronts first all = first.refused (fronts rows place all)

-- ---- a record's rules

-- the first rows of a record's are a record's of its session
pub recorded-fronts : (n session : ℕ) → IsOfFronts (AreRecorded n session)
recorded-fronts n session rows k both = (sound-take n rows k both.0, current-take session rows k both.1)

-- copies of a record's rows are a record's of its session
pub recorded-copies : (n session : ℕ) (rows copies : List ControllerRow) → AreSameRows rows copies → AreRecorded n session rows → AreRecorded n session copies
recorded-copies n session rows copies same both = (sound-copies n rows copies same both.0, current-copies session rows copies same both.1)

-- ---- rows that were kept without a session

-- no row is of a later session than the latest of all
pub up_to_latest : (rows : List ControllerRow) → AllByRecursion (λ (row : ControllerRow). row.last.session ≤ latest_session rows) rows
up_to_latest [] = tt
up_to_latest (r ∷ rs) =
    (le-max_left r.last.session (latest_session rs), each-weaker (λ (row : ControllerRow). row.last.session ≤ latest_session rs) (λ (row : ControllerRow). row.last.session ≤ max r.last.session (latest_session rs)) rs (λ row own. let more = le-max_right r.last.session (latest_session rs) in omega (arith, own, more)) (up_to_latest rs))

-- the rows that stay in a session that none is after are of it
pub staying-current : (session : ℕ) (rows : List ControllerRow) → AllByRecursion (λ (row : ControllerRow). row.last.session ≤ session) rows → IsCurrent session (filter (stays_in session) rows)
staying-current session [] each = tt
staying-current session (r ∷ rs) each = by (stays_in session r) refl (staying-current session rs each.1)
  where
    by : (b : Bool) → stays_in session r ≡ b → IsCurrent session (filter (stays_in session) rs) → IsCurrent session (cond b (r ∷ filter (stays_in session) rs) (filter (stays_in session) rs))
    by true stays rest = (record { before = each.0; gone = λ dead. eqb-true r.last.session session (ap (λ (b : Bool). b || (r.last.session == session)) (sym dead) ∙ stays) }, rest)
    by false stays rest = rest
