-- Tests that are passed exactly where a rule holds, and what tests that are made of such tests tell.
use Rattle.csi_orchestrator.proofs.Words.{◌≡◌, ◌≢◌, ◌≤◌, ◌⊎◌, ◌==◌, ◌&&◌, ◌||◌, ℕ, List, [], ◌∷◌, length, map, Bool}
use Rattle.csi_orchestrator.proofs.Words.{true, false, not, refl, sym, ◌∙◌, ap, arith, nat_le, AllByRecursion}
use Rattle.csi_orchestrator.proofs.Words.{list_all, Option, Some, None, is_none, Known, Yes, No, is_yes, is_no}
use Rattle.csi_orchestrator.proofs.Lemmas.{and_from, and_parts, or_cases, or_left, or_right, cases_Bool, false≢true}
use Rattle.csi_orchestrator.proofs.Lemmas.{eqb-true, le-leb, leb-true, none-some, not-true, not_from_false}
use Rattle.csi_orchestrator.proofs.KnownTests.{yes_is_yes, no_is_no}

-- the test is passed exactly where the rule holds
pub record Tells (test : Bool) (Rule : Type 0) : Type 0 where
  pub from : test ≡ true → Rule
  pub back : Rule → test ≡ true

-- ---- plain tests

-- what is always so, and what never is
pub always : {P : Type 0} → P → Tells true P
always p = record { from = λ h. p; back = λ q. refl }

pub never : {P : Type 0} → (P → ⊥) → Tells false P
never none = record { from = λ h. absurd (false≢true h); back = λ p. absurd (none p) }

-- that the test is passed, and that it isn't
pub passes : (b : Bool) → Tells b (b ≡ true)
passes b = record { from = λ h. h; back = λ h. h }

pub fails : (b : Bool) → Tells (not b) (b ≡ false)
fails b = record { from = not-true b; back = not_from_false b }

-- Yes and No
pub yes_tells : (known : Known) → Tells (is_yes known) (known ≡ Yes)
yes_tells known = record { from = yes_is_yes known; back = λ e. ap is_yes e }

pub no_tells : (known : Known) → Tells (is_no known) (known ≡ No)
no_tells known = record { from = no_is_no known; back = λ e. ap is_no e }

-- at most so many
pub most : (m n : ℕ) → Tells (nat_le m n) (m ≤ n)
most m n = record { from = leb-true m n; back = le-leb m n }

-- none of a list, and one at least
pub empty : {X : Type 0} (xs : List X) → Tells (length xs == 0) (xs ≡ [])
empty [] = always refl
empty (x ∷ xs) = grind (arith, eqb-true)

pub some : {X : Type 0} (xs : List X) → Tells (nat_le 1 (length xs)) (xs ≢ [])
some [] = record { from = λ h. let long = leb-true 1 0 h in absurd (omega (arith, long)); back = λ more. absurd (more refl) }
some (x ∷ xs) =
    record { from = λ h e. let long : length (x ∷ xs) ≡ 0 = ap length e in absurd (omega arith); back = λ more. le-leb 1 (length (x ∷ xs)) (omega arith) }

-- no value
pub absent : {X : Type 0} (o : Option X) → Tells (is_none o) (o ≡ None)
absent None = always refl
absent (Some x) = never (λ e. none-some x (sym e))

-- ---- tests that are made of others

-- a rule that comes to the same, and a test that does
pub like : {a : Bool} {P Q : Type 0} → Tells a P → (P → Q) → (Q → P) → Tells a Q
like tells into out = record { from = λ h. into (tells.from h); back = λ q. tells.back (out q) }

pub same_test : {a b : Bool} {P : Type 0} → a ≡ b → Tells b P → Tells a P
same_test same tells = record { from = λ h. tells.from (sym same ∙ h); back = λ p. same ∙ tells.back p }

-- both, where the first may say what the second tells
pub both_then : {a b : Bool} {P Q : Type 0} → Tells a P → (P → Tells b Q) → Tells (a && b) (P × Q)
both_then {a} {b} first second = grind (arith, and_parts, and_from)

pub both : {a b : Bool} {P Q : Type 0} → Tells a P → Tells b Q → Tells (a && b) (P × Q)
both first second = both_then first (λ p. second)

-- one of them
pub either : {a b : Bool} {P Q : Type 0} → Tells a P → Tells b Q → Tells (a || b) (P ⊎ Q)
either {a} {b} first second = grind (arith, or_cases, or_left, or_right)

-- the first, unless the second is so
pub unless_so : {a b : Bool} {P Q : Type 0} → Tells a P → Tells b Q → Tells (a || b) ((Q → ⊥) → P)
unless_so {a} {b} first second = grind (arith, or_cases, or_right, or_left, false≢true, cases_Bool)

-- the second, where the first is passed
pub where_so : {b : Bool} {Q : Type 0} (a : Bool) → Tells b Q → Tells (not a || b) (a ≡ true → Q)
where_so true second = record { from = λ h e. second.from h; back = λ f. second.back (f refl) }
where_so false second = record { from = λ h e. absurd (false≢true e); back = λ f. refl }

-- not this one
pub not_so : {a : Bool} {P : Type 0} → Tells a P → Tells (not a) (P → ⊥)
not_so {a} tells = grind (arith, false≢true, not-true, not_from_false, cases_Bool)

-- all of a list, also as they are shown
pub each : {X : Type 0} (p : X → Bool) (P : X → Type 0) → ((x : X) → Tells (p x) (P x)) → (xs : List X) → Tells (list_all p xs) (AllByRecursion P xs)
each p P tells [] = always tt
each p P tells (x ∷ xs) = both (tells x) (each p P tells xs)

pub each_shown : {R X : Type 0} (view : R → X) (p : R → Bool) (P : X → Type 0) → ((r : R) → Tells (p r) (P (view r))) → (rs : List R) → Tells (list_all p rs) (AllByRecursion P (map view rs))
each_shown view p P tells [] = always tt
each_shown view p P tells (r ∷ rs) = both (tells r) (each_shown view p P tells rs)
