-- Answers, item after item, that grow by an item.
use Rattle.std.proofs.Common.{◌≡◌, subst, ap, refl, ◌+◌, suc, cond, List, [], ◌∷◌, ◌++◌, length, arith}
use Rattle.std.specs.Prelude.{◌≢◌, Bool, count_by}
use Rattle.std.proofs.lemmas.List.Sums.{sum_by-cons}
use Rattle.csi_streams.specs.Public.Answering.{AnswersEach}

module _ {C X Y : Type 0} (answers : C → X → Y → C → Type 0) where
  -- items that were answered one after another, and one more that is answered, are answered so
  pub answers-push : (core : C) (items : List X) (given : List Y) (now : C) (item : X) (answer : Y) (next : C) → AnswersEach answers core items given now → answers now item answer next
      → AnswersEach answers core (items ++ item ∷ []) (given ++ answer ∷ []) next
  answers-push core [] [] now item answer next runs answered = (next, subst (λ (c : C). answers c item answer next) runs answered, refl)
  answers-push core [] (g ∷ gs) now item answer next runs answered = absurd runs
  answers-push core (i ∷ is) [] now item answer next runs answered = absurd runs
  answers-push core (i ∷ is) (g ∷ gs) now item answer next runs answered = (runs.0, runs.1, answers-push runs.0 is gs now item answer next runs.2 answered)

  -- items that were answered one after another, and then others, were answered so
  pub answers-append : (core : C) (items : List X) (given : List Y) (mid : C) (others : List X) (more : List Y) (now : C) → AnswersEach answers core items given mid → AnswersEach answers mid others more now
      → AnswersEach answers core (items ++ others) (given ++ more) now
  answers-append core [] [] mid others more now runs then = subst (λ (c : C). AnswersEach answers c others more now) runs then
  answers-append core [] (g ∷ gs) mid others more now runs then = absurd runs
  answers-append core (i ∷ is) [] mid others more now runs then = absurd runs
  answers-append core (i ∷ is) (g ∷ gs) mid others more now runs then = (runs.0, runs.1, answers-append runs.0 is gs mid others more now runs.2 then)

  -- an answer for each item
  pub answers-length : (core : C) (items : List X) (given : List Y) (now : C) → AnswersEach answers core items given now → length given ≡ length items
  answers-length core [] [] now runs = refl
  answers-length core [] (g ∷ gs) now runs = absurd runs
  answers-length core (i ∷ is) [] now runs = absurd runs
  answers-length core (i ∷ is) (g ∷ gs) now runs = ap suc (answers-length runs.0 is gs now runs.2)

  -- so there is one where there is an item
  pub answers-some : (core : C) (items : List X) (given : List Y) (now : C) → AnswersEach answers core items given now → items ≢ [] → given ≢ []
  answers-some core [] given now runs some is = absurd (some refl)
  answers-some core (i ∷ is) [] now runs some none = absurd runs
  answers-some core (i ∷ is) (g ∷ gs) now runs some none = absurd cc

module _ {Y : Type 0} (is_there : Y → Bool) where
  -- an answer in front of the others is counted, if it is one
  count-more : (answer : Y) (given : List Y) → count_by is_there (answer ∷ given) ≡ cond (is_there answer) 1 0 + count_by is_there given
  count-more answer given = sum_by-cons (λ (y : Y). cond (is_there y) 1 0) answer given

  -- an answer behind the others is counted, if it is one
  pub count-push : (given : List Y) (answer : Y) → count_by is_there (given ++ answer ∷ []) ≡ count_by is_there given + cond (is_there answer) 1 0
  count-push [] answer = omega (arith, count-more answer [])
  count-push (g ∷ gs) answer = omega (arith, count-push gs answer, count-more g gs, count-more g (gs ++ answer ∷ []))
