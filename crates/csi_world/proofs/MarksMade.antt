-- Marks beside what is noted, one for each entry: whether its thing is among those that were gone through.
use Rattle.csi_world.proofs.Words.{◌≡◌, ℕ, zero, suc, ◌+◌, ◌<◌, List, [], ◌∷◌, ◌++◌, length, set, replicate, get_or}
use Rattle.csi_world.proofs.Words.{map, Bool, true, false, ◌||◌, take, Some, None, position, refl, sym, ◌∙◌, ap, subst}
use Rattle.csi_world.proofs.Words.{inl, inr, list_any, list_all, IsAmong, FirstAt, Thing, Known, Yes, IsInOrder}
use Rattle.csi_world.proofs.Words.{same_thing, is_entry_listed, is_entry_of, is_noted, arith}
use Rattle.csi_world.proofs.Lemmas.{and_from, get_or_default, take_more, FirstAt-position, FirstAt-passes}
use Rattle.csi_world.proofs.Lemmas.{find-no_place, any-find_none, then-any}
use Rattle.std.proofs.lemmas.List.Folds.{list_any-append, list_all_at, list_all_more}
use Rattle.std.proofs.lemmas.List.Quantifiers.{position-Some}
use Rattle.csi_world.proofs.MarksTold.{same-itself}
use Rattle.csi_world.proofs.NamedCalls.{same-tells}
use Rattle.csi_world.proofs.FoundByHalving.{at-place, later-other}

-- before any thing none is marked
pub marks-none : (noted : List (Thing × Known)) → map (is_entry_listed []) noted ≡ replicate (length noted) false
marks-none [] = refl
marks-none (entry ∷ noted) = ap (λ (bs : List Bool). false ∷ bs) (marks-none noted)

or-false : (b : Bool) → (b || (false || false)) ≡ b
or-false true = refl
or-false false = refl

or-true : (b : Bool) → (b || (true || false)) ≡ true
or-true true = refl
or-true false = refl

-- the same both ways
turned : (a b : Thing) → same_thing a b ≡ true → same_thing b a ≡ true
turned a b h = subst (λ (t : Thing). same_thing t a ≡ true) (same-tells a b h) (same-itself a)

turned-not : (a b : Thing) → same_thing a b ≡ false → same_thing b a ≡ false
turned-not a b h = grind (arith, turned)

-- the entry of the next thing is marked
marked-here : (things : List Thing) (thing : Thing) (entry : Thing × Known) → same_thing thing entry.0 ≡ true → is_entry_listed (things ++ thing ∷ []) entry ≡ true
marked-here things thing entry h =
    list_any-append (same_thing entry.0) things (thing ∷ []) ∙ ap (λ b. list_any (same_thing entry.0) things || (b || false)) (turned thing entry.0 h) ∙ or-true (list_any (same_thing entry.0) things)

-- any other is marked as before
marked-else : (things : List Thing) (thing : Thing) (entry : Thing × Known) → same_thing thing entry.0 ≡ false → is_entry_listed things entry ≡ is_entry_listed (things ++ thing ∷ []) entry
marked-else things thing entry h =
    sym (list_any-append (same_thing entry.0) things (thing ∷ []) ∙ ap (λ b. list_any (same_thing entry.0) things || (b || false)) (turned-not thing entry.0 h) ∙ or-false (list_any (same_thing entry.0) things))

-- where none is of the next thing, all marks are as before
marks-else : (things : List Thing) (thing : Thing) (noted : List (Thing × Known)) → ((entry : Thing × Known) → IsAmong entry noted → same_thing thing entry.0 ≡ false)
    → map (is_entry_listed things) noted ≡ map (is_entry_listed (things ++ thing ∷ [])) noted
marks-else things thing [] others = refl
marks-else things thing (entry ∷ noted) others =
    λ i. marked-else things thing entry (others entry (inl refl)) i ∷ marks-else things thing noted (λ other among. others other (inr among)) i

-- one thing more: its entry is marked
pub mark-more : (things : List Thing) (thing : Thing) (noted : List (Thing × Known)) (place : ℕ) (entry : Thing × Known) → IsInOrder noted → FirstAt (is_entry_of thing) noted place entry
    → set (map (is_entry_listed things) noted) place true ≡ map (is_entry_listed (things ++ thing ∷ [])) noted
mark-more things thing [] place entry ordered first = absurd first
mark-more things thing (x ∷ noted) zero entry ordered first =
    λ i. sym (marked-here things thing x first.0) i ∷ marks-else things thing noted (later-other x noted thing ordered first.0) i
mark-more things thing (x ∷ noted) (suc place) entry ordered first =
    λ i. marked-else things thing x first.0 i ∷ mark-more things thing noted place entry (ordered.1) first.1 i

-- nothing is noted of the next thing
pub none-noted : (things : List Thing) (noted : List (Thing × Known)) (index : ℕ) (thing : Thing) → index < length things → thing ≡ get_or things index thing → position (is_entry_of thing) noted ≡ None
    → list_all (is_noted noted) things ≡ false
none-noted things noted index thing within is none =
    list_all_at (is_noted noted) things index thing within (ap (is_noted noted) (sym is) ∙ any-find_none (is_entry_of thing) noted (find-no_place (is_entry_of thing) noted none))

-- something is noted of the next thing, whose entry is marked
pub marked-more : (things : List Thing) (noted : List (Thing × Known)) (marks : List Bool) (index place : ℕ) (thing : Thing) → IsInOrder noted → index < length things → thing ≡ get_or things index thing
    → position (is_entry_of thing) noted ≡ Some place → list_all (is_noted noted) (take index things) ≡ true → marks ≡ map (is_entry_listed (take index things)) noted
    → (list_all (is_noted noted) (take (index + 1) things) ≡ true) × (set marks place true ≡ map (is_entry_listed (take (index + 1) things)) noted)
marked-more things noted marks index place thing ordered within is at all marked =
    let own : Thing × Known = (thing, Yes) in
    let entry : Thing × Known = get_or noted place own in
    let bound : place < length noted = (position-Some (is_entry_of thing) noted place own at).0 in
    let first : FirstAt (is_entry_of thing) noted place entry = FirstAt-position (is_entry_of thing) noted place entry at (get_or_default noted place own entry bound) in
    let passes : is_noted noted (get_or things index thing) ≡ true
    = ap (is_noted noted) (sym is) ∙ then-any (is_entry_of thing) noted entry (at-place noted place own bound) (FirstAt-passes (is_entry_of thing) noted place entry first) in
    let more : take (index + 1) things ≡ take index things ++ thing ∷ [] = take_more things index thing within ∙ ap (λ (t : Thing). take index things ++ t ∷ []) (sym is) in (
      list_all_more (is_noted noted) things index thing within ∙ and_from (list_all (is_noted noted) (take index things)) (is_noted noted (get_or things index thing)) all passes,
      ap (λ (bs : List Bool). set bs place true) marked ∙ mark-more (take index things) thing noted place entry ordered first ∙ ap (λ (ts : List Thing). map (is_entry_listed ts) noted) (sym more),
    )
