-- What is known to be so is so, and what is known not to be so isn't, by the list of what holds; and what an audit finds then.
use Rattle.csi_world.proofs.Words.{◌≡◌, ◌≢◌, ◌↔◌, List, Bool, true, IsTrue, ◌&&◌, refl, sym, ◌∙◌, subst, list_all}
use Rattle.csi_world.proofs.Words.{IsAmong, Thing, Known, Yes, No, ListsKnown, same_thing, World, is_true_in}
use Rattle.csi_world.proofs.Words.{AreMarkedRight, is_listed, is_noted, is_affirmed, arith}
use Rattle.csi_world.proofs.Lemmas.{and_parts, and_from, false≢true, false_from_ne_true, all-then, then-all, any-then}
use Rattle.csi_world.proofs.Lemmas.{then-any, same_text-tells}
use Rattle.csi_world.proofs.NamedCalls.{same-tells}

-- Yes isn't No
yes_not_no : Yes ≢ No
yes_not_no e = cc

-- ---- the same thing

-- a thing is the same as itself
pub same-itself : (thing : Thing) → same_thing thing thing ≡ true
same-itself thing = grind (arith, same_text-tells, and_from)

-- ---- what holds, and what is noted

-- a thing of which something is noted passes the test of that
is-noted : (noted : List (Thing × Known)) (thing : Thing) (mark : Known) → IsAmong (thing, mark) noted → is_noted noted thing ≡ true
is-noted noted thing mark among = then-any (λ (entry : Thing × Known). same_thing thing entry.0) noted (thing, mark) among (same-itself thing)

-- and where the test passes, something is noted of the thing
noted-is : (noted : List (Thing × Known)) (thing : Thing) → is_noted noted thing ≡ true → (mark : Known) × IsAmong (thing, mark) noted
noted-is noted thing h =
    let found = any-then (λ (entry : Thing × Known). same_thing thing entry.0) noted h in
    let entry : Thing × Known = found.0 in
    let same : thing ≡ entry.0 = same-tells thing entry.0 found.2 in
    (entry.1, subst (λ (t : Thing). IsAmong {X = Thing × Known} (t, entry.1) noted) (sym same) found.1)

-- what the test takes as listed is in the list
listed-is : (things : List Thing) (thing : Thing) → is_listed things thing ≡ true → IsAmong thing things
listed-is things thing h =
    let found = any-then (same_thing thing) things h in
    subst (λ (t : Thing). IsAmong t things) (sym (same-tells thing found.0 found.2)) found.1

-- and what is in the list the test takes as listed
is-listed : (things : List Thing) (thing : Thing) → IsAmong thing things → is_listed things thing ≡ true
is-listed things thing among = then-any (same_thing thing) things thing among (same-itself thing)

-- an entry passes where its thing is in the list, if it is known to be so
each-affirmed : (things : List Thing) (entry : Thing × Known) → (entry.1 ≡ Yes → IsAmong entry.0 things) → is_affirmed things entry ≡ true
each-affirmed things entry f = grind (arith, is-listed)

-- by a list of what holds and a list of what is known, the two tests tell whether all is marked right
pub marked-told : (marks : Thing → Known) (world : World) (things : List Thing) (noted : List (Thing × Known)) → ((thing : Thing) → IsAmong thing things ↔ (is_true_in world thing ≡ true)) → ListsKnown marks noted
    → (b : Bool) → b ≡ (list_all (is_affirmed things) noted && list_all (is_noted noted) things) → IsTrue b ↔ AreMarkedRight marks world
marked-told marks world things noted all lists b g = (λ h. to h, λ right. g ∙ and_from affirmed known (back_affirmed right) (back_noted right))
  where
    affirmed : Bool
    affirmed = list_all (is_affirmed things) noted

    known : Bool
    known = list_all (is_noted noted) things

    to : IsTrue b → AreMarkedRight marks world
    to h thing =
        let parts = and_parts affirmed known (sym g ∙ h) in
        record {
          yes = λ is. (all thing).0 (listed-is things thing (all-then (is_affirmed things) noted parts.0 (thing, Yes) ((lists thing Yes).1 (is, yes_not_no))));
          no = λ is. false_from_ne_true (is_true_in world thing) (λ there.
              let found = noted-is noted thing (all-then (is_noted noted) things parts.1 thing ((all thing).1 there)) in
              let told = (lists thing found.0).0 found.1 in
              told.1 (sym told.0 ∙ is));
        }

    back_affirmed : AreMarkedRight marks world → list_all (is_affirmed things) noted ≡ true
    back_affirmed right =
        then-all (is_affirmed things) noted (λ entry among.
        each-affirmed things entry (λ is. (all entry.0).1 ((right entry.0).yes (((lists entry.0 entry.1).0 among).0 ∙ is))))

    back_noted : AreMarkedRight marks world → list_all (is_noted noted) things ≡ true
    back_noted right =
        then-all (is_noted noted) things (λ thing among.
        let clash : marks thing ≡ No → ⊥ = λ is. false≢true (sym ((right thing).no is) ∙ (all thing).0 among) in
        is-noted noted thing (marks thing) ((lists thing (marks thing)).1 (refl, clash)))
