-- Texts and capabilities of a schedule, read where they stand.
use Rattle.std.proofs.Common.{◌≡◌, ℕ, ◌<◌, ◌≤◌, List, [], ◌∷◌, length, get_or, Global, Vec, Bor, true, refl, sym, ap, ◌∙◌, inl, inr, arith, rules}
use Rattle.std.specs.Prelude.{◌↔◌, Some, option_and_then, codes, Result, Ok, Err, IsErrOf}
use Rattle.std.specs.Str.{bytes_eq}
use Rattle.std.proofs.lemmas.Bool.{le-leb}
use Rattle.std.proofs.lemmas.Bool.Decides.{leb_tells}
use Rattle.std.proofs.lemmas.Slice.Eq.{bytes_eq-Decides}
use Rattle.json.specs.Json as json
use Rattle.json.specs.Value.{value_view, members_view as members_seen}
use Rattle.json.specs.declared.value.Value.{Value, the_lemmas}
use Rattle.json.specs.declared.value.Value.TheVariants as values
use Rattle.json.proofs.Trees.{view-Object}
use Rattle.serde_json.specs.Data.{string, unsigned}
use Rattle.serde_json.specs.Read.{of_json, number_of as number_in}
use Rattle.csi_types.specs.declared.capability.Access.TheVariants.{Block}
use Rattle.csi_types.specs.declared.mode.Mode.{Mode}
use Rattle.csi_types.specs.Public.Mode.{mode_from_number}
use Rattle.csi_types.specs.declared.text.TextFault.{TextFault}
use Rattle.csi_types.specs.declared.text.TextFault.TheVariants.{Empty, TooLong}
use Rattle.csi_json.specs.Public.Json.{text_of, number_of, sized_object}
use Rattle.csi_json.specs.Public.Capabilities.{capability_of, access_of, block_of, mode_of}
use Rattle.csi_json.specs.Private.Plain.{seen_as}
use Rattle.csi_json.proofs.OwnedValues.{Member}
use Rattle.csi_json.proofs.PlainSchedules.{seen_number}
use Rattle.csi_json.proofs.UsualCommands.{two_of}

-- ---- a text within its limits

-- a text of JSON that is borrowed is seen as it is
seen_text : (text : Bor (List ℕ)) → value_view {A = Global} (values.String text) ≡ json.string text.now
seen_text text = search (rules, the_lemmas)

-- a text within two limits is read as it is
fits : (least most : ℕ) (text : List ℕ) → least ≤ length text → length text ≤ most → text_of least most (string text) ≡ Some text
unfolding text_of
fits least most text low high = rw (le-leb _ _ low, le-leb _ _ high) refl

-- a text that isn't empty has a byte
some_byte : (text : List ℕ) → (text ≡ [] → ⊥) → 1 ≤ length text
some_byte [] none = absurd (none refl)
some_byte (x ∷ xs) none = omega arith

-- what isn't less is no less
not_more : (a b : ℕ) → (a < b → ⊥) → b ≤ a
not_more a b never = elim (leb_tells b a) as (λ t. b ≤ a) [ inl t ↦ t.1 | inr t ↦ absurd (never t.1) ]

-- a text that was made of this one, which so has a byte and no more than these, is what is read of it
pub text_read : (most : ℕ) (value : Value Global) (text : Bor (List ℕ)) (read : List ℕ) (made : Result (List ℕ) TextFault) → value ≡ values.String text → made ≡ Ok read → read ≡ text.now
    → (IsErrOf made Empty ↔ (text.now ≡ [])) → (IsErrOf made TooLong ↔ (most < length text.now)) → seen_as (text_of 1 most) value ≡ Some read
text_read most value text read made is ok same empty long =
    let low : 1 ≤ length text.now = some_byte text.now (λ none. other Empty (empty.1 none)) in
    let high : length text.now ≤ most = not_more most (length text.now) (λ more. other TooLong (long.1 more)) in
    ap (λ v. option_and_then (text_of 1 most) (of_json (value_view v))) is ∙ ap (λ j. option_and_then (text_of 1 most) (of_json j)) (seen_text text) ∙ fits 1 most text.now low high ∙ ap Some (sym same)
  where
    other : (fault : TextFault) → made ≡ Err fault → ⊥
    other fault e = let differ : Ok read ≡ Err fault = sym ok ∙ e in cc

-- ---- a capability with block access

-- an object with the access `block` and a mode's number is read as the capability of these
block_data : (text : List ℕ) (n : ℕ) (mode : Mode) → number_in text ≡ Some (unsigned n) → mode_from_number n ≡ Some mode
    → option_and_then capability_of (of_json (json.object (json.member (codes "access") (json.string (codes "block")) (json.member (codes "mode") (json.number text) json.no_members)))) ≡ Some (record { access = Block; mode = mode })
unfolding capability_of access_of block_of mode_of number_of sized_object
block_data text n mode plain is = rw plain (rw is refl)

-- an object with these two members is one
pub block_is : (value : Value Global) (members : Vec Member Global) (a b : Member) (kind text : Bor (List ℕ)) (n : ℕ) (mode : Mode) → value ≡ values.Object members → length members.items ≡ 2
    → a ≡ get_or members.items 0 a → b ≡ get_or members.items 1 b → bytes_eq a.0.now (codes "access") ≡ true → bytes_eq b.0.now (codes "mode") ≡ true
    → a.1 ≡ values.String kind → bytes_eq kind.now (codes "block") ≡ true → b.1 ≡ values.Number text → number_in text.now ≡ Some (unsigned n) → mode_from_number n ≡ Some mode
    → seen_as capability_of value ≡ Some (record { access = Block; mode = mode })
block_is value members a b kind text n mode is two p q ka kb first block second plain made =
    let names_a = (bytes_eq-Decides a.0.now (codes "access")).0 ka in
    let names_b = (bytes_eq-Decides b.0.now (codes "mode")).0 kb in
    let named = (bytes_eq-Decides kind.now (codes "block")).0 block in
    let access : value_view a.1 ≡ json.string (codes "block") = ap value_view first ∙ seen_text kind ∙ ap json.string named in
    let number : value_view b.1 ≡ json.number text.now = ap value_view second ∙ seen_number text in
    let seen : value_view value ≡ json.object (members_seen (a ∷ b ∷ [])) = ap value_view is ∙ view-Object members ∙ ap (λ ms. json.object (members_seen ms)) (two_of members.items a b two p q) in
    let keyed : json.object (members_seen (a ∷ b ∷ [])) ≡ json.object (json.member (codes "access") (json.string (codes "block")) (json.member (codes "mode") (json.number text.now) json.no_members)) =
    λ i. json.object (json.member (names_a i) (access i) (json.member (names_b i) (number i) json.no_members)) in
    ap (λ j. option_and_then capability_of (of_json j)) (seen ∙ keyed) ∙ block_data text.now n mode plain made
