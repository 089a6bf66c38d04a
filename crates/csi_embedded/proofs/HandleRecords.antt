-- What the plugins of handles have, handle after handle, and what becomes of a list of handles.
use Rattle.std.proofs.Common.{◌≡◌, ◌∙◌, ◌<◌, ◌+◌, ℕ, zero, suc, List, [], ◌∷◌, ◌++◌, take, set, length, get_or, refl, sym, ap, subst, inl, inr, arith}
use Rattle.std.specs.Prelude.{Option, Some, None}
use Rattle.std.proofs.Math.Seq.{map-set_same}
use Rattle.std.proofs.lemmas.List.{length-map, get_or-map, take_more}
use Rattle.csi_types.specs.Model.Members.{IsAmong}
use Rattle.csi_node.specs.Model.Record.{NodeParts}
use Rattle.csi_embedded.specs.declared.ending.CallEnding.{CallEnding}
use Rattle.csi_embedded.specs.declared.ending.CallEnding.TheVariants.{NoMemory, OtherKind}
use Rattle.csi_embedded.specs.declared.embedded.Embedded.{Embedded}
use Rattle.csi_embedded.specs.declared.handle.Handle.{Handle}
use Rattle.csi_embedded.specs.Public.Recovering.{had_by, is_node}
use Rattle.csi_embedded.specs.Private.Recovering.{IsNodeRecord, HasRecord, HasNoRecord, HaveRecords, HaveNoRecords}

-- what a handle has
abbrev had : Handle → Option Embedded
had handle = handle.held.embedded

-- a handle that was put back with what it had leaves what they have
pub put-back : (handles : List Handle) (index : ℕ) (d after : Handle) → after.held.embedded ≡ (get_or handles index d).held.embedded
    → had_by (set handles index after) ≡ had_by handles
put-back handles index d after same = map-set_same had handles index after d same

-- what a handle has is at its place
at-place : (handles : List Handle) (all : List (Option Embedded)) (index : ℕ) (d : Handle) → index < length handles → had_by handles ≡ all
    → (get_or handles index d).held.embedded ≡ get_or all index d.held.embedded
at-place handles all index d within same =
    sym (get_or-map had handles index d d.held.embedded within) ∙ ap (λ (xs : List (Option Embedded)). get_or xs index d.held.embedded) same

-- there are as many
as-long : (handles : List Handle) (all : List (Option Embedded)) → had_by handles ≡ all → length all ≡ length handles
as-long handles all same = sym (ap length same) ∙ length-map handles had

-- one record more
one-more : (handles : List (Option Embedded)) (given : List NodeParts) (handle : Option Embedded) (kept : NodeParts) → HaveRecords handles given → HasRecord IsNodeRecord handle kept
    → HaveRecords (handles ++ handle ∷ []) (given ++ kept ∷ [])
one-more [] [] handle kept have has = (has, tt)
one-more [] (other ∷ others) handle kept have has = absurd have
one-more (first ∷ handles) [] handle kept have has = absurd have
one-more (first ∷ handles) (other ∷ others) handle kept have has = (have.0, one-more handles others handle kept have.1 has)

-- with that of the next handle there are those of the first ones and of it
pub next-record : (handles : List Handle) (all : List (Option Embedded)) (index : ℕ) (d : Handle) (given after : List NodeParts) (kept : NodeParts) → index < length handles
    → had_by handles ≡ all → HaveRecords (take index all) given → HasRecord IsNodeRecord (get_or handles index d).held.embedded kept → after ≡ given ++ kept ∷ []
    → HaveRecords (take (index + 1) all) after
next-record handles all index d given after kept within same have has is =
    let long : index < length all = subst (λ (n : ℕ). index < n) (sym (as-long handles all same)) within in
    let at : (get_or handles index d).held.embedded ≡ get_or all index d.held.embedded = at-place handles all index d within same in
    subst (HaveRecords (take (index + 1) all)) (sym is)
    (subst (λ (hs : List (Option Embedded)). HaveRecords hs (given ++ kept ∷ [])) (sym (take_more all index d.held.embedded long))
    (one-more (take index all) given (get_or all index d.held.embedded) kept have (subst (λ (h : Option Embedded). HasRecord IsNodeRecord h kept) at has)))

-- what stands at a place is among them
among-at : {X : Type 0} (xs : List X) (place : ℕ) (d : X) → place < length xs → IsAmong (get_or xs place d) xs
among-at [] place d within = absurd (omega (arith, within))
among-at (x ∷ xs) zero d within = inl refl
among-at (x ∷ xs) (suc place) d within = inr (among-at xs place d (omega (arith, within)))

-- why one of them has no record is why not all have
none-among : (all : List (Option Embedded)) (handle : Option Embedded) (ending : CallEnding) → IsAmong handle all → HasNoRecord is_node handle ending → HaveNoRecords all ending
none-among all None ending among none = subst (HaveNoRecords all) (sym none) among
none-among all (Some embedded) NoMemory among none = tt
none-among all (Some embedded) OtherKind among none = (embedded, among, none)
none-among all (Some embedded) _ among none = absurd none

-- the same of the handle at a place
pub none-at : (handles : List Handle) (all : List (Option Embedded)) (index : ℕ) (d : Handle) (ending : CallEnding) → index < length handles → had_by handles ≡ all
    → HasNoRecord is_node (get_or handles index d).held.embedded ending → HaveNoRecords all ending
none-at handles all index d ending within same none =
    let long : index < length all = subst (λ (n : ℕ). index < n) (sym (as-long handles all same)) within in
    let at : (get_or handles index d).held.embedded ≡ get_or all index d.held.embedded = at-place handles all index d within same in
    none-among all (get_or handles index d).held.embedded ending (subst (λ (h : Option Embedded). IsAmong h all) (sym at) (among-at all index d.held.embedded long)) none
