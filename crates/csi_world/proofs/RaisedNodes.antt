-- The nodes of a world whose orchestrator is made of what its plugins keep: those that are given, their sessions raised.
use Rattle.csi_world.proofs.Words.{◌≡◌, ℕ, Bool, true, false, cond, List, [], ◌∷◌, ◌++◌, map, filter, refl, sym, ◌∙◌}
use Rattle.csi_world.proofs.Words.{ap, subst, list_any, same_text, NodeParts, History, Shows, IsWellFormed, World}
use Rattle.csi_world.proofs.Words.{NodeAt, WorldParts, ShowsWorld, AreNodesShown, has_same_id, IsSoundWorld, arith}
use Rattle.csi_orchestrator.specs.Model.Shown.{OrchestratorParts}
use Rattle.csi_world.proofs.Lemmas.{or_parts}
use Rattle.csi_world.specs.Private.Recovering.{IsRaised, HasRecovered}
use Rattle.csi_world.specs.Public.Given.{IsKept, AreThose}
use Rattle.csi_world.specs.Public.Recovery.{is_given, raised_at, recovered_world}

-- one that is given
pub those-more : (IsOf : NodeParts → NodeParts → Type 0) (given : List (List ℕ)) (olds news : List NodeParts) (old new : NodeParts) → list_any (same_text old.id) given ≡ true → IsOf old new
    → AreThose IsOf given olds news → AreThose IsOf given (olds ++ old ∷ []) (news ++ new ∷ [])
those-more IsOf given [] [] old new passes is are = rw passes (is, tt)
those-more IsOf given [] (x ∷ xs) old new passes is are = absurd are
those-more IsOf given (o ∷ os) news old new passes is are = by (λ ns so. those-more IsOf given os ns old new passes is so) (list_any (same_text o.id) given) news are
  where
    by : ((ns : List NodeParts) → AreThose IsOf given os ns → AreThose IsOf given (os ++ old ∷ []) (ns ++ new ∷ []))
        → (b : Bool) (ns : List NodeParts) → IsKept b IsOf o (AreThose IsOf given os) ns → IsKept b IsOf o (AreThose IsOf given (os ++ old ∷ [])) (ns ++ new ∷ [])
    by more true [] so = absurd so
    by more true (x ∷ xs) so = (so.0, more xs so.1)
    by more false ns so = more ns so

-- one that isn't
pub those-less : (IsOf : NodeParts → NodeParts → Type 0) (given : List (List ℕ)) (olds news : List NodeParts) (old : NodeParts) → list_any (same_text old.id) given ≡ false
    → AreThose IsOf given olds news → AreThose IsOf given (olds ++ old ∷ []) news
those-less IsOf given [] [] old fails are = rw fails tt
those-less IsOf given [] (x ∷ xs) old fails are = absurd are
those-less IsOf given (o ∷ os) news old fails are = by (λ ns so. those-less IsOf given os ns old fails so) (list_any (same_text o.id) given) news are
  where
    by : ((ns : List NodeParts) → AreThose IsOf given os ns → AreThose IsOf given (os ++ old ∷ []) ns)
        → (b : Bool) (ns : List NodeParts) → IsKept b IsOf o (AreThose IsOf given os) ns → IsKept b IsOf o (AreThose IsOf given (os ++ old ∷ [])) ns
    by more true [] so = absurd so
    by more true (x ∷ xs) so = (so.0, more xs so.1)
    by more false ns so = more ns so

-- they show the world's
pub raised-shown : (given : List (List ℕ)) (session : ℕ) (olds news : List NodeParts) (nodes : List NodeAt) → AreNodesShown olds nodes → AreThose (IsRaised session) given olds news
    → AreNodesShown news (map (raised_at session) (filter (is_given given) nodes))
raised-shown given session [] [] [] shown are = tt
raised-shown given session [] (x ∷ xs) [] shown are = absurd are
raised-shown given session [] news (n ∷ ns) shown are = absurd shown
raised-shown given session (o ∷ os) news [] shown are = absurd shown
raised-shown given session (o ∷ os) news (n ∷ ns) shown are =
    by (λ new so. raised-shown given session os new ns shown.2 so) (list_any (same_text n.id) given) news (subst (λ (id : List ℕ). IsKept (list_any (same_text id) given) (IsRaised session) o (AreThose (IsRaised session) given os) news) shown.0 are)
  where
    rest : List NodeAt
    rest = filter (is_given given) ns

    by : ((new : List NodeParts) → AreThose (IsRaised session) given os new → AreNodesShown new (map (raised_at session) rest))
        → (b : Bool) (new : List NodeParts) → IsKept b (IsRaised session) o (AreThose (IsRaised session) given os) new → AreNodesShown new (map (raised_at session) (cond b (n ∷ rest) rest))
    by more true [] so = absurd so
    by more true (x ∷ xs) so = ((so.0).id ∙ shown.0, (so.0).shown n.state shown.1, more xs so.1)
    by more false new so = more new so

-- none of them is of an id of which none was
raised-none : (given : List (List ℕ)) (session : ℕ) (id : List ℕ) (olds news : List NodeParts) → list_any (λ (other : NodeParts). same_text id other.id) olds ≡ false → AreThose (IsRaised session) given olds news
    → list_any (λ (other : NodeParts). same_text id other.id) news ≡ false
raised-none given session id [] [] none are = refl
raised-none given session id [] (x ∷ xs) none are = absurd are
raised-none given session id (o ∷ os) news none are = by (λ ns so. raised-none given session id os ns both.1 so) (list_any (same_text o.id) given) news are
  where
    both : (same_text id o.id ≡ false) × (list_any (λ (other : NodeParts). same_text id other.id) os ≡ false)
    both = or_parts (same_text id o.id) (list_any (λ (other : NodeParts). same_text id other.id) os) none

    by : ((ns : List NodeParts) → AreThose (IsRaised session) given os ns → list_any (λ (other : NodeParts). same_text id other.id) ns ≡ false)
        → (b : Bool) (ns : List NodeParts) → IsKept b (IsRaised session) o (AreThose (IsRaised session) given os) ns → list_any (λ (other : NodeParts). same_text id other.id) ns ≡ false
    by more true [] so = absurd so
    by more true (x ∷ xs) so = rw (ap (same_text id) (so.0).id ∙ both.0) (more xs so.1)
    by more false ns so = more ns so

-- no two of them are of one id
pub raised-apart : (given : List (List ℕ)) (session : ℕ) (olds news : List NodeParts) → has_same_id olds ≡ false → AreThose (IsRaised session) given olds news → has_same_id news ≡ false
raised-apart given session [] [] apart are = refl
raised-apart given session [] (x ∷ xs) apart are = absurd are
raised-apart given session (o ∷ os) news apart are = by (λ ns so. raised-apart given session os ns both.1 so) (list_any (same_text o.id) given) news are
  where
    both : (list_any (λ (other : NodeParts). same_text o.id other.id) os ≡ false) × (has_same_id os ≡ false)
    both = or_parts (list_any (λ (other : NodeParts). same_text o.id other.id) os) (has_same_id os) apart

    first : (x : NodeParts) (xs : List NodeParts) → x.id ≡ o.id → AreThose (IsRaised session) given os xs → list_any (λ (other : NodeParts). same_text x.id other.id) xs ≡ false
    first x xs same so = subst (λ (id : List ℕ). list_any (λ (other : NodeParts). same_text id other.id) xs ≡ false) (sym same) (raised-none given session o.id os xs both.0 so)

    by : ((ns : List NodeParts) → AreThose (IsRaised session) given os ns → has_same_id ns ≡ false)
        → (b : Bool) (ns : List NodeParts) → IsKept b (IsRaised session) o (AreThose (IsRaised session) given os) ns → has_same_id ns ≡ false
    by more true [] so = absurd so
    by more true (x ∷ xs) so = rw (first x xs (so.0).id so.1) (more xs so.1)
    by more false ns so = more ns so

-- ---- the system after a recovery

-- it is the recovered world
pub recovered-shows : (session : ℕ) (given : List (List ℕ)) (made : OrchestratorParts) (old new : WorldParts) (world : World) (history : History) → HasRecovered session given made old new → ShowsWorld old world
    → Shows made history → IsWellFormed history → ShowsWorld new (recovered_world session given history world)
recovered-shows session given made old new world history has shows agrees form = grind (arith, raised-shown)

-- it is sound
pub recovered-sound : (session : ℕ) (given : List (List ℕ)) (made : OrchestratorParts) (old new : WorldParts) → HasRecovered session given made old new → IsSoundWorld old → IsSoundWorld new
recovered-sound session given made old new has sound = grind (arith, raised-apart)
