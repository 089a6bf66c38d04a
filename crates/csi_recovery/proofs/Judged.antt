-- Whether the records are fit is whether the nodes are.
use Rattle.std.proofs.Common.{◌≡◌, ◌<◌, ℕ, zero, suc, List, [], ◌∷◌, ◌++◌, Bool, true, false, take, sym, ◌∙◌, ap, subst, inl, inr}
use Rattle.std.specs.Prelude.{◌⊎◌, ◌&&◌, nat_lt}
use Rattle.std.specs.List.{AllByRecursion, list_all, list_any}
use Rattle.std.proofs.lemmas.Bool.{and_from, and_parts, true≢false, lt-ltb, ltb-true}
use Rattle.csi_types.specs.Model.Members.{IsAmong}
use Rattle.csi_types.proofs.Members.{among-either, among-last}
use Rattle.csi_types.proofs.Pairs.{two-append}
use Rattle.csi_types.proofs.Tests.{all-then, then-all, none-among, any-then}
use Rattle.csi_types.specs.Model.Same.{same_text}
use Rattle.csi_controller.specs.Model.State.{ControllerState}
use Rattle.csi_controller.specs.Public.Views as controller
use Rattle.csi_node.specs.Model.Record.{NodeParts}
use Rattle.csi_orchestrator.specs.declared.fault.OrchRecordFault.{OrchRecordFault}
use Rattle.csi_orchestrator.specs.declared.fault.OrchRecordFault.TheVariants as record_faults
use Rattle.csi_orchestrator.specs.Public.Judging.{IsFirstRefused}
use Rattle.csi_orchestrator.specs.Public.Record.{IsRecordRefusal}
use Rattle.csi_orchestrator.specs.Public.Restored.{AreRestorable}
use Rattle.csi_recovery.specs.Public.Recovered.{GivenNode, recovered_rows, Agree, MayRecover}
use Rattle.csi_recovery.specs.declared.fault.RecoveryFault.{RecoveryFault}
use Rattle.csi_recovery.specs.declared.fault.RecoveryFault.TheVariants.{SameNode, NotLater, Disagrees, BadNodes, BadRow, NoMemory}
use Rattle.csi_recovery.specs.Public.Judged.{IsKeptOf, IsGiven, AreGiven, HaveDistinctNodes, DoAgree, IsLater, AreFit, IsNotFree, IsUnfit, IsRecoveryRefusal}
use Rattle.csi_recovery.specs.Public.Rebuilding.{AreEarlier}
use Rattle.csi_recovery.specs.Private.Walks.{passed_on}
use Rattle.csi_recovery.proofs.Given.{record-among, node-among}

-- ---- stores that agree

-- one more that agrees
pub agree-more : (state : ControllerState) (known : List GivenNode) (node : GivenNode) → DoAgree state known → Agree state node → DoAgree state (known ++ node ∷ [])
agree-more state known node all own = λ other among. by other (among-either known node other among)
  where
    by : (other : GivenNode) → IsAmong other known ⊎ (other ≡ node) → Agree state other
    by other (inl before) = all other before
    by other (inr same) = subst (Agree state) (sym same) own

-- the last of those that agree
pub agree-last : (state : ControllerState) (known : List GivenNode) (node : GivenNode) → DoAgree state (known ++ node ∷ []) → Agree state node
agree-last state known node all = all node (among-last known node)

-- ---- stores of one node

-- no record of the first is of the node of the next
pub distinct-more : (given : List NodeParts) (known : List GivenNode) (kept : NodeParts) (node : GivenNode) → AreGiven given known → IsGiven kept node → list_any (λ (k : NodeParts). same_text k.id kept.id) given ≡ false
    → HaveDistinctNodes known → HaveDistinctNodes (known ++ node ∷ [])
distinct-more given known kept node are own none apart =
    two-append (λ (a b : GivenNode). same_text a.id b.id ≡ false) known node apart
    (λ other among.
    let from = record-among given known other are among in
    let missed : same_text from.0.id kept.id ≡ false = none-among (λ (k : NodeParts). same_text k.id kept.id) given from.0 none from.1 in
    ap (λ (n : List ℕ). same_text n node.id) from.2.id ∙ ap (λ (n : List ℕ). same_text from.0.id n) own.id ∙ missed)

-- of two lists that are joined, each of the first stands so to each of the second
two-across : (known : List GivenNode) (node other : GivenNode) → HaveDistinctNodes (known ++ node ∷ []) → IsAmong other known → same_text other.id node.id ≡ false
two-across [] node other apart among = absurd among
two-across (first ∷ rest) node other apart (inl here) = subst (λ (n : GivenNode). same_text n.id node.id ≡ false) (sym here) (last rest apart.0)
  where
    last : (xs : List GivenNode) → AllByRecursion (λ (b : GivenNode). same_text first.id b.id ≡ false) (xs ++ node ∷ []) → same_text first.id node.id ≡ false
    last [] all = all.0
    last (x ∷ xs) all = last xs all.1
two-across (first ∷ rest) node other apart (inr later) = two-across rest node other apart.1 later

-- some record of the first is of it
pub distinct-broken : (given : List NodeParts) (known : List GivenNode) (kept : NodeParts) (node : GivenNode) → AreGiven given known → IsGiven kept node → list_any (λ (k : NodeParts). same_text k.id kept.id) given ≡ true
    → HaveDistinctNodes (known ++ node ∷ []) → ⊥
distinct-broken given known kept node are own some apart =
    let from = any-then (λ (k : NodeParts). same_text k.id kept.id) given some in
    let there = node-among given known from.0 are from.1 in
    let same : same_text there.0.id node.id ≡ true = ap (λ (n : List ℕ). same_text n node.id) there.2.id ∙ ap (λ (n : List ℕ). same_text from.0.id n) own.id ∙ from.2 in
    true≢false (sym same ∙ two-across known node there.0 apart there.1)

-- ---- sessions

-- the tests of the sessions
abbrev pub are_earlier : ℕ → controller.RecordParts → List NodeParts → Bool
are_earlier session kept given = nat_lt kept.session session && list_all (λ (k : NodeParts). nat_lt k.session session) given

pub later-from : (session : ℕ) (kept : controller.RecordParts) (state : ControllerState) (given : List NodeParts) (known : List GivenNode) → IsKeptOf kept state → AreGiven given known → are_earlier session kept given ≡ true → IsLater session state known
later-from session kept state given known is are passes =
    let both = and_parts (nat_lt kept.session session) (list_all (λ (k : NodeParts). nat_lt k.session session) given) passes in
    record {
      after_controller = subst (λ (n : ℕ). n < session) is.session (ltb-true kept.session session both.0);
      after_nodes = λ node among.
          let from = record-among given known node are among in
          subst (λ (n : ℕ). n < session) from.2.shows.session (ltb-true from.0.session session (all-then (λ (k : NodeParts). nat_lt k.session session) given both.1 from.0 from.1));
    }

pub from-later : (session : ℕ) (kept : controller.RecordParts) (state : ControllerState) (given : List NodeParts) (known : List GivenNode) → IsKeptOf kept state → AreGiven given known → IsLater session state known → are_earlier session kept given ≡ true
from-later session kept state given known is are later =
    and_from (nat_lt kept.session session) (list_all (λ (k : NodeParts). nat_lt k.session session) given) (lt-ltb kept.session session (subst (λ (n : ℕ). n < session) (sym is.session) later.after_controller))
    (then-all (λ (k : NodeParts). nat_lt k.session session) given (λ own among.
    let there = node-among given known own are among in
    lt-ltb own.session session (subst (λ (n : ℕ). n < session) (sym there.2.shows.session) (later.after_nodes there.0 there.1))))

-- the tests of the nodes' alone, against the controller's own
pub earlier-from : (session : ℕ) (kept : controller.RecordParts) (state : ControllerState) (given : List NodeParts) (known : List GivenNode) → session ≡ kept.session → IsKeptOf kept state → AreGiven given known
    → list_all (λ (k : NodeParts). nat_lt k.session session) given ≡ true → AreEarlier state known
earlier-from session kept state given known own is are passes = λ node among.
    let from = record-among given known node are among in
    subst (λ (n : ℕ). node.state.session < n) (own ∙ is.session)
    (subst (λ (n : ℕ). n < session) from.2.shows.session (ltb-true from.0.session session (all-then (λ (k : NodeParts). nat_lt k.session session) given passes from.0 from.1)))

pub from-earlier : (session : ℕ) (kept : controller.RecordParts) (state : ControllerState) (given : List NodeParts) (known : List GivenNode) → session ≡ kept.session → IsKeptOf kept state → AreGiven given known
    → AreEarlier state known → list_all (λ (k : NodeParts). nat_lt k.session session) given ≡ true
from-earlier session kept state given known own is are earlier =
    then-all (λ (k : NodeParts). nat_lt k.session session) given (λ one among.
    let there = node-among given known one are among in
    lt-ltb one.session session (subst (λ (n : ℕ). one.session < n) (sym (own ∙ is.session)) (subst (λ (n : ℕ). n < state.session) (sym there.2.shows.session) (earlier there.0 there.1))))

-- ---- what is unfit

-- the first of a list whose any two are apart are so
distinct-take : (known : List GivenNode) (count : ℕ) → HaveDistinctNodes known → HaveDistinctNodes (take count known)
distinct-take known zero apart = tt
distinct-take [] (suc count) apart = tt
distinct-take (node ∷ nodes) (suc count) apart = (each nodes count apart.0, distinct-take nodes count apart.1)
  where
    each : (xs : List GivenNode) (n : ℕ) → AllByRecursion (λ (b : GivenNode). same_text node.id b.id ≡ false) xs → AllByRecursion (λ (b : GivenNode). same_text node.id b.id ≡ false) (take n xs)
    each xs zero all = tt
    each [] (suc n) all = tt
    each (x ∷ xs) (suc n) all = (all.0, each xs n all.1)

-- what is among the first is among all
among-take : {X : Type 0} (xs : List X) (count : ℕ) (x : X) → IsAmong x (take count xs) → IsAmong x xs
among-take xs zero x among = absurd among
among-take [] (suc count) x among = absurd among
among-take (y ∷ ys) (suc count) x (inl here) = inl here
among-take (y ∷ ys) (suc count) x (inr later) = inr (among-take ys count x later)

-- stores that are fit aren't unfit
pub fit-clash : (session : ℕ) (state : ControllerState) (known : List GivenNode) (fault : RecoveryFault) → IsUnfit session state known fault → AreFit session state known → ⊥
fit-clash session state known (SameNode place) unfit fit = unfit.refused (distinct-take known place fit.apart)
fit-clash session state known NotLater unfit fit = unfit.1 fit.later
fit-clash session state known (Disagrees place) unfit fit = unfit.2.refused (λ node among. fit.agree node (among-take known place node among))
fit-clash session state known BadNodes unfit fit = unfit
fit-clash session state known (BadRow place) unfit fit = unfit
fit-clash session state known NoMemory unfit fit = unfit

-- stores of which an orchestrator may be made are fit
pub may-fit : (nodes : List (List ℕ)) (session : ℕ) (state : ControllerState) (known : List GivenNode) → MayRecover nodes session state known → AreFit session state known
may-fit nodes session state known may =
    record { apart = may.apart; later = record { after_controller = may.after_controller; after_nodes = may.after_nodes }; agree = may.agree }

-- and the other way round, with rows that are a record's
pub fit-may : (nodes : List (List ℕ)) (session : ℕ) (state : ControllerState) (known : List GivenNode) → AreFit session state known → AreRestorable nodes (recovered_rows state known) → MayRecover nodes session state known
fit-may nodes session state known fit rows =
    record { apart = fit.apart; agree = fit.agree; after_controller = fit.later.after_controller; after_nodes = fit.later.after_nodes; rows = rows }

-- unfit stores are refused so
pub unfit-refused : (nodes : List (List ℕ)) (session : ℕ) (state : ControllerState) (known : List GivenNode) (fault : RecoveryFault) → IsUnfit session state known fault → IsRecoveryRefusal nodes session state known fault
unfit-refused nodes session state known (SameNode place) unfit = unfit
unfit-refused nodes session state known NotLater unfit = unfit
unfit-refused nodes session state known (Disagrees place) unfit = unfit
unfit-refused nodes session state known BadNodes unfit = absurd unfit
unfit-refused nodes session state known (BadRow place) unfit = absurd unfit
unfit-refused nodes session state known NoMemory unfit = absurd unfit

-- where no record is made of the rows of fit stores, nothing is recovered
pub passed-refused : (nodes : List (List ℕ)) (session : ℕ) (state : ControllerState) (known : List GivenNode) (fault : OrchRecordFault) → AreFit session state known
    → ((place : ℕ) → IsFirstRefused (AreRestorable nodes) (recovered_rows state known) place → IsNotFree nodes (recovered_rows state known) place) → IsRecordRefusal nodes (recovered_rows state known) fault
    → IsRecoveryRefusal nodes session state known (passed_on fault)
passed-refused nodes session state known record_faults.BadNodes fit not_free refused = (fit, refused)
passed-refused nodes session state known (record_faults.BadRow place) fit not_free refused = (fit, refused.0, refused.1, not_free place refused.1)
passed-refused nodes session state known record_faults.NoMemory fit not_free refused = fit
