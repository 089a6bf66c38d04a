-- What a row knows with one entry more in front, or one target more of its first entry; and how the volume is held.
use Rattle.csi_orchestrator.proofs.Words.{◌≡◌, ℕ, List, [], ◌∷◌, Bool, true, false, cond, refl, sym, ◌∙◌, ap, Option}
use Rattle.csi_orchestrator.proofs.Words.{Some, None, find, Capability, same_text, TargetEntry, Thing, Known, No}
use Rattle.csi_orchestrator.proofs.Words.{NodeEntryShown, RowShown, mark_in, mark_of, held_at, held_on_node, arith}
use Rattle.csi_orchestrator.proofs.Lemmas.{same_text-tells}
use Rattle.csi_orchestrator.specs.declared.request.Arguments.{Arguments}

-- a row of which nothing is wanted, and that has no open call
abbrev pub still : List ℕ → Arguments → Option ℕ → Known → List NodeEntryShown → RowShown
still name arguments id exists entries = record { name = name; arguments = arguments; id = id; exists = exists; goal = None; open_call = None; tries = 0; node_entries = entries }

-- a node's entry with these marks
abbrev pub entry_of : List ℕ → Capability → Bool → Known → Known → List TargetEntry → NodeEntryShown
entry_of node capability readonly attached staged targets = record { node = node; capability = capability; readonly = readonly; attached = attached; staged = staged; target_entries = targets }

-- a target's entry
abbrev pub target_of : List ℕ → Known → TargetEntry
target_of target published = record { target = target; published = published }

-- the entry with these targets
abbrev pub targeted : NodeEntryShown → List TargetEntry → NodeEntryShown
targeted entry targets = record entry { target_entries = targets }

-- a first entry that is read as another one
same-front : (f : NodeEntryShown → Known) (old new : NodeEntryShown) (o : Option NodeEntryShown) → f new ≡ f old → (b : Bool) → mark_in f (cond b (Some new) o) ≡ mark_in f (cond b (Some old) o)
same-front f old new o s true = s
same-front f old new o s false = refl

-- one of which nothing is known, of a text that has none
no-front : {X : Type 0} (f : X → Known) (own : X) (o : Option X) → f own ≡ No → (b : Bool) → (b ≡ true → o ≡ None) → mark_in f (cond b (Some own) o) ≡ mark_in f o
no-front f own o s true none = s ∙ sym (ap (mark_in f) (none refl))
no-front f own o s false none = refl

-- ---- one entry more, of which nothing is known

-- of a node that has none
pub more-marks : (name : List ℕ) (arguments : Arguments) (id : Option ℕ) (exists : Known) (node : List ℕ) (capability : Capability) (readonly : Bool) (later : List NodeEntryShown)
    → find (λ (e : NodeEntryShown). same_text e.node node) later ≡ None → (thing : Thing)
    → mark_of thing (still name arguments id exists (entry_of node capability readonly No No [] ∷ later)) ≡ mark_of thing (still name arguments id exists later)
more-marks name arguments id exists node capability readonly later none thing = grind (arith, same_text-tells, no-front)

-- ---- one target more, of which nothing is known

-- at a target that has none
pub target-marks : (name : List ℕ) (arguments : Arguments) (id : Option ℕ) (exists : Known) (entry : NodeEntryShown) (targets : List TargetEntry) (later : List NodeEntryShown) (target : List ℕ)
    → find (λ (t : TargetEntry). same_text t.target target) targets ≡ None → (thing : Thing)
    → mark_of thing (still name arguments id exists (targeted entry (target_of target No ∷ targets) ∷ later)) ≡ mark_of thing (still name arguments id exists (targeted entry targets ∷ later))
target-marks name arguments id exists entry targets later target none thing = grind (arith, same_text-tells, same-front, no-front)

-- ---- how it is held

-- as it was, where the first entry is held so
pub held-front : (name : List ℕ) (arguments : Arguments) (id : Option ℕ) (exists : Known) (old new : NodeEntryShown) (later : List NodeEntryShown) (there : List ℕ) → new.node ≡ old.node → held_at new ≡ held_at old
    → held_on_node (still name arguments id exists (new ∷ later)) there ≡ held_on_node (still name arguments id exists (old ∷ later)) there
held-front name arguments id exists old new later there own same = grind arith
