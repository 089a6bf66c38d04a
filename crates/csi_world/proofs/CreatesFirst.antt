-- Which names' ids were heard since they were forgotten last: before a call of another kind is sent for a name its id was heard, and after
-- that no CreateVolume is sent for it. So each CreateVolume of a name comes before every other call of it.
use Rattle.csi_world.proofs.Words.{◌≡◌, ◌⊎◌, ℕ, List, [], ◌∷◌, true, false, Some, None, refl, sym, ◌∙◌, ap, subst, inl}
use Rattle.csi_world.proofs.Words.{inr, Call, Party, IsBefore, IsAmong, Issued, Item, Sent, History, newest, issued_in}
use Rattle.csi_world.proofs.Words.{id_in, id_of, IsGuarded, Exists, arith}
use Rattle.csi_world.proofs.Lemmas.{false≢true, none-some, same_text-tells, among-kept, in_filter, in-filter_map}
use Rattle.csi_orchestrator.specs.Public.Guards.{HasId}
use Rattle.csi_world.proofs.CallThings.{is_making}
use Rattle.csi_world.proofs.Lifetimes.{calls_since, lifetime-is}
use Rattle.csi_world.proofs.HeardReplies.{newest-found}

-- an id of the name was heard since it was forgotten
pub record IsKnown (items : List Item) (name : List ℕ) : Type 0 where
  pub call : Issued
  pub item : Item
  pub id : ℕ
  pub among : IsAmong call (calls_since (Exists name) items)
  pub of_name : call.name ≡ name
  pub makes : is_making call.call ≡ true
  pub told : IsAmong item items
  pub has_id : id_in call.number item ≡ Some id

-- it is so still in a longer history
pub known-later : (items more : List Item) (name : List ℕ) → ((call : Issued) → IsAmong call (calls_since (Exists name) items) → IsAmong call (calls_since (Exists name) more)) → ((item : Item) → IsAmong item items → IsAmong item more)
    → IsKnown items name → IsKnown more name
known-later items more name calls_too items_too known =
    record {
      call = known.call;
      item = known.item;
      id = known.id;
      among = calls_too known.call known.among;
      of_name = known.of_name;
      makes = known.makes;
      told = items_too known.item known.told;
      has_id = known.has_id;
    }

-- the orchestrator's reading tells it
pub heard-known : (history : History) (name : List ℕ) (id : ℕ) → id_of history name ≡ Some id → IsKnown history.items name
heard-known history name id h = grind (arith, newest-found, among-kept, lifetime-is, same_text-tells, calls_since, is_making, none-some)

-- a list that something is among has a newest
newest-some : {X : Type 0} (xs : List X) (x : X) → IsAmong x xs → (y : X) × (newest xs ≡ Some y)
newest-some [] x among = absurd among
newest-some (y ∷ ys) x among = (y, refl)

-- where it was heard, the reading tells an id
pub known-heard : (history : History) (name : List ℕ) → IsKnown history.items name → id_of history name ≡ None → ⊥
known-heard history name known none = grind (arith, newest-some, in-filter_map, lifetime-is, in_filter, same_text-tells, none-some, is_making, false≢true)

-- before a call that makes no volume the name's id was heard, and each call that makes one comes before it, where it was sent since the name
-- was forgotten
pub record CreatesFirst (items : List Item) : Type 0 where
  pub known : (call : Issued) → IsAmong call (calls_since (Exists call.name) items) → is_making call.call ≡ false → IsKnown items call.name
  pub first : (create other : Issued) → IsAmong create (issued_in items) → IsAmong other (calls_since (Exists other.name) items) → create.name ≡ other.name
      → is_making create.call ≡ true → is_making other.call ≡ false → IsBefore create.number other.number

-- a guarded call that makes no volume carries an id that was heard
id-guarded : (history : History) (name : List ℕ) (party : Party) (call : Call) → IsGuarded history name party call → is_making call ≡ false → (id : ℕ) × HasId history name id
id-guarded history name party call guard making = grind (arith, false≢true)

-- a guarded call that makes a volume is for a name of which no id was heard
pub making-guarded : (history : History) (name : List ℕ) (party : Party) (call : Call) → IsGuarded history name party call → is_making call ≡ true → id_of history name ≡ None
making-guarded history name party call guard making = grind (arith, false≢true)

-- a guarded call is sent
pub first-sent : (history : History) (call : Issued) → CreatesFirst history.items → IsGuarded history call.name call.party call.call
    → ((older : Issued) → IsAmong older (issued_in history.items) → IsBefore older.number call.number) → CreatesFirst (Sent call ∷ history.items)
first-sent history call creates guard later =
    record {
      known = λ other among not_making. longer other.name (known other among not_making);
      first = first;
    }
  where
    longer : (name : List ℕ) → IsKnown history.items name → IsKnown (Sent call ∷ history.items) name
    longer name k = known-later history.items (Sent call ∷ history.items) name (λ c there. inr there) (λ item there. inr there) k

    known : (other : Issued) → IsAmong other (call ∷ calls_since (Exists other.name) history.items) → is_making other.call ≡ false → IsKnown history.items other.name
    known other (inl e) not_making =
        let heard = id-guarded history call.name call.party call.call guard (ap (λ (x : Issued). is_making x.call) (sym e) ∙ not_making) in
        subst (IsKnown history.items) (ap (λ (x : Issued). x.name) (sym e)) (heard-known history call.name heard.0 heard.1)
    known other (inr there) not_making = creates.known other there not_making

    first : (create other : Issued) → IsAmong create (call ∷ issued_in history.items) → IsAmong other (call ∷ calls_since (Exists other.name) history.items) → create.name ≡ other.name
        → is_making create.call ≡ true → is_making other.call ≡ false → IsBefore create.number other.number
    first create other (inl e) (inl f) named making not_making =
        absurd (false≢true (sym not_making ∙ ap (λ (x : Issued). is_making x.call) (f ∙ sym e) ∙ making))
    first create other (inl e) (inr there) named making not_making =
        let none = making-guarded history call.name call.party call.call guard (ap (λ (x : Issued). is_making x.call) (sym e) ∙ making) in
        let heard = creates.known other there not_making in
        absurd (known-heard history call.name (subst (IsKnown history.items) (sym named ∙ ap (λ (x : Issued). x.name) e) heard) none)
    first create other (inr there) (inl f) named making not_making = subst (λ (x : Issued). IsBefore create.number x.number) (sym f) (later create there)
    first create other (inr there) (inr too) named making not_making = creates.first create other there too named making not_making

-- an item leaves a name's calls as they are, or the name is forgotten
abbrev pub LeavesNames : List Item → Item → Type 0
LeavesNames items item = (name : List ℕ) → (calls_since (Exists name) (item ∷ items) ≡ []) ⊎ (calls_since (Exists name) (item ∷ items) ≡ calls_since (Exists name) items)

-- an item that sends nothing
pub first-noted : (items : List Item) (item : Item) → issued_in (item ∷ items) ≡ issued_in items → LeavesNames items item → CreatesFirst items → CreatesFirst (item ∷ items)
first-noted items item same leaves creates = grind (arith, calls_since, is_making, known-later)
