-- Which name was given which id: pairs that stay, whatever becomes of the volumes, and which of them are the names' ids now, since the
-- names were forgotten last; and how they agree with a controller.
use Rattle.csi_world.proofs.Words.{◌≡◌, ◌⊎◌, ℕ, ◌<◌, ◌≤◌, List, ◌∷◌, Bool, true, false, not, Option, Some, None, refl}
use Rattle.csi_world.proofs.Words.{sym, ◌∙◌, ap, subst, inl, inr, ⊎_elim, ◌==◌, ◌&&◌, arith, is_some, list_any}
use Rattle.csi_world.proofs.Words.{PluginThing, Exists, Attached, Staged, Published, same_text, IsAmong, Volume}
use Rattle.csi_world.proofs.Words.{ControllerState, volume_named, live_volume, volume_with_id}
use Rattle.csi_world.proofs.Lemmas.{and_parts, and_from, eqb-true, eq-eqb, false≢true, false_from_ne_true, none-some}
use Rattle.csi_world.proofs.Lemmas.{same_Some, same_text-tells, among-find, none_passes, none-where, find-passes}
use Rattle.csi_world.proofs.Lemmas.{find-and, any-then, then-any}
use Rattle.csi_controller.specs.Public.View as controllers

-- an id that a name was given, and whether it is the name's id now: it isn't once the name was forgotten
pub record GivenId : Type 0 where
  pub name : List ℕ
  pub id : ℕ
  pub now : Bool

-- the name was given this id, and it is the name's id now
abbrev pub HasNow : List GivenId → List ℕ → ℕ → Type 0
HasNow given name id = IsAmong {X = GivenId} (record { name = name; id = id; now = true }) given

-- it isn't any more
abbrev pub HasOld : List GivenId → List ℕ → ℕ → Type 0
HasOld given name id = IsAmong {X = GivenId} (record { name = name; id = id; now = false }) given

-- the name was given this id
abbrev pub HasName : List GivenId → List ℕ → ℕ → Type 0
HasName given name id = HasNow given name id ⊎ HasOld given name id

-- each name has one id now, which no forgotten name had, and each id was given to one name
pub record AreGiven (given : List GivenId) : Type 0 where
  pub one_id : (name : List ℕ) (i j : ℕ) → HasNow given name i → HasNow given name j → i ≡ j
  pub one_name : (a b : List ℕ) (id : ℕ) → HasName given a id → HasName given b id → a ≡ b
  pub apart : (name : List ℕ) (id : ℕ) → HasNow given name id → HasOld given name id → ⊥

-- the ids were given by a controller: names and ids belong together there, each given id is below the next one, each volume's name and id
-- are given, and no volume of a forgotten name is live
pub record AreOf (controller : ControllerState) (given : List GivenId) : Type 0 where
  pub names : controllers.AreNamed controller
  pub below : (name : List ℕ) (id : ℕ) → HasName given name id → id < controller.next_id
  pub listed : (id : ℕ) (volume : Volume) → volume_with_id id controller ≡ Some volume → HasName given volume.name volume.id
  pub ended : (name : List ℕ) (id : ℕ) → HasOld given name id → live_volume id controller ≡ None

-- no less was given
abbrev pub GivesMore : List GivenId → List GivenId → Type 0
GivesMore given more = (one : GivenId) → IsAmong one given → IsAmong one more

-- no fewer names have ids
pub gives-names : (given more : List GivenId) (name : List ℕ) (id : ℕ) → GivesMore given more → HasName given name id → HasName more name id
gives-names given more name id wider (inl has) = inl (wider _ has)
gives-names given more name id wider (inr had) = inr (wider _ had)

-- what is given and is its name's id now
pub now-given : (given : List GivenId) (one : GivenId) → IsAmong one given → one.now ≡ true → HasNow given one.name one.id
now-given given one among now = subst (λ b. IsAmong {X = GivenId} (record { name = one.name; id = one.id; now = b }) given) now among

-- what is given was given to its name
pub of-given : (given : List GivenId) (one : GivenId) → IsAmong one given → HasName given one.name one.id
of-given given one among = by one.now refl
  where
    as_is : (b : Bool) → one.now ≡ b → IsAmong {X = GivenId} (record { name = one.name; id = one.id; now = b }) given
    as_is b e = subst (λ now. IsAmong {X = GivenId} (record { name = one.name; id = one.id; now = now }) given) e among

    by : (b : Bool) → one.now ≡ b → HasName given one.name one.id
    by true e = inl (as_is true e)
    by false e = inr (as_is false e)

-- ---- in a controller

-- the volume that is found by an id has it, and by a name has that
pub id-of_found : (id : ℕ) (controller : ControllerState) (volume : Volume) → volume_with_id id controller ≡ Some volume → volume.id ≡ id
id-of_found id controller volume is = eqb-true volume.id id (find-passes (λ (v : Volume). v.id == id) controller.volumes volume is)

-- the volume that is found by a name has it
pub name-of_found : (name : List ℕ) (controller : ControllerState) (volume : Volume) → volume_named name controller ≡ Some volume → volume.name ≡ name
name-of_found name controller volume is = (same_text-tells volume.name name).0 (find-passes (λ (v : Volume). same_text v.name name) controller.volumes volume is)

-- the volume that has an id which was given to a name has the name
pub id-named : (controller : ControllerState) (given : List GivenId) (name : List ℕ) (id : ℕ) (volume : Volume) → AreGiven given → AreOf controller given → HasName given name id
    → volume_with_id id controller ≡ Some volume → volume.name ≡ name
id-named controller given name id volume are of has is =
    are.one_name volume.name name id (subst (HasName given volume.name) (id-of_found id controller volume is) (of.listed id volume is)) has

-- a live volume of a name is found so
pub live-named : (controller : ControllerState) (volume : Volume) → volume_named volume.name controller ≡ Some volume → volume.is_live ≡ true → controllers.live_named volume.name controller ≡ Some volume
live-named controller volume is live = find-and (λ (v : Volume). same_text v.name volume.name) (λ (v : Volume). v.is_live) controller.volumes volume is live

-- a volume that is found live is so by its id
pub lives-by_id : (controller : ControllerState) (name : List ℕ) (volume : Volume) → controllers.live_named name controller ≡ Some volume → live_volume volume.id controller ≡ None → ⊥
lives-by_id controller name volume is none =
    let p : Volume → Bool = λ v. same_text v.name name && v.is_live in
    let live = (and_parts (same_text volume.name name) volume.is_live (find-passes p controller.volumes volume is)).1 in
    let dead = none_passes (λ (v : Volume). (v.id == volume.id) && v.is_live) controller.volumes volume none (among-find p controller.volumes volume is) in
    false≢true (sym dead ∙ and_from (volume.id == volume.id) volume.is_live (eq-eqb volume.id volume.id refl) live)

-- the live volume of a name has the name's id now
pub live-now : (controller : ControllerState) (given : List GivenId) (name : List ℕ) (volume : Volume) → AreOf controller given → controllers.live_named name controller ≡ Some volume → HasNow given name volume.id
live-now controller given name volume of is =
    let named = of.names.live name volume is in
    let has : HasName given name volume.id = subst (λ n. HasName given n volume.id) (name-of_found name controller volume named) (of.listed volume.id volume (of.names.by_id name volume named)) in
    ⊎_elim (λ now. now) (λ old. absurd (lives-by_id controller name volume is (of.ended name volume.id old))) has

-- where the volume of a name's id isn't there, no volume of the name is live
pub gone-unnamed : (controller : ControllerState) (given : List GivenId) (name : List ℕ) (id : ℕ) → AreGiven given → AreOf controller given → HasNow given name id
    → volume_with_id id controller ≡ None → controllers.live_named name controller ≡ None
gone-unnamed controller given name id are of has gone = by (controllers.live_named name controller) refl
  where
    by : (o : Option Volume) → controllers.live_named name controller ≡ o → o ≡ None
    by None e = refl
    by (Some volume) e =
        let same : volume.id ≡ id = are.one_id name volume.id id (live-now controller given name volume of e) has in
        absurd (none-some volume (sym gone ∙ ap (λ n. volume_with_id n controller) (sym same) ∙ of.names.by_id name volume (of.names.live name volume e)))

-- where no volume of a name is live, the name's id has no live volume
pub unlive-ended : (controller : ControllerState) (given : List GivenId) (name : List ℕ) (id : ℕ) → AreGiven given → AreOf controller given → HasNow given name id
    → controllers.live_named name controller ≡ None → live_volume id controller ≡ None
unlive-ended controller given name id are of has none = grind (arith, none-where, id-named, and_parts, find-passes, none-some, live-named)

-- ---- what was forgotten

-- the id was given for this thing of the controller's; whether a volume is there is asked of a name's id now
abbrev pub is_given : PluginThing → GivenId → Bool
is_given (Exists name) given = same_text given.name name && given.now
is_given (Attached id node) given = given.id == id
is_given (Staged id node) given = false
is_given (Published id node target) given = false

-- the controller doesn't have the volume any more
abbrev pub is_gone : ControllerState → GivenId → Bool
is_gone controller given = not (is_some (volume_with_id given.id controller))

-- the controller doesn't have the thing's volume any more
abbrev pub is_forgotten : List GivenId → ControllerState → PluginThing → Bool
is_forgotten given controller thing = list_any (λ one. is_given thing one && is_gone controller one) given

-- the test of what is gone
gone-is : (controller : ControllerState) (one : GivenId) → volume_with_id one.id controller ≡ None → is_gone controller one ≡ true
gone-is controller one e = ap (λ (o : Option Volume). not (is_some o)) e

-- where the test says that a given id is gone, no volume has it
is-gone : (controller : ControllerState) (one : GivenId) → is_gone controller one ≡ true → volume_with_id one.id controller ≡ None
is-gone controller one h = grind (arith, false≢true)

-- where the volume of a given id of the thing isn't there, the thing was forgotten
pub gone-forgotten : (given : List GivenId) (controller : ControllerState) (thing : PluginThing) (one : GivenId) → IsAmong one given → is_given thing one ≡ true → volume_with_id one.id controller ≡ None
    → is_forgotten given controller thing ≡ true
gone-forgotten given controller thing one among of gone =
    then-any (λ (g : GivenId). is_given thing g && is_gone controller g) given one among (and_from (is_given thing one) (is_gone controller one) of (gone-is controller one gone))

-- a thing that was forgotten has such an id
pub forgotten-gone : (given : List GivenId) (controller : ControllerState) (thing : PluginThing) → is_forgotten given controller thing ≡ true
    → (one : GivenId) × IsAmong one given × (is_given thing one ≡ true) × (volume_with_id one.id controller ≡ None)
forgotten-gone given controller thing h =
    let found = any-then (λ (g : GivenId). is_given thing g && is_gone controller g) given h in
    let parts = and_parts (is_given thing found.0) (is_gone controller found.0) found.2 in
    (found.0, found.1, parts.0, is-gone controller found.0 parts.1)

-- a thing of which each given id's volume is there wasn't forgotten
pub not-forgotten : (given : List GivenId) (controller : ControllerState) (thing : PluginThing)
    → ((one : GivenId) → IsAmong one given → is_given thing one ≡ true → volume_with_id one.id controller ≡ None → ⊥) → is_forgotten given controller thing ≡ false
not-forgotten given controller thing there =
    false_from_ne_true (is_forgotten given controller thing) (λ h. let found = forgotten-gone given controller thing h in there found.0 found.1 found.2 found.3)

-- ---- after a frame

-- a given id whose volume isn't there has none after any frame
pub stays-gone : (old new : ControllerState) (given : List GivenId) (one : GivenId) → controllers.KeepsNames old new → AreOf old given → IsAmong one given
    → volume_with_id one.id old ≡ None → volume_with_id one.id new ≡ None
stays-gone old new given one keeps of among gone = by (volume_with_id one.id new) refl
  where
    clash : (i j : ℕ) → i < j → i ≡ j → ⊥
    clash i j less e = omega arith

    by : (o : Option Volume) → volume_with_id one.id new ≡ o → o ≡ None
    by None e = refl
    by (Some volume) e = came (keeps.comes one.id volume e)
      where
        same : volume.id ≡ one.id
        same = id-of_found one.id new volume e

        came : controllers.HasVolume old volume ⊎ controllers.WasMade old volume → Some volume ≡ None
        came (inl was) = absurd (none-some was.there (sym gone ∙ ap (λ n. volume_with_id n old) (sym same) ∙ was.is_found))
        came (inr made) = absurd (clash one.id old.next_id (of.below one.name one.id (of-given given one among)) (sym same ∙ made.has_next))

-- so a thing that was forgotten stays so
pub stays-forgotten : (old new : ControllerState) (given more : List GivenId) (thing : PluginThing) → controllers.KeepsNames old new → AreOf old given → GivesMore given more
    → is_forgotten given old thing ≡ true → is_forgotten more new thing ≡ true
stays-forgotten old new given more thing keeps of wider h =
    let found = forgotten-gone given old thing h in
    gone-forgotten more new thing found.0 (wider found.0 found.1) found.2 (stays-gone old new given found.0 keeps of found.1 found.3)

-- ---- the ids that are given after a frame

-- the volume that was made, if one was, is given its id, which is its name's now
abbrev given_for : List GivenId → Option Volume → List GivenId
given_for given None = given
given_for given (Some volume) = (record { name = volume.name; id = volume.id; now = true }) ∷ given

-- a pair was given before, or is that of a volume that was made
pub record IsNewlyGiven (old new : ControllerState) (name : List ℕ) (id : ℕ) : Type 0 where
  pub volume : Volume
  pub is_found : volume_with_id id new ≡ Some volume
  pub has_name : volume.name ≡ name
  pub made : controllers.WasMade old volume

-- what is given after a frame: no less, as the new controller gave it, and what is new is for a volume that was made
pub record AreGivenNext (old new : ControllerState) (given more : List GivenId) : Type 0 where
  pub wider : GivesMore given more
  pub of : AreOf new more
  pub newer : (one : GivenId) → IsAmong one more → IsAmong one given ⊎ ((one.now ≡ true) × IsNewlyGiven old new one.name one.id)

-- after a frame there are ids given so
pub given-next : (old new : ControllerState) (given : List GivenId) → controllers.KeepsNames old new → AreOf old given → controllers.AreNamed new → (more : List GivenId) × AreGivenNext old new given more
given-next old new given keeps of names = by (volume_with_id old.next_id new) refl
  where
    up : (i a b : ℕ) → i < a → a ≤ b → i < b
    up i a b less more = omega arith

    -- a volume that was there has its pair
    was_given : (volume : Volume) → controllers.HasVolume old volume → HasName given volume.name volume.id
    was_given volume was =
        subst (λ n. HasName given n volume.id) was.same_name
        (subst (HasName given was.there.name) (id-of_found volume.id old was.there was.is_found) (of.listed volume.id was.there was.is_found))

    by : (o : Option Volume) → volume_with_id old.next_id new ≡ o → (more : List GivenId) × AreGivenNext old new given more
    by None e = (
      given,
      record {
        wider = λ one among. among;
        of = record {
          names = names;
          below = λ name id has. up id old.next_id new.next_id (of.below name id has) keeps.grows;
          listed = λ id volume is. listed id volume is (keeps.comes id volume is);
          ended = λ name id had. keeps.stays_ended id (of.below name id (inr had)) (of.ended name id had);
        };
        newer = λ one among. inl among;
      },
    )
      where
        listed : (id : ℕ) (volume : Volume) → volume_with_id id new ≡ Some volume → controllers.HasVolume old volume ⊎ controllers.WasMade old volume → HasName given volume.name volume.id
        listed id volume is (inl was) = was_given volume was
        listed id volume is (inr made) = absurd (none-some volume (sym e ∙ ap (λ n. volume_with_id n new) (sym made.has_next ∙ id-of_found id new volume is) ∙ is))
    by (Some first) e = (
      given_for given (Some first),
      record {
        wider = λ one among. inr among;
        of = record { names = names; below = below; listed = λ id volume is. listed id volume is (keeps.comes id volume is); ended = ended };
        newer = newer;
      },
    )
      where
        clash : (i j : ℕ) → i < j → i ≡ j → ⊥
        clash i j less e = omega arith

        -- it was made, since no volume had that id
        was_made : controllers.HasVolume old first ⊎ controllers.WasMade old first → controllers.WasMade old first
        was_made (inl was) =
            absurd (clash first.id old.next_id (of.below first.name first.id (was_given first was)) (id-of_found old.next_id new first e))
        was_made (inr made) = made

        -- its id is the name's now
        is_now : (one : GivenId) → one ≡ record { name = first.name; id = first.id; now = true } → one.now ≡ true
        is_now one is = ap (λ (g : GivenId). g.now) is

        below : (name : List ℕ) (id : ℕ) → HasName (given_for given (Some first)) name id → id < new.next_id
        below name id (inl (inl is)) = subst (λ n. n < new.next_id) (sym (ap (λ (g : GivenId). g.id) is))
            (subst (λ n. n < new.next_id) (sym (id-of_found old.next_id new first e)) (names.given old.next_id first e))
        below name id (inl (inr has)) = up id old.next_id new.next_id (of.below name id (inl has)) keeps.grows
        below name id (inr (inl is)) = absurd (false≢true (is_now _ is))
        below name id (inr (inr had)) = up id old.next_id new.next_id (of.below name id (inr had)) keeps.grows

        listed : (id : ℕ) (volume : Volume) → volume_with_id id new ≡ Some volume → controllers.HasVolume old volume ⊎ controllers.WasMade old volume → HasName (given_for given (Some first)) volume.name volume.id
        listed id volume is (inl was) = ⊎_elim (λ has. inl (inr has)) (λ had. inr (inr had)) (was_given volume was)
        listed id volume is (inr made) =
            let same : volume ≡ first = same_Some volume first (sym is ∙ ap (λ n. volume_with_id n new) (sym (id-of_found id new volume is) ∙ made.has_next) ∙ e) in
            inl (inl (ap (λ (v : Volume). let g : GivenId = record { name = v.name; id = v.id; now = true } in g) same))

        ended : (name : List ℕ) (id : ℕ) → HasOld (given_for given (Some first)) name id → live_volume id new ≡ None
        ended name id (inl is) = absurd (false≢true (is_now _ is))
        ended name id (inr had) = keeps.stays_ended id (of.below name id (inr had)) (of.ended name id had)

        newer : (one : GivenId) → IsAmong one (given_for given (Some first)) → IsAmong one given ⊎ ((one.now ≡ true) × IsNewlyGiven old new one.name one.id)
        newer one (inl is) = inr (
          is_now one is,
          record {
            volume = first;
            is_found = ap (λ n. volume_with_id n new) (ap (λ (g : GivenId). g.id) is ∙ id-of_found old.next_id new first e) ∙ e;
            has_name = sym (ap (λ (g : GivenId). g.name) is);
            made = was_made (keeps.comes old.next_id first e);
          },
        )
        newer one (inr among) = inl among
