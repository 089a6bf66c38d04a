-- Rule by rule.
use Rattle.std.proofs.Common.{◌≡◌, ◌≢◌, ◌<◌, List, [], ◌∷◌, false, length, refl, sym, ◌∙◌, ap, subst, inl, inr, ⊎_elim, arith}
use Rattle.std.specs.Prelude.{codes}
use Rattle.std.proofs.lemmas.Option.{none-some}
use Rattle.csi_types.specs.Model.Members.{IsAmong}
use Rattle.csi_types.specs.declared.holding.Holding.{Holding}
use Rattle.csi_node.specs.Model.State.{StagedVolume, PublishedVolume}
use Rattle.csi_orchestrator.specs.declared.row.TargetEntry.{TargetEntry}
use Rattle.csi_orchestrator.specs.declared.thing.Known.TheVariants.{Yes, No}
use Rattle.csi_recovery.specs.Public.Recovered.{GivenNode, Agree}
use Rattle.csi_recovery.specs.Private.Worked.{held, controller, first_given, second_given}
use Rattle.csi_recovery.proofs.worked.may.Goals as goal

-- Yes isn't No
yes-no : Yes ≢ No
yes-no e = cc

-- a list with something in it isn't empty
not-empty : {X : Type 0} (x : X) (xs : List X) → x ∷ xs ≡ [] → ⊥
not-empty x xs e = absurd (omega (arith, ap length e))

-- no holding has a flag
unflagged : (holding : Holding) → IsAmong holding controller.holdings → holding.readonly ≡ false
unflagged holding among =
    ⊎_elim (λ e. ap (λ (h : Holding). h.readonly) e) (λ later.
    ⊎_elim (λ e. ap (λ (h : Holding). h.readonly) e) (λ last. ⊎_elim (λ e. ap (λ (h : Holding). h.readonly) e) (λ none. absurd none) last) later) among

-- what is staged is attached
first-agrees : Agree controller first_given
first-agrees =
    record {
      staged = λ staged among.
          ⊎_elim (λ e. record { holding = held (codes "n1"); is_held = inl refl; of_volume = sym (ap (λ (s : StagedVolume). s.volume) e); at_node = refl; same_capability = sym (ap (λ (s : StagedVolume). s.capability) e) })
          (λ none. absurd none) among;
      published = λ published holding among there volume node.
          ⊎_elim (λ e. unflagged holding there ∙ sym (ap (λ (p : PublishedVolume). p.readonly) e)) (λ none. absurd none) among;
    }

-- so it is at the other node
second-agrees : Agree controller second_given
second-agrees =
    record {
      staged = λ staged among.
          ⊎_elim
          (λ e. record { holding = held (codes "n2"); is_held = inr (inl refl); of_volume = sym (ap (λ (s : StagedVolume). s.volume) e); at_node = refl; same_capability = sym (ap (λ (s : StagedVolume). s.capability) e) })
          (λ none. absurd none) among;
      published = λ published holding among there volume node. absurd among;
    }

-- a target's entry
abbrev at_a : TargetEntry
at_a = record { target = codes "/a"; published = Yes }

pub returns : goal.returns
returns c =
    record {
      apart = ((refl, tt), (tt, tt));
      agree = λ node among.
          ⊎_elim (λ e. subst (Agree controller) (sym e) first-agrees) (λ later. ⊎_elim (λ e. subst (Agree controller) (sym e) second-agrees) (λ none. absurd none) later) among;
      after_controller = omega arith;
      after_nodes = λ node among.
          ⊎_elim (λ e. subst (λ (g : GivenNode). g.state.session < 5) (sym e) (omega arith))
          (λ later. ⊎_elim (λ e. subst (λ (g : GivenNode). g.state.session < 5) (sym e) (omega arith)) (λ none. absurd none) later) among;
      rows = record {
        few = omega arith;
        names = (tt, tt);
        each = (
          record {
            quiet = refl;
            sound = record {
              nodes = ((refl, (refl, tt)), ((refl, tt), (tt, tt)));
              targets = ((tt, tt), ((tt, tt), (tt, tt)));
              goal = tt;
              open_due = λ due e. absurd (none-some due e);
            };
            steady = record {
              tries = omega arith;
              untried = λ none. absurd (omega (arith, none));
              standing = tt;
              bare = λ e. absurd (none-some 1 (sym e));
              empty = λ other. absurd (other refl);
              marked = inr (
                refl,
                inl (record { attached = refl; staged = refl; published = (refl, tt); some = not-empty at_a [] }),
                inl (
                  refl,
                  inl (record { published = No; marks = tt; targets = inl (refl, refl, tt); alone = λ other. refl }),
                  ((refl, inr (record { attached = yes-no; staged = refl; targets = refl })), tt),
                ),
              );
              last = tt;
              allowed = (record { capable = refl; one_target = λ e. omega arith }, (record { capable = refl; one_target = λ e. omega arith }, (record { capable = refl; one_target = λ e. omega arith }, tt)));
              beside = (
                (record { several = refl; one_writer = refl }, (record { several = refl; one_writer = refl }, tt)),
                ((record { several = refl; one_writer = refl }, tt), (tt, tt)),
              );
            };
            within = record {
              each = (
                record { among = λ some. refl; targets = omega arith },
                (record { among = λ some. refl; targets = omega arith }, (record { among = λ some. absurd (some refl); targets = omega arith }, tt)),
              );
              few = omega arith;
            };
          },
          tt,
        );
      };
    }
