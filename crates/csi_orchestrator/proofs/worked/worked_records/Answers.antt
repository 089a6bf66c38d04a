-- Rule by rule.
use Rattle.csi_orchestrator.proofs.Words.{◌≡◌, ◌≢◌, List, [], ◌∷◌, length, refl, sym, ap, inl, inr, arith, Some, codes}
use Rattle.csi_orchestrator.proofs.Words.{TargetEntry, NodeEntryShown, Known, Yes, No, Maybe}
use Rattle.csi_orchestrator.proofs.Lemmas.{false≢true, none-some, same_Some}
use Rattle.csi_orchestrator.specs.Private.WorkedRecords.{entry_at}
use Rattle.csi_orchestrator.proofs.worked.worked_records.Goals as goal

-- Yes isn't No
yes-no : Yes ≢ No
yes-no e = cc

-- nor is Maybe
maybe-no : Maybe ≢ No
maybe-no e = cc

-- a list with something in it isn't empty
not-empty : {X : Type 0} (x : X) (xs : List X) → x ∷ xs ≡ [] → ⊥
not-empty x xs e = absurd (omega (arith, ap length e))

-- a target's entry
abbrev at_a_known : Known → TargetEntry
at_a_known published = record { target = codes "/a"; published = published }

-- what is found of n1 has no targets
nothing-there : (entry : NodeEntryShown) → Some (entry_at (codes "n1") Maybe No []) ≡ Some entry → entry.target_entries ≡ []
nothing-there entry found = sym (ap (λ (e : NodeEntryShown). e.target_entries) (same_Some (entry_at (codes "n1") Maybe No []) entry found))

pub returns : goal.returns
returns c =
    record {
      left =
          record {
            few = omega arith;
            names = (tt, tt);
            each = (
              record {
                quiet = refl;
                sound = record { nodes = ((refl, tt), (tt, tt)); targets = (tt, ((tt, tt), tt)); goal = tt; open_due = λ due e. absurd (none-some due e) };
                steady =
                    record {
                      tries = refl;
                      untried = λ none. tt;
                      standing = tt;
                      bare = λ e. absurd (none-some 1 (sym e));
                      empty = λ other. absurd (other refl);
                      marked = (inr (record { attached = yes-no; staged = refl; targets = refl }), (inl (record { attached = refl; staged = refl; published = (refl, tt); some = not-empty (at_a_known Yes) [] }), tt));
                      last = tt;
                      allowed = (record { capable = refl; one_target = λ e. omega arith }, (record { capable = refl; one_target = λ e. omega arith }, tt));
                      beside = ((record { several = refl; one_writer = refl }, tt), (tt, tt));
                    };
                within = record { each = (record { among = λ some. absurd (some refl); targets = omega arith }, (record { among = λ some. refl; targets = omega arith }, tt)); few = omega arith };
              },
              tt,
            );
          };
      stopped =
          record {
            few = omega arith;
            names = (tt, tt);
            each = (
              record {
                quiet = refl;
                sound = record { nodes = (tt, tt); targets = (tt, tt); goal = tt; open_due = λ due e. absurd (none-some due e) };
                steady =
                    record {
                      tries = omega arith;
                      untried = λ none entry found. nothing-there entry found;
                      standing = tt;
                      bare = λ e. absurd (none-some 1 (sym e));
                      empty = λ other. absurd (other refl);
                      marked = inl (refl, inr (record { attached = maybe-no; staged = refl; targets = refl }), tt);
                      last = tt;
                      allowed = (record { capable = refl; one_target = λ e. omega arith }, tt);
                      beside = (tt, tt);
                    };
                within = record { each = (record { among = λ some. absurd (some refl); targets = omega arith }, tt); few = omega arith };
              },
              tt,
            );
          };
      published = λ kept. false≢true (((((kept.each).0).within).each).0.among (not-empty (at_a_known Yes) []));
      untried = λ kept. not-empty (at_a_known Maybe) [] ((((kept.each).0).steady).untried refl (entry_at (codes "n2") Yes Yes (at_a_known Maybe ∷ [])) refl);
    }
