-- Nothing is staged or published at any node, nothing is held, and nothing is known or so.
use Rattle.csi_world.proofs.Words.{◌≡◌, map, false, refl, ap, subst, NodeState, Thing, is_yes, Config, IsAmong, node_id}
use Rattle.csi_world.proofs.Words.{empty_world, is_true_in}
use Rattle.csi_world.proofs.Lemmas.{false≢true}
use Rattle.csi_orchestrator.specs.declared.thing.Thing.TheVariants.{Exists, Attached, Staged, Published}
use Rattle.csi_world.proofs.PluginsReached.{knows-nothing}
use Rattle.csi_world.proofs.laws.empty_is_safe.Goals as goal

-- in the empty world no thing holds
nothing_holds : (config : Config) (thing : Thing) → is_true_in (empty_world config) thing ≡ false
nothing_holds config (Exists name) = refl
nothing_holds config (Attached name node) = refl
nothing_holds config (Staged name node) = refl
nothing_holds config (Published name node target) = refl

pub returns : goal.returns
returns c config =
    record {
      exclusive = tt;
      staged_where_attached = λ node staged here there. absurd (let e = knows-nothing (map node_id config.nodes) node here in subst (λ (s : NodeState). IsAmong staged s.staged) e there);
      published_where_staged = λ node published here there. absurd (let e = knows-nothing (map node_id config.nodes) node here in subst (λ (s : NodeState). IsAmong published s.published) e there);
      attached_while_live = λ holding among. absurd among;
      recorded_right = λ thing. record { yes = λ h. absurd (false≢true (ap is_yes h)); no = λ h. nothing_holds config thing };
    }
