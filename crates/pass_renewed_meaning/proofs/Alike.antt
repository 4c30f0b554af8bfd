-- What is beside each other is one to one, and shows the same.
use Rattle.std.proofs.Common.{◌≡◌, ℕ, ◌+◌, List, [], ◌∷◌, length, map, Option, refl, ap, ◌∙◌}
use Rattle.run_types.specs.ir_base.declared.outcome.Event.{Event}
use Rattle.run_types.specs.ir_model.declared.module.Module.{Module}
use Rattle.run_types.specs.run_laws.embedded.Related.{moved_event}
use Rattle.run_types.specs.run_laws.transfer.Shapes.{Empty, Pair, Pairwise}
use Rattle.run_types.specs.run_memory.declared.block.MemoryBlock.{MemoryBlock}
use Rattle.run_types.specs.run_source.declared.state.Activation.{Activation}
use Rattle.run_types.specs.run_source.declared.state.Instance.{Instance}
use Rattle.run_types.specs.run_source.declared.state.State.{State}
use Rattle.run_types.specs.run_source.declared.state.Status.{Status}
use Rattle.pass_renewed_meaning.specs.Followed.{AreAlike}
use Rattle.run_types.specs.pass_renewed_proof.Beside.{AreBelow, AreInstancesBeside, IsActivationBeside, IsBeside}
use Rattle.run_types.specs.pass_renewed_proof.Beside.{IsInstanceBeside, IsStatusBeside}
use Rattle.run_types.specs.pass_renewed_proof.Between.{AreLikeActivations, AreLikeInstances, bare}
use Rattle.run_types.specs.pass_renewed_proof.Ledger.{Ledger}
use Rattle.run_types.specs.pass_renewed_proof.Renewed.{Flags, Roots}

module _ (m : Module) (flags : Flags) (roots : Roots) (l : Ledger) (memory target : List MemoryBlock) where
  status_alike : (x : Instance) (p q : Status) → IsStatusBeside m flags roots l memory x p q → bare q ≡ bare p
  status_alike x Status.Running q h = ap bare h
  status_alike x (Status.Suspended u env) q h = ap bare h.1
  status_alike x Status.Finished q h = ap bare h

  instance_alike : (i : ℕ) (x y : Instance) → IsInstanceBeside m flags roots l memory i x y → AreLikeInstances x y
  instance_alike i x y h = record {
    coroutine = ap (λ (z : Instance). z.coroutine) h.is;
    start = ap (λ (z : Instance). z.start) h.is;
    status = ap (λ (z : Instance). bare z.status) h.is ∙ status_alike x x.status h.status h.statuses;
    last_save = ap (λ (z : Instance). z.last_save) h.is;
    released = ap (λ (z : Instance). z.released) h.is;
    freed = ap (λ (z : Instance). z.freed) h.is;
  }

  pub instances_alike : (i : ℕ) (xs ys : List Instance) → AreInstancesBeside m flags roots l memory i xs ys
      → Pairwise AreLikeInstances xs ys
  instances_alike i [] [] h = Empty
  instances_alike i [] (y ∷ ys) h = absurd h
  instances_alike i (x ∷ xs) [] h = absurd h
  instances_alike i (x ∷ xs) (y ∷ ys) h = Pair x y xs ys (instance_alike i x y h.0) (instances_alike (i + 1) xs ys h.1)

  activation_alike : (xs : List Instance) (depth : ℕ) (a b : Activation)
      → IsActivationBeside m flags roots l xs memory target depth a b → AreLikeActivations a b
  activation_alike xs depth a b h = record {
    func = ap (λ (z : Activation). z.func) h.is;
    result = ap (λ (z : Activation). z.result) h.is;
    instance = ap (λ (z : Activation). z.instance) h.is;
    has_left = ap (λ (z : Activation). z.has_left) h.is;
  }

  pub below_alike : (xs : List Instance) (name : Option ℕ) (as' bs : List Activation)
      → AreBelow m flags roots l xs memory target name as' bs → Pairwise AreLikeActivations as' bs
  below_alike xs name [] [] h = Empty
  below_alike xs name [] (b ∷ bs) h = absurd h
  below_alike xs name (a ∷ as') [] h = absurd h
  below_alike xs name (a ∷ as') (b ∷ bs) h = Pair a b as' bs (activation_alike xs (length as') a b h.0) (below_alike xs
      a.result as' bs h.2)

  pub all_alike : (xs : List Instance) (depth : ℕ) (a b : Activation) (as' bs : List Activation)
      → IsActivationBeside m flags roots l xs memory target depth a b
      → AreBelow m flags roots l xs memory target a.result as' bs
      → Pairwise AreLikeActivations (a ∷ as') (b ∷ bs)
  all_alike xs depth a b as' bs h below = Pair a b as' bs (activation_alike xs depth a b h) (below_alike xs a.result as'
      bs below)

-- states beside each other are one to one
pub beside_alike : (m : Module) (flags : Flags) (roots : Roots) (s t : State) → IsBeside m flags roots s t
    → AreAlike s t
beside_alike m flags roots s t b = record {
  instances = instances_alike m flags roots b.ledger s.world.memory t.world.memory 0 s.instances t.instances b.instances;
  activations = all_alike m flags roots b.ledger s.world.memory t.world.memory s.instances (length s.below) s.top t.top
      s.below t.below b.top b.below;
}

-- events whose functions stay are the same
pub same_events : (es : List Event) → map (moved_event (λ d. d)) es ≡ es
same_events [] = refl
same_events (e ∷ es) = ap (λ xs. e ∷ xs) (same_events es)
