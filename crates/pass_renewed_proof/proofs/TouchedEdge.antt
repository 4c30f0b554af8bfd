-- An activation goes on elsewhere, and what it reads of its slots there stands in its own blocks.
use Rattle.std.proofs.Common.{◌≡◌, ℕ, false, List, length, Some}
use Rattle.std.proofs.Common.{sym, ap, ◌∙◌, subst, ⊎_elim, arith}
use Rattle.std.specs.Prelude.{IsTrue}
use Rattle.pass_kept_proof.specs.flow_solver.Paths.{IsListed}
use Rattle.pass_kept_proof.specs.ir_model.Names.{function_at}
use Rattle.pass_kept_proof.specs.ir_model.declared.module.Function.{Function}
use Rattle.pass_kept_proof.specs.ir_model.declared.module.Module.{Module}
use Rattle.pass_kept_proof.specs.ir_model.declared.operand.Intrinsic.{Intrinsic}
use Rattle.pass_kept_proof.specs.ir_paths.Paths.{has_point}
use Rattle.pass_kept_proof.specs.ir_paths.Slots.{is_escaped}
use Rattle.pass_kept_proof.specs.ir_paths.declared.point.Point.{Point}
use Rattle.frame_classes.specs.Classes.{NeedsFrame, parting}
use Rattle.frame_classes.specs.frame_slots.Spots.{IsUse, LeadsFrom, Spot}
use Rattle.frame_classes.specs.frame_slots.Uses.{ends_of}
use Rattle.pass_kept_proof.specs.SuspendRules.{IsCallAt}
use Rattle.pass_kept_proof.specs.run_source.declared.state.Activation.{Activation}
use Rattle.pass_kept_proof.specs.run_source.declared.state.State.{State}
use Rattle.pass_kept_proof.specs.run_step.Step.{Fetched}
use Rattle.pass_kept_proof.specs.run_step.Values.{Env, pointer_to, value_in}
use Rattle.pass_renewed_proof.proofs.Carried.{below_kept}
use Rattle.pass_renewed_proof.proofs.Carried.{instances_kept, others_on}
use Rattle.pass_renewed_proof.proofs.Onward.{IsEdgeOf, activation_there, slot_passed, slot_used}
use Rattle.pass_renewed_proof.proofs.Ordinary.{own_address}
use Rattle.pass_renewed_proof.proofs.Others.{loud_escaped, used_gone}
use Rattle.pass_renewed_proof.proofs.Used.{is_among}
use Rattle.pass_renewed_proof.specs.Ahead.{IsNoStart}
use Rattle.pass_renewed_proof.specs.Beside.{AreOutdone, HasLeftSuspended, IsActivationBeside, IsBeside}
use Rattle.pass_renewed_proof.specs.Beside.{IsOther, IsSlotBeside, place_in}
use Rattle.pass_renewed_proof.specs.Chosen.{places_at}
use Rattle.pass_renewed_proof.specs.Ledger.{IsHomeOf, Ledger}
use Rattle.pass_renewed_proof.specs.Ledger.{used_ledger}
use Rattle.pass_renewed_proof.specs.Ready.{Place}
use Rattle.pass_renewed_proof.specs.Renewed.{Flags, Roots}
use Rattle.pass_renewed_proof.specs.SlotEnvs.{AreSlotEnvs}
use Rattle.pass_renewed_proof.specs.SlotRules.{KeepsSlots}
use Rattle.pass_renewed_proof.proofs.Touching.{IsTouching, below_touched, idem, instance_touched, known, loud_after}
use Rattle.pass_renewed_proof.proofs.Touching.{one, passed, place_home, touched_carried, touched_entered}
use Rattle.pass_renewed_proof.proofs.Touching.{touched_over, use_of}

module _ (m : Module) (flags : Flags) (roots : Roots) (keeps : (func : ℕ)
    → KeepsSlots m (function_at m func) (flags func) (roots func)) (s t : State) (beside : IsBeside m flags roots s t)
    (reading : Fetched) (spot : Spot) (touching : IsTouching m roots s.top reading spot) where
  abbrev f : Function
  f = function_at m s.top.func

  abbrev l : Ledger
  l = beside.ledger

  abbrev h : IsActivationBeside m flags roots beside.ledger s.instances s.world.memory t.world.memory (length s.below)
      s.top t.top
  h = beside.top

  abbrev ps : List Place
  ps = places_at (roots s.top.func) s.top.values beside.top.values reading

  abbrev touched : Ledger
  touched = used_ledger m beside.ledger (places_at (roots s.top.func) s.top.values beside.top.values reading)

  module _ (q : Point) (vs ws : Env) (on : IsEdgeOf (function_at m s.top.func) s.top q) (no_start : (al : ℕ)
      → IsNoStart (function_at m s.top.func) al (place_in s.top)) (no_end : (al : ℕ)
      → has_point (ends_of (function_at m s.top.func) al) (place_in s.top) ≡ false) (no_close : IsCallAt
      Intrinsic.CoroEnd (function_at m s.top.func) (place_in s.top) → ⊥) (comes : (al : ℕ)
      → LeadsFrom (function_at m s.top.func) (parting (is_escaped (function_at m s.top.func) al) (function_at m
      s.top.func) al) spot q) (envs : AreSlotEnvs (used_ledger m beside.ledger (places_at (roots s.top.func)
      s.top.values beside.top.values reading)).homes (roots s.top.func) vs ws) (same : (slot : ℕ)
      → IsTrue (flags s.top.func slot)
      → (value_in vs slot ≡ value_in s.top.values slot) × (value_in ws slot ≡ value_in beside.top.values slot))
      (same_others : (v : ℕ) → IsOther (function_at m s.top.func) (flags s.top.func) (roots s.top.func) v
      → (value_in vs v ≡ value_in s.top.values v) × (value_in ws v ≡ value_in beside.top.values v)) where
    abbrev there : Activation
    there = record s.top { block = q.block; at = q.at; values = vs }

    slot_there : (al b d : ℕ) → IsTrue (flags s.top.func al) → value_in s.top.values al ≡ pointer_to b
        → value_in h.values al ≡ pointer_to d
        → IsSlotBeside m touched s.instances s.world.memory t.world.memory (length s.below) there al b d
    slot_there al b d flagged at at' =
        let old = h.each al b d flagged at at' in
        ⊎_elim
        (λ p. used p.0 p.1.0 p.1.1 old)
        (λ out. slot_passed m l touched s.instances s.world.memory s.world.memory t.world.memory t.world.memory
        (touched_carried m flags roots keeps s t beside reading spot touching) (length s.below) s.top q vs on al b d
        (no_start al) (λ live. no_end al) (passed m flags roots keeps s t beside reading spot touching b out) old)
        (is_among ps b)
      where
        same_start : (i j : ℕ) → pointer_to i ≡ pointer_to j → i ≡ j
        same_start i j k = cc

        used : (p : Place) → IsListed p ps → p.block ≡ b
            → IsSlotBeside m l s.instances s.world.memory t.world.memory (length s.below) s.top al b d
            → IsSlotBeside m touched s.instances s.world.memory t.world.memory (length s.below) there al b d
        used p listed is old =
            let i = known m flags roots keeps s t beside reading spot touching p listed in
            let root : roots s.top.func al ≡ Some al = (keeps s.top.func).addresses al al flagged (own_address f al) in
            let same_al : i.alloca ≡ al = one m flags roots keeps s t beside reading spot touching i.alloca al b
            (idem m flags roots keeps s t beside reading spot touching i.name i.alloca i.root) root
            (i.source ∙ ap pointer_to is) at in
            let target : p.target ≡ d = same_start p.target d (sym i.target ∙ ap (value_in h.values) same_al ∙ at') in
            let home : IsHomeOf touched b d = subst (λ n. IsHomeOf touched b n) target (subst (λ n. IsHomeOf touched n
            p.target) is (place_home m flags roots keeps s t beside reading spot touching p listed)) in
            let u : IsUse f al spot = subst (λ n. IsUse f n spot) same_al (use_of m flags roots keeps s t beside
            reading spot touching p i) in
            let spot_is = touching.is_spot al u in
            let local : ¬ NeedsFrame f al = ((keeps s.top.func).is_local al flagged).1 in
            slot_used m l touched s.instances s.world.memory s.world.memory t.world.memory t.world.memory
            (touched_carried m flags roots keeps s t beside reading spot touching) (length s.below) s.top q vs on al
            b d (no_end al) home (λ live. live) (record {
              early = spot;
              is_use = u;
              comes = comes al;
            })
            (λ left live seen. used_gone m flags roots l touched s.instances s.world.memory s.world.memory
            t.world.memory t.world.memory (length s.below) s.top t.top h spot spot_is al b d local u old left
            (loud_escaped m flags roots l touched s.instances s.world.memory s.world.memory t.world.memory
            t.world.memory (length s.below) s.top t.top h spot spot_is al b d local u old (loud_after m flags roots
            keeps s t beside reading spot touching b seen)) live)
            old

    pub top_there : IsActivationBeside m flags roots touched s.instances s.world.memory t.world.memory (length s.below)
        there (record t.top { block = q.block; at = q.at; values = ws })
    top_there = activation_there m l touched s.instances s.world.memory s.world.memory t.world.memory t.world.memory
        (touched_carried m flags roots keeps s t beside reading spot touching) (length s.below) s.top q vs on flags
        roots t.top h ws envs same no_close (others_on l touched s.world.memory s.world.memory t.world.memory
        t.world.memory (touched_carried m flags roots keeps s t beside reading spot touching) f (flags s.top.func)
        (roots s.top.func) s.top.values h.values vs ws h.envs same_others h.others) slot_there

    abbrev pub edge_beside : AreOutdone s.instances s.top s.below → HasLeftSuspended s.instances s.top
        → IsBeside m flags roots (record s {
          top = record s.top { block = q.block; at = q.at; values = vs };
        }) (record t { top = record t.top { block = q.block; at = q.at; values = ws } })
    edge_beside outdone asleep = record {
      ledger = touched;
      outcome = beside.outcome;
      world = (touched_over m flags roots keeps s t beside reading spot touching);
      entered = (touched_entered m flags roots keeps s t beside reading spot touching);
      instances = instances_kept m flags roots l touched s.instances s.instances s.world.memory s.world.memory
          t.world.memory t.world.memory (touched_carried m flags roots keeps s t beside reading spot touching) 0
          s.instances t.instances (instance_touched m flags roots keeps s t beside reading spot touching asleep)
          beside.instances;
      top = top_there;
      below = below_kept m flags roots l touched s.instances s.instances s.world.memory s.world.memory t.world.memory
          t.world.memory (touched_carried m flags roots keeps s t beside reading spot touching) s.top.result s.below
          t.below (below_touched m flags roots keeps s t beside reading spot touching s.below (omega arith) outdone)
          beside.below;
    }
