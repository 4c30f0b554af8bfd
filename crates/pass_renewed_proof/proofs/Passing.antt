-- A step of the topmost activation that leaves what is said of each slot leads to states beside each other.
use Rattle.std.proofs.Common.{◌≡◌, ℕ, ◌+◌, false, List, [], ◌∷◌, length, Some, sym, ap}
use Rattle.std.proofs.Common.{◌∙◌, subst}
use Rattle.std.proofs.lemmas.Bool.{false≢true}
use Rattle.std.specs.Prelude.{IsTrue}
use Rattle.pass_kept_proof.specs.ir_model.Names.{function_at}
use Rattle.pass_kept_proof.specs.ir_model.declared.instr.Instr.{Instr}
use Rattle.pass_kept_proof.specs.ir_model.declared.module.Function.{Function}
use Rattle.pass_kept_proof.specs.ir_model.declared.module.Module.{Module}
use Rattle.pass_kept_proof.specs.ir_model.declared.operand.Intrinsic.{Intrinsic}
use Rattle.pass_kept_proof.specs.ir_paths.Paths.{has_point}
use Rattle.pass_kept_proof.specs.ir_paths.Windows.{is_call_of}
use Rattle.pass_kept_proof.specs.ir_paths.declared.point.Point.{Point}
use Rattle.frame_classes.specs.frame_slots.Uses.{ends_of}
use Rattle.pass_kept_proof.specs.run_memory.declared.block.MemoryBlock.{MemoryBlock}
use Rattle.pass_kept_proof.specs.run_source.State.{settled}
use Rattle.pass_kept_proof.specs.run_source.declared.state.Activation.{Activation}
use Rattle.pass_kept_proof.specs.run_source.declared.state.Instance.{Instance}
use Rattle.pass_kept_proof.specs.run_source.declared.state.State.{State}
use Rattle.pass_kept_proof.specs.run_step.Step.{AtInstr, fetch}
use Rattle.pass_kept_proof.specs.run_step.Values.{Env, pointer_to, value_in}
use Rattle.pass_kept_proof.specs.run_step.declared.world.World.{World}
use Rattle.pass_renewed_proof.proofs.Ahead.{next_edge}
use Rattle.pass_renewed_proof.proofs.Carried.{AreBelowCarried, IsCarried, IsInstanceCarried, IsSlotKept, below_kept}
use Rattle.pass_renewed_proof.proofs.Carried.{instances_kept, kept_slot_on, slot_kept}
use Rattle.pass_renewed_proof.proofs.History.{no_marker, no_start}
use Rattle.pass_renewed_proof.proofs.Onward.{IsEdgeOf, activation_there, left_next, passed_next, slot_passed}
use Rattle.pass_renewed_proof.proofs.Settled.{seated_in}
use Rattle.pass_renewed_proof.proofs.Stands.{end_at_first}
use Rattle.pass_renewed_proof.proofs.Way.{same_instr}
use Rattle.pass_renewed_proof.specs.Ahead.{IsNoStart}
use Rattle.pass_renewed_proof.specs.Beside.{AreOthers, IsActivationBeside, IsBeside, IsInstanceBeside, IsSlotBeside}
use Rattle.pass_renewed_proof.specs.Beside.{place_in}
use Rattle.pass_renewed_proof.specs.Ledger.{AreEntered, Ledger, LivesIn, Seat}
use Rattle.pass_renewed_proof.specs.Left.{behind}
use Rattle.pass_renewed_proof.specs.Ordinary.{IsCalm}
use Rattle.pass_renewed_proof.specs.Renewed.{Flags, Roots}
use Rattle.pass_renewed_proof.specs.SlotEnvs.{AreSlotEnvs}
use Rattle.pass_renewed_proof.specs.Steps.{AreOver}

-- ---- the edge behind an instruction

pub unstarted : (f : Function) (p : Point) (i : Instr) → fetch f p.block p.at ≡ AtInstr i
    → is_call_of Intrinsic.LifetimeStart i ≡ false → (slot : ℕ) → IsNoStart f slot p
unstarted f p i here none slot = no_start f slot p (λ x. absurd (false≢true (sym none
    ∙ ap (is_call_of Intrinsic.LifetimeStart) (sym (same_instr x.instr i (sym x.stands ∙ here))) ∙ x.is)))

pub unended : (f : Function) (p : Point) (i : Instr) → fetch f p.block p.at ≡ AtInstr i
    → is_call_of Intrinsic.LifetimeEnd i ≡ false → (slot : ℕ) → has_point (ends_of f slot) p ≡ false
unended f p i here none slot = no_marker f Intrinsic.LifetimeEnd slot p (λ x. absurd (false≢true (sym none
    ∙ ap (is_call_of Intrinsic.LifetimeEnd) (sym (same_instr x.instr i (sym x.stands ∙ here))) ∙ x.is)))

module _ (m : Module) (flags : Flags) (roots : Roots) (l : Ledger) (xs : List Instance) (memory target : List
    MemoryBlock) (depth : ℕ) (a b : Activation) (h : IsActivationBeside m flags roots l xs memory target depth a b)
    (calm : IsCalm (function_at m a.func) (place_in a)) (i : Instr) (here : fetch (function_at m a.func)
    a.block a.at ≡ AtInstr i) where
  abbrev f : Function
  f = function_at m a.func

  pub edge_on : IsEdgeOf (function_at m a.func) a (behind (place_in a))
  edge_on = record {
    edge = next_edge f a.block a.at i here;
    passed = λ slot. passed_next f slot (place_in a);
    not_last = λ is last. calm.no_end last (end_at_first f (place_in a) (h.came is) last);
    left = λ left z call by. left_next f z (place_in a) i here calm call by;
  }

-- ---- the states

module _ (m : Module) (flags : Flags) (roots : Roots) (s t : State) (beside : IsBeside m flags roots s t) (k : Ledger)
    (w v : World) (carried : IsCarried beside.ledger k s.world.memory w.memory t.world.memory v.memory)
    (kept : (b : ℕ) (seat : Seat) → beside.ledger.seats b ≡ Some seat → IsSlotKept beside.ledger k s.world.memory
    w.memory b) where
  abbrev l : Ledger
  l = beside.ledger

  pub below_passed : (below : List Activation) → AreBelowCarried m flags roots l k s.instances s.instances s.world.memory
      w.memory t.world.memory v.memory carried below
  below_passed [] = tt
  below_passed (z ∷ below) = (
    record {
      over = λ stays o. o;
      slots = λ alloca b d flagged old. slot_kept m flags roots l k s.instances s.instances s.world.memory w.memory
          t.world.memory v.memory carried (length below) z alloca b d (record {
            goes_on = λ goes. goes;
            slots = λ slot is. is;
          }) (kept b _ old.seat) old;
    },
    below_passed below,
  )

  pub instance_passed : (j : ℕ) (z y : Instance) → IsInstanceBeside m flags roots l s.world.memory (0 + j) z y
      → IsInstanceCarried m flags roots l k s.instances s.instances s.world.memory w.memory t.world.memory v.memory
      carried z
  instance_passed j z y ib = record {
    slots = λ p alloca b suspended flagged old.
        let seated = seated_in l _ _ (flags z.coroutine) z.slots ib.slots ib.listed (record {
          alloca = alloca;
          block = b;
        }) flagged old.slot in
        kept_slot_on m flags roots l k s.instances s.instances s.world.memory w.memory t.world.memory v.memory carried
        z p alloca b (kept b _ seated.seat) old;
    gone = λ slot is flagged.
        let seated = seated_in l _ _ (flags z.coroutine) z.slots ib.slots ib.listed slot flagged is in
        (kept slot.block _ seated.seat).gone;
  }

  module _ (vs ws : Env) (onward : IsEdgeOf (function_at m s.top.func) s.top (behind (place_in s.top)))
      (no_start : (slot b : ℕ) → IsTrue (flags s.top.func slot) → value_in s.top.values slot ≡ pointer_to b
      → IsNoStart (function_at m s.top.func) slot (place_in s.top))
      (no_end : (slot b : ℕ) → IsTrue (flags s.top.func slot) → value_in s.top.values slot ≡ pointer_to b
      → LivesIn w.memory b → has_point (ends_of (function_at m s.top.func) slot) (place_in s.top) ≡ false)
      (calm : IsCalm (function_at m s.top.func) (place_in s.top))
      (envs : AreSlotEnvs k.homes (roots s.top.func) vs ws)
      (others : AreOthers k (function_at m s.top.func) (flags s.top.func) (roots s.top.func) vs ws)
      (same : (slot : ℕ) → IsTrue (flags s.top.func slot)
      → (value_in vs slot ≡ value_in s.top.values slot) × (value_in ws slot ≡ value_in beside.top.values slot)) where
    pub top_passed : IsActivationBeside m flags roots k s.instances w.memory v.memory (length s.below) (record s.top {
      at = s.top.at + 1;
      values = vs;
    }) (record t.top { at = t.top.at + 1; values = ws })
    top_passed = subst (λ (z : Activation). IsActivationBeside m flags roots k s.instances w.memory v.memory (length
        s.below) (record s.top { at = s.top.at + 1; values = vs }) z) same_place
        (activation_there m l k s.instances s.world.memory w.memory t.world.memory v.memory carried (length s.below)
        s.top (behind (place_in s.top)) vs onward flags roots t.top beside.top ws envs same calm.no_close others
        (λ slot d e flagged at there.
        let old : IsSlotBeside m l s.instances s.world.memory t.world.memory (length s.below) s.top slot d
        e = beside.top.each slot d e flagged at there in
        slot_passed m l k s.instances s.world.memory w.memory t.world.memory v.memory carried (length s.below)
        s.top (behind (place_in s.top)) vs onward slot d e (no_start slot d flagged at) (no_end slot d flagged
        at) (kept d _ old.seat) old))
      where
        same_place : record t.top {
          block = s.top.block;
          at = s.top.at + 1;
          values = ws;
        } ≡ record t.top { at = t.top.at + 1; values = ws }
        same_place = ap (λ (z : Activation). record z {
          block = s.top.block;
          at = s.top.at + 1;
          values = ws;
        }) beside.top.is
            ∙ sym (ap (λ (z : Activation). record z { at = z.at + 1; values = ws }) beside.top.is)

    abbrev pub passed_beside : AreOver k.homes k.hides w v → AreEntered m k w.memory v.memory
        → IsBeside m flags roots (settled s (record { world = w; values = vs })) (settled t (record {
          world = v;
          values = ws;
        }))
    passed_beside over entered = record {
      ledger = k;
      outcome = beside.outcome;
      world = over;
      entered = entered;
      instances = instances_kept m flags roots l k s.instances s.instances s.world.memory w.memory t.world.memory
          v.memory carried 0 s.instances t.instances (λ j z y at ib. instance_passed j z y ib) beside.instances;
      top = top_passed;
      below = below_kept m flags roots l k s.instances s.instances s.world.memory w.memory t.world.memory v.memory
          carried s.top.result s.below t.below (below_passed s.below) beside.below;
    }
