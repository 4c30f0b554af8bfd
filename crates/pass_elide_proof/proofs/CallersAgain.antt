-- Callers of instances stay on the stack while a resumed activation executes its allocas again.
use Rattle.std.proofs.Common.{◌≡◌, ◌++◌, ◌∙◌, ◌∷◌, ◌⊎◌, [], ap, Bool, false, inl, inr, List, length, Option, refl, subst, sym, true, ℕ, if◌then◌else◌}
use Rattle.std.specs.Prelude.{None, Some}
use Rattle.elide_sites.specs.Destroyed.{IsOn}
use Rattle.elide_sites.specs.declared.destroyed.Way.{Way}
use Rattle.pass_elide_proof.proofs.CallersBlocks.{new_frames}
use Rattle.pass_elide_proof.proofs.CallersInstr.{Keep, next_keeps, was_itself}
use Rattle.pass_elide_proof.proofs.CallersOnward.{goes_onward}
use Rattle.pass_elide_proof.proofs.Modules.{finds_alike}
use Rattle.pass_elide_proof.proofs.Standing.{has_code}
use Rattle.pass_elide_proof.specs.Callers.{GoesOnAs, HaveBlocks, StandsAtInstr}
use Rattle.pass_elide_proof.specs.Elision.{Elision, elided, function_in, rooms}
use Rattle.pass_elide_proof.specs.Invariant.{HaveCallers, IsDestroying}
use Rattle.pass_proofs.specs.ir_base.declared.cause.Cause.{Cause}
use Rattle.pass_proofs.specs.ir_model.Layout.{size_of}
use Rattle.pass_proofs.specs.ir_model.Names.{position_of}
use Rattle.pass_proofs.specs.ir_model.Ty.{Ty}
use Rattle.pass_proofs.specs.ir_model.declared.instr.Instr.{Instr}
use Rattle.pass_proofs.specs.ir_model.declared.module.Function.{Function}
use Rattle.pass_proofs.specs.ir_paths.declared.point.Point.{Point}
use Rattle.pass_proofs.specs.run_framed.Framed.{alloca_from, enter_after, framed_act, framed_context, framed_slot, framed_step}
use Rattle.pass_proofs.specs.run_laws.memory.Standing.{blank_block}
use Rattle.pass_proofs.specs.run_memory.Memory.{end}
use Rattle.pass_proofs.specs.run_memory.declared.block.MemoryBlock.{MemoryBlock}
use Rattle.pass_proofs.specs.run_memory.declared.pointer.Value.{Value}
use Rattle.pass_proofs.specs.run_source.State.{function_of, settled, with_slots, work_of}
use Rattle.pass_proofs.specs.run_source.declared.state.Activation.{Activation}
use Rattle.pass_proofs.specs.run_source.declared.state.Instance.{Instance}
use Rattle.pass_proofs.specs.run_source.declared.state.Mode.{Mode}
use Rattle.pass_proofs.specs.run_source.declared.state.State.{State}
use Rattle.pass_proofs.specs.run_step.Step.{Context, NewSlot, Stuck, Work, alloca_kind, has_markers, is_alignment, set_memory, set_value}
use Rattle.pass_proofs.specs.run_step.Values.{pointer_to}
use Rattle.pass_proofs.specs.run_step.declared.world.Slot.{Slot}

-- ---- it goes on to its next alloca, or enters the label

module _ (e : Elision) (c d : Activation) (from label : ℕ) (mode : c.mode ≡ Mode.Entering from label)
    (func : d.func ≡ c.func) (result : d.result ≡ c.result) (instance : d.instance ≡ c.instance)
    (left : d.has_left ≡ c.has_left) (to : (d.mode ≡ Mode.Entering from label)
    ⊎ ((d.mode ≡ Mode.Resumed) × (d.block ≡ position_of (function_in e c.func) label))) where
  no_ramp : (frame : Value) → d.mode ≡ Mode.GivenRamp frame → ⊥
  no_ramp frame is = by to
    where
      by : (d.mode ≡ Mode.Entering from label)
          ⊎ ((d.mode ≡ Mode.Resumed) × (d.block ≡ position_of (function_in e c.func) label)) → ⊥
      by (inl entering) = absurd (let no : Mode.Entering from label ≡ Mode.GivenRamp frame = sym entering ∙ is in cc)
      by (inr both) = absurd (let no : Mode.Resumed ≡ Mode.GivenRamp frame = sym both.0 ∙ is in cc)

  destroys_again : (y : Instance) (number : ℕ) → IsDestroying e y number c → IsDestroying e y number d
  destroys_again y number h = by to
    where
      by : (d.mode ≡ Mode.Entering from label)
          ⊎ ((d.mode ≡ Mode.Resumed) × (d.block ≡ position_of (function_in e c.func) label))
          → IsDestroying e y number d
      by (inl entering) = record {
        func = func ∙ h.func;
        instance = instance ∙ h.instance;
        stays = left ∙ h.stays;
        block = 0;
        entered = inr (from, label, entering);
        way = λ resumed. absurd (let no : Mode.Resumed ≡ Mode.Entering from label = sym resumed ∙ entering in cc);
        ahead = λ a b is. h.ahead a b (mode ∙ (sym entering ∙ is));
      }
      by (inr both) = record {
        func = func ∙ h.func;
        instance = instance ∙ h.instance;
        stays = left ∙ h.stays;
        block = d.block;
        entered = inl (both.0, refl);
        way = λ resumed.
            subst (IsOn Way.Destroyed (function_in e y.coroutine))
            ((λ j. position_of (function_in e (sym h.func j)) label) ∙ sym both.1)
            (h.ahead from label mode);
        ahead = λ a b is. absurd (let no : Mode.Resumed ≡ Mode.Entering a b = sym both.0 ∙ is in cc);
      }

  pub entering_goes : GoesOnAs e c d
  entering_goes = record {
    func = func;
    result = result;
    instance = λ number is. instance ∙ is;
    mode = λ frame is. absurd (let no : Mode.Entering from label ≡ Mode.GivenRamp frame = sym mode ∙ is in cc);
    given = λ frame is. absurd (no_ramp frame is);
    begun = λ none. sym instance ∙ none;
    destroys = destroys_again;
  }

-- ---- the step

module _ (e : Elision) (t : State) (at name : ℕ) (ty : Ty) (align : ℕ)
    (k : StandsAtInstr e t at (Instr.Alloca name ty align)) (inside : (function_in e t.top.func).coroutine ≡ true)
    (from label : ℕ) (mode : t.top.mode ≡ Mode.Entering from label) (blocks : HaveBlocks t) (h : HaveCallers e t) where
  yes_no : (p : Bool) → p ≡ true → p ≡ false → ⊥
  yes_no true y n = absurd (cc)
  yes_no false y n = absurd (cc)

  abbrev i : Instr
  i = Instr.Alloca name ty align

  abbrev g : Context
  g = framed_context (elided e) t

  abbrev next_block : MemoryBlock
  next_block = blank_block (size_of g.code ty) align (alloca_kind g.function)

  abbrev grown : List MemoryBlock
  grown = t.world.memory ++ next_block ∷ []

  abbrev made : Bool → List MemoryBlock
  made b = if b then end grown (length t.world.memory) else grown

  abbrev work : Bool → Work
  work b = set_memory (set_value (work_of t) name (pointer_to (length t.world.memory))) (made b)

  abbrev slot : Slot
  slot = record { alloca = name; block = length t.world.memory }

  abbrev middle : Bool → State
  middle b = with_slots (settled t (work b)) (slot ∷ t.top.slots)

  abbrev after : Bool → Option Point → State
  after b o = enter_after (elided e) (middle b) from label o

  labels : position_of (function_of (elided e).given t) label ≡ position_of (function_in e t.top.func) label
  labels =
      ap (λ (f : Function). position_of f label) ((finds_alike e).functions t.top.func)
      ∙ (has_code (rooms e t.top.func) (function_in e t.top.func)).labels label

  after_keeps : (b : Bool) (o : Option Point) → HaveCallers e (after b o)
  after_keeps b None =
      goes_onward e t (after b None) (record {
        below = refl;
        instances = was_itself t.instances;
        frames = new_frames t next_block blocks b (after b None) refl;
        goes = entering_goes e t.top (after b None).top from label mode refl refl refl refl (inr (refl, labels));
        from = record { block = 0; at = 0 };
        to = record { block = 0; at = 0 };
        moves = λ plain. absurd (yes_no (function_in e t.top.func).coroutine inside plain);
        still = λ plain. absurd (yes_no (function_in e t.top.func).coroutine inside plain);
        destroyed = λ plain. absurd (yes_no (function_in e t.top.func).coroutine inside plain);
      }) h
  after_keeps b (Some p) =
      goes_onward e t (after b (Some p)) (record {
        below = refl;
        instances = was_itself t.instances;
        frames = new_frames t next_block blocks b (after b (Some p)) refl;
        goes = entering_goes e t.top (after b (Some p)).top from label mode refl refl refl refl (inl refl);
        from = record { block = 0; at = 0 };
        to = record { block = 0; at = 0 };
        moves = λ plain. absurd (yes_no (function_in e t.top.func).coroutine inside plain);
        still = λ plain. absurd (yes_no (function_in e t.top.func).coroutine inside plain);
        destroyed = λ plain. absurd (yes_no (function_in e t.top.func).coroutine inside plain);
      }) h

  by_mode : (b : Bool) → HaveCallers e (framed_slot (elided e) (settled t (work b)) slot t.top.mode)
  by_mode b =
      subst (λ (m : Mode). HaveCallers e (framed_slot (elided e) (settled t (work b)) slot m)) (sym mode)
      (after_keeps b (alloca_from (function_of (elided e).given (settled t (work b))) (settled t (work b)).top.at))

  aligned : (q b : Bool) → Keep e (framed_act (elided e) t (if q then NewSlot (work b) slot else Stuck Cause.Align))
  aligned true b = by_mode b
  aligned false b = tt

  pub again_keeps : HaveCallers e (framed_step (elided e) t)
  again_keeps = next_keeps e t at i k h (aligned (is_alignment align) (has_markers g.function name))
