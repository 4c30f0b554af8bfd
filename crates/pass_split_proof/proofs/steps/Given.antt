-- A value that a coro intrinsic gives leaves the states beside each other.
use Rattle.std.proofs.Common.{◌≡◌, ℕ, ◌+◌, ◌<◌, ◌≤◌, ◌^◌, false, length, Some, refl, sym, ap, ◌∙◌, subst, arith}
use Rattle.std.specs.Prelude.{pos}
use Rattle.pass_proofs.specs.ir_model.Names.{function_at}
use Rattle.pass_proofs.specs.ir_model.Ty.{ptr}
use Rattle.pass_proofs.specs.ir_model.declared.instr.Instr.{Instr}
use Rattle.pass_proofs.specs.ir_model.declared.operand.Callee.{Callee}
use Rattle.pass_proofs.specs.ir_model.declared.operand.Intrinsic.{Intrinsic}
use Rattle.pass_proofs.specs.ir_model.declared.operand.Operand.{Operand}
use Rattle.pass_proofs.specs.pass_intrinsics.Lowered.{address}
use Rattle.pass_proofs.specs.pass_intrinsics.declared.shape.Part.{Part}
use Rattle.pass_split_proof.proofs.states.Advanced.{advanced, same_frames}
use Rattle.pass_split_proof.proofs.states.OwnHomes.{own_home, own_pointer}
use Rattle.pass_split_proof.proofs.states.Values.{values_set}
use Rattle.pass_split_proof.proofs.steps.Ordinary.{IsCopied, alone}
use Rattle.pass_split_proof.proofs.steps.Settled.{plain_does}
use Rattle.pass_proofs.proofs.addresses.numbers.Done.{address_done}
use Rattle.pass_split_proof.specs.states.Activations.{HasFrame, Inside, IsPlaced, is_entering}
use Rattle.pass_split_proof.specs.states.Going.{moved_to, placed_at}
use Rattle.pass_split_proof.specs.states.Memories.{homes_of}
use Rattle.pass_split_proof.specs.states.Related.{AreRelated}
use Rattle.pass_split_proof.specs.states.Values.{AreValuesOf}
use Rattle.pass_split_proof.specs.steps.Given.{IsAtFrame}
use Rattle.pass_proofs.specs.pass_split.Pieces.{begins_again}
use Rattle.pass_proofs.specs.run_framed.Framed.{FramedGiven}
use Rattle.pass_proofs.proofs.run_laws.memory.Written.{same_some}
use Rattle.pass_proofs.proofs.run_laws.transfer.Sets.{set_elsewhere, set_length, sets_name}
use Rattle.pass_proofs.specs.run_laws.access.Lines.{pointer_at}
use Rattle.pass_proofs.specs.run_laws.memory.Pointers.{Home, IsValue}
use Rattle.pass_proofs.specs.run_laws.memory.Standing.{own_homes}
use Rattle.pass_proofs.specs.run_memory.Pointers.{offset_of}
use Rattle.pass_proofs.specs.run_memory.declared.pointer.Value.{Value}
use Rattle.run_access_worked.specs.run_plain.Plain.{PlainGiven, plain_context, plain_function, plain_settled, plain_step, plain_work}
use Rattle.run_access_worked.specs.run_plain.declared.state.PlainState.{PlainState}
use Rattle.pass_proofs.specs.run_source.State.{frame_address_of, function_of, gives, work_of}
use Rattle.pass_proofs.specs.run_source.declared.state.State.{State}
use Rattle.pass_proofs.specs.run_step.Step.{AtInstr, Done, instr_action, set_value, value_at}
use Rattle.pass_proofs.specs.run_step.Values.{value_in, with_value}

-- an address in a block that there is stands for itself
pub address_itself : (k b o : ℕ) → b < k → o < 2 ^ 64 → IsValue (own_homes 0 k) (pointer_at b o) (pointer_at b o)
address_itself k b o lt small
    = (ap (λ (q : Home). q.is_seen) (own_home k b lt), ap Value.Ptr (sym (own_pointer k b (offset_of o) lt within)))
  where
    within : (offset_of o).bits < 2 ^ 64
    within = omega arith

module _ (g : FramedGiven) (h : PlainGiven) (s : State) (t : PlainState) (r : AreRelated g h s t) (name : ℕ)
    (v u : Value)
    (stands : IsValue (homes_of s.world.memory) v u) (kept : name ≡ r.top.shape.begin
    → ⊥) (mode : is_entering s.top.mode ≡ false) where
  values : AreValuesOf (function_at g.given.code s.top.func) (homes_of s.world.memory) (with_value s.top.values name v)
      (with_value t.top.values name u)
  values = values_set (function_at g.given.code s.top.func) (homes_of s.world.memory) (Some name) s.top.values
      t.top.values (with_value s.top.values name v) (with_value t.top.values name u) r.top.values
      (sets_name (homes_of s.world.memory) s.top.values t.top.values r.top.values.room name v u stands)

  pub given_related : IsPlaced r.top.shape r.top.part (function_at g.given.code s.top.func)
      (function_at h.code t.top.func) (moved_to s.top s.top.block (s.top.at + 1) (with_value s.top.values name v)
      s.top.has_left) (placed_at t.top t.top.block (t.top.at + 1) (with_value t.top.values name u)) s.top.mode
      → AreRelated g h (gives s (Some name) v) (plain_settled t (set_value (plain_work t) name u))
  given_related place = advanced g h s t r (set_value (work_of s) name v) (set_value (plain_work t) name u) s.instances
      s.top.block (s.top.at + 1) t.top.block (t.top.at + 1) s.top.has_left mode r.world r.frames
      (same_frames s.instances) le (record { each = λ b e. refl }) values
      (set_length s.top.values name v) (set_length t.top.values name u)
      (set_elsewhere t.top.values name r.top.shape.begin u kept) place
    where
      le : length s.world.memory ≤ length s.world.memory
      le = omega arith

-- ---- the frame's address

module _ (g : FramedGiven) (h : PlainGiven) (s : State) (t : PlainState) (r : AreRelated g h s t) (name : ℕ)
    (k : IsAtFrame g h s t r name) where
  abbrev begin : ℕ
  begin = r.top.shape.begin

  abbrev u : Value
  u = pointer_at k.instance.block k.instance.start

  has : HasFrame s.instances s.top.func (value_in t.top.values begin) k.own
  has = r.top.frame k.own k.is_own

  leads : value_at (plain_context h t) (plain_work t) ptr (Operand.Local begin) ≡ u
  leads = has.is ∙ ap frame_address_of (same_some has.instance k.instance (sym has.there ∙ k.is))

  copied : IsCopied r.top.shape r.top.part (function_of g.given s) (plain_function h t) s.top.block s.top.at
      t.top.block t.top.at (address name (Operand.Local begin) (pos 0))
  copied = alone r.top.shape r.top.part (function_of g.given s) (plain_function h t) s.top.block s.top.at t.top.block
      t.top.at
      (Instr.Call (Some name) k.must_tail k.ty (Callee.Intrinsic Intrinsic.CoroFrame) k.args)
      (address name (Operand.Local begin) (pos 0))
      (record { begins = on r.top.part; cut = λ after. refl; lowered = λ n. refl }) k.place k.there
    where
      on : (part : Part)
          → begins_again part (Instr.Call (Some name) k.must_tail k.ty (Callee.Intrinsic Intrinsic.CoroFrame) k.args) ≡
          false
      on Part.Ramp = refl
      on Part.GivenRamp = refl
      on Part.Resume = refl
      on Part.Destroy = refl
      on Part.Cleanup = refl

  does : instr_action (plain_context h t) (plain_work t) (address name (Operand.Local begin) (pos 0)) ≡ Done
      (set_value (plain_work t) name u)
  does =
      let lt = k.start in
      address_done (plain_context h t) (plain_work t) name k.instance.block k.instance.start 0
      (Operand.Local begin) leads (omega arith)
      ∙ ap (λ (o : ℕ). Done (set_value (plain_work t) name (pointer_at k.instance.block o))) same
    where
      same : k.instance.start + 0 ≡ k.instance.start
      same = omega arith

  steps : plain_step h t ≡ plain_settled t (set_value (plain_work t) name u)
  steps = plain_does h t (AtInstr (address name (Operand.Local begin) (pos 0)))
      (Done (set_value (plain_work t) name u)) (r.outcome ∙ k.running) copied.0 does

  pub frame_given : AreRelated g h (gives s (Some name) (frame_address_of k.instance)) (plain_step h t)
  frame_given = subst (λ (x : PlainState). AreRelated g h (gives s (Some name) (frame_address_of k.instance)) x)
      (sym steps)
      (given_related g h s t r name u u (address_itself (length s.world.memory) k.instance.block k.instance.start
      k.block k.start) k.others k.settled
      (Inside s.top.mode k.settled copied.1))
