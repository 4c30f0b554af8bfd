-- What is known of an accepted source's states where begin stands at the place.
use Rattle.std.proofs.Common.{◌≡◌, ℕ, Bool, true, List, Option, Some, None, Ok, refl, sym, ap, ◌∙◌, subst}
use Rattle.std.proofs.lemmas.Option.{slice_get-map}
use Rattle.std.specs.List.{Contains}
use Rattle.std.specs.Prelude.{is_none, option_map}
use Rattle.compiler_theorem.proofs.apart.Whole.{of_slot}
use Rattle.compiler_theorem.proofs.kinds.States.{ramp_beside}
use Rattle.compiler_theorem.proofs.theorem.Framing.{sources_given}
use Rattle.compiler_theorem.specs.theorem.Anew.{Anew}
use Rattle.compiler_theorem.specs.theorem.Asked.{asking}
use Rattle.compiler_theorem.specs.theorem.Entries.{Run}
use Rattle.compiler_theorem.specs.theorem.Lowered.{IsLowered, Lowered, edged, sizes_of}
use Rattle.compiler.specs.ir_base.declared.cause.Cause.{Cause}
use Rattle.compiler.specs.ir_base.declared.outcome.Outcome.{Outcome}
use Rattle.compiler.specs.ir_model.Layout.{size_of}
use Rattle.compiler.specs.ir_model.Names.{function_at}
use Rattle.compiler.specs.ir_model.Ty.{Ty}
use Rattle.compiler.specs.ir_model.declared.instr.Instr.{Instr}
use Rattle.compiler.specs.ir_model.declared.module.Function.{Function}
use Rattle.compiler.specs.ir_model.declared.module.Module.{Module}
use Rattle.compiler.specs.ir_model.declared.operand.Arg.{Arg}
use Rattle.compiler.specs.ir_model.declared.operand.Callee.{Callee}
use Rattle.compiler.specs.ir_model.declared.operand.Intrinsic.{Intrinsic}
use Rattle.pass_frames_meaning.proofs.others.Returns.{instr_in}
use Rattle.pass_frames_meaning.specs.Kinds.{IsOwnAlloca}
use Rattle.pass_frames_meaning.specs.Sized.{IsSizedAt, IsSizedState}
use Rattle.pass_frames_meaning.specs.Sized.{sizes_of as sizes_in}
use Rattle.pass_frames_meaning.proofs.pass_frames_proof.lines.Cells.{contained}
use Rattle.pass_frames_meaning.proofs.pass_frames_proof.stepping.Stands.{renewed_does}
use Rattle.pass_frames_meaning.specs.pass_frames_proof.Related.{is_coroutine}
use Rattle.pass_frames_meaning.specs.pass_renewed_proof.Beside.{IsBeside}
use Rattle.pass_frames_meaning.specs.pass_renewed_proof.Renewed.{Flags, RenewedGiven, Roots, renewed_step}
use Rattle.pass_frames_meaning.specs.pass_renewed_proof.Steps.{given_at}
use Rattle.run_accepted.proofs.Accepted.{edged_alive}
use Rattle.compiler.specs.run_agreement.Machines.{IsFine}
use Rattle.compiler.specs.run_memory.declared.block.Kind.{Kind}
use Rattle.compiler.specs.run_memory.declared.block.MemoryBlock.{MemoryBlock}
use Rattle.compiler.specs.run_source.Source.{begin_at}
use Rattle.compiler.specs.run_source.State.{function_of, gives, or_undefined}
use Rattle.compiler.specs.run_source.declared.state.Mode.{Mode}
use Rattle.compiler.specs.run_source.declared.state.State.{State}
use Rattle.compiler.specs.run_step.Results.{and_then, ok_if}
use Rattle.compiler.specs.run_step.Step.{AtInstr, Coro, fetch}
use Rattle.compiler.specs.run_step.Values.{arg_values, nth}
use Rattle.compiler.specs.run_step.declared.world.Slot.{Slot}

-- ---- begin is fine in a ramp alone

abbrev begin_call : Option ℕ → Bool → Option Ty → List Arg → Instr
begin_call result must_tail ty args = Instr.Call result must_tail ty (Callee.Intrinsic Intrinsic.CoroBegin) args

-- where its step is fine, no instance was begun
pub none_begun : (g : RenewedGiven) (s : State) → s.outcome ≡ Outcome.Running → IsFine (renewed_step g s).outcome
    → (result : Option ℕ) (must_tail : Bool) (ty : Option Ty) (args : List Arg)
    → fetch (function_of g.given s) s.top.block s.top.at
    ≡ AtInstr (Instr.Call result must_tail ty (Callee.Intrinsic Intrinsic.CoroBegin) args) → s.top.instance ≡ None
none_begun g s runs fine result must_tail ty args there =
    on s.top.instance refl
    (subst (λ (t : State). IsFine t.outcome)
    (renewed_does g s (AtInstr (begin_call result must_tail ty args)) (Coro Intrinsic.CoroBegin args result) runs there
    refl refl) fine)
  where
    on : (o : Option ℕ) → s.top.instance ≡ o
        → IsFine (or_undefined g.given s (and_then (ok_if (is_none o) Cause.Begin s)
        (λ z. and_then (begin_at g.given z (nth (arg_values g.given.code s.top.values args) 1) Kind.Allocator)
        (λ y. Ok (gives y result (nth (arg_values g.given.code s.top.values args) 1)))))).outcome
        → s.top.instance ≡ None
    on (Some i) d h = absurd h
    on None d h = d

pub begins_in_ramp : (g : RenewedGiven) (m : Module) (flags : Flags) (roots : Roots) (v s : State)
    → IsBeside m flags roots v s → (s.top.mode ≡ Mode.Plain → ⊥) → s.outcome ≡ Outcome.Running
    → IsFine (renewed_step g s).outcome → (result : Option ℕ) (must_tail : Bool) (ty : Option Ty) (args : List Arg)
    → fetch (function_of g.given s) s.top.block s.top.at
    ≡ AtInstr (Instr.Call result must_tail ty (Callee.Intrinsic Intrinsic.CoroBegin) args) → s.top.mode ≡ Mode.Ramp
begins_in_ramp g m flags roots v s beside other runs fine result must_tail ty args there =
    ramp_beside m flags roots v s beside other (none_begun g s runs fine result must_tail ty args there)

-- ---- slots of an activation

module _ (l : Lowered) (low : IsLowered l) (a : Anew) (r : Run) (s : State) (sized : IsSizedState (edged l) s)
    (coroutine : is_coroutine (asking l low a r).b s.top.func ≡ true) (slot : Slot) (own : Contains s.top.slots slot)
  where
    abbrev f : Function
    f = function_at (edged l) s.top.func

    at_alloca : IsSizedAt (edged l) (sizes_in s.world.memory) f slot
    at_alloca = of_slot (IsSizedAt (edged l) (sizes_in s.world.memory)) f s.top.slots slot sized.stack.0
        (contained s.top.slots slot own)

    in_entry : at_alloca.block ≡ 0
    in_entry =
        let rules = edged_alive l.text l.source low.source.stands low.source.accepted (sizes_of l) r.answers s.top.func in
        ((rules.made slot.alloca at_alloca.ty at_alloca.align at_alloca.block at_alloca.at at_alloca.stands).alone
        at_alloca.block at_alloca.at (ap given_at at_alloca.stands)).0

    same_pair : (p q : ℕ × ℕ) → Some p ≡ Some q → p ≡ q
    same_pair p q e = cc

    -- a slot is of an alloca of the entry, with the block's size and alignment
    pub own_alloca : IsOwnAlloca (asking l low a r) s slot
    own_alloca = record {
      at = at_alloca.at;
      align = at_alloca.align;
      ty = at_alloca.ty;
      there = instr_in ((asking l low a r).b.framing s.top.func) f
          ((sources_given l low a r).coroutines s.top.func coroutine) 0 at_alloca.at
          (Instr.Alloca slot.alloca at_alloca.ty at_alloca.align)
          (subst (λ (b : ℕ). fetch f b at_alloca.at ≡ AtInstr (Instr.Alloca slot.alloca at_alloca.ty at_alloca.align))
          in_entry at_alloca.stands);
      sized = λ z e.
          let same = same_pair (z.size, z.align) (size_of (edged l) at_alloca.ty, at_alloca.align)
          (sym (slice_get-map (λ (y : MemoryBlock). (y.size, y.align)) s.world.memory slot.block
          ∙ ap (option_map (λ (y : MemoryBlock). (y.size, y.align))) e) ∙ at_alloca.sized) in
          (ap (λ (q : ℕ × ℕ). q.0) same, ap (λ (q : ℕ × ℕ). q.1) same);
    }
