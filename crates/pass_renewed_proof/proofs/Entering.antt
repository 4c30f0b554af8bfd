-- A resumed activation makes a flagged slot anew in one step, and goes on to the next one or to its label.
use Rattle.std.proofs.Common.{[], ◌∷◌, None, ◌≡◌, ℕ, ◌+◌, Bool, true, List, length, refl, ap, ◌∙◌, if◌then◌else◌}
use Rattle.pass_kept_proof.specs.run_memory.Memory.{end, fresh, start}
use Rattle.pass_kept_proof.specs.run_memory.declared.block.Kind.{Kind}
use Rattle.pass_kept_proof.specs.run_memory.declared.block.MemoryBlock.{MemoryBlock}
use Rattle.pass_kept_proof.specs.ir_base.declared.cause.Cause.{Cause}
use Rattle.pass_kept_proof.specs.ir_base.declared.outcome.Outcome.{Outcome}
use Rattle.pass_kept_proof.specs.run_source.Source.{context_of}
use Rattle.pass_kept_proof.specs.run_source.State.{function_of, or_undefined, settled, with_memory, work_of}
use Rattle.pass_kept_proof.specs.run_source.declared.state.Mode.{Mode}
use Rattle.pass_kept_proof.specs.run_source.declared.state.State.{State}
use Rattle.pass_kept_proof.specs.run_agreement.Machines.{iterate}
use Rattle.run_framed.specs.Framed.{at_point, with_mode}
use Rattle.pass_kept_proof.specs.ir_model.Layout.{size_of}
use Rattle.pass_kept_proof.specs.ir_model.Ty.{Ty}
use Rattle.pass_kept_proof.specs.ir_model.declared.instr.Instr.{Instr}
use Rattle.pass_kept_proof.specs.ir_model.declared.module.Function.{Function}
use Rattle.pass_kept_proof.specs.run_step.Step.{Action, AtInstr, Stuck, alloca, alloca_kind, fetch, has_markers, is_alignment, set_memory, set_value}
use Rattle.pass_kept_proof.specs.run_step.Values.{pointer_to}
use Rattle.pass_kept_proof.specs.run_step.declared.world.Slot.{Slot}
use Rattle.pass_renewed_proof.proofs.Places.{made_live}
use Rattle.pass_renewed_proof.specs.Entering.{Anew, AreNext, made_all, made_anew}
use Rattle.pass_renewed_proof.specs.Renewed.{RenewedGiven, renew_after, renewed_act, renewed_advance, renewed_from, renewed_next, renewed_slot, renewed_step}

module _ (g : RenewedGiven) (s : State) (from label a align : ℕ) (ty : Ty) where
  abbrev f : Function
  f = function_of g.given s

  abbrev n : List MemoryBlock
  n = s.world.memory

  abbrev size : ℕ
  size = size_of g.given.code ty

  abbrev kind : Kind
  kind = alloca_kind (function_of g.given s)

  abbrev slot : Slot
  slot = record { alloca = a; block = length s.world.memory }

  abbrev made : Bool → List MemoryBlock
  made t = if t then end (fresh s.world.memory (size_of g.given.code ty) align (alloca_kind (function_of g.given s))) (length s.world.memory) else fresh s.world.memory (size_of g.given.code ty) align (alloca_kind (function_of g.given s))

  abbrev after : State
  after = settled s (set_memory (set_value (work_of s) a (pointer_to (length s.world.memory))) (made (has_markers (function_of g.given s) a)))

  abbrev act : Action
  act = alloca (context_of g.given s) (work_of s) a (size_of g.given.code ty) align

  pub entering_step : s.outcome ≡ Outcome.Running → s.top.mode ≡ Mode.Entering from label → fetch (function_of g.given s) s.top.block s.top.at ≡ AtInstr (Instr.Alloca a ty align) → g.flags s.top.func a ≡ true → is_alignment align ≡ true → renewed_step g s ≡ renew_after g (made_anew g s a ty align) from label (renewed_from (g.flags s.top.func) (function_of g.given s) (s.top.at + 1))
  entering_step runs mode here flagged aligned =
      ap (renewed_advance g s) runs
      ∙ ap (λ x. or_undefined g.given s (renewed_next g s x)) here
      ∙ ap (λ t. or_undefined g.given s (renewed_act g s (if t then act else Stuck Cause.Align))) aligned
      ∙ ap (λ t. renewed_slot g (if t then with_memory after (start (made (has_markers f a)) (length n)) else after) slot s.top.mode) flagged
      ∙ ap (λ k. renewed_slot g (with_memory after k) slot s.top.mode) (made_live n size align kind (has_markers f a))
      ∙ ap (λ m. renewed_slot g (with_memory after (fresh n size align kind)) slot m) mode

-- all of them, each a step, and then the label
pub entering_run : (g : RenewedGiven) (from label : ℕ) (xs : List Anew) (at : ℕ) (s : State) → s.outcome ≡ Outcome.Running → AreNext (g.flags s.top.func) (function_of g.given s) at xs → iterate (renewed_step g) (length xs) (renew_after g s from label (renewed_from (g.flags s.top.func) (function_of g.given s) at)) ≡ renew_after g (made_all g from label s xs) from label None
entering_run g from label [] at s runs next = ap (renew_after g s from label) next
entering_run g from label (x ∷ xs) at s runs next =
    let e : State = at_point (with_mode s (Mode.Entering from label)) (record { block = 0; at = x.at }) in
    ap (λ p. iterate (renewed_step g) (length (x ∷ xs)) (renew_after g s from label p)) next.0
    ∙ ap (iterate (renewed_step g) (length xs)) (entering_step g e from label x.name x.align x.ty runs refl next.1 next.2 next.3)
    ∙ entering_run g from label xs (x.at + 1) (made_anew g e x.name x.ty x.align) runs next.4
