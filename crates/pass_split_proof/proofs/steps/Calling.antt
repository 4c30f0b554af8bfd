-- A part loads the address of a function from a frame's header, and calls it with the frame's address.
use Rattle.std.proofs.Common.{◌≡◌, ℕ, zero, suc, ◌+◌, ◌<◌, ◌≤◌, ◌^◌, Bool, true, false, List, [], ◌∷◌, length, Option, None, Some, refl, sym, ap, ◌∙◌, subst, arith, if◌then◌else◌, ◌&&◌}
use Rattle.std.specs.Prelude.{pos, slice_get}
use Rattle.pass_proofs.specs.ir_base.declared.cause.Cause.{Cause}
use Rattle.pass_proofs.specs.ir_base.declared.outcome.Outcome.{Outcome}
use Rattle.pass_proofs.specs.ir_model.Names.{function_at, is_noalloc}
use Rattle.pass_proofs.specs.ir_model.Ty.{Ty, ptr}
use Rattle.pass_proofs.specs.ir_model.declared.operand.Arg.{Arg}
use Rattle.pass_proofs.specs.ir_model.declared.operand.Operand.{Operand}
use Rattle.pass_proofs.specs.pass_intrinsics.Lowered.{address, call_pointer, destroy_call, load_pointer, pointer_arg, resume_call}
use Rattle.pass_split_proof.proofs.steps.Saves.{set_there}
use Rattle.pass_split_proof.proofs.steps.Settled.{plain_does}
use Rattle.pass_proofs.proofs.addresses.numbers.Done.{address_done}
use Rattle.pass_split_proof.proofs.steps.Small.{pointer_loaded}
use Rattle.pass_split_proof.specs.states.Related.{AreRelated}
use Rattle.pass_split_proof.specs.steps.Calling.{IsCallable, calling}
use Rattle.pass_proofs.specs.run_framed.Framed.{FramedGiven}
use Rattle.pass_proofs.proofs.run_laws.transfer.Sets.{set_elsewhere, set_length}
use Rattle.pass_proofs.specs.run_laws.access.Lines.{StandAt, pointer_at}
use Rattle.pass_proofs.specs.run_memory.declared.pointer.Pointer.{Pointer}
use Rattle.pass_proofs.specs.run_memory.declared.pointer.Value.{Value}
use Rattle.run_access_worked.specs.run_plain.Plain.{PlainGiven, counted, plain_context, plain_function, plain_settled, plain_step, plain_work}
use Rattle.run_access_worked.specs.run_plain.declared.state.PlainState.{PlainState}
use Rattle.pass_proofs.specs.run_source.declared.state.State.{State}
use Rattle.pass_proofs.specs.run_step.Runs.{iterate}
use Rattle.pass_proofs.specs.run_step.Step.{AtInstr, Done, Enter, Stuck, Work, fits_function, fits_params, indirect_call, instr_action, risen, same_result, set_value}
use Rattle.pass_proofs.specs.run_step.Values.{Env, operand_value, value_in, with_value}

-- ---- a count of calls that nobody sees

-- the run is the same but for a count
pub record IsCounted (t u : PlainState) : Type 0 where
  pub count : ℕ
  pub is : u ≡ record t { elided = count }

pub counted_is : (h : PlainGiven) (func : ℕ) (t : PlainState) → IsCounted t (counted h func t)
counted_is h func t = on (is_noalloc (function_at h.code func).name)
  where
    on : (b : Bool) → IsCounted t (if b then record t { elided = risen t.elided } else t)
    on true = record { count = risen t.elided; is = refl }
    on false = record { count = t.elided; is = refl }

pub counted_related : (g : FramedGiven) (h : PlainGiven) (s : State) (t : PlainState) (count : ℕ) → AreRelated g h s t
    → AreRelated g h s (record t { elided = count })
counted_related g h s t count r = record {
  outcome = r.outcome;
  globals = r.globals;
  world = r.world;
  frames = r.frames;
  top = r.top;
  below = r.below;
  making = r.making;
}

-- ---- operands where new names are set

elsewhere : (h : PlainGiven) (values : Env) (n first : ℕ) (v : Value) (x : Operand) → first ≤ n
    → ((a : ℕ) → x ≡ Operand.Local a → a < first)
    → operand_value h.code (with_value values n v) ptr x ≡ operand_value h.code values ptr x
elsewhere h values n first v (Operand.Local a) le low = set_elsewhere values n a v
    (λ e. other a n first (low a refl) le e)
  where
    other : (a n first : ℕ) → a < first → first ≤ n → n ≡ a → ⊥
    other a n first lt le e = omega arith
elsewhere h values n first v _ le low = refl

-- ---- the call

module _ (h : PlainGiven) (t : PlainState) (n func block start : ℕ) (x : Operand) (values : Env)
    (running : t.outcome ≡ Outcome.Running)
    (there : slice_get h.code.functions func ≡ Some (function_at h.code func))
    (result : (function_at h.code func).result ≡ None) (name : ℕ)
    (params : (function_at h.code func).params ≡ record { ty = ptr; name = name } ∷ [])
    (is_func : value_in values n ≡ Value.Ptr (Pointer.Func func))
    (leads : operand_value h.code values ptr x ≡ pointer_at block start) where
  abbrev args : List Arg
  args = pointer_arg x ∷ []

  fits : fits_function None args (slice_get h.code.functions func) ≡ true
  fits = ap (fits_function None args) there
      ∙ ap (λ (o : Option Ty). same_result None o && fits_params args (function_at h.code func).params) result
      ∙ ap (fits_params args) params

  enters : instr_action (plain_context h t) (record { world = t.world; values = values }) (call_pointer n x)
      ≡ Enter func (pointer_at block start ∷ []) None false
  enters = ap (λ (v : Value). indirect_call (plain_context h t) v None None false args
      (operand_value h.code values ptr x ∷ [])) is_func
      ∙ ap (λ (b : Bool). if b then Enter func (operand_value h.code values ptr x ∷ []) None false
      else Stuck Cause.Call) fits
      ∙ ap (λ (v : Value). Enter func (v ∷ []) None false) leads

-- ---- a resume: two steps

module _ (h : PlainGiven) (t : PlainState) (x : Operand) (n block start func : ℕ)
    (k : IsCallable h t x n 1 block start 0 func)
    (line : StandAt (plain_function h t) t.top.block t.top.at (resume_call n x)) where
  abbrev called : Value
  called = Value.Ptr (Pointer.Func func)

  abbrev one : Work
  one = set_value (plain_work t) n called

  abbrev first : PlainState
  first = plain_settled t one

  abbrev second : PlainState
  second = calling h t func block start (t.top.at + 1 + 1) one.values

  step_first : plain_step h t ≡ first
  step_first = plain_does h t (AtInstr (load_pointer n x)) (Done one) k.running line.0
      (pointer_loaded (plain_context h t) (plain_work t) n block (start + 0) 8 x (Pointer.Func func)
      (k.leads ∙ ap (pointer_at block) (none_more start)) k.stored (omega arith))
    where
      none_more : (o : ℕ) → o ≡ o + 0
      none_more o = omega arith

  room : n < length t.top.values
  room = below n (length t.top.values) k.room
    where
      below : (n l : ℕ) → n + 1 < l + 1 → n < l
      below n l lt = omega arith

  same : (n : ℕ) → n ≤ n
  same n = omega arith

  step_second : plain_step h first ≡ counted h func second
  step_second = plain_does h first (AtInstr (call_pointer n x)) (Enter func (pointer_at block start ∷ []) None false)
      k.running line.1.0
      (enters h first n func block start x one.values k.running k.takes.there k.takes.result k.takes.name
      k.takes.params (set_there t.top.values n called room)
      (elsewhere h t.top.values n n called x (same n) k.local ∙ k.leads))

  pub resume_calls : iterate (plain_step h) 2 t ≡ counted h func (calling h t func block start (t.top.at + 1 + 1)
      (with_value t.top.values n (Value.Ptr (Pointer.Func func))))
  resume_calls = ap (plain_step h) step_first ∙ step_second

  pub resume_quiet : (i : ℕ) → i < 2 → ((iterate (plain_step h) i t).outcome ≡ Outcome.Running)
      × ((iterate (plain_step h) i t).world ≡ t.world)
  resume_quiet zero lt = (k.running, refl)
  resume_quiet (suc zero) lt = subst (λ (y : PlainState). (y.outcome ≡ Outcome.Running) × (y.world ≡ t.world))
      (sym step_first) (k.running, refl)
  resume_quiet (suc (suc i)) lt = absurd (none i lt)
    where
      none : (i : ℕ) → suc (suc i) < 2 → ⊥
      none i lt = omega arith

-- ---- a destroy: three

module _ (h : PlainGiven) (t : PlainState) (x : Operand) (n block start func : ℕ)
    (k : IsCallable h t x n 2 block start 8 func) (small : start + 8 < 2 ^ 64)
    (line : StandAt (plain_function h t) t.top.block t.top.at (destroy_call n x)) where
  abbrev destroyer : Value
  destroyer = Value.Ptr (Pointer.Func func)

  abbrev at_header : Work
  at_header = set_value (plain_work t) n (pointer_at block (start + 8))

  abbrev loaded : Work
  loaded = set_value at_header (n + 1) destroyer

  abbrev behind_one : PlainState
  behind_one = plain_settled t at_header

  abbrev behind_two : PlainState
  behind_two = plain_settled behind_one loaded

  abbrev behind_call : PlainState
  behind_call = calling h t func block start (t.top.at + 1 + 1 + 1) loaded.values

  room_one : n < length t.top.values
  room_one = below n (length t.top.values) k.room
    where
      below : (n l : ℕ) → n + 2 < l + 1 → n < l
      below n l lt = omega arith

  room_two : n + 1 < length at_header.values
  room_two = subst (λ (l : ℕ). n + 1 < l) (sym (set_length t.top.values n (pointer_at block (start + 8))))
      (below n (length t.top.values) k.room)
    where
      below : (n l : ℕ) → n + 2 < l + 1 → n + 1 < l
      below n l lt = omega arith

  step_one : plain_step h t ≡ behind_one
  step_one = plain_does h t (AtInstr (address n x (pos 8))) (Done at_header) k.running line.0
      (address_done (plain_context h t) (plain_work t) n block start 8 x k.leads small)

  step_two : plain_step h behind_one ≡ behind_two
  step_two = plain_does h behind_one (AtInstr (load_pointer (n + 1) (Operand.Local n))) (Done loaded) k.running
      line.1.0
      (pointer_loaded (plain_context h t) at_header (n + 1) block (start + 8) 8 (Operand.Local n) (Pointer.Func func)
      (set_there t.top.values n (pointer_at block (start + 8)) room_one) k.stored (omega arith))

  more : (n : ℕ) → n ≤ n + 1
  more n = omega arith

  still : (n : ℕ) → n ≤ n
  still n = omega arith

  step_three : plain_step h behind_two ≡ counted h func behind_call
  step_three = plain_does h behind_two (AtInstr (call_pointer (n + 1) x))
      (Enter func (pointer_at block start ∷ []) None false) k.running line.1.1.0
      (enters h behind_two (n + 1) func block start x loaded.values k.running k.takes.there k.takes.result
      k.takes.name k.takes.params (set_there at_header.values (n + 1) destroyer room_two)
      (elsewhere h at_header.values (n + 1) n destroyer x (more n) k.local
      ∙ elsewhere h t.top.values n n (pointer_at block (start + 8)) x (still n) k.local ∙ k.leads))

  pub destroy_calls : iterate (plain_step h) 3 t ≡ counted h func (calling h t func block start (t.top.at + 1 + 1 + 1)
      (with_value (with_value t.top.values n (pointer_at block (start + 8))) (n + 1)
      (Value.Ptr (Pointer.Func func))))
  destroy_calls = ap (λ (y : PlainState). plain_step h (plain_step h y)) step_one ∙ ap (plain_step h) step_two
      ∙ step_three

  pub destroy_quiet : (i : ℕ) → i < 3 → ((iterate (plain_step h) i t).outcome ≡ Outcome.Running)
      × ((iterate (plain_step h) i t).world ≡ t.world)
  destroy_quiet zero lt = (k.running, refl)
  destroy_quiet (suc zero) lt = subst (λ (y : PlainState). (y.outcome ≡ Outcome.Running) × (y.world ≡ t.world))
      (sym step_one) (k.running, refl)
  destroy_quiet (suc (suc zero)) lt = subst (λ (y : PlainState). (y.outcome ≡ Outcome.Running)
      × (y.world ≡ t.world)) (sym (ap (plain_step h) step_one ∙ step_two)) (k.running, refl)
  destroy_quiet (suc (suc (suc i))) lt = absurd (none i lt)
    where
      none : (i : ℕ) → suc (suc (suc i)) < 3 → ⊥
      none i lt = omega arith
