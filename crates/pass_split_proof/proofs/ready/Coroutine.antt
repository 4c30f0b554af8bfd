-- Begins, saves and suspends are ready in the parts.
use Rattle.std.proofs.Common.{◌≡◌, ◌<◌, ◌≤◌, ℕ, ◌+◌, Bool, true, false, List, [], ◌∷◌, length, map, refl, sym, ap, ◌∙◌, subst, arith}
use Rattle.std.proofs.lemmas.Bool.{false≢true}
use Rattle.std.proofs.lemmas.Option.{slice_get-map}
use Rattle.std.specs.Prelude.{ℤ, None, Option, Some, is_some, option_and_then, option_map, slice_get, unwrap_or, ◌&&◌}
use Rattle.pass_proofs.specs.frame_layout.declared.layout.Layouts.{Layouts}
use Rattle.pass_proofs.specs.ir_base.declared.name.Name.{Name}
use Rattle.pass_proofs.proofs.ir_laws.facts.Truth.{and_first, and_second}
use Rattle.pass_proofs.proofs.ir_laws.paths.alike_functions.Lists.{each_where}
use Rattle.pass_proofs.proofs.ir_laws.paths.edges.Lists.{listed_at}
use Rattle.pass_proofs.proofs.ir_laws.paths.renamed.Uses.{stands_in}
use Rattle.pass_proofs.proofs.ir_laws.paths.replaced.Known.{of_listed}
use Rattle.pass_proofs.specs.ir_model.Calls.{first_result}
use Rattle.pass_proofs.specs.ir_model.Names.{declaration_named, function_at, function_named, global_named}
use Rattle.pass_proofs.specs.ir_model.Ty.{Ty, ptr}
use Rattle.pass_proofs.specs.ir_model.declared.instr.Instr.{Instr}
use Rattle.pass_proofs.specs.ir_model.declared.module.Block.{Block}
use Rattle.pass_proofs.specs.ir_model.declared.module.Function.{Function}
use Rattle.pass_proofs.specs.ir_model.declared.module.Module.{Module}
use Rattle.pass_proofs.specs.ir_model.declared.operand.Arg.{Arg}
use Rattle.pass_proofs.specs.ir_model.declared.operand.Callee.{Callee}
use Rattle.pass_proofs.specs.ir_model.declared.operand.Intrinsic.{Intrinsic}
use Rattle.pass_proofs.specs.ir_model.declared.operand.Operand.{Operand}
use Rattle.pass_proofs.specs.ir_paths.Slots.{allocas_of}
use Rattle.pass_proofs.specs.ir_paths.Windows.{call_result, instr_at, is_suspend_of, operand_at, points_where, suspend_of}
use Rattle.pass_proofs.specs.ir_paths.declared.point.Facts.{Facts}
use Rattle.pass_proofs.specs.ir_paths.declared.point.Point.{Point}
use Rattle.pass_proofs.specs.pass_intrinsics.Shapes.{save_of, shape_of, token_of}
use Rattle.pass_proofs.specs.pass_intrinsics.declared.shape.Part.{Part}
use Rattle.pass_proofs.specs.pass_intrinsics.declared.shape.Shape.{Shape}
use Rattle.pass_proofs.specs.pass_intrinsics.declared.shape.SuspendPoint.{SuspendPoint}
use Rattle.pass_proofs.specs.split.rules.Reached.{IsLedTo}
use Rattle.pass_proofs.specs.pass_split.Given.{has_given_call}
use Rattle.pass_split_proof.proofs.code.Numbers.{is_call, point_of, there_by}
use Rattle.pass_split_proof.proofs.ready.At.{read, ruled, there}
use Rattle.pass_split_proof.proofs.ready.Begins.{begin_makes}
use Rattle.pass_split_proof.proofs.ready.Intrinsics.{coroutine_shape, in_coroutine, pointer_is}
use Rattle.pass_split_proof.proofs.ready.Led.{IsAtLed, led_on}
use Rattle.pass_split_proof.proofs.ready.Parts.{part_of, part_stands, shape_low, shape_named}
use Rattle.pass_split_proof.proofs.ready.Sizes.{frame_size}
use Rattle.pass_split_proof.specs.begins.Beginning.{IsAtBegin}
use Rattle.pass_split_proof.specs.begins.Saving.{IsAtSave}
use Rattle.pass_split_proof.specs.code.Positions.{is_given, moved, number_of}
use Rattle.pass_split_proof.specs.first_exits.Parted.{parted_module}
use Rattle.pass_split_proof.specs.ready.Module.{IsFollowableIn}
use Rattle.pass_split_proof.specs.silent.Suspending.{IsAtSuspendInPart}
use Rattle.pass_split_proof.specs.simulation.Premises.{IsAt, IsAtPlace}
use Rattle.pass_split_proof.specs.simulation.Statement.{parts_given}
use Rattle.pass_split_proof.specs.states.Instances.{IsLaidOut, is_held}
use Rattle.pass_split_proof.specs.states.Related.{AreRelated}
use Rattle.pass_split_proof.specs.steps.Operands.{IsReadable}
use Rattle.pass_proofs.proofs.rule_laws.rules.source_rules.Locals.{own_label, result_below}
use Rattle.pass_proofs.proofs.rule_laws.rules.sources.Places.{instr_there, point}
use Rattle.pass_proofs.proofs.rule_laws.rules.uses.Switched.{switched}
use Rattle.pass_proofs.specs.rule_laws.frames.replaced.Parted.{IsSmall}
use Rattle.pass_proofs.specs.rule_types.Signatures.{are_wanted, is_result}
use Rattle.pass_proofs.specs.rule_types.Wants.{any, intrinsic_params, intrinsic_result, is_ptr, is_token}
use Rattle.pass_proofs.specs.rule_types.declared.wants.Basic.{Basic}
use Rattle.pass_proofs.specs.run_framed.Framed.{framed_facts, framed_given, layout_of}
use Rattle.pass_proofs.specs.run_laws.changed.Changed.{Each, result_of, values_of}
use Rattle.pass_proofs.specs.run_memory.declared.pointer.Pointer.{Pointer}
use Rattle.pass_proofs.specs.run_memory.declared.pointer.Value.{Value}
use Rattle.run_access_worked.specs.run_plain.declared.state.PlainState.{PlainState}
use Rattle.pass_proofs.specs.run_source.declared.state.Instance.{Instance}
use Rattle.pass_proofs.specs.run_source.declared.state.Mode.{Mode}
use Rattle.pass_proofs.specs.run_source.declared.state.State.{State}
use Rattle.pass_proofs.specs.run_source_tables.Given.{facts_at}
use Rattle.pass_proofs.specs.run_step.Step.{AtInstr, label_of}
use Rattle.pass_proofs.specs.run_step.Values.{address_from, address_of}
use Rattle.pass_split_proof.proofs.ready.Callees.{call_fits}
use Rattle.pass_proofs.specs.rule_names.declared.stage.Stage.{Stage}
use Rattle.pass_proofs.specs.pass_intrinsics.Shapes.{given_name}
use Rattle.pass_proofs.specs.run_laws.memory.Pointers.{IsValue}
use Rattle.pass_split_proof.specs.given_begins.Beginning.{IsAtGivenBegin}
use Rattle.pass_split_proof.specs.states.Memories.{homes_of}
use Rattle.pass_proofs.specs.run_step.Values.{value_in}

-- ---- layouts, whatever answers a run is given

pub laid_out : (ls : Layouts) (m : Module) (k : ℕ) (answers : List ℤ) → IsLaidOut (framed_given m ls.coroutines []) k
    → IsLaidOut (framed_given m ls.coroutines answers) k
laid_out ls m k answers x = record {
  alignment = x.alignment;
  within = x.within;
  behind = x.behind;
  index = x.index;
  index_aligned = x.index_aligned;
  fields = x.fields;
}

-- ---- addresses of parts

named_address : (n : Module) (x : Name) (q : ℕ) → function_named n x ≡ Some q
    → address_of n x ≡ Value.Ptr (Pointer.Func q)
named_address n x q e = ap (λ (o : Option ℕ). address_from n o (global_named n x) (declaration_named n x)) e

-- ---- two arguments of a begin (Y2)

record HasMemory (args : List Arg) : Type 0 where
  id : Arg
  memory : Arg
  rest : List Arg
  are : args ≡ id ∷ memory ∷ rest
  typed : memory.ty ≡ ptr

memory_second : (args : List Arg) → are_wanted (any Basic.Token ∷ any Basic.Ptr ∷ []) args ≡ true → HasMemory args
memory_second [] e = absurd (false≢true e)
memory_second (a ∷ []) e = absurd (false≢true (sym (false_behind (is_token a.ty && true)) ∙ e))
  where
    false_behind : (b : Bool) → (b && false) ≡ false
    false_behind true = refl
    false_behind false = refl
memory_second (a ∷ b ∷ args) e = record {
  id = a;
  memory = b;
  rest = args;
  are = refl;
  typed = pointer_is b.ty (and_first (is_ptr b.ty) true (and_first (is_ptr b.ty && true) (are_wanted [] args)
      (and_second (is_token a.ty && true) ((is_ptr b.ty && true) && are_wanted [] args) e)));
}

-- ---- the token of a suspend

record HasToken (args : List Arg) : Type 0 where
  token : ℕ
  is : operand_at args 0 ≡ Operand.Local token

local_token : (x : Operand) → is_some (token_of x) ≡ true → (n : ℕ) × (x ≡ Operand.Local n)
local_token (Operand.Local n) e = (n, refl)
local_token _ e = absurd (false≢true e)

token_there : (args : List Arg) → is_some (save_of args) ≡ true → HasToken args
token_there [] e = absurd (false≢true e)
token_there (a ∷ args) e = let x = local_token a.value e in record { token = x.0; is = x.1 }

name_there : (o : Option ℕ) → is_some o ≡ true → (n : ℕ) × (o ≡ Some n)
name_there None e = absurd (false≢true e)
name_there (Some n) e = (n, refl)

-- the suspend of a save stands in a block
pub suspend_block : (f : Function) (p q : Point) → suspend_of f p ≡ Some q
    → (b : Block) × (slice_get f.blocks q.block ≡ Some b)
suspend_block f p q e =
    let test : Instr → Bool = is_suspend_of (option_and_then call_result (instr_at f p)) in
    of_listed (λ (x : Point). (b : Block) × (slice_get f.blocks x.block ≡ Some b)) (points_where test f) q
    (each_where (λ (x : Point). (b : Block) × (slice_get f.blocks x.block ≡ Some b)) test f
    (λ x i there passes. let y = stands_in f x i there in (y.block, y.got)))
    (listed_at (points_where test f) 0 q e)

-- ---- at related states

module _ {stage : Stage} {ruler : Module} (ls : Layouts) (m : Module) (w : IsFollowableIn stage ruler ls m)
    (answers : List ℤ) (s : State) (t : PlainState)
    (r : AreRelated (framed_given m ls.coroutines answers) (parts_given ls m answers) s t) where
  abbrev f : Function
  f = function_at m s.top.func

  -- what a coroutine's shape has
  module _ (own : slice_get m.functions s.top.func ≡ Some (function_at m s.top.func))
      (coroutine : (function_at m s.top.func).coroutine ≡ true) where
    same : r.top.shape ≡ shape_of (function_at m s.top.func) (layout_of ls.coroutines s.top.func)
    same = coroutine_shape ls m answers s.top.func r.top.shape r.top.shaped coroutine

    named : first_result Intrinsic.CoroBegin (function_at m s.top.func) ≡ Some r.top.shape.begin
    named = shape_named ls m w answers s.top.func own coroutine ∙ ap (λ (y : Shape). Some y.begin) (sym same)

    low : r.top.shape.begin < length (function_at m s.top.func).names
    low = subst (λ (y : Shape). y.begin < length (function_at m s.top.func).names) (sym same)
        (shape_low ls m w answers s.top.func own coroutine)

    small : IsSmall r.top.shape
    small = subst IsSmall (sym same) (w.coroutines s.top.func (function_at m s.top.func) own coroutine).small

    laid : IsLaidOut (framed_given m ls.coroutines answers) s.top.func
    laid = laid_out ls m s.top.func answers
        (w.partable.coroutines s.top.func (function_at m s.top.func) own coroutine).laid

    part_named : (part : Part) → (is_given part ≡ true → has_given_call m (function_at m s.top.func) ≡ true)
        → address_of (parted_module ls m) (part_of (shape_of (function_at m s.top.func)
        (layout_of ls.coroutines s.top.func)) (function_at m s.top.func) part).name
        ≡ Value.Ptr (Pointer.Func (moved ls.coroutines m m.functions s.top.func + number_of part))
    part_named part stands =
        let q = part_of (shape_of (function_at m s.top.func) (layout_of ls.coroutines s.top.func))
        (function_at m s.top.func) part in
        named_address (parted_module ls m) q.name (moved ls.coroutines m m.functions s.top.func + number_of part)
        (w.names.parts (moved ls.coroutines m m.functions s.top.func + number_of part) q
        (part_stands ls m s.top.func (function_at m s.top.func) own coroutine
        (w.partable.coroutines s.top.func (function_at m s.top.func) own coroutine).layout part stands))

    not_given : false ≡ true → has_given_call m (function_at m s.top.func) ≡ true
    not_given e = absurd (false≢true e)

    resumes : address_of (parted_module ls m) r.top.shape.resume_name
        ≡ Value.Ptr (Pointer.Func (moved ls.coroutines m m.functions s.top.func + number_of Part.Resume))
    resumes = ap (λ (y : Shape). address_of (parted_module ls m) y.resume_name) same ∙ part_named Part.Resume not_given

    destroys : address_of (parted_module ls m) r.top.shape.destroy_name
        ≡ Value.Ptr (Pointer.Func (moved ls.coroutines m m.functions s.top.func + number_of Part.Destroy))
    destroys = ap (λ (y : Shape). address_of (parted_module ls m) y.destroy_name) same
        ∙ part_named Part.Destroy not_given

  facts_there : (k : ℕ) → slice_get m.functions k ≡ Some (function_at m k)
      → (facts_at (map framed_facts m.functions) k).ramp_slots ≡ allocas_of (function_at m k)
  facts_there k own = ap (λ (o : Option Facts). (unwrap_or o (record { windows = []; ramp_slots = [] })).ramp_slots)
      (slice_get-map framed_facts m.functions k ∙ ap (option_map framed_facts) own)

  pub begin_ready : (result : Option ℕ) (must_tail : Bool) (ty : Option Ty) (args : List Arg)
      → IsAt (framed_given m ls.coroutines answers) s
      (AtInstr (Instr.Call result must_tail ty (Callee.Intrinsic Intrinsic.CoroBegin) args))
      → IsAtPlace (framed_given m ls.coroutines answers) (parts_given ls m answers) s t r → s.top.mode ≡ Mode.Ramp
      → IsAtBegin (framed_given m ls.coroutines answers) (parts_given ls m answers) s t r
  begin_ready result must_tail ty args here p ramp =
      let i : Instr = Instr.Call result must_tail ty (Callee.Intrinsic Intrinsic.CoroBegin) args in
      let own = there ls m w answers s t r i here in
      let rules = (ruled ls m w answers s t r i here) in
      let c = in_coroutine ruler s.top.func (function_at m s.top.func) rules.rules s.top.block s.top.at result
      must_tail ty
      Intrinsic.CoroBegin args here refl in
      let makes : result ≡ Some r.top.shape.begin = begin_makes ruler s.top.func (function_at m s.top.func) rules.rules
      r.top.shape.begin (named own c) c (rules.calls c) s.top.block s.top.at i here refl in
      let fits = call_fits ruler s.top.func (function_at m s.top.func) rules.rules s.top.block s.top.at result
      must_tail
      ty args (Callee.Intrinsic Intrinsic.CoroBegin) here in
      let y = memory_second args (and_second (is_result (intrinsic_result Intrinsic.CoroBegin) ty)
      (are_wanted (intrinsic_params Intrinsic.CoroBegin) args) fits) in
      let readable = subst (λ (xs : List Arg). Each (IsReadable m (parted_module ls m) (function_at m s.top.func))
      (values_of xs)) y.are (read ls m w answers s t r i here) in
      let l = laid own c in
      record {
        coroutine = c;
        mode = ramp;
        place = p.place;
        must_tail = must_tail;
        ty = ty;
        id = y.id;
        memory = y.memory;
        rest = y.rest;
        there = here ∙ (λ j. AtInstr (Instr.Call (makes j) must_tail ty (Callee.Intrinsic Intrinsic.CoroBegin)
            (y.are j)));
        typed = y.typed;
        readable = readable.1.0;
        begin = low own c;
        slots = facts_there s.top.func own;
        laid = l;
        sized = sym (frame_size ls.coroutines s.top.func);
        roomy = subst (λ (n : ℕ). 16 ≤ n) (sym (frame_size ls.coroutines s.top.func))
            (room (layout_of ls.coroutines s.top.func).index _ (layout_of ls.coroutines s.top.func).size l.behind
            l.index);
        resumes = resumes own c;
        destroys = destroys own c;
      }
    where
      room : (at bytes size : ℕ) → 16 ≤ at → at + bytes ≤ size → 16 ≤ size
      room at bytes size low high = omega arith

  pub given_begin_ready : (result : Option ℕ) (must_tail : Bool) (ty : Option Ty) (args : List Arg) (frame : Value)
      → IsAt (framed_given m ls.coroutines answers) s
      (AtInstr (Instr.Call result must_tail ty (Callee.Intrinsic Intrinsic.CoroBegin) args))
      → IsAtPlace (framed_given m ls.coroutines answers) (parts_given ls m answers) s t r
      → s.top.mode ≡ Mode.GivenRamp frame
      → IsValue (homes_of s.world.memory) frame (value_in t.top.values (given_name r.top.shape))
      → has_given_call m (function_at m s.top.func) ≡ true
      → IsAtGivenBegin (framed_given m ls.coroutines answers) (parts_given ls m answers) s t r
  given_begin_ready result must_tail ty args frame here p mode given stands =
      let i : Instr = Instr.Call result must_tail ty (Callee.Intrinsic Intrinsic.CoroBegin) args in
      let own = there ls m w answers s t r i here in
      let rules = (ruled ls m w answers s t r i here) in
      let c = in_coroutine ruler s.top.func (function_at m s.top.func) rules.rules s.top.block s.top.at result
      must_tail ty Intrinsic.CoroBegin args here refl in
      let makes : result ≡ Some r.top.shape.begin = begin_makes ruler s.top.func (function_at m s.top.func) rules.rules
      r.top.shape.begin (named own c) c (rules.calls c) s.top.block s.top.at i here refl in
      record {
        coroutine = c;
        frame = frame;
        mode = mode;
        given = given;
        place = p.place;
        must_tail = must_tail;
        ty = ty;
        args = args;
        there = here ∙ ap (λ (o : Option ℕ). AtInstr (Instr.Call o must_tail ty
            (Callee.Intrinsic Intrinsic.CoroBegin) args)) makes;
        begin = low own c;
        slots = facts_there s.top.func own;
        laid = laid own c;
        stands = stands;
        resumes = resumes own c;
        destroys = ap (λ (y : Shape). address_of (parted_module ls m) y.cleanup_name) (same own c)
            ∙ part_named own c Part.Cleanup (λ e. stands);
      }

  pub save_ready : (result : Option ℕ) (must_tail : Bool) (ty : Option Ty) (args : List Arg)
      → IsAt (framed_given m ls.coroutines answers) s
      (AtInstr (Instr.Call result must_tail ty (Callee.Intrinsic Intrinsic.CoroSave) args))
      → IsAtPlace (framed_given m ls.coroutines answers) (parts_given ls m answers) s t r
      → ((i : ℕ) (x : Instance) → s.top.instance ≡ Some i → slice_get s.instances i ≡ Some x → x.freed ≡ false
      → is_held s.world.memory x ≡ true)
      → IsAtSave (framed_given m ls.coroutines answers) (parts_given ls m answers) s t r
  save_ready result must_tail ty args here p held =
      let i : Instr = Instr.Call result must_tail ty (Callee.Intrinsic Intrinsic.CoroSave) args in
      let own = there ls m w answers s t r i here in
      let rules = (ruled ls m w answers s t r i here) in
      let c = in_coroutine ruler s.top.func (function_at m s.top.func) rules.rules s.top.block s.top.at result
      must_tail ty
      Intrinsic.CoroSave args here refl in
      let x = w.coroutines s.top.func (function_at m s.top.func) own c in
      let n = name_there result (x.named s.top.block s.top.at i here refl) in
      record {
        coroutine = c;
        settled = p.settled;
        place = p.place;
        result = n.0;
        must_tail = must_tail;
        ty = ty;
        args = args;
        there = here ∙ ap (λ (o : Option ℕ). AtInstr (Instr.Call o must_tail ty (Callee.Intrinsic Intrinsic.CoroSave)
            args)) n.1;
        begin = low own c;
        small = small own c;
        laid = laid own c;
        led = λ q number found numbered.
            let from : IsAtLed (function_at m s.top.func) (point s.top.block s.top.at) = record {
              led = λ b got. let both : Some p.place.source ≡ Some b = sym p.place.there ∙ got in
                  let one : p.place.source ≡ b = cc in
                  subst (λ (d : Block). IsLedTo (function_at m s.top.func) d.label) one p.place.led;
            } in
            led_to q numbered.suspend numbered.block
            (led_on (function_at m s.top.func) (own_label s.top.func (function_at m s.top.func)
            rules.rules.definitions)
            (point s.top.block s.top.at) q from (x.leads (point s.top.block s.top.at) q
            (record { instr = i; stands = here; is = refl }) found))
            (suspend_block (function_at m s.top.func) (point s.top.block s.top.at) q found);
        held = held;
        named = resumes own c;
      }
    where
      led_to : (q : Point) (y : SuspendPoint) → y.block ≡ label_of
          (slice_get (function_at m s.top.func).blocks q.block)
          → IsAtLed (function_at m s.top.func) q
          → (b : Block) × (slice_get (function_at m s.top.func).blocks q.block ≡ Some b)
          → IsLedTo (function_at m s.top.func) y.block
      led_to q y block at b = subst (IsLedTo (function_at m s.top.func)) (sym (block ∙ ap label_of b.1))
          (at.led b.0 b.1)

  pub suspend_ready : (result : Option ℕ) (must_tail : Bool) (ty : Option Ty) (args : List Arg)
      → IsAt (framed_given m ls.coroutines answers) s
      (AtInstr (Instr.Call result must_tail ty (Callee.Intrinsic Intrinsic.CoroSuspend) args))
      → IsAtPlace (framed_given m ls.coroutines answers) (parts_given ls m answers) s t r
      → IsAtSuspendInPart (framed_given m ls.coroutines answers) (parts_given ls m answers) s t r
  suspend_ready result must_tail ty args here p =
      let i : Instr = Instr.Call result must_tail ty (Callee.Intrinsic Intrinsic.CoroSuspend) args in
      let own = there ls m w answers s t r i here in
      let rules = (ruled ls m w answers s t r i here) in
      let c = in_coroutine ruler s.top.func (function_at m s.top.func) rules.rules s.top.block s.top.at result
      must_tail ty
      Intrinsic.CoroSuspend args here refl in
      let in_text = instr_there (function_at m s.top.func) s.top.block s.top.at i here in
      let y = stands_in (function_at m s.top.func) (point s.top.block s.top.at) i in_text in
      let z = switched s.top.func (function_at m s.top.func) c (rules.switches c) s.top.block s.top.at y.block i y.got
      y.stands refl in
      let makes : result ≡ Some z.value = z.result in
      let call = is_call i refl in
      let listed = there_by y.block i call [] (function_at m s.top.func).blocks
      (listed_at (function_at m s.top.func).blocks s.top.block y.block y.got)
      (listed_at y.block.instrs s.top.at i y.stands) in
      let token = token_there call.args ((w.partable.coroutines s.top.func (function_at m s.top.func) own c).saved
      (point_of y.block call.args) listed) in
      let there_now = here ∙ ap AtInstr call.is in
      let made : call.result ≡ Some z.value = sym (ap result_of call.is) ∙ makes in
      record {
        at = record {
          coroutine = c;
          result = z.value;
          must_tail = call.must_tail;
          ty = call.ty;
          args = call.args;
          there = there_now ∙ ap (λ (o : Option ℕ). AtInstr (Instr.Call o call.must_tail call.ty
              (Callee.Intrinsic Intrinsic.CoroSuspend) call.args)) made;
          token = token.token;
          saved = token.is;
          known = result_below s.top.func (function_at m s.top.func) rules.rules.tabled (point s.top.block s.top.at) i
              z.value in_text makes;
        };
        settled = p.settled;
        place = p.place;
      }
