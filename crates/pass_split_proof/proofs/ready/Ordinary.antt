-- Ordinary instructions are ready in the parts.
use Rattle.std.proofs.Common.{◌≡◌, ◌<◌, ◌≤◌, ◌/◌, ◌+◌, ℕ, Bool, true, false, List, [], ◌∷◌, length, refl, sym, ◌∙◌, subst, arith}
use Rattle.std.proofs.lemmas.Bool.{false≢true}
use Rattle.std.specs.List.{list_all}
use Rattle.std.specs.Prelude.{ℤ, None, Option, Some, option_map, ◌||◌, ◌==◌}
use Rattle.pass_proofs.specs.frame_layout.declared.layout.Layouts.{Layouts}
use Rattle.pass_proofs.proofs.ir_laws.facts.Truth.{and_first, equal_numbers, holds}
use Rattle.pass_proofs.specs.ir_laws.facts.counted.Widths.{has_width, is_width}
use Rattle.pass_proofs.specs.ir_model.Names.{declaration_named, function_at, function_named}
use Rattle.pass_proofs.specs.ir_model.Ty.{Ty, array, int, named, ptr, structure, token}
use Rattle.pass_proofs.specs.ir_model.declared.instr.Instr.{Instr}
use Rattle.pass_proofs.specs.ir_model.declared.module.Function.{Function}
use Rattle.pass_proofs.specs.ir_model.declared.module.Module.{Module}
use Rattle.pass_proofs.specs.ir_model.declared.operand.Arg.{Arg}
use Rattle.pass_proofs.specs.ir_model.declared.operand.Callee.{Callee}
use Rattle.pass_proofs.specs.ir_model.declared.operand.Intrinsic.{Intrinsic}
use Rattle.pass_proofs.specs.ir_model.declared.operand.Operand.{Operand}
use Rattle.pass_proofs.specs.ir_parts.Contents.{instr_types}
use Rattle.pass_proofs.specs.ir_paths.Windows.{is_call_of}
use Rattle.pass_split_proof.proofs.ready.Begins.{gives_result, other_name}
use Rattle.pass_split_proof.proofs.ready.Callees.{called_directly, callee_known, named_alike}
use Rattle.pass_split_proof.proofs.ready.Distances.{same_distance}
use Rattle.pass_split_proof.proofs.ready.Given.{begins_by, ruled_at}
use Rattle.pass_split_proof.proofs.ready.Readable.{instr_readable}
use Rattle.pass_split_proof.proofs.ready.Rules.{at_instr, function_of_instr}
use Rattle.pass_split_proof.proofs.steps.Operands.{operand_stands}
use Rattle.pass_split_proof.specs.code.Positions.{moved}
use Rattle.pass_split_proof.specs.first_exits.Parted.{parted_module}
use Rattle.pass_split_proof.specs.ready.Fields.{AreInnerIndices}
use Rattle.pass_split_proof.specs.ready.Module.{IsFollowableIn, IsRuled}
use Rattle.pass_split_proof.specs.ready.Names.{HasMovedNames}
use Rattle.pass_split_proof.specs.simulation.Premises.{IsAt, IsAtPlace, first_parts}
use Rattle.pass_split_proof.specs.simulation.Statement.{IsRulerOf, parts_given}
use Rattle.pass_split_proof.specs.states.Related.{AreRelated}
use Rattle.pass_split_proof.specs.states.Values.{AreValuesOf}
use Rattle.pass_split_proof.specs.steps.Operands.{IsReadable}
use Rattle.pass_split_proof.specs.steps.Ordinary.{IsAtOrdinary, is_ordinary}
use Rattle.pass_split_proof.specs.steps.Ready.{IsReadyInPart, moved_functions}
use Rattle.pass_proofs.specs.rule_laws.rules.counted.Widths.{is_of_other_width}
use Rattle.pass_proofs.specs.rule_names.declared.stage.Stage.{Stage}
use Rattle.pass_proofs.specs.run_framed.Framed.{FramedGiven, enter_given, framed_context, framed_given, given_call, given_ramp}
use Rattle.pass_proofs.proofs.run_laws.changed.Kept.{distance_kept}
use Rattle.pass_proofs.specs.run_laws.changed.Changed.{Each, callee_at, operands_of, values_of}
use Rattle.pass_proofs.specs.run_laws.embedded.Related.{HasBytes, HasNoSlot, IsSameDistance}
use Rattle.pass_proofs.specs.run_laws.memory.Pointers.{IsValue}
use Rattle.pass_proofs.specs.run_laws.memory.Standing.{own_homes}
use Rattle.pass_proofs.specs.run_laws.transfer.Transfer.{AreSameDistances, IsNamedAlike, IsPointedAlike}
use Rattle.pass_proofs.specs.run_memory.Memory.{access_bytes}
use Rattle.run_access_worked.specs.run_plain.Plain.{plain_context}
use Rattle.run_access_worked.specs.run_plain.declared.state.PlainState.{PlainState}
use Rattle.pass_proofs.specs.run_source.declared.state.State.{State}
use Rattle.pass_proofs.specs.run_step.Step.{AtInstr, Context, fetch}
use Rattle.pass_proofs.specs.run_step.Values.{Env, access_of, arg_value, arg_values, distance, indices_of}

-- ---- what is loaded or stored has a byte

one_byte : (w n : ℕ) → (w == n) ≡ true → 0 < (n + 7) / 8 → 0 < (w + 7) / 8
one_byte w n e h = subst (λ (k : ℕ). 0 < (k + 7) / 8) (sym (equal_numbers w n e)) h

width_by : (w n : ℕ) (b rest : Bool) → (w == n) ≡ b → 0 < (n + 7) / 8 → (rest ≡ true → 0 < (w + 7) / 8)
    → (b || rest) ≡ true → 0 < (w + 7) / 8
width_by w n true rest e here later h = one_byte w n e here
width_by w n false rest e here later h = later h

width_some : (w : ℕ) → is_width w ≡ true → 0 < (w + 7) / 8
width_some w e = width_by w 1 (w == 1) _ refl (omega arith) (width_by w 8 (w == 8) _ refl (omega arith)
    (width_by w 16 (w == 16) _ refl (omega arith) (width_by w 32 (w == 32) _ refl (omega arith)
    (λ h. one_byte w 64 h (omega arith))))) e

has_bytes : (ty : Ty) → has_width ty ≡ true → 0 < access_bytes (access_of ty)
has_bytes (int w) e = width_some w e
has_bytes ptr e = omega arith
has_bytes token e = omega arith
has_bytes (array n t) e = omega arith
has_bytes (structure ts) e = omega arith
has_bytes (named n) e = omega arith

first_wide : (ty : Ty) (ts : List Ty) → list_all has_width (ty ∷ ts) ≡ true → has_width ty ≡ true
first_wide ty ts e = and_first (has_width ty) (list_all has_width ts) e

bytes_by : (i : Instr) → list_all has_width (instr_types i) ≡ true → HasBytes (AtInstr i)
bytes_by (Instr.Load name ty p align) e = has_bytes ty (first_wide ty [] e)
bytes_by (Instr.Store arg p align) e = has_bytes arg.ty (first_wide arg.ty [] e)
bytes_by (Instr.Binary name op flags ty a b) e = tt
bytes_by (Instr.Icmp name pred ty a b) e = tt
bytes_by (Instr.Select name x a b) e = tt
bytes_by (Instr.Cast name op nneg arg to) e = tt
bytes_by (Instr.Alloca name ty align) e = tt
bytes_by (Instr.Gep name inbounds ty base indices) e = tt
bytes_by (Instr.Call result must_tail ty callee args) e = tt

-- ---- no ordinary instruction begins

intrinsic_begins_not : (x : Intrinsic) (r : Option ℕ) (must_tail : Bool) (ty : Option Ty) (args : List Arg)
    → is_ordinary (Instr.Call r must_tail ty (Callee.Intrinsic x) args) ≡ true
    → is_call_of Intrinsic.CoroBegin (Instr.Call r must_tail ty (Callee.Intrinsic x) args) ≡ false
intrinsic_begins_not Intrinsic.LifetimeStart r must_tail ty args e = refl
intrinsic_begins_not Intrinsic.LifetimeEnd r must_tail ty args e = refl
intrinsic_begins_not Intrinsic.MemcpyI64 r must_tail ty args e = refl
intrinsic_begins_not Intrinsic.MemcpyI32 r must_tail ty args e = refl
intrinsic_begins_not _ r must_tail ty args e = absurd (false≢true e)

begins_not : (i : Instr) → is_ordinary i ≡ true → is_call_of Intrinsic.CoroBegin i ≡ false
begins_not (Instr.Call r must_tail ty (Callee.Intrinsic x) args) e = intrinsic_begins_not x r must_tail ty args e
begins_not (Instr.Call r must_tail ty (Callee.Named n) args) e = refl
begins_not (Instr.Call r must_tail ty (Callee.Allocator a) args) e = refl
begins_not (Instr.Call r must_tail ty (Callee.Local v) args) e = refl
begins_not (Instr.Binary name op flags ty a b) e = refl
begins_not (Instr.Icmp name pred ty a b) e = refl
begins_not (Instr.Select name x a b) e = refl
begins_not (Instr.Cast name op nneg arg to) e = refl
begins_not (Instr.Alloca name ty align) e = refl
begins_not (Instr.Load name ty p align) e = refl
begins_not (Instr.Store arg p align) e = refl
begins_not (Instr.Gep name inbounds ty base indices) e = refl

-- ---- an instruction of a function

-- a call by a name gives no frame
abbrev IsUngiven : Module → Instr → Type 0
IsUngiven m (Instr.Call r must_tail ty (Callee.Named n) args) = given_ramp m n ≡ None
IsUngiven m _ = Unit {0}

ungiven_here : (g : FramedGiven) (s : State) (i : Instr) → given_call g s (AtInstr i) ≡ None → IsUngiven g.given.code i
ungiven_here g s (Instr.Call r must_tail ty (Callee.Named n) args) e = by (given_ramp g.given.code n) e
  where
    by : (o : Option ℕ) → enter_given g s r (arg_values g.given.code s.top.values args) o ≡ None → o ≡ None
    by None e = refl
    by (Some func) e = absurd (cc)
ungiven_here g s _ e = tt

module _ {r : Module} (ls : Layouts) (m : Module) (ruler : IsRulerOf r m) (names : HasMovedNames ls m)
    (functions : ℕ → ℕ) (moves : (k : ℕ) → functions k ≡ moved ls.coroutines m m.functions k) (k : ℕ) (f : Function)
    (ruled : IsRuled r k f) (block at : ℕ) where
  abbrev n : Module
  n = parted_module ls m

  widths : (i : Instr) → fetch f block at ≡ AtInstr i → list_all has_width (instr_types i) ≡ true
  widths i here = holds (list_all has_width (instr_types i))
      (at_instr k f is_of_other_width ruled.widths block at i here)

  module _ (c d : Context) (code : c.code ≡ m) (other_code : d.code ≡ parted_module ls m) (env other : Env) where
    callee_alike : (i : Instr) → IsUngiven m i → fetch f block at ≡ AtInstr i
        → IsNamedAlike (moved_functions functions) c d (callee_at (AtInstr i))
    callee_alike (Instr.Call result must_tail ty (Callee.Named x) args) ungiven here =
        subst (λ (p : Module × Module). (function_named p.1 x ≡ option_map functions (function_named p.0 x))
        × (declaration_named p.1 x ≡ option_map (λ j. j) (declaration_named p.0 x)))
        (λ i. (sym code i, sym other_code i))
        (named_alike ls m names functions moves x (ruler.known x ungiven
        (callee_known r k f ruled.rules block at result must_tail ty args x here)))
    callee_alike (Instr.Call r must_tail ty (Callee.Allocator a) args) ungiven here = tt
    callee_alike (Instr.Call r must_tail ty (Callee.Intrinsic x) args) ungiven here = tt
    callee_alike (Instr.Call r must_tail ty (Callee.Local v) args) ungiven here = tt
    callee_alike (Instr.Binary name op flags ty a b) ungiven here = tt
    callee_alike (Instr.Icmp name pred ty a b) ungiven here = tt
    callee_alike (Instr.Select name x a b) ungiven here = tt
    callee_alike (Instr.Cast name op nneg arg to) ungiven here = tt
    callee_alike (Instr.Alloca name ty align) ungiven here = tt
    callee_alike (Instr.Load name ty p align) ungiven here = tt
    callee_alike (Instr.Store arg p align) ungiven here = tt
    callee_alike (Instr.Gep name inbounds ty base indices) ungiven here = tt

    pointed_alike : (i : Instr) → fetch f block at ≡ AtInstr i
        → IsPointedAlike (moved_functions functions) c d env (AtInstr i)
    pointed_alike (Instr.Call result must_tail ty (Callee.Local v) args) here =
        absurd (called_directly r k f ruled.rules block at result must_tail ty args v here)
    pointed_alike (Instr.Call r must_tail ty (Callee.Named x) args) here = tt
    pointed_alike (Instr.Call r must_tail ty (Callee.Allocator a) args) here = tt
    pointed_alike (Instr.Call r must_tail ty (Callee.Intrinsic x) args) here = tt
    pointed_alike (Instr.Binary name op flags ty a b) here = tt
    pointed_alike (Instr.Icmp name pred ty a b) here = tt
    pointed_alike (Instr.Select name x a b) here = tt
    pointed_alike (Instr.Cast name op nneg arg to) here = tt
    pointed_alike (Instr.Alloca name ty align) here = tt
    pointed_alike (Instr.Load name ty p align) here = tt
    pointed_alike (Instr.Store arg p align) here = tt
    pointed_alike (Instr.Gep name inbounds ty base indices) here = tt

    -- values of operands stand for themselves
    module _ (size : ℕ) (globals : length m.globals ≤ size) (values : AreValuesOf f (own_homes 0 size) env other)
        (fields : (name : ℕ) (inbounds : Bool) (ty : Ty) (base : Operand) (indices : List Arg)
        → fetch f block at ≡ AtInstr (Instr.Gep name inbounds ty base indices) → AreInnerIndices m ty indices) where
      args_stand : (args : List Arg) → Each (IsReadable m (parted_module ls m) f) (values_of args)
          → Each (λ (a : Arg). IsValue (own_homes 0 size) (arg_value m env a)
          (arg_value (parted_module ls m) other a)) args
      args_stand [] h = tt
      args_stand (a ∷ args) h = (
        operand_stands m (parted_module ls m) f size env other globals values a.value h.0 a.ty,
        args_stand args h.1,
      )

      distances_same : (i : Instr) → fetch f block at ≡ AtInstr i
          → AreSameDistances c d env other (AtInstr i) (AtInstr i)
      distances_same (Instr.Gep name inbounds ty base indices) here =
          let read = instr_readable ls m ruler.globals names k f ruled block at (Instr.Gep name inbounds ty base
          indices) here in
          subst (λ (p : Module × Module). IsSameDistance (distance p.0 ty (indices_of p.0 env indices))
          (distance p.1 ty (indices_of p.1 other indices))) (λ i. (sym code i, sym other_code i))
          (same_distance (own_homes 0 size) m (parted_module ls m) env other ty indices
          (fields name inbounds ty base indices here) (args_stand indices read.1)
          (distance_kept m (parted_module ls m) refl ty))
      distances_same (Instr.Call r must_tail ty callee args) here = tt
      distances_same (Instr.Binary name op flags ty a b) here = tt
      distances_same (Instr.Icmp name pred ty a b) here = tt
      distances_same (Instr.Select name x a b) here = tt
      distances_same (Instr.Cast name op nneg arg to) here = tt
      distances_same (Instr.Alloca name ty align) here = tt
      distances_same (Instr.Load name ty p align) here = tt
      distances_same (Instr.Store arg p align) here = tt

      pub instr_ready : (i : Instr) → IsUngiven m i → fetch f block at ≡ AtInstr i → HasNoSlot (AtInstr i)
          → IsReadyInPart functions f c d env other i
      instr_ready i ungiven here no_slot = record {
        operands = subst (λ (p : Module × Module). Each (IsReadable p.0 p.1 f) (operands_of i))
            (λ i. (sym code i, sym other_code i)) (instr_readable ls m ruler.globals names k f ruled block at i here);
        callee = callee_alike i ungiven here;
        pointed = pointed_alike i here;
        distance = distances_same i here;
        no_slot = no_slot;
        bytes = bytes_by i (widths i here);
      }

-- ---- at related states

pub ordinary_ready : {stage : Stage} {ruler : Module} (ls : Layouts) (m : Module)
    → IsFollowableIn stage ruler ls m → (answers : List ℤ) (s : State) (t : PlainState)
    (r : AreRelated (framed_given m ls.coroutines answers) (parts_given ls m answers) s t) (i : Instr)
    → IsAt (framed_given m ls.coroutines answers) s (AtInstr i)
    → IsAtPlace (framed_given m ls.coroutines answers) (parts_given ls m answers) s t r
    → given_call (framed_given m ls.coroutines answers) s (AtInstr i) ≡ None → is_ordinary i ≡ true
    → HasNoSlot (AtInstr i)
    → IsAtOrdinary (first_parts (framed_given m ls.coroutines answers)) (framed_given m ls.coroutines answers)
    (parts_given ls m answers) s t r i
ordinary_ready {ruler = ruler} ls m w answers s t r i here p ungiven ordinary no_slot =
    let there = function_of_instr m s.top.func s.top.block s.top.at i here in
    let ruled = ruled_at ls m w s.top.func (function_at m s.top.func) there in
    let by = begins_by ls m w answers s.top.func (function_at m s.top.func) r.top.shape refl there r.top.shaped in
    record {
      running = r.outcome ∙ p.running;
      answers = refl;
      settled = p.settled;
      place = p.place;
      there = here;
      ordinary = ordinary;
      ready = instr_ready ls m w.ruler w.names (first_parts (framed_given m ls.coroutines answers))
          (none_more ls m) s.top.func
          (function_at m s.top.func) ruled s.top.block s.top.at
          (framed_context (framed_given m ls.coroutines answers) s) (plain_context (parts_given ls m answers) t) refl
          refl
          s.top.values t.top.values (length s.world.memory) r.globals r.top.values
          (w.fields s.top.func (function_at m s.top.func) there s.top.block s.top.at) i
          (ungiven_here (framed_given m ls.coroutines answers) s i ungiven) here no_slot;
      others = λ e. other_name ruler s.top.func (function_at m s.top.func) ruled.rules r.top.shape.begin by s.top.block
          s.top.at i here (begins_not i ordinary) (gives_result i r.top.shape.begin e);
    }
  where
    none_more : (ls : Layouts) (m : Module) (k : ℕ) → moved ls.coroutines m m.functions k + 0 ≡ moved ls.coroutines m
        m.functions k
    none_more ls m k = omega arith
