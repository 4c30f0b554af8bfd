-- Calls by names, and calls of allocators and deallocators, are ready in the parts.
use Rattle.std.proofs.Common.{◌≡◌, ◌<◌, ◌^◌, ℕ, ◌+◌, Bool, true, List, Option, Some, None, refl, sym, ap, ◌∙◌, arith}
use Rattle.std.specs.Prelude.{ℤ, slice_get}
use Rattle.pass_proofs.specs.frame_layout.declared.layout.Layouts.{Layouts}
use Rattle.pass_proofs.specs.ir_base.declared.name.Name.{Name}
use Rattle.pass_proofs.specs.ir_base.declared.outcome.Word.{Word}
use Rattle.pass_proofs.proofs.ir_laws.facts.same_names.Lists.{what_is_found}
use Rattle.pass_proofs.specs.ir_model.Names.{function_at, function_named, same_name}
use Rattle.pass_proofs.specs.ir_model.Ty.{Ty}
use Rattle.pass_proofs.specs.ir_model.declared.instr.Instr.{Instr}
use Rattle.pass_proofs.specs.ir_model.declared.module.Function.{Function}
use Rattle.pass_proofs.specs.ir_model.declared.module.Module.{Module}
use Rattle.pass_proofs.specs.ir_model.declared.operand.Allocator.{Allocator}
use Rattle.pass_proofs.specs.ir_model.declared.operand.Arg.{Arg}
use Rattle.pass_proofs.specs.ir_model.declared.operand.Callee.{Callee}
use Rattle.pass_split_proof.proofs.ready.At.{others, read, ruled}
use Rattle.pass_split_proof.proofs.ready.Callees.{not_tail}
use Rattle.pass_split_proof.proofs.ready.Given.{there_is}
use Rattle.pass_split_proof.proofs.ready.Parts.{callee_ready}
use Rattle.pass_split_proof.specs.calling.Named.{IsAtCall}
use Rattle.pass_split_proof.specs.freeing.Deallocating.{IsAtDeallocator, deallocates}
use Rattle.pass_split_proof.specs.making.Blocks.{IsAtAllocator, allocates}
use Rattle.pass_split_proof.specs.ready.Module.{IsFollowableIn}
use Rattle.pass_split_proof.specs.simulation.Premises.{IsAt, IsAtPlace}
use Rattle.pass_split_proof.specs.simulation.Statement.{parts_given}
use Rattle.pass_split_proof.specs.states.Related.{AreRelated}
use Rattle.pass_proofs.specs.run_framed.Framed.{framed_given, given_ramp}
use Rattle.pass_proofs.specs.run_memory.declared.pointer.Value.{Value}
use Rattle.run_access_worked.specs.run_plain.declared.state.PlainState.{PlainState}
use Rattle.pass_proofs.specs.run_source.declared.state.State.{State}
use Rattle.pass_proofs.specs.run_step.Step.{AtInstr}
use Rattle.pass_proofs.specs.run_step.Values.{arg_values, nth}
use Rattle.pass_proofs.specs.rule_names.declared.stage.Stage.{Stage}

found_there : (m : Module) (name : Name) (k : ℕ) → function_named m name ≡ Some k
    → slice_get m.functions k ≡ Some (function_at m k)
found_there m name k e =
    let x = what_is_found (λ (f : Function). same_name f.name name) m.functions k e in
    x.stands ∙ ap Some (sym (there_is m k x.element x.stands))

none_more : (n : ℕ) → n ≡ n + 0
none_more n = omega arith

module _ {stage : Stage} {ruler : Module} (ls : Layouts) (m : Module) (w : IsFollowableIn stage ruler ls m)
    (answers : List ℤ) (s : State) (t : PlainState)
    (r : AreRelated (framed_given m ls.coroutines answers) (parts_given ls m answers) s t) where
  pub call_ready : (result : Option ℕ) (must_tail : Bool) (ty : Option Ty) (name : Name) (args : List Arg) (func : ℕ)
      → IsAt (framed_given m ls.coroutines answers) s (AtInstr
      (Instr.Call result must_tail ty (Callee.Named name) args))
      → IsAtPlace (framed_given m ls.coroutines answers) (parts_given ls m answers) s t r
      → function_named m name ≡ Some func → given_ramp m name ≡ None
      → IsAtCall (framed_given m ls.coroutines answers) (parts_given ls m answers) s t r
  call_ready result must_tail ty name args func here p found ungiven =
      let i : Instr = Instr.Call result must_tail ty (Callee.Named name) args in
      let plain_call = not_tail ruler s.top.func (function_at m s.top.func) (ruled ls m w answers s t r i here).rules
      s.top.block
      s.top.at result must_tail ty args (Callee.Named name) here in
      record {
        settled = p.settled;
        place = p.place;
        result = result;
        ty = ty;
        name = name;
        args = args;
        there = here ∙ ap (λ (b : Bool). AtInstr (Instr.Call result b ty (Callee.Named name) args)) plain_call;
        func = func;
        calls = found;
        moves = w.names.functions name func found ∙ ap Some (none_more _);
        ungiven = ungiven;
        callee = callee_ready ls m w answers func (found_there m name func found);
        readable = read ls m w answers s t r i here;
        others = others ls m w answers s t r i here refl;
      }

  pub allocator_ready : (result : Option ℕ) (must_tail : Bool) (ty : Option Ty) (a : Allocator) (args : List Arg)
      → IsAt (framed_given m ls.coroutines answers) s (AtInstr
      (Instr.Call result must_tail ty (Callee.Allocator a) args))
      → IsAtPlace (framed_given m ls.coroutines answers) (parts_given ls m answers) s t r → allocates a ≡ true
      → ((x : Word) → nth (arg_values m s.top.values args) 0 ≡ Value.Int x → x.bits < 2 ^ 64)
      → IsAtAllocator (framed_given m ls.coroutines answers) (parts_given ls m answers) s t r
  allocator_ready result must_tail ty a args here p is small = record {
    settled = p.settled;
    place = p.place;
    result = result;
    must_tail = must_tail;
    ty = ty;
    allocator = a;
    is = is;
    args = args;
    there = here;
    readable = read ls m w answers s t r (Instr.Call result must_tail ty (Callee.Allocator a) args) here;
    small = small;
    others = others ls m w answers s t r (Instr.Call result must_tail ty (Callee.Allocator a) args) here refl;
  }

  pub deallocator_ready : (result : Option ℕ) (must_tail : Bool) (ty : Option Ty) (a : Allocator) (args : List Arg)
      → IsAt (framed_given m ls.coroutines answers) s (AtInstr
      (Instr.Call result must_tail ty (Callee.Allocator a) args))
      → IsAtPlace (framed_given m ls.coroutines answers) (parts_given ls m answers) s t r → deallocates a ≡ true
      → IsAtDeallocator (framed_given m ls.coroutines answers) (parts_given ls m answers) s t r
  deallocator_ready result must_tail ty a args here p is = record {
    settled = p.settled;
    place = p.place;
    result = result;
    must_tail = must_tail;
    ty = ty;
    allocator = a;
    is = is;
    args = args;
    there = here;
    readable = read ls m w answers s t r (Instr.Call result must_tail ty (Callee.Allocator a) args) here;
  }
