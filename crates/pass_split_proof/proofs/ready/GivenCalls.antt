-- Calls that give frames are ready in the parts, where the rules' module has the ramps that are called.
use Rattle.std.proofs.Common.{◌≡◌, ℕ, suc, Bool, true, List, [], ◌∷◌, length, map, refl, sym, ap, ◌∙◌}
use Rattle.std.proofs.lemmas.Bool.{false≢true}
use Rattle.std.proofs.lemmas.List.{length-map}
use Rattle.std.specs.Prelude.{ℤ, None, Option, Some, slice_get, unwrap_or}
use Rattle.pass_proofs.proofs.ir_laws.facts.Truth.{and_second}
use Rattle.pass_proofs.specs.frame_layout.declared.layout.Layouts.{Layouts}
use Rattle.pass_proofs.specs.ir_base.declared.name.Name.{Name}
use Rattle.pass_proofs.specs.ir_model.Layout.{same_type}
use Rattle.pass_proofs.specs.ir_model.Names.{function_at, function_named, no_function}
use Rattle.pass_proofs.specs.ir_model.Ty.{Ty}
use Rattle.pass_proofs.specs.ir_model.declared.instr.Instr.{Instr}
use Rattle.pass_proofs.specs.ir_model.declared.module.Function.{Function}
use Rattle.pass_proofs.specs.ir_model.declared.module.Module.{Module}
use Rattle.pass_proofs.specs.ir_model.declared.module.Param.{Param}
use Rattle.pass_proofs.specs.ir_model.declared.operand.Arg.{Arg}
use Rattle.pass_proofs.specs.ir_model.declared.operand.Callee.{Callee}
use Rattle.pass_proofs.specs.rule_names.declared.stage.Stage.{Stage}
use Rattle.pass_proofs.specs.rule_types.Signatures.{fits_callee, fits_function, fits_position, same_list, same_result}
use Rattle.pass_proofs.specs.run_framed.Framed.{framed_given, given_ramp}
use Rattle.pass_proofs.specs.run_source.declared.state.State.{State}
use Rattle.pass_proofs.specs.run_step.Step.{AtInstr}
use Rattle.pass_split_proof.proofs.given_calls.Ramps.{called_given, given_callee, given_named, ramp_of_name}
use Rattle.pass_split_proof.proofs.ready.At.{others, read, ruled}
use Rattle.pass_split_proof.proofs.ready.Callees.{call_fits, not_tail}
use Rattle.pass_split_proof.specs.given_calls.Calling.{IsAtGivenCall}
use Rattle.pass_split_proof.specs.given_calls.Ramps.{HasCalledRamps, IsSplitBy}
use Rattle.pass_split_proof.specs.ready.Module.{IsFollowableIn}
use Rattle.pass_split_proof.specs.simulation.Premises.{IsAt, IsAtPlace}
use Rattle.pass_split_proof.specs.simulation.Statement.{parts_given}
use Rattle.pass_split_proof.specs.states.Related.{AreRelated}
use Rattle.run_access_worked.specs.run_plain.declared.state.PlainState.{PlainState}

-- ---- as many arguments as parameters (Y2)

same_many : (ts us : List Ty) → same_list ts us ≡ true → length ts ≡ length us
same_many [] [] e = refl
same_many (t ∷ ts) (u ∷ us) e = ap suc (same_many ts us (and_second (same_type t u) (same_list ts us) e))
same_many [] (u ∷ us) e = absurd (false≢true e)
same_many (t ∷ ts) [] e = absurd (false≢true e)

many_args : (r : Module) (ty : Option Ty) (args : List Arg) (x : Name) (j : ℕ)
    → fits_callee r ty args (Callee.Named x) ≡ true → function_named r x ≡ Some j
    → length args ≡ length (function_at r j).params
many_args r ty args x j e found = by (slice_get r.functions j)
    (sym (ap (fits_position r ty (map (λ (a : Arg). a.ty) args) x) found) ∙ e)
  where
    by : (o : Option Function) → fits_function ty (map (λ (a : Arg). a.ty) args) o ≡ true
        → length args ≡ length (unwrap_or o no_function).params
    by None h = absurd (false≢true h)
    by (Some f) h = sym (length-map args (λ (a : Arg). a.ty))
        ∙ same_many (map (λ (a : Arg). a.ty) args) (map (λ (p : Param). p.ty) f.params)
        (and_second (same_result ty f.result) (same_list (map (λ (a : Arg). a.ty) args)
        (map (λ (p : Param). p.ty) f.params)) h)
        ∙ length-map f.params (λ (p : Param). p.ty)

-- ---- at related states

module _ {stage : Stage} {ruler : Module} (ls : Layouts) (m : Module) (w : IsFollowableIn stage ruler ls m)
    (ramps : HasCalledRamps ruler m) (answers : List ℤ) where
  split_by : (k : ℕ) → slice_get m.functions k ≡ Some (function_at m k) → (function_at m k).coroutine ≡ true
      → IsSplitBy ls m k
  split_by k there coroutine =
      let x = w.partable.coroutines k (function_at m k) there coroutine in
      let b = w.partable.blocks k (function_at m k) there in
      record {
        there = there;
        coroutine = coroutine;
        ruler = ruler;
        begin = x.begin;
        splittable = x.splittable;
        layout = x.layout;
        block = b.0;
        first = b.1;
      }

  pub given_call_ready : (s : State) (t : PlainState)
      (r : AreRelated (framed_given m ls.coroutines answers) (parts_given ls m answers) s t) (result : Option ℕ)
      (must_tail : Bool) (ty : Option Ty) (name : Name) (args : List Arg) (func : ℕ)
      → IsAt (framed_given m ls.coroutines answers) s (AtInstr
      (Instr.Call result must_tail ty (Callee.Named name) args))
      → IsAtPlace (framed_given m ls.coroutines answers) (parts_given ls m answers) s t r
      → given_ramp m name ≡ Some func
      → IsAtGivenCall (framed_given m ls.coroutines answers) (parts_given ls m answers) s t r
  given_call_ready s t r result must_tail ty name args func here p gives =
      let i : Instr = Instr.Call result must_tail ty (Callee.Named name) args in
      let rules = (ruled ls m w answers s t r i here).rules in
      let own = ramp_of_name m name func gives in
      let called = called_given m s.top.func s.top.block s.top.at result must_tail ty name args here func gives in
      let x = split_by func own.there own.coroutine in
      let ramp = ramps.ramps name func gives called in
      let plain_call = not_tail ruler s.top.func (function_at m s.top.func) rules s.top.block s.top.at result must_tail
      ty args (Callee.Named name) here in
      record {
        settled = p.settled;
        place = p.place;
        result = result;
        ty = ty;
        name = name;
        args = args;
        there = here ∙ ap (λ (b : Bool). AtInstr (Instr.Call result b ty (Callee.Named name) args)) plain_call;
        func = func;
        gives = gives;
        moves = given_named ls m answers func x called w.names name gives;
        callee = given_callee ls m answers func x called;
        many = many_args ruler ty args name ramp.0 (call_fits ruler s.top.func (function_at m s.top.func) rules
            s.top.block s.top.at result must_tail ty args (Callee.Named name) here) ramp.1.0 ∙ ramp.1.1;
        readable = read ls m w answers s t r i here;
        others = others ls m w answers s t r i here refl;
      }
