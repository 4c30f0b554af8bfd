-- What calls of coroutines name (K2, K10), in a coroutine with blocks on its edges.
use Rattle.std.proofs.Common.{◌≡◌, arith, ◌⊎◌, inl, inr, ℕ, Bool, true, false, List, [], ◌∷◌, Option, Some, None, refl, sym, ap, ◌∙◌, subst}
use Rattle.std.specs.Prelude.{option_and_then, slice_get, unwrap_or, ◌||◌}
use Rattle.compiler.specs.flow_solver.Paths.{IsListed}
use Rattle.compiler.specs.ir_calls.Calls.{first_call, is_null, is_value, value_of_first}
use Rattle.compiler.proofs.ir_laws.facts.Truth.{and_second, equal_numbers}
use Rattle.compiler.proofs.ir_laws.paths.sources.Listed.{point_listed}
use Rattle.compiler.specs.ir_model.Names.{is_local}
use Rattle.compiler.specs.ir_model.Ty.{Ty}
use Rattle.compiler.specs.ir_model.declared.instr.Instr.{Instr}
use Rattle.compiler.specs.ir_model.declared.module.Block.{Block}
use Rattle.compiler.specs.ir_model.declared.operand.Arg.{Arg}
use Rattle.compiler.specs.ir_model.declared.operand.Callee.{Callee}
use Rattle.compiler.specs.ir_model.declared.operand.Intrinsic.{Intrinsic}
use Rattle.compiler.specs.ir_model.declared.operand.Operand.{Operand}
use Rattle.compiler.specs.ir_paths.Slots.{local_of, promise_of}
use Rattle.compiler.specs.ir_paths.Windows.{call_operand, call_result, instr_at, instr_in, is_call_of, operand_at, points_where}
use Rattle.compiler.specs.ir_paths.declared.point.Point.{Point}
use Rattle.compiler.specs.pass_frames.Framed.{begin_of}
use Rattle.pass_frames_meaning.proofs.begun.Begun.{first}
use Rattle.pass_frames_meaning.specs.pass_frames_proof.Framings.{IsFraming}
use Rattle.pass_frames_meaning.specs.pass_frames_proof.Places.{Framing, edged}
use Rattle.compiler.proofs.rule_laws.frames.crossing.Paths.{point_found}
use Rattle.compiler.proofs.rule_laws.rules.shape.Stands.{StandsAt, begin_stands}
use Rattle.compiler.proofs.rule_laws.rules.source_rules.Once.{first_call_at, one_begin, one_id, right_call}
use Rattle.compiler.specs.run_framed.Framed.{begin_name}

no_value : (q : Option ℕ) (o : Operand) → ((v : ℕ) → is_local v o ≡ false) → is_value q o ≡ true → ⊥
no_value None o none h = absurd (cc)
no_value (Some u) o none h = let no : false ≡ true = sym (none u) ∙ h in absurd (cc)

module _ (x : Framing) (is : IsFraming x) where
  coroutine : (edged x).coroutine ≡ true
  coroutine = is.frameable.coroutine

  begin_is : begin_of x.function ≡ is.begin
  begin_is = ap (λ (o : Option ℕ). unwrap_or o 0) is.frameable.begins

  S : StandsAt (edged x) Intrinsic.CoroBegin is.begin
  S = begin_stands (edged x) is.begin (first x is)

  abbrev own : Point
  own = record { block = S.position; at = S.at }

  stands : instr_at (edged x) own ≡ Some S.instr
  stands = ap (λ (o : Option Block). instr_in o S.at) S.got ∙ S.there

  same_instr : (i j : Instr) → Some i ≡ Some j → i ≡ j
  same_instr i j e = cc

  same_number : (i j : ℕ) → Some i ≡ Some j → i ≡ j
  same_number i j e = cc

  -- there is one begin (K2)
  pub one_result : (p : Point) (i : Instr) (v : ℕ) → instr_at (edged x) p ≡ Some i
      → is_call_of Intrinsic.CoroBegin i ≡ true → call_result i ≡ Some v → v ≡ begin_of x.function
  one_result p i v e calls gives =
      let point = one_begin is.position (edged x) coroutine is.frameable.calls p own i S.instr e stands calls S.calls in
      let same : i ≡ S.instr = same_instr i S.instr (sym e ∙ ap (instr_at (edged x)) point ∙ stands) in
      same_number v is.begin (sym gives ∙ ap call_result same ∙ S.makes) ∙ sym begin_is

  -- what is told to be the first begin's value is begin's
  frame_value : (o : Option Instr) → first_call Intrinsic.CoroBegin (edged x) ≡ o → (v : ℕ)
      → is_value (option_and_then call_result o) (Operand.Local v) ≡ true → v ≡ begin_of x.function
  frame_value None d v h = absurd (cc)
  frame_value (Some i) d v h = given (call_result i) refl h
    where
      given : (q : Option ℕ) → call_result i ≡ q → is_value q (Operand.Local v) ≡ true → v ≡ begin_of x.function
      given None g k = absurd (cc)
      given (Some u) g k =
          let z = first_call_at (edged x) Intrinsic.CoroBegin i d in
          sym (equal_numbers u v k) ∙ one_result z.point i u z.stands z.is_call g

  -- what coro.free is given is begin's value (K2)
  pub free_pointer : (p : Point) (result : Option ℕ) (must_tail : Bool) (ty : Option Ty) (args : List Arg) (v : ℕ)
      → instr_at (edged x) p ≡ Some (Instr.Call result must_tail ty (Callee.Intrinsic Intrinsic.CoroFree) args)
      → operand_at args 1 ≡ Operand.Local v → v ≡ begin_of x.function
  free_pointer p result must_tail ty args v e d =
      frame_value (first_call Intrinsic.CoroBegin (edged x)) refl v
      (ap (is_value (value_of_first Intrinsic.CoroBegin (edged x))) (sym d)
      ∙ and_second (is_value (value_of_first Intrinsic.CoroId (edged x)) (operand_at args 0))
      (is_value (value_of_first Intrinsic.CoroBegin (edged x)) (operand_at args 1))
      (right_call is.position (edged x) coroutine is.frameable.calls p
      (Instr.Call result must_tail ty (Callee.Intrinsic Intrinsic.CoroFree) args) e))

  -- a save's pointer is begin's value or null (K2)
  pub save_pointer : (p : Point) (result : Option ℕ) (must_tail : Bool) (ty : Option Ty) (args : List Arg)
      → instr_at (edged x) p ≡ Some (Instr.Call result must_tail ty (Callee.Intrinsic Intrinsic.CoroSave) args)
      → (operand_at args 0 ≡ Operand.Null) ⊎ (operand_at args 0 ≡ Operand.Local (begin_of x.function))
  save_pointer p result must_tail ty args e =
      on (operand_at args 0) refl
      (right_call is.position (edged x) coroutine is.frameable.calls p
      (Instr.Call result must_tail ty (Callee.Intrinsic Intrinsic.CoroSave) args) e)
    where
      on : (o : Operand) → operand_at args 0 ≡ o
          → (is_null o || is_value (value_of_first Intrinsic.CoroBegin (edged x)) o) ≡ true
          → (operand_at args 0 ≡ Operand.Null) ⊎ (operand_at args 0 ≡ Operand.Local (begin_of x.function))
      on Operand.Null d h = inl d
      on (Operand.Local v) d h =
          inr (d ∙ ap Operand.Local (frame_value (first_call Intrinsic.CoroBegin (edged x)) refl v h))
      on (Operand.Global n) d h = absurd (no_value (value_of_first Intrinsic.CoroBegin (edged x)) (Operand.Global n)
          (λ v. refl) h)
      on (Operand.Number n) d h = absurd (no_value (value_of_first Intrinsic.CoroBegin (edged x)) (Operand.Number n)
          (λ v. refl) h)
      on Operand.True d h = absurd (no_value (value_of_first Intrinsic.CoroBegin (edged x)) Operand.True (λ v. refl) h)
      on Operand.False d h = absurd (no_value (value_of_first Intrinsic.CoroBegin (edged x)) Operand.False (λ v. refl) h)
      on Operand.None d h = absurd (no_value (value_of_first Intrinsic.CoroBegin (edged x)) Operand.None (λ v. refl) h)
      on Operand.Poison d h = absurd (no_value (value_of_first Intrinsic.CoroBegin (edged x)) Operand.Poison (λ v. refl) h)

  -- the promise is that of the one id (K2)
  pub id_promise : (p : Point) (result : Option ℕ) (must_tail : Bool) (ty : Option Ty) (args : List Arg) (v : ℕ)
      → instr_at (edged x) p ≡ Some (Instr.Call result must_tail ty (Callee.Intrinsic Intrinsic.CoroId) args)
      → operand_at args 1 ≡ Operand.Local v → promise_of (edged x) ≡ Some v
  id_promise p result must_tail ty args v e d =
      on (points_where (is_call_of Intrinsic.CoroId) (edged x)) refl
      (point_listed (is_call_of Intrinsic.CoroId) (edged x) p i e refl)
    where
      i : Instr
      i = Instr.Call result must_tail ty (Callee.Intrinsic Intrinsic.CoroId) args

      given : Option Instr → Option ℕ
      given o = option_and_then (λ (j : Instr). local_of (call_operand j 1)) o

      on : (ps : List Point) → points_where (is_call_of Intrinsic.CoroId) (edged x) ≡ ps → IsListed p ps
          → promise_of (edged x) ≡ Some v
      on [] h l = absurd l
      on (q ∷ ps) h l =
          let f = point_found (is_call_of Intrinsic.CoroId) (edged x) q
          (subst (IsListed q) (sym h) (inl refl)) in
          let block : q.block ≡ f.position = let b = f.is_block in omega (arith, b) in
          let there : instr_at (edged x) q ≡ Some f.instr =
          ap (λ (n : ℕ). instr_in (slice_get (edged x).blocks n) q.at) block
          ∙ ap (λ (o : Option Block). instr_in o q.at) f.got ∙ f.there in
          let same : q ≡ p =
          one_id is.position (edged x) coroutine is.frameable.calls q p f.instr i there e f.passes refl in
          ap (λ (qs : List Point). given (option_and_then (instr_at (edged x)) (slice_get qs 0))) h
          ∙ ap (λ (z : Point). given (instr_at (edged x) z)) same
          ∙ ap given e ∙ ap local_of d

  -- begin's name is that of the one begin
  pub begin_named : begin_name (edged x) ≡ Some (begin_of x.function)
  begin_named =
      on (points_where (is_call_of Intrinsic.CoroBegin) (edged x)) refl
      (point_listed (is_call_of Intrinsic.CoroBegin) (edged x) own S.instr stands S.calls)
    where
      given : Option Instr → Option ℕ
      given o = option_and_then call_result o

      on : (ps : List Point) → points_where (is_call_of Intrinsic.CoroBegin) (edged x) ≡ ps → IsListed own ps
          → begin_name (edged x) ≡ Some (begin_of x.function)
      on [] h l = absurd l
      on (q ∷ ps) h l =
          let f = point_found (is_call_of Intrinsic.CoroBegin) (edged x) q
          (subst (IsListed q) (sym h) (inl refl)) in
          let block : q.block ≡ f.position = let b = f.is_block in omega (arith, b) in
          let there : instr_at (edged x) q ≡ Some f.instr =
          ap (λ (n : ℕ). instr_in (slice_get (edged x).blocks n) q.at) block
          ∙ ap (λ (o : Option Block). instr_in o q.at) f.got ∙ f.there in
          let same : q ≡ own =
          one_begin is.position (edged x) coroutine is.frameable.calls q own f.instr S.instr there stands f.passes S.calls in
          ap (λ (qs : List Point). given (option_and_then (instr_at (edged x)) (slice_get qs 0))) h
          ∙ ap (λ (z : Point). given (instr_at (edged x) z)) same
          ∙ ap given stands ∙ S.makes ∙ ap Some (sym begin_is)
