-- A call that gives its callee an alloca enters the ramp in both runs, in one of them with its frame given.
use Rattle.std.proofs.Common.{◌≡◌, ◌+◌, ◌-◌, ◌≤◌, ℕ, suc, List, [], ◌∷◌, ◌++◌, length, Option, Ok, refl, sym, ap, ◌∙◌, subst, arith, length-append}
use Rattle.std.proofs.lemmas.List.{map-append}
use Rattle.std.specs.Prelude.{map, unwrap_or}
use Rattle.pass_elide.specs.declared.given.GivenFrame.{GivenFrame}
use Rattle.pass_elide_proof.proofs.Called.{AreArgs, args_more, ramp_called, ramp_holds}
use Rattle.pass_elide_proof.proofs.Callers.{args_stand, ours, pushed, theirs}
use Rattle.pass_elide_proof.proofs.Calls.{named_enters}
use Rattle.pass_elide_proof.proofs.Modules.{finds_alike}
use Rattle.pass_elide_proof.proofs.Sites.{alloca_there}
use Rattle.pass_elide_proof.proofs.Sized.{stepped}
use Rattle.pass_elide_proof.specs.Calling.{AreReady, IsAtSite}
use Rattle.pass_elide_proof.specs.Elision.{Elision, elided, elided_code, framed, function_in, rooms}
use Rattle.pass_elide_proof.specs.Match.{AreElided, HasAlloca, sides}
use Rattle.pass_elide_proof.specs.Places.{elided_instr, name_at}
use Rattle.pass_proofs.specs.ir_model.Names.{noalloc_of}
use Rattle.pass_proofs.specs.ir_model.Ty.{array, int, ptr}
use Rattle.pass_proofs.specs.ir_model.declared.instr.Instr.{Instr}
use Rattle.pass_proofs.specs.ir_model.declared.operand.Arg.{Arg}
use Rattle.pass_proofs.specs.ir_model.declared.operand.Callee.{Callee}
use Rattle.pass_proofs.specs.ir_model.declared.operand.Operand.{Operand}
use Rattle.pass_proofs.specs.run_framed.Framed.{enter_given, framed_act, framed_context, framed_next, framed_step, last_value}
use Rattle.pass_proofs.specs.run_memory.declared.pointer.Value.{Value}
use Rattle.pass_proofs.specs.run_source.Source.{called, enter, mode_of, push}
use Rattle.pass_proofs.specs.run_source.State.{address_in, work_of}
use Rattle.pass_proofs.specs.run_source.declared.state.Mode.{Mode}
use Rattle.pass_proofs.specs.run_source.declared.state.State.{State}
use Rattle.pass_proofs.specs.run_step.Step.{AtInstr, action_of}
use Rattle.pass_proofs.specs.run_step.Values.{arg_value, arg_values, nth, pointer_to, value_in}

-- ---- lists

last_is : (vs : List Value) (w : Value) → last_value (vs ++ w ∷ []) ≡ w
last_is vs w =
    let long : length (vs ++ w ∷ []) ≡ length vs + 1 = length-append vs (w ∷ []) in
    let before : length (vs ++ w ∷ []) - 1 ≡ length vs = omega (arith, long) in
    ap (nth (vs ++ w ∷ [])) before ∙ at vs
  where
    at : (vs : List Value) → nth (vs ++ w ∷ []) (length vs) ≡ w
    at [] = refl
    at (v ∷ vs) = at vs

map_long : {A B : Type 0} (h : A → B) (xs : List A) → length (map h xs) ≡ length xs
map_long h [] = refl
map_long h (y ∷ ys) = ap suc (map_long h ys)

module _ (e : Elision) (s t : State) (r : AreReady e s t) (k : IsAtSite e s t) where
  abbrev pub name : ℕ
  name = name_at (rooms e s.top.func) (function_in e s.top.func) s.top.block s.top.at

  abbrev pub i : Instr
  i = Instr.Call k.result k.must_tail k.ty (Callee.Named k.name) k.args

  abbrev vs : List Value
  vs = arg_values e.code s.top.values k.args

  abbrev pub us : List Value
  us = arg_values (elided_code e) t.top.values k.args

  -- ---- the alloca

  abbrev pub HasIt : Instr → Type 0
  HasIt = HasAlloca r.beside.homes r.beside.hides (sides s t) t.top r.beside.top.own

  pub room : HasIt (Instr.Alloca name (array k.size (int 8)) k.align)
  room =
      alloca_there (rooms e s.top.func) (function_in e s.top.func) s.top.block s.top.at i k.size k.align HasIt r.made
      k.there k.room

  abbrev named_by : Instr → ℕ
  named_by (Instr.Alloca n ty align) = n
  named_by _ = 0

  pub has_address : value_in t.top.values name ≡ pointer_to room.block
  has_address = ap (value_in t.top.values) (ap named_by room.is) ∙ room.address

  -- ---- the steps

  abbrev after : State
  after = enter (framed e).given s k.func vs k.result

  steps : framed_step (framed e) s ≡ after
  steps =
      stepped (framed e) s after (AtInstr i) k.runs (ours e s t r i k.there)
      (named_enters (framed e) s k.result k.must_tail k.ty k.args k.func k.name k.named k.ungiven)

  abbrev more : Arg
  more = record { ty = ptr; value = Operand.Local name }

  abbrev pub other : State
  other =
      push t (called (elided_code e) k.func (us ++ pointer_to room.block ∷ []) k.result
      (Mode.GivenRamp (address_in room.block 0)))

  -- the call by its name, with the address as its last argument
  abbrev j : Instr
  j = Instr.Call k.result k.must_tail k.ty (Callee.Named (noalloc_of k.name)) (k.args ++ more ∷ [])

  values_are : arg_values (elided_code e) t.top.values (k.args ++ more ∷ []) ≡ us ++ pointer_to room.block ∷ []
  values_are =
      map-append (arg_value (elided_code e) t.top.values) k.args (more ∷ [])
      ∙ ap (λ (w : Value). us ++ w ∷ []) has_address

  abbrev entered : List Value → State
  entered ws = push t (called (elided_code e) k.func ws k.result (Mode.GivenRamp (last_value ws)))

  other_next : framed_next (elided e) t (AtInstr j) ≡ Ok other
  other_next =
      ap (λ (o : Option ℕ). unwrap_or (enter_given (elided e) t k.result (arg_values (elided_code e) t.top.values
      (k.args ++ more ∷ [])) o) (framed_act (elided e) t (action_of (framed_context (elided e) t) (work_of t)
      (AtInstr j)))) ((finds_alike e).ramps (noalloc_of k.name) ∙ k.given)
      ∙ (ap (λ (ws : List Value). Ok (entered ws)) values_are
      ∙ ap (λ (w : Value). Ok (push t (called (elided_code e) k.func (us ++ pointer_to room.block ∷ []) k.result
      (Mode.GivenRamp w)))) (last_is us (pointer_to room.block)))

  pub other_steps : framed_step (elided e) t ≡ other
  other_steps =
      stepped (elided e) t other (AtInstr j) (r.beside.outcome ∙ k.runs)
      (theirs e s t r i k.there ∙ ap (λ (o : Option GivenFrame). AtInstr (elided_instr name o i)) k.room) other_next

  -- ---- both

  long : length (function_in e k.func).params ≤ length vs
  long =
      let many = map_long (arg_value e.code s.top.values) k.args in
      let fits = k.fits in
      omega (arith, many, fits)

  beside : AreElided e after other
  beside =
      pushed e s t r k.holds
      (called e.code k.func vs k.result (mode_of (function_in e k.func)))
      (called (elided_code e) k.func (us ++ pointer_to room.block ∷ []) k.result
      (Mode.GivenRamp (address_in room.block 0)))
      (ramp_called e r.beside.homes r.beside.hides (sides s t) k.func vs (us ++ pointer_to room.block ∷ []) k.result
      args k.starts room.block 0)
      (ramp_holds e r.beside.homes r.beside.hides (sides s t) k.func vs (us ++ pointer_to room.block ∷ []) k.result
      args k.starts room.block 0)
    where
      args : AreArgs r.beside.homes (function_in e k.func).params vs (us ++ pointer_to room.block ∷ [])
      args =
          args_more r.beside.homes (function_in e k.func).params vs us (pointer_to room.block)
          (args_stand e s t r k.args k.reads) long

  pub sites_called : AreElided e (framed_step (framed e) s) (framed_step (elided e) t)
  sites_called = subst (λ (p : State × State). AreElided e p.0 p.1) (λ q. (sym steps q, sym other_steps q)) beside
