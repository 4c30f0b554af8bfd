-- A call of the elided module that gives a frame hands over the address of an alloca that was put in front.
use Rattle.std.proofs.lemmas.List.{map-append}
use Rattle.std.proofs.Common.{◌≡◌, ◌∙◌, ◌+◌, ◌-◌, ◌<◌, ◌≤◌, ◌++◌, ℕ, suc, Bool, false, List, [], ◌∷◌, length, length-append, None, Option, Some, ap, refl, sym, arith}
use Rattle.std.specs.Prelude.{slice_get}
use Rattle.pass_elide.specs.Elided.{elided_function, function_frames, given_call}
use Rattle.pass_elide.specs.declared.given.GivenFrame.{GivenFrame}
use Rattle.pass_elide_lacks.proofs.Flat.{Ahead, IsPlaced, Own, ahead_there, placed}
use Rattle.pass_elide_lacks.proofs.FlatNames.{front_alloca}
use Rattle.pass_elide_meaning.proofs.pass_elide_runs.Shaped.{no_field}
use Rattle.pass_elide_meaning.specs.pass_elide_runs.Slots.{IsAllocaAt}
use Rattle.pass_elide_meaning.proofs.pass_elide_edges.pass_elide_proof.ElidedFound.{fetched}
use Rattle.pass_elide_meaning.proofs.pass_elide_edges.pass_elide_proof.Facts.{some_none}
use Rattle.pass_elide_meaning.proofs.pass_elide_edges.pass_elide_proof.GivingMarkers.{plain_put}
use Rattle.pass_elide_meaning.proofs.pass_elide_edges.pass_elide_proof.Modules.{finds_alike}
use Rattle.pass_elide_meaning.proofs.pass_elide_edges.pass_elide_proof.Sites.{alloca_there}
use Rattle.pass_elide_meaning.proofs.pass_elide_edges.pass_elide_proof.pass_proofs.ir_laws.facts.Lists.{get_within}
use Rattle.pass_elide_meaning.specs.pass_elide_edges.pass_elide_proof.Elision.{Elision, elided_code, function_in, rooms}
use Rattle.pass_elide_meaning.specs.pass_elide_edges.pass_elide_proof.Places.{Rooms, ahead, allocas_ahead, elided_instr, instrs_in, instrs_of, name_at, room_at}
use Rattle.pass_elide_meaning.specs.pass_elide_edges.pass_elide_proof.Placing.{KeepsPlaces}
use Rattle.pass_elide_meaning.specs.pass_elide_edges.pass_elide_proof.pass_proofs.ir_base.declared.name.Name.{Name}
use Rattle.pass_elide_meaning.specs.pass_elide_edges.pass_elide_proof.pass_proofs.ir_model.Ty.{Ty, array, int, ptr}
use Rattle.pass_elide_meaning.specs.pass_elide_edges.pass_elide_proof.pass_proofs.ir_model.declared.instr.Instr.{Instr}
use Rattle.pass_elide_meaning.specs.pass_elide_edges.pass_elide_proof.pass_proofs.ir_model.declared.module.Block.{Block}
use Rattle.pass_elide_meaning.specs.pass_elide_edges.pass_elide_proof.pass_proofs.ir_model.declared.module.Function.{Function}
use Rattle.pass_elide_meaning.specs.pass_elide_edges.pass_elide_proof.pass_proofs.ir_model.declared.module.Module.{Module}
use Rattle.pass_elide_meaning.specs.pass_elide_edges.pass_elide_proof.pass_proofs.ir_model.declared.operand.Arg.{Arg}
use Rattle.pass_elide_meaning.specs.pass_elide_edges.pass_elide_proof.pass_proofs.ir_model.declared.operand.Callee.{Callee}
use Rattle.pass_elide_meaning.specs.pass_elide_edges.pass_elide_proof.pass_proofs.ir_model.declared.operand.Operand.{Operand}
use Rattle.pass_elide_meaning.specs.pass_elide_edges.pass_elide_proof.pass_proofs.run_framed.Framed.{given_ramp, last_value}
use Rattle.pass_elide_meaning.specs.pass_elide_edges.pass_elide_proof.pass_proofs.run_laws.changed.Changed.{Each}
use Rattle.pass_elide_meaning.specs.pass_elide_edges.pass_elide_proof.pass_proofs.run_memory.declared.pointer.Value.{Value}
use Rattle.pass_elide_meaning.specs.pass_elide_edges.pass_elide_proof.pass_proofs.run_step.Values.{Env, arg_value, arg_values, nth, value_in}

-- ---- lists

each_there : {A : Type 0} (P : A → Type 0) (xs : List A) → ((k : ℕ) (x : A) → slice_get xs k ≡ Some x → P x)
    → Each P xs
each_there P [] all = tt
each_there P (x ∷ xs) all = (all 0 x refl, each_there P xs (λ k y at. all (suc k) y at))

last_is : (vs : List Value) (w : Value) → last_value (vs ++ w ∷ []) ≡ w
last_is vs w =
    let long : length (vs ++ w ∷ []) ≡ length vs + 1 = length-append vs (w ∷ []) in
    let before : length (vs ++ w ∷ []) - 1 ≡ length vs = omega (arith, long) in
    ap (nth (vs ++ w ∷ [])) before ∙ at vs
  where
    at : (vs : List Value) → nth (vs ++ w ∷ []) (length vs) ≡ w
    at [] = refl
    at (v ∷ vs) = at vs

-- ---- the last argument

abbrev pub more : ℕ → Arg
more name = record { ty = ptr; value = Operand.Local name }

-- a call that gives a frame calls the ramp by its name, with one more argument
record IsGivingCall (name : ℕ) (args : List Arg) : Type 0 where
  own : List Arg
  is : args ≡ own ++ more name ∷ []

giving_args : (name : ℕ) (i : Instr) (result : Option ℕ) (must_tail : Bool) (ty : Option Ty) (n : Name)
    (args : List Arg) → given_call name i ≡ Instr.Call result must_tail ty (Callee.Named n) args
    → IsGivingCall name args
giving_args name (Instr.Call result' mt t (Callee.Named g) args') result must_tail ty n args h =
    record { own = args'; is = sym (same h) }
  where
    same : given_call name (Instr.Call result' mt t (Callee.Named g) args')
        ≡ Instr.Call result must_tail ty (Callee.Named n) args → args' ++ more name ∷ [] ≡ args
    same e = cc
giving_args name (Instr.Call result' mt t (Callee.Allocator a) args') result must_tail ty n args h = absurd (cc)
giving_args name (Instr.Call result' mt t (Callee.Intrinsic k) args') result must_tail ty n args h = absurd (cc)
giving_args name (Instr.Call result' mt t (Callee.Local v) args') result must_tail ty n args h = absurd (cc)
giving_args name (Instr.Binary name' op flags t a b) result must_tail ty n args h = absurd (cc)
giving_args name (Instr.Icmp name' pred t a b) result must_tail ty n args h = absurd (cc)
giving_args name (Instr.Select name' x a b) result must_tail ty n args h = absurd (cc)
giving_args name (Instr.Cast name' op nneg arg to) result must_tail ty n args h = absurd (cc)
giving_args name (Instr.Alloca name' t al) result must_tail ty n args h = absurd (cc)
giving_args name (Instr.Load name' t p al) result must_tail ty n args h = absurd (cc)
giving_args name (Instr.Store arg p al) result must_tail ty n args h = absurd (cc)
giving_args name (Instr.Gep name' inbounds t base indices) result must_tail ty n args h = absurd (cc)

no_call : (name align : ℕ) (t : Ty) (result : Option ℕ) (must_tail : Bool) (ty : Option Ty) (callee : Callee)
    (args : List Arg) → Instr.Alloca name t align ≡ Instr.Call result must_tail ty callee args → ⊥
no_call name align t result must_tail ty callee args h = cc

-- ---- such a call

-- the address of an alloca that has been passed is handed over last
pub record GivesRoom (h : Function) (m : Module) (low block at : ℕ) (args : List Arg) : Type 0 where
  pub name : ℕ
  pub new : low ≤ name
  pub place : ℕ
  pub alloca : IsAllocaAt h place name
  pub passed : block ≡ 0 → place < at
  pub last : (values : Env) → last_value (arg_values m values args) ≡ value_in values name

module _ (e : Elision) (keeps : KeepsPlaces e) (func : ℕ) (plain : (function_in e func).coroutine ≡ false)
    (block at callee : ℕ) (result : Option ℕ) (must_tail : Bool) (ty : Option Ty) (n : Name) (args : List Arg)
    (ramp : given_ramp (elided_code e) n ≡ Some callee) where
  abbrev f : Function
  f = function_in e func

  abbrev room : Rooms
  room = rooms e func

  abbrev h : Function
  h = elided_function room f

  abbrev m : Module
  m = elided_code e

  abbrev call : Instr
  call = Instr.Call result must_tail ty (Callee.Named n) args

  abbrev Gives : Type 0
  Gives = GivesRoom h m (length f.names) block at args

  -- a call of the framed form gives no frame
  ungiven : (p : ℕ) → slice_get (instrs_of f block) p ≡ Some call → ⊥
  ungiven p there =
      some_none (given_ramp e.code n) callee (sym ((finds_alike e).ramps n) ∙ ramp)
      (keeps.ungiven func block p result must_tail ty n args (fetched f block p call there))

  -- an alloca in front stands in the entry block
  abbrev InFront : Instr → Type 0
  InFront i = (k : ℕ) × (slice_get (instrs_of h 0) k ≡ Some i) × (k < length (allocas_ahead room f))

  in_front : (b : Block) → slice_get f.blocks 0 ≡ Some b → Each InFront (allocas_ahead room f)
  in_front b whole =
      each_there InFront (allocas_ahead room f)
      (λ k i there. (k, ahead_there room f b whole k i there, get_within (allocas_ahead room f) k i there))

  -- there is an entry block where some block is
  first_block : (bs : List Block) (k p : ℕ) (i : Instr) → slice_get (instrs_in (slice_get bs k)) p ≡ Some i
      → (b : Block) × (slice_get bs 0 ≡ Some b)
  first_block [] k p i there = absurd (cc)
  first_block (b ∷ bs) k p i there = (b, refl)

  by_room : (p : ℕ) (i : Instr) → slice_get (instrs_of f block) p ≡ Some i → at ≡ ahead room f block + p
      → (o : Option GivenFrame) → room_at room f block p i ≡ o
      → call ≡ elided_instr (name_at room f block p) o i → Gives
  by_room p i there is None eo same = absurd (ungiven p (there ∙ ap Some (sym same)))
  by_room p i there is (Some (GivenFrame.Field base distance)) eo same =
      absurd (no_field e keeps func block p base distance i eo)
  by_room p i there is (Some (GivenFrame.Alloca size align)) eo same =
      let b = first_block f.blocks block p i there in
      let x = alloca_there room f block p i size align InFront (in_front b.0 b.1) there eo in
      let g = giving_args (name_at room f block p) i result must_tail ty n args (sym same) in
      record {
        name = name_at room f block p;
        new = omega arith;
        place = x.0;
        alloca = record { ty = array size (int 8); align = align; there = x.1 };
        passed = λ first. passes x.0 x.2 first;
        last = λ values.
            ap (λ (zs : List Arg). last_value (arg_values m values zs)) g.is
            ∙ (ap last_value (map-append (arg_value m values) g.own (more (name_at room f block p) ∷ []))
            ∙ last_is (arg_values m values g.own) (value_in values (name_at room f block p)));
      }
    where
      passes : (k : ℕ) → k < length (allocas_ahead room f) → block ≡ 0 → k < at
      passes k lt first =
          let front : ahead room f block ≡ length (allocas_ahead room f) = ap (ahead room f) first in
          omega (arith, lt, front, is)

  by_place : IsPlaced room f block at call → Gives
  by_place (Ahead first there) =
      let x = front_alloca (length f.names) (function_frames room f) at call there in
      absurd (no_call x.name x.align (array x.size (int 8)) result must_tail ty (Callee.Named n) args (sym x.is))
  by_place (Own p i there is same) = by_room p i there is (room_at room f block p i) refl same

  pub gives_room : slice_get (instrs_of h block) at ≡ Some call → Gives
  gives_room there = by_place (placed room f (plain_put e func plain) block at call there)
