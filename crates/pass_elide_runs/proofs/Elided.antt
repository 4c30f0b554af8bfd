-- What functions whose calls give frames have as they were: edges between blocks, and what stands behind suspends.
use Rattle.std.proofs.Common.{◌≡◌, ◌+◌, ◌++◌, ◌∙◌, ℕ, Bool, true, false, List, [], ◌∷◌, length, refl, sym, ap, subst}
use Rattle.std.specs.Prelude.{Option, Some, map, slice_get}
use Rattle.pass_elide.specs.Elided.{block_frames, elided_blocks, elided_function, frame_address, frame_alloca, frame_allocas, function_frames, given_call, with_front}
use Rattle.pass_elide.specs.declared.given.GivenFrame.{GivenFrame}
use Rattle.pass_elide_proof.proofs.Facts.{not_both}
use Rattle.pass_elide_proof.proofs.Modules.{finds_alike}
use Rattle.pass_elide_proof.proofs.OwnPlaces.{instr_there}
use Rattle.pass_elide_proof.proofs.Standing.{has_code}
use Rattle.pass_elide_proof.proofs.Unelided.{function_same}
use Rattle.pass_elide_runs.proofs.Without.{Without, function_none, none_empty, none_one}
use Rattle.pass_elide_proof.specs.Elision.{Elision, elided_code, function_in, rooms}
use Rattle.pass_elide_proof.specs.Places.{Rooms, instrs_in, instrs_of}
use Rattle.pass_elide_proof.specs.Placing.{KeepsPlaces, is_own}
use Rattle.pass_elide_proof.specs.pass_proofs.edges.rules.Returns.{AreSwitched}
use Rattle.pass_elide_proof.specs.pass_proofs.flow_blocks.Edges.{block_edges, edges_of_blocks}
use Rattle.pass_elide_proof.specs.pass_proofs.ir_model.Names.{function_at, position_of, same_intrinsic}
use Rattle.pass_elide_proof.specs.pass_proofs.ir_model.Ty.{Ty}
use Rattle.pass_elide_proof.specs.pass_proofs.ir_model.declared.instr.Instr.{Instr}
use Rattle.pass_elide_proof.specs.pass_proofs.ir_model.declared.module.Block.{Block}
use Rattle.pass_elide_proof.specs.pass_proofs.ir_model.declared.module.Function.{Function}
use Rattle.pass_elide_proof.specs.pass_proofs.ir_model.declared.operand.Arg.{Arg}
use Rattle.pass_elide_proof.specs.pass_proofs.ir_model.declared.operand.Callee.{Callee}
use Rattle.pass_elide_proof.specs.pass_proofs.ir_model.declared.operand.Intrinsic.{Intrinsic}
use Rattle.pass_elide_proof.specs.pass_proofs.ir_paths.Paths.{targets}
use Rattle.pass_elide_proof.specs.pass_proofs.ir_paths.Windows.{is_call_of}
use Rattle.pass_elide_proof.specs.pass_proofs.pass_edges.Edges.{is_suspend}
use Rattle.pass_elide_proof.specs.pass_proofs.run_step.Step.{AtInstr, fetch}
use Rattle.run_hooks.specs.Reached.{AllHaveSwitches, HasSwitches}

-- ---- edges between blocks

module _ (room : Rooms) (f : Function) where
  abbrev h : Function
  h = elided_function room f

  positions : (ls : List ℕ) → map (position_of h) ls ≡ map (position_of f) ls
  positions [] = refl
  positions (l ∷ ls) = λ j. (has_code room f).labels l j ∷ positions ls j

  edges_by : (at s n : ℕ) (bs : List Block)
      → edges_of_blocks h at (elided_blocks room s n bs) ≡ edges_of_blocks f at bs
  edges_by at s n [] = refl
  edges_by at s n (b ∷ bs) =
      λ j. map (λ (to : ℕ). (at, to)) (positions (targets b.term) j)
      ++ edges_by (at + 1) (s + 1) (length (block_frames room s b) + n) bs j

  front_edges : (front : List Instr) (at : ℕ) (bs : List Block)
      → edges_of_blocks h at (with_front front bs) ≡ edges_of_blocks h at bs
  front_edges front at [] = refl
  front_edges front at (b ∷ bs) = refl

  pub same_edges : block_edges h ≡ block_edges f
  unfolding block_edges
  same_edges =
      front_edges (frame_allocas (length f.names) (function_frames room f)) 0
      (elided_blocks room 0 (length f.names) f.blocks)
      ∙ edges_by 0 0 (length f.names) f.blocks

-- ---- calls that stand in coroutines alone

abbrev pub calls_own : Instr → Bool
calls_own (Instr.Call result must_tail ty (Callee.Intrinsic j) args) = is_own j
calls_own _ = false

abbrev pub NoneOwn : List Instr → Type 0
NoneOwn is = Without calls_own is

given_none : (n : ℕ) (i : Instr) → calls_own i ≡ false → calls_own (given_call n i) ≡ false
given_none n (Instr.Call result must_tail ty (Callee.Named g) args) h = refl
given_none n (Instr.Call result must_tail ty (Callee.Allocator a) args) h = h
given_none n (Instr.Call result must_tail ty (Callee.Intrinsic j) args) h = h
given_none n (Instr.Call result must_tail ty (Callee.Local v) args) h = h
given_none n (Instr.Binary r op flags ty a b) h = h
given_none n (Instr.Icmp r pred ty a b) h = h
given_none n (Instr.Select r x a b) h = h
given_none n (Instr.Cast r op nneg arg to) h = h
given_none n (Instr.Alloca r ty align) h = h
given_none n (Instr.Load r ty p align) h = h
given_none n (Instr.Store arg p align) h = h
given_none n (Instr.Gep r inbounds ty base indices) h = h

address_none : (n base distance : ℕ) → Without calls_own (frame_address n (GivenFrame.Field base distance))
address_none n base distance = none_one calls_own _ refl

alloca_none : (n : ℕ) (r : GivenFrame) → Without calls_own (frame_alloca n r)
alloca_none n (GivenFrame.Alloca size align) = none_one calls_own _ refl
alloca_none n (GivenFrame.Field base distance) = none_empty calls_own

own_none : (room : Rooms) (f : Function) → ((block : ℕ) → NoneOwn (instrs_of f block)) → (block : ℕ)
    → NoneOwn (instrs_of (elided_function room f) block)
own_none = function_none calls_own alloca_none given_none address_none

-- ---- switches behind suspends

pub suspend_own : (i : Instr) → is_call_of Intrinsic.CoroSuspend i ≡ true → calls_own i ≡ true
suspend_own (Instr.Call result must_tail ty (Callee.Intrinsic j) args) h = by j h
  where
    by : (j : Intrinsic) → same_intrinsic Intrinsic.CoroSuspend j ≡ true → is_own j ≡ true
    by Intrinsic.CoroSuspend is = refl
    by _ is = absurd (cc)
suspend_own _ h = absurd (cc)

save_own : (i : Instr) → is_call_of Intrinsic.CoroSave i ≡ true → calls_own i ≡ true
save_own (Instr.Call result must_tail ty (Callee.Intrinsic j) args) h = by j h
  where
    by : (j : Intrinsic) → same_intrinsic Intrinsic.CoroSave j ≡ true → is_own j ≡ true
    by Intrinsic.CoroSave is = refl
    by _ is = absurd (cc)
save_own _ h = absurd (cc)

is_suspend_own : (i : Instr) → is_suspend i ≡ true → calls_own i ≡ true
is_suspend_own (Instr.Call result must_tail ty (Callee.Intrinsic Intrinsic.CoroSuspend) args) h = refl
is_suspend_own _ h = absurd (cc)

-- what is fetched in a function that has no such call is none
pub fetched_none : (f : Function) → ((block : ℕ) → NoneOwn (instrs_of f block)) → (block at : ℕ) (i : Instr)
    → fetch f block at ≡ AtInstr i → calls_own i ≡ true → ⊥
unfolding Without
fetched_none f none block at i there own =
    not_both (calls_own i) own (none block at i (instr_there f block at i there))

none_switches : (f : Function) → ((block : ℕ) → NoneOwn (instrs_of f block)) → HasSwitches f
none_switches f none = record {
  switched = λ s c. absurd (fetched_none f none s.block s.at c.instr c.stands (suspend_own c.instr c.is));
  leads = λ k s c is. absurd (fetched_none f none k.block k.at c.instr c.stands (save_own c.instr c.is));
}

none_switched : (f : Function) → ((block : ℕ) → NoneOwn (instrs_of f block)) → AreSwitched f
unfolding Without
none_switched f none k x b i whole there is =
    absurd (not_both (calls_own i) (is_suspend_own i is)
    (none k x i (ap (λ (o : Option Block). slice_get (instrs_in o) x) whole ∙ there)))

module _ (e : Elision) (keeps : KeepsPlaces e) where
  plain_none : (func : ℕ) → (function_in e func).coroutine ≡ false → (block : ℕ)
      → NoneOwn (instrs_of (function_in e func) block)
  unfolding Without
  plain_none func plain block k i at = by i at
    where
      on : (j : Intrinsic) (result : Option ℕ) (must_tail : Bool) (ty : Option Ty) (args : List Arg) (t : Bool)
          → is_own j ≡ t
          → slice_get (instrs_of (function_in e func) block) k
          ≡ Some (Instr.Call result must_tail ty (Callee.Intrinsic j) args) → is_own j ≡ false
      on j result must_tail ty args false own at = own
      on j result must_tail ty args true own at =
          absurd (not_both (function_in e func).coroutine
          ((keeps.instrs func).own block k result must_tail ty j args at own) plain)

      by : (i : Instr) → slice_get (instrs_of (function_in e func) block) k ≡ Some i → calls_own i ≡ false
      by (Instr.Call result must_tail ty (Callee.Intrinsic j) args) at =
          on j result must_tail ty args (is_own j) refl at
      by _ at = refl

  -- a function that is no coroutine has no such call in the elided module either
  pub elided_none : (func : ℕ) → (function_in e func).coroutine ≡ false → (block : ℕ)
      → NoneOwn (instrs_of (function_at (elided_code e) func) block)
  elided_none func plain block =
      subst (λ (f : Function). NoneOwn (instrs_of f block)) (sym ((finds_alike e).functions func))
      (own_none (rooms e func) (function_in e func) (plain_none func plain) block)

  -- a coroutine is as it was
  pub coroutine_same : (func : ℕ) → (function_in e func).coroutine ≡ true
      → function_at (elided_code e) func ≡ function_in e func
  coroutine_same func is =
      (finds_alike e).functions func
      ∙ function_same (rooms e func) (keeps.wakes func is).none (function_in e func)

  -- so is whether a function is a coroutine
  pub same_kind_of : (func : ℕ) → (function_at (elided_code e) func).coroutine ≡ (function_in e func).coroutine
  same_kind_of func = ap (λ (f : Function). f.coroutine) ((finds_alike e).functions func)

  by_kind : (P : Function → Type 0) → ((f : Function) → ((block : ℕ) → NoneOwn (instrs_of f block)) → P f)
      → ((func : ℕ) → P (function_in e func)) → (func : ℕ) → P (function_at (elided_code e) func)
  by_kind P plain old func = by (function_in e func).coroutine refl
    where
      by : (t : Bool) → (function_in e func).coroutine ≡ t → P (function_at (elided_code e) func)
      by true is = subst P (sym (coroutine_same func is)) (old func)
      by false is = plain (function_at (elided_code e) func) (elided_none func is)

  pub elided_switches : AllHaveSwitches e.code → AllHaveSwitches (elided_code e)
  elided_switches switches = by_kind HasSwitches none_switches switches

  pub elided_switched : ((func : ℕ) → AreSwitched (function_in e func)) → (func : ℕ)
      → AreSwitched (function_at (elided_code e) func)
  elided_switched switched = by_kind AreSwitched none_switched switched
