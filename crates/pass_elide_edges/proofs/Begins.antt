-- In an elided module coro.begin stands in coroutines too.
use Rattle.std.proofs.Common.{◌≡◌, ℕ, suc, Bool, false, List, [], ◌∷◌, ◌+◌, ◌++◌, length, Option, sym, ap, ◌∙◌, refl}
use Rattle.std.specs.Prelude.{None, Some, slice_get}
use Rattle.pass_elide.specs.Elided.{block_frames, elided_blocks, elided_by, elided_instrs, frame_allocas, frames_by, function_frames, given_call, with_front}
use Rattle.pass_elide.specs.declared.given.GivenFrame.{GivenFrame}
use Rattle.pass_elide_edges.proofs.Alike.{each_at}
use Rattle.pass_elide_proof.proofs.ElidedFound.{fetched}
use Rattle.pass_elide_proof.proofs.Facts.{not_both}
use Rattle.pass_elide_proof.proofs.Modules.{finds_alike}
use Rattle.pass_elide_proof.proofs.OwnPlaces.{instr_there}
use Rattle.pass_elide_proof.proofs.PlacingFacts.{by_truth}
use Rattle.pass_elide_proof.proofs.PlacingStarts.{begins_of}
use Rattle.pass_elide_proof.specs.Elision.{Elision, elided_code, function_in, function_in_elided, rooms}
use Rattle.pass_elide_proof.specs.Places.{Rooms, allocas_ahead, instrs_in, instrs_of}
use Rattle.pass_elide_proof.specs.Placing.{KeepsPlaces}
use Rattle.pass_elide_proof.specs.PlacingStates.{BeginsInCoroutines}
use Rattle.pass_elide_proof.specs.pass_proofs.ir_model.Ty.{Ty}
use Rattle.pass_elide_proof.specs.pass_proofs.ir_model.declared.instr.Instr.{Instr}
use Rattle.pass_elide_proof.specs.pass_proofs.ir_model.declared.module.Block.{Block}
use Rattle.pass_elide_proof.specs.pass_proofs.ir_model.declared.module.Function.{Function}
use Rattle.pass_elide_proof.specs.pass_proofs.ir_model.declared.operand.Arg.{Arg}
use Rattle.pass_elide_proof.specs.pass_proofs.ir_model.declared.operand.Callee.{Callee}
use Rattle.pass_elide_proof.specs.pass_proofs.ir_model.declared.operand.Intrinsic.{Intrinsic}
use Rattle.pass_elide_proof.specs.pass_proofs.ir_paths.Windows.{is_call_of}
use Rattle.pass_elide_proof.specs.pass_proofs.run_laws.changed.Changed.{Each}

abbrev begins : Instr → Bool
begins i = is_call_of Intrinsic.CoroBegin i

abbrev Calm : Instr → Type 0
Calm i = begins i ≡ false

abbrev CalmBlock : Block → Type 0
CalmBlock b = Each Calm b.instrs

-- ---- lists

each_append : {A : Type 0} (P : A → Type 0) (xs ys : List A) → Each P xs → Each P ys → Each P (xs ++ ys)
each_append P [] ys h k = k
each_append P (x ∷ xs) ys h k = (h.0, each_append P xs ys h.1 k)

each_from : {A : Type 0} (P : A → Type 0) (xs : List A) → ((k : ℕ) (x : A) → slice_get xs k ≡ Some x → P x)
    → Each P xs
each_from P [] h = tt
each_from P (x ∷ xs) h = (h 0 x refl, each_from P xs (λ k y is. h (suc k) y is))

-- ---- what is put in

call_calm : (n : ℕ) (result : Option ℕ) (must_tail : Bool) (ty : Option Ty) (callee : Callee) (args : List Arg)
    → Calm (Instr.Call result must_tail ty callee args)
    → Calm (given_call n (Instr.Call result must_tail ty callee args))
call_calm n result must_tail ty (Callee.Named g) args h = refl
call_calm n result must_tail ty (Callee.Allocator a) args h = refl
call_calm n result must_tail ty (Callee.Intrinsic i) args h = h
call_calm n result must_tail ty (Callee.Local v) args h = refl

given_calm : (n : ℕ) (i : Instr) → Calm i → Calm (given_call n i)
given_calm n (Instr.Call result must_tail ty callee args) h = call_calm n result must_tail ty callee args h
given_calm n (Instr.Binary name op flags ty a b) h = refl
given_calm n (Instr.Icmp name pred ty a b) h = refl
given_calm n (Instr.Select name x a b) h = refl
given_calm n (Instr.Cast name op nneg arg to) h = refl
given_calm n (Instr.Alloca name ty align) h = refl
given_calm n (Instr.Load name ty p align) h = refl
given_calm n (Instr.Store arg p align) h = refl
given_calm n (Instr.Gep name inbounds ty base indices) h = refl

by_calm : (n : ℕ) (o : Option GivenFrame) (i : Instr) → Calm i → Each Calm (elided_by n o i)
by_calm n None i h = (h, tt)
by_calm n (Some (GivenFrame.Alloca size align)) i h = (given_calm n i h, tt)
by_calm n (Some (GivenFrame.Field base distance)) i h = (refl, (given_calm n i h, tt))

instrs_calm : (room : ℕ → Instr → Option GivenFrame) (at n : ℕ) (is : List Instr) → Each Calm is
    → Each Calm (elided_instrs room at n is)
instrs_calm room at n [] h = tt
instrs_calm room at n (i ∷ is) h =
    each_append Calm (elided_by n (room at i) i) (elided_instrs room (at + 1) (length (frames_by (room at i)) + n) is)
    (by_calm n (room at i) i h.0) (instrs_calm room (at + 1) (length (frames_by (room at i)) + n) is h.1)

allocas_calm : (n : ℕ) (rs : List GivenFrame) → Each Calm (frame_allocas n rs)
allocas_calm n [] = tt
allocas_calm n (GivenFrame.Alloca size align ∷ rs) = (refl, allocas_calm (n + 1) rs)
allocas_calm n (GivenFrame.Field base distance ∷ rs) = allocas_calm (n + 1) rs

blocks_calm : (room : Rooms) (s n : ℕ) (bs : List Block) → Each CalmBlock bs
    → Each CalmBlock (elided_blocks room s n bs)
blocks_calm room s n [] h = tt
blocks_calm room s n (b ∷ bs) h = (
  instrs_calm (room s) (length b.phis) n b.instrs h.0,
  blocks_calm room (s + 1) (length (block_frames room s b) + n) bs h.1,
)

front_calm : (front : List Instr) (bs : List Block) → Each Calm front → Each CalmBlock bs
    → Each CalmBlock (with_front front bs)
front_calm front [] h k = tt
front_calm front (b ∷ bs) h k = (each_append Calm front b.instrs h k.0, k.1)

-- ---- modules

module _ (e : Elision) (keeps : KeepsPlaces e) (func : ℕ) (plain : (function_in e func).coroutine ≡ false) where
  abbrev f : Function
  f = function_in e func

  abbrev h : Function
  h = function_in_elided e func

  own_calm : (block at : ℕ) (i : Instr) → slice_get (instrs_of f block) at ≡ Some i → Calm i
  own_calm block at i there =
      by_truth (begins i)
      (λ is. absurd (not_both f.coroutine (begins_of e keeps func block at i (fetched f block at i there) is) plain))
      (λ is. is)

  framed_calm : Each CalmBlock f.blocks
  framed_calm =
      each_from CalmBlock f.blocks
      (λ k b is. each_from Calm b.instrs
      (λ j i at. own_calm k j i (ap (λ (o : Option Block). slice_get (instrs_in o) j) is ∙ at)))

  elided_calm : Each CalmBlock (with_front (allocas_ahead (rooms e func) f)
      (elided_blocks (rooms e func) 0 (length f.names) f.blocks))
  elided_calm =
      front_calm (allocas_ahead (rooms e func) f) (elided_blocks (rooms e func) 0 (length f.names) f.blocks)
      (allocas_calm (length f.names) (function_frames (rooms e func) f))
      (blocks_calm (rooms e func) 0 (length f.names) f.blocks framed_calm)

  same_blocks : h.blocks ≡ with_front (allocas_ahead (rooms e func) f)
      (elided_blocks (rooms e func) 0 (length f.names) f.blocks)
  same_blocks = ap (λ (y : Function). y.blocks) ((finds_alike e).functions func)

  none_begins : (block at : ℕ) (i : Instr) → slice_get (instrs_of h block) at ≡ Some i → Calm i
  none_begins block at i there =
      on (slice_get (with_front (allocas_ahead (rooms e func) f)
      (elided_blocks (rooms e func) 0 (length f.names) f.blocks)) block) refl
      (ap (λ (bs : List Block). slice_get (instrs_in (slice_get bs block)) at) (sym same_blocks) ∙ there)
    where
      on : (o : Option Block) → slice_get (with_front (allocas_ahead (rooms e func) f)
          (elided_blocks (rooms e func) 0 (length f.names) f.blocks)) block ≡ o
          → slice_get (instrs_in o) at ≡ Some i → Calm i
      on None is k = absurd (cc)
      on (Some b) is k =
          each_at Calm b.instrs
          (each_at CalmBlock (with_front (allocas_ahead (rooms e func) f)
          (elided_blocks (rooms e func) 0 (length f.names) f.blocks)) elided_calm block b is) at i k

pub elided_begins : (e : Elision) → KeepsPlaces e → BeginsInCoroutines (elided_code e)
elided_begins e keeps func block at i there is =
    by_truth (function_in e func).coroutine
    (λ yet. ap (λ (y : Function). y.coroutine) ((finds_alike e).functions func) ∙ yet)
    (λ plain. absurd (not_both (begins i) is
    (none_begins e keeps func plain block at i (instr_there (function_in_elided e func) block at i there))))
