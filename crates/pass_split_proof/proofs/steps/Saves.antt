-- A save in both runs: four steps of the part.
use Rattle.std.proofs.Common.{◌≡◌, ℕ, zero, suc, ◌+◌, ◌<◌, ◌≤◌, ◌^◌, Bool, List, [], ◌∷◌, length, Option, Some, refl, sym, ap, ◌∙◌, subst, ⊎_elim, arith}
use Rattle.std.specs.Prelude.{slice_get, slice_set, pos}
use Rattle.std.proofs.lemmas.Bool.{cases_eq}
use Rattle.std.proofs.lemmas.Option.{slice_get_within}
use Rattle.pass_proofs.proofs.flow_solver.Lists.{set_here, set_other}
use Rattle.pass_proofs.specs.ir_model.Ty.{ptr}
use Rattle.pass_proofs.specs.ir_model.TypeView.{bits_of}
use Rattle.pass_proofs.specs.ir_model.declared.instr.Instr.{Instr}
use Rattle.pass_proofs.specs.ir_model.declared.ir_type.IntWidth.{IntWidth}
use Rattle.pass_proofs.specs.ir_model.declared.operand.Operand.{Operand}
use Rattle.pass_proofs.specs.pass_intrinsics.Lowered.{address, number_arg, store_pointer}
use Rattle.pass_proofs.specs.pass_intrinsics.Shapes.{index_bytes}
use Rattle.pass_proofs.specs.pass_intrinsics.declared.shape.Shape.{Shape}
use Rattle.pass_split_proof.proofs.states.Advanced.{KeepsFrames}
use Rattle.pass_proofs.proofs.addresses.numbers.Done.{address_done}
use Rattle.pass_split_proof.proofs.steps.Small.{index_stored, pointer_stored}
use Rattle.pass_split_proof.specs.states.Values.{AreValuesOf}
use Rattle.pass_split_proof.specs.steps.Small.{IsIndexWidth}
use Rattle.pass_proofs.proofs.run_laws.transfer.Sets.{set_elsewhere, set_length}
use Rattle.pass_proofs.specs.run_laws.access.Lines.{Holds, pointer_at, refilled_at}
use Rattle.pass_proofs.specs.run_laws.memory.Pointers.{Home, IsValue}
use Rattle.pass_proofs.specs.run_memory.Memory.{digits, encode}
use Rattle.pass_proofs.specs.run_memory.declared.block.Byte.{Byte}
use Rattle.pass_proofs.specs.run_memory.declared.block.MemoryBlock.{MemoryBlock}
use Rattle.pass_proofs.specs.run_memory.declared.pointer.Pointer.{Pointer}
use Rattle.pass_proofs.specs.run_memory.declared.pointer.Value.{Value}
use Rattle.pass_proofs.specs.run_source.State.{frame_address_of}
use Rattle.pass_proofs.specs.run_source.declared.state.Instance.{Instance}
use Rattle.pass_proofs.specs.run_source.declared.state.Saved.{Saved}
use Rattle.pass_proofs.specs.run_source.declared.state.Status.{Status}
use Rattle.pass_split_proof.specs.states.Instances.{in_state}
use Rattle.pass_proofs.specs.ir_model.declared.module.Function.{Function}
use Rattle.pass_proofs.specs.run_step.Step.{Context, Work, set_memory, set_value, value_at}
use Rattle.pass_proofs.specs.run_step.Values.{Env, value_in, with_value}
use Rattle.pass_split_proof.proofs.steps.Through.{RunsThrough}

-- ---- names that the framed run hasn't

past_poison : (env : Env) (n : ℕ) → length env ≤ n → value_in env n ≡ Value.Poison
past_poison [] n le = refl
past_poison (v ∷ env) zero le = absurd (omega arith)
past_poison (v ∷ env) (suc n) le = past_poison env n (omega arith)

-- a name more of the part's
pub values_extra : (f : Function) (homes : List Home) (env other : Env) (n : ℕ) (v : Value) → length env ≤ n
    → AreValuesOf f homes env other → AreValuesOf f homes env (with_value other n v)
values_extra f homes env other n v past values = record {
  each = λ a no_stop. ⊎_elim
      (λ e. subst (λ (u : Value). IsValue homes u (value_in (with_value other n v) a))
      (sym (past_poison env a (from a n e past))) tt)
      (λ ne. subst (λ (u : Value). IsValue homes (value_in env a) u)
      (sym (set_elsewhere other n a v (λ e. ne (sym e)))) (values.each a no_stop))
      (cases_eq a n);
  room = let l = set_length other n v in let r = values.room in omega arith;
}
  where
    from : (a n : ℕ) {k : ℕ} → a ≡ n → k ≤ n → k ≤ a
    from a n e le = omega arith

-- it has the value
pub set_there : (env : Env) (n : ℕ) (v : Value) → n < length env → value_in (with_value env n v) n ≡ v
set_there [] n v lt = absurd (omega arith)
set_there (u ∷ env) zero v lt = refl
set_there (u ∷ env) (suc n) v lt = set_there env n v (omega arith)

-- ---- an instance that changes has its frame where it had it

pub set_keeps : (xs : List Instance) (i : ℕ) (x now : Instance) → slice_get xs i ≡ Some x
    → now.coroutine ≡ x.coroutine → frame_address_of now ≡ frame_address_of x → KeepsFrames xs (slice_set xs i now)
set_keeps xs i x now e coroutine address = record {
  each = λ j z f. ⊎_elim
      (λ is. let same : x ≡ z = one x z (sym e ∙ ap (slice_get xs) (sym is) ∙ f) in (
        now,
        (
          ap (slice_get (slice_set xs i now)) is ∙ set_here xs i now (slice_get_within xs i x e),
          coroutine ∙ ap (λ (w : Instance). w.coroutine) same,
          address ∙ ap frame_address_of same,
        ),
      ))
      (λ ne. (z, (set_other xs i j now ne ∙ f, refl, refl)))
      (cases_eq j i);
}
  where
    one : (x z : Instance) → Some x ≡ Some z → x ≡ z
    one x z h = cc

pub state_frames : (xs : List Instance) (i : ℕ) (x : Instance) (status : Status) (saved : Option Saved)
    (released : Bool) → slice_get xs i ≡ Some x → KeepsFrames xs (slice_set xs i (in_state x status saved released))
state_frames xs i x status saved released e = set_keeps xs i x (in_state x status saved released) e refl refl

-- ---- the line of a save

module _ (c : Context) (w : Work) (s : Shape) (n j b o : ℕ) (x : Operand) (q : Pointer) (old older : List Byte) where
  abbrev line : List Instr
  line = address n (Operand.Local s.begin) (pos s.index)
      ∷ Instr.Store (number_arg (bits_of s.width) (pos j)) (Operand.Local n) (index_bytes s.width)
      ∷ store_pointer x (Operand.Local s.begin)
      ∷ []

  abbrev indexed : List MemoryBlock
  indexed = refilled_at w.world.memory b (o + s.index) (digits (index_bytes s.width) j)

  abbrev one : Work
  one = set_value w n (pointer_at b (o + s.index))

  abbrev two : Work
  two = set_memory one indexed

  abbrev three : Work
  three = set_memory one (refilled_at indexed b o (encode 8 (Value.Ptr q)))

  pub save_runs : value_in w.values s.begin ≡ pointer_at b o → o + s.index < 2 ^ 64 → (n ≡ s.begin → ⊥)
      → n < length w.values
      → IsIndexWidth s.width → (s.width ≡ IntWidth.I8 → j < 2 ^ 8) → (s.width ≡ IntWidth.I16 → j < 2 ^ 16)
      → Holds c.rights w.world.memory b (o + s.index) (index_bytes s.width) old → length old ≡ index_bytes s.width
      → Holds c.rights indexed b o 8 older → length older ≡ 8
      → value_at c two ptr x ≡ Value.Ptr q → (P : List MemoryBlock → Type 0) → P w.world.memory → P indexed
      → P three.world.memory → RunsThrough P c line w three
  save_runs begin small other room width eight sixteen first long second longer is P none index all = (
    one,
    (
      address_done c w n b o s.index (Operand.Local s.begin) begin small,
      (
        none,
        (
          two,
          (
            index_stored c one s.width b (o + s.index) j (Operand.Local n) old eight sixteen
                (set_there w.values n (pointer_at b (o + s.index)) room) first long width,
            (
              index,
              (
                three,
                (
                  pointer_stored c two b o 8 x (Operand.Local s.begin) q older (set_elsewhere w.values n s.begin
                      (pointer_at b (o + s.index)) other ∙ begin) is second longer (omega arith),
                  (all, refl),
                ),
              ),
            ),
          ),
        ),
      ),
    ),
  )
