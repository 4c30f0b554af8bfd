-- Values of names of allocas, where activations go on and memory changes.
use Rattle.std.proofs.Common.{◌≡◌, ◌⊎◌, inl, inr, ⊎_elim, ℕ, zero, suc, Bool, true, false, List, [], ◌∷◌, ◌++◌}
use Rattle.std.proofs.Common.{Option, Some, None, Result, Ok, Err, refl, sym, ap, ◌∙◌, subst, not, ◌&&◌, ◌||◌, ◌==◌}
use Rattle.std.specs.Prelude.{if◌then◌else◌, slice_get, slice_set}
use Rattle.pass_frames_proof.specs.ir_base.declared.cause.Cause.{Cause}
use Rattle.pass_frames_proof.specs.ir_model.Names.{function_at}
use Rattle.pass_frames_proof.specs.ir_model.Ty.{Ty}
use Rattle.pass_frames_proof.specs.ir_model.declared.instr.Instr.{Instr}
use Rattle.pass_frames_proof.specs.ir_model.declared.module.Function.{Function}
use Rattle.pass_frames_proof.specs.ir_model.declared.module.Module.{Module}
use Rattle.pass_frames_meaning.proofs.led.LedHooks.{kept_value}
use Rattle.pass_frames_meaning.specs.Framed.{AreAllocas, AreAllocasAsleep, AreAllocasIn, AreAllocasOn}
use Rattle.pass_frames_meaning.specs.Framed.{IsNoAlloca, is_alloca_in}
use Rattle.pass_frames_proof.specs.pass_kept_proof.Kept.{kept}
use Rattle.pass_frames_proof.specs.pass_kept_proof.Needed.{given_by}
use Rattle.pass_frames_proof.proofs.pass_renewed_proof.Sets.{result_elsewhere}
use Rattle.pass_frames_proof.specs.pass_renewed_proof.Renewed.{in_new_slot, renewed_value, renewed_values}
use Rattle.pass_frames_proof.specs.pass_renewed_proof.SlotRules.{IsMadeOnce, KeepsSlots}
use Rattle.pass_frames_proof.specs.pass_renewed_proof.Steps.{given_at}
use Rattle.pass_renewed_meaning.proofs.run_hooks.alive.Changes.{entry_unset, phis_other}
use Rattle.pass_renewed_meaning.proofs.run_hooks.alive.Parts.{Here, IsSet, Other, get_set}
use Rattle.pass_frames_proof.specs.run_memory.Memory.{check, disown, disowned, is_owned, is_unkilled, killed, killed_block, may_be_owned}
use Rattle.pass_frames_proof.specs.run_memory.Memory.{own, owned_to, same_kind, with_block}
use Rattle.pass_frames_proof.specs.run_memory.declared.block.Kind.{Kind}
use Rattle.pass_frames_proof.specs.run_memory.declared.block.MemoryBlock.{MemoryBlock}
use Rattle.pass_frames_proof.specs.run_memory.declared.pointer.Pointer.{Pointer}
use Rattle.pass_frames_proof.specs.run_memory.declared.pointer.Value.{Value}
use Rattle.run_slots.proofs.Blocks.{AreAlike, alloca_alike}
use Rattle.pass_frames_proof.specs.run_source.declared.state.Activation.{Activation}
use Rattle.pass_frames_proof.specs.run_source.declared.state.Instance.{Instance}
use Rattle.pass_frames_proof.specs.run_source.declared.state.Status.{Status}
use Rattle.pass_frames_proof.specs.run_step.Step.{AtInstr, block_of, deallocated, entry_values, fetch, phis_of, values_in, without_slots}
use Rattle.pass_frames_proof.specs.run_step.Values.{Env, value_in, value_or_poison, with_result}
use Rattle.pass_frames_proof.specs.run_step.declared.world.Slot.{Slot}

-- ---- what gives the name

-- it is the alloca
pub alloca_given : (f : Function) (block at : ℕ) (i : Instr) → fetch f block at ≡ AtInstr i → (v : ℕ) → IsMadeOnce f v
    → given_by i ≡ Some v → (ty : Ty) × (align : ℕ) × (i ≡ Instr.Alloca v ty align)
alloca_given f block at i stands v made e =
    let p = made.alone block at (ap given_at stands ∙ e) in
    let there : fetch f block at ≡ fetch f 0 made.at = λ j. fetch f (p.0 j) (p.1 j) in
    let both : AtInstr (Instr.Alloca v made.ty made.align) ≡ AtInstr i = sym made.stands ∙ sym there ∙ stands in
    let same : Instr.Alloca v made.ty made.align ≡ i = cc in
    (made.ty, made.align, sym same)

-- ---- values

pub same_allocas : (memory : List MemoryBlock) (f : Function) (a b : Env)
    → ((v : ℕ) → IsMadeOnce f v → value_in b v ≡ value_in a v) → AreAllocas memory f a → AreAllocas memory f b
same_allocas memory f a b same h v n made e = h v n made (sym (ap block_of (same v made)) ∙ e)

pub result_allocas : (memory : List MemoryBlock) (f : Function) (env : Env) (result : Option ℕ) (x : Value)
    → IsNoAlloca f result → AreAllocas memory f env → AreAllocas memory f (with_result env result x)
result_allocas memory f env result x free h =
    same_allocas memory f env (with_result env result x)
    (λ v made. result_elsewhere env result v x (free v made)) h

pub entered_allocas : (m : Module) (memory : List MemoryBlock) (f : Function) (block label : ℕ) (env : Env)
    → AreAllocas memory f env → AreAllocas memory f (values_in m (slice_get f.blocks block) label env)
entered_allocas m memory f block label env h =
    same_allocas memory f env (values_in m (slice_get f.blocks block) label env)
    (λ v made. phis_other m env label (phis_of (slice_get f.blocks block)) env v (made.no_phi block)) h

no_block : (v : Value) (n : ℕ) → v ≡ Value.Poison → block_of v ≡ Some n → ⊥
no_block v n e d = let none : None ≡ Some n = sym (ap block_of e) ∙ d in cc

pub entry_allocas : (memory : List MemoryBlock) (f : Function) (args : List Value)
    → AreAllocas memory f (entry_values f args)
entry_allocas memory f args v n made e =
    absurd (no_block (value_in (entry_values f args) v) n (entry_unset f args v made) e)

pub kept_allocas : (memory : List MemoryBlock) (f : Function) (keep : ℕ → Bool) (env : Env) → AreAllocas memory f env
    → AreAllocas memory f (kept keep env)
kept_allocas memory f keep env h v n made e = on (kept_value keep env v)
  where
    on : (value_in (kept keep env) v ≡ value_in env v) ⊎ (value_in (kept keep env) v ≡ Value.Poison)
        → is_alloca_in (slice_get memory n) ≡ true
    on (inl same) = h v n made (sym (ap block_of same) ∙ e)
    on (inr none) = absurd (no_block (value_in (kept keep env) v) n none e)

-- an address that is moved has the block of its own or of its new slot
slot_block : (r v : Value) (n : ℕ) → block_of (in_new_slot r v) ≡ Some n → (block_of v ≡ Some n) ⊎ (block_of r ≡ Some n)
slot_block (Value.Ptr (Pointer.At b o)) (Value.Ptr (Pointer.At c p)) n e = inr e
slot_block (Value.Ptr (Pointer.At b o)) (Value.Ptr Pointer.Null) n e = inl e
slot_block (Value.Ptr (Pointer.At b o)) (Value.Ptr (Pointer.Func f)) n e = inl e
slot_block (Value.Ptr (Pointer.At b o)) (Value.Int x) n e = inl e
slot_block (Value.Ptr (Pointer.At b o)) Value.Poison n e = inl e
slot_block (Value.Ptr Pointer.Null) v n e = inl e
slot_block (Value.Ptr (Pointer.Func f)) v n e = inl e
slot_block (Value.Int x) v n e = inl e
slot_block Value.Poison v n e = inl e

renewed_block : (roots : ℕ → Option ℕ) (env vs : Env) (v n : ℕ)
    → block_of (value_in (renewed_values roots env vs) v) ≡ Some n
    → (block_of (value_in vs v) ≡ Some n) ⊎ ((a : ℕ) × (roots v ≡ Some a) × (block_of (value_in env a) ≡ Some n))
renewed_block roots env [] v n e = inl e
renewed_block roots env (x ∷ vs) (suc v) n e = renewed_block (λ i. roots (suc i)) env vs v n e
renewed_block roots env (x ∷ vs) zero n e = on (roots 0) refl x e
  where
    on : (o : Option ℕ) → roots 0 ≡ o → (x : Option Value)
        → block_of (value_or_poison (Some (renewed_value env o x))) ≡ Some n
        → (block_of (value_or_poison (Some x)) ≡ Some n)
        ⊎ ((a : ℕ) × (roots 0 ≡ Some a) × (block_of (value_in env a) ≡ Some n))
    on None d x e = inl e
    on (Some a) d None e = inl e
    on (Some a) d (Some w) e = ⊎_elim (λ k. inl k) (λ k. inr (a, d, k)) (slot_block (value_in env a) w n e)

pub renewed_allocas : (memory : List MemoryBlock) (m : Module) (f : Function) (flags : ℕ → Bool) (roots : ℕ → Option ℕ)
    → KeepsSlots m f flags roots → (env : Env) → AreAllocas memory f env
    → AreAllocas memory f (renewed_values roots env env)
renewed_allocas memory m f flags roots rules env h v n made e =
    ⊎_elim (λ k. h v n made k) (λ k. h k.0 n (rules.made k.0 (rules.rooted v k.0 k.1).0) k.2)
    (renewed_block roots env env v n e)

-- ---- memories

-- allocas' blocks are so still
abbrev pub Stay : List MemoryBlock → List MemoryBlock → Type 0
Stay m k = (n : ℕ) → is_alloca_in (slice_get m n) ≡ true → is_alloca_in (slice_get k n) ≡ true

with_same : (f : MemoryBlock → MemoryBlock) → ((x : MemoryBlock) → (f x).kind ≡ x.kind) → (m : List MemoryBlock)
    (b n : ℕ) → is_alloca_in (slice_get (with_block m b f) n) ≡ is_alloca_in (slice_get m n)
with_same f h [] b n = refl
with_same f h (x ∷ m) zero zero = ap (λ (k : Kind). same_kind k Kind.Slot || same_kind k Kind.Stack) (h x)
with_same f h (x ∷ m) zero (suc n) = refl
with_same f h (x ∷ m) (suc b) zero = refl
with_same f h (x ∷ m) (suc b) (suc n) = with_same f h m b n

pub with_stay : (f : MemoryBlock → MemoryBlock) → ((x : MemoryBlock) → (f x).kind ≡ x.kind) → (m : List MemoryBlock)
    (b : ℕ) → Stay m (with_block m b f)
with_stay f h m b n e = with_same f h m b n ∙ e

pub killed_stay : (m : List MemoryBlock) (b : ℕ) → Stay m (killed m b)
killed_stay m b = with_stay killed_block (λ x. refl) m b

pub disown_stay : (m : List MemoryBlock) (b : ℕ) → Stay m (disown m b)
disown_stay m b = with_stay disowned (λ x. refl) m b

pub without_stay : (m : List MemoryBlock) (ss : List Slot) → Stay m (without_slots m ss)
without_stay m [] n e = e
without_stay m (s ∷ ss) n e = without_stay (killed m s.block) ss n (killed_stay m s.block n e)

abbrev pub GivesStay : List MemoryBlock → Result (List MemoryBlock) Cause → Type 0
GivesStay m (Err cause) = Unit {0}
GivesStay m (Ok k) = Stay m k

kill_stay : (m : List MemoryBlock) (b : ℕ) (t u : Bool)
    → GivesStay m (if t then Err Cause.Free else if u then Err Cause.Owned else Ok (killed m b))
kill_stay m b true u = tt
kill_stay m b false true = tt
kill_stay m b false false = killed_stay m b

pub deallocated_stay : (m : List MemoryBlock) (v : Value) → GivesStay m (deallocated m v)
deallocated_stay m (Value.Ptr Pointer.Null) = λ n e. e
deallocated_stay m (Value.Ptr (Pointer.At b o)) =
    kill_stay m b (not ((o.bits == 0) && is_unkilled Kind.Allocator (slice_get m b))) (is_owned (slice_get m b))
deallocated_stay m (Value.Ptr (Pointer.Func f)) = tt
deallocated_stay m Value.Poison = tt
deallocated_stay m (Value.Int x) = tt

pub own_stay : (m : List MemoryBlock) (v : Value) (n : ℕ) (kind : Kind) → GivesStay m (own m v n kind)
own_stay m (Value.Ptr (Pointer.At b o)) n kind = on ((o.bits == 0) && may_be_owned kind n (slice_get m b))
  where
    on : (t : Bool) → GivesStay m (check t Cause.Begin (Ok (with_block m b (owned_to n))))
    on true = with_stay (owned_to n) (λ x. refl) m b
    on false = tt
own_stay m (Value.Ptr Pointer.Null) n kind = tt
own_stay m (Value.Ptr (Pointer.Func f)) n kind = tt
own_stay m Value.Poison n kind = tt
own_stay m (Value.Int x) n kind = tt

pub alike_stay : (m k : List MemoryBlock) → AreAlike m k → Stay m k
alike_stay m k h n e = on (slice_get m n) refl e
  where
    on : (o : Option MemoryBlock) → slice_get m n ≡ o → is_alloca_in o ≡ true → is_alloca_in (slice_get k n) ≡ true
    on None d e = absurd (cc)
    on (Some x) d e = let r = h.each n x d in ap is_alloca_in r.there ∙ alloca_alike x r.block r.alike ∙ e

pub more_stay : (m : List MemoryBlock) (z : MemoryBlock) → Stay m (m ++ z ∷ [])
more_stay [] z n e = absurd (cc)
more_stay (x ∷ m) z zero e = e
more_stay (x ∷ m) z (suc n) e = more_stay m z n e

-- ---- states

module _ (code : Module) (m k : List MemoryBlock) (stay : Stay m k) where
  on_stay : (as' : List Activation) → AreAllocasOn code m as' → AreAllocasOn code k as'
  on_stay [] h = tt
  on_stay (a ∷ as') h = (λ v n made e. stay n (h.0 v n made e), on_stay as' h.1)

  asleep_stay : (f : Function) (st : Status) → AreAllocasAsleep m f st → AreAllocasAsleep k f st
  asleep_stay f Status.Running h = tt
  asleep_stay f (Status.Suspended u values) h = λ v n made e. stay n (h v n made e)
  asleep_stay f Status.Finished h = tt

  pub all_stay : (as' : List Activation) (xs : List Instance) → AreAllocasOn code m as' × AreAllocasIn code m xs
      → AreAllocasOn code k as' × AreAllocasIn code k xs
  all_stay as' xs h = (
    on_stay as' h.0,
    λ i x e. asleep_stay (function_at code x.coroutine) x.status (h.1 i x e),
  )

-- an instance changes
pub set_asleep : (code : Module) (m : List MemoryBlock) (xs : List Instance) (i : ℕ) (y : Instance)
    → AreAllocasAsleep m (function_at code y.coroutine) y.status → AreAllocasIn code m xs
    → AreAllocasIn code m (slice_set xs i y)
set_asleep code m xs i y k h j z e = on (get_set xs i y j z e)
  where
    on : IsSet xs i y j z → AreAllocasAsleep m (function_at code z.coroutine) z.status
    on (Here a b) =
        subst (λ (w : Instance). AreAllocasAsleep m (function_at code w.coroutine) w.status) (sym b) k
    on (Other a b) = h j z b
