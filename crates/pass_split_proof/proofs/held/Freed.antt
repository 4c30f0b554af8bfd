-- A deallocator keeps frames in blocks of allocators, but for that of an instance that it frees.
use Rattle.std.proofs.Common.{◌≡◌, ℕ, zero, suc, Bool, true, false, not, List, [], ◌∷◌, Option, Some, None, Ok, Err, refl, sym, ap, ◌∙◌, subst, if◌then◌else◌, ◌&&◌, ◌==◌}
use Rattle.std.specs.Prelude.{slice_get, is_some}
use Rattle.std.proofs.lemmas.Bool.{and_parts, eqb-true, false≢true}
use Rattle.pass_proofs.specs.ir_base.declared.cause.Cause.{Cause}
use Rattle.pass_split_proof.proofs.held.Instances.{have_slots_on, kept_on}
use Rattle.pass_split_proof.proofs.held.LetGo.{have_slots_dead, let_go_kept, slots_dead, unkilled_at}
use Rattle.pass_split_proof.proofs.held.Memory.{Keeps, keeps_changed, keeps_dead, keeps_same, slots_on}
use Rattle.pass_split_proof.proofs.held.Moves.{StaysKept, ok_same, on_memory, then_kept}
use Rattle.pass_split_proof.proofs.steps.Woken.{found_there}
use Rattle.pass_split_proof.specs.held.Kept.{IsKeptState}
use Rattle.pass_proofs.proofs.run_laws.memory.Written.{changed_here}
use Rattle.pass_proofs.specs.run_memory.Memory.{disown, disowned, is_live, is_owned, is_unkilled, kill, killed, killed_block}
use Rattle.pass_proofs.specs.run_memory.declared.block.Kind.{Kind}
use Rattle.pass_proofs.specs.run_memory.declared.block.MemoryBlock.{MemoryBlock}
use Rattle.pass_proofs.specs.run_memory.declared.pointer.Offset.{Offset}
use Rattle.pass_proofs.specs.run_memory.declared.pointer.Pointer.{Pointer}
use Rattle.pass_proofs.specs.run_memory.declared.pointer.Value.{Value}
use Rattle.pass_proofs.proofs.run_source.Indexes.{last-passes}
use Rattle.pass_proofs.specs.run_source.Source.{deallocate, if_let_go, let_go, may_be_freed}
use Rattle.pass_proofs.specs.run_source.State.{began_at, is_suspended, last_where, next, with_memory}
use Rattle.pass_proofs.specs.run_source.declared.state.Instance.{Instance}
use Rattle.pass_proofs.specs.run_source.declared.state.State.{State}
use Rattle.pass_proofs.specs.run_step.Results.{and_then}
use Rattle.pass_proofs.specs.run_step.Step.{deallocated, without_slots}

-- ---- what a deallocator does to memory

pub record Killed (m : List MemoryBlock) (b : ℕ) (o : Offset) (k : List MemoryBlock) : Type 0 where
  pub start : (o.bits == 0) ≡ true
  pub unkilled : is_unkilled Kind.Allocator (slice_get m b) ≡ true
  pub unowned : is_owned (slice_get m b) ≡ false
  pub memory : k ≡ killed m b

pub killed_ok : (m : List MemoryBlock) (b : ℕ) (o : Offset) (k : List MemoryBlock)
    → kill m (Value.Ptr (Pointer.At b o)) Kind.Allocator ≡ Ok k → Killed m b o k
killed_ok m b o k h = on ((o.bits == 0) && is_unkilled Kind.Allocator (slice_get m b)) refl h
  where
    inner : (t : Bool) → is_owned (slice_get m b) ≡ t
        → ((o.bits == 0) && is_unkilled Kind.Allocator (slice_get m b)) ≡ true
        → (if t then Err Cause.Owned else Ok (killed m b)) ≡ Ok k → Killed m b o k
    inner true e f h = absurd (cc)
    inner false e f h =
        let p = and_parts (o.bits == 0) (is_unkilled Kind.Allocator (slice_get m b)) f in
        record {
          start = p.0;
          unkilled = p.1;
          unowned = e;
          memory
              = sym (ok_same (Ok (killed m b)) (killed m b) k refl h);
        }

    on : (t : Bool) → ((o.bits == 0) && is_unkilled Kind.Allocator (slice_get m b)) ≡ t
        → (if not t then Err Cause.Free else if is_owned (slice_get m b) then Err Cause.Owned else Ok (killed m b))
        ≡ Ok k → Killed m b o k
    on false e h = absurd (cc)
    on true e h = inner (is_owned (slice_get m b)) refl e h

keeps_killed : (m : List MemoryBlock) (b : ℕ) → is_owned (slice_get m b) ≡ false → Keeps m (killed m b)
keeps_killed m b unowned = keeps_changed m b killed_block (λ u e. record {
  heap = refl;
  stack = refl;
  kept = λ h c. absurd (false≢true (sym unowned ∙ ap is_owned e
      ∙ (and_parts (is_live u.life) (is_some u.owned) c).1));
  gone = λ h c. refl;
})

keeps_freed : (m k : List MemoryBlock) (p : Value) → deallocated m p ≡ Ok k → Keeps m k
keeps_freed m k (Value.Ptr Pointer.Null) h = subst (Keeps m) (ok_same (Ok m) m k refl h) (keeps_same m)
keeps_freed m k (Value.Ptr (Pointer.At b o)) h =
    let y = killed_ok m b o k h in subst (Keeps m) (sym y.memory) (keeps_killed m b y.unowned)
keeps_freed m k (Value.Ptr (Pointer.Func f)) h = absurd (cc)
keeps_freed m k (Value.Int x) h = absurd (cc)
keeps_freed m k Value.Poison h = absurd (cc)

-- ---- where no instance is freed

plain_freed : (s : State) (p : Value) → IsKeptState s
    → StaysKept (and_then (deallocated s.world.memory p) (λ (memory : List MemoryBlock).
    Ok (next (with_memory s memory))))
plain_freed s p k = then_kept (deallocated s.world.memory p)
    (λ (memory : List MemoryBlock). Ok (next (with_memory s memory)))
    (λ memory e. on_memory s (next (with_memory s memory)) k (keeps_freed s.world.memory memory p e) refl refl refl)

-- ---- where one is

pub unkilled_disowned : (m : List MemoryBlock) (b : ℕ) → is_unkilled Kind.Allocator (slice_get (disown m b) b) ≡ true
    → is_unkilled Kind.Allocator (slice_get m b) ≡ true
unkilled_disowned m b h = on (slice_get m b) refl
  where
    nothing : (m : List MemoryBlock) (b : ℕ) → slice_get m b ≡ None → slice_get (disown m b) b ≡ None
    nothing [] b e = refl
    nothing (x ∷ m) zero e = absurd (cc)
    nothing (x ∷ m) (suc b) e = nothing m b e

    on : (o : Option MemoryBlock) → slice_get m b ≡ o → is_unkilled Kind.Allocator (slice_get m b) ≡ true
    on None e = absurd (false≢true (sym (ap (is_unkilled Kind.Allocator) (nothing m b e)) ∙ h))
    on (Some u) e = ap (is_unkilled Kind.Allocator) e
        ∙ sym (ap (is_unkilled Kind.Allocator) (changed_here m b disowned u e)) ∙ h

module _ (s : State) (kept : IsKeptState s) (i : ℕ) (x : Instance) (there : slice_get s.instances i ≡ Some x)
    (may : may_be_freed x ≡ true) where
  abbrev m : List MemoryBlock
  m = without_slots s.world.memory x.slots

  dead : Keeps s.world.memory m
  dead = keeps_dead s.world.memory x.slots (kept.instances.slots i x there)

  awake : is_suspended x.status ≡ false
  awake = on (is_suspended x.status) (and_parts x.released (not (is_suspended x.status)) may).1
    where
      on : (b : Bool) → not b ≡ true → b ≡ false
      on true e = absurd (false≢true e)
      on false e = refl

  freed_at : (b : ℕ) (o : Offset) (k : List MemoryBlock) → b ≡ x.block → x.start ≡ o.bits
      → Killed (disown m x.block) b o k → IsKeptState (next (with_memory (let_go s i x) k))
  freed_at b o k block start y = subst (λ (l : List MemoryBlock). IsKeptState (next (with_memory (let_go s i x) l)))
      (sym (y.memory ∙ ap (killed (disown m x.block)) block)) (record {
        instances = let_go_kept s.instances m i x there (start ∙ eqb-true o.bits 0 y.start) awake
            (unkilled_at m x.block (unkilled_disowned m x.block
            (subst (λ (c : ℕ). is_unkilled Kind.Allocator (slice_get (disown m x.block) c) ≡ true) block y.unkilled)))
            (kept_on s.instances s.world.memory m dead kept.instances);
        top = slots_dead m x.block s.top.slots (slots_on s.world.memory m dead s.top.slots kept.top);
        below = have_slots_dead m x.block s.below (have_slots_on s.world.memory m dead s.below kept.below);
      })

  let_go_freed : (b : ℕ) (o : Offset) → began_at b o.bits x ≡ true
      → StaysKept (and_then (deallocated (disown m x.block) (Value.Ptr (Pointer.At b o)))
      (λ (memory : List MemoryBlock). Ok (next (with_memory (let_go s i x) memory))))
  let_go_freed b o began = then_kept (deallocated (disown m x.block) (Value.Ptr (Pointer.At b o)))
      (λ (memory : List MemoryBlock). Ok (next (with_memory (let_go s i x) memory)))
      (λ memory e.
      let p = and_parts (x.block == b) (x.start == o.bits) began in
      freed_at b o memory (sym (eqb-true x.block b p.0)) (eqb-true x.start o.bits p.1)
      (killed_ok (disown m x.block) b o memory e))

module _ (s : State) (kept : IsKeptState s) where
  abbrev Freed : Value → Option (ℕ × Instance) → Type 0
  Freed p o = StaysKept (and_then (deallocated (if_let_go s o).world.memory p) (λ (memory : List MemoryBlock).
      Ok (next (with_memory (if_let_go s o) memory))))

  freed_by : (b : ℕ) (o : Offset) (q : Option (ℕ × Instance)) → last_where (began_at b o.bits) s.instances ≡ q
      → Freed (Value.Ptr (Pointer.At b o)) q
  freed_by b o None e = plain_freed s (Value.Ptr (Pointer.At b o)) kept
  freed_by b o (Some (i, x)) e = on (may_be_freed x) refl
    where
      on : (t : Bool) → may_be_freed x ≡ t
          → StaysKept (and_then (deallocated (if t then let_go s i x else s).world.memory
          (Value.Ptr (Pointer.At b o))) (λ (memory : List MemoryBlock).
          Ok (next (with_memory (if t then let_go s i x else s) memory))))
      on false h = plain_freed s (Value.Ptr (Pointer.At b o)) kept
      on true h =
          let f = found_there s.instances (began_at b o.bits) i x e in
          let_go_freed s kept i x f.1 h b o
          (last-passes (began_at b o.bits) s.instances (Some i) (sym f.0) x f.1)

  pub frees_kept : (p : Value) → StaysKept (deallocate s p)
  frees_kept (Value.Ptr (Pointer.At b o)) = freed_by b o (last_where (began_at b o.bits) s.instances) refl
  frees_kept (Value.Ptr Pointer.Null) = plain_freed s (Value.Ptr Pointer.Null) kept
  frees_kept (Value.Ptr (Pointer.Func f)) = plain_freed s (Value.Ptr (Pointer.Func f)) kept
  frees_kept (Value.Int x) = plain_freed s (Value.Int x) kept
  frees_kept Value.Poison = plain_freed s Value.Poison kept
