-- Instructions that are done where a range of bytes holds what they need.
use Rattle.std.proofs.Common.{◌≡◌, ℕ, ◌+◌, ◌<◌, ◌≤◌, Bool, true, false, not, List, get_or, length, Option, Some, None, refl, sym, ap, ◌∙◌, subst, arith, if◌then◌else◌}
use Rattle.std.specs.Prelude.{slice_get}
use Rattle.run_memory.specs.Memory.{Rights, access_bytes, bytes_in, copy, decode, encode, is_live, load, same_kind, store}
use Rattle.run_memory.specs.declared.block.Kind.{Kind}
use Rattle.run_memory.specs.Pointers.{moved}
use Rattle.run_memory.specs.declared.block.Byte.{Byte}
use Rattle.run_memory.specs.declared.block.MemoryBlock.{MemoryBlock}
use Rattle.run_memory.specs.declared.pointer.Offset.{Offset}
use Rattle.run_memory.specs.declared.pointer.Pointer.{Pointer}
use Rattle.run_memory.specs.declared.pointer.Value.{Value}
use Rattle.ir_base.specs.declared.cause.Cause.{Cause}
use Rattle.ir_model.specs.Ty.{Ty, ptr}
use Rattle.ir_model.specs.declared.instr.Instr.{Instr}
use Rattle.ir_model.specs.declared.operand.Arg.{Arg}
use Rattle.ir_model.specs.declared.operand.Callee.{Callee}
use Rattle.ir_model.specs.declared.operand.Intrinsic.{Intrinsic}
use Rattle.ir_model.specs.declared.operand.Operand.{Operand}
use Rattle.run_laws.proofs.memory.Written.{same_some}
use Rattle.run_laws.proofs.memory.Stores.{private_writes_kept}
use Rattle.run_laws.specs.memory.Pointers.{Home}
use Rattle.run_laws.specs.memory.Standing.{AreByteRights, Embeds, IsAway}
use Rattle.run_step.specs.Step.{Action, Context, Done, Stuck, Work, copied_bytes, done, if_alignment, instr_action, is_alignment, set_memory, set_value, value_at, with_length}
use Rattle.run_step.specs.Values.{access_of, address, arg_value, arg_values, distance, element, indices_of, is_in_bounds, moved_by, nth, stored}
use Rattle.run_laws.proofs.access.Ranges.{copy_held, cut_same, load_held, store_held, write_leaves}
use Rattle.run_laws.specs.access.Changed.{IsFree, KeepsFree}
use Rattle.run_laws.specs.access.Lines.{AreDisjoint, Holds, IsCopyOf, is_memcpy, pointer_at, refilled_at}
use Rattle.run_laws.proofs.embedded.Values.{alignment_is}
use Rattle.run_laws.specs.embedded.Refilled.{IsRefilled}

module _ (c : Context) (w : Work) where
  abbrev m : List MemoryBlock
  m = w.world.memory

  aligned_action : (align : ℕ) (a : Action) → is_alignment align ≡ true → if_alignment align a ≡ a
  aligned_action align a e = ap (λ (t : Bool). if t then a else Stuck Cause.Align) e

  pub load_done : (name align b o most : ℕ) (ty : Ty) (p : Operand) (bytes : List Byte) → value_at c w ptr p ≡ pointer_at b o → Holds c.rights m b o most bytes → length bytes ≡ access_bytes (access_of ty) → is_alignment align ≡ true → align ≤ most → instr_action c w (Instr.Load name ty p align) ≡ Done (set_value w name (decode (access_of ty) bytes))
  load_done name align b o most ty p bytes leads h long is le =
      aligned_action align _ is
      ∙ ap (λ (v : Value). done (set_value w name) (load c.rights m (address v) (access_of ty) align)) leads
      ∙ ap (done (set_value w name)) (load_held c.rights m b o most bytes h (access_of ty) align long (alignment_is align is) le)

  pub store_done : (align b o most : ℕ) (arg : Arg) (p : Operand) (bytes : List Byte) → value_at c w ptr p ≡ pointer_at b o → Holds c.rights m b o most bytes → length bytes ≡ access_bytes (access_of arg.ty) → is_alignment align ≡ true → align ≤ most → instr_action c w (Instr.Store arg p align) ≡ Done (set_memory w (refilled_at m b o (encode (access_bytes (access_of arg.ty)) (stored (access_of arg.ty) (arg_value c.code w.values arg)))))
  store_done align b o most arg p bytes leads h long is le =
      aligned_action align _ is
      ∙ ap (λ (v : Value). done (set_memory w) (store c.rights m (address v) (stored (access_of arg.ty) (arg_value c.code w.values arg)) (access_of arg.ty) align)) leads
      ∙ ap (done (set_memory w)) (store_held c.rights m b o most bytes h (stored (access_of arg.ty) (arg_value c.code w.values arg)) (access_of arg.ty) align long (alignment_is align is) le)

  copied_done : (vs : List Value) (b o most a p much len : ℕ) (old bytes : List Byte) → IsCopyOf vs b o a p len → Holds c.rights m b o most old → Holds c.rights m a p much bytes → length old ≡ len → length bytes ≡ len → 1 ≤ most → 1 ≤ much → AreDisjoint b o len a p len → copied_bytes c w vs ≡ Done (set_memory w (refilled_at m b o bytes))
  copied_done vs b o most a p much len old bytes is h g is_old is_new le le' apart =
      ap (λ (v : Value). with_length v (λ n. done (set_memory w) (copy c.rights m (address (nth vs 0)) (address (nth vs 1)) n))) is.long
      ∙ ap (λ (q : Value × Value). done (set_memory w) (copy c.rights m (address q.0) (address q.1) len)) (λ i. (is.to i, is.from i))
      ∙ ap (done (set_memory w)) (copy_held c.rights m b o most a p much len old bytes h g is_old is_new is.some le le' apart)

  pub copy_done : (i : Intrinsic) (result : Option ℕ) (must_tail : Bool) (ty : Option Ty) (args : List Arg) (b o most a p much len : ℕ) (old bytes : List Byte) → is_memcpy i ≡ true → IsCopyOf (arg_values c.code w.values args) b o a p len → Holds c.rights m b o most old → Holds c.rights m a p much bytes → length old ≡ len → length bytes ≡ len → 1 ≤ most → 1 ≤ much → AreDisjoint b o len a p len → instr_action c w (Instr.Call result must_tail ty (Callee.Intrinsic i) args) ≡ Done (set_memory w (refilled_at m b o bytes))
  copy_done Intrinsic.MemcpyI64 result must_tail ty args b o most a p much len old bytes t is h g is_old is_new le le' apart = copied_done (arg_values c.code w.values args) b o most a p much len old bytes is h g is_old is_new le le' apart
  copy_done Intrinsic.MemcpyI32 result must_tail ty args b o most a p much len old bytes t is h g is_old is_new le le' apart = copied_done (arg_values c.code w.values args) b o most a p much len old bytes is h g is_old is_new le le' apart
  copy_done _ result must_tail ty args b o most a p much len old bytes t is h g is_old is_new le le' apart = absurd (cc)

  pub gep_done : (name b d : ℕ) (o : Offset) (inbounds : Bool) (ty : Ty) (base : Operand) (indices : List Arg) → value_at c w ptr base ≡ Value.Ptr (Pointer.At b o) → distance c.code ty (indices_of c.code w.values indices) ≡ Some d → (inbounds ≡ true → is_in_bounds (slice_get m b) (moved o d) ≡ true) → instr_action c w (Instr.Gep name inbounds ty base indices) ≡ Done (set_value w name (Value.Ptr (Pointer.At b (moved o d))))
  gep_done name b d o inbounds ty base indices leads far room =
      ap (λ (v : Value). Done (set_value w name (element m inbounds v (distance c.code ty (indices_of c.code w.values indices))))) leads
      ∙ ap (λ (e : Option ℕ). Done (set_value w name (element m inbounds (Value.Ptr (Pointer.At b o)) e))) far
      ∙ ap (λ (v : Value). Done (set_value w name v)) (on inbounds room)
    where
      on : (t : Bool) → (t ≡ true → is_in_bounds (slice_get m b) (moved o d) ≡ true) → moved_by m t (Value.Ptr (Pointer.At b o)) d ≡ Value.Ptr (Pointer.At b (moved o d))
      on false h = refl
      on true h = ap (λ (t : Bool). if not t then Value.Poison else Value.Ptr (Pointer.At b (moved o d))) (h refl)

-- ---- ranges of the target, and the source that stands in it

-- the source stands where a range is written in which none of its bytes stands that its program may touch
pub write_away : (rights target : Rights) (homes : List Home) (m n : List MemoryBlock) (b o most : ℕ) (bytes new : List Byte) → AreByteRights rights → AreByteRights target → Embeds rights target homes m n → Holds target n b o most bytes → length new ≡ length bytes → ((a : ℕ) (z : MemoryBlock) → slice_get m a ≡ Some z → is_live z.life ≡ true → IsAway rights homes a z b o (length bytes)) → Embeds rights target homes m (refilled_at n b o new)
write_away rights target homes m n b o most bytes new law law' em h long away =
    let within = h.within in
    private_writes_kept rights target homes m n b o h.block new law law' em h.there (omega arith)
    (λ a z is live. subst (λ (len : ℕ). IsAway rights homes a z b o len) (sym long) (away a z is live))

record Still (o : Option MemoryBlock) (x : MemoryBlock) : Type 0 where
  block : MemoryBlock
  there : o ≡ Some block
  same : block ≡ record x { bytes = block.bytes }

still : (o o' : Option MemoryBlock) (x : MemoryBlock) → IsRefilled o o' → o ≡ Some x → Still o' x
still None o' x h e = absurd (cc)
still (Some z) None x h e = absurd h
still (Some z) (Some y) x h e = let is : z ≡ x = cc in record { block = y; there = refl; same = subst (λ (u : MemoryBlock). y ≡ record u { bytes = y.bytes }) is h }

-- a range in which nothing of the source stands keeps what it holds where what is free stays
pub free_held : (rights target : Rights) (homes : List Home) (m n k : List MemoryBlock) (b o most : ℕ) (bytes : List Byte) → AreByteRights target → KeepsFree rights homes m n k → Holds target n b o most bytes → ((i : ℕ) → i < length bytes → IsFree rights homes m b (o + i)) → Holds target k b o most bytes
free_held rights target homes m n k b o most bytes law keeps h free =
    let z = still (slice_get n b) (slice_get k b) h.block (keeps.refilled.each b) h.there in
    let size : z.block.size ≡ h.block.size = ap (λ (u : MemoryBlock). u.size) z.same in
    let long : length z.block.bytes ≡ length h.block.bytes =
    sym (ap (λ (u : Option MemoryBlock). length (bytes_in u)) z.there) ∙ keeps.lengths b ∙ ap (λ (u : Option MemoryBlock). length (bytes_in u)) h.there in
    record {
      block = z.block;
      there = z.there;
      live = ap (λ (u : MemoryBlock). is_live u.life) z.same ∙ h.live;
      writable = ap (λ (u : MemoryBlock). same_kind u.kind Kind.Constant) z.same ∙ h.writable;
      whole = long ∙ h.whole ∙ sym size;
      within = subst (λ (s : ℕ). o + length bytes ≤ s) (sym size) h.within;
      holds = cut_same z.block.bytes h.block.bytes o (length bytes) long
          (λ i lt. sym (ap (λ (u : Option MemoryBlock). get_or (bytes_in u) (o + i) Byte.Undefined) z.there) ∙ keeps.bytes b (o + i) (free i lt) ∙ ap (λ (u : Option MemoryBlock). get_or (bytes_in u) (o + i) Byte.Undefined) h.there)
          ∙ h.holds;
      unclosed = ap (λ (u : MemoryBlock). target.is_closed b u o (length bytes)) z.same ∙ law.closed b h.block z.block.bytes o (length bytes) ∙ h.unclosed;
      aligned = λ align is le. ap (λ (u : MemoryBlock). target.is_aligned b u o align) z.same ∙ law.aligned b h.block z.block.bytes o align ∙ h.aligned align is le;
    }

pub other_held : (rights : Rights) (m : List MemoryBlock) (b o most c p much : ℕ) (bytes old new : List Byte) → AreByteRights rights → Holds rights m b o most bytes → Holds rights m c p much old → length new ≡ length old → AreDisjoint c p (length new) b o (length bytes) → Holds rights (refilled_at m c p new) b o most bytes
other_held rights m b o most c p much bytes old new law h g long apart = write_leaves rights m b o most bytes h law c p new apart
    (λ y e.
    let is : g.block ≡ y = same_some g.block y (sym g.there ∙ e) in
    let within = g.within in
    let whole = g.whole in
    let all : p + length new ≤ length g.block.bytes = omega arith in
    subst (λ (u : MemoryBlock). p + length new ≤ length u.bytes) is all)
