-- An access that is done in the source is done in the target too, by addresses that are moved to where blocks stand.
use Rattle.std.proofs.Common.{◌≡◌, ◌<◌, ◌∙◌, Bool, Err, List, None, Ok, Option, Result, ap, false, if◌then◌else◌}
use Rattle.std.proofs.Common.{refl, subst, sym, true, ℕ}
use Rattle.pass_frames_steps.specs.ir_base.declared.cause.Cause.{Cause}
use Rattle.pass_frames_steps.specs.ir_model.Ty.{Ty, ptr}
use Rattle.pass_frames_steps.specs.ir_model.declared.instr.Instr.{Instr}
use Rattle.pass_frames_steps.specs.ir_model.declared.operand.Arg.{Arg}
use Rattle.pass_frames_steps.specs.ir_model.declared.operand.Callee.{Callee}
use Rattle.pass_frames_steps.specs.ir_model.declared.operand.Intrinsic.{Intrinsic}
use Rattle.pass_frames_steps.specs.ir_model.declared.operand.Operand.{Operand}
use Rattle.pass_frames_steps.specs.ir_parts.Contents.{result_of}
use Rattle.pass_frames_steps.proofs.copying.Over.{IsMemcpy}
use Rattle.pass_frames_proof.proofs.located.Copied.{copy_moved}
use Rattle.pass_frames_proof.proofs.located.Free.{keeps_all}
use Rattle.pass_frames_proof.proofs.located.Moved.{load_moved}
use Rattle.pass_frames_proof.proofs.located.Stored.{store_moved}
use Rattle.pass_frames_steps.specs.Located.{IsAddress, IsMoved}
use Rattle.pass_frames_steps.proofs.run_laws.embedded.Memories.{bounds_kept, copy_refills, nulls_kept, same_refills}
use Rattle.pass_frames_steps.proofs.run_laws.embedded.Memories.{store_refills}
use Rattle.pass_frames_steps.proofs.run_laws.embedded.Values.{alignment_is, stored_kept}
use Rattle.pass_frames_steps.proofs.run_laws.transfer.Muted.{copy_muted, load_muted, muted_result, shown_address}
use Rattle.pass_frames_steps.proofs.run_laws.transfer.Muted.{store_muted}
use Rattle.pass_frames_steps.specs.run_laws.access.Changed.{KeepsFree}
use Rattle.pass_frames_steps.specs.run_laws.embedded.Refilled.{AreRefilled}
use Rattle.pass_frames_steps.specs.run_laws.memory.Pointers.{Home, IsValue}
use Rattle.pass_frames_steps.specs.run_laws.memory.Standing.{AreByteRights, Embeds}
use Rattle.pass_frames_steps.specs.run_laws.transfer.Muted.{muted}
use Rattle.pass_frames_steps.specs.run_laws.transfer.Transfer.{AreOver}
use Rattle.pass_frames_steps.specs.run_memory.Memory.{access_bytes, copy, load, store}
use Rattle.pass_frames_steps.specs.run_memory.declared.block.MemoryBlock.{MemoryBlock}
use Rattle.pass_frames_steps.specs.run_memory.declared.pointer.Access.{Access}
use Rattle.pass_frames_steps.specs.run_memory.declared.pointer.Value.{Value}
use Rattle.pass_frames_steps.specs.run_step.Step.{Context, Done, Stuck, Work, copied_bytes, done, instr_action}
use Rattle.pass_frames_steps.specs.run_step.Step.{is_alignment, set_memory, set_value, value_at, with_length}
use Rattle.pass_frames_steps.specs.run_step.Values.{access_of, address, arg_value, arg_values, nth, operand_value, stored}
use Rattle.pass_frames_steps.specs.run_step.Values.{with_result}

-- Both give a value to the result, if there is one, and change bytes alone; what is free in the target stays.
pub record DoesToo (c d : Context) (homes : List Home) (hides : ℕ → Bool) (w S v : Work) (i j : Instr) : Type 0 where
  pub value : Value
  pub other : Value
  pub memory : List MemoryBlock
  pub is : v.values ≡ with_result w.values (result_of i) value
  pub does : instr_action d S j ≡ Done (record {
    world = record S.world { memory = memory };
    values = with_result S.values (result_of i) other;
  })
  pub stands : IsValue homes value other
  pub over : AreOver c.rights d.rights homes hides (λ k. k) v.world (record S.world { memory = memory })
  pub refilled : AreRefilled w.world.memory v.world.memory
  pub keeps : KeepsFree c.rights homes (muted hides w.world.memory) S.world.memory memory

moved_address : (homes : List Home) (v w : Value) → IsMoved homes v w → IsMoved homes (address v) (address w)
moved_address homes Value.Poison w h = tt
moved_address homes (Value.Int x) w h = tt
moved_address homes (Value.Ptr p) w h = ap address h

same_done : (v w : Work) → Done v ≡ Done w → w ≡ v
same_done v w e = cc

module _ (homes : List Home) (hides : ℕ → Bool) (c d : Context) (law : AreByteRights c.rights)
    (law' : AreByteRights d.rights) (w S v : Work)
    (before : AreOver c.rights d.rights homes hides (λ k. k) w.world S.world) where
  abbrev m : List MemoryBlock
  m = w.world.memory

  abbrev n : List MemoryBlock
  n = S.world.memory

  over_with : (k k' : List MemoryBlock) → Embeds c.rights d.rights homes (muted hides k) k'
      → AreRefilled (muted hides m) (muted hides k) → AreRefilled n k'
      → AreOver c.rights d.rights homes hides (λ k. k) (record w.world { memory = k })
      (record S.world { memory = k' })
  over_with k k' em rm rn = record {
    memory = em;
    nulls = nulls_kept c.rights d.rights homes (muted hides m) n (muted hides k) k' law law' rm rn before.nulls;
    bounds = bounds_kept homes (muted hides m) n (muted hides k) k' rm rn before.bounds;
    events = before.events;
    answers = before.answers;
    allocs = before.allocs;
  }

  -- ---- loads

  module _ (r : ℕ) (ty : Ty) (p q : Operand) (align : ℕ)
      (leads : IsAddress homes hides (value_at c w ptr p) (value_at d S ptr q))
      (some : 0 < access_bytes (access_of ty)) where
    abbrev from : Value
    from = address (value_at c w ptr p)

    abbrev there : Value
    there = address (value_at d S ptr q)

    abbrev One : Instr
    One = Instr.Load r ty p align

    abbrev Other : Instr
    Other = Instr.Load r ty q align

    loaded : is_alignment align ≡ true → (u : Value) → load c.rights m from (access_of ty) align ≡ Ok u
        → Done (set_value w r u) ≡ Done v → DoesToo c d homes hides w S v One Other
    loaded ok u e is =
        let same : v ≡ set_value w r u = same_done (set_value w r u) v is in
        let k = load_moved c.rights d.rights homes (muted hides m) n before.memory law from there (access_of ty) align u
        some (alignment_is align ok) (moved_address homes (value_at c w ptr p) (value_at d S ptr q) leads.moved)
        (load_muted hides c.rights m from (access_of ty) align
        (shown_address hides (value_at c w ptr p) leads.shown) ∙ e) in
        record {
          value = u;
          other = k.value;
          memory = n;
          is = ap (λ (z : Work). z.values) same;
          does =
              ap (λ (t : Bool). if t then done (set_value S r) (load d.rights n there (access_of ty) align)
              else Stuck Cause.Align) ok
              ∙ ap (done (set_value S r)) k.loads;
          stands = k.stands;
          over = subst (λ (z : Work). AreOver c.rights d.rights homes hides (λ k. k) z.world S.world) (sym same)
              before;
          refilled = subst (λ (z : Work). AreRefilled m z.world.memory) (sym same) (same_refills m);
          keeps = keeps_all c.rights homes (muted hides m) n;
        }

    pub load_too : instr_action c w One ≡ Done v → DoesToo c d homes hides w S v One Other
    load_too e = on (is_alignment align) refl e
      where
        by : is_alignment align ≡ true → (o : Result Value Cause) → load c.rights m from (access_of ty) align ≡ o
            → done (set_value w r) o ≡ Done v → DoesToo c d homes hides w S v One Other
        by ok (Err cause) l is = absurd (cc)
        by ok (Ok u) l is = loaded ok u l is

        on : (t : Bool) → is_alignment align ≡ t
            → (if t then done (set_value w r) (load c.rights m from (access_of ty) align) else Stuck Cause.Align)
            ≡ Done v
            → DoesToo c d homes hides w S v One Other
        on true ok is = by ok (load c.rights m from (access_of ty) align) refl is
        on false ok is = absurd (cc)

  -- ---- stores

  module _ (arg : Arg) (o p q : Operand) (align : ℕ)
      (leads : IsAddress homes hides (value_at c w ptr p) (value_at d S ptr q))
      (fits : IsValue homes (arg_value c.code w.values arg) (operand_value d.code S.values arg.ty o))
      (some : 0 < access_bytes (access_of arg.ty)) where
    abbrev what : Access
    what = access_of arg.ty

    abbrev to : Value
    to = address (value_at c w ptr p)

    abbrev place : Value
    place = address (value_at d S ptr q)

    abbrev put : Value
    put = stored what (arg_value c.code w.values arg)

    abbrev got : Value
    got = stored what (operand_value d.code S.values arg.ty o)

    abbrev First : Instr
    First = Instr.Store arg p align

    abbrev Second : Instr
    Second = Instr.Store (record { ty = arg.ty; value = o }) q align

    wrote : is_alignment align ≡ true → (k : List MemoryBlock) → store c.rights m to put what align ≡ Ok k
        → Done (set_memory w k) ≡ Done v → DoesToo c d homes hides w S v First Second
    wrote ok k e is =
        let same : v ≡ set_memory w k = same_done (set_memory w k) v is in
        let seen : store c.rights (muted hides m) to put what align ≡ Ok (muted hides k) =
        store_muted hides c.rights m to put what align (shown_address hides (value_at c w ptr p) leads.shown)
        ∙ ap (muted_result hides) e in
        let z = store_moved c.rights d.rights homes (muted hides m) n before.memory law law' (muted hides k) to place
        put got what align some (alignment_is align ok)
        (moved_address homes (value_at c w ptr p) (value_at d S ptr q) leads.moved)
        (stored_kept homes what (arg_value c.code w.values arg) (operand_value d.code S.values arg.ty o) fits) seen in
        record {
          value = Value.Poison;
          other = Value.Poison;
          memory = z.memory;
          is = ap (λ (z : Work). z.values) same;
          does =
              ap (λ (t : Bool). if t then done (set_memory S) (store d.rights n place got what align)
              else Stuck Cause.Align) ok
              ∙ ap (done (set_memory S)) z.stores;
          stands = tt;
          over = subst
              (λ (y : Work). AreOver c.rights d.rights homes hides (λ k. k) y.world
              (record S.world { memory = z.memory }))
              (sym same)
              (over_with k z.memory z.stands (store_refills c.rights (muted hides m) (muted hides k) to put what align
              seen) (store_refills d.rights n z.memory place got what align z.stores));
          refilled = subst (λ (y : Work). AreRefilled m y.world.memory) (sym same)
              (store_refills c.rights m k to put what align e);
          keeps = z.keeps;
        }

    pub store_too : instr_action c w First ≡ Done v → DoesToo c d homes hides w S v First Second
    store_too e = on (is_alignment align) refl e
      where
        by : is_alignment align ≡ true → (o : Result (List MemoryBlock) Cause)
            → store c.rights m to put what align ≡ o → done (set_memory w) o ≡ Done v
            → DoesToo c d homes hides w S v First Second
        by ok (Err cause) l is = absurd (cc)
        by ok (Ok k) l is = wrote ok k l is

        on : (t : Bool) → is_alignment align ≡ t
            → (if t then done (set_memory w) (store c.rights m to put what align) else Stuck Cause.Align) ≡ Done v
            → DoesToo c d homes hides w S v First Second
        on true ok is = by ok (store c.rights m to put what align) refl is
        on false ok is = absurd (cc)

  -- ---- copies

  module _ (i : Intrinsic) (memcpy : IsMemcpy i) (must_tail : Bool) (ty : Option Ty) (args now : List Arg)
      (leads : (k : ℕ) → IsAddress homes hides (nth (arg_values c.code w.values args) k)
      (nth (arg_values d.code S.values now) k)) where
    abbrev vs : List Value
    vs = arg_values c.code w.values args

    abbrev us : List Value
    us = arg_values d.code S.values now

    abbrev Here : Instr
    Here = Instr.Call None must_tail ty (Callee.Intrinsic i) args

    abbrev There : Instr
    There = Instr.Call None must_tail ty (Callee.Intrinsic i) now

    copied : (len : ℕ) → copied_bytes d S us
        ≡ done (set_memory S) (copy d.rights n (address (nth us 0)) (address (nth us 1)) len)
        → (k : List MemoryBlock)
        → copy c.rights m (address (nth vs 0)) (address (nth vs 1)) len ≡ Ok k → Done (set_memory w k) ≡ Done v
        → DoesToo c d homes hides w S v Here There
    copied len goes k e is =
        let same : v ≡ set_memory w k = same_done (set_memory w k) v is in
        let seen : copy c.rights (muted hides m) (address (nth vs 0)) (address (nth vs 1)) len ≡ Ok (muted hides k) =
        copy_muted hides c.rights m (address (nth vs 0)) (address (nth vs 1)) len
        (shown_address hides (nth vs 0) (leads 0).shown) (shown_address hides (nth vs 1) (leads 1).shown)
        ∙ ap (muted_result hides) e in
        let z = copy_moved c.rights d.rights law law' homes (muted hides m) n before.memory (address (nth vs 0))
        (address (nth vs 1)) (address (nth us 0)) (address (nth us 1)) len (muted hides k)
        (moved_address homes (nth vs 0) (nth us 0) (leads 0).moved)
        (moved_address homes (nth vs 1) (nth us 1) (leads 1).moved) seen in
        record {
          value = Value.Poison;
          other = Value.Poison;
          memory = z.memory;
          is = ap (λ (z : Work). z.values) same;
          does = memcpy.copies d S None now us ∙ goes ∙ ap (done (set_memory S)) z.copies;
          stands = tt;
          over = subst
              (λ (y : Work). AreOver c.rights d.rights homes hides (λ k. k) y.world
              (record S.world { memory = z.memory }))
              (sym same)
              (over_with k z.memory z.stands
              (copy_refills c.rights (muted hides m) (muted hides k) (address (nth vs 0)) (address (nth vs 1)) len seen)
              (copy_refills d.rights n z.memory (address (nth us 0)) (address (nth us 1)) len z.copies));
          refilled = subst (λ (y : Work). AreRefilled m y.world.memory) (sym same)
              (copy_refills c.rights m k (address (nth vs 0)) (address (nth vs 1)) len e);
          keeps = z.keeps;
        }

    pub copy_too : instr_action c w Here ≡ Done v → DoesToo c d homes hides w S v Here There
    copy_too e = on (nth vs 2) refl (leads 2).moved (sym (memcpy.copies c w None args vs) ∙ e)
      where
        by : (len : ℕ) → copied_bytes d S us
            ≡ done (set_memory S) (copy d.rights n (address (nth us 0)) (address (nth us 1)) len)
            → (o : Result (List MemoryBlock) Cause)
            → copy c.rights m (address (nth vs 0)) (address (nth vs 1)) len ≡ o → done (set_memory w) o ≡ Done v
            → DoesToo c d homes hides w S v Here There
        by len goes (Err cause) l is = absurd (cc)
        by len goes (Ok k) l is = copied len goes k l is

        on : (x : Value) → nth vs 2 ≡ x → IsMoved homes x (nth us 2)
            → with_length x
            (λ n. done (set_memory w) (copy c.rights m (address (nth vs 0)) (address (nth vs 1)) n)) ≡ Done v
            → DoesToo c d homes hides w S v Here There
        on (Value.Int n) x h is =
            by n.bits
            (ap (λ (y : Value). with_length y
            (λ k. done (set_memory S) (copy d.rights S.world.memory (address (nth us 0)) (address (nth us 1)) k))) h)
            (copy c.rights m (address (nth vs 0)) (address (nth vs 1)) n.bits) refl is
        on Value.Poison x h is = absurd (cc)
        on (Value.Ptr p) x h is = absurd (cc)
