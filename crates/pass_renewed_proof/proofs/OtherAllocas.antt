-- The alloca of any other slot makes a block in both runs, which both list.
use Rattle.std.proofs.Common.{◌≡◌, ◌≢◌, ℕ, ◌+◌, ◌<◌, ◌≤◌, ◌^◌, Bool, true, false, List, [], ◌∷◌, ◌++◌}
use Rattle.std.proofs.Common.{length, Some, None, refl, sym, ap, ◌∙◌, subst, ⊎_elim, arith}
use Rattle.std.proofs.Common.{if◌then◌else◌}
use Rattle.std.proofs.lemmas.Bool.{cases_eq, false≢true}
use Rattle.std.proofs.lemmas.List.{length-replicate}
use Rattle.std.specs.Prelude.{slice_get, slice_set}
use Rattle.pass_kept_proof.specs.ir_model.Layout.{size_of}
use Rattle.pass_kept_proof.specs.ir_model.Names.{function_at}
use Rattle.pass_kept_proof.specs.ir_model.Ty.{Ty}
use Rattle.pass_kept_proof.specs.ir_model.declared.instr.Instr.{Instr}
use Rattle.pass_kept_proof.specs.ir_model.declared.module.Function.{Function}
use Rattle.pass_kept_proof.specs.ir_model.declared.module.Module.{Module}
use Rattle.run_laws.proofs.memory.Changes.{target_changes}
use Rattle.run_laws.proofs.memory.Itself.{owner_rights_fit}
use Rattle.run_laws.proofs.memory.Written.{changed_elsewhere, same_some}
use Rattle.run_laws.specs.embedded.Making.{whole_home}
use Rattle.run_laws.specs.memory.Pointers.{Home, IsValue, home_of}
use Rattle.run_laws.specs.memory.Standing.{Embeds, blank_block}
use Rattle.pass_kept_proof.specs.run_memory.Memory.{is_live, may_compare_at, owner_rights, same_kind, with_block}
use Rattle.pass_kept_proof.specs.run_memory.Pointers.{moved, offset_of}
use Rattle.pass_kept_proof.specs.run_memory.declared.block.Byte.{Byte}
use Rattle.pass_kept_proof.specs.run_memory.declared.block.Kind.{Kind}
use Rattle.pass_kept_proof.specs.run_memory.declared.block.Life.{Life}
use Rattle.pass_kept_proof.specs.run_memory.declared.block.MemoryBlock.{MemoryBlock}
use Rattle.pass_kept_proof.specs.run_memory.declared.pointer.Offset.{Offset}
use Rattle.pass_kept_proof.specs.run_memory.declared.pointer.Pointer.{Pointer}
use Rattle.pass_kept_proof.specs.run_memory.declared.pointer.Value.{Value}
use Rattle.pass_kept_proof.specs.run_source.State.{with_instance, with_slots}
use Rattle.pass_kept_proof.specs.run_source.declared.state.Instance.{Instance}
use Rattle.pass_kept_proof.specs.run_source.declared.state.State.{State}
use Rattle.pass_kept_proof.specs.run_step.Step.{alloca_kind}
use Rattle.pass_kept_proof.specs.run_step.Values.{pointer_to}
use Rattle.pass_kept_proof.specs.run_step.declared.world.World.{World}
use Rattle.pass_renewed_proof.proofs.Anew.{about_there}
use Rattle.pass_renewed_proof.proofs.Giving.{gives_at}
use Rattle.pass_renewed_proof.proofs.Grown.{block_stands, home_before, home_now, muted_was, not_hidden}
use Rattle.pass_renewed_proof.proofs.Listing.{both_listed, both_more, instance_beside, instances_grown, instances_set}
use Rattle.pass_renewed_proof.proofs.Listing.{one_grown, worlds_beside}
use Rattle.pass_renewed_proof.proofs.Made.{get_last}
use Rattle.pass_renewed_proof.proofs.Muted.{muted_append, muted_length}
use Rattle.pass_renewed_proof.proofs.NewBlock.{block_carried, block_entered, block_kept, no_seat}
use Rattle.pass_renewed_proof.proofs.Places.{changed_last}
use Rattle.pass_renewed_proof.specs.Beside.{AreInstancesBeside, IsBeside, IsInstanceBeside, IsOtherValue}
use Rattle.pass_renewed_proof.specs.Ledger.{Ledger, Lives, block_ledger}
use Rattle.pass_renewed_proof.specs.Making.{IsAllocaOfOther, slot_block, with_slot_of}
use Rattle.pass_renewed_proof.specs.Muted.{muted}
use Rattle.pass_renewed_proof.specs.Places.{AreStanding}
use Rattle.pass_renewed_proof.specs.Renewed.{Flags, Roots}
use Rattle.pass_renewed_proof.specs.SlotRules.{KeepsSlots}
use Rattle.pass_renewed_proof.specs.Steps.{AreOver}

-- ---- a block of the target in which nothing lives may end

module _ (homes : List Home) (m n : List MemoryBlock) (y : MemoryBlock) (away : (b : ℕ)
    (x : MemoryBlock) → slice_get m b ≡ Some x → is_live x.life ≡ true → (home_of homes b).block ≢ length n) where
  abbrev z : MemoryBlock
  z = record y { life = Life.Ended }

  ended_is : with_block (n ++ y ∷ []) (length n) (λ q. record q { life = Life.Ended }) ≡ n ++ record y {
    life = Life.Ended;
  } ∷ []
  ended_is = changed_last n y (λ q. record q { life = Life.Ended })

  compares : (b : ℕ) (o : Offset) → (home_of homes b).block ≡ length n
      → may_compare_at owner_rights (home_of homes b).block (slice_get (n ++ record y { life = Life.Ended } ∷ [])
      (home_of homes b).block) (moved o (home_of homes b).offset) ≡ true
  compares b o is = ap (λ w. may_compare_at owner_rights (home_of homes b).block w (moved o (home_of homes b).offset))
      (ap (slice_get (n ++ z ∷ [])) is ∙ get_last n z)

  others : (b : ℕ) → (home_of homes b).block ≢ length n
      → slice_get (n ++ record y { life = Life.Ended } ∷ []) (home_of homes b).block ≡ slice_get (n ++ y ∷ []) (home_of
      homes b).block
  others b ne = ap (λ w. slice_get w (home_of homes b).block) (sym ended_is)
      ∙ changed_elsewhere (n ++ y ∷ []) (length n) (home_of homes b).block (λ q. record q { life = Life.Ended }) ne

  pub last_ended : AreStanding homes m (n ++ y ∷ []) → AreStanding homes m (n ++ record y { life = Life.Ended } ∷ [])
  last_ended st = record {
    memory = subst (Embeds owner_rights owner_rights homes m) ended_is (target_changes owner_rights owner_rights owner_rights_fit owner_rights_fit homes
        m (n ++ y ∷ []) (length n) (λ q. record q { life = Life.Ended }) st.memory away);
    nulls = record {
      each = λ b o seen e. ⊎_elim
          (compares b o)
          (λ ne. ap (λ w. may_compare_at owner_rights (home_of homes b).block w (moved o (home_of homes b).offset))
          (others b ne) ∙ st.nulls.each b o seen e)
          (cases_eq (home_of homes b).block (length n));
    };
    bounds = record {
      each = λ b x seen at.
          let h = st.bounds.each b x seen at in
          ⊎_elim
          (λ is.
          let same : y ≡ h.block = same_some y h.block (sym (get_last n y) ∙ ap (slice_get (n ++ y ∷ [])) (sym is)
          ∙ h.there) in
          record {
            block = z;
            there = ap (slice_get (n ++ z ∷ [])) is ∙ get_last n z;
            fits = subst (λ (q : MemoryBlock). (home_of homes b).offset + x.size ≤ q.size) (sym same) h.fits;
            small = subst (λ (q : MemoryBlock). q.size < 2 ^ 64) (sym same) h.small;
          })
          (λ ne. record { block = h.block; there = others b ne ∙ h.there; fits = h.fits; small = h.small })
          (cases_eq (home_of homes b).block (length n));
    };
  }

-- ---- the states

module _ (m : Module) (flags : Flags) (roots : Roots) (keeps : (func : ℕ)
    → KeepsSlots m (function_at m func) (flags func) (roots func)) (s t : State) (beside : IsBeside m flags roots s t)
    (a : ℕ) (ty : Ty) (align : ℕ) (is : IsAllocaOfOther m flags roots s.top a ty align) (small : size_of m ty < 2 ^ 64)
  where
    abbrev l : Ledger
    l = beside.ledger

    abbrev f : Function
    f = function_at m s.top.func

    abbrev kind : Kind
    kind = alloca_kind (function_at m s.top.func)

    writable : same_kind (alloca_kind (function_at m s.top.func)) Kind.Constant ≡ false
    writable = on f.coroutine
      where
        on : (u : Bool) → same_kind (if u then Kind.Slot else Kind.Stack) Kind.Constant ≡ false
        on true = refl
        on false = refl

    same_name : {i j : ℕ} → Some i ≡ Some j → i ≡ j
    same_name e = cc

    abbrev k : Ledger
    k = block_ledger beside.ledger (length s.world.memory) (length t.world.memory)

    st : AreStanding beside.ledger.homes (muted beside.ledger.hides s.world.memory) t.world.memory
    st = record { memory = beside.world.memory; nulls = beside.world.nulls; bounds = beside.world.bounds }

    now : (u : Bool) → home_of (beside.ledger.homes ++ whole_home (length t.world.memory) ∷ []) (length s.world.memory) ≡
        whole_home (length t.world.memory)
    now u = home_now m l s.world.memory t.world.memory (slot_block m s ty align u) st beside.entered (whole_home (length
        t.world.memory))

    -- an ended block lives in neither
    away : (b : ℕ) (x : MemoryBlock)
        → slice_get (muted beside.ledger.hides (s.world.memory ++ slot_block m s ty align true ∷ [])) b ≡ Some x
        → is_live x.life ≡ true
        → (home_of (beside.ledger.homes ++ whole_home (length t.world.memory) ∷ []) b).block ≢ length t.world.memory
    away b x at live = ⊎_elim
        (λ same. absurd (false≢true (ap (λ (q : MemoryBlock). is_live q.life) (same_some (slot_block m s ty align true) x
        (sym (shown_last same) ∙ at)) ∙ live)))
        (λ ne here.
        let old = muted_was m l s.world.memory t.world.memory (slot_block m s ty align true) st beside.entered b ne (record
        { block = x; there = at; is_live = live }) in
        let lt = about_there l s.world.memory t.world.memory b st beside.entered.known (Lives old) in
        past _ _ lt (ap (λ (q : Home). q.block) (sym (home_before m l s.world.memory t.world.memory (slot_block m s ty
        align true) st beside.entered (whole_home (length t.world.memory)) b ne)) ∙ here))
        (cases_eq b (length s.world.memory))
      where
        past : (i j : ℕ) → i < j → i ≡ j → ⊥
        past i j lt e = absurd (omega arith)

        shown_last : b ≡ length s.world.memory
            → slice_get (muted l.hides (s.world.memory ++ slot_block m s ty align true ∷ [])) b ≡ Some (slot_block m s ty
            align true)
        shown_last same = ap (slice_get (muted l.hides (s.world.memory ++ slot_block m s ty align true ∷ []))) same
            ∙ ap (λ w. slice_get w (length s.world.memory)) (sym (muted_append l.hides s.world.memory (slot_block m s ty
            align true) (not_hidden m l s.world.memory t.world.memory (slot_block m s ty align true) st
            beside.entered)))
            ∙ last_of (muted l.hides s.world.memory) (muted_length l.hides s.world.memory)
          where
            last_of : (w : List MemoryBlock) → length w ≡ length s.world.memory
                → slice_get (w ++ slot_block m s ty align true ∷ []) (length s.world.memory) ≡ Some (slot_block m s ty
                align true)
            last_of w e = ap (slice_get (w ++ slot_block m s ty align true ∷ [])) (sym e) ∙ get_last w (slot_block m s
                ty align true)

    stands : (u : Bool) → AreStanding (beside.ledger.homes ++ whole_home (length t.world.memory) ∷ []) (muted
        beside.ledger.hides (s.world.memory ++ slot_block m s ty align u ∷ [])) (t.world.memory ++ slot_block m s ty
        align u ∷ [])
    stands false = block_stands m l s.world.memory t.world.memory (slot_block m s ty align false) st beside.entered kind
        small refl writable
    stands true = last_ended (l.homes ++ whole_home (length t.world.memory) ∷ []) (muted l.hides (s.world.memory ++
        slot_block m s ty align true ∷ [])) t.world.memory (blank_block (size_of m ty) align kind) away (block_stands
        m l s.world.memory t.world.memory (slot_block m s ty align true) st beside.entered kind small refl writable)

    module _ (u : Bool) where
      abbrev x : MemoryBlock
      x = slot_block m s ty align u

      whole : length x.bytes ≡ x.size
      whole = length-replicate (size_of m ty) Byte.Undefined

      abbrev w : World
      w = record s.world { memory = s.world.memory ++ x ∷ [] }

      abbrev v : World
      v = record t.world { memory = t.world.memory ++ x ∷ [] }

      over : AreOver (beside.ledger.homes ++ whole_home (length t.world.memory) ∷ []) beside.ledger.hides w v
      over = let st = stands u in record {
        memory = st.memory;
        nulls = st.nulls;
        bounds = st.bounds;
        events = beside.world.events;
        answers = beside.world.answers;
        allocs = beside.world.allocs;
      }

      -- both have the block, and nobody has its address
      abbrev made : IsBeside m flags roots (record s {
        world = record s.world { memory = s.world.memory ++ slot_block m s ty align u ∷ [] };
      }) (record t { world = record t.world { memory = t.world.memory ++ slot_block m s ty align u ∷ [] } })
      made = worlds_beside m flags roots s t beside k w v
          (block_carried m l s.world.memory t.world.memory x x st beside.entered refl refl whole)
          (block_kept m l s.world.memory t.world.memory x x st beside.entered refl refl whole) over
          (block_entered m l s.world.memory t.world.memory x x st beside.entered refl refl whole)

      unseated : beside.ledger.seats (length s.world.memory) ≡ None
      unseated = no_seat m l s.world.memory t.world.memory x x st beside.entered refl refl whole

      new_value : IsOtherValue k (pointer_to (length s.world.memory)) (pointer_to (length t.world.memory))
      new_value = record {
        unseated = λ b e. ap beside.ledger.seats (sym (same_name e)) ∙ unseated;
        nowhere = λ e. absurd (cc);
      }

      address_stands : IsValue (beside.ledger.homes ++ whole_home (length t.world.memory) ∷ []) (pointer_to (length
          s.world.memory)) (pointer_to (length t.world.memory))
      address_stands = (
        ap (λ (q : Home). q.is_seen) (now u),
        ap (λ (q : Home). Value.Ptr (Pointer.At q.block (moved (offset_of 0) q.offset))) (sym (now u)),
      )

      -- ---- the activation's

      pub own_slot : IsBeside m flags roots (with_slots (with_slot_of s (slot_block m s ty align u) a) (record {
        alloca = a;
        block = length s.world.memory;
      } ∷ s.top.slots)) (with_slots (with_slot_of t (slot_block m s ty align u) a) (record {
        alloca = a;
        block = length t.world.memory;
      } ∷ t.top.slots))
      own_slot = gives_at m flags roots keeps (with_slots (record s { world = w }) (record {
        alloca = a;
        block = length s.world.memory;
      } ∷ s.top.slots)) (with_slots (record t { world = v }) (record {
        alloca = a;
        block = length t.world.memory;
      } ∷ t.top.slots)) (both_listed m flags roots (record s { world = w }) (record t { world = v }) made a (length
          s.world.memory) (length t.world.memory) is.off (now u) unseated) (Instr.Alloca a ty align) (Some a) (pointer_to
          (length s.world.memory)) (pointer_to (length t.world.memory)) (record {
            place = is.place;
            here = is.here;
            no_start = refl;
            no_end = refl;
            name = record {
              no_part = λ v slot root e. is.no_part v slot root (same_name e);
              others = λ v other e. (subst (λ n. n < length s.top.values) (same_name e) is.named, new_value);
            };
          }) address_stands

      -- ---- the instance's

      module _ (i : ℕ) (z y : Instance) (there : slice_get s.instances i ≡ Some z) (there' : slice_get t.instances i ≡
          Some y) (off : flags z.coroutine a ≡ false) where
        abbrev ys : List Instance
        ys = slice_set s.instances i (record z {
          slots = record { alloca = a; block = length s.world.memory } ∷ z.slots;
        })

        abbrev zs : List Instance
        zs = slice_set t.instances i (record y {
          slots = record { alloca = a; block = length t.world.memory } ∷ y.slots;
        })

        old : IsInstanceBeside m flags roots k (s.world.memory ++ x ∷ []) (0 + i) z y
        old =
            let r = instance_beside m flags roots k (s.world.memory ++ x ∷ []) 0 s.instances t.instances i z
            made.instances there in
            subst (IsInstanceBeside m flags roots k (s.world.memory ++ x ∷ []) (0 + i) z) (same_some r.0 y (sym r.1
            ∙ there')) r.2

        instances : AreInstancesBeside m flags roots k (s.world.memory ++ x ∷ []) 0 ys zs
        instances = instances_set m flags roots k (s.world.memory ++ x ∷ []) 0 s.instances t.instances i _ _
            made.instances (both_more m flags roots k (s.world.memory ++ x ∷ []) (0 + i) z y a (length s.world.memory)
            (length t.world.memory) off (now u) unseated old)

        pub instance_slot : IsBeside m flags roots (with_instance (with_slot_of s (slot_block m s ty align u) a) i (record
            z { slots = record { alloca = a; block = length s.world.memory } ∷ z.slots })) (with_instance (with_slot_of
            t (slot_block m s ty align u) a) i (record y {
              slots = record { alloca = a; block = length t.world.memory } ∷ y.slots;
            }))
        instance_slot = gives_at m flags roots keeps (record s { world = w; instances = ys }) (record t {
          world = v;
          instances = zs;
        }) (instances_grown m flags roots (record s { world = w }) (record t { world = v }) made ys zs (one_grown
            s.instances i z _ there) instances) (Instr.Alloca a ty align) (Some a) (pointer_to (length s.world.memory))
            (pointer_to (length t.world.memory)) (record {
              place = is.place;
              here = is.here;
              no_start = refl;
              no_end = refl;
              name = record {
                no_part = λ v slot root e. is.no_part v slot root (same_name e);
                others = λ v other e. (subst (λ n. n < length s.top.values) (same_name e) is.named, new_value);
              };
            }) address_stands
