-- A store into a slot is made in a field of the frame, where the slot stands or comes to stand.
use Rattle.std.proofs.Common.{◌≡◌, ◌≢◌, ℕ, zero, suc, inl, inr, true, false, List, [], ◌∷◌, Some, None, refl, sym, ap, ◌∙◌, subst, arith}
use Rattle.std.proofs.lemmas.Bool.{false≢true}
use Rattle.std.specs.Prelude.{ℤ, pos, slice_get}
use Rattle.run_laws.specs.run_memory.Memory.{Rights, is_live, may_compare_at, owner_rights}
use Rattle.run_laws.specs.run_memory.Pointers.{moved, offset_of}
use Rattle.run_laws.specs.run_memory.declared.block.Life.{Life}
use Rattle.run_laws.specs.run_memory.declared.block.MemoryBlock.{MemoryBlock}
use Rattle.run_laws.specs.run_memory.declared.pointer.Offset.{Offset}
use Rattle.run_laws_worked.proofs.Frames.{frame_rights_fit, owned_stands}
use Rattle.run_laws_worked.proofs.Slots.{slot_stands, slot_stands_in_frame, stand_apart}
use Rattle.run_laws_worked.specs.Stored.{field_context, field_work, hidden_homes, hidden_slot, slot_context, slot_place, slot_work, store_by, stored_source, worked_homes, worked_source, worked_target}
use Rattle.run_laws_worked.specs.Worked.{an_instance, frame_given, owned_block, slot_home, worked_slot}
use Rattle.run_framed.specs.Framed.{frame_rights}
use Rattle.run_laws.specs.ir_model.Ty.{Ty, array, int, named, ptr, structure, token}
use Rattle.run_laws.specs.ir_model.declared.module.Function.{Function}
use Rattle.run_laws.specs.ir_model.declared.module.Module.{Module}
use Rattle.run_laws.specs.ir_model.declared.operand.Operand.{Operand}
use Rattle.run_laws.proofs.memory.Itself.{owner_rights_fit}
use Rattle.run_laws.proofs.memory.Written.{same_some}
use Rattle.run_laws.specs.memory.Pointers.{Home, IsValue, home_of}
use Rattle.run_laws.specs.memory.Standing.{AreApart, AreBoundsKept, AreNullsKept, Embeds, HasBounds, Stands}
use Rattle.run_laws.specs.run_step.Step.{Done, action_of, set_memory}
use Rattle.run_laws.specs.run_step.Values.{literal}
use Rattle.run_source_tables.specs.Given.{Given}
use Rattle.run_laws.specs.embedded.Making.{whole_home}
use Rattle.run_laws.proofs.transfer.Over.{step_over}
use Rattle.run_laws.proofs.transfer.Ready.{used_step}
use Rattle.run_laws.specs.transfer.Muted.{muted}
use Rattle.run_laws.specs.transfer.Places.{HasRoom, IsApartFrom}
use Rattle.run_laws.specs.transfer.Ready.{ArePlaces, Comes, IsComing, IsValueOver, home_at, shown_of, stood}
use Rattle.run_laws.specs.transfer.Shapes.{Store}
use Rattle.run_laws.specs.transfer.Transfer.{AreJoined, GoesOver, IsTransferred, same_maps}

literal_itself : (homes : List Home) (ty : Ty) (z : ℤ) → IsValue homes (literal ty z) (literal ty z)
literal_itself homes (int w) z = refl
literal_itself homes ptr z = tt
literal_itself homes token z = tt
literal_itself homes (array n t) z = tt
literal_itself homes (structure ts) z = tt
literal_itself homes (named n) z = tt

module _ (given : Given) where
  abbrev target : Rights
  target = frame_rights (frame_given given) (an_instance ∷ [])

  nulls : AreNullsKept owner_rights target worked_homes worked_source worked_target
  nulls = record { each = each }
    where
      each : (b : ℕ) (o : Offset) → (home_of worked_homes b).is_seen ≡ true
          → may_compare_at owner_rights b (slice_get worked_source b) o ≡ true
          → may_compare_at target (home_of worked_homes b).block (slice_get worked_target
          (home_of worked_homes b).block) (moved o (home_of worked_homes b).offset) ≡ true
      each zero o seen e = refl
      each (suc zero) o seen e = refl
      each (suc (suc b)) o seen e = absurd (false≢true seen)

  bounds : AreBoundsKept worked_homes worked_source worked_target
  bounds = record { each = each }
    where
      each : (b : ℕ) (y : MemoryBlock) → (home_of worked_homes b).is_seen ≡ true → slice_get worked_source b ≡ Some y
          → HasBounds worked_target (home_of worked_homes b) y.size
      each zero y seen e = subst (λ (z : MemoryBlock). HasBounds worked_target (whole_home 0) z.size)
          (same_some (owned_block 48 16 32) y e)
          (record { block = owned_block 48 16 32; there = refl; fits = omega arith; small = omega arith })
      each (suc zero) y seen e = subst (λ (z : MemoryBlock). HasBounds worked_target slot_home z.size)
          (same_some worked_slot y e)
          (record { block = owned_block 48 16 32; there = refl; fits = omega arith; small = omega arith })
      each (suc (suc b)) y seen e = absurd (false≢true seen)

  pub joined : (m : Module) (f g : Function)
      → AreJoined worked_homes (λ b. false) same_maps (slot_context m f) (field_context given m g) slot_work field_work
  joined m f g = record {
    over = record {
      memory = slot_stands_in_frame given;
      nulls = nulls;
      bounds = bounds;
      events = refl;
      answers =
          refl;
      allocs = refl;
    };
    hidden = λ b e. absurd (false≢true e);
    answers = refl;
    room = omega arith;
  }

  pub transferred : (m : Module) (f g : Function)
      → IsTransferred (IsValue worked_homes) same_maps (slot_context m f)
      (field_context given m g) slot_work.values field_work.values (store_by 0) (store_by 1)
  transferred m f g = record {
    shape = Store _ _ (Operand.Local 0) (Operand.Local 1) 8
        (record { ty = refl; value = λ ty. literal_itself worked_homes ty (pos 7) }) (λ ty. (refl, refl));
    callee = tt;
    pointed = tt;
    distance = tt;
    cases = tt;
    no_slot = tt;
    bytes = omega arith;
  }

  pub target_stores : (m : Module) (f g : Function)
      → GoesOver owner_rights target worked_homes (λ b. false) same_maps None [] [] slot_work field_work
      (Done (set_memory slot_work stored_source)) (action_of (field_context given m g) field_work (store_by 1))
  target_stores m f g = step_over worked_homes (λ b. false) same_maps (slot_context m f)
      (field_context given m g) slot_work field_work (store_by 0) (store_by 1) owner_rights_fit
      (frame_rights_fit (frame_given given) (an_instance ∷ [])) (joined m f g) (transferred m f g)

  -- ---- a slot that comes to stand in its field because it is used

  no_slot_yet : (b : ℕ) (y : MemoryBlock) → slice_get (muted hidden_slot worked_source) b ≡ Some y
      → is_live y.life ≡ true → (b ≡ 0) × (owned_block 48 16 32 ≡ y)
  no_slot_yet zero y at live = (refl, same_some (owned_block 48 16 32) y at)
  no_slot_yet (suc zero) y at live = absurd (false≢true (ap (λ (z : MemoryBlock). is_live z.life)
      (same_some (record worked_slot { life = Life.Ended }) y at) ∙ live))
  no_slot_yet (suc (suc b)) y at live = absurd (cc)

  hidden_memory : Embeds owner_rights target hidden_homes (muted hidden_slot worked_source) worked_target
  hidden_memory = record {
    each = λ b y at live.
        let h = no_slot_yet b y at live in
        subst (λ (p : ℕ × MemoryBlock). Stands owner_rights target hidden_homes worked_target p.0 p.1)
        (λ i. (sym h.0 i, h.1 i))
        (owned_stands (frame_given given) an_instance 48 32 refl refl
        (record { block = 7; offset = 0; is_seen = false } ∷ []) [] (omega arith) (omega arith));
    apart = λ b c y z ne at_b at_c live live' shared. absurd (ne ((no_slot_yet b y at_b live).0 ∙ sym
        (no_slot_yet c z at_c live').0));
  }

  pub hidden_joined : (m : Module) (f g : Function)
      → AreJoined hidden_homes hidden_slot same_maps (slot_context m f) (field_context given m g) slot_work field_work
  hidden_joined m f g = record {
    over = record {
      memory = hidden_memory;
      nulls = record { each = null };
      bounds = record { each = bound };
      events =
          refl;
      answers = refl;
      allocs = refl;
    };
    hidden = unseen;
    answers = refl;
    room = omega arith;
  }
    where
      null : (b : ℕ) (o : Offset) → (home_of hidden_homes b).is_seen ≡ true
          → may_compare_at owner_rights b (slice_get (muted hidden_slot worked_source) b) o ≡ true
          → may_compare_at target (home_of hidden_homes b).block (slice_get worked_target
          (home_of hidden_homes b).block) (moved o (home_of hidden_homes b).offset) ≡ true
      null zero o seen e = refl
      null (suc zero) o seen e = absurd (false≢true seen)
      null (suc (suc b)) o seen e = absurd (false≢true seen)

      bound : (b : ℕ) (y : MemoryBlock) → (home_of hidden_homes b).is_seen ≡ true
          → slice_get (muted hidden_slot worked_source) b ≡ Some y
          → HasBounds worked_target (home_of hidden_homes b) y.size
      bound zero y seen e = subst (λ (z : MemoryBlock). HasBounds worked_target (whole_home 0) z.size)
          (same_some (owned_block 48 16 32) y e)
          (record { block = owned_block 48 16 32; there = refl; fits = omega arith; small = omega arith })
      bound (suc zero) y seen e = absurd (false≢true seen)
      bound (suc (suc b)) y seen e = absurd (false≢true seen)

      unseen : (b : ℕ) → hidden_slot b ≡ true → (home_of hidden_homes b).is_seen ≡ false
      unseen zero e = absurd (false≢true e)
      unseen (suc zero) e = refl
      unseen (suc (suc b)) e = refl

  slot_room : HasRoom owner_rights target worked_target (home_at slot_place) 1 worked_slot
  slot_room =
      let s = slot_stands given in
      record {
        block = s.block;
        there = s.there;
        live = s.live;
        whole = s.whole;
        fits = s.fits;
        small = s.small;
        writable = s.writable;
        allowed = s.allowed;
      }

  slot_apart : IsApartFrom owner_rights hidden_homes (muted hidden_slot worked_source)
      (home_at slot_place) 1 worked_slot
  slot_apart c z ne at live shared =
      let h = no_slot_yet c z at live in
      subst (λ (p : ℕ × MemoryBlock). AreApart owner_rights (home_of hidden_homes p.0)
      (home_at slot_place) p.0 1 p.1 worked_slot) (λ i. (sym h.0 i, h.1 i)) (stand_apart given)

  pub slot_places : ArePlaces owner_rights target hidden_homes hidden_slot worked_source worked_target
      (slot_place ∷ [])
  slot_places = record {
    places = (
      record {
        within = omega arith;
        seen = record {
          nulls = λ o e. refl;
          bounds = λ z e. subst
              (λ (u : MemoryBlock). HasBounds worked_target (home_at slot_place) u.size) (same_some worked_slot z e)
              (record { block = owned_block 48 16 32; there = refl; fits = omega arith; small = omega arith });
        };
      },
      tt,
    );
    settled = (
      Comes refl (λ x at live. subst
          (IsComing owner_rights target hidden_homes hidden_slot worked_source worked_target slot_place)
          (same_some worked_slot x at) (record { blank = refl; room = slot_room; apart = slot_apart })),
      tt,
    );
    apart = (tt, tt);
  }

  pub placed : (m : Module) (f g : Function)
      → IsTransferred (IsValueOver hidden_homes (slot_place ∷ [])) same_maps (slot_context m f)
      (field_context given m g) slot_work.values field_work.values (store_by 0) (store_by 1)
  placed m f g = record {
    shape = Store _ _ (Operand.Local 0) (Operand.Local 1) 8 (record {
      ty = refl;
      value = λ ty. inl
          (literal_itself hidden_homes ty (pos 7));
    })
        (λ ty. inr (record {
          place = slot_place;
          listed = inl refl;
          offset = offset_of 0;
          source = refl;
          target =
              refl;
        }));
    callee = tt;
    pointed = tt;
    distance = tt;
    cases = tt;
    no_slot = tt;
    bytes = omega arith;
  }

  pub target_takes : (m : Module) (f g : Function)
      → GoesOver owner_rights target (stood hidden_homes (slot_place ∷ [])) (shown_of hidden_slot
      (slot_place ∷ [])) same_maps None [] [] slot_work field_work (Done (set_memory slot_work stored_source))
      (action_of (field_context given m g) field_work (store_by 1))
  target_takes m f g = used_step hidden_homes hidden_slot same_maps (slot_place ∷ []) (slot_context m f)
      (field_context given m g) slot_work field_work (hidden_joined m f g) slot_places (store_by 0)
      (store_by 1) owner_rights_fit (frame_rights_fit (frame_given given) (an_instance ∷ [])) (placed m f g)
