-- The slots of an activation die in both runs: all else stays beside.
use Rattle.std.proofs.Common.{◌≡◌, ◌≢◌, ◌<◌, ◌+◌, ◌⊎◌, ◌∙◌, ◌||◌, ◌==◌, ◌∷◌, [], ap, arith, Bool, false, inl, inr, ⊎_elim, List, map, not, Option, refl, subst, suc, sym, true, zero, ℕ, length}
use Rattle.std.specs.Option.{option_map_or}
use Rattle.std.specs.Prelude.{None, Some, option_map, slice_get}
use Rattle.pass_elide_proof.proofs.Callees.{apart_from, in_list}
use Rattle.pass_elide_proof.proofs.Kept.{KeepsSides, alloca_kept, below_kept, filter_many}
use Rattle.pass_elide_proof.proofs.Killing.{IsSlotOf, killed_stand, slot_or_none, slots_kind, slots_long, spared, struck}
use Rattle.pass_elide_proof.specs.Calling.{AreReady, at_front}
use Rattle.pass_elide_proof.specs.Counts.{counted, given_frames}
use Rattle.pass_elide_proof.specs.Elision.{Elision, elided, framed}
use Rattle.pass_elide_proof.specs.Match.{AreActivations, AreBelow, AreElided, AreInstances, AreMates, HasAlloca, IsFreedAs, IsNoGivenFrame, Sides, instance_in, sides}
use Rattle.pass_elide_proof.specs.Returning.{HasSlot, IsAllocaBlock, IsListed, MayEnd}
use Rattle.pass_proofs.proofs.ir_laws.facts.Lists.{get_before, get_behind, get_within}
use Rattle.pass_proofs.proofs.ir_laws.facts.Truth.{is_number}
use Rattle.pass_proofs.proofs.run_laws.transfer.Muted.{muted_get, muted_length}
use Rattle.pass_proofs.proofs.run_laws.transfer.Places.{fewer_stand, muted_at}
use Rattle.pass_proofs.specs.ir_model.declared.instr.Instr.{Instr}
use Rattle.pass_proofs.specs.run_framed.Framed.{frame_rights, is_given}
use Rattle.pass_proofs.specs.run_laws.embedded.Deaths.{moved_slot}
use Rattle.pass_proofs.specs.run_laws.embedded.Making.{whole_home}
use Rattle.pass_proofs.specs.run_laws.memory.Pointers.{Home, home_of}
use Rattle.pass_proofs.specs.run_laws.memory.Standing.{blank_block}
use Rattle.pass_proofs.specs.run_laws.transfer.Muted.{ended_if, muted}
use Rattle.pass_proofs.specs.run_laws.transfer.Places.{AreStanding, HasFewer, IsComparable}
use Rattle.pass_proofs.specs.run_laws.transfer.Transfer.{AreOver}
use Rattle.pass_proofs.specs.run_memory.Memory.{Rights, is_killed, is_live, killed_block, may_compare_at, same_kind}
use Rattle.pass_proofs.specs.run_memory.Pointers.{moved}
use Rattle.pass_proofs.specs.run_memory.declared.block.Byte.{Byte}
use Rattle.pass_proofs.specs.run_memory.declared.block.Kind.{Kind}
use Rattle.pass_proofs.specs.run_memory.declared.block.Life.{Life}
use Rattle.pass_proofs.specs.run_memory.declared.block.MemoryBlock.{MemoryBlock}
use Rattle.pass_proofs.specs.run_memory.declared.pointer.Offset.{Offset}
use Rattle.pass_proofs.specs.run_source.State.{is_finished}
use Rattle.pass_proofs.specs.run_source.declared.state.Activation.{Activation}
use Rattle.pass_proofs.specs.run_source.declared.state.Instance.{Instance}
use Rattle.pass_proofs.specs.run_source.declared.state.State.{State}
use Rattle.pass_proofs.specs.run_step.Step.{without_slots}
use Rattle.pass_proofs.specs.run_step.declared.world.Slot.{Slot}
use Rattle.run_access_worked.proofs.run_laws_worked.Frames.{frame_rights_fit}

-- ---- lists and lives

same_some : {A : Type 0} (x y : A) → Some x ≡ Some y → x ≡ y
same_some x y e = cc

not_both : (b : Bool) → b ≡ true → b ≡ false → ⊥
not_both true y n = absurd (cc)
not_both false y n = absurd (cc)

live_unkilled : (l : Life) → is_live l ≡ true → is_killed l ≡ false
live_unkilled Life.Live h = refl
live_unkilled Life.Ended h = absurd (cc)
live_unkilled Life.Killed h = absurd (cc)

past : (xs : List MemoryBlock) (j : ℕ) → slice_get xs j ≡ None → j < length xs → ⊥
past [] j e lt = omega (arith, lt)
past (y ∷ xs) zero e lt = absurd (cc)
past (y ∷ xs) (suc j) e lt = past xs j e (omega (arith, lt))

mapped : {A B : Type 0} (f : A → B) (xs : List A) (n : ℕ) (x : A) → slice_get xs n ≡ Some x
    → slice_get (map f xs) n ≡ Some (f x)
mapped f [] n x at = absurd (cc)
mapped f (y ∷ xs) zero x at = let is : y ≡ x = cc in ap (λ z. Some (f z)) is
mapped f (y ∷ xs) (suc n) x at = mapped f xs n x at

row_below : (e : Elision) (homes : List Home) (hides : ℕ → Bool) (d : Sides) (bs cs : List Activation)
    → AreBelow e homes hides d bs cs → (j : ℕ) (b : Activation) → slice_get bs j ≡ Some b
    → (c : Activation) × ((slice_get cs j ≡ Some c) × AreActivations e homes hides d b c)
row_below e homes hides d [] cs h j b at = absurd (cc)
row_below e homes hides d (x ∷ bs) [] h j b at = absurd h
row_below e homes hides d (x ∷ bs) (y ∷ cs) h zero b at =
    let is : x ≡ b = cc in
    (y, (refl, subst (λ (z : Activation). AreActivations e homes hides d z y) is h.0.1))
row_below e homes hides d (x ∷ bs) (y ∷ cs) h (suc j) b at = row_below e homes hides d bs cs h.1 j b at

module _ (e : Elision) (s t : State) (r : AreReady e s t) (k : MayEnd e s t) where
  abbrev q : AreElided e s (at_front e s t)
  q = r.beside

  abbrev m : List MemoryBlock
  m = s.world.memory

  abbrev n : List MemoryBlock
  n = t.world.memory

  abbrev pub m1 : List MemoryBlock
  m1 = without_slots s.world.memory s.top.slots

  abbrev pub n1 : List MemoryBlock
  n1 = without_slots t.world.memory t.top.slots

  abbrev d : Sides
  d = sides s t

  abbrev pub now : Sides
  now =
      record {
        first = s.instances;
        second = t.instances;
        memory = without_slots s.world.memory s.top.slots;
        other = without_slots t.world.memory t.top.slots;
      }

  -- ---- a slot of the first run, in the second

  -- each row has one, whose slots begin with what stands for its slots
  slot_there : (b c : Activation) (h : AreActivations e q.homes q.hides d b c) (p : ℕ) (z : Slot)
      → slice_get b.slots p ≡ Some z → slice_get c.slots p ≡ Some (moved_slot q.homes z)
  slot_there b c h p z at =
      ap (λ (zs : List Slot). slice_get zs p) h.slots
      ∙ get_before (map (moved_slot q.homes) b.slots) h.own p (moved_slot q.homes z)
      (mapped (moved_slot q.homes) b.slots p z at)

  slot_too : (j p : ℕ) (z : Slot) → HasSlot s j p z → HasSlot t j p (moved_slot q.homes z)
  slot_too j p z h = on j h.activation h.there h.slot
    where
      on : (j : ℕ) (b : Activation) → slice_get (s.top ∷ s.below) j ≡ Some b → slice_get b.slots p ≡ Some z
          → HasSlot t j p (moved_slot q.homes z)
      on zero b there at =
          let is : s.top ≡ b = cc in
          record {
            activation = t.top;
            there = refl;
            slot = slot_top (ap (λ (x : Activation). slice_get x.slots p) is ∙ at);
          }
        where
          slot_top : slice_get s.top.slots p ≡ Some z → slice_get t.top.slots p ≡ Some (moved_slot q.homes z)
          slot_top at =
              ap (λ (zs : List Slot). slice_get zs p) q.top.slots
              ∙ get_before (map (moved_slot q.homes) s.top.slots) q.top.own p (moved_slot q.homes z)
              (mapped (moved_slot q.homes) s.top.slots p z at)
      on (suc j) b there at =
          let row = row_below e q.homes q.hides d s.below t.below q.below j b there in
          record { activation = row.0; there = row.1.0; slot = slot_there b row.0 row.1.1 p z at }

  -- an unhidden block whose home is that of a slot of the topmost activation is a slot of it
  matches : (b : ℕ) (x : MemoryBlock) → slice_get m b ≡ Some x → q.hides b ≡ false → IsNoGivenFrame d b → (p : ℕ)
      (z : Slot) → slice_get t.top.slots p ≡ Some z → (home_of q.homes b).block ≡ z.block → IsSlotOf s.top.slots b
  matches b x there calm free p z at same =
      on listed.number listed.has
      (k.theirs.once 0 listed.number p listed.position z (moved_slot q.homes listed.slot) mine
      (slot_too listed.number listed.position listed.slot listed.has)
      (sym same ∙ ap (λ (c : ℕ). (home_of q.homes c).block) (sym listed.same))).0
    where
      mine : HasSlot t 0 p z
      mine = record { activation = t.top; there = refl; slot = at }

      made : IsAllocaBlock n z.block
      made = k.theirs.blocks 0 p z mine

      mate : (c : ℕ) × (bytes : List Byte) × (home_of q.homes b ≡ whole_home c)
          × (slice_get n c ≡ Some (record x { bytes = bytes }))
      mate = q.mates.each b x there calm free

      is : made.block ≡ record x { bytes = mate.1 }
      is =
          let at : z.block ≡ mate.0 = sym same ∙ ap (λ (h : Home). h.block) mate.2 in
          same_some made.block (record x { bytes = mate.1 }) (sym made.there ∙ (ap (slice_get n) at ∙ mate.3))

      listed : IsListed s b
      listed =
          k.ours.listed b (record {
            block = x;
            there = there;
            made = ap (λ (y : MemoryBlock). same_kind y.kind Kind.Slot || same_kind y.kind Kind.Stack) (sym is)
                ∙ made.made;
            unkilled = ap (λ (y : MemoryBlock). is_killed y.life) (sym is) ∙ made.unkilled;
          })

      on : (j : ℕ) → HasSlot s j listed.position listed.slot → 0 ≡ j → IsSlotOf s.top.slots b
      on zero has same =
          let is : s.top ≡ has.activation = let there = has.there in cc in
          record {
            position = listed.position;
            slot = listed.slot;
            there = ap (λ (c : Activation). slice_get c.slots listed.position) is ∙ has.slot;
            same = listed.same;
          }
      on (suc j) has same = absurd (never j same)
        where
          never : (j : ℕ) → 0 ≡ suc j → ⊥
          never j e = omega (arith, e)

  -- ---- a frame that was given, in no slot of it

  called_apart : (number : ℕ) (x y : Instance) (z : MemoryBlock) → slice_get s.instances number ≡ Some x
      → slice_get t.instances number ≡ Some y → is_given n y ≡ true → slice_get m x.block ≡ Some z
      → is_live z.life ≡ true → (p : ℕ) (w : Slot) → slice_get t.top.slots p ≡ Some w → y.block ≡ w.block → ⊥
  called_apart number x y z at to given there live p w slot same = on (is_finished y.status) refl
    where
      on : (b : Bool) → is_finished y.status ≡ b → ⊥
      on false going = apart_from e s t k y number (k.callers.each number y to given going) p w slot same
      on true over =
          ⊎_elim
          (λ freed. not_both (is_killed z.life) (k.ours.gone number x z at freed there) (live_unkilled z.life live))
          (λ called. apart_from e s t k y number called p w slot same)
          (k.freed number x y at to given over)

  -- a given frame has the block, or none
  pub record IsFrame (b : ℕ) : Type 0 where
    pub number : ℕ
    pub ours : Instance
    pub theirs : Instance
    pub at : slice_get s.instances number ≡ Some ours
    pub to : slice_get t.instances number ≡ Some theirs
    pub given : is_given n theirs ≡ true
    pub same : ours.block ≡ b

  abbrev IsIn : List Instance → List Instance → ℕ → Type 0
  IsIn xs ys b =
      (i : ℕ) × (x : Instance) × (y : Instance) × (slice_get xs i ≡ Some x) × (slice_get ys i ≡ Some y)
      × (is_given n y ≡ true) × (x.block ≡ b)

  search_frame : (xs ys : List Instance) (b : ℕ) → IsIn xs ys b ⊎ (IsIn xs ys b → ⊥)
  search_frame [] ys b = inr (λ h. let no = h.3 in absurd (cc))
  search_frame (x ∷ xs) [] b = inr (λ h. let no = h.4 in absurd (cc))
  search_frame (x ∷ xs) (y ∷ ys) b = on (is_given n y) refl (is_number x.block b) (search_frame xs ys b)
    where
      later : IsIn xs ys b → IsIn (x ∷ xs) (y ∷ ys) b
      later h = (suc h.0, h.1, h.2, h.3, h.4, h.5, h.6)

      neither : ((is_given n y ≡ true) → x.block ≡ b → ⊥) → (IsIn xs ys b → ⊥) → IsIn (x ∷ xs) (y ∷ ys) b → ⊥
      neither first rest h = by h.0 h.1 h.2 h.3 h.4 h.5 h.6
        where
          by : (i : ℕ) (p o : Instance) → slice_get (x ∷ xs) i ≡ Some p → slice_get (y ∷ ys) i ≡ Some o
              → is_given n o ≡ true → p.block ≡ b → ⊥
          by zero p o at to given same =
              let one : x ≡ p = cc in
              let two : y ≡ o = cc in
              first (ap (is_given n) two ∙ given) (ap (λ (z : Instance). z.block) one ∙ same)
          by (suc i) p o at to given same = rest (i, p, o, at, to, given, same)

      on : (g : Bool) → is_given n y ≡ g → (x.block ≡ b) ⊎ (x.block ≡ b → ⊥) → IsIn xs ys b ⊎ (IsIn xs ys b → ⊥)
          → IsIn (x ∷ xs) (y ∷ ys) b ⊎ (IsIn (x ∷ xs) (y ∷ ys) b → ⊥)
      on true is (inl same) rest = inl (0, x, y, refl, refl, is, same)
      on g is first (inl h) = inl (later h)
      on false is first (inr none) = inr (neither (λ given same. not_both (is_given n y) given is) none)
      on true is (inr ne) (inr none) = inr (neither (λ given same. ne same) none)

  frame_or_none : (b : ℕ) → IsFrame b ⊎ IsNoGivenFrame d b
  frame_or_none b =
      ⊎_elim
      (λ h. inl (record {
        number = h.0;
        ours = h.1;
        theirs = h.2;
        at = h.3;
        to = h.4;
        given = h.5;
        same = h.6;
      }))
      (λ none. inr (λ i x y at to given same. none (i, x, y, at, to, given, same)))
      (search_frame s.instances t.instances b)

  -- no block that lives stands in a slot of it
  clear : (b : ℕ) (x : MemoryBlock) → slice_get (muted q.hides m1) b ≡ Some x → is_live x.life ≡ true → (p : ℕ)
      (z : Slot) → slice_get t.top.slots p ≡ Some z → (home_of q.homes b).block ≢ z.block
  clear b x there live p z at same = by_hiding (q.hides b) refl
    where
      ended_dead : (o : Option MemoryBlock) → option_map (ended_if true) o ≡ Some x → ⊥
      ended_dead None e = absurd (cc)
      ended_dead (Some y) e =
          let is : ended_if true y ≡ x = same_some (ended_if true y) x e in
          not_both (is_live x.life) live (ap (λ (w : MemoryBlock). is_live w.life) (sym is))

      dead : (y : MemoryBlock) → slice_get m1 b ≡ Some (killed_block y) → slice_get m1 b ≡ Some x → ⊥
      dead y gone there =
          let is : killed_block y ≡ x = same_some (killed_block y) x (sym gone ∙ there) in
          not_both (is_live x.life) live (ap (λ (w : MemoryBlock). is_live w.life) (sym is))

      by_frame : q.hides b ≡ false → slice_get m b ≡ Some x → (IsSlotOf s.top.slots b → ⊥) → IsFrame b
          ⊎ IsNoGivenFrame d b → ⊥
      by_frame calm here none (inl h) =
          let home : (home_of q.homes b).block ≡ h.theirs.block
          = ap (λ (c : ℕ). (home_of q.homes c).block) (sym h.same)
          ∙ ap (λ (w : Home). w.block) (q.instances h.number h.ours h.theirs h.at h.to).home in
          called_apart h.number h.ours h.theirs x h.at h.to h.given (ap (slice_get m) h.same ∙ here) live p z at
          (sym home ∙ same)
      by_frame calm here none (inr free) = none (matches b x here calm free p z at same)

      by_slot : q.hides b ≡ false → slice_get m1 b ≡ Some x → IsSlotOf s.top.slots b ⊎ (IsSlotOf s.top.slots b → ⊥) → ⊥
      by_slot calm here (inl h) = was (slice_get m b) refl
        where
          was : (o : Option MemoryBlock) → slice_get m b ≡ o → ⊥
          was (Some y) is = dead y (struck m s.top.slots b y is h) here
          was None is =
              let lt = get_within m1 b x here in
              let long = slots_long m s.top.slots in
              past m b is (omega (arith, lt, long))
      by_slot calm here (inr none) =
          by_frame calm (sym (spared m s.top.slots b none) ∙ here) none (frame_or_none b)

      by_hiding : (h : Bool) → q.hides b ≡ h → ⊥
      by_hiding true hidden =
          ended_dead (slice_get m1 b)
          (ap (λ (w : Bool). option_map (ended_if w) (slice_get m1 b)) (sym hidden) ∙ (sym (muted_at q.hides m1 b)
          ∙ there))
      by_hiding false calm =
          by_slot calm (sym (muted_get q.hides m1 b calm) ∙ there) (slot_or_none s.top.slots b)

  -- ---- the parts of the relation

  missing : (b : ℕ) (x : MemoryBlock) → slice_get m1 b ≡ Some x → slice_get m b ≡ None → ⊥
  missing b x here is =
      let lt = get_within m1 b x here in
      let long = slots_long m s.top.slots in
      past m b is (omega (arith, lt, long))

  gone : (b : ℕ) (x : MemoryBlock) → slice_get (muted q.hides m1) b ≡ Some x → slice_get m b ≡ None → ⊥
  gone b x here is =
      let lt = get_within (muted q.hides m1) b x here in
      let many = muted_length q.hides m1 in
      let long = slots_long m s.top.slots in
      past m b is (omega (arith, lt, many, long))

  dies : (b : ℕ) (x : MemoryBlock) → slice_get (muted q.hides m1) b ≡ Some x → is_live x.life ≡ true
      → IsSlotOf s.top.slots b → ⊥
  dies b x there live h = on (slice_get m b) refl
    where
      ended_dead : (c : Bool) (y : MemoryBlock) → is_live (ended_if c (killed_block y)).life ≡ false
      ended_dead true y = refl
      ended_dead false y = refl

      on : (o : Option MemoryBlock) → slice_get m b ≡ o → ⊥
      on None is = gone b x there is
      on (Some y) is =
          let same : ended_if (q.hides b) (killed_block y) ≡ x
          = same_some (ended_if (q.hides b) (killed_block y)) x
          (ap (option_map (ended_if (q.hides b))) (sym (struck m s.top.slots b y is h))
          ∙ (sym (muted_at q.hides m1 b) ∙ there)) in
          not_both (is_live x.life) live
          (ap (λ (w : MemoryBlock). is_live w.life) (sym same) ∙ ended_dead (q.hides b) y)

  same_size : (c : Bool) (y : MemoryBlock) → (ended_if c y).size ≡ (ended_if c (killed_block y)).size
  same_size true y = refl
  same_size false y = refl

  abbrev R : Rights
  R = frame_rights (framed e) s.instances

  abbrev T : Rights
  T = frame_rights (elided e) t.instances

  -- frames' rights let all pointers be compared with null
  all_compared : (b : ℕ) → IsComparable T q.homes n b
  all_compared b = record {
    each = λ o. on (slice_get n (home_of q.homes b).block) (moved o (home_of q.homes b).offset);
  }
    where
      on : (x : Option MemoryBlock) (o : Offset) → may_compare_at T (home_of q.homes b).block x o ≡ true
      on None o = refl
      on (Some x) o = last (not (is_live x.life))
        where
          last : (c : Bool) → (c || true) ≡ true
          last true = refl
          last false = refl

  fewer : HasFewer T q.homes (muted q.hides m) (muted q.hides m1) n
  fewer = record {
    live = λ b x there live. lives b x there live (q.hides b) refl (slot_or_none s.top.slots b);
    nulls = λ b seen. inr (all_compared b);
    sizes = λ b x there. sized b x there (slice_get m b) refl (slot_or_none s.top.slots b);
  }
    where
      lives : (b : ℕ) (x : MemoryBlock) → slice_get (muted q.hides m1) b ≡ Some x → is_live x.life ≡ true → (h : Bool)
          → q.hides b ≡ h → IsSlotOf s.top.slots b ⊎ (IsSlotOf s.top.slots b → ⊥)
          → slice_get (muted q.hides m) b ≡ Some x
      lives b x there live h is (inl slot) = absurd (dies b x there live slot)
      lives b x there live h is (inr none) =
          muted_at q.hides m b
          ∙ (ap (option_map (ended_if (q.hides b))) (sym (spared m s.top.slots b none))
          ∙ (sym (muted_at q.hides m1 b) ∙ there))

      sized : (b : ℕ) (x : MemoryBlock) → slice_get (muted q.hides m1) b ≡ Some x → (o : Option MemoryBlock)
          → slice_get m b ≡ o → IsSlotOf s.top.slots b ⊎ (IsSlotOf s.top.slots b → ⊥)
          → (y : MemoryBlock) × (slice_get (muted q.hides m) b ≡ Some y) × (y.size ≡ x.size)
      sized b x there None is at = absurd (gone b x there is)
      sized b x there (Some y) is (inl slot) = (
        ended_if (q.hides b) y,
        muted_at q.hides m b ∙ ap (option_map (ended_if (q.hides b))) is,
        same_size (q.hides b) y ∙ ap (λ (w : MemoryBlock). w.size)
            (same_some (ended_if (q.hides b) (killed_block y)) x
            (ap (option_map (ended_if (q.hides b))) (sym (struck m s.top.slots b y is slot))
            ∙ (sym (muted_at q.hides m1 b) ∙ there))),
      )
      sized b x there (Some y) is (inr none) = (
        x,
        muted_at q.hides m b
            ∙ (ap (option_map (ended_if (q.hides b))) (sym (spared m s.top.slots b none))
            ∙ (sym (muted_at q.hides m1 b) ∙ there)),
        refl,
      )

  standing : AreStanding R T q.homes (muted q.hides m1) n1
  standing =
      killed_stand R T q.homes (muted q.hides m1) n t.top.slots (frame_rights_fit (framed e) s.instances)
      (frame_rights_fit (elided e) t.instances) (λ p z at b x there live. clear b x there live p z at)
      (fewer_stand R T q.homes (muted q.hides m) (muted q.hides m1) n fewer
      (record { memory = q.world.memory; nulls = q.world.nulls; bounds = q.world.bounds }))

  pub world_dead : AreOver (frame_rights (framed e) s.instances) (frame_rights (elided e) t.instances) r.beside.homes
      r.beside.hides (λ d. d)
      (counted t.world.allocs (record s.world { memory = without_slots s.world.memory s.top.slots }))
      (record t.world { memory = without_slots t.world.memory t.top.slots })
  world_dead = record {
    memory = standing.memory;
    nulls = standing.nulls;
    bounds = standing.bounds;
    events = q.world.events;
    answers = q.world.answers;
    allocs = q.world.allocs;
  }

  pub known_dead : length r.beside.homes ≡ length (without_slots s.world.memory s.top.slots)
  known_dead = q.known ∙ sym (slots_long m s.top.slots)

  -- ---- frames lie where they did

  pub given_dead : (y : Instance) → is_given (without_slots t.world.memory t.top.slots) y
      ≡ is_given t.world.memory y
  given_dead y = ap (λ (b : Bool). b || not (y.start == 0)) (slots_kind Kind.Stack n t.top.slots y.block)

  given_in : (o : Option Instance) → option_map_or (is_given n1) o false ≡ option_map_or (is_given n) o false
  given_in None = refl
  given_in (Some y) = given_dead y

  by_number : (o : Option ℕ) → option_map_or (is_given n1) (instance_in t.instances o) false
      ≡ option_map_or (is_given n) (instance_in t.instances o) false
  by_number None = refl
  by_number (Some i) = given_in (slice_get t.instances i)

  -- a block of an allocator is no slot
  no_heap : (b size : ℕ) → slice_get m b ≡ Some (blank_block size 16 Kind.Allocator) → IsSlotOf s.top.slots b → ⊥
  no_heap b size there h =
      let made = k.ours.slots.blocks 0 h.position h.slot
      (record { activation = s.top; there = refl; slot = h.there }) in
      let is : made.block ≡ blank_block size 16 Kind.Allocator
      = same_some made.block (blank_block size 16 Kind.Allocator)
      (sym made.there ∙ (ap (slice_get m) h.same ∙ there)) in
      not_both false
      (ap (λ (x : MemoryBlock). same_kind x.kind Kind.Slot || same_kind x.kind Kind.Stack) (sym is) ∙ made.made) refl

  pub keeps_dead : KeepsSides r.beside.hides (sides s t) now
  keeps_dead = record {
    given = by_number;
    first = λ o y is. (y, is, refl);
    hidden = λ b size h there. spared m s.top.slots b (no_heap b size there) ∙ there;
  }

  back : (b : ℕ) → IsNoGivenFrame now b → IsNoGivenFrame d b
  back b none i x y at to given = none i x y at to (given_dead y ∙ given)

  pub count_dead : given_frames (record t {
    world = record t.world { memory = without_slots t.world.memory t.top.slots };
  }) ≡ given_frames t
  count_dead = filter_many (is_given n) (is_given n1) t.instances (λ i y at. given_dead y)

  -- ---- blocks and their mates

  -- a mate of a block that is no slot of the first is none of the second
  spared_mate : (b c : ℕ) (x y : MemoryBlock) → slice_get m b ≡ Some x → q.hides b ≡ false → IsNoGivenFrame d b
      → (home_of q.homes b).block ≡ c → (IsSlotOf s.top.slots b → ⊥) → IsSlotOf t.top.slots c → ⊥
  spared_mate b c x y there calm free home none h =
      none (matches b x there calm free h.position h.slot h.there (home ∙ sym h.same))

  pub mates_dead : AreMates r.beside.homes r.beside.hides now
  mates_dead = record {
    each = λ b x there h free. on b x there h (back b free) (slice_get m b) refl (slot_or_none s.top.slots b);
    alone = λ b c lt gt h i free none same. q.mates.alone b c (shorter b lt) (shorter c gt) h i (back b free)
        (back c none) same;
  }
    where
      shorter : (b : ℕ) → b < length m1 → b < length m
      shorter b lt = let long = slots_long m s.top.slots in omega (arith, lt, long)

      on : (b : ℕ) (x : MemoryBlock) → slice_get m1 b ≡ Some x → q.hides b ≡ false → IsNoGivenFrame d b
          → (o : Option MemoryBlock) → slice_get m b ≡ o → IsSlotOf s.top.slots b ⊎ (IsSlotOf s.top.slots b → ⊥)
          → (c : ℕ) × (bytes : List Byte) × (home_of q.homes b ≡ whole_home c)
          × (slice_get n1 c ≡ Some (record x { bytes = bytes }))
      on b x there calm free None is at = absurd (missing b x there is)
      on b x there calm free (Some y) is (inr none) =
          let same : y ≡ x = same_some y x (sym is ∙ (sym (spared m s.top.slots b none) ∙ there)) in
          let old = q.mates.each b y is calm free in (
            old.0,
            old.1,
            old.2,
            spared n t.top.slots old.0
                (spared_mate b old.0 y (record y { bytes = old.1 }) is calm free (ap (λ (h : Home). h.block) old.2)
                none)
                ∙ (old.3 ∙ ap (λ (w : MemoryBlock). Some (record w { bytes = old.1 })) same),
          )
      on b x there calm free (Some y) is (inl h) =
          let same : killed_block y ≡ x = same_some (killed_block y) x (sym (struck m s.top.slots b y is h) ∙ there) in
          let old = q.mates.each b y is calm free in
          let mine = slot_too 0 h.position h.slot (record { activation = s.top; there = refl; slot = h.there }) in
          let top : t.top ≡ mine.activation = let there = mine.there in cc in (
            old.0,
            [],
            old.2,
            struck n t.top.slots old.0 (record y { bytes = old.1 }) old.3 (record {
              position = h.position;
              slot = moved_slot q.homes h.slot;
              there = ap (λ (c : Activation). slice_get c.slots h.position) top ∙ mine.slot;
              same = ap (λ (c : ℕ). (home_of q.homes c).block) h.same ∙ ap (λ (w : Home). w.block) old.2;
            })
                ∙ ap (λ (w : MemoryBlock). Some (record w { bytes = [] })) same,
          )

  -- ---- instances

  freed_dead : (i : ℕ) (x y : Instance) → slice_get s.instances i ≡ Some x → slice_get t.instances i ≡ Some y
      → (b : Bool) → is_given n y ≡ b → IsFreedAs n x y b → IsFreedAs n1 x y b
  freed_dead i x y at to false is h = h
  freed_dead i x y at to true is h = (
    h.0,
    λ going.
        let z = h.1 going in (
          z.0,
          spared n t.top.slots y.block (λ w. apart_from e s t k y i (k.callers.each i y to is going) w.position w.slot
              w.there (sym w.same)) ∙ z.1,
          z.2,
        ),
  )

  pub instances_dead : (i : ℕ) (x y : Instance) → slice_get s.instances i ≡ Some x → slice_get t.instances i ≡ Some y
      → AreInstances e r.beside.homes (without_slots t.world.memory t.top.slots) x y
  instances_dead i x y at to =
      let old = q.instances i x y at to in
      record {
        coroutine = old.coroutine;
        whole = old.whole;
        home = old.home;
        status = old.status;
        last_save = old.last_save;
        released = old.released;
        freed = subst (λ (b : Bool). IsFreedAs n1 x y b) (sym (given_dead y))
            (freed_dead i x y at to (is_given n y) refl old.freed);
        slots = old.slots;
        no_slots = old.no_slots;
      }

  -- ---- the activations below

  alloca_stays : (j : ℕ) (b c : Activation) → slice_get s.below j ≡ Some b → slice_get t.below j ≡ Some c
      → (h : AreActivations e q.homes q.hides d b c) (i : Instr) → HasAlloca q.homes q.hides d c h.own i
      → HasAlloca q.homes q.hides now c h.own i
  alloca_stays j b c from there h i al =
      alloca_kept q.homes q.hides d now c h.own i al
      (spared n t.top.slots al.block apart ∙ al.is_there)
      (let long = slots_long m s.top.slots in omega (arith, long)) back
    where
      slot_at : (p : ℕ) → slice_get h.own p ≡ Some (record { alloca = al.name; block = al.block })
          → HasSlot t (suc j) (length (map (moved_slot q.homes) b.slots) + p)
          (record { alloca = al.name; block = al.block })
      slot_at p at = record {
        activation = c;
        there = there;
        slot = ap (λ (zs : List Slot). slice_get zs (length (map (moved_slot q.homes) b.slots) + p)) h.slots
            ∙ (get_behind (map (moved_slot q.homes) b.slots) h.own p ∙ at);
      }

      apart : IsSlotOf t.top.slots al.block → ⊥
      apart w =
          never (k.theirs.once 0 (suc j) w.position (length (map (moved_slot q.homes) b.slots) + al.slot.0) w.slot
          (record { alloca = al.name; block = al.block })
          (record { activation = t.top; there = refl; slot = w.there })
          (slot_at al.slot.0 (in_list h.own al.slot.0 (record { alloca = al.name; block = al.block }) al.slot.1
          al.slot.2)) w.same).0
        where
          never : 0 ≡ suc j → ⊥
          never e = omega (arith, e)

  pub below_dead : AreBelow e r.beside.homes r.beside.hides now s.below t.below
  below_dead = below_kept e q.homes q.hides d now keeps_dead s.below t.below alloca_stays q.below
