-- Behind begin instances and blocks that stand alone are related again.
use Rattle.std.proofs.Common.{◌≡◌, ◌≢◌, ◌⊎◌, ◌+◌, ◌<◌, ◌≤◌, ◌∷◌, ◌∙◌, [], Bool, List, Some, ap, append-nil, arith, false, inl, inr, length, not, refl, subst, suc, sym, true, zero, ℕ}
use Rattle.std.proofs.lemmas.Bool.{cases_eq}
use Rattle.std.specs.List.{Contains}
use Rattle.std.specs.Prelude.{filter, slice_get}
use Rattle.pass_frames_steps.specs.flow_solver.Paths.{IsListed}
use Rattle.pass_frames_steps.proofs.ir_laws.facts.Lists.{get_within}
use Rattle.pass_frames_steps.specs.pass_frames.Tables.{offset_at}
use Rattle.pass_frames_steps.proofs.allocating.Grown.{end_get, listed_in, more_length, other_get}
use Rattle.pass_frames_steps.proofs.allocating.Made.{right_more}
use Rattle.pass_frames_proof.proofs.beginning.Coming.{IsComingSlot, coming, d_of, zs}
use Rattle.pass_frames_proof.proofs.beginning.Frame.{n1, refilled, y1}
use Rattle.pass_frames_proof.proofs.beginning.Given.{Begins}
use Rattle.pass_frames_proof.proofs.beginning.Homes.{hidden_behind, hides, homes, homes_long, slot_home, stands_begun}
use Rattle.pass_frames_proof.proofs.beginning.Places.{B, M, N, X, filter_in, home_is, in_filter, known as known_place, own, same_there, seen, size, y0, z}
use Rattle.pass_frames_proof.proofs.beginning.Rest.{IsOneOf, c'', frame_other, held_there, made', many, more, moves, now, one_of, other_home, u', w, xs}
use Rattle.pass_frames_proof.proofs.beginning.Steps.{instance_slots, ramps}
use Rattle.pass_frames_steps.proofs.lines.Cells.{contained}
use Rattle.pass_frames_steps.proofs.moved.Rest.{instance_on}
use Rattle.pass_frames_steps.proofs.stepping.Rest.{got}
use Rattle.pass_frames_steps.proofs.stepping.Stored.{is_block}
use Rattle.pass_frames_steps.specs.Beginning.{IsAtBegin, is_in_frame}
use Rattle.pass_frames_steps.specs.Moved.{AreMoved}
use Rattle.pass_frames_steps.specs.Places.{Framing}
use Rattle.pass_frames_steps.specs.Related.{AreBuiltOf, AreInstances, AreMates, Building, is_slot}
use Rattle.pass_frames_steps.specs.Stepping.{AreGiven}
use Rattle.pass_frames_steps.specs.pass_renewed_proof.Renewed.{RenewedGiven}
use Rattle.pass_frames_steps.specs.run_framed.Framed.{frame_rights}
use Rattle.pass_frames_steps.proofs.run_laws.memory.Written.{changed_elsewhere, changed_here, same_some}
use Rattle.pass_frames_steps.specs.run_laws.embedded.Making.{whole_home}
use Rattle.pass_frames_steps.specs.run_laws.memory.Pointers.{Home, home_of}
use Rattle.pass_frames_steps.specs.run_laws.transfer.Transfer.{AreOver}
use Rattle.pass_frames_steps.specs.run_memory.Memory.{Rights, owned_to, owner_rights, with_block}
use Rattle.pass_frames_steps.specs.run_memory.declared.block.Byte.{Byte}
use Rattle.pass_frames_steps.specs.run_memory.declared.block.MemoryBlock.{MemoryBlock}
use Rattle.pass_frames_steps.specs.run_source.Source.{is_among}
use Rattle.pass_frames_steps.specs.run_source.declared.state.Instance.{Instance}
use Rattle.pass_frames_steps.specs.run_source.declared.state.State.{State}
use Rattle.pass_frames_steps.specs.run_step.declared.world.Slot.{Slot}

-- ---- a block that becomes owned

module _ (m : List MemoryBlock) (n size : ℕ) (z : MemoryBlock) (there : slice_get m n ≡ Some z) where
  -- what stands there differs at most in what is owned
  record WasBlock (d : ℕ) (y : MemoryBlock) : Type 0 where
    was : MemoryBlock
    at : slice_get m d ≡ Some was
    is : ((d ≢ n) × (y ≡ was)) ⊎ ((d ≡ n) × (y ≡ owned_to size was))

  was_block : (d : ℕ) (y : MemoryBlock) → slice_get (with_block m n (owned_to size)) d ≡ Some y → WasBlock d y
  was_block d y e = by (cases_eq d n)
    where
      by : (d ≡ n) ⊎ (d ≢ n) → WasBlock d y
      by (inl same) = record {
        was = z;
        at = ap (slice_get m) same ∙ there;
        is = inr (
          same,
          same_some y (owned_to size z)
              (sym e ∙ ap (slice_get (with_block m n (owned_to size))) same ∙ changed_here m n (owned_to size) z there),
        );
      }
      by (inr other) = record {
        was = y;
        at = sym (changed_elsewhere m n d (owned_to size) other) ∙ e;
        is = inl (other, refl);
      }

module _ (facts : Begins) where
  abbrev b : Building
  b = facts.b

  abbrev g : RenewedGiven
  g = facts.g

  abbrev s : State
  s = facts.s

  abbrev t : State
  t = facts.t

  abbrev r : AreBuiltOf b s t
  r = facts.r

  abbrev given : AreGiven b g
  given = facts.given

  abbrev block : ℕ
  block = facts.block

  abbrev h : IsAtBegin b g s facts.result facts.must_tail facts.ty facts.id facts.typed facts.memory block
  h = facts.h

  abbrev x : Framing
  x = X facts

  abbrev k : ℕ
  k = B facts

  abbrev q : List Slot
  q = zs facts

  abbrev P0 : Rights
  P0 = frame_rights b.given t.instances

  abbrev Q0 : Rights
  Q0 = frame_rights b.given (now facts)

  abbrev m0 : List MemoryBlock
  m0 = M facts

  abbrev n0 : List MemoryBlock
  n0 = n1 facts

  abbrev homes' : List Home
  homes' = homes facts

  abbrev hides' : ℕ → Bool
  hides' = hides facts

  abbrev size' : ℕ
  size' = size facts

  abbrev z' : MemoryBlock
  z' = z facts

  abbrev y0' : Instance
  y0' = y0 facts

  block_there : slice_get s.world.memory block ≡ Some z'
  block_there = (own facts).there

  home_block : home_of r.homes block ≡ whole_home k
  home_block = home_is facts

  -- ---- memories and instances

  length_same : (m : List MemoryBlock) (i : ℕ) (f : MemoryBlock → MemoryBlock) → length (with_block m i f) ≡ length m
  length_same [] i f = refl
  length_same (v ∷ m) zero f = refl
  length_same (v ∷ m) (suc i) f = ap suc (length_same m i f)

  known : length homes' ≡ length m0
  known = homes_long facts ∙ r.known ∙ sym (length_same s.world.memory block (owned_to size'))

  -- a home of a whole block is an old one
  old_home : (n d : ℕ) (y : MemoryBlock) → slice_get m0 n ≡ Some y → home_of homes' n ≡ whole_home d
      → home_of r.homes n ≡ whole_home d
  old_home n d y there e = by (one_of q n)
    where
      by : IsOneOf q n → home_of r.homes n ≡ whole_home d
      by (inl c) =
          let own' = coming facts c.0 c.1 in
          let f = (own'.at.field y was).behind in
          let du = own'.d in
          let start : 0 + d_of facts c.0 ≡ 0 =
          ap (λ (p : Home). p.offset) (sym (slot_home facts c.0 c.1))
          ∙ ap (λ (i : ℕ). (home_of homes' i).offset) c.2 ∙ ap (λ (p : Home). p.offset) e in
          absurd (impossible (d_of facts c.0) (offset_at x.layout own'.at.position) f du start)
        where
          own_slot : IsComingSlot facts c.0
          own_slot = coming facts c.0 c.1

          was : slice_get s.world.memory c.0.block ≡ Some y
          was =
              sym (changed_elsewhere s.world.memory block c.0.block (owned_to size') own_slot.other)
              ∙ ap (slice_get m0) c.2 ∙ there

          impossible : (a p : ℕ) → 16 ≤ p → a ≡ p → 0 + a ≡ 0 → ⊥
          impossible a p pos same zero_is = omega (arith, pos, same, zero_is)
      by (inr none) = sym (other_home facts n none) ∙ e

  got_now : (n : ℕ) → n < length m0 → (y : MemoryBlock) × (slice_get m0 n ≡ Some y)
  got_now n lt = got m0 n lt

  mates : AreMates homes' m0 n0
  mates = record {
    whole = λ n y there kind. whole_now n y (was_block s.world.memory block size' z' block_there n y there) kind;
    each = λ n d y there home.
        each_now n d y (was_block s.world.memory block size' z' block_there n y there) (old_home n d y there home)
        (cases_eq n block);
    alone = λ n i d lt lt' one other.
        let y = got_now n lt in
        let v = got_now i lt' in
        let long : length m0 ≡ length s.world.memory = length_same s.world.memory block (owned_to size') in
        r.mates.alone n i d (omega (arith, lt, long)) (omega (arith, lt', long)) (old_home n d y.0 y.1 one)
        (old_home i d v.0 v.1 other);
  }
    where
      whole_now : (n : ℕ) (y : MemoryBlock) → WasBlock s.world.memory block size' z' block_there n y → is_slot y ≡ false
          → (d : ℕ) × (home_of homes' n ≡ whole_home d)
      whole_now n y was kind =
          let old' = r.mates.whole n was.was was.at (kind_was was.is) in
          (old'.0, (more facts).each n (ap (λ (p : Home). p.is_seen) old'.1) ∙ old'.1)
        where
          kind_was : ((n ≢ block) × (y ≡ was.was)) ⊎ ((n ≡ block) × (y ≡ owned_to size' was.was)) → is_slot was.was ≡ false
          kind_was (inl e) = ap is_slot (sym e.1) ∙ kind
          kind_was (inr e) = ap is_slot (sym e.1) ∙ kind

      each_now : (n d : ℕ) (y : MemoryBlock) → WasBlock s.world.memory block size' z' block_there n y
          → home_of r.homes n ≡ whole_home d → (n ≡ block) ⊎ (n ≢ block)
          → (bytes : List Byte) × (slice_get n0 d ≡ Some (record y { bytes = bytes }))
      each_now n d y was home (inl e) = (
        (y1 facts).bytes,
        ap (slice_get n0) (sym (ap (λ (p : Home). p.block) (sym home_block ∙ ap (home_of r.homes) (sym e) ∙ home)))
            ∙ (y1 facts).there
            ∙ ap (λ (v : MemoryBlock). Some (record v { bytes = (y1 facts).bytes })) (sym (owned_is was.is)),
      )
        where
          was_z : was.was ≡ z'
          was_z = same_some was.was z' (sym was.at ∙ ap (slice_get s.world.memory) e ∙ block_there)

          owned_is : ((n ≢ block) × (y ≡ was.was)) ⊎ ((n ≡ block) × (y ≡ owned_to size' was.was))
              → y ≡ owned_to size' z'
          owned_is (inr p) = p.1 ∙ ap (owned_to size') was_z
          owned_is (inl p) = absurd (p.0 e)
      each_now n d y was home (inr ne) =
          let old' = r.mates.each n d was.was was.at home in
          let new = is_block (N facts) n0 (refilled facts) d (record was.was { bytes = old'.0 })
          (same_there facts d apart ∙ old'.1) in
          (new.bytes, new.there ∙ ap (λ (v : MemoryBlock). Some (record v { bytes = new.bytes })) (is_old was.is))
        where
          apart : d ≢ k
          apart e =
              let low : n < length s.world.memory = get_within s.world.memory n was.was was.at in
              ne (r.mates.alone n block k low (known_place facts) (home ∙ ap whole_home e) home_block)

          is_old : ((n ≢ block) × (y ≡ was.was)) ⊎ ((n ≡ block) × (y ≡ owned_to size' was.was)) → was.was ≡ y
          is_old (inl e) = sym e.1
          is_old (inr e) = absurd (ne e.0)

  over : AreOver owner_rights Q0 homes' hides' (λ d. d) (w facts) (u' facts)
  over =
      let st = stands_begun facts in
      record {
        memory = st.memory;
        nulls = st.nulls;
        bounds = st.bounds;
        events = r.world.events;
        answers = r.world.answers;
        allocs = r.world.allocs;
      }

  -- slots of the instance come from those of the activation
  pub slot_from : (slot : Slot) → Contains (made' facts).slots slot → IsListed slot q
  slot_from slot e =
      let l = contained (instance_slots g.given s facts.result block) slot e in
      let k' = in_filter (λ slot. not (is_among (ramps g.given s facts.result block) slot)) s.top.slots slot
      (subst (IsListed slot) (append-nil (filter (λ slot. not (is_among (ramps g.given s facts.result block) slot)) s.top.slots)) l) in
      filter_in (is_in_frame x) s.top.slots slot k'.0
      (inside (is_in_frame x slot) (sym (ap not (h.classes slot (listed_in s.top.slots slot k'.0))) ∙ k'.1))
    where
      inside : (f : Bool) → not (not f) ≡ true → f ≡ true
      inside true e = refl
      inside false e = absurd (cc)

  made_instance : AreInstances b homes' (record t { world = u' facts; instances = now facts; top = c'' facts }) (made' facts) y0'
  made_instance = record {
    coroutine = refl;
    is_coroutine = h.coroutine;
    block = (more facts).each block (seen facts) ∙ home_block;
    start = refl;
    status = refl;
    last_save = refl;
    released = refl;
    freed = refl;
    slots = λ slot e. let l = slot_from slot e in let c = coming facts slot l in record {
      position = c.at.position;
      position_is = c.at.held;
      home = slot_home facts slot l ∙ ap (λ (d : ℕ). record { block = k; offset = 0 + d; is_seen = true }) c.d;
    };
    no_slots = refl;
  }

  old_related : (i : ℕ) (xi yi : Instance) → slice_get s.instances i ≡ Some xi → slice_get t.instances i ≡ Some yi
      → AreInstances b homes' (record t { world = u' facts; instances = now facts; top = c'' facts }) xi yi
  old_related i xi yi e f =
      instance_on b s t r s.below t.below homes' hides' (xs facts) (now facts) (w facts) (u' facts) (moves facts) (c'' facts) xi yi
      (λ p env is' live j number.
      right_more P0 Q0 t.world.memory n0 r.homes homes' (more facts) yi.block (held_there facts yi.block (frame_other facts i yi f))
      (b.framing xi.coroutine) j env yi.start) (r.instances i xi yi e f)

  instances : (i : ℕ) (xi yi : Instance) → slice_get (xs facts) i ≡ Some xi → slice_get (now facts) i ≡ Some yi
      → AreInstances b homes' (record t { world = u' facts; instances = now facts; top = c'' facts }) xi yi
  instances i xi yi e f = by (cases_eq i (length t.instances))
    where
      by : (i ≡ length t.instances) ⊎ (i ≢ length t.instances)
          → AreInstances b homes' (record t { world = u' facts; instances = now facts; top = c'' facts }) xi yi
      by (inl same) =
          subst (λ (p : Instance × Instance). AreInstances b homes' (record t { world = u' facts; instances = now facts; top = c'' facts })
          p.0 p.1) (λ j. (xi_is j, yi_is j)) made_instance
        where
          xi_is : made' facts ≡ xi
          xi_is = same_some (made' facts) xi (sym (end_get s.instances (made' facts)) ∙ ap (slice_get (xs facts)) (sym (same ∙ many facts)) ∙ e)

          yi_is : y0' ≡ yi
          yi_is = same_some y0' yi (sym (end_get t.instances y0') ∙ ap (slice_get (now facts)) (sym same) ∙ f)
      by (inr ne) =
          old_related i xi yi (sym (other_get s.instances (made' facts) i (λ e'. ne (e' ∙ sym (many facts)))) ∙ e)
          (sym (other_get t.instances y0' i ne) ∙ f)

  pub moved_now : AreMoved b t homes' hides' (xs facts) (now facts) (w facts) (u' facts) (c'' facts)
  moved_now = record {
    world = over;
    known = known;
    globals = λ n lt. (more facts).each n (ap (λ (p : Home). p.is_seen) (r.globals n lt)) ∙ r.globals n lt;
    mates = mates;
    hidden = hidden_behind facts;
    count = more_length t.instances y0' ∙ ap (λ (n : ℕ). n + 1) (many facts)
        ∙ sym (more_length s.instances (made' facts));
    instances = instances;
  }
