-- An alloca of a function that is no coroutine: both runs make a block.
use Rattle.std.proofs.Common.{◌≡◌, ◌≢◌, ◌⊎◌, ◌+◌, ◌<◌, ◌&&◌, ◌∷◌, ◌++◌, ◌∙◌, [], if◌then◌else◌, Bool, List, None, Option, Some, ap, arith, false, inl, inr, length, map, refl, subst, sym, true, ℕ}
use Rattle.std.specs.List.{Contains}
use Rattle.std.specs.Prelude.{option_and_then, slice_get}
use Rattle.pass_frames_code.specs.flow_solver.Paths.{IsListed}
use Rattle.pass_frames_code.specs.ir_base.declared.cause.Cause.{Cause}
use Rattle.pass_frames_code.specs.ir_model.Layout.{size_of}
use Rattle.pass_frames_code.specs.ir_model.Names.{function_at}
use Rattle.pass_frames_code.specs.ir_model.Ty.{Ty}
use Rattle.pass_frames_code.specs.ir_model.declared.instr.Instr.{Instr}
use Rattle.pass_frames_code.specs.ir_model.declared.module.Function.{Function}
use Rattle.pass_frames_code.specs.ir_model.declared.module.Module.{Module}
use Rattle.pass_frames_steps.proofs.allocating.Both.{made_memory, mates_together, new_block, stands_together}
use Rattle.pass_frames_steps.proofs.allocating.Grown.{first_in, first_or_more, home_new, in_below, listed_slot, more_in, still_get}
use Rattle.pass_frames_steps.proofs.allocating.Made.{globals_made, hidden_made, instance_made, known_made, moves_made, over_made}
use Rattle.pass_frames_code.proofs.lined.Lines.{framed_does}
use Rattle.pass_frames_code.proofs.moved.Rest.{moved_related}
use Rattle.pass_frames_code.proofs.stepping.Other.{AreStanding as AreStanding', cost_one, fetched_there, here_is, one_followed, one_standing, stands, values_other}
use Rattle.pass_frames_code.proofs.stepping.Stands.{renewed_does}
use Rattle.pass_frames_code.specs.Allocating.{IsAtOtherAlloca}
use Rattle.pass_frames_code.specs.Followed.{IsFollowed}
use Rattle.pass_frames_code.specs.Moved.{MovesRest}
use Rattle.pass_frames_code.specs.Places.{offsets}
use Rattle.pass_frames_code.specs.Related.{AreBuiltOf, AreOthers, Building, IsFreeOf, IsOwnSlot, IsSlotBy, IsWholeSlot, is_coroutine, place_by, point_of, slots_below}
use Rattle.pass_frames_code.specs.Slotted.{HasSlotsThere}
use Rattle.pass_frames_code.specs.Stepping.{AreGiven, IsNotEntering}
use Rattle.pass_frames_code.specs.pass_proofs.addresses.rules.Addresses.{lies_in_frame}
use Rattle.pass_frames_code.specs.pass_renewed_proof.Renewed.{RenewedGiven, renewed_slot, renewed_step}
use Rattle.pass_frames_code.specs.run_framed.Framed.{FramedGiven, frame_rights, framed_context, framed_slot, framed_step}
use Rattle.pass_frames_code.proofs.run_laws.access.Held.{grown_held}
use Rattle.pass_frames_code.proofs.run_laws.memory.Homes.{append_extends, value_on}
use Rattle.pass_frames_code.proofs.run_laws.transfer.Places.{showing_it, showing_others}
use Rattle.pass_frames_code.specs.run_laws.access.Lines.{Holds}
use Rattle.pass_frames_code.specs.run_laws.embedded.Making.{whole_home}
use Rattle.pass_frames_code.specs.run_laws.memory.Pointers.{Home, IsValue, home_of}
use Rattle.pass_frames_code.specs.run_laws.transfer.Muted.{ended_if, muted}
use Rattle.pass_frames_code.specs.run_laws.transfer.Places.{AreStanding, showing}
use Rattle.pass_frames_code.specs.run_laws.transfer.Transfer.{AreOver}
use Rattle.pass_frames_code.specs.run_memory.Memory.{Rights, end, fresh, is_live, owner_rights, start}
use Rattle.pass_frames_code.specs.run_memory.Pointers.{moved, offset_of}
use Rattle.pass_frames_code.specs.run_memory.declared.block.Byte.{Byte}
use Rattle.pass_frames_code.specs.run_memory.declared.block.Kind.{Kind}
use Rattle.pass_frames_code.specs.run_memory.declared.block.MemoryBlock.{MemoryBlock}
use Rattle.pass_frames_code.specs.run_memory.declared.pointer.Pointer.{Pointer}
use Rattle.pass_frames_code.specs.run_memory.declared.pointer.Value.{Value}
use Rattle.pass_frames_code.specs.run_source.Source.{context_of, kill_late, new_slot, with_new_slots}
use Rattle.pass_frames_code.specs.run_source.State.{function_of, own_facts, settled, with_slots, work_of, numbered, with_memory}
use Rattle.pass_frames_code.specs.run_source.declared.state.Activation.{Activation}
use Rattle.pass_frames_code.specs.run_source.declared.state.Instance.{Instance}
use Rattle.pass_frames_code.specs.run_source.declared.state.Mode.{Mode}
use Rattle.pass_frames_code.specs.run_source.declared.state.State.{State}
use Rattle.pass_frames_code.specs.run_step.Step.{AtInstr, NewSlot, Stuck, Work, action_of, alloca, alloca_kind, has_markers, instr_action}
use Rattle.pass_frames_code.specs.run_step.Values.{pointer_to, value_in, with_value}
use Rattle.pass_frames_code.specs.run_step.declared.world.Slot.{Slot}
use Rattle.pass_frames_code.specs.run_step.declared.world.World.{World}

-- ---- the slot

pub new_slot_by : (g : RenewedGiven) (z : State) (slot : Slot) (mode : Mode) → IsNotEntering mode
    → renewed_slot g z slot mode ≡ new_slot g.given z slot
new_slot_by g z slot Mode.Plain h = refl
new_slot_by g z slot Mode.Ramp h = refl
new_slot_by g z slot (Mode.GivenRamp frame) h = refl
new_slot_by g z slot Mode.Resumed h = refl
new_slot_by g z slot (Mode.Entering from label) h = absurd h

framed_slot_by : (g : FramedGiven) (z : State) (slot : Slot) (mode : Mode) → IsNotEntering mode
    → framed_slot g z slot mode ≡ with_slots z (slot ∷ z.top.slots)
framed_slot_by g z slot Mode.Plain h = refl
framed_slot_by g z slot Mode.Ramp h = refl
framed_slot_by g z slot (Mode.GivenRamp frame) h = refl
framed_slot_by g z slot Mode.Resumed h = refl
framed_slot_by g z slot (Mode.Entering from label) h = absurd h

-- before begin it is the activation's
pub early_slot : (g : RenewedGiven) (z : State) (slot : Slot) → z.top.instance ≡ None
    → new_slot g.given z slot ≡ with_slots z (slot ∷ z.top.slots)
early_slot g z slot none =
    ap (λ (o : Option (ℕ × Instance)). with_new_slots (own_facts g.given z).ramp_slots o
    (kill_late (own_facts g.given z).ramp_slots o z slot) (slot ∷ []))
    (ap (option_and_then (numbered z.instances)) none)

module _ (b : Building) (g : RenewedGiven) (given : AreGiven b g) (s t : State) (r : AreBuiltOf b s t) (name : ℕ)
    (ty : Ty) (align : ℕ) (h : IsAtOtherAlloca b g s name ty align) (mine : HasSlotsThere s) (theirs : HasSlotsThere t)
  where
    abbrev R : Rights
    R = frame_rights b.given t.instances

    abbrev n : ℕ
    n = length s.world.memory

    abbrev k : ℕ
    k = length t.world.memory

    abbrev f : Function
    f = function_of g.given s

    abbrev ends : Bool
    ends = has_markers f name

    abbrev size : ℕ
    size = size_of g.given.code ty

    abbrev kind : Kind
    kind = alloca_kind f

    abbrev x : MemoryBlock
    x = new_block ends size align kind

    abbrev slot : Slot
    slot = record { alloca = name; block = n }

    abbrev other : Slot
    other = record { alloca = name; block = k }

    -- ---- the steps

    source_work : Work
    source_work = record {
      world = record s.world { memory = s.world.memory ++ x ∷ [] };
      values = with_value s.top.values name (pointer_to n);
    }

    target_work : Work
    target_work = record {
      world = record t.world { memory = t.world.memory ++ x ∷ [] };
      values = with_value t.top.values name (pointer_to k);
    }

    source_does : instr_action (context_of g.given s) (work_of s) (Instr.Alloca name ty align)
        ≡ NewSlot source_work slot
    unfolding source_work
    source_does =
        ap (λ (c : Bool). if c then alloca (context_of g.given s) (work_of s) name size align else Stuck Cause.Align)
        h.aligned
        ∙ ap (λ (m : List MemoryBlock). NewSlot (record {
          world = record s.world { memory = m };
          values = with_value s.top.values name (pointer_to n);
        }) slot) (made_memory ends s.world.memory size align kind)

    code_same : function_of b.given.given t ≡ f
    code_same =
        (λ j. function_at (given.code j) (r.top.func j)) ∙ given.built.others s.top.func h.plain
        ∙ sym (given.others s.top.func h.plain)

    target_does : instr_action (framed_context b.given t) (work_of t) (Instr.Alloca name ty align)
        ≡ NewSlot target_work other
    unfolding target_work
    target_does =
        ap (λ (c : Bool). if c then alloca (framed_context b.given t) (work_of t) name
        (size_of b.given.given.code ty) align else Stuck Cause.Align) h.aligned
        ∙ (λ j. NewSlot (record {
          world = record t.world {
            memory = if has_markers (code_same j) name then end (fresh t.world.memory (sized j) align
                (alloca_kind (code_same j))) k else fresh t.world.memory (sized j) align (alloca_kind (code_same j));
          };
          values = with_value t.top.values name (pointer_to k);
        }) other)
        ∙ ap (λ (m : List MemoryBlock). NewSlot (record {
          world = record t.world { memory = m };
          values = with_value t.top.values name (pointer_to k);
        }) other) (made_memory ends t.world.memory size align kind)
      where
        sized : size_of b.given.given.code ty ≡ size
        sized = ap (λ (m : Module). size_of m ty) given.code ∙ h.sized

    abbrev a' : Activation
    a' = record s.top {
      at = s.top.at + 1;
      values = with_value s.top.values name (pointer_to n);
      slots = slot ∷ s.top.slots;
    }

    abbrev c' : Activation
    c' = record t.top {
      at = t.top.at + 1;
      values = with_value t.top.values name (pointer_to k);
      slots = other ∷ t.top.slots;
    }

    abbrev w : World
    w = record s.world { memory = s.world.memory ++ x ∷ [] }

    abbrev u : World
    u = record t.world { memory = t.world.memory ++ x ∷ [] }

    source_is : renewed_step g s ≡ record s { world = w; top = a' }
    unfolding source_work
    source_is =
        renewed_does g s (AtInstr (Instr.Alloca name ty align)) (NewSlot source_work slot) h.runs h.there refl
        source_does
        ∙ ap (λ (c : Bool). renewed_slot g (if c then with_memory (settled s source_work)
        (start (settled s source_work).world.memory n) else settled s source_work) slot s.top.mode) h.off
        ∙ new_slot_by g (settled s source_work) slot s.top.mode h.mode
        ∙ early_slot g (settled s source_work) slot h.instance

    target_is : framed_step b.given t ≡ record t { world = u; top = c' }
    unfolding target_work
    target_is =
        framed_does b.given t (AtInstr (Instr.Alloca name ty align)) (NewSlot target_work other) (r.outcome ∙ h.runs)
        (fetched_there b g given s t r h.plain h.runs h.mode (AtInstr (Instr.Alloca name ty align)) h.there) refl
        target_does
        ∙ ap (framed_slot b.given (settled t target_work) other) r.top.mode
        ∙ framed_slot_by b.given (settled t target_work) other s.top.mode h.mode

    -- ---- the relation

    abbrev shows : ℕ → Bool
    shows = showing r.hides n

    alike : (c : ℕ) → c ≢ n → shows c ≡ r.hides c
    alike c ne = showing_others r.hides n c ne

    not_hidden : shows n ≡ false
    not_hidden = showing_it r.hides n

    below_there : (a : Activation) → IsListed a s.below → (z : Slot) → Contains a.slots z → z.block < n
    below_there a l z own = mine.each z (in_below s a l z own)

    spare : (c : Activation) → IsListed c t.below → (z : Slot) → Contains c.slots z
        → IsFreeOf r.homes r.hides s.world.memory z.block
        → (true ≡ true) ⊎ (is_live (ended_if (shows n) x).life ≡ true) → k ≢ z.block
    spare c l z own free how e = let lt : z.block < k = theirs.each z (in_below t c l z own) in omega (arith, lt, e)

    grown : (i : ℕ) (z : MemoryBlock) → slice_get t.world.memory i ≡ Some z → slice_get u.memory i ≡ Some z
    grown i z e = still_get t.world.memory x z i e

    held : (e o most : ℕ) (bytes : List Byte) → Holds R t.world.memory e o most bytes → Holds R u.memory e o most bytes
    held e o most bytes z = grown_held R t.world.memory (x ∷ []) e o most bytes z

    abbrev homes : List Home
    homes = r.homes ++ whole_home k ∷ []

    moves : MovesRest b s t r s.below t.below homes shows t.instances w u
    moves = moves_made b s t r given.framings (whole_home k) x shows alike below_there u grown held spare

    new_home : home_of homes n ≡ whole_home k
    new_home = home_new r.homes r.hides shows s.world.memory (whole_home k) x r.known alike

    over : AreOver owner_rights R homes shows (λ d. d) w u
    over =
        over_made b s t r given.framings (whole_home k) x shows alike below_there u grown held spare
        (subst (λ (c : Bool). AreStanding owner_rights R homes (muted r.hides s.world.memory ++ ended_if c x ∷ [])
        u.memory) (sym not_hidden) (stands_together b s t r ends size align kind h.small)) refl

    old_values : AreStanding' r.homes s.top.values t.top.values
    old_values = stands b g given s t r h.plain h.runs h.mode

    values : AreOthers homes a' c'
    values = record {
      each = standing.each;
      room = standing.room;
    }
      where
        more : AreStanding' homes s.top.values t.top.values
        more = record {
          each = λ v. value_on r.homes homes (append_extends r.homes (whole_home k ∷ [])) (value_in s.top.values v)
              (value_in t.top.values v) (old_values.each v);
          room = old_values.room;
        }

        address : IsValue homes (pointer_to n) (pointer_to k)
        address = (
          ap (λ (q : Home). q.is_seen) new_home,
          ap (λ (q : Home). Value.Ptr (Pointer.At q.block (moved (offset_of 0) q.offset))) (sym new_home),
        )

        standing : AreStanding' homes a'.values c'.values
        standing = one_standing homes s.top.values t.top.values name (pointer_to n) (pointer_to k) more address

    slots : (z : Slot) → Contains a'.slots z → IsOwnSlot b homes shows a' c' z
    slots z own = by z (first_or_more s.top.slots slot z own)
      where
        whole : (z : Slot) → IsWholeSlot homes c' z → IsOwnSlot b homes shows a' c' z
        whole z p = subst (IsSlotBy b homes shows a' c' z)
            (sym (ap (λ (c : Bool). c && lies_in_frame (offsets (b.framing s.top.func)) z.alloca) h.plain)) p

        old : (z : Slot) → IsOwnSlot b r.homes r.hides s.top t.top z → IsWholeSlot r.homes t.top z
        old z p = subst (IsSlotBy b r.homes r.hides s.top t.top z)
            (ap (λ (c : Bool). c && lies_in_frame (offsets (b.framing s.top.func)) z.alloca) h.plain) p

        by : (z : Slot) → (slot ≡ z) ⊎ Contains s.top.slots z → IsOwnSlot b homes shows a' c' z
        by z (inl e) =
            subst (IsOwnSlot b homes shows a' c') e
            (whole slot (record { block = k; home = new_home; own = first_in t.top.slots other }))
        by z (inr c) =
            let p = old z (r.top.slots z c) in
            whole z (record {
              block = p.block;
              home = (append_extends r.homes (whole_home k ∷ [])).each z.block (ap (λ (q : Home). q.is_seen) p.home)
                  ∙ p.home;
              own = more_in t.top.slots other (record { alloca = z.alloca; block = p.block }) p.own;
            })

    related : AreBuiltOf b (record s { world = w; top = a' }) (record t { world = u; top = c' })
    related =
        moved_related b s t r homes shows s.instances t.instances w u a' c' moves (record {
          world = over;
          known = known_made b s t r given.framings (whole_home k) x shows alike below_there u grown held spare;
          globals = globals_made b s t r given.framings (whole_home k) x shows alike below_there u grown held spare;
          mates = mates_together b s t r ends size align kind h.small shows alike;
          hidden = hidden_made b s t r given.framings (whole_home k) x shows alike below_there u grown held spare
              (λ e. let no : true ≡ false = sym e ∙ not_hidden in absurd (cc));
          count = r.count;
          instances = λ i xi yi e e'.
              instance_made b s t r given.framings (whole_home k) x shows alike below_there u grown held spare c' xi yi
              (r.instances i xi yi e e');
        }) (record {
          top = record {
            func = r.top.func;
            place = (λ j. record {
              block = (here_is b g given s t r h.plain h.runs h.mode j).block;
              at = (here_is b g given s t r h.plain h.runs h.mode j).at + 1;
            })
                ∙ sym (ap (λ (c : Bool). if c then place_by (b.framing s.top.func) a' a'.mode else point_of a') h.plain);
            result = r.top.result;
            mode = r.top.mode;
            instance = r.top.instance;
            has_left = r.top.has_left;
            values = values_other b homes R (record t { world = u; top = c' }) a' c' (is_coroutine b s.top.func) h.plain
                values;
            slots = slots;
          };
          once = (
            λ l. new_block_apart l,
            r.once,
          );
          cells = λ is z own name. let no : true ≡ false = sym is ∙ ap (is_coroutine b) r.top.func ∙ h.plain in
              absurd (cc);
          ahead = λ is first block. let no : true ≡ false = sym is ∙ h.plain in absurd (cc);
        })
      where
        new_block_apart : IsListed k (map (λ (z : Slot). z.block) (t.top.slots ++ slots_below t.below)) → ⊥
        new_block_apart l =
            let z = listed_slot (t.top.slots ++ slots_below t.below) k l in
            let lt : z.0.block < k = theirs.each z.0 z.1 in
            let e : z.0.block ≡ k = z.2 in
            omega (arith, lt, e)

    pub plain_followed : IsFollowed b g s t
    plain_followed =
        one_followed b g s t
        (cost_one b g given s t r h.plain h.runs h.mode (NewSlot source_work slot)
        (ap (action_of (context_of g.given s) (work_of s)) h.there ∙ source_does) refl)
        (subst (λ (p : State × State). AreBuiltOf b p.0 p.1) (λ j. (sym source_is j, sym target_is j)) related)
