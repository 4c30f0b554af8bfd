-- An alloca of a ramp: the framed run takes no step, and the source's new block has a home where the target's blocks are.
use Rattle.std.proofs.Common.{◌≡◌, ◌≢◌, ◌⊎◌, ◌+◌, ◌<◌, ◌≤◌, ◌∷◌, ◌++◌, ◌∙◌, [], Bool, List, None, Option, Some, ap, arith, false, inl, inr, length, refl, subst, suc, sym, true, zero, ℕ}
use Rattle.std.proofs.lemmas.Bool.{cases_eq}
use Rattle.std.specs.List.{Contains}
use Rattle.std.specs.Prelude.{slice_get}
use Rattle.pass_frames_code.specs.flow_solver.Paths.{IsListed}
use Rattle.pass_frames_code.specs.ir_model.Ty.{Ty, int}
use Rattle.pass_frames_code.specs.ir_model.declared.instr.Instr.{Instr}
use Rattle.pass_frames_code.specs.pass_cells.Kept.{entry}
use Rattle.pass_frames_code.specs.pass_cells.declared.plan.KeptValue.{KeptValue}
use Rattle.pass_frames_code.specs.pass_copies.declared.slot.EarlySlot.{EarlySlot}
use Rattle.pass_frames_steps.proofs.allocating.Lined.{alloca_stays}
use Rattle.pass_frames_steps.proofs.allocating.Grown.{in_below}
use Rattle.pass_frames_steps.proofs.allocating.Made.{ahead_made, free_made, globals_made, hidden_made, known_made, moves_made, over_made}
use Rattle.pass_frames_code.proofs.lines.Cells.{cell_has}
use Rattle.pass_frames_code.proofs.moved.Rest.{moved_related}
use Rattle.pass_frames_code.proofs.stepping.After.{right_there, wheres_there}
use Rattle.pass_frames_code.proofs.stepping.May.{coroutine_values, not_returned}
use Rattle.pass_frames_code.proofs.stepping.Operands.{asked}
use Rattle.pass_frames_code.proofs.stepping.Stands.{made_of, top_is, values_of}
use Rattle.pass_frames_code.specs.Allocating.{IsAtRampAlloca}
use Rattle.pass_frames_code.specs.Framings.{IsFraming}
use Rattle.pass_frames_code.specs.Moved.{MovesRest}
use Rattle.pass_frames_code.specs.Places.{Framing, copies, edged, instrs_at, is_return, offsets, place, plan}
use Rattle.pass_frames_code.specs.Related.{AreAhead, AreBuiltOf, AreCellsRight, AreCoroutines, AreInstances, AreMates, AreNamed, AreWheresRight, Building, HasCells, IsAhead, IsCellName, IsDistanceOf, IsFreeOf, IsKeptValue, IsOwnSlot, instance_in, is_coroutine, is_first, point_of, root_of, top_place}
use Rattle.pass_frames_code.specs.Slotted.{HasSlotsThere}
use Rattle.pass_frames_code.specs.Stepping.{AreGiven, IsNotEntering}
use Rattle.pass_frames_code.specs.pass_proofs.addresses.rules.Addresses.{lies_in_frame}
use Rattle.pass_frames_code.specs.pass_renewed_proof.Renewed.{RenewedGiven}
use Rattle.pass_frames_code.specs.run_framed.Framed.{frame_rights}
use Rattle.pass_frames_code.proofs.run_laws.memory.Homes.{append_extends, value_on}
use Rattle.pass_frames_code.proofs.run_laws.transfer.Sets.{set_elsewhere}
use Rattle.pass_frames_code.specs.run_laws.access.Lines.{Holds}
use Rattle.pass_frames_code.specs.run_laws.memory.Pointers.{Extends, Home, IsValue}
use Rattle.pass_frames_code.specs.run_laws.transfer.Muted.{ended_if, muted}
use Rattle.pass_frames_code.specs.run_laws.transfer.Places.{AreStanding}
use Rattle.pass_frames_code.specs.run_laws.transfer.Transfer.{AreOver}
use Rattle.pass_frames_code.specs.run_memory.Memory.{Rights, is_live, owner_rights}
use Rattle.pass_frames_code.specs.run_memory.declared.block.Byte.{Byte}
use Rattle.pass_frames_code.specs.run_memory.declared.block.MemoryBlock.{MemoryBlock}
use Rattle.pass_frames_code.specs.run_memory.declared.pointer.Value.{Value}
use Rattle.pass_frames_code.specs.run_source.declared.state.Activation.{Activation}
use Rattle.pass_frames_code.specs.run_source.declared.state.Instance.{Instance}
use Rattle.pass_frames_code.specs.run_source.declared.state.Mode.{Mode}
use Rattle.pass_frames_code.specs.run_source.declared.state.State.{State}
use Rattle.pass_frames_code.specs.run_step.Values.{Env, pointer_to, value_in, with_value}
use Rattle.pass_frames_code.specs.run_step.declared.world.Slot.{Slot}
use Rattle.pass_frames_code.specs.run_step.declared.world.World.{World}

pub first_not_entering : (mode : Mode) → is_first mode ≡ true → IsNotEntering mode
first_not_entering Mode.Plain e = tt
first_not_entering Mode.Ramp e = tt
first_not_entering (Mode.GivenRamp frame) e = tt
first_not_entering Mode.Resumed e = tt
first_not_entering (Mode.Entering from label) e = absurd (cc)

pub value_here : (env : Env) (name : ℕ) (v : Value) → name < length env → value_in (with_value env name v) name ≡ v
value_here [] name v lt = absurd (omega (arith, lt))
value_here (u ∷ env) zero v lt = refl
value_here (u ∷ env) (suc name) v lt = value_here env name v (omega (arith, lt))

module _ (b : Building) (g : RenewedGiven) (given : AreGiven b g) (s t : State) (r : AreBuiltOf b s t) (name : ℕ)
    (ty : Ty) (align : ℕ) (h : IsAtRampAlloca b g s name ty align) (mine : HasSlotsThere s) (q : Home)
    (x : MemoryBlock) (shows : ℕ → Bool) (alike : (c : ℕ) → c ≢ length s.world.memory → shows c ≡ r.hides c)
    (spare : (c : Activation) → IsListed c t.below → (slot : Slot) → Contains c.slots slot
    → IsFreeOf r.homes r.hides s.world.memory slot.block
    → (q.is_seen ≡ true) ⊎ (is_live (ended_if (shows (length s.world.memory)) x).life ≡ true)
    → q.block ≢ slot.block) where
  abbrev pub n : ℕ
  n = length s.world.memory

  abbrev pub X : Framing
  X = b.framing s.top.func

  abbrev pub R : Rights
  R = frame_rights b.given t.instances

  abbrev pub homes : List Home
  homes = r.homes ++ q ∷ []

  abbrev pub w : World
  w = record s.world { memory = s.world.memory ++ x ∷ [] }

  abbrev pub env : Env
  env = with_value s.top.values name (pointer_to n)

  pub mode : IsNotEntering s.top.mode
  mode = first_not_entering s.top.mode h.first

  pub is : IsFraming X
  is = given.framings s.top.func h.coroutine

  pub named : name < length (edged X).names
  named = (h.names s.top.at name align ty h.there).0

  unreturned : is_return X s.top.block ≡ false
  unreturned = ap (is_return X) h.entry_block ∙ h.unreturned

  below_there : (a : Activation) → IsListed a s.below → (z : Slot) → Contains a.slots z → z.block < n
  below_there a l z own = mine.each z (in_below s a l z own)

  grown : (k : ℕ) (z : MemoryBlock) → slice_get t.world.memory k ≡ Some z → slice_get t.world.memory k ≡ Some z
  grown k z e = e

  held : (e o most : ℕ) (bytes : List Byte) → Holds R t.world.memory e o most bytes
      → Holds R t.world.memory e o most bytes
  held e o most bytes z = z

  abbrev pub Reason : Type 0
  Reason = (q.is_seen ≡ true) ⊎ (is_live (ended_if (shows n) x).life ≡ true)

  pub more : Extends r.homes homes
  more = append_extends r.homes (q ∷ [])

  -- ---- values

  old : AreCoroutines X r.homes R t s.top t.top
  old = coroutine_values b r.homes R t s.top t.top (is_coroutine b s.top.func) h.coroutine r.top.values

  old_cells : AreCellsRight X r.homes R t.world.memory s.top.values t.top
      × AreWheresRight X R t.world.memory (instance_in t.instances t.top.instance) t.top
  old_cells =
      subst (λ (o : Option ℕ). HasCells X r.homes R t.world.memory
      (instance_in t.instances t.top.instance) s.top t.top o)
      (not_returned X s.top s.top.mode mode unreturned) old.cells

  other_value : (v : ℕ) → (name ≡ v → ⊥) → value_in env v ≡ value_in s.top.values v
  other_value v ne = set_elsewhere s.top.values name v (pointer_to n) ne

  own_value : value_in env name ≡ pointer_to n
  own_value =
      value_here s.top.values name (pointer_to n)
      (let lt = named in let room = h.room in omega (arith, lt, room))

  -- a name that is kept, or of which the distance is, is another one
  not_kept : (v : ℕ) (k : KeptValue) → IsKeptValue X v k → name ≡ v → ⊥
  not_kept v k e same =
      let no : None ≡ Some e.number = sym h.unkept ∙ ap (entry (plan X).places) same ∙ e.told in cc

  not_celled : (v cell : ℕ) → entry (plan X).cells v ≡ Some cell → name ≡ v → ⊥
  not_celled v cell e same =
      let no : None ≡ Some cell = sym h.uncelled ∙ ap (entry (plan X).cells) same ∙ e in cc

  pub right_now : AreCellsRight X homes R t.world.memory env t.top
  right_now = record {
    values = λ v k e.
        cell_has R t.world.memory t.top k.cell k.ty (IsValue r.homes (value_in s.top.values v))
        (IsValue homes (value_in env v))
        (λ u d. subst (λ (z : Value). IsValue homes z u) (sym (other_value v (not_kept v k e)))
        (value_on r.homes homes more (value_in s.top.values v) u d)) (old_cells.0.values v k e);
    distances = λ v cell slot e root.
        cell_has R t.world.memory t.top cell (int 64) (IsDistanceOf (value_in s.top.values slot) (value_in s.top.values v))
        (IsDistanceOf (value_in env slot) (value_in env v))
        (λ u d. distance_now v cell slot u e root d (cases_eq name slot)) (old_cells.0.distances v cell slot e root);
  }
    where
      distance_now : (v cell slot : ℕ) (u : Value) → entry (plan X).cells v ≡ Some cell → root_of X v ≡ Some slot
          → IsDistanceOf (value_in s.top.values slot) (value_in s.top.values v) u → (name ≡ slot) ⊎ (name ≢ slot)
          → IsDistanceOf (value_in env slot) (value_in env v) u
      distance_now v cell slot u e root d (inl same) =
          inl (other_value v (not_celled v cell e) ∙ h.unrooted v cell e (root ∙ ap Some (sym same)))
      distance_now v cell slot u e root d (inr ne) =
          subst (λ (p : Value × Value). IsDistanceOf p.0 p.1 u)
          (λ j. (sym (other_value slot ne) j, sym (other_value v (not_celled v cell e)) j)) d

  -- ---- the states

  module _ (owner : ℕ)
      (spare_top : (slot : Slot) → Contains t.top.slots slot → (slot.alloca ≡ owner → ⊥)
      → IsFreeOf r.homes r.hides s.world.memory slot.block → Reason → q.block ≢ slot.block)
      (owner_cell : (v : ℕ) → IsCellName X v → v ≡ owner → ⊥)
      (owner_ahead : (at u align' : ℕ) (ty' : Ty) → slice_get (instrs_at X 0) at ≡ Some (Instr.Alloca u ty' align')
      → s.top.at + 1 ≤ at → lies_in_frame (offsets X) u ≡ false → u ≡ owner → ⊥)
      (owner_early : (e : EarlySlot) (at align' : ℕ) (ty' : Ty) → Contains (copies X).slots e
      → slice_get (instrs_at X 0) at ≡ Some (Instr.Alloca e.slot ty' align') → s.top.at + 1 ≤ at
      → e.temporary ≡ owner → ⊥)
      (stands : AreStanding owner_rights R homes (muted r.hides s.world.memory ++ ended_if (shows n) x ∷ [])
      t.world.memory)
      (mates : AreMates homes (s.world.memory ++ x ∷ []) t.world.memory) (unseen : shows n ≡ true → q.is_seen ≡ false)
      (address : lies_in_frame (offsets X) name ≡ false → IsValue homes (pointer_to n) (value_in t.top.values name))
      (xs : List Instance) (zs : List Slot) (count : length t.instances ≡ length xs)
      (instances : (i : ℕ) (xi yi : Instance) → slice_get xs i ≡ Some xi → slice_get t.instances i ≡ Some yi
      → AreInstances b homes t xi yi)
      (slots : (z : Slot) → Contains zs z
      → IsOwnSlot b homes shows (record s.top { at = s.top.at + 1; values = env; slots = zs }) t.top z) where
    abbrev pub a' : Activation
    a' = record s.top { at = s.top.at + 1; values = env; slots = zs }

    names : AreNamed X homes a' t.top
    names = record {
      each = λ v asks unkept outside. by v unkept outside (cases_eq name v);
      room = old.names.room;
    }
      where
        by : (v : ℕ) → entry (plan X).places v ≡ None → lies_in_frame (offsets X) v ≡ false → (name ≡ v) ⊎ (name ≢ v)
            → IsValue homes (value_in env v) (value_in t.top.values v)
        by v unkept outside (inl same) =
            subst (λ (k : ℕ). IsValue homes (value_in env k) (value_in t.top.values k)) same
            (subst (λ (z : Value). IsValue homes z (value_in t.top.values name)) (sym own_value)
            (address (subst (λ (k : ℕ). lies_in_frame (offsets X) k ≡ false) (sym same) outside)))
        by v unkept outside (inr ne) =
            subst (λ (z : Value). IsValue homes z (value_in t.top.values v)) (sym (other_value v ne))
            (value_on r.homes homes more (value_in s.top.values v) (value_in t.top.values v)
            (old.names.each v (asked X s.top s.top.mode v mode) unkept outside))

    after : AreCoroutines X homes R t a' t.top
    after = record {
      names = names;
      cells = subst
          (λ (o : Option ℕ). HasCells X homes R t.world.memory (instance_in t.instances t.top.instance) a' t.top o)
          (sym (not_returned X a' s.top.mode mode unreturned)) (right_now, old_cells.1);
      made = made_of X R t.world.memory t.top s.top.mode mode (
        right_there X is homes R t.world.memory env t.top right_now,
        wheres_there X R t.world.memory t.top (instance_in t.instances t.top.instance) old_cells.1,
      );
    }

    place_is : point_of t.top ≡ top_place b a'
    place_is =
        r.top.place
        ∙ top_is b s.top h.coroutine mode
        ∙ ap (place X) (λ j. record { block = h.entry_block j; at = s.top.at })
        ∙ ap (λ (k : ℕ). record { block = 0; at = k }) (sym (alloca_stays X is s.top.at name align ty h.there h.unkept
        h.unreturned))
        ∙ ap (place X) (λ j. record { block = sym h.entry_block j; at = s.top.at + 1 })
        ∙ sym (top_is b a' h.coroutine mode)

    free_top : (slot : Slot) → Contains t.top.slots slot → (slot.alloca ≡ owner → ⊥)
        → IsFreeOf r.homes r.hides s.world.memory slot.block → IsFreeOf homes shows w.memory slot.block
    free_top slot own ne free =
        free_made b s t r given.framings q x shows alike below_there t.world grown held spare slot.block
        (spare_top slot own ne free) free

    ahead_top : (v align' : ℕ) (ty' : Ty) → (v ≡ owner → ⊥)
        → IsAhead X r.homes r.hides s.world.memory t.world.memory t.top v ty' align'
        → IsAhead X homes shows w.memory t.world.memory t.top v ty' align'
    ahead_top v align' ty' ne k =
        ahead_made b s t r given.framings q x shows alike below_there t.world grown held spare X t.top v align' ty' k
        (spare_top (record { alloca = v; block = k.block }) k.own ne k.free)

    ahead_now : is_coroutine b s.top.func ≡ true → is_first s.top.mode ≡ true → s.top.block ≡ 0
        → AreAhead X homes shows w.memory t.world.memory a' t.top
    ahead_now coroutine first block = record {
      slots = λ at v align' ty' there le outside.
          ahead_top v align' ty' (owner_ahead at v align' ty' there le outside)
          ((r.ahead.0 coroutine first block).slots at v align' ty' there (omega (arith, le)) outside);
      temporaries = λ e at align' ty' listed there le.
          ahead_top e.temporary e.align e.ty (owner_early e at align' ty' listed there le)
          ((r.ahead.0 coroutine first block).temporaries e at align' ty' listed there (omega (arith, le)));
    }

    moves : MovesRest b s t r s.below t.below homes shows t.instances w t.world
    moves = moves_made b s t r given.framings q x shows alike below_there t.world grown held spare

    over : AreOver owner_rights R homes shows (λ d. d) w t.world
    over = over_made b s t r given.framings q x shows alike below_there t.world grown held spare stands refl

    pub ramp_related : AreBuiltOf b (record s { world = w; instances = xs; top = a' }) t
    ramp_related =
        moved_related b s t r homes shows xs t.instances w t.world a' t.top moves (record {
          world = over;
          known = known_made b s t r given.framings q x shows alike below_there t.world grown held spare;
          globals = globals_made b s t r given.framings q x shows alike below_there t.world grown held spare;
          mates = mates;
          hidden = hidden_made b s t r given.framings q x shows alike below_there t.world grown held spare unseen;
          count = count;
          instances = instances;
        }) (record {
          top = record {
            func = r.top.func;
            place = place_is;
            result = r.top.result;
            mode = r.top.mode;
            instance = r.top.instance;
            has_left = r.top.has_left;
            values = values_of b homes R t a' t.top (is_coroutine b s.top.func) h.coroutine after;
            slots = slots;
          };
          once = r.once;
          cells = λ coroutine slot own cell.
              free_top slot own
              (owner_cell slot.alloca (subst (λ (k : ℕ). IsCellName (b.framing k) slot.alloca) r.top.func cell))
              (r.cells.0 coroutine slot own cell);
          ahead = ahead_now;
        })
