-- Behind a line of a coroutine that fills cells alone the states are related.
use Rattle.std.proofs.Common.{◌≡◌, ℕ, ◌<◌, ◌≤◌, true, false, List, length, refl, sym, ◌∙◌, subst, arith}
use Rattle.std.specs.List.{Contains}
use Rattle.std.specs.Prelude.{Option, map, slice_get}
use Rattle.pass_proofs.specs.flow_solver.Paths.{IsListed}
use Rattle.pass_proofs.specs.ir_base.declared.outcome.Outcome.{Outcome}
use Rattle.pass_proofs.specs.ir_model.Ty.{Ty, ptr}
use Rattle.pass_proofs.specs.ir_paths.declared.point.Point.{Point}
use Rattle.pass_proofs.specs.pass_copies.declared.slot.EarlySlot.{EarlySlot}
use Rattle.pass_proofs.specs.pass_fetch.Fetching.{value_bytes}
use Rattle.pass_frames_code.proofs.followed.Assembly.{events_same, other_instance}
use Rattle.pass_frames_code.proofs.lines.Cells.{other_block}
use Rattle.pass_frames_code.proofs.stepping.After.{cells_turned, right_there, wheres_there, wheres_turned}
use Rattle.pass_frames_code.proofs.stepping.Fetch.{coroutine_values, not_returned, own_blocks}
use Rattle.pass_frames_code.proofs.stepping.Names.{cell_is_name, named_written, slots_new}
use Rattle.pass_frames_code.proofs.stepping.Rest.{LeavesRest, below_apart, instance_kept, own_slots, rest_homes, rest_related, stood_apart}
use Rattle.pass_frames_code.proofs.stepping.Same.{kept, rest_left}
use Rattle.pass_frames_code.proofs.stepping.Stands.{made_of, values_of}
use Rattle.pass_frames_code.specs.Followed.{IsOn}
use Rattle.pass_frames_code.specs.Framings.{IsFraming}
use Rattle.pass_frames_code.specs.Landing.{LeavesCells}
use Rattle.pass_frames_code.specs.Led.{SparesBlocks}
use Rattle.pass_frames_code.specs.Lines.{IsCellOf, at_work}
use Rattle.pass_frames_code.specs.Places.{Framing, copies, named, written, is_return}
use Rattle.pass_frames_code.specs.Related.{AreActivations, AreAhead, AreBuiltOf, AreCellsRight, AreCoroutines, AreWheresRight, Building, HasCells, IsAhead, IsCellName, IsFreeOf, instance_in, is_coroutine, is_first, slots_below, top_place}
use Rattle.pass_frames_code.specs.Stepping.{IsNotEntering}
use Rattle.pass_proofs.specs.run_framed.Framed.{frame_rights}
use Rattle.pass_proofs.specs.run_laws.memory.Pointers.{home_of}
use Rattle.pass_proofs.specs.run_memory.Memory.{Rights}
use Rattle.pass_proofs.specs.run_memory.declared.block.MemoryBlock.{MemoryBlock}
use Rattle.pass_proofs.specs.run_source.declared.state.Activation.{Activation}
use Rattle.pass_proofs.specs.run_source.declared.state.State.{State}
use Rattle.pass_proofs.specs.run_step.Step.{Work}
use Rattle.pass_proofs.specs.run_step.Values.{Env, value_in}
use Rattle.pass_proofs.specs.run_step.declared.world.Slot.{Slot}
use Rattle.pass_proofs.specs.run_step.declared.world.World.{World}

-- ---- cells alone are touched

module _ (b : Building) (s t : State) (r : AreBuiltOf b s t)
    (framings : (func : ℕ) → is_coroutine b func ≡ true → IsFraming (b.framing func))
    (coroutine : is_coroutine b s.top.func ≡ true) where
  abbrev x : Framing
  x = b.framing s.top.func

  abbrev R : Rights
  R = frame_rights b.given t.instances

  pub own_free : (slot : Slot) → Contains t.top.slots slot → IsCellName x slot.alloca
      → IsFreeOf r.homes r.hides s.world.memory slot.block
  own_free slot listed name =
      r.cells.0 (subst (λ (n : ℕ). is_coroutine b n ≡ true) (sym r.top.func) coroutine) slot listed
      (subst (λ (n : ℕ). IsCellName (b.framing n) slot.alloca) (sym r.top.func) name)

  abbrev pub Touched : ℕ → Type 0
  Touched n = (slot : Slot) × Contains t.top.slots slot × IsCellOf x slot.alloca × (slot.block ≡ n)

  pub stood : (n : ℕ) → n < length s.world.memory → (home_of r.homes n).is_seen ≡ true
      → Touched (home_of r.homes n).block → ⊥
  stood n lt seen z =
      stood_apart b s t r z.0.block n (own_free z.0 z.1 (cell_is_name x z.0.alloca z.2)) lt seen (sym z.3)

  pub others_apart : (n : ℕ) → IsListed n (map (λ (slot : Slot). slot.block) (slots_below t.below)) → Touched n → ⊥
  others_apart n l z =
      below_apart b s t r z.0 z.1
      (subst (λ (u : ℕ). IsListed u (map (λ (slot : Slot). slot.block) (slots_below t.below))) (sym z.3) l)

  pub same_blocks : (u : World) → SparesBlocks x t.top t.world.memory u.memory → (n : ℕ) → (Touched n → ⊥)
      → slice_get u.memory n ≡ slice_get t.world.memory n
  same_blocks u spares n none = spares.same n (λ slot listed of same. none (slot, listed, of, same))

  pub left_by : (w u : World) → w.memory ≡ s.world.memory → SparesBlocks x t.top t.world.memory u.memory
      → LeavesRest b s t r w u
  left_by w u same spares = rest_left b s t r w u Touched framings same (same_blocks u spares) stood others_apart

  -- what is shown meanwhile
  pub spared_shown : t.outcome ≡ Outcome.Running → (u : World) (c : Activation) → u.events ≡ t.world.events
      → SparesBlocks x t.top t.world.memory u.memory → IsOn b s (record t { world = u; top = c })
  spared_shown runs u c events spares = record {
    running = runs;
    shown = record {
      homes = r.homes;
      events = events ∙ events_same b s t r;
      outcome = r.outcome;
      instances = λ j p there suspended.
          let y = other_instance b s t r j p there in (
            y.0,
            y.1,
            instance_kept b s t r s.world u (left_by s.world u refl spares) c t.below j p y.0 there y.2,
          );
    };
  }

-- ---- behind the line

module _ (b : Building) (s t : State) (r : AreBuiltOf b s t)
    (framings : (func : ℕ) → is_coroutine b func ≡ true → IsFraming (b.framing func))
    (coroutine : is_coroutine b s.top.func ≡ true) (mode : IsNotEntering s.top.mode)
    (unreturned : is_return (b.framing s.top.func) s.top.block ≡ false) (w : World) (env : Env) (y : Work)
    (q : LeavesCells b s t r w env y) where
  abbrev x' : Framing
  x' = b.framing s.top.func

  abbrev R' : Rights
  R' = frame_rights b.given t.instances

  is : IsFraming x'
  is = framings s.top.func coroutine

  abbrev T' : ℕ → Type 0
  T' = Touched b s t r framings coroutine

  same_there : (n : ℕ) → (T' n → ⊥) → slice_get y.world.memory n ≡ slice_get t.world.memory n
  same_there = same_blocks b s t r framings coroutine y.world q.spares

  stood' : (n : ℕ) → n < length s.world.memory → (home_of r.homes n).is_seen ≡ true
      → T' (home_of r.homes n).block → ⊥
  stood' = stood b s t r framings coroutine

  apart' : (n : ℕ) → IsListed n (map (λ (slot : Slot). slot.block) (slots_below t.below)) → T' n → ⊥
  apart' = others_apart b s t r framings coroutine

  pub left : LeavesRest b s t r w y.world
  left = left_by b s t r framings coroutine w y.world q.source q.spares

  old : AreCoroutines x' r.homes R' t s.top t.top
  old = coroutine_values b r.homes R' t s.top t.top (is_coroutine b s.top.func) coroutine r.top.values

  old_cells : AreCellsRight x' r.homes R' t.world.memory s.top.values t.top
      × AreWheresRight x' R' t.world.memory (instance_in t.instances t.top.instance) t.top
  old_cells =
      subst (λ (o : Option ℕ). HasCells x' r.homes R' t.world.memory
      (instance_in t.instances t.top.instance) s.top t.top o)
      (not_returned x' s.top s.top.mode mode unreturned) old.cells

  -- the cells of addresses are as they were
  wheres_here : AreWheresRight x' R' y.world.memory (instance_in t.instances t.top.instance) t.top
  wheres_here = record {
    each = λ e listed.
        let k = old_cells.1.each e listed in record {
          block = k.block;
          address = k.address;
          own = k.own;
          bytes = k.bytes;
          sized = k.sized;
          holds = kept b s t r w y.world T' framings q.source same_there stood' apart' k.block
              (λ z. other_block t.top z.0.alloca e.cell z.0.block k.block (own_blocks t r.once) z.1 k.own
              (λ same. apart e listed z.0.alloca z.2 same) z.3)
              0 (value_bytes ptr) k.bytes k.holds;
          has = k.has;
        };
  }
    where
      apart : (e : EarlySlot) → Contains (copies x').slots e → (u : ℕ) → IsCellOf x' u → u ≡ e.cell → ⊥
      apart e listed u of same =
          let lt : u < length (named x').names = of.1 in
          let high : length (written x').names ≤ e.cell = (slots_new x' e listed).1 in
          let long : length (named x').names ≤ length (written x').names = named_written x' in
          omega (arith, lt, high, long, same)

  -- allocas that are still to come
  ahead_one : (name align : ℕ) (ty : Ty) (c : Activation) → c.slots ≡ t.top.slots
      → value_in c.values name ≡ value_in t.top.values name → ((u : ℕ) → IsCellOf x' u → u ≡ name → ⊥)
      → IsAhead x' r.homes r.hides s.world.memory t.world.memory t.top name ty align
      → IsAhead x' r.homes r.hides w.memory y.world.memory c name ty align
  ahead_one u align ty c slots value other one = record {
    block = one.block;
    address = value ∙ one.address;
    own = subst (λ (ss : List Slot). Contains ss (record { alloca = u; block = one.block })) (sym slots) one.own;
    free = subst (λ (m : List MemoryBlock). IsFreeOf r.homes r.hides m one.block) (sym q.source) one.free;
    bytes = one.bytes;
    sized = one.sized;
    there = same_there one.block
        (λ z. other_block t.top z.0.alloca u z.0.block one.block (own_blocks t r.once) z.1 one.own
        (other z.0.alloca z.2) z.3)
        ∙ one.there;
  }

  module _ (sb sa tb ta : ℕ) where
    abbrev on_s : Activation
    on_s = record s.top { block = sb; at = sa; values = env }

    abbrev on_t : Activation
    on_t = record t.top { block = tb; at = ta; values = y.values }

    right' : AreCellsRight x' r.homes R' y.world.memory env on_t
    right' = cells_turned R' y.world.memory (at_work t.top y) on_t x' r.homes env refl refl q.right

    wheres' : AreWheresRight x' R' y.world.memory (instance_in t.instances t.top.instance) on_t
    wheres' =
        wheres_turned R' y.world.memory t.top on_t x' (instance_in t.instances t.top.instance) refl q.wheres
        wheres_here

    -- its values, on top or below
    pub lands : (top : Activation) (below : List Activation) → is_return x' sb ≡ false
        → AreCoroutines x' r.homes R' (record t { world = y.world; top = top; below = below }) on_s on_t
    lands top below ordinary = record {
      names = record {
        each = λ u asks unkept outside. q.names u unkept outside;
        room = q.room ∙ old.names.room;
      };
      cells = subst
          (λ (o : Option ℕ). HasCells x' r.homes R' y.world.memory (instance_in t.instances t.top.instance) on_s on_t o)
          (sym (not_returned x' on_s s.top.mode mode ordinary)) (right', wheres');
      made = made_of x' R' y.world.memory on_t s.top.mode mode (
        right_there x' is r.homes R' y.world.memory env on_t right',
        wheres_there x' R' y.world.memory on_t (instance_in t.instances t.top.instance) wheres',
      );
    }

    pub ahead_lands : (sb ≡ 0 → (s.top.block ≡ 0) × (s.top.at ≤ sa)) → is_first s.top.mode ≡ true → sb ≡ 0
        → AreAhead x' r.homes r.hides w.memory y.world.memory on_s on_t
    ahead_lands goes first zero = record {
      slots = λ at u align ty e le outside.
          ahead_one u align ty on_t refl (q.allocas at u align ty e).1
          (λ z of same. let lt = (q.allocas at u align ty e).0 in let far = of.0 in omega (arith, lt, far, same))
          ((r.ahead.0 coroutine first (goes zero).0).slots at u align ty e (before at le) outside);
      temporaries = λ e at align ty listed there le.
          ahead_one e.temporary e.align e.ty on_t refl (q.wheres e listed).1
          (λ z of same. (cell_is_name x' z of).no_temporary e listed (sym same))
          ((r.ahead.0 coroutine first (goes zero).0).temporaries e at align ty listed there (before at le));
    }
      where
        before : (at : ℕ) → sa ≤ at → s.top.at ≤ at
        before at le = let k = (goes zero).1 in omega (arith, k, le)

    pub top_landed : is_return x' sb ≡ false → ◌≡◌ {A = Point} (record { block = tb; at = ta }) (top_place b on_s)
        → AreActivations b r.homes r.hides (record t { world = y.world; top = on_t }) (top_place b) on_s on_t
    top_landed ordinary place = record {
      func = r.top.func;
      place = place;
      result = r.top.result;
      mode = r.top.mode;
      instance = r.top.instance;
      has_left = r.top.has_left;
      values = values_of b r.homes R' (record t { world = y.world; top = on_t }) on_s on_t
          (is_coroutine b s.top.func) coroutine (lands on_t t.below ordinary);
      slots = own_slots b s t r w y.world left sb sa tb ta env y.values;
    }

    pub landed : is_return x' sb ≡ false → (sb ≡ 0 → (s.top.block ≡ 0) × (s.top.at ≤ sa))
        → ◌≡◌ {A = Point} (record { block = tb; at = ta }) (top_place b on_s)
        → AreBuiltOf b (record s { world = w; top = on_s }) (record t { world = y.world; top = on_t })
    landed ordinary goes place =
        rest_related b s t r w y.world left sb sa tb ta env y.values q.over
        (λ first is zero. ahead_lands goes is zero) (top_landed ordinary place)

    -- blocks stand where they stood
    pub landed_homes : (ordinary : is_return x' sb ≡ false) (goes : sb ≡ 0 → (s.top.block ≡ 0) × (s.top.at ≤ sa))
        (place : ◌≡◌ {A = Point} (record { block = tb; at = ta }) (top_place b on_s))
        → (landed ordinary goes place).homes ≡ r.homes
    unfolding landed
    landed_homes ordinary goes place =
        rest_homes b s t r w y.world left sb sa tb ta env y.values q.over
        (λ first is zero. ahead_lands goes is zero) (top_landed ordinary place)
