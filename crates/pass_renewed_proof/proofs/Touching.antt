-- What the topmost activation reads of its slots where it goes on elsewhere: their blocks come to stand in its own
-- ones.
use Rattle.std.proofs.Common.{◌≡◌, ◌≢◌, ℕ, ◌+◌, ◌<◌, ◌≤◌, Bool, true, false, not, List, [], ◌∷◌, length, Option, Some}
use Rattle.std.proofs.Common.{None, refl, sym, ap, ◌∙◌, subst, ⊎_elim, arith}
use Rattle.std.proofs.lemmas.Bool.{false≢true}
use Rattle.std.specs.Prelude.{IsTrue, slice_get, ℤ}
use Rattle.pass_kept_proof.specs.flow_solver.Paths.{IsListed}
use Rattle.pass_kept_proof.specs.ir_model.Names.{function_at, is_local}
use Rattle.pass_kept_proof.specs.ir_model.Ty.{Ty, array, int, named, ptr, structure, token}
use Rattle.pass_kept_proof.specs.ir_model.declared.module.Function.{Function}
use Rattle.pass_kept_proof.specs.ir_model.declared.module.Module.{Module}
use Rattle.pass_kept_proof.specs.ir_model.declared.operand.Arg.{Arg}
use Rattle.pass_kept_proof.specs.ir_model.declared.operand.Operand.{Operand}
use Rattle.pass_kept_proof.specs.ir_paths.Slots.{is_escaped, is_in_args}
use Rattle.pass_kept_proof.specs.ir_paths.declared.point.Point.{Point}
use Rattle.frame_classes.specs.Classes.{NeedsFrame}
use Rattle.frame_classes.specs.frame_slots.Spots.{IsUse, Spot}
use Rattle.pass_kept_proof.proofs.Same.{eq_itself, or_left, or_right}
use Rattle.pass_kept_proof.specs.Needed.{reads_at}
use Rattle.run_laws.proofs.embedded.Memories.{same_refills}
use Rattle.run_laws.proofs.memory.Homes.{value_on}
use Rattle.run_laws.specs.changed.Changed.{Each}
use Rattle.run_laws.specs.embedded.Making.{whole_home}
use Rattle.run_laws.specs.embedded.Related.{AreValues}
use Rattle.run_laws.specs.memory.Pointers.{Extends, Home, IsValue, home_of}
use Rattle.pass_kept_proof.specs.run_memory.Memory.{owner_rights}
use Rattle.pass_kept_proof.specs.run_memory.Pointers.{moved}
use Rattle.pass_kept_proof.specs.run_memory.declared.pointer.Pointer.{Pointer}
use Rattle.pass_kept_proof.specs.run_memory.declared.pointer.Value.{Value}
use Rattle.pass_kept_proof.specs.run_source.State.{is_suspended}
use Rattle.pass_kept_proof.specs.run_source.declared.state.Activation.{Activation}
use Rattle.pass_kept_proof.specs.run_source.declared.state.Instance.{Instance}
use Rattle.pass_kept_proof.specs.run_source.declared.state.State.{State}
use Rattle.pass_kept_proof.specs.run_step.Step.{Context, Fetched, Work}
use Rattle.pass_kept_proof.specs.run_step.Values.{arg_values, literal, operand_value, pointer_to, value_in}
use Rattle.pass_renewed_proof.proofs.Carried.{AreBelowCarried, IsCarried, IsInstanceCarried, IsSlotKept}
use Rattle.pass_renewed_proof.proofs.Carried.{kept_slot_on, same_alloca, same_func, same_instance, slot_kept, two_ramps}
use Rattle.pass_renewed_proof.proofs.Chosen.{are_places, placed}
use Rattle.pass_renewed_proof.proofs.Ordinary.{one_slot, own_address, roots_of}
use Rattle.pass_renewed_proof.proofs.Others.{kept_used, loud_escaped, other_used, used_gone}
use Rattle.pass_renewed_proof.proofs.Ready.{each_map, fade, ready_all, stood_at, stood_length}
use Rattle.pass_renewed_proof.proofs.Settled.{seated_in}
use Rattle.pass_renewed_proof.proofs.Stands.{IsSpotOf, use_stands}
use Rattle.pass_renewed_proof.proofs.Used.{each_listed, faded_loud, is_among, unused_kept, used_block, used_entered}
use Rattle.pass_renewed_proof.proofs.Used.{used_extends, used_home}
use Rattle.pass_renewed_proof.proofs.Using.{IsGoodPlace, all_places, all_settled, all_theirs, apart, globals_stand}
use Rattle.pass_renewed_proof.proofs.Using.{good_places}
use Rattle.pass_renewed_proof.specs.Beside.{AreOutdone, AreUnbegun, GoesOn, HasLeftSuspended, IsActivationBeside, IsBeside}
use Rattle.pass_renewed_proof.specs.Beside.{IsInstanceBeside, IsKeptSlot, IsSlotBeside}
use Rattle.pass_renewed_proof.specs.Chosen.{IsPlaceOf, places_at}
use Rattle.pass_renewed_proof.specs.Ledger.{AreEntered, AreTheirs, IsHomeOf, Ledger, LivesIn, is_quiet}
use Rattle.pass_renewed_proof.specs.Ledger.{used_ledger}
use Rattle.pass_renewed_proof.specs.Ready.{ArePlacesApart, IsPlace, IsSettled, Place, shown_of, stood}
use Rattle.pass_renewed_proof.specs.Renewed.{Flags, Roots}
use Rattle.pass_renewed_proof.specs.SlotEnvs.{AreRoots, IsAddress}
use Rattle.pass_renewed_proof.specs.SlotRules.{KeepsSlots}
use Rattle.pass_renewed_proof.specs.Steps.{AreOver}

-- what is read are uses of slots that are escaped, which stand where the activation does
pub record IsTouching (m : Module) (roots : Roots) (a : Activation) (reading : Fetched) (spot : Spot) : Type 0 where
  pub uses : (v al : ℕ) → roots a.func v ≡ Some al → IsTrue (reads_at v reading)
      → IsUse (function_at m a.func) al spot
  pub escapes : (v al : ℕ) → roots a.func v ≡ Some al → IsTrue (reads_at v reading)
      → IsTrue (is_escaped (function_at m a.func) al)
  pub is_spot : (al : ℕ) → IsUse (function_at m a.func) al spot → IsSpotOf (function_at m a.func) a spot

module _ (m : Module) (flags : Flags) (roots : Roots) (keeps : (func : ℕ)
    → KeepsSlots m (function_at m func) (flags func) (roots func)) (s t : State) (beside : IsBeside m flags roots s t)
    (reading : Fetched) (spot : Spot) (touching : IsTouching m roots s.top reading spot) where
  abbrev f : Function
  f = function_at m s.top.func

  abbrev l : Ledger
  l = beside.ledger

  abbrev e : AreEntered m beside.ledger s.world.memory t.world.memory
  e = beside.entered

  abbrev h : IsActivationBeside m flags roots beside.ledger s.instances s.world.memory t.world.memory (length s.below)
      s.top t.top
  h = beside.top

  abbrev c : Context
  c = record { code = m; answers = []; rights = owner_rights; function = function_at m s.top.func }

  abbrev w : Work
  w = record { world = s.world; values = s.top.values }

  abbrev x : Work
  x = record { world = t.world; values = beside.top.values }

  abbrev ps : List Place
  ps = places_at (roots s.top.func) s.top.values beside.top.values reading

  abbrev pub touched : Ledger
  touched = used_ledger m beside.ledger (places_at (roots s.top.func) s.top.values beside.top.values reading)

  pub idem : AreRoots (roots s.top.func)
  idem = roots_of m f (flags s.top.func) (roots s.top.func) (keeps s.top.func)

  pub one : (a b d : ℕ) → roots s.top.func a ≡ Some a → roots s.top.func b ≡ Some b
      → value_in s.top.values a ≡ pointer_to d → value_in s.top.values b ≡ pointer_to d → a ≡ b
  one = one_slot m flags roots keeps l s.instances s.world.memory t.world.memory (length s.below) s.top t.top h

  -- ---- what is known of a place

  pub use_of : (p : Place) (i : IsPlaceOf (roots s.top.func) s.top.values h.values reading p)
      → IsUse (function_at m s.top.func) i.alloca spot
  use_of p i = touching.uses i.name i.alloca i.root i.is_read

  slot_of : (p : Place) (i : IsPlaceOf (roots s.top.func) s.top.values h.values reading p)
      → IsSlotBeside m l s.instances s.world.memory t.world.memory (length s.below) s.top i.alloca p.block p.target
  slot_of p i = h.each i.alloca p.block p.target ((keeps s.top.func).rooted i.name i.alloca i.root).0 i.source i.target

  local_of : (p : Place) (i : IsPlaceOf (roots s.top.func) s.top.values h.values reading p)
      → ¬ NeedsFrame (function_at m s.top.func) i.alloca
  local_of p i = ((keeps s.top.func).is_local i.alloca ((keeps s.top.func).rooted i.name i.alloca i.root).0).1

  good_here : (p : Place) → IsPlaceOf (roots s.top.func) s.top.values h.values reading p
      → IsGoodPlace m l s.world.memory t.world.memory p
  good_here p i =
      let slot = slot_of p i in
      record {
        seat = _;
        seated = slot.seat;
        tenant = slot.tenant;
        depth = _;
        owner = slot.owner;
        ready = slot.ready;
        stands = use_stands m flags roots l s.instances s.world.memory t.world.memory (length s.below) s.top t.top h
            spot (touching.is_spot i.alloca (use_of p i)) i.alloca p.block p.target (local_of p i) (use_of p i) slot;
      }

  goods : Each (IsGoodPlace m l s.world.memory t.world.memory) ps
  goods = good_places m l s.world.memory t.world.memory e c refl w x (roots s.top.func) reading refl refl beside.world
      idem h.envs one good_here

  abbrev places : Each (IsPlace l.homes l.hides s.world.memory t.world.memory) ps
  places = all_places m l s.world.memory t.world.memory e ps goods

  abbrev settle : Each (IsSettled l.homes l.hides s.world.memory) ps
  settle = all_settled m l s.world.memory t.world.memory e ps goods

  abbrev aparts : ArePlacesApart ps
  aparts = apart m l s.world.memory t.world.memory e c refl w x (roots s.top.func) reading refl refl beside.world
      idem h.envs one good_here

  abbrev theirs : AreTheirs l ps
  theirs = all_theirs m l s.world.memory t.world.memory e ps goods

  pub known : (p : Place) → IsListed p ps → IsPlaceOf (roots s.top.func) s.top.values h.values reading p
  known p listed = each_listed _ ps p (are_places l.homes (roots s.top.func) s.top.values h.values reading idem
      h.envs) listed

  loud_place : (p : Place) → IsListed p ps → is_quiet m (l.seats p.block) ≡ false
  loud_place p listed =
      let i = known p listed in
      ap (is_quiet m) (slot_of p i).seat ∙ ap not (touching.escapes i.name i.alloca i.root i.is_read)

  -- ---- the blocks

  pub touched_extends : Extends beside.ledger.homes (used_ledger m beside.ledger (places_at (roots s.top.func)
      s.top.values beside.top.values reading)).homes
  touched_extends = used_extends m l s.world.memory s.world.memory t.world.memory t.world.memory ps e places settle
      aparts theirs

  pub touched_carried : IsCarried beside.ledger (used_ledger m beside.ledger (places_at (roots s.top.func)
      s.top.values beside.top.values reading)) s.world.memory s.world.memory t.world.memory t.world.memory
  touched_carried = record {
    extends = touched_extends;
    seats = λ b seat at. at;
    unseated = λ b seen at. at;
    owners = λ d depth at. at;
    tenants = λ d depth at. refl;
    ready = λ b d depth seat seated at old. old;
  }

  pub passed : (b : ℕ) → Each (λ (q : Place). q.block ≢ b) ps
      → IsSlotKept l touched s.world.memory s.world.memory b
  passed b out = unused_kept m l s.world.memory s.world.memory t.world.memory t.world.memory ps e places settle aparts
      theirs (same_refills s.world.memory) (same_refills t.world.memory) b out (λ fresh. refl)

  pub touched_entered : AreEntered m (used_ledger m beside.ledger (places_at (roots s.top.func) s.top.values
      beside.top.values reading)) s.world.memory t.world.memory
  touched_entered = used_entered m l s.world.memory s.world.memory t.world.memory t.world.memory ps e places settle
      aparts theirs (same_refills s.world.memory) (same_refills t.world.memory) e.shown e.future e.full

  within : Each (λ (q : Place). q.block < length l.homes) ps
  within = each_map _ _ ps (λ q (i : IsPlace l.homes l.hides s.world.memory t.world.memory q). i.within) places

  within_stood : Each (λ (q : Place). q.block < length (stood l.homes ps)) ps
  within_stood = each_map _ _ ps (λ q lt. subst (λ n. q.block < n) (sym (stood_length l.homes ps)) lt) within

  pub touched_over : AreOver (used_ledger m beside.ledger (places_at (roots s.top.func) s.top.values beside.top.values
      reading)).homes (used_ledger m beside.ledger (places_at (roots s.top.func) s.top.values beside.top.values
      reading)).hides s.world t.world
  touched_over =
      let st = fade (λ b. is_quiet m (l.seats b)) (shown_of l.hides ps) (stood l.homes ps) s.world.memory
      t.world.memory ps within_stood e.shown (ready_all l.homes l.hides s.world.memory t.world.memory ps places settle
      aparts (record {
        memory = beside.world.memory;
        nulls = beside.world.nulls;
        bounds = beside.world.bounds;
      })) in
      record {
        memory = st.memory;
        nulls = st.nulls;
        bounds = st.bounds;
        events = beside.world.events;
        answers = beside.world.answers;
        allocs = beside.world.allocs;
      }

  pub place_home : (p : Place) → IsListed p ps → IsHomeOf (used_ledger m beside.ledger (places_at (roots s.top.func)
      s.top.values beside.top.values reading)) p.block p.target
  place_home p listed = used_home m l s.world.memory s.world.memory t.world.memory t.world.memory ps e places settle
      aparts theirs p listed

  -- ---- the values that are read

  home_there : (p : Place) → IsListed p ps → home_of touched.homes p.block ≡ whole_home p.target
  home_there p listed = faded_loud (λ b. is_quiet m (l.seats b)) (stood l.homes ps) ps p.block (loud_place p listed)
      ∙ stood_at l.homes ps p within aparts listed

  pub read_stands : (v : ℕ) → IsTrue (reads_at v reading) → IsValue (used_ledger m beside.ledger (places_at (roots
      s.top.func) s.top.values beside.top.values reading)).homes (value_in s.top.values v) (value_in beside.top.values
      v)
  read_stands v is = on (roots s.top.func v) refl
    where
      address : (al : ℕ) → roots s.top.func v ≡ Some al → IsAddress (value_in s.top.values al) (value_in h.values al)
          (value_in s.top.values v) (value_in h.values v)
          → IsValue touched.homes (value_in s.top.values v) (value_in h.values v)
      address al root ad =
          let p = placed l.homes (roots s.top.func) s.top.values h.values reading idem h.envs one v al is root ad in
          let k = home_there p.place p.listed in
          subst (λ z. IsValue touched.homes z (value_in h.values v)) (sym p.source) (
            ap (λ (q : Home). q.is_seen) k,
            p.target
                ∙ ap (λ (q : Home). Value.Ptr (Pointer.At q.block (moved p.offset q.offset))) (sym k),
          )

      on : (o : Option ℕ) → roots s.top.func v ≡ o
          → IsValue touched.homes (value_in s.top.values v) (value_in h.values v)
      on None root = value_on l.homes touched.homes touched_extends _ _ (h.envs.plain v root)
      on (Some al) root = ⊎_elim
          (λ poison. subst (λ z. IsValue touched.homes z (value_in h.values v)) (sym poison) tt)
          (address al root)
          (h.envs.rooted v al root)

  literal_stands : (ty : Ty) (z : ℤ) → IsValue touched.homes (literal ty z) (literal ty z)
  literal_stands (int k) z = refl
  literal_stands ptr z = tt
  literal_stands token z = tt
  literal_stands (array k ty) z = tt
  literal_stands (structure tys) z = tt
  literal_stands (named name) z = tt

  pub operand_stands : (ty : Ty) (o : Operand) → ((v : ℕ) → IsTrue (is_local v o) → IsTrue (reads_at v reading))
      → IsValue (used_ledger m beside.ledger (places_at (roots s.top.func) s.top.values beside.top.values
      reading)).homes (operand_value m s.top.values ty o) (operand_value m beside.top.values ty o)
  operand_stands ty (Operand.Local v) reads = read_stands v (reads v (eq_itself v))
  operand_stands ty (Operand.Global n) reads = value_on l.homes touched.homes touched_extends _ _ (globals_stand m l
      s.world.memory t.world.memory e n)
  operand_stands ty (Operand.Number z) reads = literal_stands ty z
  operand_stands ty Operand.True reads = refl
  operand_stands ty Operand.False reads = refl
  operand_stands ty Operand.Null reads = (tt, refl)
  operand_stands ty Operand.None reads = tt
  operand_stands ty Operand.Poison reads = tt

  pub args_stand : (args : List Arg) → ((v : ℕ) → IsTrue (is_in_args v args) → IsTrue (reads_at v reading))
      → AreValues (used_ledger m beside.ledger (places_at (roots s.top.func) s.top.values beside.top.values
      reading)).homes (arg_values m s.top.values args) (arg_values m beside.top.values args)
  args_stand [] reads = tt
  args_stand (a ∷ args) reads = (
    operand_stands a.ty a.value (λ v is. reads v (or_left (is_local v a.value) _ is)),
    args_stand args (λ v is. reads v (or_right (is_local v a.value) _ is)),
  )

  -- ---- others

  pub loud_after : (b : ℕ) → (home_of touched.homes b).is_seen ≡ true → is_quiet m (l.seats b) ≡ false
  loud_after b seen = on (is_quiet m (l.seats b)) refl
    where
      on : (u : Bool) → is_quiet m (l.seats b) ≡ u → is_quiet m (l.seats b) ≡ false
      on true q = absurd (false≢true (sym (touched_entered.quiet b q) ∙ seen))
      on false q = q

  block_there : (p : Place) → IsListed p ps → (home_of touched.homes p.block).block ≡ p.target
  block_there p listed = used_block m l s.world.memory s.world.memory t.world.memory t.world.memory ps e places settle
      aparts theirs p listed

  other_touched : (z : Activation) (depth : ℕ) → depth ≢ length s.below → (z.instance ≡ s.top.instance
      → GoesOn s.instances depth z → s.top.has_left ≡ false → AreUnbegun s.top.instance s.top.mode z.mode) → (al b d : ℕ) → IsTrue (flags z.func al)
      → IsSlotBeside m l s.instances s.world.memory t.world.memory depth z al b d
      → IsSlotBeside m touched s.instances s.world.memory t.world.memory depth z al b d
  other_touched z depth ne alone al b d flagged old = ⊎_elim
      (λ p. subst (λ n. IsSlotBeside m l s.instances s.world.memory t.world.memory depth z al n d
      → IsSlotBeside m touched s.instances s.world.memory t.world.memory depth z al n d) p.1.1 (used p.0 p.1.0) old)
      (λ out. slot_kept m flags roots l touched s.instances s.instances s.world.memory s.world.memory t.world.memory
      t.world.memory touched_carried depth z al b d (record {
        goes_on = λ goes. goes;
        slots = λ slot is. is;
      }) (passed b out) old)
      (is_among ps b)
    where
      used : (p : Place) → IsListed p ps
          → IsSlotBeside m l s.instances s.world.memory t.world.memory depth z al p.block d
          → IsSlotBeside m touched s.instances s.world.memory t.world.memory depth z al p.block d
      used p listed old =
          let i = known p listed in
          let ours = slot_of p i in
          let seats = sym old.seat ∙ ours.seat in
          other_used m flags roots l touched s.instances s.world.memory s.world.memory t.world.memory t.world.memory
          (length s.below) s.top t.top h spot (touching.is_spot i.alloca (use_of p i)) i.alloca p.block p.target
          (local_of p i) (use_of p i) ours touched_carried (block_there p listed) (λ live. live) (loud_after p.block)
          depth z al d ne (λ goes stays. two_ramps m l s.instances s.world.memory t.world.memory (length s.below) depth
          s.top z i.alloca al p.block p.target d ne ours old (alone (same_instance seats) goes stays)) (same_func seats)
          (same_alloca seats) old

  pub below_touched : (below : List Activation) → length below ≤ length s.below
      → AreOutdone s.instances s.top below
      → AreBelowCarried m flags roots beside.ledger (used_ledger m beside.ledger (places_at (roots s.top.func)
      s.top.values beside.top.values reading)) s.instances s.instances s.world.memory s.world.memory t.world.memory
      t.world.memory touched_carried below
  below_touched [] le outdone = tt
  below_touched (z ∷ below) le outdone = (
    record { over = λ stays o. o; slots = other_touched z (length below) other outdone.0 },
    below_touched below (omega arith) outdone.1,
  )
    where
      other : length below ≢ length s.below
      other is = absurd (omega arith)

  pub instance_touched : HasLeftSuspended s.instances s.top → (j : ℕ) (z y : Instance)
      → slice_get s.instances j ≡ Some z
      → IsInstanceBeside m flags roots beside.ledger s.world.memory (0 + j) z y
      → IsInstanceCarried m flags roots beside.ledger (used_ledger m beside.ledger (places_at (roots s.top.func)
      s.top.values beside.top.values reading)) s.instances s.instances s.world.memory s.world.memory t.world.memory
      t.world.memory touched_carried z
  instance_touched asleep j z y at ib = record {
    slots = λ p al b suspended flagged old. ⊎_elim
        (λ q. subst (λ n. IsKeptSlot m l s.world.memory z p al n
        → IsKeptSlot m touched s.world.memory z p al n) q.1.1 (used p al q.0 q.1.0 suspended flagged) old)
        (λ out. kept_slot_on m flags roots l touched s.instances s.instances s.world.memory s.world.memory
        t.world.memory t.world.memory touched_carried z p al b (passed b out) old)
        (is_among ps b);
    gone = λ slot is flagged gone. gone;
  }
    where
      used : (p : Point) (al : ℕ) (q : Place) → IsListed q ps → is_suspended z.status ≡ true
          → IsTrue (flags z.coroutine al) → IsKeptSlot m l s.world.memory z p al q.block
          → IsKeptSlot m touched s.world.memory z p al q.block
      used p al q listed suspended flagged old =
          let i = known q listed in
          let ours = slot_of q i in
          let seated = seated_in l _ _ (flags z.coroutine) z.slots ib.slots ib.listed (record {
            alloca = al;
            block = q.block;
          }) flagged old.slot in
          let seats = sym seated.seat ∙ ours.seat in
          let number : 0 + j ≡ j = omega arith in
          kept_used m flags roots l touched s.instances s.world.memory s.world.memory t.world.memory t.world.memory
          (length s.below) s.top t.top h spot (touching.is_spot i.alloca (use_of q i)) i.alloca q.block q.target
          (local_of q i) (use_of q i) ours touched_carried (block_there q listed) (λ live. live) (loud_after q.block)
          z p al (asleep j z (sym (same_instance seats) ∙ ap Some number) at suspended) (same_func seats) (same_alloca
          seats) old

  -- where the topmost one has left, no pointer is about into a live block that stands in its own one
  pub touched_gone : (al b d : ℕ) → IsTrue (flags s.top.func al) → value_in s.top.values al ≡ pointer_to b
      → value_in beside.top.values al ≡ pointer_to d → s.top.has_left ≡ true → LivesIn s.world.memory b
      → (home_of (used_ledger m beside.ledger (places_at (roots s.top.func) s.top.values beside.top.values
      reading)).homes b).is_seen ≡ true
      → (home_of (used_ledger m beside.ledger (places_at (roots s.top.func) s.top.values beside.top.values
      reading)).homes b).block ≢ d
  touched_gone al b d flagged at at' left live seen is = ⊎_elim
      (λ p. used p.0 p.1.0 p.1.1)
      (λ out. let home = (passed b out).home in old.gone left live (ap (λ (q : Home). q.is_seen) (sym home) ∙ seen) (ap
      (λ (q : Home). q.block) (sym home) ∙ is))
      (is_among ps b)
    where
      old : IsSlotBeside m l s.instances s.world.memory t.world.memory (length s.below) s.top al b d
      old = h.each al b d flagged at at'

      used : (p : Place) → IsListed p ps → p.block ≡ b → ⊥
      used p listed same =
          let i = known p listed in
          let root : roots s.top.func al ≡ Some al = (keeps s.top.func).addresses al al flagged (own_address f al) in
          let same_al : i.alloca ≡ al = one i.alloca al b (idem i.name i.alloca i.root) root
          (i.source ∙ ap pointer_to same) at in
          let u : IsUse f al spot = subst (λ n. IsUse f n spot) same_al (use_of p i) in
          let spot_is = touching.is_spot al u in
          let local : ¬ NeedsFrame f al = ((keeps s.top.func).is_local al flagged).1 in
          used_gone m flags roots l touched s.instances s.world.memory s.world.memory t.world.memory t.world.memory
          (length s.below) s.top t.top h spot spot_is al b d local u old left (loud_escaped m flags roots l touched
          s.instances s.world.memory s.world.memory t.world.memory t.world.memory (length s.below) s.top t.top h spot
          spot_is al b d local u old (loud_after b seen)) live
