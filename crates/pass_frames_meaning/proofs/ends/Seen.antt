-- Operands at the end of a block are fetched, and stand for the source's: behind a work in which cells are right.
use Rattle.std.proofs.Common.{◌≡◌, ⊎_elim, ℕ, ◌+◌, ◌%◌, ◌^◌, ◌<◌, ◌≤◌, true, List, length, Option, Some, None, refl, sym, ap, ◌∙◌, subst, arith}
use Rattle.std.specs.List.{Contains}
use Rattle.std.specs.Prelude.{option_map, slice_get}
use Rattle.pass_frames_proof.specs.frame_contents.Held.{position_of}
use Rattle.pass_frames_proof.specs.ir_model.Names.{declaration_named, function_named}
use Rattle.pass_frames_proof.specs.ir_model.Ty.{Ty}
use Rattle.pass_frames_proof.specs.ir_model.declared.module.Module.{Module}
use Rattle.pass_frames_proof.specs.ir_model.declared.operand.Operand.{Operand}
use Rattle.pass_frames_proof.specs.pass_cells.Cells.{fetch_by, fetch_for, fetches_of}
use Rattle.pass_frames_proof.specs.pass_cells.Kept.{entry, value_types}
use Rattle.pass_frames_proof.specs.pass_cells.Links.{bases_of, slots_of}
use Rattle.pass_frames_proof.specs.pass_cells.declared.plan.KeptValue.{KeptValue}
use Rattle.pass_frames_proof.specs.pass_fetch.Fetching.{fetch_of}
use Rattle.pass_frames_proof.specs.pass_fetch.declared.fetch.Fetch.{Fetch}
use Rattle.pass_frames_proof.specs.pass_frames.Framed.{begin_of}
use Rattle.pass_frames_proof.specs.pass_frames.Tables.{offset_at}
use Rattle.pass_frames_proof.proofs.code.Left.{Far, far_named, fetch_found}
use Rattle.pass_frames_proof.proofs.code.Names.{Count, F, First, Kept, keeping, local}
use Rattle.pass_frames_proof.proofs.followed.Assembly.{other_instance}
use Rattle.pass_frames_proof.proofs.lines.Loads.{can_load, loaded_stands}
use Rattle.pass_frames_proof.proofs.reached.Slots.{address_stands, can_reach}
use Rattle.pass_frames_proof.proofs.stepping.May.{coroutine_values}
use Rattle.pass_frames_proof.proofs.stepping.Operands.{AreSameNames, asked, other_stands, outside_not, slot_address, slot_fetch}
use Rattle.pass_frames_proof.specs.Code.{slot_table}
use Rattle.pass_frames_proof.specs.Distances.{IsBelow}
use Rattle.pass_frames_proof.specs.Fetched.{CanFetch, seen_by}
use Rattle.pass_frames_proof.specs.Framings.{IsFraming}
use Rattle.pass_frames_proof.specs.Led.{IsTwiceFor, twice_by}
use Rattle.pass_frames_proof.specs.Lines.{at_work}
use Rattle.pass_frames_proof.specs.Loaded.{loaded_value}
use Rattle.pass_frames_proof.specs.Places.{Framing, edged, named, offsets, plan}
use Rattle.pass_frames_proof.specs.Reached.{address_in_frame}
use Rattle.pass_frames_proof.specs.Related.{AreBuiltOf, AreCellsRight, AreCoroutines, AreInstances, AreNamed, Building, instance_in, is_coroutine}
use Rattle.pass_frames_proof.specs.Stepping.{AreGiven, AreOffsetsPlaced, IsBeginPlain, IsNotEntering, IsPlacedOperand, IsSlotOf}
use Rattle.pass_frames_proof.specs.pass_renewed_proof.Renewed.{RenewedGiven}
use Rattle.pass_frames_proof.proofs.pass_proofs.cells.rules.Planned.{fetch_there}
use Rattle.pass_frames_proof.proofs.pass_proofs.cells.rules.Plans.{kept_as, kept_at}
use Rattle.pass_frames_proof.specs.run_framed.Framed.{frame_rights, framed_context}
use Rattle.pass_frames_proof.specs.run_laws.access.Lines.{pointer_at}
use Rattle.pass_frames_proof.specs.run_laws.memory.Pointers.{Home, IsValue, home_of}
use Rattle.pass_frames_proof.specs.run_memory.Pointers.{moved, offset_of}
use Rattle.pass_frames_proof.specs.run_memory.declared.pointer.Pointer.{Pointer}
use Rattle.pass_frames_proof.specs.run_memory.declared.pointer.Value.{Value}
use Rattle.pass_frames_proof.specs.run_source.Source.{context_of}
use Rattle.pass_frames_proof.specs.run_source.State.{address_in, work_of}
use Rattle.pass_frames_proof.specs.run_source.declared.state.Instance.{Instance}
use Rattle.pass_frames_proof.specs.run_source.declared.state.State.{State}
use Rattle.pass_frames_proof.specs.run_step.Step.{Context, Work}
use Rattle.pass_frames_proof.specs.run_step.Values.{operand_value, pointer_to, value_in}
use Rattle.pass_frames_proof.specs.run_step.declared.world.Slot.{Slot}

pub same_names : (b : Building) (g : RenewedGiven) → AreGiven b g → AreSameNames g.given.code b.given.given.code
same_names b g given = record {
  functions = λ name. ap (λ (k : Module). function_named k name) given.code ∙ given.functions name;
  declarations = λ name. ap (λ (k : Module). declaration_named k name) given.code ∙ given.declarations name;
  globals = ap (λ (k : Module). k.globals) given.code ∙ given.globals;
  count = ap (λ (k : Module). length k.functions) given.code ∙ given.count;
}

-- what isn't loaded isn't kept
pub not_kept : (x : Framing) → IsFraming x → (u : ℕ) → fetch_of (fetches_of (plan x)) (Operand.Local u) ≡ None
    → entry (plan x).places u ≡ None
not_kept x is u e = on (entry (plan x).places u) refl
  where
    by : (at : ℕ) → entry (plan x).places u ≡ Some at → (o : Option KeptValue) → slice_get (plan x).kept at ≡ o
        → entry (plan x).places u ≡ None
    by at told (Some k) there =
        let no : None ≡ Some (Fetch.Load k.ty k.cell) =
        sym e ∙ fetch_there (plan x).kept (plan x).places u ∙ ap (fetch_for (plan x).kept) told ∙ ap fetch_by there in
        absurd (cc)
    by at told None there =
        let slots : List (Option ℕ) = slots_of (local x is) (bases_of (edged x)) in
        let types : List Ty = value_types (F x is) (Kept x is) in
        let here : slice_get (Kept x is).values at ≡ Some u = (keeping x is).there u at told in
        let no : None ≡ Some (kept_as (First x is) (Count x is) types (plan x).cells slots at u) =
        sym there ∙ kept_at (First x is) (Count x is) types (plan x).cells slots (Kept x is).values at u here in
        absurd (cc)

    on : (o : Option ℕ) → entry (plan x).places u ≡ o → entry (plan x).places u ≡ None
    on None told = told
    on (Some at) told = by at told (slice_get (plan x).kept at) refl

module _ (b : Building) (g : RenewedGiven) (given : AreGiven b g) (s t : State) (r : AreBuiltOf b s t)
    (coroutine : is_coroutine b s.top.func ≡ true) (mode : IsNotEntering s.top.mode)
    (plain : IsBeginPlain (b.framing s.top.func)) (placed : AreOffsetsPlaced (b.framing s.top.func)) (w : Work)
    (low : (u : ℕ) → u < length (named (b.framing s.top.func)).names
    → value_in w.values u ≡ value_in t.top.values u)
    (right : AreCellsRight (b.framing s.top.func) r.homes (frame_rights b.given t.instances) w.world.memory
    s.top.values (at_work t.top w)) where
  abbrev x : Framing
  x = b.framing s.top.func

  abbrev c : Context
  c = context_of g.given s

  abbrev d : Context
  d = framed_context b.given t

  abbrev T : List (Option Fetch)
  T = fetches_of (plan x)

  abbrev pub S : List (Option Fetch)
  S = slot_table x

  abbrev N : ℕ
  N = length (named x).names

  abbrev own : Option Instance
  own = instance_in t.instances t.top.instance

  -- what loads and addresses give
  abbrev pub loads : ℕ → Value
  loads = loaded_value x d w

  abbrev pub addresses : ℕ → Value
  addresses = slot_address x own

  is : IsFraming x
  is = given.framings s.top.func coroutine

  values : AreCoroutines x r.homes (frame_rights b.given t.instances) t s.top t.top
  values = coroutine_values b r.homes (frame_rights b.given t.instances) t s.top t.top (is_coroutine b s.top.func)
      coroutine r.top.values

  names : AreNamed x r.homes s.top t.top
  names = values.names

  begin_low : begin_of x.function < N
  begin_low = let a : Far x is ≤ N = far_named x is in let e = plain.low in omega (arith, a, e)

  -- ---- loads

  pub can_be_loaded : (n : ℕ) → N ≤ n → (o : Operand) → CanFetch T loads n d w o
  can_be_loaded n le (Operand.Local u) = can_load x is r.homes d s.top.values t.top w right n u le
  can_be_loaded n le _ = tt

  -- ---- slots in the frame

  record IsFound (v e : ℕ) (z : IsSlotOf x s v e) : Type 0 where
    beside : Instance
    is_own : own ≡ Some beside
    instances : AreInstances b r.homes t z.instance beside
    begun : value_in w.values (begin_of x.function) ≡ pointer_at beside.block beside.start

  module _ (v e : ℕ) (z : IsSlotOf x s v e) where
    other : (y : Instance) × (slice_get t.instances z.number ≡ Some y) × AreInstances b r.homes t z.instance y
    other = other_instance b s t r z.number z.instance z.there

    moved_home : (y : Instance) → AreInstances b r.homes t z.instance y
        → IsValue r.homes (address_in z.instance.block z.instance.start) (value_in t.top.values (begin_of x.function))
        → value_in t.top.values (begin_of x.function) ≡ pointer_at y.block y.start
    moved_home y i h =
        h.1
        ∙ ap (λ (q : Home). Value.Ptr (Pointer.At q.block (moved (offset_of z.instance.start) q.offset))) i.block
        ∙ ap (λ (k : ℕ). pointer_at y.block k) (small z.instance.start e z.near ∙ sym i.start)
      where
        small : (k e : ℕ) → k + e < 2 ^ 64 → (k + 0) % 2 ^ 64 ≡ k
        small k e near = omega (arith, near)

    found : IsFound v e z
    found = record {
      beside = other.0;
      is_own = ap (instance_in t.instances) (r.top.instance ∙ z.own) ∙ other.1;
      instances = other.2;
      begun = low (begin_of x.function) begin_low ∙ moved_home other.0 other.2
          (subst (λ (u : Value). IsValue r.homes u (value_in t.top.values (begin_of x.function))) z.begun
          (names.each (begin_of x.function) (asked x s.top s.top.mode (begin_of x.function) mode) plain.unkept
          plain.outside));
    }

    near_there : found.beside.start + e < 2 ^ 64
    near_there = subst (λ (k : ℕ). k + e < 2 ^ 64) (sym found.instances.start) z.near

    slot_stands : entry (offsets x) v ≡ Some e → IsValue r.homes (value_in s.top.values v) (addresses v)
    slot_stands told =
        subst (λ (o : Option Instance). IsValue r.homes (value_in s.top.values v) (slot_address x o v))
        (sym found.is_own) (⊎_elim
        (λ none. subst (λ (u : Value). IsValue r.homes u (address_in_frame x found.beside.block found.beside.start v))
        (sym none) tt) by_slot z.leads)
      where
        by_slot : (slot : Slot) × Contains z.instance.slots slot × (slot.alloca ≡ v)
            × (value_in s.top.values v ≡ pointer_to slot.block)
            → IsValue r.homes (value_in s.top.values v)
            (address_in_frame x found.beside.block found.beside.start v)
        by_slot k =
            let p = found.instances.slots k.0 k.1 in
            let same : b.framing z.instance.coroutine ≡ x = ap b.framing z.coroutine in
            address_stands x r.homes s.top.values found.beside.block found.beside.start v k.0.block e told k.3
            (subst
            (λ (o : ℕ). home_of r.homes k.0.block
            ≡ record { block = found.beside.block; offset = found.beside.start + o; is_seen = true })
            (ap (λ (y : Framing). offset_at y.layout p.position) same
            ∙ sym (placed.each v e p.position told
            (subst (λ (u : ℕ). position_of x.contents.held u ≡ Some p.position) k.2
            (subst (λ (y : Framing). position_of y.contents.held k.0.alloca ≡ Some p.position) same p.position_is))))
            p.home)
            near_there

    slot_reached : entry (offsets x) v ≡ Some e → (n : ℕ) → N ≤ n
        → CanFetch S addresses n d w (Operand.Local v)
    slot_reached told n le =
        subst (λ (o : Option Instance). CanFetch S (slot_address x o) n d w (Operand.Local v))
        (sym found.is_own)
        (can_reach x d w found.beside.block found.beside.start n v found.begun (omega (arith, begin_low, le))
        near_all)
      where
        near_all : (o : ℕ) → entry (offsets x) v ≡ Some o → found.beside.start + o < 2 ^ 64
        near_all o other =
            let same : Some e ≡ Some o = sym told ∙ other in
            let one : e ≡ o = cc in
            subst (λ (k : ℕ). found.beside.start + k < 2 ^ 64) one near_there

  pub can_be_reached : (n : ℕ) → N ≤ n → (o : Operand) → IsPlacedOperand x s o → CanFetch S addresses n d w o
  can_be_reached n le (Operand.Local v) h = on (entry (offsets x) v) refl
    where
      on : (o : Option ℕ) → entry (offsets x) v ≡ o → CanFetch S addresses n d w (Operand.Local v)
      on None e = λ f k. let no = sym (slot_fetch x v ∙ ap (option_map (Fetch.Address (begin_of x.function))) e) ∙ k in
          absurd (cc)
      on (Some e) told = slot_reached v e (h e told) told n le
  can_be_reached n le _ h = tt

  -- ---- what is seen

  abbrev IsSeen : Operand → Type 0
  IsSeen o = IsTwiceFor r.homes T S loads addresses c d (work_of s) w o

  seen_local : (v : ℕ) → v < N → IsPlacedOperand x s (Operand.Local v) → IsSeen (Operand.Local v)
  seen_local v lt h ty = on (fetch_of T (Operand.Local v)) refl
    where
      unloaded : entry (plan x).places v ≡ None → (o : Option ℕ) → entry (offsets x) v ≡ o
          → IsValue r.homes (value_in s.top.values v)
          (seen_by addresses d w ty (Operand.Local v) (option_map (Fetch.Address (begin_of x.function)) o))
      unloaded unkept (Some e) told = slot_stands v e (h e told) told
      unloaded unkept None told =
          subst (IsValue r.homes (value_in s.top.values v)) (sym (low v lt))
          (names.each v (asked x s.top s.top.mode v mode) unkept (outside_not x v told))

      on : (o : Option Fetch) → fetch_of T (Operand.Local v) ≡ o
          → IsValue r.homes (value_in s.top.values v)
          (twice_by S loads addresses d w ty (Operand.Local v) o)
      on (Some f) e =
          let z = fetch_found x is v f e in
          loaded_stands x is r.homes d s.top.values t.top w right v z.kept
          (record { number = z.at; told = z.told; there = z.there })
      on None e =
          subst
          (λ (f : Option Fetch). IsValue r.homes (value_in s.top.values v)
          (seen_by addresses d w ty (Operand.Local v) f)) (sym (slot_fetch x v))
          (unloaded (not_kept x is v e) (entry (offsets x) v) refl)

  others : (o : Operand) → ((u : ℕ) → o ≡ Operand.Local u → ⊥) → (ty : Ty)
      → IsValue r.homes (operand_value c.code s.top.values ty o) (operand_value d.code w.values ty o)
  others o none ty =
      other_stands r.homes g.given.code b.given.given.code (same_names b g given)
      (λ k lt. r.globals k (subst (λ (z : Module). k < length z.globals) given.code lt)) s.top.values w.values o
      none ty

  pub seen : (o : Operand) → IsBelow N o → IsPlacedOperand x s o → IsSeen o
  seen (Operand.Local v) lt h = seen_local v lt h
  seen (Operand.Global name) lt h = others (Operand.Global name) (λ v e. absurd (cc))
  seen (Operand.Number z) lt h = others (Operand.Number z) (λ v e. absurd (cc))
  seen Operand.True lt h = others Operand.True (λ v e. absurd (cc))
  seen Operand.False lt h = others Operand.False (λ v e. absurd (cc))
  seen Operand.Null lt h = others Operand.Null (λ v e. absurd (cc))
  seen Operand.None lt h = others Operand.None (λ v e. absurd (cc))
  seen Operand.Poison lt h = others Operand.Poison (λ v e. absurd (cc))
