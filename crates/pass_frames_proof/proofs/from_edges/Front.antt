-- In front of a block on a resume or destroy edge all cells come to be right.
use Rattle.std.proofs.Common.{◌≡◌, ◌≢◌, ◌⊎◌, ◌+◌, ◌*◌, ◌<◌, ◌≤◌, ◌^◌, ◌%◌, ◌==◌, ◌∷◌, ◌++◌, ◌∙◌, [], if◌then◌else◌, Bool, List, None, Option, Some, ap, append-nil, arith, false, inl, inr, length, refl, subst, suc, sym, true, ℕ, ⊎_elim}
use Rattle.std.specs.List.{Contains}
use Rattle.std.specs.Prelude.{slice_get}
use Rattle.pass_frames_steps.specs.flow_solver.Paths.{IsListed}
use Rattle.pass_frames_steps.specs.ir_base.declared.outcome.Outcome.{Outcome}
use Rattle.pass_frames_steps.proofs.ir_laws.facts.Members.{each_turns}
use Rattle.pass_frames_steps.proofs.ir_laws.facts.Truth.{equal_numbers}
use Rattle.pass_frames_steps.specs.ir_model.Ty.{Ty, int, ptr}
use Rattle.pass_frames_steps.specs.ir_model.declared.instr.Instr.{Instr}
use Rattle.pass_frames_steps.specs.ir_model.declared.operand.Operand.{Operand}
use Rattle.pass_frames_steps.specs.pass_cells.Kept.{entry, value_types}
use Rattle.pass_frames_steps.specs.pass_cells.Links.{bases_of, slots_of}
use Rattle.pass_frames_steps.specs.pass_cells.Moves.{again_values}
use Rattle.pass_frames_steps.specs.pass_cells.Written.{row_at, stored_phis}
use Rattle.pass_frames_steps.specs.pass_cells.declared.plan.KeptValue.{KeptValue}
use Rattle.pass_frames_steps.specs.pass_copies.BeginCopies.{puts}
use Rattle.pass_frames_steps.specs.pass_copies.declared.slot.EarlySlot.{EarlySlot}
use Rattle.pass_frames_steps.specs.pass_fetch.Fetching.{value_bytes}
use Rattle.pass_frames_steps.specs.pass_frames.Framed.{begin_of}
use Rattle.pass_frames_steps.specs.pass_frames.Tables.{offset_at}
use Rattle.pass_frames_steps.proofs.agains.Rows.{loaded_again}
use Rattle.pass_frames_steps.proofs.code.Names.{Count, F, First, Kept, keeping, local}
use Rattle.pass_frames_steps.proofs.followed.Assembly.{other_instance}
use Rattle.pass_frames_proof.proofs.from_edges.Agains.{quiet_value, row_quiet}
use Rattle.pass_frames_proof.proofs.from_edges.Puts.{ArePlaced, ArePutThere, puts_are, puts_code, puts_run}
use Rattle.pass_frames_proof.proofs.from_edges.Through.{cells_through}
use Rattle.pass_frames_steps.proofs.layers.Grown.{grown_append}
use Rattle.pass_frames_steps.proofs.led.Steps.{fills_elsewhere}
use Rattle.pass_frames_steps.proofs.led.Through.{through_joined}
use Rattle.pass_frames_steps.proofs.lines.Cells.{cell_has, cell_stays, contained, other_block}
use Rattle.pass_frames_steps.proofs.lines.Filled.{elsewhere_apart, others_stay, worlds_stand}
use Rattle.pass_frames_steps.proofs.lines.Names.{distance_of}
use Rattle.pass_frames_steps.proofs.lines.Results.{kept_is_cell}
use Rattle.pass_frames_steps.proofs.lines.Rows.{crossing_listed, field_placed}
use Rattle.pass_frames_steps.proofs.saving.Left.{not_free}
use Rattle.pass_frames_steps.proofs.stepping.May.{coroutine_values, own_blocks}
use Rattle.pass_frames_steps.proofs.stepping.Names.{cell_is_name, named_written, slots_new, where_is_name, edged_named}
use Rattle.pass_frames_steps.proofs.stepping.Operands.{asked}
use Rattle.pass_frames_steps.specs.Agains.{LoadsValues, MayLoadAgain}
use Rattle.pass_frames_steps.specs.Code.{addressed, front_code, front_moves}
use Rattle.pass_frames_steps.specs.Entry.{cells_of}
use Rattle.pass_frames_steps.specs.Framings.{IsFraming}
use Rattle.pass_frames_steps.specs.FromEdges.{IsAtReturn, IsCellMove, IsEarlyInFrame, IsFrontDone, IsOnCells, address_name, again_name, agains_line, slots_line}
use Rattle.pass_frames_steps.specs.Layers.{grown}
use Rattle.pass_frames_steps.specs.Led.{IsNotSet, RunsThrough}
use Rattle.pass_frames_steps.specs.Lines.{AreAway, AreElsewhere, HasOwnBlocks, IsCellOf, at_work}
use Rattle.pass_frames_steps.specs.Passes.{block_at}
use Rattle.pass_frames_steps.specs.Places.{Framing, addressing_layer, copies, edged, named, plan, written}
use Rattle.pass_frames_steps.specs.Related.{Anything, AreBuiltOf, AreCellsThere, AreCoroutines, AreFieldsRight, AreGone, AreInstances, AreMade, AreWheresRight, AreWheresThere, Building, HasCells, HasFields, IsCell, IsCellName, IsFreeOf, IsKeptAs, IsKeptValue, IsWhere, instance_in, is_coroutine, returned_from}
use Rattle.pass_frames_steps.specs.Saves.{HoldsField}
use Rattle.pass_frames_steps.specs.Stepping.{AreGiven, IsNotEntering}
use Rattle.pass_frames_steps.proofs.pass_proofs.cells.rules.Plans.{kept_as, kept_at}
use Rattle.pass_frames_steps.specs.pass_renewed_proof.Renewed.{RenewedGiven}
use Rattle.pass_frames_steps.specs.run_framed.Framed.{frame_rights, framed_context}
use Rattle.pass_frames_steps.proofs.run_laws.memory.Itself.{owner_rights_fit}
use Rattle.pass_frames_steps.specs.run_laws.access.Accessed.{Span}
use Rattle.pass_frames_steps.specs.run_laws.access.Lines.{pointer_at}
use Rattle.pass_frames_steps.specs.run_laws.changed.Changed.{Each}
use Rattle.pass_frames_steps.specs.run_laws.memory.Pointers.{Home, IsValue}
use Rattle.pass_frames_steps.specs.run_laws.memory.Standing.{AreByteRights, IsAway}
use Rattle.pass_frames_steps.specs.run_laws.transfer.Muted.{muted}
use Rattle.pass_frames_steps.specs.run_laws.transfer.Transfer.{AreOver, muted_world}
use Rattle.pass_frames_steps.proofs.run_access_worked.run_laws_worked.Frames.{frame_rights_fit}
use Rattle.pass_frames_steps.specs.run_memory.Memory.{Rights, is_live, owner_rights}
use Rattle.pass_frames_steps.specs.run_memory.Pointers.{moved, offset_of}
use Rattle.pass_frames_steps.specs.run_memory.declared.block.MemoryBlock.{MemoryBlock}
use Rattle.pass_frames_steps.specs.run_memory.declared.pointer.Pointer.{Pointer}
use Rattle.pass_frames_steps.specs.run_memory.declared.pointer.Value.{Value}
use Rattle.pass_frames_steps.specs.run_source.State.{work_of}
use Rattle.pass_frames_steps.specs.run_source.declared.state.Instance.{Instance}
use Rattle.pass_frames_steps.specs.run_source.declared.state.Mode.{Mode}
use Rattle.pass_frames_steps.specs.run_source.declared.state.State.{State}
use Rattle.pass_frames_steps.specs.run_step.Step.{Context, Work}
use Rattle.pass_frames_steps.specs.run_step.Values.{value_in}
use Rattle.pass_frames_steps.specs.run_step.declared.world.Slot.{Slot}
use Rattle.pass_frames_steps.specs.run_step.declared.world.World.{World}
use Rattle.pass_frames_steps.specs.pass_cells.Written.{entry_front as cells_front}
use Rattle.pass_frames_steps.specs.pass_copies.BeginCopies.{entry_front as copies_front}

-- ---- lists

pub listed_contains : {A : Type 0} (xs : List A) (x : A) → IsListed x xs → Contains xs x
listed_contains [] x l = absurd l
listed_contains (y ∷ xs) x (inl e) = (0, omega arith, sym e)
listed_contains (y ∷ xs) x (inr l) =
    let z = listed_contains xs x l in let lt = z.1 in (suc z.0, omega (arith, lt), z.2)

each_listed : {A : Type 0} (P : A → Type 0) (xs : List A) → ((x : A) → IsListed x xs → P x) → Each P xs
each_listed P [] h = tt
each_listed P (x ∷ xs) h = (h x (inl refl), each_listed P xs (λ y l. h y (inr l)))

cell_of_slot : (ss : List EarlySlot) (cell : ℕ) → IsListed cell (cells_of ss)
    → (z : EarlySlot) × IsListed z ss × (cell ≡ z.cell)
cell_of_slot [] cell l = absurd l
cell_of_slot (z ∷ ss) cell (inl e) = (z, inl refl, e)
cell_of_slot (z ∷ ss) cell (inr l) = let q = cell_of_slot ss cell l in (q.0, inr q.1, q.2)

-- a kept name has a kept value
pub kept_there : (x : Framing) → IsFraming x → (v at : ℕ) → entry (plan x).places v ≡ Some at
    → (k : KeptValue) × IsKeptValue x v k
kept_there x is v at told =
    let slots : List (Option ℕ) = slots_of (local x is) (bases_of (edged x)) in
    let types : List Ty = value_types (F x is) (Kept x is) in
    let here : slice_get (Kept x is).values at ≡ Some v = (keeping x is).there v at told in (
      kept_as (First x is) (Count x is) types (plan x).cells slots at v,
      record {
        number = at;
        told = told;
        there = kept_at (First x is) (Count x is) types (plan x).cells slots (Kept x is).values at v here;
      },
    )

module _ (b : Building) (g : RenewedGiven) (given : AreGiven b g) (s t : State) (r : AreBuiltOf b s t)
    (label order : ℕ)
    (h : IsAtReturn b s label order) where
  abbrev pub x : Framing
  x = b.framing s.top.func

  abbrev pub R : Rights
  R = frame_rights b.given t.instances

  abbrev pub d : Context
  d = framed_context b.given t

  pub is : IsFraming x
  is = given.framings s.top.func h.coroutine

  abbrev pub k : ℕ
  k = s.top.block

  abbrev pub row : List ℕ
  row = row_at (plan x).rows (Some order)

  abbrev pub ss : List EarlySlot
  ss = (copies x).slots

  abbrev pub n : ℕ
  n = again_name x k

  abbrev pub m : ℕ
  m = address_name x k

  abbrev pub first_line : List Instr
  first_line = slots_line x k m ss

  abbrev pub second_line : List Instr
  second_line = agains_line x k n (m + length ss) row

  -- ---- the instance

  abbrev pub number : ℕ
  number = h.instance.number

  abbrev pub p : Instance
  p = h.instance.instance

  pub beside : (y : Instance) × (slice_get t.instances number ≡ Some y) × AreInstances b r.homes t p y
  beside = other_instance b s t r number p h.instance.there

  abbrev pub y : Instance
  y = beside.0

  own_is : instance_in t.instances t.top.instance ≡ Some y
  own_is = ap (instance_in t.instances) (r.top.instance ∙ h.instance.own) ∙ beside.1

  -- ---- what holds where the block is entered

  pub old : AreCoroutines x r.homes R t s.top t.top
  old = coroutine_values b r.homes R t s.top t.top (is_coroutine b s.top.func) h.coroutine r.top.values

  returned_is : (mode : Mode) → IsNotEntering mode → returned_from x s.top mode ≡ Some order
  returned_is Mode.Plain q = ap (λ (z : Bool). if z then entry (plan x).returns (block_at (edged x) k).label else None)
      h.returned ∙ h.behind
  returned_is Mode.Ramp q = ap (λ (z : Bool). if z then entry (plan x).returns (block_at (edged x) k).label else None)
      h.returned ∙ h.behind
  returned_is (Mode.GivenRamp frame) q = ap (λ (z : Bool). if z then entry (plan x).returns (block_at
      (edged x) k).label else None) h.returned ∙ h.behind
  returned_is Mode.Resumed q = ap
      (λ (z : Bool). if z then entry (plan x).returns (block_at (edged x) k).label else None)
      h.returned ∙ h.behind
  returned_is (Mode.Entering from to) q = absurd q

  right_fields : (mode : Mode) → IsNotEntering mode
      → HasFields x r.homes R t.world.memory order s.top.values y.block y.start mode
      → AreFieldsRight x r.homes R t.world.memory order s.top.values y.block y.start
  right_fields Mode.Plain q f = f
  right_fields Mode.Ramp q f = f
  right_fields (Mode.GivenRamp frame) q f = f
  right_fields Mode.Resumed q f = f
  right_fields (Mode.Entering from to) q f = absurd q

  has : HasFields x r.homes R t.world.memory order s.top.values y.block y.start s.top.mode
      × AreGone x order s.top.values
  has =
      subst (λ (o : Option Instance). HasCells x r.homes R t.world.memory o s.top t.top (Some order)) own_is
      (subst (λ (o : Option ℕ). HasCells x r.homes R t.world.memory
      (instance_in t.instances t.top.instance) s.top t.top o)
      (returned_is s.top.mode h.mode) old.cells)

  fields : AreFieldsRight x r.homes R t.world.memory order s.top.values y.block y.start
  fields = right_fields s.top.mode h.mode has.0

  made_is : (mode : Mode) → IsNotEntering mode → AreMade x R t.world.memory t.top mode
      → AreCellsThere x R t.world.memory t.top × AreWheresThere x R t.world.memory t.top
  made_is Mode.Plain q f = f
  made_is Mode.Ramp q f = f
  made_is (Mode.GivenRamp frame) q f = f
  made_is Mode.Resumed q f = f
  made_is (Mode.Entering from to) q f = absurd q

  there : AreCellsThere x R t.world.memory t.top × AreWheresThere x R t.world.memory t.top
  there = made_is s.top.mode h.mode old.made

  begun : value_in t.top.values (begin_of x.function) ≡ pointer_at y.block y.start
  begun =
      let v = subst (λ (u : Value). IsValue r.homes u (value_in t.top.values (begin_of x.function)))
      h.instance.begun
      (old.names.each (begin_of x.function) (asked x s.top s.top.mode (begin_of x.function) h.mode) h.begin.unkept
      h.begin.outside) in
      v.1
      ∙ ap (λ (q : Home). Value.Ptr (Pointer.At q.block (moved (offset_of p.start) q.offset))) beside.2.block
      ∙ ap (λ (o : ℕ). pointer_at y.block o) (small p.start h.instance.small ∙ sym beside.2.start)
    where
      small : (o : ℕ) → o < 2 ^ 64 → (o + 0) % 2 ^ 64 ≡ o
      small o lt = omega (arith, lt)

  pub free : (slot : Slot) → Contains t.top.slots slot → IsCellName x slot.alloca
      → IsFreeOf r.homes r.hides s.world.memory slot.block
  free slot listed name =
      r.cells.0 (subst (λ (q : ℕ). is_coroutine b q ≡ true) (sym r.top.func) h.coroutine) slot listed
      (subst (λ (q : ℕ). IsCellName (b.framing q) slot.alloca) (sym r.top.func) name)

  running : t.outcome ≡ Outcome.Running
  running = r.outcome ∙ h.runs

  apart : (e : ℕ) → IsFreeOf r.homes r.hides s.world.memory e → e ≡ y.block → ⊥
  apart =
      not_free b s t r given.framings number p y h.instance.there beside.2 h.instance.running h.instance.alone running

  edged_low : length (edged x).names ≤ n
  edged_low =
      let a : length (edged x).names ≤ length (named x).names = edged_named x in
      let e = h.names.low in
      omega (arith, a, e)

  named_high : n ≤ m
  named_high = let e = h.names.addresses in omega (arith, e)

  begin_low : begin_of x.function < n
  begin_low = let a = edged_low in let e = h.begin.low in omega (arith, a, e)

  pub fits : AreByteRights R
  fits = frame_rights_fit b.given t.instances

  pub own_there : HasOwnBlocks t.top
  own_there = own_blocks t r.once

  wide : m + length ss + length row ≤ length t.top.values
  wide = subst (λ (q : ℕ). m + length ss + length row ≤ q) (sym old.names.room) h.names.room

  -- ---- the addresses of slots

  pub early : Each (IsEarlyInFrame x y.start) ss
  early = subst (λ (q : ℕ). Each (IsEarlyInFrame x q) ss) (sym beside.2.start) h.early

  all_slots_are : (P : EarlySlot → Type 0) → ((z : EarlySlot) → Contains ss z → P z) → Each P ss
  all_slots_are P one = each_listed P ss (λ z l. one z (listed_contains ss z l))

  abbrev pub code : List Instr
  code = puts_code x k y.start m ss early

  pub puts_there : ArePutThere x k d fits t.top own_there y.block y.start (work_of t) m code ss early
  puts_there =
      puts_run x k d fits t.top own_there y.block y.start ss (work_of t) m early h.once begun
      (let a = begin_low in let e = named_high in omega (arith, a, e)) (let e = wide in omega (arith, e))
      (all_slots_are (λ (z : EarlySlot). z.cell < m) (λ z l. (h.names.slots z l).1.1))
      (all_slots_are (λ (z : EarlySlot). IsCell R t.world.memory (at_work t.top (work_of t)) z.cell ptr Anything)
      (λ z l. there.1.each z l))

  abbrev pub w1 : Work
  w1 = puts_there.work

  -- where these cells lie
  abbrev pub InWhere : Span → Type 0
  InWhere z =
      (cell : ℕ) × IsListed cell (cells_of ss) × Contains t.top.slots (record { alloca = cell; block = z.block })

  where_name : (cell : ℕ) → IsListed cell (cells_of ss) → IsCellName x cell × (length (written x).names ≤ cell)
  where_name cell l =
      let z = cell_of_slot ss cell l in
      subst (λ (q : ℕ). IsCellName x q × (length (written x).names ≤ q)) (sym z.2)
      (where_is_name x z.0 (listed_contains ss z.0 z.1), (slots_new x z.0 (listed_contains ss z.0 z.1)).1)

  -- a cell of a value or of a distance lies in another block
  value_apart : (cell block : ℕ) → cell < length (named x).names
      → Contains t.top.slots (record { alloca = cell; block = block }) → AreElsewhere block puts_there.spans
  value_apart cell block lt own =
      each_turns InWhere (λ (z : Span). z.block ≢ block)
      (λ z q. other_block t.top q.0 cell z.block block own_there q.2 own
      (λ e. let high : length (written x).names ≤ q.0 = (where_name q.0 q.1).1 in
      let long : length (named x).names ≤ length (written x).names = named_written x in
      omega (arith, high, long, lt, e))) puts_there.spans puts_there.inside

  named_low : (u : ℕ) → u < length (named x).names → u < m
  named_low u lt = let a = h.names.low in let e = named_high in omega (arith, lt, a, e)

  there1 : AreCellsThere x R w1.world.memory (at_work t.top w1)
  there1 = record {
    values = λ v q kept.
        let c = there.0.values v q kept in
        cell_stays R fits puts_there.spans t.world.memory w1.world.memory t.top (work_of t) w1 q.cell q.ty Anything
        puts_there.over.fills c (value_apart q.cell c.block (kept_is_cell x is v q kept).1 c.own)
        (puts_there.over.others q.cell (named_low q.cell (kept_is_cell x is v q kept).1));
    distances = λ v cell told.
        let c = there.0.distances v cell told in
        cell_stays R fits puts_there.spans t.world.memory w1.world.memory t.top (work_of t) w1 cell (int 64) Anything
        puts_there.over.fills c (value_apart cell c.block (distance_of x is v cell told).1 c.own)
        (puts_there.over.others cell (named_low cell (distance_of x is v cell told).1));
  }

  -- ---- what crosses

  frame_apart : AreElsewhere y.block puts_there.spans
  frame_apart =
      each_turns InWhere (λ (z : Span). z.block ≢ y.block)
      (λ z q e. apart z.block
      (free (record { alloca = q.0; block = z.block }) q.2 (where_name q.0 q.1).0) e) puts_there.spans
      puts_there.inside

  field_there : (v : ℕ) (q : KeptValue) → (kept : IsKeptValue x v q) → IsListed kept.number row
      → HoldsField x R w1.world.memory y.block y.start q (IsKeptAs r.homes s.top.values v q q.slot)
  field_there v q kept l =
      let z = h.row v q kept l in
      let f = fields.each v z.position q kept z.crosses z.placed in
      record {
        offset = offset_at x.layout z.position;
        told = field_placed x is v z.position q kept z.placed;
        near = subst (λ (o : ℕ). o + offset_at x.layout z.position < 2 ^ 64) (sym beside.2.start) z.near;
        bytes = f.0;
        sized = f.1;
        holds = others_stay R fits puts_there.spans t.world.memory w1.world.memory y.block
            (y.start + offset_at x.layout z.position) (value_bytes q.field_ty) f.0 puts_there.over.fills
            (elsewhere_apart y.block (y.start + offset_at x.layout z.position)
            (length f.0) puts_there.spans frame_apart)
            f.2;
        has = f.3;
      }

  gone : (v : ℕ) (q : KeptValue) → (kept : IsKeptValue x v q)
      → IsListed kept.number row ⊎ (value_in s.top.values v ≡ Value.Poison)
  gone v q kept =
      ⊎_elim (λ crosses. inl (crossing_listed x is v order q kept crosses h.low)) (λ e. inr e)
      (has.1.values v q kept)

  no_links : (v cell : ℕ) → entry (plan x).cells v ≡ Some cell
      → ((q : KeptValue) × (kept : IsKeptValue x v q) × IsListed kept.number row)
      ⊎ (value_in s.top.values v ≡ Value.Poison)
  no_links v cell told = on (entry (plan x).places v) refl
    where
      on : (o : Option ℕ) → entry (plan x).places v ≡ o
          → ((q : KeptValue) × (kept : IsKeptValue x v q) × IsListed kept.number row)
          ⊎ (value_in s.top.values v ≡ Value.Poison)
      on None e = inr (has.1.links v cell told e)
      on (Some at) e =
          let z = kept_there x is v at e in
          ⊎_elim (λ l. inl (z.0, z.1, l)) (λ e. inr e) (gone v z.0 z.1)

  may : MayLoadAgain x r.homes d w1 t.top s.top.values y.block y.start n (m + length ss) row
  may = record {
    begun = puts_there.over.others (begin_of x.function)
        (let a = begin_low in let e = named_high in omega (arith, a, e))
        ∙ begun;
    begin_old = begin_low;
    room = let e = h.names.addresses in omega (arith, e);
    long = let e = wide in let f = puts_there.over.room in omega (arith, e, f);
    own = own_there;
    elsewhere = λ slot listed of. apart slot.block (free slot listed (cell_is_name x slot.alloca of));
    storable = h.storable;
    cells = there1;
    fields = field_there;
    slots = λ v slot q kept e.
        let z = h.local v slot q kept e in
        let a = edged_low in
        let f = named_high in
        let lt : slot < length (edged x).names = z.low in (
          omega (arith, lt, a),
          subst (IsValue r.homes (value_in s.top.values slot))
              (sym (puts_there.over.others slot (omega (arith, lt, a, f))))
              (old.names.each slot (asked x s.top s.top.mode slot h.mode) z.unkept z.outside),
        );
    pointers = λ v slot q kept e. (h.local v slot q kept e).pointer;
    gone = gone;
    no_links = no_links;
  }

  pub loads : LoadsValues x r.homes d w1 t.top s.top.values k n (m + length ss) row
  loads = loaded_again x is r.homes d fits s.top.values t.top w1 y.block y.start k n
      (m + length ss) row h.names.low may

  abbrev pub w : Work
  w = loads.work

  -- ---- on the way

  abbrev pub On : Work → Type 0
  On u = IsOnCells x t.top (work_of t) u

  put_moves : (zs : List EarlySlot) (q : ℕ) (f : Each (IsEarlyInFrame x y.start) zs) → m ≤ q
      → Each (λ (z : EarlySlot). Contains ss z) zs
      → Each (λ (j : Instr). IsCellMove x t.top (work_of t) m j) (puts_code x k y.start q zs f)
  put_moves [] q f le l = tt
  put_moves (z ∷ zs) q f le l =
      let c = there.1.each z l.0 in (
        inl (record {
          still = tt;
          high = λ u e. let same : Some q ≡ Some u = e in let one : q ≡ u = cc in
              omega (arith, le, one);
        }),
        (
          inr (record {
            arg = record { ty = ptr; value = Operand.Local q };
            cell = z.cell;
            align = 8;
            block = c.block;
            is = refl;
            name = where_is_name x z l.0;
            low = (h.names.slots z l.0).1.1;
            own = c.own;
            leads = c.address;
          }),
          put_moves zs (q + 1) f.1 (omega (arith, le)) l.1,
        ),
      )

  first_through : RunsThrough d On code (work_of t) w1
  first_through =
      cells_through x t d m (work_of t) code (put_moves ss m early (omega arith)
      (all_slots_are (λ (z : EarlySlot). Contains ss z) (λ z l. l))) (work_of t) w1 (λ v lt. refl)
      (record { events = refl; spares = λ e none. refl }) puts_there.over.runs

  first_on : On w1
  first_on = record {
    events = ap (λ (q : World). q.events) puts_there.over.world;
    spares = λ e none.
        fills_elsewhere R puts_there.spans t.world.memory w1.world.memory e puts_there.over.fills
        (each_turns InWhere (λ (z : Span). z.block ≡ e → ⊥)
        (λ z q. none (record { alloca = q.0; block = z.block }) q.2 (where_name q.0 q.1).0) puts_there.spans
        puts_there.inside);
  }

  abbrev pub last_name : ℕ
  last_name = n + 2 * length row

  quiet : Each (λ (j : Instr). IsCellMove x t.top w1 n j × ((u : ℕ) → last_name ≤ u → u < m + length ss
      → IsNotSet u j)) second_line
  quiet =
      row_quiet x is R t.top w1 there1 n last_name (m + length ss) h.names.low k
      (let e = h.names.addresses in omega (arith, e)) row n (m + length ss) (omega arith) (omega arith) (omega arith)
      (λ v q kept l. let f = field_there v q kept l in (f.offset, f.told))

  second_through : RunsThrough d On second_line w1 w
  second_through =
      cells_through x t d n w1 second_line
      (each_turns (λ (j : Instr). IsCellMove x t.top w1 n j × ((u : ℕ) → last_name ≤ u → u < m + length ss
      → IsNotSet u j)) (λ (j : Instr). IsCellMove x t.top w1 n j) (λ j q. q.0) second_line quiet) w1 w (λ v lt. refl)
      first_on loads.over.runs

  abbrev pub InCells : Span → Type 0
  InCells z = (cell : ℕ) × IsCellOf x cell × Contains t.top.slots (record { alloca = cell; block = z.block })

  last_on : On w
  last_on = record {
    events = ap (λ (q : World). q.events) loads.over.world ∙ first_on.events;
    spares = λ e none.
        fills_elsewhere R loads.spans w1.world.memory w.world.memory e loads.over.fills
        (each_turns InCells (λ (z : Span). z.block ≡ e → ⊥)
        (λ z q. none (record { alloca = q.0; block = z.block }) q.2 (cell_is_name x q.0 q.1)) loads.spans loads.inside)
        ∙ first_on.spares e none;
  }

  -- ---- the memories

  abbrev pub AwayFrom : List Span → Type 0
  AwayFrom spans = AreAway owner_rights r.homes (muted r.hides s.world.memory) spans

  away_one : (z : Span) → ((cell : ℕ) × IsCellName x cell × Contains t.top.slots (record {
    alloca = cell;
    block =
        z.block;
  })) → (e : ℕ) (q : MemoryBlock) → slice_get (muted r.hides s.world.memory) e ≡ Some q
      → is_live q.life ≡ true → IsAway owner_rights r.homes e q z.block z.offset z.len
  away_one z c e q at live same =
      absurd (free (record { alloca = c.0; block = z.block }) c.2 c.1 e q at (inr live) same)

  over1 : AreOver owner_rights R r.homes r.hides (λ q. q) s.world w1.world
  over1 =
      subst (λ (u : World). AreOver owner_rights R r.homes r.hides (λ q. q) s.world u) (sym puts_there.over.world)
      (worlds_stand owner_rights R owner_rights_fit fits r.homes (λ q. q) (muted_world r.hides s.world) t.world
      puts_there.spans w1.world.memory puts_there.over.fills
      (each_turns InWhere (λ (z : Span). (e : ℕ) (q : MemoryBlock) → slice_get (muted r.hides s.world.memory) e
      ≡ Some q → is_live q.life ≡ true → IsAway owner_rights r.homes e q z.block z.offset z.len)
      (λ z q. away_one z (q.0, (where_name q.0 q.1).0, q.2)) puts_there.spans puts_there.inside) r.world)

  over2 : AreOver owner_rights R r.homes r.hides (λ q. q) s.world w.world
  over2 =
      subst (λ (u : World). AreOver owner_rights R r.homes r.hides (λ q. q) s.world u) (sym loads.over.world)
      (worlds_stand owner_rights R owner_rights_fit fits r.homes (λ q. q) (muted_world r.hides s.world) w1.world
      loads.spans w.world.memory loads.over.fills
      (each_turns InCells (λ (z : Span). (e : ℕ) (q : MemoryBlock) → slice_get (muted r.hides s.world.memory) e
      ≡ Some q → is_live q.life ≡ true → IsAway owner_rights r.homes e q z.block z.offset z.len)
      (λ z q. away_one z (q.0, cell_is_name x q.0 q.1, q.2)) loads.spans loads.inside) over1)

  -- ---- cells of addresses

  placed_at : (zs : List EarlySlot) (f : Each (IsEarlyInFrame x y.start) zs)
      → ArePlaced x k d fits t.top own_there y.block y.start w1 zs f → (z : EarlySlot) → IsListed z zs
      → (e : IsEarlyInFrame x y.start z)
      × IsCell R w1.world.memory (at_work t.top w1) z.cell ptr
      (λ (v : Value). v ≡ pointer_at y.block (y.start + e.offset))
  placed_at [] f q z l = absurd l
  placed_at (a ∷ zs) f q z (inl e) =
      subst (λ (c : EarlySlot). (e : IsEarlyInFrame x y.start c)
      × IsCell R w1.world.memory (at_work t.top w1) c.cell ptr
      (λ (v : Value). v ≡ pointer_at y.block (y.start + e.offset))) (sym e) (f.0, q.0)
  placed_at (a ∷ zs) f q z (inr l) = placed_at zs f.1 q.1 z l

  stays_between : (u : ℕ) → last_name ≤ u → u < m → value_in w.values u ≡ value_in t.top.values u
  stays_between u lo hi =
      quiet_value x t.top w1 n d u second_line w1 w
      (each_turns (λ (j : Instr). IsCellMove x t.top w1 n j × ((v : ℕ) → last_name ≤ v → v < m + length ss
      → IsNotSet v j)) (λ (j : Instr). IsCellMove x t.top w1 n j × IsNotSet u j)
      (λ j q. (q.0, q.1 u lo (omega (arith, hi)))) second_line quiet) loads.over.runs
      ∙ puts_there.over.others u hi

  wheres_there : AreWheresRight x R w.world.memory (Some y) (at_work t.top w)
  wheres_there = record {
    each = λ z l.
        let one = placed_at ss early puts_there.placed z (contained ss z l) in
        let q = h.names.slots z l in
        cell_has R w.world.memory (at_work t.top w) z.cell ptr
        (λ (v : Value). v ≡ pointer_at y.block (y.start + one.0.offset)) (IsWhere (Some y) x (at_work t.top w) z)
        (λ v e. (one.0.position, one.0.placed, e ∙ ap (λ (o : ℕ). pointer_at y.block (y.start + o)) one.0.same))
        (cell_stays R fits loads.spans w1.world.memory w.world.memory t.top w1 w z.cell ptr
        (λ (v : Value). v ≡ pointer_at y.block (y.start + one.0.offset)) loads.over.fills one.1
        (each_turns InCells (λ (p : Span). p.block ≢ one.1.block)
        (λ p c. other_block t.top c.0 z.cell p.block one.1.block own_there c.2 one.1.own
        (λ e. let lt : c.0 < length (named x).names = c.1.1 in
        let high : length (written x).names ≤ z.cell = (slots_new x z l).1 in
        let long : length (named x).names ≤ length (written x).names = named_written x in
        omega (arith, lt, high, long, e))) loads.spans loads.inside)
        (quiet_value x t.top w1 n d z.cell second_line w1 w
        (each_turns (λ (j : Instr). IsCellMove x t.top w1 n j × ((v : ℕ) → last_name ≤ v → v < m + length ss
        → IsNotSet v j)) (λ (j : Instr). IsCellMove x t.top w1 n j × IsNotSet z.cell j)
        (λ j c. (c.0, c.1 z.cell q.0.1 (let e = q.1.1 in omega (arith, e)))) second_line quiet) loads.over.runs));
  }

  -- ---- all of it

  pub front_done : IsFrontDone b s t r.homes r.hides (first_line ++ second_line)
  front_done = record {
    work = w;
    runs = through_joined d On first_line second_line (work_of t) w1 w
        (subst (λ (js : List Instr). RunsThrough d On js (work_of t) w1) (sym (puts_are x k y.start m ss early).0)
        first_through) second_through;
    last = last_on;
    low = λ u lt.
        loads.over.others u (let a = h.names.low in omega (arith, lt, a))
        ∙ puts_there.over.others u (named_low u lt);
    wheres = λ z l. let q = h.names.slots z l in
        (stays_between z.cell q.0.1 q.1.1, stays_between z.temporary q.0.0 q.1.0);
    room = loads.over.room ∙ puts_there.over.room;
    over = over2;
    right = loads.cells;
    places = subst (λ (o : Option Instance). AreWheresRight x R w.world.memory o (at_work t.top w)) (sym own_is)
        wheres_there;
  }

  -- the line is the front of the block
  not_entry : (q : Bool) → (k == 0) ≡ q → q ≡ false
  not_entry false e = refl
  not_entry true e = absurd (h.later (equal_numbers k 0 e))

  moves_are : front_moves x k ≡ puts ss ++ again_values (plan x).kept n row
  moves_are =
      (λ i. ((if not_entry (k == 0) refl i then copies_front ss else [])
      ++ (if h.resumed i then puts ss else []))
      ++ (((if not_entry (k == 0) refl i then cells_front (plan x) (edged x).params else [])
      ++ again_values (plan x).kept n (h.again i)) ++ stored_phis (plan x) (h.no_phis i)))
      ∙ ap (λ (js : List Instr). puts ss ++ js) (append-nil (again_values (plan x).kept n row))

  pub front_is_line : front_code x k ≡ first_line ++ second_line
  front_is_line =
      ap (addressed x k (m, tt)) moves_are
      ∙ grown_append (addressing_layer x k) (m, tt) (puts ss) (again_values (plan x).kept n row)
      ∙ ap (λ (st : ℕ × Unit {0}). first_line ++ grown (addressing_layer x k) st (again_values (plan x).kept n row))
      (puts_are x k y.start m ss early).1
