-- What is seen of an operand in the framed run, over loads and addresses, stands for what the source has.
use Rattle.std.proofs.Common.{◌≡◌, ⊎_elim, ℕ, ◌+◌, ◌%◌, ◌^◌, ◌<◌, ◌≤◌, true, false, List, [], length, refl, sym, ap, ◌∙◌, subst, arith}
use Rattle.std.proofs.lemmas.Option.{slice_get-map}
use Rattle.std.specs.List.{Contains}
use Rattle.std.specs.Prelude.{ℤ, None, Option, Some, option_map, slice_get, unwrap_or, not}
use Rattle.pass_proofs.specs.frame_contents.Held.{position_of}
use Rattle.pass_proofs.specs.ir_base.declared.name.Name.{Name}
use Rattle.pass_proofs.specs.ir_model.Names.{declaration_named, first_where, function_named, global_named, same_name}
use Rattle.pass_proofs.specs.ir_model.Ty.{Ty, array, int, named as named_type, ptr, structure, token}
use Rattle.pass_proofs.specs.ir_model.declared.module.GlobalItem.{GlobalItem}
use Rattle.pass_proofs.specs.ir_model.declared.module.Module.{Module}
use Rattle.pass_proofs.specs.ir_model.declared.operand.Operand.{Operand}
use Rattle.pass_proofs.proofs.ir_tables.Tables.{first_where-within}
use Rattle.pass_proofs.specs.pass_addresses.Placing.{is_none}
use Rattle.pass_proofs.specs.pass_cells.Cells.{fetch_by, fetch_for, fetches_of}
use Rattle.pass_proofs.specs.pass_cells.Kept.{entry, joined, value_types}
use Rattle.pass_proofs.specs.pass_cells.Links.{bases_of, slots_of}
use Rattle.pass_proofs.specs.pass_cells.declared.plan.KeptValue.{KeptValue}
use Rattle.pass_proofs.specs.pass_fetch.Fetching.{fetch_at, fetch_of}
use Rattle.pass_proofs.specs.pass_fetch.declared.fetch.Fetch.{Fetch}
use Rattle.pass_proofs.specs.pass_frames.Framed.{begin_of}
use Rattle.pass_proofs.specs.pass_frames.Tables.{offset_at}
use Rattle.pass_frames_code.proofs.code.Left.{fetch_found}
use Rattle.pass_frames_code.proofs.code.Names.{Count, F, First, Kept, keeping, local}
use Rattle.pass_frames_code.proofs.followed.Assembly.{other_instance}
use Rattle.pass_frames_code.proofs.lines.Loads.{loaded_stands}
use Rattle.pass_frames_code.proofs.reached.Slots.{address_stands, can_reach}
use Rattle.pass_frames_code.specs.Code.{slot_table}
use Rattle.pass_frames_code.specs.Fetched.{CanFetch, seen_by}
use Rattle.pass_frames_code.specs.Framings.{IsFraming}
use Rattle.pass_frames_code.specs.Led.{IsTwiceFor, twice_by}
use Rattle.pass_frames_code.specs.Lines.{at_work}
use Rattle.pass_frames_code.specs.Loaded.{loaded_value}
use Rattle.pass_frames_code.specs.Places.{Framing, edged, offsets, plan}
use Rattle.pass_frames_code.specs.Reached.{address_in_frame}
use Rattle.pass_frames_code.specs.Related.{AreBuiltOf, AreCellsRight, AreInstances, AreNamed, Building, IsAsked, instance_in}
use Rattle.pass_frames_code.specs.Stepping.{AreOffsetsPlaced, IsBeginPlain, IsNotEntering, IsPlacedOperand, IsSlotOf}
use Rattle.pass_proofs.proofs.cells.rules.Planned.{fetch_there}
use Rattle.pass_proofs.proofs.cells.rules.Plans.{kept_as, kept_at}
use Rattle.pass_proofs.specs.addresses.rules.Addresses.{lies_in_frame}
use Rattle.pass_proofs.specs.run_laws.access.Lines.{pointer_at}
use Rattle.pass_proofs.specs.run_laws.embedded.Making.{whole_home}
use Rattle.pass_proofs.specs.run_laws.memory.Pointers.{Home, IsValue, home_of}
use Rattle.pass_proofs.specs.run_memory.Pointers.{moved, offset_of}
use Rattle.pass_proofs.specs.run_memory.declared.pointer.Pointer.{Pointer}
use Rattle.pass_proofs.specs.run_memory.declared.pointer.Value.{Value}
use Rattle.pass_proofs.specs.run_source.State.{address_in, work_of}
use Rattle.pass_proofs.specs.run_source.declared.state.Activation.{Activation}
use Rattle.pass_proofs.specs.run_source.declared.state.Instance.{Instance}
use Rattle.pass_proofs.specs.run_source.declared.state.Mode.{Mode}
use Rattle.pass_proofs.specs.run_source.declared.state.State.{State}
use Rattle.pass_proofs.specs.run_step.Step.{Context}
use Rattle.pass_proofs.specs.run_step.Values.{Env, address_from, address_of, literal, operand_value, pointer_to, value_in}
use Rattle.pass_proofs.specs.run_step.declared.world.Slot.{Slot}

-- ---- operands that are no locals

literal_itself : (homes : List Home) (ty : Ty) (z : ℤ) → IsValue homes (literal ty z) (literal ty z)
literal_itself homes (int w) z = refl
literal_itself homes ptr z = tt
literal_itself homes token z = tt
literal_itself homes (array n t) z = tt
literal_itself homes (structure ts) z = tt
literal_itself homes (named_type n) z = tt

-- the address of a block that stands whole at its own number stands for itself
pub block_itself : (homes : List Home) (k : ℕ) → home_of homes k ≡ whole_home k
    → IsValue homes (pointer_to k) (pointer_to k)
block_itself homes k home = (
  ap (λ (h : Home). h.is_seen) home,
  ap (λ (h : Home). Value.Ptr (Pointer.At h.block (moved (offset_of 0) h.offset))) (sym home),
)

-- modules with the same names of functions, globals and declarations
pub record AreSameNames (m n : Module) : Type 0 where
  pub functions : (name : Name) → function_named n name ≡ function_named m name
  pub declarations : (name : Name) → declaration_named n name ≡ declaration_named m name
  pub globals : n.globals ≡ m.globals
  pub count : length n.functions ≡ length m.functions

abbrev address_by_names : ℕ → Option ℕ → Option ℕ → Option ℕ → Value
address_by_names count (Some f) g d = Value.Ptr (Pointer.Func f)
address_by_names count None (Some g) d = pointer_to g
address_by_names count None None (Some d) = Value.Ptr (Pointer.Func (count + d))
address_by_names count None None None = Value.Poison

is_by_names : (k : Module) (f g d : Option ℕ) → address_from k f g d ≡ address_by_names (length k.functions) f g d
is_by_names k (Some f) g d = refl
is_by_names k None (Some g) d = refl
is_by_names k None None (Some d) = refl
is_by_names k None None None = refl

module _ (m n : Module) (same : AreSameNames m n) where
  same_global : (name : Name) → global_named n name ≡ global_named m name
  same_global name =
      ap (λ (gs : List GlobalItem). first_where (λ (x : GlobalItem). same_name x.name name) gs) same.globals

  pub same_address : (name : Name) → address_of n name ≡ address_of m name
  same_address name =
      is_by_names n (function_named n name) (global_named n name) (declaration_named n name)
      ∙ (λ i. address_by_names (same.count i) (same.functions name i) (same_global name i) (same.declarations name i))
      ∙ sym (is_by_names m (function_named m name) (global_named m name) (declaration_named m name))

  -- a constant is the same in both
  pub empty_same : (o : Operand) (ty : Ty) → operand_value n [] ty o ≡ operand_value m [] ty o
  empty_same (Operand.Local v) ty = refl
  empty_same (Operand.Global name) ty = same_address name
  empty_same (Operand.Number z) ty = refl
  empty_same Operand.True ty = refl
  empty_same Operand.False ty = refl
  empty_same Operand.Null ty = refl
  empty_same Operand.None ty = refl
  empty_same Operand.Poison ty = refl

module _ (homes : List Home) (m n : Module) (same : AreSameNames m n)
    (stand : (k : ℕ) → k < length n.globals → home_of homes k ≡ whole_home k) where
  address_stands_itself : (name : Name) → IsValue homes (address_of n name) (address_of n name)
  address_stands_itself name = on (function_named n name) (global_named n name) (declaration_named n name) refl
    where
      on : (f g d : Option ℕ) → global_named n name ≡ g
          → IsValue homes (address_from n f g d) (address_from n f g d)
      on (Some f) g d e = (tt, refl)
      on None (Some k) d e = block_itself homes k
          (stand k (first_where-within (λ (x : GlobalItem). same_name x.name name) n.globals k (sym e)))
      on None None (Some d) e = (tt, refl)
      on None None None e = tt

  pub other_stands : (env other : Env) (o : Operand) → ((v : ℕ) → o ≡ Operand.Local v → ⊥) → (ty : Ty)
      → IsValue homes (operand_value m env ty o) (operand_value n other ty o)
  other_stands env other (Operand.Local v) none ty = absurd (none v refl)
  other_stands env other (Operand.Global name) none ty =
      subst (λ (v : Value). IsValue homes v (address_of n name)) (same_address m n same name) (address_stands_itself name)
  other_stands env other (Operand.Number z) none ty = literal_itself homes ty z
  other_stands env other Operand.True none ty = refl
  other_stands env other Operand.False none ty = refl
  other_stands env other Operand.Null none ty = (tt, refl)
  other_stands env other Operand.None none ty = tt
  other_stands env other Operand.Poison none ty = tt

-- ---- tables

joined_or : (o : Option (Option ℕ)) → unwrap_or o None ≡ joined o
joined_or None = refl
joined_or (Some o) = refl

pub outside_not : (x : Framing) (v : ℕ) → entry (offsets x) v ≡ None → lies_in_frame (offsets x) v ≡ false
outside_not x v e =
    ap (λ (o : Option ℕ). not (is_none o)) (joined_or (slice_get (offsets x) v) ∙ e)

-- an address is made of what lies in the frame
pub slot_fetch : (x : Framing) (v : ℕ)
    → fetch_of (slot_table x) (Operand.Local v) ≡ option_map (Fetch.Address (begin_of x.function)) (entry
    (offsets x) v)
slot_fetch x v =
    ap fetch_at (slice_get-map (option_map (Fetch.Address (begin_of x.function))) (offsets x) v)
    ∙ on (slice_get (offsets x) v)
  where
    on : (o : Option (Option ℕ))
        → fetch_at (option_map (option_map (Fetch.Address (begin_of x.function))) o)
        ≡ option_map (Fetch.Address (begin_of x.function)) (joined o)
    on None = refl
    on (Some None) = refl
    on (Some (Some d)) = refl

-- what isn't loaded isn't kept
pub not_kept : (x : Framing) → IsFraming x → (u : ℕ) → fetch_of (fetches_of (plan x)) (Operand.Local u) ≡ None
    → entry (plan x).places u ≡ None
not_kept x is u e = on (entry (plan x).places u) refl
  where
    by : (at : ℕ) → entry (plan x).places u ≡ Some at → (o : Option KeptValue) → slice_get (plan x).kept at ≡ o
        → entry (plan x).places u ≡ None
    by at told (Some k) there =
        let no : None ≡ Some (Fetch.Load k.ty k.cell) =
        sym e ∙ fetch_there (plan x).kept (plan x).places u ∙ ap (fetch_for (plan x).kept) told ∙ ap fetch_by there in
        absurd (cc)
    by at told None there =
        let slots : List (Option ℕ) = slots_of (local x is) (bases_of (edged x)) in
        let types : List Ty = value_types (F x is) (Kept x is) in
        let here : slice_get (Kept x is).values at ≡ Some u = (keeping x is).there u at told in
        let no : None ≡ Some (kept_as (First x is) (Count x is) types (plan x).cells slots at u) =
        sym there ∙ kept_at (First x is) (Count x is) types (plan x).cells slots (Kept x is).values at u here in
        absurd (cc)

    on : (o : Option ℕ) → entry (plan x).places u ≡ o → entry (plan x).places u ≡ None
    on None told = told
    on (Some at) told = by at told (slice_get (plan x).kept at) refl

-- ---- an operand

pub asked : (x : Framing) (a : Activation) (mode : Mode) (v : ℕ) → IsNotEntering mode → IsAsked x a mode v
asked x a Mode.Plain v h = tt
asked x a Mode.Ramp v h = tt
asked x a (Mode.GivenRamp frame) v h = tt
asked x a Mode.Resumed v h = tt
asked x a (Mode.Entering from label) v h = absurd h

-- the address of a slot in the frame of an instance
abbrev pub slot_address : Framing → Option Instance → ℕ → Value
slot_address x None v = Value.Poison
slot_address x (Some y) v = address_in_frame x y.block y.start v

module _ (b : Building) (s t : State) (r : AreBuiltOf b s t) (x : Framing) (is : IsFraming x)
    (framing_is : (func : ℕ) → func ≡ s.top.func → b.framing func ≡ x) (mode : IsNotEntering s.top.mode)
    (names : AreNamed x r.homes s.top t.top) (plain : IsBeginPlain x) (placed : AreOffsetsPlaced x)
    (c d : Context) (right : AreCellsRight x r.homes d.rights t.world.memory s.top.values (at_work t.top (work_of t)))
    (n : ℕ) (low : length (edged x).names ≤ n)
    (others : (o : Operand) → ((v : ℕ) → o ≡ Operand.Local v → ⊥) → (ty : Ty)
    → IsValue r.homes (operand_value c.code s.top.values ty o) (operand_value d.code t.top.values ty o)) where
  abbrev own : Option Instance
  own = instance_in t.instances t.top.instance

  abbrev T : List (Option Fetch)
  T = fetches_of (plan x)

  -- what the framed run has of the instance of a slot
  record IsFound (v e : ℕ) (z : IsSlotOf x s v e) : Type 0 where
    beside : Instance
    is_own : own ≡ Some beside
    instances : AreInstances b r.homes t z.instance beside
    begun : value_in t.top.values (begin_of x.function) ≡ pointer_at beside.block beside.start

  module _ (v e : ℕ) (z : IsSlotOf x s v e) where
    other : (y : Instance) × (slice_get t.instances z.number ≡ Some y) × AreInstances b r.homes t z.instance y
    other = other_instance b s t r z.number z.instance z.there

    moved_home : (y : Instance) → AreInstances b r.homes t z.instance y
        → IsValue r.homes (address_in z.instance.block z.instance.start) (value_in t.top.values (begin_of x.function))
        → value_in t.top.values (begin_of x.function) ≡ pointer_at y.block y.start
    moved_home y i h =
        h.1
        ∙ ap (λ (q : Home). Value.Ptr (Pointer.At q.block (moved (offset_of z.instance.start) q.offset))) i.block
        ∙ ap (λ (k : ℕ). pointer_at y.block k) (small z.instance.start e z.near ∙ sym i.start)
      where
        small : (k e : ℕ) → k + e < 2 ^ 64 → (k + 0) % 2 ^ 64 ≡ k
        small k e near = omega (arith, near)

    found : IsFound v e z
    found = record {
      beside = other.0;
      is_own = ap (instance_in t.instances) (r.top.instance ∙ z.own) ∙ other.1;
      instances = other.2;
      begun = moved_home other.0 other.2
          (subst (λ (u : Value). IsValue r.homes u (value_in t.top.values (begin_of x.function))) z.begun
          (names.each (begin_of x.function) (asked x s.top s.top.mode (begin_of x.function) mode) plain.unkept
          plain.outside));
    }

    near_there : found.beside.start + e < 2 ^ 64
    near_there = subst (λ (k : ℕ). k + e < 2 ^ 64) (sym found.instances.start) z.near

    -- its address stands for the source's
    slot_stands : entry (offsets x) v ≡ Some e → IsValue r.homes (value_in s.top.values v) (slot_address x own v)
    slot_stands told =
        subst (λ (o : Option Instance). IsValue r.homes (value_in s.top.values v) (slot_address x o v))
        (sym found.is_own) (⊎_elim
        (λ none. subst (λ (u : Value). IsValue r.homes u (address_in_frame x found.beside.block found.beside.start v))
        (sym none) tt) by_slot z.leads)
      where
        by_slot : (slot : Slot) × Contains z.instance.slots slot × (slot.alloca ≡ v)
            × (value_in s.top.values v ≡ pointer_to slot.block)
            → IsValue r.homes (value_in s.top.values v)
            (address_in_frame x found.beside.block found.beside.start v)
        by_slot k =
            let p = found.instances.slots k.0 k.1 in
            let same : b.framing z.instance.coroutine ≡ x = framing_is z.instance.coroutine z.coroutine in
            address_stands x r.homes s.top.values found.beside.block found.beside.start v k.0.block e told k.3
            (subst
            (λ (o : ℕ). home_of r.homes k.0.block
            ≡ record { block = found.beside.block; offset = found.beside.start + o; is_seen = true })
            (ap (λ (y : Framing). offset_at y.layout p.position) same
            ∙ sym (placed.each v e p.position told
            (subst (λ (u : ℕ). position_of x.contents.held u ≡ Some p.position) k.2
            (subst (λ (y : Framing). position_of y.contents.held k.0.alloca ≡ Some p.position) same p.position_is))))
            p.home)
            near_there

    slot_reached : entry (offsets x) v ≡ Some e
        → CanFetch (slot_table x) (slot_address x own) n d (work_of t) (Operand.Local v)
    slot_reached told =
        subst (λ (o : Option Instance). CanFetch (slot_table x) (slot_address x o) n d (work_of t) (Operand.Local v))
        (sym found.is_own)
        (can_reach x d (work_of t) found.beside.block found.beside.start n v found.begun (omega
        (arith, plain.low, low))
        near_all)
      where
        near_all : (o : ℕ) → entry (offsets x) v ≡ Some o → found.beside.start + o < 2 ^ 64
        near_all o other =
            let same : Some e ≡ Some o = sym told ∙ other in
            let one : e ≡ o = cc in
            subst (λ (k : ℕ). found.beside.start + k < 2 ^ 64) one near_there

  -- ---- what is seen

  pub can_more : (o : Operand) → IsPlacedOperand x s o → CanFetch (slot_table x) (slot_address x own) n d (work_of t) o
  can_more (Operand.Local v) h = on (entry (offsets x) v) refl
    where
      on : (o : Option ℕ) → entry (offsets x) v ≡ o
          → CanFetch (slot_table x) (slot_address x own) n d (work_of t) (Operand.Local v)
      on None e = λ f k. let no = sym (slot_fetch x v ∙ ap (option_map (Fetch.Address (begin_of x.function))) e) ∙ k in
          absurd (cc)
      on (Some e) told = slot_reached v e (h e told) told
  can_more _ h = tt

  abbrev IsSeen : Operand → Type 0
  IsSeen o = IsTwiceFor r.homes T (slot_table x) (loaded_value x d (work_of t)) (slot_address x own) c d (work_of s)
      (work_of t) o

  seen_local : (v : ℕ) → IsPlacedOperand x s (Operand.Local v) → IsSeen (Operand.Local v)
  seen_local v h ty = on (fetch_of T (Operand.Local v)) refl
    where
      unloaded : entry (plan x).places v ≡ None → (o : Option ℕ) → entry (offsets x) v ≡ o
          → IsValue r.homes (value_in s.top.values v)
          (seen_by (slot_address x own) d (work_of t) ty (Operand.Local v)
          (option_map (Fetch.Address (begin_of x.function)) o))
      unloaded unkept (Some e) told = slot_stands v e (h e told) told
      unloaded unkept None told =
          names.each v (asked x s.top s.top.mode v mode) unkept (outside_not x v told)

      on : (o : Option Fetch) → fetch_of T (Operand.Local v) ≡ o
          → IsValue r.homes (value_in s.top.values v)
          (twice_by (slot_table x) (loaded_value x d (work_of t)) (slot_address x own) d (work_of t) ty
          (Operand.Local v) o)
      on (Some f) e =
          let z = fetch_found x is v f e in
          loaded_stands x is r.homes d s.top.values t.top (work_of t) right v z.kept
          (record { number = z.at; told = z.told; there = z.there })
      on None e =
          subst
          (λ (f : Option Fetch). IsValue r.homes (value_in s.top.values v)
          (seen_by (slot_address x own) d (work_of t) ty (Operand.Local v) f)) (sym (slot_fetch x v))
          (unloaded (not_kept x is v e) (entry (offsets x) v) refl)

  pub seen_one : (o : Operand) → IsPlacedOperand x s o → IsSeen o
  seen_one (Operand.Local v) h = seen_local v h
  seen_one (Operand.Global name) h = others (Operand.Global name) (λ v e. absurd (cc))
  seen_one (Operand.Number z) h = others (Operand.Number z) (λ v e. absurd (cc))
  seen_one Operand.True h = others Operand.True (λ v e. absurd (cc))
  seen_one Operand.False h = others Operand.False (λ v e. absurd (cc))
  seen_one Operand.Null h = others Operand.Null (λ v e. absurd (cc))
  seen_one Operand.None h = others Operand.None (λ v e. absurd (cc))
  seen_one Operand.Poison h = others Operand.Poison (λ v e. absurd (cc))
