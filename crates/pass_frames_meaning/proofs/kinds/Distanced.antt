-- A getelementptr of a coroutine whose distance is kept is followed.
use Rattle.std.proofs.Common.{◌≡◌, ◌≢◌, ◌⊎◌, inl, inr, ℕ, ◌+◌, ◌≤◌, Bool, true, List, [], ◌∷◌, length, Option, Some, None, refl, sym, ap, ◌∙◌, subst, arith, if◌then◌else◌, ◌&&◌}
use Rattle.std.specs.Prelude.{slice_get}
use Rattle.std.specs.List.{list_all}
use Rattle.std.proofs.lemmas.Bool.{and_parts}
use Rattle.pass_frames_proof.specs.flow_solver.Paths.{IsListed}
use Rattle.pass_frames_proof.specs.ir_base.declared.outcome.Outcome.{Outcome}
use Rattle.pass_frames_proof.proofs.ir_laws.facts.Members.{each_turns}
use Rattle.pass_frames_proof.proofs.ir_laws.facts.Truth.{itself}
use Rattle.pass_frames_proof.specs.ir_model.Names.{function_at}
use Rattle.pass_frames_proof.specs.ir_model.Ty.{Ty, int}
use Rattle.pass_frames_proof.specs.ir_model.declared.instr.Instr.{Instr}
use Rattle.pass_frames_proof.specs.ir_model.declared.module.Function.{Function}
use Rattle.pass_frames_proof.specs.ir_model.declared.operand.Arg.{Arg}
use Rattle.pass_frames_proof.specs.ir_model.declared.operand.Operand.{Operand}
use Rattle.pass_frames_proof.specs.ir_parts.Contents.{arg_operands}
use Rattle.pass_frames_proof.specs.ir_paths.Slots.{allocas_of}
use Rattle.pass_frames_proof.specs.pass_addresses.Placing.{slot_fetches}
use Rattle.pass_frames_proof.specs.pass_cells.Cells.{fetches_of}
use Rattle.pass_frames_proof.specs.pass_cells.Kept.{entry}
use Rattle.pass_frames_proof.specs.pass_cells.Written.{after_distance_into, cell_of, distance_from}
use Rattle.pass_frames_proof.specs.pass_distances.Sums.{distance_next}
use Rattle.pass_frames_proof.specs.pass_distances.Ways.{ways_of}
use Rattle.pass_frames_proof.specs.pass_fetch.Fetching.{fetch_of, fetched_args, next_after, next_after_all, next_by, operand_by}
use Rattle.pass_frames_proof.specs.pass_fetch.declared.fetch.Fetch.{Fetch}
use Rattle.pass_frames_proof.specs.pass_frames.Framed.{begin_of}
use Rattle.pass_frames_meaning.proofs.coroutines.Steps.{done_by, may_stand, storable}
use Rattle.pass_frames_meaning.proofs.kinds.Bases.{GoesOn, base_low, base_of, bases, goes_on, no_alloca_base, root_flagged, root_listed}
use Rattle.pass_frames_meaning.proofs.kinds.Before.{alloca_before}
use Rattle.pass_frames_meaning.proofs.kinds.Entry.{in_entry}
use Rattle.pass_frames_meaning.proofs.kinds.Unkept.{outside_entry, outside_name, unfetched_entry}
use Rattle.pass_frames_meaning.proofs.kinds.Ways.{fields_loaded, ways_below, ways_same}
use Rattle.pass_frames_meaning.proofs.kinds.Writing.{loads_to, write_low, write_to}
use Rattle.pass_frames_meaning.proofs.ordinary.Standing.{fetch_ready}
use Rattle.pass_frames_meaning.proofs.others.Names.{alloca_apart, no_root, result_low}
use Rattle.pass_frames_meaning.proofs.others.Returns.{instr_in}
use Rattle.pass_frames_meaning.proofs.others.Unlocated.{unaccessed}
use Rattle.pass_frames_meaning.specs.Coroutines.{IsUnlocatedHere, MayFollow}
use Rattle.pass_frames_meaning.specs.Kinds.{AreSlotsMade, KeepsKinds}
use Rattle.pass_frames_meaning.specs.Setting.{AreOfRuns, KeepsAll, Setting}
use Rattle.pass_frames_proof.proofs.agains.Lines.{root_unfetched}
use Rattle.pass_frames_proof.proofs.code.Names.{number_left}
use Rattle.pass_frames_proof.proofs.distanced.Steps.{measured_followed as distanced_followed}
use Rattle.pass_frames_proof.proofs.distances.Apart.{has_root}
use Rattle.pass_frames_proof.proofs.stepping.Codes.{instr_there}
use Rattle.pass_frames_proof.proofs.stepping.Names.{edged_named}
use Rattle.pass_frames_proof.specs.Code.{load_name, write_name}
use Rattle.pass_frames_proof.specs.Distanced.{IsAtDistanced, IsOutside}
use Rattle.pass_frames_proof.specs.Distances.{IsBelow}
use Rattle.pass_frames_proof.specs.Followed.{IsFollowed}
use Rattle.pass_frames_proof.specs.Framings.{IsFraming}
use Rattle.pass_frames_proof.specs.Geps.{GoesOnFrom, IsNotName, loaded_indices}
use Rattle.pass_frames_proof.specs.Operands.{IsAtFetch}
use Rattle.pass_frames_proof.specs.Places.{Framing, Placed, edged, instrs_at, named, offsets, plan, written}
use Rattle.pass_frames_proof.specs.Related.{AreBuiltOf, is_coroutine, root_of}
use Rattle.pass_frames_proof.specs.Stepping.{IsNotEntering, state_in}
use Rattle.pass_frames_proof.proofs.pass_proofs.fetch.rules.Puts.{fetch_rises}
use Rattle.pass_frames_proof.specs.pass_renewed_proof.Renewed.{renewed_step}
use Rattle.pass_frames_proof.specs.rule_values.Fits.{fits, fits_integer, fits_kind, is_integer}
use Rattle.pass_frames_proof.specs.rule_values.Kinds.{value_kind}
use Rattle.pass_frames_proof.specs.rule_values.declared.kinds.Kind.{Kind}
use Rattle.pass_frames_proof.specs.run_agreement.Machines.{IsFine}
use Rattle.pass_frames_proof.proofs.run_laws.changed.Kept.{distance_kept}
use Rattle.pass_frames_proof.specs.run_laws.changed.Changed.{Each}
use Rattle.pass_frames_proof.specs.run_source.Source.{context_of}
use Rattle.pass_frames_proof.specs.run_source.State.{function_of, work_of}
use Rattle.pass_frames_proof.specs.run_source.declared.state.State.{State}
use Rattle.pass_frames_proof.specs.run_step.Step.{AtInstr, Done, Work, fetch, instr_action}
use Rattle.pass_frames_proof.specs.run_step.Values.{pointer_to, value_in}

-- ---- indices

-- an index is an integer, so it is another name than a pointer's
module _ (x : Framing) (is : IsFraming x) (r : ℕ) (pointer : value_kind (edged x) r ≡ Some Kind.Ptr) where
  number_other : (v w : ℕ) → value_kind (edged x) v ≡ Some (Kind.Int w) → v ≢ r
  number_other v w e same =
      let both : Some (Kind.Int w) ≡ Some Kind.Ptr = sym e ∙ ap (value_kind (edged x)) same ∙ pointer in absurd (cc)

  number_outside : (v w : ℕ) → value_kind (edged x) v ≡ Some (Kind.Int w) → entry (offsets x) v ≡ None
  number_outside v w e = unfetched_entry (begin_of x.function) (offsets x) v (number_left x is v w e).0

  index_kind : (ty : Ty) (v : ℕ) → (is_integer ty && fits_kind (value_kind (edged x) v) ty) ≡ true
      → (w : ℕ) × (value_kind (edged x) v ≡ Some (Kind.Int w))
  index_kind (int w) v e = on (value_kind (edged x) v) refl e
    where
      on : (o : Option Kind) → value_kind (edged x) v ≡ o → fits_kind o (int w) ≡ true
          → (u : ℕ) × (value_kind (edged x) v ≡ Some (Kind.Int u))
      on (Some (Kind.Int u)) d h = (u, d)
      on _ d h = absurd (cc)
  index_kind _ v e = absurd (cc)

  index_outside : (ty : Ty) (y : Operand) → (is_integer ty && fits (value_kind (edged x)) ty y) ≡ true
      → IsOutside x y × IsNotName r y
  index_outside ty (Operand.Local v) e =
      let k = index_kind ty v e in (number_outside v k.0 k.1, number_other v k.0 k.1)
  index_outside ty _ e = (tt, tt)

  indices_outside : (args : List Arg) → list_all (fits_integer (value_kind (edged x))) args ≡ true
      → Each (IsOutside x) (arg_operands args) × Each (IsNotName r) (arg_operands args)
  indices_outside [] e = (tt, tt)
  indices_outside (a ∷ args) e =
      let z = and_parts (fits_integer (value_kind (edged x)) a) (list_all (fits_integer (value_kind (edged x))) args) e in
      let one = index_outside a.ty a.value z.0 in
      let more = indices_outside args z.1 in
      ((one.0, more.0), (one.1, more.1))

-- loaded indices use names up to the next new one
module _ (t : List (Option Fetch)) (top : ℕ) where
  loaded_below : (n : ℕ) (args : List Arg) → next_after_all t n (arg_operands args) ≤ top
      → Each (IsBelow top) (arg_operands args) → Each (IsBelow top) (arg_operands (fetched_args t n args))
  loaded_below n [] le h = tt
  loaded_below n (a ∷ args) le h = (
    one (fetch_of t a.value) refl,
    loaded_below (next_after t n a.value) args le h.1,
  )
    where
      up : next_after t n a.value ≤ next_after_all t (next_after t n a.value) (arg_operands args)
      up = fetch_rises t (next_after t n a.value) (arg_operands args)

      one : (o : Option Fetch) → fetch_of t a.value ≡ o → IsBelow top (operand_by n (fetch_of t a.value) a.value)
      one None e = subst (λ (o : Option Fetch). IsBelow top (operand_by n o a.value)) (sym e) h.0
      one (Some f) e =
          subst (λ (o : Option Fetch). IsBelow top (operand_by n o a.value)) (sym e)
          (let next : next_after t n a.value ≡ n + 1
          = ap (λ (o : Option Fetch). next_by n o) e in
          let more = up in
          omega (arith, next, more, le))

module _ (c : Setting) (all : KeepsAll c) (kinds : KeepsKinds c) (s t : State) (r : AreBuiltOf c.b s t)
    (k : AreOfRuns c s t r) (runs : s.outcome ≡ Outcome.Running) (fine : IsFine (renewed_step c.g s).outcome)
    (coroutine : is_coroutine c.b s.top.func ≡ true) (mode : IsNotEntering s.top.mode) (o : MayFollow c s)
    (made : AreSlotsMade c s) (name : ℕ) (inbounds : Bool) (ty : Ty) (base : Operand) (indices : List Arg) (cell : ℕ)
    (there : fetch (function_of c.g.given s) s.top.block s.top.at
    ≡ AtInstr (Instr.Gep name inbounds ty base indices))
    (told : entry (plan (c.b.framing s.top.func)).cells name ≡ Some cell) where
  abbrev x : Framing
  x = c.b.framing s.top.func

  abbrev f : Function
  f = function_at c.g.given.code s.top.func

  is : IsFraming x
  is = all.given.framings s.top.func coroutine

  same : f ≡ edged x
  same = all.given.coroutines s.top.func coroutine

  abbrev st : Placed
  st = state_in x s.top.block s.top.at

  abbrev T : List (Option Fetch)
  T = fetches_of (plan x)

  stands : slice_get (instrs_at x s.top.block) s.top.at ≡ Some (Instr.Gep name inbounds ty base indices)
  stands = instr_in x f same s.top.block s.top.at (Instr.Gep name inbounds ty base indices) there

  -- ---- its root and its base

  root : (slot : ℕ) × (root_of x name ≡ Some slot)
  root = has_root x is name cell told

  from : (u : ℕ) × (base ≡ Operand.Local u) × (entry (bases x is) name ≡ Some u)
  from = base_of x is s.top.block s.top.at name inbounds ty base indices stands root.0 root.1

  goes : GoesOn x is name root.0 from.0
  goes = goes_on x is name cell root.0 from.0 told root.1 from.2

  abbrev i : Instr
  i = Instr.Gep name inbounds ty (Operand.Local from.0) indices

  i_is : Instr.Gep name inbounds ty base indices ≡ i
  i_is = ap (λ (y : Operand). Instr.Gep name inbounds ty y indices) from.1

  here : fetch f s.top.block s.top.at ≡ AtInstr i
  here = there ∙ ap AtInstr i_is

  stands_here : slice_get (instrs_at x s.top.block) s.top.at ≡ Some i
  stands_here = stands ∙ ap Some i_is

  slot_alloca : IsListed root.0 (allocas_of (edged x))
  slot_alloca = root_listed x is name root.0 root.1

  goes_from : GoesOnFrom x s.top.values root.0 from.0 (distance_from (plan x) name)
  goes_from = on goes.from
    where
      distance : distance_from (plan x) name ≡ entry (plan x).cells from.0
      distance = ap (cell_of (plan x).cells) from.2

      flagged : c.g.flags s.top.func root.0 ≡ true
      flagged = kinds.anew s.top.func root.0 coroutine ∙ root_flagged x is name root.0 root.1

      has_address : from.0 ≡ root.0 → (block : ℕ) × (value_in s.top.values root.0 ≡ pointer_to block)
      has_address e =
          let a = in_entry x is root.0 slot_alloca in
          made.each root.0 a.at a.align a.ty
          (ap (λ (g : Function). fetch g 0 a.at) same
          ∙ instr_there (edged x) 0 a.at (Instr.Alloca root.0 a.ty a.align) a.there)
          flagged
          (λ first. alloca_before x is root.0 a.at a.align a.ty a.there s.top.at i
          (ap (λ (b : ℕ). slice_get (instrs_at x b) s.top.at) (sym first) ∙ stands_here) (inl (sym e)))

      on : ((from.0 ≡ root.0) × (entry (plan x).cells from.0 ≡ None))
          ⊎ ((d : ℕ) × (entry (plan x).cells from.0 ≡ Some d) × (root_of x from.0 ≡ Some root.0))
          → GoesOnFrom x s.top.values root.0 from.0 (distance_from (plan x) name)
      on (inl z) =
          subst (GoesOnFrom x s.top.values root.0 from.0) (sym (distance ∙ z.1)) (z.0, has_address z.0)
      on (inr z) = subst (GoesOnFrom x s.top.values root.0 from.0) (sym (distance ∙ z.1)) (z.1, z.2)

  -- ---- kinds of names

  pointer : value_kind (edged x) name ≡ Some Kind.Ptr
  pointer =
      ap (λ (g : Function). value_kind g name) (sym same)
      ∙ (all.types s.top.func).given s.top.block s.top.at name i Kind.Ptr here
      (ap (λ (b : Bool). if b then Some Kind.Ptr else None) (itself name))

  integers : list_all (fits_integer (value_kind (edged x))) indices ≡ true
  integers =
      ap (λ (g : Function). list_all (fits_integer (value_kind g)) indices) (sym same)
      ∙ (and_parts (list_all (fits_integer (value_kind f)) indices) _
      (and_parts _ _ ((all.types s.top.func).instrs s.top.block s.top.at i here)).1).0

  indices_are : Each (IsOutside x) (arg_operands indices) × Each (IsNotName name) (arg_operands indices)
  indices_are = indices_outside x is name pointer indices integers

  base_outside : entry (offsets x) from.0 ≡ None
  base_outside = on goes.from
    where
      on : ((from.0 ≡ root.0) × (entry (plan x).cells from.0 ≡ None))
          ⊎ ((d : ℕ) × (entry (plan x).cells from.0 ≡ Some d) × (root_of x from.0 ≡ Some root.0))
          → entry (offsets x) from.0 ≡ None
      on (inl z) =
          unfetched_entry (begin_of x.function) (offsets x) from.0
          (ap (λ (v : ℕ). fetch_of (slot_fetches (begin_of x.function) (offsets x)) (Operand.Local v)) z.0
          ∙ root_unfetched x is name root.0 root.1)
      on (inr z) =
          outside_entry (offsets x) from.0
          (outside_name x is from.0 (λ l. no_alloca_base x is from.0 root.0 z.2 l) (base_low x is from.0 root.0 z.2))

  -- ---- names

  unlocated : IsUnlocatedHere c s i
  unlocated = unaccessed x st i refl

  fetched : IsAtFetch c.b s i
  fetched = fetch_ready c all s k.sound coroutine mode i here tt
      (may_stand c all s t r k runs fine coroutine mode o i here refl tt unlocated)

  -- the names of loads are below those of what is written
  loads_low : next_after_all T (next_after T (load_name st) (Operand.Local from.0)) (arg_operands indices) ≤ write_name st
  loads_low =
      let a = loads_to x is s.top.block s.top.at i stands_here in
      let b = write_low x is s.top.block s.top.at in
      omega (arith, a, b)

  rises : load_name st ≤ next_after_all T (next_after T (load_name st) (Operand.Local from.0)) (arg_operands indices)
  rises = fetch_rises T (load_name st) (Operand.Local from.0 ∷ arg_operands indices)

  low_there : (y : Operand) → IsBelow (length (edged x).names) y → IsBelow (write_name st) y
  low_there (Operand.Local v) lt =
      let a : length (edged x).names ≤ length (named x).names = edged_named x in
      let b : length (named x).names ≤ load_name st = fetched.order.low in
      let d = rises in
      let e = loads_low in
      omega (arith, lt, a, b, d, e)
  low_there _ lt = tt

  written_to : distance_next (write_name st) (ways_of x.code ty (loaded_indices x (load_name st) from.0 indices))
      ≤ length (written x).names
  written_to =
      subst (λ (q : Option ℕ). after_distance_into x.code (write_name st) q ty
      (loaded_indices x (load_name st) from.0 indices) ≤ length (written x).names) told
      (write_to x is s.top.block s.top.at i stands_here)

  at_distanced : (v : Work) → instr_action (context_of c.g.given s) (work_of s) i ≡ Done v
      → IsAtDistanced c.b c.g s name inbounds ty from.0 indices cell root.0 v
  at_distanced v does = record {
    runs = runs;
    at = fetched;
    does = does;
    unlocated = unlocated;
    outside = (base_outside, indices_are.0);
    result = record {
      low = result_low x is s.top.block s.top.at name i stands_here refl;
      no_root = no_root x is s.top.block s.top.at i stands_here name refl tt;
    };
    told = told;
    root = root.1;
    from = goes_from;
    not_itself = (goes.other, indices_are.1);
    storable = λ kept is_kept. storable c all s t r k runs fine coroutine mode o i here refl v does name kept is_kept;
    fields = all.fields s.top.func s.top.block s.top.at i here;
    loaded_fields = fields_loaded c.g.given.code c.b.framed_code all.same_types T
        (next_after T (load_name st) (Operand.Local from.0)) ty indices
        (all.fields s.top.func s.top.block s.top.at i here);
    same = distance_kept c.g.given.code c.b.framed_code all.same_types;
    ways = ways_same x.code c.b.framed_code (all.same_types ∙ sym (kinds.types s.top.func coroutine)) ty
        (loaded_indices x (load_name st) from.0 indices);
    below = ways_below x.code (write_name st) ty (loaded_indices x (load_name st) from.0 indices)
        (loaded_below T (write_name st) (next_after T (load_name st) (Operand.Local from.0)) indices loads_low
        (each_turns (IsBelow (length (edged x).names)) (IsBelow (write_name st)) low_there (arg_operands indices)
        fetched.below.1));
    later = let a = rises in let b = loads_low in omega (arith, a, b);
    room = written_to;
    allocas = λ at u align of e. (
      result_low x is 0 at u (Instr.Alloca u of align) e refl,
      λ e2. alloca_apart x is s.top.block s.top.at i stands_here name refl tt 0 at align of
          (subst (λ (v : ℕ). slice_get (instrs_at x 0) at ≡ Some (Instr.Alloca v of align)) e2 e),
    );
  }

  pub measured_followed : IsFollowed c.b c.g s t
  measured_followed =
      done_by c all s t r k runs fine coroutine mode o i here refl tt
      (λ v does. distanced_followed c.b c.g all.given s t r name inbounds ty from.0 indices cell root.0 v
      (at_distanced v does))
