-- A getelementptr whose distance is kept is an ordinary step, behind which its distance is right too.
use Rattle.std.proofs.Common.{◌≡◌, inl, inr, ⊎_elim, ℕ, ◌<◌, ◌≤◌, Bool, List, ◌∷◌, ◌++◌, length, refl, sym, ap, ◌∙◌, subst, arith}
use Rattle.std.specs.List.{Contains}
use Rattle.std.specs.Prelude.{None, Option, Some, slice_get, ◌≢◌}
use Rattle.pass_proofs.proofs.ir_laws.facts.Members.{each_turns}
use Rattle.pass_proofs.specs.ir_model.Ty.{Ty, ptr}
use Rattle.pass_proofs.specs.ir_model.declared.instr.Instr.{Instr}
use Rattle.pass_proofs.specs.ir_model.declared.operand.Arg.{Arg}
use Rattle.pass_proofs.specs.ir_model.declared.operand.Operand.{Operand}
use Rattle.pass_proofs.specs.ir_parts.Contents.{instr_operands}
use Rattle.pass_proofs.specs.pass_cells.Cells.{fetches_of}
use Rattle.pass_proofs.specs.pass_cells.Written.{distance_from, distance_into, stored}
use Rattle.pass_proofs.specs.pass_distances.Sums.{distance_instrs}
use Rattle.pass_proofs.specs.pass_distances.Ways.{ways_of}
use Rattle.pass_proofs.specs.pass_fetch.Fetching.{fetch_of, fetched_operand, fetches_of_all, next_after, next_by}
use Rattle.pass_proofs.specs.pass_fetch.Instrs.{with_fetched}
use Rattle.pass_proofs.specs.pass_fetch.declared.fetch.Fetch.{Fetch}
use Rattle.pass_frames_code.proofs.distances.Indices.{same_distance}
use Rattle.pass_frames_code.proofs.distances.Measured.{distance_measured}
use Rattle.pass_frames_code.proofs.geps.Moved.{IsAddress, IsElement, args_stand, args_still_stand, is_element}
use Rattle.pass_frames_code.proofs.led.Steps.{fills_elsewhere}
use Rattle.pass_frames_code.proofs.lines.Names.{names_are}
use Rattle.pass_frames_code.proofs.lines.Stored.{set_or_none}
use Rattle.pass_frames_code.proofs.ordinary.Behind.{GoesBehind, done_is, done_over, done_work, over_line, result_behind, values_set}
use Rattle.pass_frames_code.proofs.ordinary.Made.{first, made}
use Rattle.pass_frames_code.proofs.ordinary.Operands.{may_make, seen_all}
use Rattle.pass_frames_code.specs.Fetched.{AreFetched, AreSeenAs}
use Rattle.pass_frames_code.specs.Framings.{IsFraming}
use Rattle.pass_frames_code.specs.Geps.{GoesOnFrom, MayMove, Moves, loaded_indices}
use Rattle.pass_frames_code.specs.Led.{SparesBlocks}
use Rattle.pass_frames_code.specs.Lines.{AreInCells, Fills, IsCellOf, LeavesCellsBut}
use Rattle.pass_frames_code.specs.Loaded.{loaded_value}
use Rattle.pass_frames_code.specs.Measured.{AreArgsStanding, IsBase, IsMoved, Measures}
use Rattle.pass_frames_code.specs.Ordinary.{IsResultName, MayBeMade}
use Rattle.pass_frames_code.specs.Places.{Framing, edged, named, plan}
use Rattle.pass_proofs.proofs.run_laws.access.Lines.{runs_append}
use Rattle.pass_proofs.specs.run_laws.access.Accessed.{Span}
use Rattle.pass_proofs.specs.run_laws.access.Lines.{Runs}
use Rattle.pass_proofs.specs.run_laws.embedded.Related.{IsSameDistance}
use Rattle.pass_proofs.specs.run_laws.memory.Pointers.{Home, IsValue}
use Rattle.pass_proofs.specs.run_laws.memory.Standing.{AreByteRights}
use Rattle.pass_proofs.specs.run_laws.transfer.Transfer.{AreSet, same_maps}
use Rattle.pass_proofs.specs.run_memory.Pointers.{moved, offset_of}
use Rattle.pass_proofs.specs.run_memory.declared.block.MemoryBlock.{MemoryBlock}
use Rattle.pass_proofs.specs.run_memory.declared.pointer.Offset.{Offset}
use Rattle.pass_proofs.specs.run_memory.declared.pointer.Pointer.{Pointer}
use Rattle.pass_proofs.specs.run_memory.declared.pointer.Value.{Value}
use Rattle.pass_proofs.specs.run_source.declared.state.Activation.{Activation}
use Rattle.pass_proofs.specs.run_step.Step.{Context, Done, Work, instr_action, set_value, value_at}
use Rattle.pass_proofs.specs.run_step.declared.world.World.{World}
use Rattle.pass_proofs.specs.run_step.Values.{Env, distance, element, indices_of, value_in}

-- the works on the way: behind the loads, the address itself, the store of its result, and all
pub record MovesOn (x : Framing) (d : Context) (w y v : Work) (a : Activation) (n m r : ℕ) (inbounds : Bool) (ty : Ty)
    (base : ℕ) (indices : List Arg) (cell : ℕ) : Type 0 where
  pub first : Work
  pub second : Work
  pub third : Work
  pub work : Work
  pub loads : Runs d (fetches_of_all (fetches_of (plan x)) n
      (instr_operands (Instr.Gep r inbounds ty (Operand.Local base) indices))) y first
  pub first_world : first.world ≡ y.world
  pub is_done : instr_action d first (with_fetched (fetches_of (plan x)) n
      (Instr.Gep r inbounds ty (Operand.Local base) indices)) ≡ Done second
  pub second_world : second.world ≡ y.world
  pub stores : Runs d (stored (plan x) r) second third
  pub third_events : third.world.events ≡ y.world.events
  pub third_spares : SparesBlocks x a y.world.memory third.world.memory
  pub measures : Runs d (distance_instrs m (distance_from (plan x) r) cell
      (ways_of x.code ty (loaded_indices x n base indices))) third work
  pub events : work.world.events ≡ y.world.events
  pub spares : SparesBlocks x a y.world.memory work.world.memory
  pub source : (u : ℕ) → u ≢ r → value_in v.values u ≡ value_in w.values u
  pub source_room : length v.values ≡ length w.values
  pub source_world : v.world ≡ w.world

module _ (x : Framing) (is : IsFraming x) (homes : List Home) (hides : ℕ → Bool) (c d : Context)
    (law : AreByteRights c.rights) (law' : AreByteRights d.rights) (w y v : Work) (a : Activation) (n m r : ℕ)
    (inbounds : Bool) (ty : Ty) (base : ℕ) (indices : List Arg) (cell slot : ℕ)
    (is_done : instr_action c w (Instr.Gep r inbounds ty (Operand.Local base) indices) ≡ Done v)
    (may : MayMove x homes hides c d w y a n m r inbounds ty base indices cell slot) where
  abbrev i : Instr
  i = Instr.Gep r inbounds ty (Operand.Local base) indices

  abbrev T : List (Option Fetch)
  T = fetches_of (plan x)

  abbrev k : ℕ
  k = next_after T n (Operand.Local base)

  abbrev now : List Arg
  now = loaded_indices x n base indices

  abbrev given : ℕ → Value
  given = loaded_value x d y

  -- ---- the instruction

  distance_same : (env : Env) → AreArgsStanding T homes c.code d.code w.values env k indices
      → IsSameDistance (distance c.code ty (indices_of c.code w.values indices))
      (distance d.code ty (indices_of d.code env now))
  distance_same env h =
      same_distance T homes c.code d.code w.values env ty k indices may.same may.fields h

  stand : (z : Work) → AreSeenAs T given d y z n (instr_operands i)
      → AreArgsStanding T homes c.code d.code w.values z.values k indices
  stand z seen =
      args_stand T homes given c d w y z k indices (seen_all x is homes hides c d w y a n i may.operands).1 seen.1

  abbrev make : MayBeMade homes hides same_maps T given c d w y n i
  make = may_make x is homes hides c d w y a n i may.operands tt
      (λ z sets seen. distance_same z.values (stand z seen)) tt

  abbrev fetched : AreFetched T given d n (instr_operands i) y
  fetched = first homes hides same_maps T given c d law law' w y n i make

  gep_quiet : (e : Context) (b z : Work) (p : Operand) (args : List Arg)
      → instr_action e b (Instr.Gep r inbounds ty p args) ≡ Done z → z.world.memory ≡ b.world.memory
  gep_quiet e b z p args h =
      let one : set_value b r
      (element b.world.memory inbounds (value_at e b ptr p) (distance e.code ty (indices_of e.code b.values args))) ≡ z =
      cc in
      ap (λ (s : Work). s.world.memory) (sym one)

  same_result : (u : ℕ) → Some r ≡ Some u → r ≡ u
  same_result u e = cc

  abbrev goes : GoesBehind x homes hides c d w y v n i
  goes = record {
    step = made homes hides same_maps T given c d law law' w y n i make;
    given = refl;
    is_done = is_done;
    source_same = gep_quiet c w v (Operand.Local base) indices is_done;
    target_same = λ z. gep_quiet d fetched.work z (fetched_operand T n (Operand.Local base)) now;
    name = λ u e. subst (IsResultName x) (same_result u e) may.result;
  }

  abbrev z : Work
  z = done_work x is homes hides c d law law' w y v a n i may.operands goes

  set : AreSet homes (Some r) w.values fetched.work.values v.values z.values
  set = values_set x is homes hides c d law law' w y v a n i may.operands goes

  behind : LeavesCellsBut x homes d z a v.values r n (stored (plan x) r)
  behind = result_behind x is homes hides c d law law' w y v a n i may.operands goes r refl

  -- ---- how far the address is from its base

  abbrev B : Value
  B = value_in w.values base

  abbrev D : Option ℕ
  D = distance c.code ty (indices_of c.code w.values indices)

  other_name : (u : ℕ) → u ≢ r → Some r ≡ Some u → ⊥
  other_name u differ e = differ (back e)
    where
      back : Some r ≡ Some u → u ≡ r
      back e = cc

  base_is : (from : Option ℕ) → GoesOnFrom x w.values slot base from → IsAddress B
  base_is None h = inr (h.1.0, offset_of 0, ap (value_in w.values) h.0 ∙ h.1.1)
  base_is (Some from) h =
      let has = may.operands.cells.distances base from slot h.0 h.1 in
      ⊎_elim (λ e. inl e) (λ k. inr (k.0, k.1, k.3)) has.has

  far : IsElement B D (value_in v.values r)
  far =
      let q : Value = element w.world.memory inbounds B D in
      let one : set_value w r q ≡ v = cc in
      subst (λ (s : Work). IsElement B D (value_in s.values r)) one
      (set_or_none (IsElement B D) w.values r q
      (is_element w.world.memory inbounds B D (base_is (distance_from (plan x) r) may.from)) (inl refl))

  low : r < n
  low =
      let lt : r < length (edged x).names = may.result.low in
      let all = names_are x is in
      let le : length (named x).names ≤ n = may.operands.low in
      omega (arith, lt, all, le)

  rises : (f : Option Fetch) → n ≤ next_by n f
  rises None = omega arith
  rises (Some f) = omega arith

  there_same : (u : ℕ) → u ≢ r → value_in behind.work.values u ≡ value_in fetched.work.values u
  there_same u differ = ap (λ (env : Env). value_in env u) behind.values ∙ set.target u (other_name u differ)

  there_distance : IsSameDistance D (distance d.code ty (indices_of d.code behind.work.values now))
  there_distance =
      distance_same behind.work.values
      (args_still_stand T homes c.code d.code w.values fetched.work.values behind.work.values r n low there_same k
      indices (rises (fetch_of T (Operand.Local base))) may.not_itself.1 (stand fetched.work fetched.seen))

  is_moved : IsMoved d.code behind.work.values B (value_in v.values r) ty now
  is_moved =
      ⊎_elim (λ e. inl e)
      (λ (h : (block : ℕ) × (o : Offset) × (far : ℕ) × (B ≡ Value.Ptr (Pointer.At block o)) × (D ≡ Some far)
      × (value_in v.values r ≡ Value.Ptr (Pointer.At block (moved o far)))).
      inr (
        h.0,
        h.1,
        h.2,
        h.3,
        subst
            (λ (o : Option ℕ). IsSameDistance o (distance d.code ty (indices_of d.code behind.work.values now))) h.4
            there_distance,
        h.5,
      )) far

  is_base : (from : Option ℕ) → GoesOnFrom x w.values slot base from → IsBase x v.values r slot from B
  is_base None h =
      let same : value_in v.values slot ≡ value_in w.values slot =
      set.source slot (other_name slot (may.result.no_root r slot may.root)) in
      (h.1.0, same ∙ h.1.1, ap (value_in w.values) h.0 ∙ sym same)
  is_base (Some from) h =
      (base, h.0, h.1, may.not_itself.0, sym (set.source base (other_name base may.not_itself.0)))

  -- ---- its distance

  measured : Measures x homes d behind.work a v.values r cell m ty now
  measured =
      let le : length (named x).names ≤ n = may.operands.low in
      let later : n ≤ m = may.later in
      let room = may.room in
      let long : length behind.work.values ≡ length y.values =
      behind.over.room ∙ set.length_target ∙ fetched.sets.room in
      distance_measured x is homes d law' a behind.work v.values r cell slot m ty now (record {
        told = may.told;
        root = may.root;
        own = may.operands.own;
        right = behind.right;
        there = behind.there cell may.told;
        low = omega (arith, le, later);
        room = omega (arith, room, long);
        below = may.below;
        fields = may.loaded_fields;
        ways = may.ways;
        base = B;
        is_base = is_base (distance_from (plan x) r) may.from;
        is_moved = is_moved;
      })

  abbrev line : List Instr
  line = distance_instrs m (distance_from (plan x) r) cell (ways_of x.code ty now)

  runs : Runs d (fetches_of_all T n (instr_operands i) ++ (with_fetched T n i ∷ (stored (plan x) r ++ line))) y
      measured.work
  runs =
      runs_append d (fetches_of_all T n (instr_operands i)) (with_fetched T n i ∷ (stored (plan x) r ++ line)) y
      fetched.work measured.work fetched.runs (
        z,
        (
          done_is x is homes hides c d law law' w y v a n i may.operands goes,
          runs_append d (stored (plan x) r) line z behind.work measured.work behind.over.runs measured.over.runs,
        ),
      )

  behind_same : (u : ℕ) → u < n → value_in measured.work.values u ≡ value_in z.values u
  behind_same u lt =
      let later : n ≤ m = may.later in
      measured.over.others u (omega (arith, lt, later)) ∙ ap (λ (env : Env). value_in env u) behind.values

  pub moves : Moves x homes hides c d y v a n m r inbounds ty base indices
  moves = record {
    work = measured.work;
    runs = subst
        (λ (o : Option ℕ). Runs d (fetches_of_all T n (instr_operands i)
        ++ (with_fetched T n i ∷ (stored (plan x) r ++ distance_into x.code (distance_from (plan x) r) m o ty now))) y
        measured.work) (sym may.told) runs;
    over = over_line x is homes hides c d law law' w y v a n i may.operands goes m line measured.spans behind.work
        measured.work measured.over measured.inside
        (over_line x is homes hides c d law law' w y v a n i may.operands goes n (stored (plan x) r) behind.spans z
        behind.work behind.over behind.inside (done_over x is homes hides c d law law' w y v a n i may.operands goes));
    cells = measured.right;
    set = λ u e.
        subst (IsValue homes (value_in v.values u))
        (sym (behind_same u (subst (λ (s : ℕ). s < n) (same_result u e) low))) (set.stands u e);
    others = λ u lt differ. behind_same u lt ∙ set.target u differ ∙ fetched.sets.others u lt;
    room = measured.over.room ∙ behind.over.room ∙ set.length_target ∙ fetched.sets.room;
  }

  -- ---- the works on the way

  gep_world : (e : Context) (b u : Work) (p : Operand) (args : List Arg)
      → instr_action e b (Instr.Gep r inbounds ty p args) ≡ Done u → u.world ≡ b.world
  gep_world e b u p args h =
      let one : set_value b r
      (element b.world.memory inbounds (value_at e b ptr p) (distance e.code ty (indices_of e.code b.values args))) ≡ u =
      cc in
      ap (λ (s : Work). s.world) (sym one)

  second_same : z.world ≡ y.world
  second_same =
      gep_world d fetched.work z (fetched_operand T n (Operand.Local base)) now
      (done_is x is homes hides c d law law' w y v a n i may.operands goes)
      ∙ fetched.sets.world

  spared : (spans : List Span) (k l : List MemoryBlock) → Fills d.rights spans k l → AreInCells x a spans
      → SparesBlocks x a k l
  spared spans k l fills inside = record {
    same = λ e none.
        fills_elsewhere d.rights spans k l e fills
        (each_turns
        (λ (t : Span). (name : ℕ) × IsCellOf x name × Contains a.slots (record { alloca = name; block = t.block }))
        (λ (t : Span). t.block ≡ e → ⊥)
        (λ t q. none (record { alloca = q.0; block = t.block }) q.2 q.1) spans inside);
  }

  third_spared : SparesBlocks x a y.world.memory behind.work.world.memory
  third_spared = record {
    same = λ e none.
        (spared behind.spans z.world.memory behind.work.world.memory behind.over.fills behind.inside).same e none
        ∙ ap (λ (k : World). slice_get k.memory e) second_same;
  }

  last_spared : SparesBlocks x a y.world.memory measured.work.world.memory
  last_spared = record {
    same = λ e none.
        (spared measured.spans behind.work.world.memory measured.work.world.memory measured.over.fills
        measured.inside).same e none
        ∙ third_spared.same e none;
  }

  third_seen : behind.work.world.events ≡ y.world.events
  third_seen = ap (λ (k : World). k.events) behind.over.world ∙ ap (λ (k : World). k.events) second_same

  pub moves_on : MovesOn x d w y v a n m r inbounds ty base indices cell
  moves_on = record {
    first = fetched.work;
    second = z;
    third = behind.work;
    work = measured.work;
    loads = fetched.runs;
    first_world = fetched.sets.world;
    is_done = done_is x is homes hides c d law law' w y v a n i may.operands goes;
    second_world = second_same;
    stores = behind.over.runs;
    third_events = third_seen;
    third_spares = third_spared;
    measures = measured.over.runs;
    events = ap (λ (k : World). k.events) measured.over.world ∙ third_seen;
    spares = last_spared;
    source = λ u differ. set.source u (other_name u differ);
    source_room = set.length_source;
    source_world = gep_world c w v (Operand.Local base) indices is_done;
  }

  pub moves_work : moves.work ≡ moves_on.work
  unfolding moves moves_on
  moves_work = refl

pub moves_made : (x : Framing) → IsFraming x → (homes : List Home) (hides : ℕ → Bool) (c d : Context)
    → AreByteRights c.rights → AreByteRights d.rights → (w y v : Work) (a : Activation) (n m r : ℕ)
    (inbounds : Bool) (ty : Ty) (base : ℕ) (indices : List Arg) (cell slot : ℕ)
    → instr_action c w (Instr.Gep r inbounds ty (Operand.Local base) indices) ≡ Done v
    → MayMove x homes hides c d w y a n m r inbounds ty base indices cell slot
    → Moves x homes hides c d y v a n m r inbounds ty base indices
moves_made x is homes hides c d law law' w y v a n m r inbounds ty base indices cell slot e may =
    moves x is homes hides c d law law' w y v a n m r inbounds ty base indices cell slot e may
