-- An instruction that changes no memory, behind a line that fetches its operands, and the store of its result.
use Rattle.std.proofs.Common.{◌≡◌, inl, inr, ⊎_elim, ℕ, zero, suc, ◌<◌, ◌≤◌, Bool, true, false, List, [], ◌∷◌, length, refl, sym, ap, ◌∙◌, subst, arith}
use Rattle.std.specs.List.{Contains}
use Rattle.std.specs.Prelude.{Err, None, Ok, Option, Result, Some, option_map, slice_get, if◌then◌else◌}
use Rattle.pass_proofs.specs.ir_base.declared.cause.Cause.{Cause}
use Rattle.pass_proofs.proofs.ir_laws.facts.Members.{each_turns}
use Rattle.pass_proofs.proofs.ir_laws.facts.Truth.{is_number}
use Rattle.pass_proofs.specs.ir_model.Ty.{int, ptr}
use Rattle.pass_proofs.specs.ir_model.declared.instr.Instr.{Instr}
use Rattle.pass_proofs.specs.ir_model.declared.operand.Callee.{Callee}
use Rattle.pass_proofs.specs.ir_model.declared.operand.Operand.{Operand}
use Rattle.pass_proofs.specs.ir_parts.Contents.{result_of}
use Rattle.pass_proofs.specs.pass_cells.Kept.{entry}
use Rattle.pass_proofs.specs.pass_cells.Written.{stored, stored_at, stored_one, stored_result}
use Rattle.pass_proofs.specs.pass_cells.declared.plan.KeptValue.{KeptValue}
use Rattle.pass_frames_code.proofs.led.Through.{one_through, through_joined}
use Rattle.pass_frames_code.proofs.lines.Cells.{cell_stays}
use Rattle.pass_frames_code.proofs.lines.Filled.{over_none, worlds_stand}
use Rattle.pass_frames_code.proofs.lines.Names.{distance_of}
use Rattle.pass_frames_code.proofs.lines.Results.{kept_is_cell, result_stored}
use Rattle.pass_frames_code.proofs.ordinary.Quiet.{quiet_memory}
use Rattle.pass_frames_code.specs.Framings.{IsFraming}
use Rattle.pass_frames_code.specs.Led.{IsDoneLed, IsNotSet, IsOnWay, IsStill, LeavesMemory, MayStepLed, RunsThrough, SparesBlocks, StepsLed, led_line}
use Rattle.pass_frames_code.specs.Lines.{AreAway, AreInCells, Fills, IsCellOf, LeavesCellsBut, NoneFilled, OneFilled, RunsOver, at_work}
use Rattle.pass_frames_code.specs.Places.{Framing, edged, named, plan}
use Rattle.pass_frames_code.specs.Related.{AreCellsRight, IsCell, IsDistanceOf}
use Rattle.pass_proofs.proofs.run_laws.transfer.Over.{step_over}
use Rattle.pass_proofs.proofs.run_laws.transfer.Sets.{set_elsewhere}
use Rattle.pass_proofs.specs.run_laws.access.Accessed.{Span}
use Rattle.pass_proofs.specs.run_laws.access.Lines.{Runs, refilled_at}
use Rattle.pass_proofs.specs.run_laws.changed.Changed.{Each, callee_at}
use Rattle.pass_proofs.specs.run_laws.embedded.Related.{HasNoSlot}
use Rattle.pass_proofs.specs.run_laws.memory.Pointers.{Home, IsValue}
use Rattle.pass_proofs.specs.run_laws.memory.Standing.{AreByteRights, IsAway}
use Rattle.pass_proofs.specs.run_laws.transfer.Muted.{muted}
use Rattle.pass_proofs.specs.run_laws.transfer.Shapes.{Alloca, Binary, Call, CalleeStays, Cast, Direct, Gep, Icmp, Indirect, InstrStays, Load, Select, Store}
use Rattle.pass_proofs.specs.run_laws.transfer.Transfer.{AreJoined, AreOver, AreSet, GoesOver, IsNamedAlike, IsTransferred, StandsFor, args_at, given_at, looks_at, muted_world, same_maps}
use Rattle.pass_proofs.specs.run_memory.Memory.{Rights, is_live, load, with_block, with_bytes}
use Rattle.pass_proofs.specs.run_memory.declared.block.Byte.{Byte}
use Rattle.pass_proofs.specs.run_memory.declared.block.MemoryBlock.{MemoryBlock}
use Rattle.pass_proofs.specs.run_memory.declared.pointer.Value.{Value}
use Rattle.pass_proofs.specs.run_source.declared.state.Activation.{Activation}
use Rattle.pass_proofs.specs.run_step.Step.{Action, AtInstr, Context, Done, Stuck, Work, done, instr_action, is_alignment, set_value, value_at}
use Rattle.pass_proofs.specs.run_step.Values.{Env, access_of, address, distance, element, indices_of, value_in}
use Rattle.pass_proofs.specs.run_step.declared.world.World.{World}

-- ---- what leaves the world as it is

pub done_world : (u x z : Work) → x.world ≡ u.world → Done x ≡ Done z → z.world ≡ u.world
done_world u x z same e = let one : x ≡ z = cc in ap (λ (k : Work). k.world) (sym one) ∙ same

pub result_world : (f : Value → Work) (r : Result Value Cause) (u z : Work) → ((k : Value) → (f k).world ≡ u.world)
    → done f r ≡ Done z → z.world ≡ u.world
result_world f (Err cause) u z same e = absurd (cc)
result_world f (Ok k) u z same e = done_world u (f k) z (same k) e

pub still_world : (c : Context) (u z : Work) (i : Instr) → IsStill i → instr_action c u i ≡ Done z → z.world ≡ u.world
still_world c u z (Instr.Load r ty p align) s e = on (is_alignment align) e
  where
    on : (b : Bool)
        → (if b
        then done (set_value u r) (load c.rights u.world.memory (address (value_at c u ptr p)) (access_of ty) align)
        else Stuck Cause.Align) ≡ Done z
        → z.world ≡ u.world
    on true d =
        result_world (set_value u r) (load c.rights u.world.memory (address (value_at c u ptr p))
        (access_of ty) align) u
        z (λ k. refl) d
    on false d = absurd (cc)
still_world c u z (Instr.Gep r inbounds ty p indices) s e =
    done_world u
    (set_value u r
    (element u.world.memory inbounds (value_at c u ptr p) (distance c.code ty (indices_of c.code u.values indices)))) z
    refl e
still_world c u z _ s e = absurd s

-- and sets no name but its own
pub done_value : (u x z : Work) (k : ℕ) → value_in x.values k ≡ value_in u.values k → Done x ≡ Done z
    → value_in z.values k ≡ value_in u.values k
done_value u x z k same e = let one : x ≡ z = cc in ap (λ (y : Work). value_in y.values k) (sym one) ∙ same

pub set_value_other : (u : Work) (r k : ℕ) (v : Value) → (Some r ≡ Some k → ⊥)
    → value_in (set_value u r v).values k ≡ value_in u.values k
set_value_other u r k v n = set_elsewhere u.values r k v (λ e. n (ap Some e))

result_value : (r : ℕ) (o : Result Value Cause) (u z : Work) (k : ℕ) → (Some r ≡ Some k → ⊥)
    → done (set_value u r) o ≡ Done z → value_in z.values k ≡ value_in u.values k
result_value r (Err cause) u z k n e = absurd (cc)
result_value r (Ok v) u z k n e = done_value u (set_value u r v) z k (set_value_other u r k v n) e

pub still_value : (c : Context) (k : ℕ) (u z : Work) (i : Instr) → IsStill i → IsNotSet k i → instr_action c u i
    ≡ Done z
    → value_in z.values k ≡ value_in u.values k
still_value c k u z (Instr.Load r ty p align) s n e = on (is_alignment align) e
  where
    on : (b : Bool)
        → (if b
        then done (set_value u r) (load c.rights u.world.memory (address (value_at c u ptr p)) (access_of ty) align)
        else Stuck Cause.Align) ≡ Done z
        → value_in z.values k ≡ value_in u.values k
    on true d =
        result_value r (load c.rights u.world.memory (address (value_at c u ptr p)) (access_of ty) align) u z k n d
    on false d = absurd (cc)
still_value c k u z (Instr.Gep r inbounds ty p indices) s n e =
    done_value u
    (set_value u r
    (element u.world.memory inbounds (value_at c u ptr p) (distance c.code ty (indices_of c.code u.values indices)))) z
    k
    (set_value_other u r k
    (element u.world.memory inbounds (value_at c u ptr p) (distance c.code ty (indices_of c.code u.values indices))) n)
    e
still_value c k u z _ s n e = absurd s

pub still_others : (c : Context) (k : ℕ) (line : List Instr) (w x : Work) → Each IsStill line → Each (IsNotSet k) line
    → Runs c line w x → value_in x.values k ≡ value_in w.values k
still_others c k [] w x s n r = ap (λ (u : Work). value_in u.values k) r
still_others c k (i ∷ is) w x s n r =
    still_others c k is r.0 x s.1 n.1 r.1.1 ∙ still_value c k w r.0 i s.0 n.0 r.1.0

pub leaves_memory : (e : Context) (u z : Work) (i : Instr) → LeavesMemory e i → instr_action e u i ≡ Done z
    → z.world.memory ≡ u.world.memory
leaves_memory e u z (Instr.Gep r inbounds ty p indices) q is =
    ap (λ (k : World). k.memory) (still_world e u z (Instr.Gep r inbounds ty p indices) tt is)
leaves_memory e u z (Instr.Binary r op flags ty a b) q is = quiet_memory e u z (Instr.Binary r op flags ty a b) q is
leaves_memory e u z (Instr.Icmp r pred ty a b) q is = quiet_memory e u z (Instr.Icmp r pred ty a b) q is
leaves_memory e u z (Instr.Select r k a b) q is = quiet_memory e u z (Instr.Select r k a b) q is
leaves_memory e u z (Instr.Cast r op nneg a to) q is = quiet_memory e u z (Instr.Cast r op nneg a to) q is
leaves_memory e u z (Instr.Load r ty p align) q is = quiet_memory e u z (Instr.Load r ty p align) q is
leaves_memory e u z (Instr.Call r must_tail ty callee args) q is =
    quiet_memory e u z (Instr.Call r must_tail ty callee args) q is
leaves_memory e u z (Instr.Alloca r ty align) q is = absurd q
leaves_memory e u z (Instr.Store a p align) q is = absurd q

-- what it sets, that it makes no slot, and that it leaves memory in the target too
pub record IsSimple (c d : Context) (i j : Instr) : Type 0 where
  pub no_slot : HasNoSlot (AtInstr i)
  pub given : given_at (AtInstr i) ≡ result_of i
  pub leaves : LeavesMemory d j

pub simple : (R : Operand → Operand → Type 0) (c d : Context) (i j : Instr) → InstrStays R i j → LeavesMemory c i
    → IsNamedAlike same_maps c d (callee_at (AtInstr i)) → IsSimple c d i j
simple R c d _ _ (Binary r op flags ty a b a' b' h k) q alike = record { no_slot = tt; given = refl; leaves = tt }
simple R c d _ _ (Icmp r pred ty a b a' b' h k) q alike = record { no_slot = tt; given = refl; leaves = tt }
simple R c d _ _ (Select r y y' a b a' b' h k l) q alike = record { no_slot = tt; given = refl; leaves = tt }
simple R c d _ _ (Cast r op nneg a a' to h) q alike = record { no_slot = tt; given = refl; leaves = tt }
simple R c d _ _ (Alloca r ty align) q alike = absurd q
simple R c d _ _ (Load r ty p p' align h) q alike = record { no_slot = tt; given = refl; leaves = tt }
simple R c d _ _ (Store a a' p p' align h k) q alike = absurd q
simple R c d _ _ (Gep r inbounds ty p p' indices now h k) q alike = record { no_slot = tt; given = refl; leaves = tt }
simple R c d _ _ (Call r must_tail ty callee other args now h k) q alike = on callee other h q alike
  where
    direct : (one : Callee) → LeavesMemory c (Instr.Call r must_tail ty one args)
        → IsNamedAlike same_maps c d (callee_at (AtInstr (Instr.Call r must_tail ty one args)))
        → IsSimple c d (Instr.Call r must_tail ty one args) (Instr.Call r must_tail ty one now)
    direct (Callee.Named name) l s = record {
      no_slot = tt;
      given = refl;
      leaves = s.0 ∙ ap (option_map (λ (func : ℕ). func)) l;
    }
    direct (Callee.Allocator x) l s = absurd l
    direct (Callee.Intrinsic x) l s = absurd l
    direct (Callee.Local v) l s = absurd l

    on : (one two : Callee) → CalleeStays R one two → LeavesMemory c (Instr.Call r must_tail ty one args)
        → IsNamedAlike same_maps c d (callee_at (AtInstr (Instr.Call r must_tail ty one args)))
        → IsSimple c d (Instr.Call r must_tail ty one args) (Instr.Call r must_tail ty two now)
    on _ _ (Direct one e) l s = direct one l s
    on _ _ (Indirect v n e) l s = absurd l

-- ---- ranges that are filled lie in their blocks

other_there : (m : List MemoryBlock) (k e o : ℕ) (new : List Byte) → (k ≡ e → ⊥)
    → slice_get (with_block m k (with_bytes o new)) e ≡ slice_get m e
other_there [] k e o new n = refl
other_there (x ∷ m) zero zero o new n = absurd (n refl)
other_there (x ∷ m) zero (suc e) o new n = refl
other_there (x ∷ m) (suc k) zero o new n = refl
other_there (x ∷ m) (suc k) (suc e) o new n = other_there m k e o new (λ h. n (ap suc h))

pub fills_elsewhere : (rights : Rights) (spans : List Span) (m k : List MemoryBlock) (e : ℕ) → Fills rights spans m k
    → Each (λ (s : Span). s.block ≡ e → ⊥) spans → slice_get k e ≡ slice_get m e
fills_elsewhere rights _ _ _ e (NoneFilled m) h = refl
fills_elsewhere rights _ _ _ e (OneFilled c p much old new spans m k held long rest) h =
    fills_elsewhere rights spans (refilled_at m c p new) k e rest h.1 ∙ other_there m c e p new h.0

-- ---- at most one store

short_at : (p : List KeptValue) (v : ℕ) (o : Option ℕ) → length (stored_at p v o) ≤ 1
short_at p v None = omega arith
short_at p v (Some k) = on (slice_get p k)
  where
    on : (o : Option KeptValue) → length (stored_one v o) ≤ 1
    on None = omega arith
    on (Some k) = omega arith

pub short_result : (x : Framing) (o : Option ℕ) → length (stored_result (plan x) o) ≤ 1
short_result x None = omega arith
short_result x (Some v) = short_at (plan x).kept v (entry (plan x).places v)

-- ---- the front

pub still_through : (c : Context) (P : Work → Type 0) (y : Work) → ((u : Work) → u.world ≡ y.world → P u)
    → (line : List Instr) (w x : Work) → Each IsStill line → w.world ≡ y.world → Runs c line w x
    → RunsThrough c P line w x
still_through c P y holds [] w x s e r = r
still_through c P y holds (i ∷ is) w x s e r = (
  holds w e,
  (
    r.0,
    (
      r.1.0,
      still_through c P y holds is r.0 x s.1 (still_world c w r.0 i s.0 r.1.0 ∙ e) r.1.1,
    ),
  ),
)

-- ---- the step

module _ (x : Framing) (is : IsFraming x) (homes : List Home) (hides : ℕ → Bool) (c d : Context)
    (law : AreByteRights c.rights) (law' : AreByteRights d.rights) (w y v : Work) (a : Activation) (n : ℕ)
    (i j : Instr) (front : List Instr) (q : LeavesMemory c i) (is_done : instr_action c w i ≡ Done v)
    (m : MayStepLed x homes hides c d w y a n i j front) where
  abbrev AreRight : Env → Work → Type 0
  AreRight env u = AreCellsRight x homes d.rights u.world.memory env (at_work a u)

  abbrev S : Work
  S = m.led.work

  easy : IsSimple c d i j
  easy = simple (StandsFor (looks_at (AtInstr i)) (IsValue homes) c d w.values S.values) c d i j m.led.shape q m.callee

  joined : AreJoined homes hides same_maps c d w S
  joined = record {
    over = subst (λ (k : World). AreOver c.rights d.rights homes hides same_maps.declaration w.world k)
        (sym m.led.sets.world) m.joined.over;
    hidden = m.joined.hidden;
    answers = m.joined.answers;
    room = subst (λ (k : ℕ). length w.values ≤ k) (sym m.led.sets.room) m.joined.room;
  }

  transferred : IsTransferred (IsValue homes) same_maps c d w.values S.values (AtInstr i) (AtInstr j)
  transferred = record {
    shape = m.led.shape;
    callee = m.callee;
    pointed = m.pointed;
    distance = m.distance;
    cases = tt;
    no_slot = easy.no_slot;
    bytes = m.bytes;
  }

  went : GoesOver c.rights d.rights homes hides same_maps (given_at (AtInstr i)) (args_at (AtInstr i))
      (args_at (AtInstr j)) w S (Done v) (instr_action d S j)
  went =
      subst
      (λ (act : Action). GoesOver c.rights d.rights homes hides same_maps (given_at (AtInstr i)) (args_at (AtInstr i))
      (args_at (AtInstr j)) w S act (instr_action d S j)) is_done
      (step_over homes hides same_maps c d w S (AtInstr i) (AtInstr j) law law' joined transferred)

  abbrev z : Work
  z = went.0

  z_is : instr_action d S j ≡ Done z
  z_is = went.1

  set : AreSet homes (result_of i) w.values S.values v.values z.values
  set = subst (λ (o : Option ℕ). AreSet homes o w.values S.values v.values z.values) easy.given went.3

  same_memory : z.world.memory ≡ y.world.memory
  same_memory = leaves_memory d S z j easy.leaves z_is ∙ ap (λ (k : World). k.memory) m.led.sets.world

  source_same : v.world.memory ≡ w.world.memory
  source_same = leaves_memory c w v i q is_done

  -- ---- cells

  cells_on : (u : ℕ) → IsCellOf x u → value_in z.values u ≡ value_in y.values u
  cells_on u cell =
      let lt : u < length (named x).names = cell.1 in
      let le : length (named x).names ≤ n = m.low in
      set.target u (λ e. other cell.0 ((m.result u e).name.low)) ∙ m.led.sets.others u (omega (arith, lt, le))
    where
      other : length (edged x).names ≤ u → u < length (edged x).names → ⊥
      other low small = omega (arith, low, small)

  unfilled : Fills d.rights [] y.world.memory z.world.memory
  unfilled =
      subst (λ (k : List MemoryBlock). Fills d.rights [] y.world.memory k) (sym same_memory)
      (NoneFilled y.world.memory)

  right : AreRight w.values z
  right = record {
    values = λ u k kept.
        cell_stays d.rights law' [] y.world.memory z.world.memory a y z k.cell k.ty (IsValue homes
        (value_in w.values u))
        unfilled (m.cells.values u k kept) tt (cells_on k.cell (kept_is_cell x is u k kept));
    distances = λ u cell slot e root.
        cell_stays d.rights law' [] y.world.memory z.world.memory a y z cell (int 64)
        (IsDistanceOf (value_in w.values slot) (value_in w.values u)) unfilled
        (m.cells.distances u cell slot e root) tt
        (cells_on cell (distance_of x is u cell e));
  }

  -- ---- its result

  record IsBehind (o : Option ℕ) : Type 0 where
    work : Work
    spans : List Span
    over : RunsOver d (stored_result (plan x) o) n spans z work
    values : work.values ≡ z.values
    inside : AreInCells x a spans
    right : AreRight v.values work

  none_behind : result_of i ≡ None → IsBehind None
  none_behind e = record {
    work = z;
    spans = [];
    over = over_none d n z;
    values = refl;
    inside = tt;
    right = record {
      values = λ u k kept.
          subst (λ (t : Value). IsCell d.rights z.world.memory (at_work a z) k.cell k.ty (IsValue homes t))
          (sym (same u)) (right.values u k kept);
      distances = λ u cell slot told root.
          subst
          (λ (t : Value × Value). IsCell d.rights z.world.memory (at_work a z) cell (int 64) (IsDistanceOf t.0 t.1))
          (λ k. (sym (same slot) k, sym (same u) k)) (right.distances u cell slot told root);
    };
  }
    where
      same : (u : ℕ) → value_in v.values u ≡ value_in w.values u
      same u = set.source u (λ k. let no : None ≡ Some u = sym e ∙ k in absurd (cc))

  module _ (r : ℕ) (e : result_of i ≡ Some r) where
    behind : LeavesCellsBut x homes d z a v.values r n (stored (plan x) r)
    behind =
        result_stored x is homes d law' w.values v.values a z r n m.own (m.result r e).name.no_root
        (λ u differ. set.source u (λ k. differ (same_name u (sym e ∙ k)))) (set.stands r e)
        (λ k kept. m.storable v is_done r k e kept) right
      where
        same_name : (u : ℕ) → Some r ≡ Some u → u ≡ r
        same_name u k = cc

    one_behind : IsBehind (Some r)
    one_behind = record {
      work = behind.work;
      spans = behind.spans;
      over = behind.over;
      values = behind.values;
      inside = behind.inside;
      right = record {
        values = behind.right.values;
        distances = λ u cell slot told root. ⊎_elim
            (λ (same : u ≡ r).
            let none : None ≡ Some cell = sym (m.result r e).no_distance ∙ ap (entry (plan x).cells) (sym same)
            ∙ told in
            absurd (cc))
            (λ differ. behind.right.distances u cell slot differ told root) (is_number u r);
      };
    }

  by_result : (o : Option ℕ) → result_of i ≡ o → IsBehind o
  by_result None e = none_behind e
  by_result (Some r) e = one_behind r e

  last : IsBehind (result_of i)
  last = by_result (result_of i) refl

  -- ---- the memories behind it

  away : AreAway c.rights homes (muted hides v.world.memory) last.spans
  away =
      each_turns
      (λ (s : Span). (cell : ℕ) × IsCellOf x cell × Contains a.slots (record { alloca = cell; block = s.block }))
      (λ (s : Span). (b : ℕ) (k : MemoryBlock) → slice_get (muted hides v.world.memory) b ≡ Some k
      → is_live k.life ≡ true → IsAway c.rights homes b k s.block s.offset s.len)
      (λ s h b k e live same. absurd (m.free (record { alloca = h.0; block = s.block }) h.2 h.1 b k
      (ap (λ (o : List MemoryBlock). slice_get (muted hides o) b) (sym source_same) ∙ e) (inr live) same))
      last.spans last.inside

  over_behind : AreOver c.rights d.rights homes hides (λ k. k) v.world last.work.world
  over_behind =
      subst (λ (s : World). AreOver c.rights d.rights homes hides (λ k. k) v.world s) (sym last.over.world)
      (worlds_stand c.rights d.rights law law' homes (λ k. k) (muted_world hides v.world) z.world last.spans
      last.work.world.memory last.over.fills away went.2)

  -- ---- what it spares

  spares_none : SparesBlocks x a y.world.memory z.world.memory
  spares_none = record { same = λ e none. ap (λ (k : List MemoryBlock). slice_get k e) same_memory }

  spares_all : SparesBlocks x a y.world.memory last.work.world.memory
  spares_all = record {
    same = λ e none.
        fills_elsewhere d.rights last.spans z.world.memory last.work.world.memory e last.over.fills
        (each_turns
        (λ (t : Span). (cell : ℕ) × IsCellOf x cell × Contains a.slots (record { alloca = cell; block = t.block }))
        (λ (t : Span). t.block ≡ e → ⊥)
        (λ t k. none (record { alloca = k.0; block = t.block }) k.2 k.1) last.spans last.inside)
        ∙ spares_none.same e none;
  }

  last_events : z.world.events ≡ last.work.world.events
  last_events = sym (ap (λ (k : World). k.events) last.over.world)

  through : RunsThrough d (IsOnWay x a y last.work) (led_line x front i j) y last.work
  through =
      through_joined d (IsOnWay x a y last.work) front (j ∷ stored_result (plan x) (result_of i)) y S
      last.work
      (still_through d (IsOnWay x a y last.work) y (λ u e. inl e) front y S m.led.still refl m.led.runs) (
        inl m.led.sets.world,
        (
          z,
          (
            z_is,
            one_through d (IsOnWay x a y last.work) (stored_result (plan x) (result_of i)) z last.work
                (short_result x (result_of i)) (inr (last_events, spares_none)) last.over.runs,
          ),
        ),
      )

  done_led : IsDoneLed x homes hides c d w y v a i front
  done_led = record {
    work = last.work;
    over = over_behind;
    cells = last.right;
    set = λ u e.
        subst (λ (env : Env). IsValue homes (value_in v.values u) (value_in env u)) (sym last.values) (set.stands u e);
    others = λ u unset differ.
        ap (λ (env : Env). value_in env u) last.values ∙ set.target u differ
        ∙ still_others d u front y S m.led.still unset m.led.runs;
    room = last.over.room ∙ set.length_target ∙ m.led.sets.room;
    source = set.source;
    source_room = set.length_source;
  }

  pub led_step : StepsLed x homes hides c d w y v a i front (led_line x front i j)
  unfolding done_led last
  led_step = record { led = done_led; runs = through; source_memory = source_same; spares = spares_all }
