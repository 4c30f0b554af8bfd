-- A store behind a line that fetches its operands.
use Rattle.std.proofs.Common.{◌≡◌, inr, ℕ, ◌<◌, ◌≤◌, Bool, true, List, [], ◌∷◌, ◌++◌, length, refl, sym, ap, ◌∙◌, subst, arith}
use Rattle.std.specs.Prelude.{None}
use Rattle.pass_proofs.specs.ir_model.Ty.{int, ptr}
use Rattle.pass_proofs.specs.ir_model.declared.instr.Instr.{Instr}
use Rattle.pass_proofs.specs.ir_model.declared.operand.Arg.{Arg}
use Rattle.pass_proofs.specs.ir_model.declared.operand.Operand.{Operand}
use Rattle.pass_proofs.specs.pass_fetch.Fetching.{value_bytes}
use Rattle.pass_proofs.specs.ir_model.Ty.{Ty}
use Rattle.pass_frames_code.proofs.led.Steps.{still_others, still_through}
use Rattle.pass_frames_code.proofs.led.Through.{through_joined}
use Rattle.pass_frames_code.proofs.lines.Names.{distance_of}
use Rattle.pass_frames_code.proofs.lines.Results.{kept_is_cell}
use Rattle.pass_frames_code.proofs.ordinary.Stores.{stands_shown, store_defined}
use Rattle.pass_frames_code.specs.Framings.{IsFraming}
use Rattle.pass_frames_code.specs.Led.{IsDoneLed, MayStepLed, RunsThrough, StoresLed, led_line}
use Rattle.pass_frames_code.specs.Lines.{IsCellOf, at_work}
use Rattle.pass_frames_code.specs.Places.{Framing, named}
use Rattle.pass_frames_code.specs.Related.{AreCellsRight, IsCell, IsDistanceOf}
use Rattle.pass_proofs.proofs.run_laws.access.Done.{free_held}
use Rattle.pass_proofs.proofs.run_laws.access.Touched.{free_untouched}
use Rattle.pass_proofs.proofs.run_laws.embedded.Refills.{step_only}
use Rattle.pass_proofs.proofs.run_laws.embedded.Values.{address_kept}
use Rattle.pass_proofs.proofs.run_laws.transfer.Muted.{shown_address, store_muted}
use Rattle.pass_proofs.proofs.run_laws.transfer.Over.{step_over}
use Rattle.pass_proofs.specs.run_laws.access.Changed.{IsDefined, KeepsFree, LeavesFree}
use Rattle.pass_proofs.specs.run_laws.access.Touched.{AreTouches, WritesAt, touch_of}
use Rattle.pass_proofs.specs.run_laws.embedded.Refilled.{AreRefilled, OnlyRefills}
use Rattle.pass_proofs.specs.run_laws.memory.Pointers.{Home, IsValue}
use Rattle.pass_proofs.specs.run_laws.memory.Standing.{AreByteRights}
use Rattle.pass_proofs.specs.run_laws.transfer.Muted.{muted, muted_work}
use Rattle.pass_proofs.specs.run_laws.transfer.Shapes.{InstrStays, Store}
use Rattle.pass_proofs.specs.run_laws.transfer.Transfer.{AreJoined, AreOver, AreSet, GoesOver, IsTransferred, StandsFor, same_maps}
use Rattle.pass_proofs.specs.run_memory.Memory.{access_bytes, store}
use Rattle.pass_proofs.specs.run_memory.declared.pointer.Value.{Value}
use Rattle.pass_proofs.specs.run_source.declared.state.Activation.{Activation}
use Rattle.pass_proofs.specs.run_step.Step.{Action, AtInstr, Context, Done, Work, action_of, instr_action, is_alignment, value_at}
use Rattle.pass_proofs.specs.run_step.Values.{access_of, address, arg_value, stored, value_in}
use Rattle.pass_proofs.specs.run_step.declared.world.World.{World}

-- a store in the place of a store
pub record IsStore (R : Operand → Operand → Type 0) (given : Arg) (p : Operand) (j : Instr) : Type 0 where
  pub arg : Arg
  pub ty : arg.ty ≡ given.ty
  pub pointer : Operand
  pub align : ℕ
  pub is : j ≡ Instr.Store arg pointer align
  pub related : R p pointer

store_there : (R : Operand → Operand → Type 0) (i j : Instr) → InstrStays R i j → (arg : Arg) (p : Operand) (align : ℕ)
    → i ≡ Instr.Store arg p align → IsStore R arg p j
store_there R _ _ (Store a c y z align h k) arg p al e =
    let same : y ≡ p = cc in
    let one : a ≡ arg = cc in
    record {
      arg = c;
      ty = h.ty ∙ ap (λ (q : Arg). q.ty) one;
      pointer = z;
      align = align;
      is = refl;
      related = subst (λ (q : Operand). R q z) same k;
    }
store_there R _ _ _ arg p align e = absurd (cc)

module _ (x : Framing) (is : IsFraming x) (homes : List Home) (hides : ℕ → Bool) (c d : Context)
    (law : AreByteRights c.rights) (law' : AreByteRights d.rights) (w y v : Work) (a : Activation) (n : ℕ) (arg : Arg)
    (p : Operand) (align : ℕ) (j : Instr) (front : List Instr)
    (is_done : instr_action c w (Instr.Store arg p align) ≡ Done v)
    (m : MayStepLed x homes hides c d w y a n (Instr.Store arg p align) j front) where
  abbrev i : Instr
  i = Instr.Store arg p align

  abbrev S : Work
  S = m.led.work

  there : IsStore (StandsFor true (IsValue homes) c d w.values S.values) arg p j
  there = store_there (StandsFor true (IsValue homes) c d w.values S.values) i j m.led.shape arg p align refl

  abbrev k : Instr
  k = Instr.Store there.arg there.pointer there.align

  joined : AreJoined homes hides same_maps c d w S
  joined = record {
    over = subst (λ (z : World). AreOver c.rights d.rights homes hides same_maps.declaration w.world z)
        (sym m.led.sets.world) m.joined.over;
    hidden = m.joined.hidden;
    answers = m.joined.answers;
    room = subst (λ (z : ℕ). length w.values ≤ z) (sym m.led.sets.room) m.joined.room;
  }

  transferred : IsTransferred (IsValue homes) same_maps c d w.values S.values (AtInstr i) (AtInstr k)
  transferred = record {
    shape = subst (λ (z : Instr). InstrStays (StandsFor true (IsValue homes) c d w.values S.values) i z) there.is
        m.led.shape;
    callee = tt;
    pointed = tt;
    distance = tt;
    cases = tt;
    no_slot = tt;
    bytes = m.bytes;
  }

  went : GoesOver c.rights d.rights homes hides same_maps None [] [] w S (Done v) (instr_action d S k)
  went =
      subst (λ (act : Action). GoesOver c.rights d.rights homes hides same_maps None [] [] w S act
      (instr_action d S k))
      is_done (step_over homes hides same_maps c d w S (AtInstr i) (AtInstr k) law law' joined transferred)

  abbrev z : Work
  z = went.0

  set : AreSet homes None w.values S.values v.values z.values
  set = went.3

  -- ---- what is free stays

  leads : IsValue homes (value_at c w ptr p) (value_at d S ptr there.pointer)
  leads = there.related ptr

  touches : AreTouches homes (touch_of c (muted_work hides w) (AtInstr i)) (touch_of d S (AtInstr k))
  touches = (
    address (value_at d S ptr there.pointer),
    (
      ap (λ (ty : Ty). WritesAt (address (value_at d S ptr there.pointer)) (access_bytes (access_of ty))) there.ty,
      address_kept homes (value_at c w ptr p) (value_at d S ptr there.pointer) leads,
    ),
  )

  defined : IsDefined (action_of c (muted_work hides w) (AtInstr i))
  defined =
      store_defined hides w (muted_work hides w) v (is_alignment align)
      (store c.rights w.world.memory (address (value_at c w ptr p))
      (stored (access_of arg.ty) (arg_value c.code w.values arg)) (access_of arg.ty) align)
      (store c.rights (muted hides w.world.memory) (address (value_at c w ptr p))
      (stored (access_of arg.ty) (arg_value c.code w.values arg)) (access_of arg.ty) align)
      (store_muted hides c.rights w.world.memory (address (value_at c w ptr p))
      (stored (access_of arg.ty) (arg_value c.code w.values arg)) (access_of arg.ty) align
      (shown_address hides (value_at c w ptr p)
      (stands_shown homes hides joined.hidden (value_at c w ptr p) (value_at d S ptr there.pointer) leads))) is_done

  keeps : KeepsFree c.rights homes (muted hides w.world.memory) S.world.memory z.world.memory
  keeps =
      subst (λ (act : Action). LeavesFree c.rights homes (muted hides w.world.memory) S.world.memory act) went.1
      (free_untouched homes c d (muted_work hides w) S (AtInstr i) (AtInstr k) law joined.over.memory tt tt touches
      defined)

  keeps_there : KeepsFree c.rights homes (muted hides w.world.memory) y.world.memory z.world.memory
  keeps_there =
      subst (λ (u : World). KeepsFree c.rights homes (muted hides w.world.memory) u.memory z.world.memory)
      m.led.sets.world keeps

  refilled : AreRefilled w.world.memory v.world.memory
  refilled = subst (OnlyRefills w.world.memory) is_done (step_only c w (AtInstr i) tt)

  -- ---- cells stay

  cell_kept : (cell : ℕ) (ty : Ty) (Has : Value → Type 0) → IsCellOf x cell
      → IsCell d.rights y.world.memory (at_work a y) cell ty Has
      → IsCell d.rights z.world.memory (at_work a z) cell ty Has
  cell_kept cell ty Has of h =
      let lt : cell < length (named x).names = of.1 in
      let low : length (named x).names ≤ n = m.low in
      record {
        block = h.block;
        address = set.target cell (λ e. absurd (cc)) ∙ m.led.sets.others cell (omega (arith, lt, low)) ∙ h.address;
        own = h.own;
        bytes = h.bytes;
        sized = h.sized;
        holds = free_held c.rights d.rights homes (muted hides w.world.memory) y.world.memory z.world.memory h.block 0
            (value_bytes ty) h.bytes law' keeps_there h.holds
            (λ q less. record {
              each = λ b o t e live small opens same at.
                  m.free (record { alloca = cell; block = h.block }) h.own of b t e (inr live) same;
            });
        has = h.has;
      }

  same : (u : ℕ) → value_in v.values u ≡ value_in w.values u
  same u = set.source u (λ e. absurd (cc))

  right : AreCellsRight x homes d.rights z.world.memory v.values (at_work a z)
  right = record {
    values = λ u q kept.
        cell_kept q.cell q.ty (IsValue homes (value_in v.values u)) (kept_is_cell x is u q kept)
        (subst (λ (t : Value). IsCell d.rights y.world.memory (at_work a y) q.cell q.ty (IsValue homes t)) (sym
        (same u))
        (m.cells.values u q kept));
    distances = λ u cell slot e root.
        cell_kept cell (int 64) (IsDistanceOf (value_in v.values slot) (value_in v.values u))
        (distance_of x is u cell e)
        (subst
        (λ (t : Value × Value). IsCell d.rights y.world.memory (at_work a y) cell (int 64) (IsDistanceOf t.0 t.1))
        (λ q. (sym (same slot) q, sym (same u) q)) (m.cells.distances u cell slot e root));
  }

  led_done : IsDoneLed x homes hides c d w y v a i front
  led_done = record {
    work = z;
    over = went.2;
    cells = right;
    set = λ r e. absurd (cc);
    others = λ u unset differ.
        set.target u (λ e. absurd (cc)) ∙ still_others d u front y S m.led.still unset m.led.runs;
    room = set.length_target ∙ m.led.sets.room;
    source = λ u differ. same u;
    source_room = set.length_source;
  }

  j_is : instr_action d S j ≡ Done z
  j_is = ap (instr_action d S) there.is ∙ went.1

  through : RunsThrough d (λ u. u.world ≡ y.world) (front ++ (j ∷ [])) y z
  through =
      through_joined d (λ u. u.world ≡ y.world) front (j ∷ []) y S z
      (still_through d (λ u. u.world ≡ y.world) y (λ u e. e) front y S m.led.still refl m.led.runs)
      (m.led.sets.world, (z, (j_is, refl)))

  pub led_store : StoresLed x homes hides c d w y v a i front (led_line x front i j)
  unfolding led_done
  led_store = record { led = led_done; runs = through; refilled = refilled; keeps = keeps_there }
