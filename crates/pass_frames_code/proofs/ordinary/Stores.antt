-- A store leaves the cells as they are.
use Rattle.std.proofs.Common.{◌≡◌, inr, ℕ, ◌<◌, ◌≤◌, Bool, true, false, List, [], ◌∷◌, length, refl, sym, ◌∙◌, subst, arith}
use Rattle.std.specs.Prelude.{Err, None, Ok, Option, Result, if◌then◌else◌}
use Rattle.pass_proofs.specs.ir_base.declared.cause.Cause.{Cause}
use Rattle.pass_proofs.specs.ir_model.Ty.{Ty, int, ptr}
use Rattle.pass_proofs.specs.ir_model.declared.instr.Instr.{Instr}
use Rattle.pass_proofs.specs.ir_model.declared.operand.Arg.{Arg}
use Rattle.pass_proofs.specs.ir_model.declared.operand.Operand.{Operand}
use Rattle.pass_proofs.specs.ir_parts.Contents.{instr_operands}
use Rattle.pass_proofs.specs.pass_cells.Cells.{fetches_of}
use Rattle.pass_proofs.specs.pass_fetch.Fetching.{fetched_operand, fetches_of_all, next_after}
use Rattle.pass_proofs.specs.pass_fetch.Instrs.{with_fetched}
use Rattle.pass_proofs.specs.pass_fetch.declared.fetch.Fetch.{Fetch}
use Rattle.pass_frames_code.proofs.lines.Results.{kept_is_cell}
use Rattle.pass_frames_code.proofs.lines.Names.{distance_of}
use Rattle.pass_frames_code.proofs.ordinary.Made.{first, joined, transferred}
use Rattle.pass_frames_code.proofs.ordinary.Operands.{may_make}
use Rattle.pass_frames_code.specs.Fetched.{AreFetched}
use Rattle.pass_frames_code.specs.Framings.{IsFraming}
use Rattle.pass_frames_code.specs.Lines.{IsCellOf, at_work}
use Rattle.pass_frames_code.specs.Loaded.{loaded_value}
use Rattle.pass_frames_code.specs.Ordinary.{MayBeMade, MayStep, Steps}
use Rattle.pass_frames_code.specs.Places.{Framing, named, plan}
use Rattle.pass_frames_code.specs.Related.{AreCellsRight, IsCell, IsDistanceOf}
use Rattle.pass_proofs.specs.pass_fetch.Fetching.{value_bytes}
use Rattle.pass_proofs.proofs.run_laws.access.Done.{free_held}
use Rattle.pass_proofs.proofs.run_laws.access.Lines.{runs_append}
use Rattle.pass_proofs.proofs.run_laws.access.Touched.{free_untouched}
use Rattle.pass_proofs.proofs.run_laws.embedded.Values.{address_kept}
use Rattle.pass_proofs.proofs.run_laws.transfer.Muted.{muted_result, shown_address, store_muted}
use Rattle.pass_proofs.proofs.run_laws.transfer.Over.{step_over}
use Rattle.pass_proofs.specs.run_laws.access.Changed.{IsDefined, KeepsFree, LeavesFree}
use Rattle.pass_proofs.specs.run_laws.access.Lines.{Holds}
use Rattle.pass_proofs.specs.run_laws.access.Touched.{AreTouches, touch_of}
use Rattle.pass_proofs.specs.run_laws.memory.Pointers.{Home, IsValue, home_of}
use Rattle.pass_proofs.specs.run_laws.memory.Standing.{AreByteRights}
use Rattle.pass_proofs.specs.run_laws.transfer.Muted.{IsShown, muted, muted_work}
use Rattle.pass_proofs.specs.run_laws.transfer.Transfer.{AreJoined, AreSet, GoesOver, IsTransferred, same_maps}
use Rattle.pass_proofs.specs.run_memory.Memory.{store}
use Rattle.pass_proofs.specs.run_memory.declared.block.MemoryBlock.{MemoryBlock}
use Rattle.pass_proofs.specs.run_memory.declared.pointer.Pointer.{Pointer}
use Rattle.pass_proofs.specs.run_memory.declared.pointer.Value.{Value}
use Rattle.pass_proofs.specs.run_source.declared.state.Activation.{Activation}
use Rattle.pass_proofs.specs.run_step.Step.{Action, AtInstr, Context, Done, Stuck, Work, action_of, done, instr_action, is_alignment, set_memory, value_at}
use Rattle.pass_proofs.specs.run_step.Values.{access_of, address, arg_value, stored, value_in}
use Rattle.pass_proofs.specs.run_step.declared.world.World.{World}

-- ---- a store is defined where some blocks count as dead

-- a pointer that stands leads into no hidden block
pub stands_shown : (homes : List Home) (hides : ℕ → Bool)
    → ((b : ℕ) → hides b ≡ true → (home_of homes b).is_seen ≡ false) → (v u : Value) → IsValue homes v u
    → IsShown hides v
stands_shown homes hides hidden Value.Poison u h = tt
stands_shown homes hides hidden (Value.Int k) u h = tt
stands_shown homes hides hidden (Value.Ptr Pointer.Null) u h = tt
stands_shown homes hides hidden (Value.Ptr (Pointer.Func f)) u h = tt
stands_shown homes hides hidden (Value.Ptr (Pointer.At b o)) u h = on (hides b) refl
  where
    on : (t : Bool) → hides b ≡ t → hides b ≡ false
    on false e = e
    on true e = let no : true ≡ false = sym h.0 ∙ hidden b e in absurd (cc)

pub store_defined : (hides : ℕ → Bool) (w u v : Work) (t : Bool) (r s : Result (List MemoryBlock) Cause)
    → s ≡ muted_result hides r → (if t then done (set_memory w) r else Stuck Cause.Align) ≡ Done v
    → IsDefined (if t then done (set_memory u) s else Stuck Cause.Align)
store_defined hides w u v false r s same e = absurd (cc)
store_defined hides w u v true (Err cause) s same e = absurd (cc)
store_defined hides w u v true (Ok k) s same e =
    subst (λ (z : Result (List MemoryBlock) Cause). IsDefined (done (set_memory u) z)) (sym same) tt

-- ---- the step

module _ (x : Framing) (is : IsFraming x) (homes : List Home) (hides : ℕ → Bool) (c d : Context)
    (law : AreByteRights c.rights) (law' : AreByteRights d.rights) (w y v : Work) (a : Activation) (n : ℕ) (arg : Arg)
    (p : Operand) (align : ℕ) (is_done : instr_action c w (Instr.Store arg p align) ≡ Done v)
    (m : MayStep x homes hides c d w y a n (Instr.Store arg p align)) where
  abbrev T : List (Option Fetch)
  T = fetches_of (plan x)

  abbrev i : Instr
  i = Instr.Store arg p align

  abbrev j : Instr
  j = with_fetched T n i

  may : MayBeMade homes hides same_maps T (loaded_value x d y) c d w y n i
  may = may_make x is homes hides c d w y a n i m.operands tt (λ z sets seen. tt) tt

  abbrev step : AreFetched T (loaded_value x d y) d n (instr_operands i) y
  step = first homes hides same_maps T (loaded_value x d y) c d law law' w y n i may

  abbrev S : Work
  S = step.work

  beside : AreJoined homes hides same_maps c d w S
  beside = joined homes hides same_maps T (loaded_value x d y) c d law law' w y n i may

  turned : IsTransferred (IsValue homes) same_maps c d w.values S.values (AtInstr i) (AtInstr j)
  turned = transferred homes hides same_maps T (loaded_value x d y) c d law law' w y n i may

  went : GoesOver c.rights d.rights homes hides same_maps None [] [] w S (Done v) (instr_action d S j)
  went =
      subst (λ (act : Action). GoesOver c.rights d.rights homes hides same_maps None [] [] w S act
      (instr_action d S j))
      is_done (step_over homes hides same_maps c d w S (AtInstr i) (AtInstr j) law law' beside turned)

  abbrev z : Work
  z = went.0

  set : AreSet homes None w.values S.values v.values z.values
  set = went.3

  -- ---- what is free stays

  leads : IsValue homes (value_at c w ptr p) (value_at d S ptr (fetched_operand T (next_after T n arg.value) p))
  leads =
      subst (IsValue homes (value_at c w ptr p))
      (sym (step.seen.1.0 ptr))
      (may.seen.1.0 ptr)

  touches : AreTouches homes (touch_of c (muted_work hides w) (AtInstr i)) (touch_of d S (AtInstr j))
  touches = (
    address (value_at d S ptr (fetched_operand T (next_after T n arg.value) p)),
    (
      refl,
      address_kept homes (value_at c w ptr p) (value_at d S ptr (fetched_operand T
          (next_after T n arg.value) p)) leads,
    ),
  )

  defined : IsDefined (action_of c (muted_work hides w) (AtInstr i))
  defined =
      store_defined hides w (muted_work hides w) v (is_alignment align)
      (store c.rights w.world.memory (address (value_at c w ptr p))
      (stored (access_of arg.ty) (arg_value c.code w.values arg)) (access_of arg.ty) align)
      (store c.rights (muted hides w.world.memory) (address (value_at c w ptr p))
      (stored (access_of arg.ty) (arg_value c.code w.values arg)) (access_of arg.ty) align)
      (store_muted hides c.rights w.world.memory (address (value_at c w ptr p))
      (stored (access_of arg.ty) (arg_value c.code w.values arg)) (access_of arg.ty) align
      (shown_address hides (value_at c w ptr p)
      (stands_shown homes hides beside.hidden (value_at c w ptr p)
      (value_at d S ptr (fetched_operand T (next_after T n arg.value) p)) leads))) is_done

  keeps : KeepsFree c.rights homes (muted hides w.world.memory) S.world.memory z.world.memory
  keeps =
      subst (λ (act : Action). LeavesFree c.rights homes (muted hides w.world.memory) S.world.memory act) went.1
      (free_untouched homes c d (muted_work hides w) S (AtInstr i) (AtInstr j) law beside.over.memory tt tt touches
      defined)

  -- ---- cells stay

  cell_kept : (cell : ℕ) (ty : Ty) (Has : Value → Type 0) → IsCellOf x cell
      → IsCell d.rights y.world.memory (at_work a y) cell ty Has
      → IsCell d.rights z.world.memory (at_work a z) cell ty Has
  cell_kept cell ty Has of h =
      let lt : cell < length (named x).names = of.1 in
      let low : length (named x).names ≤ n = m.operands.low in
      record {
        block = h.block;
        address = set.target cell (λ e. absurd (cc)) ∙ step.sets.others cell (omega (arith, lt, low)) ∙ h.address;
        own = h.own;
        bytes = h.bytes;
        sized = h.sized;
        holds = free_held c.rights d.rights homes (muted hides w.world.memory) S.world.memory z.world.memory h.block 0
            (value_bytes ty) h.bytes law' keeps
            (subst (λ (u : World). Holds d.rights u.memory h.block 0 (value_bytes ty) h.bytes) (sym step.sets.world)
            h.holds)
            (λ k less. record {
              each = λ b o t e live small opens same at.
                  m.operands.free (record { alloca = cell; block = h.block }) h.own of b t e (inr live) same;
            });
        has = h.has;
      }

  same : (u : ℕ) → value_in v.values u ≡ value_in w.values u
  same u = set.source u (λ e. absurd (cc))

  right : AreCellsRight x homes d.rights z.world.memory v.values (at_work a z)
  right = record {
    values = λ u k kept.
        cell_kept k.cell k.ty (IsValue homes (value_in v.values u)) (kept_is_cell x is u k kept)
        (subst (λ (t : Value). IsCell d.rights y.world.memory (at_work a y) k.cell k.ty (IsValue homes t)) (sym
        (same u))
        (m.operands.cells.values u k kept));
    distances = λ u cell slot e root.
        cell_kept cell (int 64) (IsDistanceOf (value_in v.values slot) (value_in v.values u))
        (distance_of x is u cell e)
        (subst
        (λ (t : Value × Value). IsCell d.rights y.world.memory (at_work a y) cell (int 64) (IsDistanceOf t.0 t.1))
        (λ k. (sym (same slot) k, sym (same u) k)) (m.operands.cells.distances u cell slot e root));
  }

  pub store_step : Steps x homes hides c d y v a n i
  store_step = record {
    work = z;
    runs = runs_append d (fetches_of_all T n (instr_operands i)) (j ∷ []) y S z step.runs (z, (went.1, refl));
    over = went.2;
    cells = right;
    set = λ r e. absurd (cc);
    others = λ u lt differ. set.target u (λ e. absurd (cc)) ∙ step.sets.others u lt;
    room = set.length_target ∙ step.sets.room;
  }

pub store_made : (x : Framing) → IsFraming x → (homes : List Home) (hides : ℕ → Bool) (c d : Context)
    → AreByteRights c.rights → AreByteRights d.rights → (w y v : Work) (a : Activation) (n : ℕ) (arg : Arg)
    (p : Operand) (align : ℕ) → instr_action c w (Instr.Store arg p align) ≡ Done v
    → MayStep x homes hides c d w y a n (Instr.Store arg p align)
    → Steps x homes hides c d y v a n (Instr.Store arg p align)
store_made x is homes hides c d law law' w y v a n arg p align e m =
    store_step x is homes hides c d law law' w y v a n arg p align e m
