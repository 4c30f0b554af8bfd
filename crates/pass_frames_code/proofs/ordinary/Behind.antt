-- Behind an instruction that changes no memory: what stands in the target there, and that of its result.
use Rattle.std.proofs.Common.{◌≡◌, inr, ℕ, ◌<◌, ◌≤◌, Bool, true, List, [], length, sym, ap, ◌∙◌, subst, arith}
use Rattle.std.specs.List.{Contains}
use Rattle.std.specs.Prelude.{Option, Some, slice_get}
use Rattle.pass_proofs.proofs.ir_laws.facts.Members.{each_turns}
use Rattle.pass_proofs.specs.ir_model.Ty.{int}
use Rattle.pass_proofs.specs.ir_model.declared.instr.Instr.{Instr}
use Rattle.pass_proofs.specs.ir_parts.Contents.{result_of}
use Rattle.pass_proofs.specs.pass_cells.Cells.{fetches_of}
use Rattle.pass_proofs.specs.pass_cells.Written.{stored}
use Rattle.pass_proofs.specs.pass_fetch.Instrs.{with_fetched}
use Rattle.pass_proofs.specs.pass_fetch.declared.fetch.Fetch.{Fetch}
use Rattle.pass_frames_code.proofs.lines.Cells.{cell_stays}
use Rattle.pass_frames_code.proofs.lines.Filled.{worlds_stand}
use Rattle.pass_frames_code.proofs.lines.Results.{kept_is_cell, result_stored}
use Rattle.pass_frames_code.proofs.lines.Names.{distance_of}
use Rattle.pass_frames_code.specs.Framings.{IsFraming}
use Rattle.pass_frames_code.specs.Lines.{AreAway, AreInCells, Fills, IsCellOf, LeavesCellsBut, NoneFilled, RunsOver, at_work}
use Rattle.pass_frames_code.specs.Ordinary.{IsMade, IsResultName, MayFetch}
use Rattle.pass_frames_code.specs.Places.{Framing, edged, named, plan}
use Rattle.pass_frames_code.specs.Related.{AreCellsRight, IsDistanceOf}
use Rattle.pass_proofs.specs.run_laws.access.Accessed.{Span}
use Rattle.pass_proofs.specs.run_laws.memory.Pointers.{Home, IsValue}
use Rattle.pass_proofs.specs.run_laws.memory.Standing.{AreByteRights, IsAway}
use Rattle.pass_proofs.specs.run_laws.transfer.Muted.{muted}
use Rattle.pass_proofs.specs.run_laws.transfer.Transfer.{AreOver, AreSet, GoesOver, args_at, given_at, muted_world, same_maps}
use Rattle.pass_proofs.specs.run_memory.Memory.{is_live}
use Rattle.pass_proofs.specs.run_memory.declared.block.MemoryBlock.{MemoryBlock}
use Rattle.pass_proofs.specs.run_source.declared.state.Activation.{Activation}
use Rattle.pass_proofs.specs.run_step.Step.{Action, AtInstr, Context, Done, Work, instr_action}
use Rattle.pass_proofs.specs.run_step.Values.{Env, value_in}
use Rattle.pass_proofs.specs.run_step.declared.world.World.{World}

-- its result has a name of the coroutine, the instruction is executed, and neither program changes its memory
pub record GoesBehind (x : Framing) (homes : List Home) (hides : ℕ → Bool) (c d : Context) (w y v : Work)
    (n : ℕ) (i : Instr) : Type 0 where
  pub step : IsMade homes hides same_maps (fetches_of (plan x)) c d w y n i
  pub given : given_at (AtInstr i) ≡ result_of i
  pub is_done : instr_action c w i ≡ Done v
  pub source_same : v.world.memory ≡ w.world.memory
  pub target_same : (z : Work) → instr_action d step.work (with_fetched (fetches_of (plan x)) n i) ≡ Done z
      → z.world.memory ≡ step.work.world.memory
  pub name : (r : ℕ) → result_of i ≡ Some r → IsResultName x r

module _ (x : Framing) (is : IsFraming x) (homes : List Home) (hides : ℕ → Bool) (c d : Context)
    (law : AreByteRights c.rights) (law' : AreByteRights d.rights) (w y v : Work) (a : Activation) (n : ℕ) (i : Instr)
    (m : MayFetch x homes hides c d w y a n i) (g : GoesBehind x homes hides c d w y v n i) where
  abbrev T : List (Option Fetch)
  T = fetches_of (plan x)

  abbrev AreRight : Env → Work → Type 0
  AreRight env u = AreCellsRight x homes d.rights u.world.memory env (at_work a u)

  pub went : GoesOver c.rights d.rights homes hides same_maps (given_at (AtInstr i)) (args_at (AtInstr i))
      (args_at (AtInstr (with_fetched T n i))) w g.step.work (Done v) (instr_action d g.step.work (with_fetched T n i))
  went =
      subst
      (λ (act : Action). GoesOver c.rights d.rights homes hides same_maps (given_at (AtInstr i)) (args_at (AtInstr i))
      (args_at (AtInstr (with_fetched T n i))) w g.step.work act (instr_action d g.step.work (with_fetched T n i)))
      g.is_done g.step.goes

  abbrev pub done_work : Work
  done_work = went.0

  pub done_is : instr_action d g.step.work (with_fetched T n i) ≡ Done done_work
  done_is = went.1

  pub done_over : AreOver c.rights d.rights homes hides (λ k. k) v.world done_work.world
  done_over = went.2

  pub values_set : AreSet homes (result_of i) w.values g.step.work.values v.values done_work.values
  values_set =
      subst (λ (o : Option ℕ). AreSet homes o w.values g.step.work.values v.values done_work.values) g.given went.3

  same_memory : done_work.world.memory ≡ y.world.memory
  same_memory = g.target_same done_work went.1 ∙ ap (λ (k : World). k.memory) g.step.sets.world

  -- names of cells have what they had
  cells_on : (u : ℕ) → IsCellOf x u → value_in done_work.values u ≡ value_in y.values u
  cells_on u cell =
      let lt : u < length (named x).names = cell.1 in
      let le : length (named x).names ≤ n = m.low in
      values_set.target u (λ e. other cell.0 (g.name u e).low) ∙ g.step.sets.others u (omega (arith, lt, le))
    where
      other : length (edged x).names ≤ u → u < length (edged x).names → ⊥
      other low small = omega (arith, low, small)

  unfilled : Fills d.rights [] y.world.memory done_work.world.memory
  unfilled =
      subst (λ (k : List MemoryBlock). Fills d.rights [] y.world.memory k) (sym same_memory)
      (NoneFilled y.world.memory)

  pub right_behind : AreRight w.values done_work
  right_behind = record {
    values = λ u k kept.
        cell_stays d.rights law' [] y.world.memory done_work.world.memory a y done_work k.cell k.ty (IsValue homes (value_in
        w.values u))
        unfilled (m.cells.values u k kept) tt (cells_on k.cell (kept_is_cell x is u k kept));
    distances = λ u cell slot e root.
        cell_stays d.rights law' [] y.world.memory done_work.world.memory a y done_work cell (int 64)
        (IsDistanceOf (value_in w.values slot) (value_in w.values u)) unfilled (m.cells.distances u cell slot e root) tt
        (cells_on cell (distance_of x is u cell e));
  }

  -- its result is stored
  pub result_behind : (r : ℕ) → result_of i ≡ Some r → LeavesCellsBut x homes d done_work a v.values r n (stored (plan x) r)
  result_behind r e =
      result_stored x is homes d law' w.values v.values a done_work r n m.own (g.name r e).no_root
      (λ u differ. values_set.source u (λ k. differ (same_name u (sym e ∙ k)))) (values_set.stands r e)
      (λ k kept. m.storable v g.is_done r k e kept) right_behind
    where
      same_name : (u : ℕ) → Some r ≡ Some u → u ≡ r
      same_name u k = cc

  -- a line that fills cells keeps the relation of memories
  pub over_line : (k : ℕ) (line : List Instr) (spans : List Span) (u t : Work) → RunsOver d line k spans u t
      → AreInCells x a spans → AreOver c.rights d.rights homes hides (λ k. k) v.world u.world
      → AreOver c.rights d.rights homes hides (λ k. k) v.world t.world
  over_line k line spans u t over inside beside =
      subst (λ (s : World). AreOver c.rights d.rights homes hides (λ k. k) v.world s) (sym over.world)
      (worlds_stand c.rights d.rights law law' homes (λ k. k) (muted_world hides v.world) u.world spans
      t.world.memory over.fills away beside)
    where
      away : AreAway c.rights homes (muted hides v.world.memory) spans
      away =
          each_turns
          (λ (s : Span). (cell : ℕ) × IsCellOf x cell × Contains a.slots (record { alloca = cell; block = s.block }))
          (λ (s : Span). (b : ℕ) (k : MemoryBlock) → slice_get (muted hides v.world.memory) b ≡ Some k
          → is_live k.life ≡ true → IsAway c.rights homes b k s.block s.offset s.len)
          (λ s h b k e live same. absurd (m.free (record { alloca = h.0; block = s.block }) h.2 h.1 b k
          (ap (λ (o : List MemoryBlock). slice_get (muted hides o) b) (sym g.source_same) ∙ e) (inr live) same))
          spans inside
