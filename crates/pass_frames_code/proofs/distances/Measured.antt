-- Behind a getelementptr its distance is summed and stored.
use Rattle.std.proofs.Common.{◌≡◌, ◌⊎◌, inl, inr, ⊎_elim, ℕ, ◌+◌, ◌^◌, ◌<◌, ◌≤◌, List, [], ◌∷◌, ◌++◌, length, refl, sym, ap, ◌∙◌, subst, arith}
use Rattle.std.specs.List.{Contains}
use Rattle.std.specs.Prelude.{None, Option, Some}
use Rattle.pass_proofs.proofs.ir_laws.facts.Members.{each_turns}
use Rattle.pass_proofs.proofs.ir_laws.facts.Truth.{is_number}
use Rattle.pass_proofs.specs.ir_model.Ty.{Ty, int}
use Rattle.pass_proofs.specs.ir_model.declared.instr.Instr.{Instr}
use Rattle.pass_proofs.specs.ir_model.declared.operand.Arg.{Arg}
use Rattle.pass_proofs.specs.ir_model.declared.operand.Operand.{Operand}
use Rattle.pass_proofs.specs.pass_cells.Kept.{entry}
use Rattle.pass_proofs.specs.pass_cells.Written.{distance_from}
use Rattle.pass_proofs.specs.pass_distances.Sums.{distance_instrs, distance_next, start_instrs, start_value, sum_instrs, sum_value}
use Rattle.pass_proofs.specs.pass_distances.Ways.{ways_of}
use Rattle.pass_proofs.specs.pass_distances.declared.way.Way.{Way}
use Rattle.pass_frames_code.proofs.distances.Apart.{distances_differ}
use Rattle.pass_frames_code.proofs.distances.Sums.{literal_number, next_rises, set_from, sets_none, sets_on, sums_up, summed_same, value_set, ways_below}
use Rattle.pass_frames_code.proofs.distances.Ways.{distance_sum}
use Rattle.pass_frames_code.proofs.lines.Cells.{AreOf, StoresOperand, cell_has, cell_loads, cell_on, cell_stays, inside_of, kept_type, operand_stores}
use Rattle.pass_frames_code.proofs.lines.Filled.{over_joined, over_sets}
use Rattle.pass_frames_code.proofs.lines.Results.{distance_apart}
use Rattle.pass_frames_code.proofs.lines.Fillers.{distance_stored}
use Rattle.pass_frames_code.proofs.lines.Names.{distance_low, distance_of, kept_low}
use Rattle.pass_frames_code.specs.Distances.{IsBelow, IsNumber, SetsFrom, SumsUp, summed}
use Rattle.pass_frames_code.specs.Framings.{IsFraming}
use Rattle.pass_frames_code.specs.Lines.{IsCellOf, LoadsCell, RunsOver, at_work}
use Rattle.pass_frames_code.specs.Measured.{IsBase, IsMoved, MayMeasure, Measures}
use Rattle.pass_frames_code.specs.Places.{Framing, named, plan}
use Rattle.pass_frames_code.specs.Related.{Anything, IsCell, IsDistanceOf, root_of}
use Rattle.pass_proofs.proofs.run_laws.access.Lines.{runs_append}
use Rattle.pass_proofs.specs.run_laws.access.Accessed.{Span}
use Rattle.pass_proofs.specs.run_laws.access.Lines.{Runs}
use Rattle.pass_proofs.specs.run_laws.memory.Pointers.{Home, IsValue}
use Rattle.pass_proofs.specs.run_laws.memory.Standing.{AreByteRights}
use Rattle.pass_proofs.specs.run_memory.Pointers.{moved, offset_of}
use Rattle.pass_proofs.specs.run_memory.declared.pointer.Access.{Access}
use Rattle.pass_proofs.specs.run_memory.declared.pointer.Offset.{Offset}
use Rattle.pass_proofs.specs.run_memory.declared.pointer.Pointer.{Pointer}
use Rattle.pass_proofs.specs.run_memory.declared.pointer.Value.{Value}
use Rattle.pass_proofs.specs.run_source.declared.state.Activation.{Activation}
use Rattle.pass_proofs.specs.run_step.Step.{Context, Work, set_value, value_at}
use Rattle.pass_proofs.specs.run_step.Values.{Env, distance, indices_of, plus, pointer_to, stored, value_in}

below_start : (n : ℕ) (from : Option ℕ) → IsBelow (n + 1) (start_value n from)
below_start n None = tt
below_start n (Some cell) = omega arith

module _ (x : Framing) (is : IsFraming x) (homes : List Home) (c : Context) (law : AreByteRights c.rights) (a :
    Activation)
    (w : Work) (env : Env) (v cell slot n : ℕ) (ty : Ty) (args : List Arg)
    (m : MayMeasure x homes c w a env v cell slot n ty args) where
  abbrev ws : List Way
  ws = ways_of x.code ty args

  abbrev Cell : Work → ℕ → Ty → (Value → Type 0) → Type 0
  Cell u name t Has = IsCell c.rights u.world.memory (at_work a u) name t Has

  abbrev Far : Value → Type 0
  Far d = IsDistanceOf (value_in env slot) (value_in env v) d

  -- ---- where the sum starts

  -- the address is so far behind one whose distance is this
  abbrev IsMeant : Option ℕ → Type 0
  IsMeant d =
      (value_in env v ≡ Value.Poison)
      ⊎ ((block : ℕ) × (o : Offset) × (far : ℕ) × (d ≡ Some o.bits) × (o.bits < 2 ^ 64)
      × (value_in env slot ≡ pointer_to block) × (distance c.code ty (indices_of c.code w.values args) ≡ Some far)
      × (value_in env v ≡ Value.Ptr (Pointer.At block (moved o far))))

  record IsStart (from : Option ℕ) : Type 0 where
    work : Work
    runs : Runs c (start_instrs n from) w work
    sets : SetsFrom n w work
    sum : Option ℕ
    number : IsNumber sum (value_at c work (int 64) (start_value n from))
    meant : IsMeant sum

  start_none : (base : Value) → IsBase x env v slot None base → IsMoved c.code w.values base (value_in env v) ty args
      → IsStart None
  start_none base b moves = record {
    work = w;
    runs = refl;
    sets = sets_none n w;
    sum = Some 0;
    number = literal_number 0 (omega arith);
    meant = on moves;
  }
    where
      on : IsMoved c.code w.values base (value_in env v) ty args → IsMeant (Some 0)
      on (inl e) = inl e
      on (inr h) =
          let same : Value.Ptr (Pointer.At h.0 h.1) ≡ Value.Ptr (Pointer.At b.0 (offset_of 0)) = sym h.3 ∙ b.2 ∙ b.1 in
          let block : h.0 ≡ b.0 = cc in
          let at : h.1 ≡ offset_of 0 = cc in
          inr (
            h.0,
            h.1,
            h.2,
            ap (λ (o : Offset). Some o.bits) (sym at),
            subst (λ (o : Offset). o.bits < 2 ^ 64) (sym at) (omega arith),
            b.1 ∙ ap pointer_to (sym block),
            h.4,
            h.5,
          )

  start_some : (from : ℕ) (base : Value) → n < length w.values → IsBase x env v slot (Some from) base
      → IsMoved c.code w.values base (value_in env v) ty args → IsStart (Some from)
  start_some from base room b moves =
      let Has : Value → Type 0 = IsDistanceOf (value_in env slot) (value_in env b.0) in
      let h : Cell w from (int 64) Has = m.right.distances b.0 from slot b.3 b.1 b.2 in
      let l : LoadsCell c w n from (int 64) Has = cell_loads c w a n from (int 64) Has (kept_type (int 64) refl) h in
      ⊎_elim (none l) (some l) l.has
    where
      none : (l : LoadsCell c w n from (int 64) (IsDistanceOf (value_in env slot) (value_in env b.0)))
          → value_in env b.0 ≡ Value.Poison → IsStart (Some from)
      none l gone = record {
        work = set_value w n l.value;
        runs = (set_value w n l.value, (l.is, refl));
        sets = set_from w n n l.value (omega arith);
        sum = None;
        number = tt;
        meant = ⊎_elim (λ e. inl e)
            (λ (h : (block : ℕ) × (o : Offset) × (far : ℕ) × (base ≡ Value.Ptr (Pointer.At block o))
            × (distance c.code ty (indices_of c.code w.values args) ≡ Some far)
            × (value_in env v ≡ Value.Ptr (Pointer.At block (moved o far)))).
            let no : Value.Ptr (Pointer.At h.0 h.1) ≡ Value.Poison = sym h.3 ∙ b.4 ∙ gone in absurd (cc))
            moves;
      }

      some : (l : LoadsCell c w n from (int 64) (IsDistanceOf (value_in env slot) (value_in env b.0)))
          → ((block : ℕ) × (o : Offset) × (value_in env slot ≡ pointer_to block)
          × (value_in env b.0 ≡ Value.Ptr (Pointer.At block o)) × (o.bits < 2 ^ 64)
          × (l.value ≡ Value.Int (record { width = 64; bits = o.bits })))
          → IsStart (Some from)
      some l k = record {
        work = set_value w n l.value;
        runs = (set_value w n l.value, (l.is, refl));
        sets = set_from w n n l.value (omega arith);
        sum = Some k.1.bits;
        number = (value_set w n n l.value room ∙ k.5, k.4);
        meant = ⊎_elim (λ e. inl e)
            (λ (h : (block : ℕ) × (o : Offset) × (far : ℕ) × (base ≡ Value.Ptr (Pointer.At block o))
            × (distance c.code ty (indices_of c.code w.values args) ≡ Some far)
            × (value_in env v ≡ Value.Ptr (Pointer.At block (moved o far)))).
            let same : Value.Ptr (Pointer.At h.0 h.1) ≡ Value.Ptr (Pointer.At k.0 k.1) = sym h.3 ∙ b.4 ∙ k.3 in
            let block : h.0 ≡ k.0 = cc in
            let at : h.1 ≡ k.1 = cc in
            inr (
              h.0,
              h.1,
              h.2,
              ap (λ (o : Offset). Some o.bits) (sym at),
              subst (λ (o : Offset). o.bits < 2 ^ 64) (sym at) k.4,
              k.2 ∙ ap pointer_to (sym block),
              h.4,
              h.5,
            ))
            moves;
      }

  start : (from : Option ℕ) → IsBase x env v slot from m.base → IsStart from
  start None b = start_none m.base b m.is_moved
  start (Some from) b =
      let rises : n + 1 ≤ distance_next n ws = next_rises (n + 1) ws in
      let room : distance_next n ws ≤ length w.values = m.room in
      start_some from m.base (omega (arith, rises, room)) b m.is_moved

  -- ---- the sum is the distance

  measured : (from : Option ℕ) (s : IsStart from)
      (u : SumsUp c (n + 1) (start_value n from) s.sum ws s.work)
      → Far (value_at c u.work (int 64) (sum_value (n + 1) (start_value n from) ws))
  measured from s u = ⊎_elim (λ e. inl e) there s.meant
    where
      there : ((block : ℕ) × (o : Offset) × (far : ℕ) × (s.sum ≡ Some o.bits) × (o.bits < 2 ^ 64)
          × (value_in env slot ≡ pointer_to block) × (distance c.code ty (indices_of c.code w.values args) ≡ Some far)
          × (value_in env v ≡ Value.Ptr (Pointer.At block (moved o far))))
          → Far (value_at c u.work (int 64) (sum_value (n + 1) (start_value n from) ws))
      there h =
          let total : summed c.code s.work.values s.sum ws ≡ plus (Some h.1.bits) (Some h.2) =
          summed_same c n w s.work s.sum ws s.sets m.below
          ∙ ap (λ (d : Option ℕ). summed c.code w.values d ws) h.3
          ∙ ap (λ (ways : List Way). summed c.code w.values (Some h.1.bits) ways) (sym m.ways)
          ∙ distance_sum c.code w.values ty args h.1.bits h.2 h.4 m.fields h.6 in
          let got : Value = value_at c u.work (int 64) (sum_value (n + 1) (start_value n from) ws) in
          let number : IsNumber (plus (Some h.1.bits) (Some h.2)) got =
          subst (λ (d : Option ℕ). IsNumber d got) total u.sum in
          inr (h.0, moved h.1 h.2, h.5, h.7, number.1, number.0)

  -- ---- the whole line

  line_done : (from : Option ℕ) → distance_from (plan x) v ≡ from → IsBase x env v slot from m.base
      → Measures x homes c w a env v cell n ty args
  line_done from is_from b =
      let rises : n + 1 ≤ distance_next n ws = next_rises (n + 1) ws in
      let room : distance_next n ws ≤ length w.values = m.room in
      let low : length (named x).names ≤ n = m.low in
      let s : IsStart from = start from b in
      let same : length s.work.values ≡ length w.values = s.sets.room in
      let u : SumsUp c (n + 1) (start_value n from) s.sum ws s.work =
      sums_up c (n + 1) (start_value n from) s.sum ws s.work (below_start n from)
      (ways_below n (n + 1) ws (omega arith) m.below) (omega (arith, room, same)) s.number in
      let y : Operand = sum_value (n + 1) (start_value n from) ws in
      let sums : List Instr = start_instrs n from ++ sum_instrs (n + 1) (start_value n from) ws in
      let over1 : RunsOver c sums n [] w u.work =
      over_sets c sums n w u.work
      (runs_append c (start_instrs n from) (sum_instrs (n + 1) (start_value n from) ws) w s.work u.work s.runs u.runs)
      (sets_on n (n + 1) w s.work u.work (omega arith) s.sets u.sets) in
      let cell_lt : cell < length (named x).names = distance_low x is v cell m.told in
      let there : Cell u.work cell (int 64) Anything =
      cell_stays c.rights law [] w.world.memory u.work.world.memory a w u.work cell (int 64) Anything over1.fills
      m.there
      tt (over1.others cell (omega (arith, cell_lt, low))) in
      let t : StoresOperand c u.work a y cell (int 64) n =
      operand_stores c u.work a law y cell n (int 64) Anything (kept_type (int 64) refl) there in
      let of : AreOf c law a m.own cell t.spans =
      inside_of c law a m.own cell t.cell_is.block t.spans t.cell_is.own t.inside in
      let line : List Instr =
      sums ++ (Instr.Store (record { ty = int 64; value = y }) (Operand.Local cell) 8 ∷ []) in
      let over : RunsOver c line n t.spans w t.work =
      over_joined c sums (Instr.Store (record { ty = int 64; value = y }) (Operand.Local cell) 8 ∷ []) n [] t.spans w
      u.work t.work over1 t.over in
      let here : Cell t.work cell (int 64) Far =
      cell_has c.rights t.work.world.memory (at_work a t.work) cell (int 64)
      (λ (z : Value). z ≡ stored (Access.Int 64) (value_at c u.work (int 64) y)) Far
      (λ z e. subst Far (sym e)
      (distance_stored (value_in env slot) (value_in env v) (value_at c u.work (int 64) y) (measured from s u)))
      t.cell_is in
      record {
        work = t.work;
        spans = t.spans;
        over = subst (λ (o : Option ℕ). RunsOver c (distance_instrs n o cell ws) n t.spans w t.work) (sym is_from) over;
        inside = each_turns (λ (z : Span). Contains a.slots (record { alloca = cell; block = z.block }))
            (λ (z : Span). (name : ℕ) × IsCellOf x name × Contains a.slots (record { alloca = name; block = z.block }))
            (λ z co. (cell, distance_of x is v cell m.told, co)) t.spans of;
        right = record {
          values = λ i j kept.
              let lt : j.cell < length (named x).names = kept_low x is i j kept in
              cell_on c law a m.own line n cell j.cell j.ty (IsValue homes (value_in env i)) t.spans w t.work over of
              (omega (arith, lt, low)) (λ e. distance_apart x is v cell i j m.told kept (sym e)) (m.right.values i
              j kept);
          distances = λ i other root told at_root. ⊎_elim
              {C = Cell t.work other (int 64) (IsDistanceOf (value_in env root) (value_in env i))}
              (λ (e : i ≡ v). own_cell t.work here i other root told at_root e)
              (λ d.
              let lt : other < length (named x).names = distance_low x is i other told in
              cell_on c law a m.own line n cell other (int 64) (IsDistanceOf (value_in env root) (value_in env i))
              t.spans
              w t.work over of (omega (arith, lt, low)) (distances_differ x is i v other cell told m.told d)
              (m.right.distances i other root d told at_root))
              (is_number i v);
        };
      }
    where
      own_cell : (z : Work) → Cell z cell (int 64) Far → (i other root : ℕ) → entry (plan x).cells i ≡ Some other
          → root_of x i ≡ Some root → i ≡ v
          → Cell z other (int 64) (IsDistanceOf (value_in env root) (value_in env i))
      own_cell z h i other root told at_root e =
          let one : Some cell ≡ Some other = sym m.told ∙ ap (entry (plan x).cells) (sym e) ∙ told in
          let two : Some slot ≡ Some root = sym m.root ∙ ap (root_of x) (sym e) ∙ at_root in
          let same : cell ≡ other = cc in
          let same_root : slot ≡ root = cc in
          subst (λ (u : ℕ). Cell z u (int 64) (IsDistanceOf (value_in env root) (value_in env i))) same
          (subst (λ (u : ℕ). Cell z cell (int 64) (IsDistanceOf (value_in env u) (value_in env i))) same_root
          (subst (λ (u : ℕ). Cell z cell (int 64) (IsDistanceOf (value_in env slot) (value_in env u))) (sym e) h))

pub distance_measured : (x : Framing) → IsFraming x → (homes : List Home) (c : Context) → AreByteRights c.rights
    → (a : Activation) (w : Work) (env : Env) (v cell slot n : ℕ) (ty : Ty) (args : List Arg)
    → MayMeasure x homes c w a env v cell slot n ty args → Measures x homes c w a env v cell n ty args
distance_measured x is homes c law a w env v cell slot n ty args m =
    line_done x is homes c law a w env v cell slot n ty args m (distance_from (plan x) v) refl m.is_base
