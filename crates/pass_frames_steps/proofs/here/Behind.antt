-- Behind a step that gives a value to a name, or none, the value is stored into its cell, if it has one.
use Rattle.std.proofs.Common.{◌≡◌, ◌∙◌, [], Bool, List, None, Option, Some, ap, inr, refl, subst, sym, true, ℕ, ⊎_elim}
use Rattle.std.specs.List.{Contains}
use Rattle.std.specs.Prelude.{slice_get}
use Rattle.pass_frames_code.proofs.ir_laws.facts.Members.{each_turns}
use Rattle.pass_frames_code.proofs.ir_laws.facts.Truth.{is_number}
use Rattle.pass_frames_code.specs.ir_model.Ty.{int}
use Rattle.pass_frames_code.specs.pass_cells.Kept.{entry}
use Rattle.pass_frames_code.specs.pass_cells.Written.{stored, stored_result}
use Rattle.pass_frames_code.specs.pass_cells.declared.plan.KeptValue.{KeptValue}
use Rattle.pass_frames_code.proofs.led.Steps.{fills_elsewhere}
use Rattle.pass_frames_code.proofs.lines.Filled.{over_none, worlds_stand}
use Rattle.pass_frames_code.proofs.lines.Results.{result_stored}
use Rattle.pass_frames_code.specs.Framings.{IsFraming}
use Rattle.pass_frames_code.specs.Led.{SparesBlocks}
use Rattle.pass_frames_code.specs.Lines.{AreAway, AreInCells, HasOwnBlocks, IsCellOf, IsStorable, LeavesCellsBut, RunsOver, at_work}
use Rattle.pass_frames_code.specs.Ordinary.{IsPlainName}
use Rattle.pass_frames_code.specs.Places.{Framing, plan}
use Rattle.pass_frames_code.specs.Related.{AreCellsRight, IsCell, IsDistanceOf, IsFreeOf, IsKeptValue}
use Rattle.pass_frames_code.specs.run_laws.access.Accessed.{Span}
use Rattle.pass_frames_code.specs.run_laws.memory.Pointers.{Home, IsValue}
use Rattle.pass_frames_code.specs.run_laws.memory.Standing.{AreByteRights, IsAway}
use Rattle.pass_frames_code.specs.run_laws.transfer.Muted.{muted}
use Rattle.pass_frames_code.specs.run_laws.transfer.Transfer.{AreOver, muted_world}
use Rattle.pass_frames_code.specs.run_memory.Memory.{Rights, is_live}
use Rattle.pass_frames_code.specs.run_memory.declared.block.MemoryBlock.{MemoryBlock}
use Rattle.pass_frames_code.specs.run_memory.declared.pointer.Value.{Value}
use Rattle.pass_frames_code.specs.run_source.declared.state.Activation.{Activation}
use Rattle.pass_frames_code.specs.run_step.Step.{Context, Work}
use Rattle.pass_frames_code.specs.run_step.Values.{Env, value_in}
use Rattle.pass_frames_code.specs.run_step.declared.world.Slot.{Slot}
use Rattle.pass_frames_code.specs.run_step.declared.world.World.{World}

module _ (x : Framing) (is : IsFraming x) (homes : List Home) (hides : ℕ → Bool) (source : Rights) (d : Context)
    (law : AreByteRights source) (law' : AreByteRights d.rights) (a : Activation) (own : HasOwnBlocks a) (n : ℕ)
    (given : Option ℕ) (old env : Env) (w : World) (z : Work)
    (before : AreOver source d.rights homes hides (λ k. k) w z.world)
    (cells : AreCellsRight x homes d.rights z.world.memory old (at_work a z))
    (free : (slot : Slot) → Contains a.slots slot → IsCellOf x slot.alloca → IsFreeOf homes hides w.memory slot.block)
    (plain : (r : ℕ) → given ≡ Some r → IsPlainName x r)
    (same : (u : ℕ) → (given ≡ Some u → ⊥) → value_in env u ≡ value_in old u)
    (stands : (r : ℕ) → given ≡ Some r → IsValue homes (value_in env r) (value_in z.values r))
    (storable : (r : ℕ) (k : KeptValue) → given ≡ Some r → IsKeptValue x r k → IsStorable k.ty (value_in env r)) where
  -- the value is stored, and then the cells are right
  pub record IsStoredBehind (o : Option ℕ) : Type 0 where
    pub work : Work
    pub spans : List Span
    pub over : RunsOver d (stored_result (plan x) o) n spans z work
    pub values : work.values ≡ z.values
    pub inside : AreInCells x a spans
    pub right : AreCellsRight x homes d.rights work.world.memory env (at_work a work)

  none_behind : given ≡ None → IsStoredBehind None
  none_behind e = record {
    work = z;
    spans = [];
    over = over_none d n z;
    values = refl;
    inside = tt;
    right = record {
      values = λ u k kept.
          subst (λ (t : Value). IsCell d.rights z.world.memory (at_work a z) k.cell k.ty (IsValue homes t))
          (sym (unset u)) (cells.values u k kept);
      distances = λ u cell slot told root.
          subst
          (λ (t : Value × Value). IsCell d.rights z.world.memory (at_work a z) cell (int 64) (IsDistanceOf t.0 t.1))
          (λ k. (sym (unset slot) k, sym (unset u) k)) (cells.distances u cell slot told root);
    };
  }
    where
      unset : (u : ℕ) → value_in env u ≡ value_in old u
      unset u = same u (λ k. let no : None ≡ Some u = sym e ∙ k in absurd (cc))

  module _ (r : ℕ) (e : given ≡ Some r) where
    behind : LeavesCellsBut x homes d z a env r n (stored (plan x) r)
    behind =
        result_stored x is homes d law' old env a z r n own (plain r e).name.no_root
        (λ u differ. same u (λ k. differ (same_name u (sym e ∙ k)))) (stands r e)
        (λ k kept. storable r k e kept) cells
      where
        same_name : (u : ℕ) → Some r ≡ Some u → u ≡ r
        same_name u k = cc

    one_behind : IsStoredBehind (Some r)
    one_behind = record {
      work = behind.work;
      spans = behind.spans;
      over = behind.over;
      values = behind.values;
      inside = behind.inside;
      right = record {
        values = behind.right.values;
        distances = λ u cell slot told root. ⊎_elim
            (λ (same : u ≡ r).
            let none : None ≡ Some cell = sym (plain r e).no_distance ∙ ap (entry (plan x).cells) (sym same)
            ∙ told in
            absurd (cc))
            (λ differ. behind.right.distances u cell slot differ told root) (is_number u r);
      };
    }

  by_result : (o : Option ℕ) → given ≡ o → IsStoredBehind o
  by_result None e = none_behind e
  by_result (Some r) e = one_behind r e

  pub stored_behind : IsStoredBehind given
  stored_behind = by_result given refl

  -- ---- the memories behind it

  away : AreAway source homes (muted hides w.memory) stored_behind.spans
  away =
      each_turns
      (λ (s : Span). (cell : ℕ) × IsCellOf x cell × Contains a.slots (record { alloca = cell; block = s.block }))
      (λ (s : Span). (b : ℕ) (k : MemoryBlock) → slice_get (muted hides w.memory) b ≡ Some k
      → is_live k.life ≡ true → IsAway source homes b k s.block s.offset s.len)
      (λ s h b k e live same. absurd (free (record { alloca = h.0; block = s.block }) h.2 h.1 b k e (inr live) same))
      stored_behind.spans stored_behind.inside

  pub over_behind : AreOver source d.rights homes hides (λ k. k) w stored_behind.work.world
  over_behind =
      subst (λ (s : World). AreOver source d.rights homes hides (λ k. k) w s) (sym stored_behind.over.world)
      (worlds_stand source d.rights law law' homes (λ k. k) (muted_world hides w) z.world stored_behind.spans
      stored_behind.work.world.memory stored_behind.over.fills away before)

  -- blocks in which no cell lies stay
  pub spares_behind : SparesBlocks x a z.world.memory stored_behind.work.world.memory
  spares_behind = record {
    same = λ e none.
        fills_elsewhere d.rights stored_behind.spans z.world.memory stored_behind.work.world.memory e
        stored_behind.over.fills
        (each_turns
        (λ (t : Span). (cell : ℕ) × IsCellOf x cell × Contains a.slots (record { alloca = cell; block = t.block }))
        (λ (t : Span). t.block ≡ e → ⊥)
        (λ t k. none (record { alloca = k.0; block = t.block }) k.2 k.1) stored_behind.spans stored_behind.inside);
  }

  pub events_behind : stored_behind.work.world.events ≡ z.world.events
  events_behind = ap (λ (k : World). k.events) stored_behind.over.world
