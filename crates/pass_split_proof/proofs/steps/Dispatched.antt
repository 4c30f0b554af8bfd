-- Four steps lead a part from its index to where it goes on.
use Rattle.std.proofs.Common.{◌≡◌, ℕ, zero, suc, ◌+◌, ◌<◌, ◌≤◌, ◌^◌, Bool, true, false, List, length, Some, refl, sym, ap, ◌∙◌, subst, arith, if◌then◌else◌}
use Rattle.std.specs.Prelude.{nat_le, pos, slice_get}
use Rattle.std.proofs.Math.Nat.{mod-eq_of_lt}
use Rattle.std.proofs.lemmas.Option.{slice_get_within}
use Rattle.pass_proofs.specs.frame_layout.declared.layout.Layout.{Layout}
use Rattle.pass_proofs.specs.ir_base.declared.outcome.Outcome.{Outcome}
use Rattle.pass_proofs.specs.ir_model.Names.{position_of}
use Rattle.pass_proofs.specs.ir_model.Ty.{int}
use Rattle.pass_proofs.specs.ir_model.TypeView.{bits_of}
use Rattle.pass_proofs.specs.ir_model.declared.instr.Instr.{Instr}
use Rattle.pass_proofs.specs.ir_model.declared.instr.Phi.{Phi}
use Rattle.pass_proofs.specs.ir_model.declared.instr.Terminator.{Terminator}
use Rattle.pass_proofs.specs.ir_model.declared.ir_type.IntWidth.{IntWidth}
use Rattle.pass_proofs.specs.ir_model.declared.module.Function.{Function}
use Rattle.pass_proofs.specs.ir_model.declared.operand.Operand.{Operand}
use Rattle.pass_proofs.specs.pass_front.Front.{allocas_of}
use Rattle.pass_proofs.specs.pass_intrinsics.Lowered.{address}
use Rattle.pass_proofs.specs.pass_intrinsics.Shapes.{back_label, index_bytes, index_name, none_label, shape_of, slot_name}
use Rattle.pass_proofs.specs.pass_intrinsics.declared.shape.Part.{Part}
use Rattle.pass_proofs.specs.pass_intrinsics.declared.shape.Shape.{Shape}
use Rattle.pass_proofs.specs.pass_intrinsics.declared.shape.SuspendPoint.{SuspendPoint}
use Rattle.pass_split_proof.proofs.code.Dispatch.{index_leads_back, wide}
use Rattle.pass_split_proof.proofs.steps.Saves.{set_there}
use Rattle.pass_split_proof.proofs.steps.Settled.{plain_does}
use Rattle.pass_proofs.proofs.addresses.numbers.Done.{address_done}
use Rattle.pass_split_proof.proofs.steps.Small.{index_loaded}
use Rattle.pass_split_proof.specs.code.Entry.{GoesBack}
use Rattle.pass_split_proof.specs.states.Going.{stands_at}
use Rattle.pass_split_proof.specs.steps.Dispatch.{IsAtIndex, indexed_work}
use Rattle.pass_split_proof.specs.steps.Small.{IsIndexWidth}
use Rattle.pass_proofs.specs.pass_split.Parts.{cases_from, entry_term, or_zero}
use Rattle.pass_proofs.specs.pass_split.Pieces.{going_on, redirected}
use Rattle.pass_proofs.specs.pass_split.Reached.{reached}
use Rattle.pass_proofs.proofs.run_laws.transfer.Sets.{set_length}
use Rattle.pass_proofs.specs.run_laws.access.Lines.{pointer_at}
use Rattle.pass_proofs.specs.run_memory.declared.pointer.Value.{Value}
use Rattle.run_access_worked.specs.run_plain.Plain.{PlainGiven, plain_context, plain_function, plain_go_to, plain_settled, plain_step, plain_work}
use Rattle.run_access_worked.specs.run_plain.declared.state.PlainState.{PlainState}
use Rattle.pass_proofs.specs.run_step.Runs.{iterate}
use Rattle.pass_proofs.specs.run_step.Step.{AtInstr, AtTerm, Done, GoTo, Work, fetch, label_of, phi_values, set_value, switch, term_action, with_all}
use Rattle.pass_proofs.specs.run_step.Values.{literal}

pub width_is_one : (n : ℕ) → IsIndexWidth (if nat_le n 256 then IntWidth.I8 else IntWidth.I16)
width_is_one n = on (nat_le n 256)
  where
    on : (b : Bool) → IsIndexWidth (if b then IntWidth.I8 else IntWidth.I16)
    on true = tt
    on false = tt

module _ (h : PlainGiven) (t : PlainState) (f : Function) (layout : Layout) (part : Part) (j : ℕ) (p : SuspendPoint)
    (b o : ℕ) (k : IsAtIndex h t f layout part j p b o) where
  abbrev s : Shape
  s = shape_of f layout

  abbrev q : Function
  q = plain_function h t

  abbrev slot : Value
  slot = pointer_at b (o + s.index)

  abbrev number : Value
  number = Value.Int (record { width = bits_of s.width; bits = j })

  abbrev one : Work
  one = set_value (plain_work t) (slot_name s) slot

  abbrev two : Work
  two = set_value one (index_name s) number

  abbrev first : PlainState
  first = plain_settled t one

  abbrev second : PlainState
  second = plain_settled first two

  abbrev back : ℕ
  back = position_of q (back_label s j)

  abbrev third : PlainState
  third = stands_at t back 0 two

  abbrev label : ℕ
  label = redirected s (or_zero (going_on part (Some p)))

  goes : GoesBack s part f q j p
  goes = k.entry.entered j p k.there k.entered

  -- ---- what stands there

  here_first : fetch q t.top.block t.top.at ≡ AtInstr (address (slot_name s) (Operand.Local s.begin) (pos s.index))
  here_first = ap (λ (c : ℕ). fetch q c t.top.at) k.block_is ∙ ap (fetch q 0) k.at_is ∙ k.entry.line.0

  here_second : fetch q t.top.block (t.top.at + 1) ≡ AtInstr (Instr.Load (index_name s) (int (bits_of s.width))
      (Operand.Local (slot_name s)) (index_bytes s.width))
  here_second = ap (λ (c : ℕ). fetch q c (t.top.at + 1)) k.block_is ∙ ap (λ (c : ℕ). fetch q 0 (c + 1)) k.at_is
      ∙ k.entry.line.1.0

  here_third : fetch q t.top.block (t.top.at + 1 + 1) ≡ AtTerm (entry_term s (reached f) part)
  here_third = ap (λ (c : ℕ). fetch q c (t.top.at + 1 + 1)) k.block_is ∙ ap (λ (c : ℕ). fetch q 0 (c + 1 + 1)) k.at_is
      ∙ ap (fetch q 0) (two_more (length (allocas_of f.blocks))) ∙ k.entry.switch
    where
      two_more : (n : ℕ) → n + 1 + 1 ≡ n + 2
      two_more n = omega arith

  -- ---- the index is small

  low : j < 2 ^ bits_of s.width
  low = below j (length s.suspends) (2 ^ bits_of s.width) (slice_get_within s.suspends j p k.there)
      (wide (length s.suspends) k.small.suspends)
    where
      below : (j n w : ℕ) → j < n → n ≤ w → j < w
      below j n w lt le = omega arith

  is_literal : literal (int (bits_of s.width)) (pos j) ≡ Value.Int (record { width = bits_of s.width; bits = j })
  is_literal = ap (λ (n : ℕ). Value.Int (record { width = bits_of s.width; bits = n })) (mod-eq_of_lt low)

  -- ---- the steps

  step_first : plain_step h t ≡ first
  step_first = plain_does h t (AtInstr (address (slot_name s) (Operand.Local s.begin) (pos s.index))) (Done one)
      k.running here_first
      (address_done (plain_context h t) (plain_work t) (slot_name s) b o s.index (Operand.Local s.begin) k.frame
      k.within)

  step_second : plain_step h first ≡ second
  step_second = plain_does h first (AtInstr (Instr.Load (index_name s) (int (bits_of s.width))
      (Operand.Local (slot_name s)) (index_bytes s.width))) (Done two) k.running here_second
      (index_loaded (plain_context h t) one s.width (index_name s) b (o + s.index) j (Operand.Local (slot_name s))
      (λ e. subst (λ (w : IntWidth). j < 2 ^ bits_of w) e low) (λ e. subst (λ (w : IntWidth). j < 2 ^ bits_of w) e low)
      (set_there t.top.values (slot_name s) slot k.slot_room) k.index (width_is_one (length s.suspends)))

  chosen : term_action (plain_context h t) two (entry_term s (reached f) part) ≡ GoTo (back_label s j)
  chosen = ap (λ (v : Value). switch h.code v (none_label s) (cases_from s (reached f) part 0 s.suspends))
      (set_there one.values (index_name s) number
      (subst (λ (n : ℕ). index_name s < n) (sym (set_length t.top.values (slot_name s) slot)) k.index_room))
      ∙ ap GoTo (index_leads_back h.code f layout (reached f) part j p
      (record { width = bits_of s.width; bits = j }) k.small k.there k.entered is_literal)

  no_phis : plain_go_to h second (back_label s j) ≡ third
  no_phis = ap (λ (ps : List Phi). stands_at t back 0
      (record {
        world = two.world;
        values = with_all two.values (phi_values h.code two.values (label_of (slice_get q.blocks t.top.block)) ps);
      })) goes.back.bare

  step_third : plain_step h second ≡ third
  step_third = plain_does h second (AtTerm (entry_term s (reached f) part)) (GoTo (back_label s j)) k.running here_third
      chosen ∙ no_phis

  step_fourth : plain_step h third ≡ plain_go_to h third label
  step_fourth = plain_does h third (AtTerm (Terminator.Jump label)) (GoTo label) k.running goes.back.jumps refl

  pub leads_on : iterate (plain_step h) 4 t ≡ plain_go_to h (stands_at t (position_of (plain_function h t)
      (back_label (shape_of f layout) j)) 0 (indexed_work (shape_of f layout) (plain_work t) b o j))
      (redirected (shape_of f layout) (or_zero (going_on part (Some p))))
  leads_on = ap (λ (x : PlainState). plain_step h (plain_step h (plain_step h x))) step_first
      ∙ ap (λ (x : PlainState). plain_step h (plain_step h x)) step_second
      ∙ ap (plain_step h) step_third
      ∙ step_fourth

  -- the part goes on there, and nothing is another but its names
  abbrev IsQuiet : PlainState → Type 0
  IsQuiet x = (x.outcome ≡ Outcome.Running) × (x.world ≡ t.world)

  pub quiet_on : (i : ℕ) → i < 4 → ((iterate (plain_step h) i t).outcome ≡ Outcome.Running)
      × ((iterate (plain_step h) i t).world ≡ t.world)
  quiet_on zero lt = (k.running, refl)
  quiet_on (suc zero) lt = subst IsQuiet (sym step_first) (k.running, refl)
  quiet_on (suc (suc zero)) lt = subst IsQuiet (sym (ap (plain_step h) step_first ∙ step_second)) (k.running, refl)
  quiet_on (suc (suc (suc zero))) lt = subst IsQuiet
      (sym (ap (λ (x : PlainState). plain_step h (plain_step h x)) step_first ∙ ap (plain_step h) step_second
      ∙ step_third)) (k.running, refl)
  quiet_on (suc (suc (suc (suc i)))) lt = absurd (none i lt)
    where
      none : (i : ℕ) → suc (suc (suc (suc i))) < 4 → ⊥
      none i lt = omega arith
