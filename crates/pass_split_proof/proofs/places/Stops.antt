-- Suspends, and the stop edge that a part takes at one.
use Rattle.std.proofs.Common.{◌≡◌, ℕ, ◌+◌, Bool, true, false, List, [], ◌∷◌, length, refl, sym, ap, ◌∙◌, subst, arith}
use Rattle.std.specs.Prelude.{None, Option, Some, nat_le, not, slice_get, unwrap_or, ◌&&◌, ◌==◌, if◌then◌else◌}
use Rattle.pass_proofs.specs.frame_layout.declared.layout.Layout.{Layout}
use Rattle.pass_proofs.proofs.ir_laws.facts.Truth.{and_first, and_second, equal_numbers, holds, itself}
use Rattle.pass_proofs.proofs.rule_laws.frames.edges.Shaped.{is_there, same_end}
use Rattle.pass_proofs.proofs.ir_laws.paths.renamed.Uses.{stands_in}
use Rattle.pass_proofs.proofs.rule_laws.rules.path_rules.Holding.{of_parts}
use Rattle.pass_proofs.proofs.rule_laws.rules.renamed.Switches.{none_part}
use Rattle.pass_proofs.proofs.rule_laws.rules.sources.Places.{instr_there}
use Rattle.pass_proofs.specs.ir_model.Names.{is_local}
use Rattle.pass_proofs.specs.ir_model.declared.instr.Case.{Case}
use Rattle.pass_proofs.specs.ir_model.declared.instr.Instr.{Instr}
use Rattle.pass_proofs.specs.ir_model.declared.instr.Terminator.{Terminator}
use Rattle.pass_proofs.specs.ir_model.declared.module.Block.{Block}
use Rattle.pass_proofs.specs.ir_model.declared.module.Function.{Function}
use Rattle.pass_proofs.specs.ir_model.declared.module.Module.{Module}
use Rattle.pass_proofs.specs.ir_model.declared.operand.Arg.{Arg}
use Rattle.pass_proofs.specs.ir_parts.Parts.{first_part, instr_place, parts_of}
use Rattle.pass_proofs.specs.ir_paths.Windows.{call_result}
use Rattle.pass_proofs.specs.pass_intrinsics.Shapes.{shape_of}
use Rattle.pass_split_proof.specs.places.Places.{IsStop}
use Rattle.pass_proofs.specs.split.rules.Splittable.{IsSplittable}
use Rattle.pass_proofs.specs.rule_shape.Places.{is_the}
use Rattle.pass_proofs.specs.rule_shape.Suspends.{is_suspend}
use Rattle.pass_proofs.specs.rule_shape.Switches.{are_both, breaks_switch, end_label as switch_end, is_last, is_switch_on, is_switched, is_switched_in}
use Rattle.pass_proofs.specs.rule_shape.Uses.{uses_of}
use Rattle.pass_proofs.specs.run_step.Step.{AtInstr, AtTerm, fetch, fetch_in, fetch_or}

module _ (m : Module) (k : ℕ) (f : Function) (begin : ℕ) (x : IsSplittable m k f begin) (layout : Layout) where
  abbrev end : ℕ
  end = (shape_of f layout).end

  -- a suspend of a block, with its switch
  pub record IsSwitched (b : Block) (at : ℕ) (i : Instr) : Type 0 where
    pub result : ℕ
    pub named : call_result i ≡ Some result
    pub arg : Arg
    pub cases : List Case
    pub term : b.term ≡ Terminator.Switch arg (shape_of f layout).end cases
    pub on : is_local result arg.value ≡ true
    pub both : are_both cases ≡ true
    pub last : at + 1 ≡ length b.instrs

  by_term : (b : Block) (at v : ℕ) (i : Instr) (t : Terminator) → call_result i ≡ Some v → at + 1 ≡ length b.instrs
      → b.term ≡ t → is_switch_on v (switch_end f) t ≡ true → IsSwitched b at i
  by_term b at v i (Terminator.Switch arg default cases) named last e h =
      let rest = and_second (is_local v arg.value) (are_both cases && is_the (switch_end f) default) h in
      let there : switch_end f ≡ Some default = is_there (switch_end f) default (and_second (are_both cases)
      (is_the (switch_end f) default) rest) in
      let same : end ≡ default = ap (λ (o : Option ℕ). unwrap_or o 0) (sym (same_end f.blocks) ∙ there) in
      record {
        result = v;
        named = named;
        arg = arg;
        cases = cases;
        term = e ∙ ap (λ (n : ℕ). Terminator.Switch arg n cases) (sym same);
        on = and_first (is_local v arg.value) (are_both cases && is_the (switch_end f) default) h;
        both = and_first (are_both cases) (is_the (switch_end f) default) rest;
        last = last;
      }
  by_term b at v i (Terminator.Jump label) named last e h = absurd (cc)
  by_term b at v i (Terminator.Branch c a d) named last e h = absurd (cc)
  by_term b at v i (Terminator.Ret value) named last e h = absurd (cc)
  by_term b at v i Terminator.Unreachable named last e h = absurd (cc)

  by_result : (b : Block) (q at : ℕ) (i : Instr) → slice_get f.blocks q ≡ Some b → (o : Option ℕ) → call_result i ≡ o
      → is_switched f (instr_place k q (length b.phis + at)) o ≡ true → IsSwitched b at i
  by_result b q at i there None named h = absurd (cc)
  by_result b q at i there (Some v) named h =
      let now : is_switched_in f v (instr_place k q (length b.phis + at)) (Some b) ≡ true = sym
      (ap (is_switched_in f v (instr_place k q (length b.phis + at))) there) ∙ h in
      let last : is_last b (Some (length b.phis + at)) ≡ true = and_first (is_last b (Some (length b.phis + at)))
      (is_switch_on v (switch_end f) b.term && nat_le (uses_of f v) 1) now in
      let same : length b.phis + at + 1 ≡ length b.phis + length b.instrs = equal_numbers (length b.phis + at + 1)
      (length b.phis + length b.instrs) last in
      let rest = and_second (is_last b (Some (length b.phis + at))) (is_switch_on v (switch_end f) b.term && nat_le
      (uses_of f v) 1) now in
      by_term b at v i b.term named (omega (arith, same)) refl (and_first (is_switch_on v (switch_end f) b.term)
      (nat_le (uses_of f v) 1) rest)

  pub switched : (b : Block) (q at : ℕ) (i : Instr) → slice_get f.blocks q ≡ Some b → slice_get b.instrs at ≡ Some i
      → is_suspend i ≡ true → IsSwitched b at i
  switched b q at i there stands s =
      let none : first_part (breaks_switch f) (parts_of k f) ≡ None = subst
      (λ (c : Bool). (if c then first_part (breaks_switch f) (parts_of k f) else None) ≡ None) x.coroutine
      x.switches in
      let parts = of_parts (λ y. breaks_switch f y.0 y.1 ≡ false) k f (none_part (breaks_switch f) (parts_of k f) none)
      in
      let own = (parts.blocks q b there).instrs at i stands in
      by_result b q at i there (call_result i) refl
      (holds (is_switched f (instr_place k q (length b.phis + at)) (call_result i))
      (sym (ap (λ (t : Bool). t && not (is_switched f (instr_place k q (length b.phis + at)) (call_result i))) s)
      ∙ own))

  -- ---- what stands behind a suspend

  none_past : (is : List Instr) → slice_get is (length is) ≡ None
  none_past [] = refl
  none_past (i ∷ is) = none_past is

  term_behind : (b : Block) (q at : ℕ) → slice_get f.blocks q ≡ Some b → at + 1 ≡ length b.instrs
      → fetch f q (at + 1) ≡ AtTerm b.term
  term_behind b q at there last =
      ap (λ (o : Option Block). fetch_in o (at + 1)) there
      ∙ ap (λ (n : ℕ). fetch_or (slice_get b.instrs n) (n == length b.instrs) b.term) last
      ∙ ap (λ (o : Option Instr). fetch_or o (length b.instrs == length b.instrs) b.term) (none_past b.instrs)
      ∙ ap (λ (t : Bool). fetch_or None t b.term) (itself (length b.instrs))

  pub stop_there : (block at : ℕ) (i : Instr) → fetch f block at ≡ AtInstr i → is_suspend i ≡ true
      → IsStop f block at i (shape_of f layout).end
  stop_there block at i here s =
      let y = stands_in f (record { block = block; at = at }) i (instr_there f block at i here) in
      let w = switched y.block block at i y.got y.stands s in
      record {
        result = w.result;
        named = w.named;
        arg = w.arg;
        on = w.on;
        cases = w.cases;
        both = w.both;
        switch = term_behind y.block block at y.got w.last ∙ ap AtTerm w.term;
      }
