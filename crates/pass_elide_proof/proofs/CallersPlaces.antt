-- Where both runs stand at a place beside each other, the run that gives frames stands at its own.
use Rattle.std.proofs.Common.{List, ap, arith, length, refl, subst, sym, ℕ, ◌<◌, ◌∙◌, ◌≡◌}
use Rattle.std.specs.Prelude.{None, Some, slice_get}
use Rattle.pass_elide_proof.specs.Callers.{IsNotEntering, StandsAtEnd, StandsAtInstr}
use Rattle.pass_elide_proof.specs.CallersStack.{KeepAllHandles, ReturnsFrame, StandsAtRet}
use Rattle.pass_elide_proof.specs.Calling.{AreReady}
use Rattle.pass_elide_proof.specs.Elision.{Elision, elided, function_in, rooms}
use Rattle.pass_elide_proof.specs.Places.{instrs_of, own_at, room_at}
use Rattle.pass_elide_proof.specs.Returning.{IsAtReturn}
use Rattle.pass_proofs.specs.ir_base.declared.outcome.Outcome.{Outcome}
use Rattle.pass_proofs.specs.ir_model.declared.instr.Instr.{Instr}
use Rattle.pass_proofs.specs.ir_model.declared.module.Block.{Block}
use Rattle.pass_proofs.specs.run_framed.Framed.{framed_context}
use Rattle.pass_proofs.specs.run_memory.declared.pointer.Value.{Value}
use Rattle.pass_proofs.specs.run_source.State.{work_of}
use Rattle.pass_proofs.specs.run_source.declared.state.Mode.{Mode}
use Rattle.pass_proofs.specs.run_source.declared.state.State.{State}
use Rattle.pass_proofs.specs.run_step.Step.{GoTo, term_action}
use Rattle.pass_elide_proof.proofs.Addresses.{block_within, home_seen, twin_back}
use Rattle.pass_elide_proof.proofs.Grown.{have_at}
use Rattle.pass_elide_proof.specs.Callers.{HaveBlocks}
use Rattle.pass_elide_proof.specs.Invariant.{HaveCallers}
use Rattle.pass_elide_proof.specs.Match.{AreElided}
use Rattle.pass_elide_proof.specs.OwnSlots.{HaveNoSlots}
use Rattle.pass_proofs.proofs.ir_laws.facts.Lists.{get_within}
use Rattle.pass_proofs.proofs.run_laws.transfer.Muted.{muted_length}
use Rattle.pass_proofs.specs.ir_base.declared.outcome.Word.{Word}
use Rattle.pass_proofs.specs.ir_model.declared.module.Module.{Module}
use Rattle.pass_proofs.specs.run_laws.memory.Pointers.{Home, home_of}
use Rattle.pass_proofs.specs.run_laws.transfer.Muted.{muted}
use Rattle.pass_proofs.specs.run_source.Source.{first_state}

module _ (e : Elision) (s t : State) (r : AreReady e s t) (runs : s.outcome ≡ Outcome.Running)
    (handles : KeepAllHandles e) where
  same : t.top.func ≡ s.top.func
  same = r.beside.top.func

  own_stands : (n : ℕ) → s.top.at ≡ n
      → t.top.at ≡ own_at (rooms e t.top.func) (function_in e t.top.func) t.top.block n
  own_stands n is =
      r.at
      ∙ (λ j. own_at (rooms e (sym same j)) (function_in e (sym same j)) (sym r.block j) (is j))

  pub stands_at_instr : (i : Instr) → slice_get (instrs_of (function_in e s.top.func) s.top.block) s.top.at ≡ Some i
      → room_at (rooms e s.top.func) (function_in e s.top.func) s.top.block s.top.at i ≡ None
      → StandsAtInstr e t s.top.at i
  stands_at_instr i there none = record {
    runs = r.beside.outcome ∙ runs;
    there = (λ j. slice_get (instrs_of (function_in e (same j)) (r.block j)) s.top.at) ∙ there;
    stands = own_stands s.top.at refl;
    none = (λ j. room_at (rooms e (same j)) (function_in e (same j)) (r.block j) s.top.at i) ∙ none;
    handles = handles t.top.func;
  }

  module _ (b : Block) (has : slice_get (function_in e s.top.func).blocks s.top.block ≡ Some b)
      (at : s.top.at ≡ length b.instrs) where
    has_too : slice_get (function_in e t.top.func).blocks t.top.block ≡ Some b
    has_too = (λ j. slice_get (function_in e (same j)).blocks (r.block j)) ∙ has

    pub stands_at_end : (label : ℕ) → term_action (framed_context (elided e) t) (work_of t) b.term ≡ GoTo label
        → StandsAtEnd e t label
    stands_at_end label goes = record {
      runs = r.beside.outcome ∙ runs;
      block = b;
      has_block = has_too;
      stands = own_stands (length b.instrs) at;
      goes = goes;
      handles = handles t.top.func;
    }

pub stands_at_ret : (e : Elision) (s t : State) (r : AreReady e s t) (k : IsAtReturn e s t) → KeepAllHandles e
    → (t.top.mode ≡ Mode.Resumed → ⊥) → IsNotEntering t.top
    → ((frame : Value) → t.top.mode ≡ Mode.GivenRamp frame → ReturnsFrame (function_in e t.top.func))
    → StandsAtRet e t
stands_at_ret e s t r k handles called mode frames = record {
  runs = r.beside.outcome ∙ k.runs;
  block = k.block;
  has_block = has_too e s t r k.runs handles k.block k.has_block k.at;
  stands = own_stands e s t r k.runs handles (length k.block.instrs) k.at;
  value = k.value;
  term = k.term;
  called = called;
  mode = mode;
  frames = frames;
}

-- ---- what states beside each other have

module _ (e : Elision) (s t : State) (r : AreElided e s t) where
  pub no_slots : HaveNoSlots t
  no_slots number y there =
      let x = twin_back e s t r number y there in (r.instances number x.0 y x.1 there).no_slots

  pub have_blocks : HaveBlocks t
  have_blocks number y there =
      let x = twin_back e s t r number y there in
      let h = r.instances number x.0 y x.1 there in
      let within = block_within e s t r x.0 y h in
      let long = muted_length r.hides s.world.memory in
      let z = have_at (muted r.hides s.world.memory) x.0.block (omega (arith, within, long)) in
      let at = r.world.bounds.each x.0.block z.0 (home_seen e s t r x.0 y h) z.1 in
      let block : (home_of r.homes x.0.block).block ≡ y.block = ap (λ (q : Home). q.block) h.home in
      subst (λ (n : ℕ). n < length t.world.memory) block
      (get_within t.world.memory (home_of r.homes x.0.block).block at.block at.there)

-- ---- the start

pub first_callers : (e : Elision) (m : Module) (entry : ℕ) (args : List Word)
    → HaveCallers e (first_state m entry args)
first_callers e m entry args = record {
  each = λ number y there given going. absurd (cc);
  last = λ number later y z there after lt given began. absurd (cc);
  ramps = λ frame is. absurd (cc);
}
