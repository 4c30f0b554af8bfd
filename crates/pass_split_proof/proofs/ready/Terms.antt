-- Terminators are ready in the parts.
use Rattle.std.proofs.Common.{◌≡◌, ℕ, List, refl, subst}
use Rattle.std.specs.Prelude.{ℤ, None, Option, Some, slice_get}
use Rattle.pass_proofs.specs.flow_solver.Paths.{IsListed}
use Rattle.pass_proofs.specs.frame_layout.declared.layout.Layouts.{Layouts}
use Rattle.pass_proofs.proofs.ir_laws.paths.woven_rules.Unbroken.{each_listed as each_of}
use Rattle.pass_proofs.specs.ir_model.Names.{function_at, position_of}
use Rattle.pass_proofs.specs.ir_model.declared.instr.Phi.{Phi}
use Rattle.pass_proofs.specs.ir_model.declared.instr.Terminator.{Terminator}
use Rattle.pass_proofs.specs.ir_model.declared.module.Block.{Block}
use Rattle.pass_proofs.specs.ir_model.declared.module.Function.{Function}
use Rattle.pass_proofs.specs.ir_model.declared.module.Module.{Module}
use Rattle.pass_proofs.specs.ir_parts.Contents.{ending_operands}
use Rattle.pass_proofs.specs.pass_intrinsics.declared.shape.Part.{Part}
use Rattle.pass_proofs.specs.pass_intrinsics.declared.shape.Shape.{Shape}
use Rattle.pass_split_proof.proofs.ready.Begins.{BeginsBy, other_phi}
use Rattle.pass_split_proof.proofs.ready.Given.{begins_by, ruled_at}
use Rattle.pass_split_proof.proofs.ready.Places.{not_read}
use Rattle.pass_split_proof.proofs.ready.Readable.{ending_readable, phis_readable}
use Rattle.pass_split_proof.proofs.ready.Rules.{function_of_term}
use Rattle.pass_split_proof.specs.branching.Terminators.{IsAtTerm}
use Rattle.pass_split_proof.specs.first_exits.Parted.{parted_module}
use Rattle.pass_split_proof.specs.places.Places.{IsCodeOf, IsPlace}
use Rattle.pass_split_proof.specs.ready.Module.{IsFollowableIn, IsRuled}
use Rattle.pass_split_proof.specs.ready.Names.{HasMovedNames}
use Rattle.pass_split_proof.specs.simulation.Premises.{IsAt, IsAtPlace}
use Rattle.pass_split_proof.specs.simulation.Statement.{parts_given}
use Rattle.pass_split_proof.specs.states.Related.{AreRelated}
use Rattle.pass_split_proof.specs.steps.Branches.{AreReadablePhis}
use Rattle.pass_split_proof.specs.steps.Operands.{IsReadable}
use Rattle.pass_proofs.proofs.rule_laws.rules.sources.Places.{term_there}
use Rattle.pass_proofs.specs.rule_uses.Uses.{locals_in}
use Rattle.pass_proofs.specs.run_framed.Framed.{FramedGiven, framed_given}
use Rattle.pass_proofs.specs.run_laws.changed.Changed.{Each, operands_of_term}
use Rattle.run_access_worked.specs.run_plain.Plain.{PlainGiven}
use Rattle.run_access_worked.specs.run_plain.declared.state.PlainState.{PlainState}
use Rattle.pass_proofs.specs.run_source.declared.state.State.{State}
use Rattle.pass_proofs.specs.run_step.Step.{AtTerm, fetch, label_of, phis_of}
use Rattle.pass_proofs.specs.rule_names.declared.stage.Stage.{Stage}

-- ---- of a function

module _ {r : Module} (ls : Layouts) (m : Module) (globals : r.globals ≡ m.globals) (names : HasMovedNames ls m)
    (k : ℕ) (f : Function) (ruled : IsRuled r k f) where
  phis_by : (begin : ℕ) → BeginsBy f begin → (block from : ℕ) (o : Option Block) → slice_get f.blocks block ≡ o
      → AreReadablePhis m (parted_module ls m) f from begin (phis_of o)
  phis_by begin by block from None e = record { taken = tt; others = tt }
  phis_by begin by block from (Some b) e = record {
    taken = phis_readable ls m globals names k f ruled block from b e;
    others = each_of (λ (p : Phi). p.result ≡ begin → ⊥) b.phis
        (λ p l. other_phi r k f ruled.rules begin by block b p e l);
  }

  pub phis_ready : (begin : ℕ) → BeginsBy f begin → (block from : ℕ)
      → AreReadablePhis m (parted_module ls m) f from begin (phis_of (slice_get f.blocks block))
  phis_ready begin by block from = phis_by begin by block from (slice_get f.blocks block) refl

  pub term_readable : (q : Function) (s : Shape) (part : Part) (block at piece offset : ℕ) (t : Terminator)
      → IsCodeOf f q s part → IsPlace s part f q block at piece offset → fetch f block at ≡ AtTerm t
      → Each (IsReadable m (parted_module ls m) f) (operands_of_term t)
  term_readable q s part block at piece offset t coded place here =
      let y = term_there f block at t here in
      subst (λ (u : Terminator). Each (IsReadable m (parted_module ls m) f) (operands_of_term u)) y.is
      (ending_readable ls m globals names k f ruled block y.own y.got (λ v l.
      not_read f q s part block at piece offset t coded place here v
      (subst (λ (u : Terminator). IsListed v (locals_in (ending_operands u))) y.is l)))

-- ---- at related states

module _ {stage : Stage} {ruler : Module} (ls : Layouts) (m : Module) (w : IsFollowableIn stage ruler ls m)
    (answers : List ℤ) where
  abbrev g : FramedGiven
  g = framed_given m ls.coroutines answers

  abbrev h : PlainGiven
  h = parts_given ls m answers

  pub terms_ready : (s : State) (t : PlainState) (r : AreRelated (framed_given m ls.coroutines answers)
      (parts_given ls m answers) s t) (term : Terminator) → IsAt (framed_given m ls.coroutines answers) s (AtTerm term)
      → IsAtPlace (framed_given m ls.coroutines answers) (parts_given ls m answers) s t r
      → IsAtTerm (framed_given m ls.coroutines answers) (parts_given ls m answers) s t r term
  terms_ready s t r term here p =
      let there = function_of_term m s.top.func s.top.block s.top.at term here in
      let ruled = ruled_at ls m w s.top.func (function_at m s.top.func) there in
      let by = begins_by ls m w answers s.top.func (function_at m s.top.func) r.top.shape refl there r.top.shaped in
      record {
        settled = p.settled;
        place = p.place;
        there = here;
        readable = term_readable ls m w.ruler.globals w.names s.top.func (function_at m s.top.func) ruled
            (function_at (parted_module ls m) t.top.func) r.top.shape r.top.part s.top.block s.top.at t.top.block
            t.top.at term r.top.coded p.place here;
        phis = λ label l. phis_ready ls m w.ruler.globals w.names s.top.func (function_at m s.top.func) ruled
            r.top.shape.begin by
            (position_of (function_at m s.top.func) label)
            (label_of (slice_get (function_at m s.top.func).blocks s.top.block));
      }
