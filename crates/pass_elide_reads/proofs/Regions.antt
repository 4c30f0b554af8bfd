-- The ways of a form: past the allocator's block and beside it, and past the block that frees and beside it.
use Rattle.std.proofs.Common.{◌≡◌, ◌≢◌, ◌⊎◌, ◌∙◌, inl, inr, ⊎_elim, ℕ, Some, ap, length, refl, subst, sym}
use Rattle.std.specs.Prelude.{if◌then◌else◌}
use Rattle.pass_elide_reads.proofs.Diamonds.{EdgeTo, HasSides, Leads, edge_to, leads_to, only_jump}
use Rattle.pass_elide_ready.proofs.Entries.{no_edge_to_entry}
use Rattle.pass_elide_ready.proofs.FreedForm.{chosen_edge, first_edge, jump_edge, other_edge, second_edge}
use Rattle.pass_elide_ready.specs.Form.{Asking, AsksSo, Freeing, FreesSo, MeetsSo}
use Rattle.pass_elide_ready.specs.pass_elide_proof.Places.{instrs_of}
use Rattle.pass_elide_ready.specs.pass_elide_proof.Shapes.{JumpsTo}
use Rattle.pass_elide_ready.specs.pass_elide_proof.pass_proofs.ir_model.Names.{position_of}
use Rattle.pass_elide_ready.specs.pass_elide_proof.pass_proofs.ir_model.declared.instr.Terminator.{Terminator}
use Rattle.pass_elide_ready.specs.pass_elide_proof.pass_proofs.ir_model.declared.module.Function.{Function}
use Rattle.pass_elide_ready.specs.pass_elide_proof.pass_proofs.ir_model.declared.module.Module.{Module}
use Rattle.pass_elide_ready.specs.pass_elide_proof.pass_proofs.ir_model.declared.operand.Operand.{Operand}
use Rattle.pass_elide_ready.specs.pass_elide_proof.pass_proofs.rule_laws.rules.function_rules.Kept.{KeepsFunctionRules}
use Rattle.pass_elide_ready.specs.pass_elide_proof.pass_proofs.run_step.Step.{AtTerm, fetch}

-- ---- ends of blocks

-- a block that branches isn't one that jumps
pub branch_jump : (f : Function) (block other one two : ℕ) (x : Operand) (target : ℕ)
    → fetch f block (length (instrs_of f block)) ≡ AtTerm (Terminator.Branch x one two) → JumpsTo f other target
    → block ≢ other
branch_jump f block other one two x target branches j same =
    let both : AtTerm (Terminator.Branch x one two) ≡ AtTerm (Terminator.Jump j.label)
    = sym branches ∙ ap (λ (b : ℕ). fetch f b (length (instrs_of f b))) same ∙ j.stands in
    absurd (cc)

module _ (m : Module) (number : ℕ) (f : Function) (rules : KeepsFunctionRules m number f) where
  -- no edge leads to the entry
  entered_inner : (from block : ℕ) → Leads f from block → block ≢ 0
  entered_inner from block edge is = no_edge_to_entry m number f rules from (subst (Leads f from) is edge)

  jump_leads : (block target : ℕ) → JumpsTo f block target → Leads f block target
  jump_leads block target j = subst (Leads f block) j.leads (leads_to f block j.label (jump_edge f block target j))

  -- ---- where the frame is asked for

  module _ (a : Asking) (s : AsksSo f a) where
    pub to_allocator : Leads f a.asks a.allocates
    to_allocator =
        subst (Leads f a.asks) s.to_allocator
        (leads_to f a.asks a.one (first_edge f a.asks a.one a.other (Operand.Local a.need) s.branch))

    pub to_beside : Leads f a.asks a.beside
    to_beside =
        subst (Leads f a.asks) s.to_beside
        (leads_to f a.asks a.other (second_edge f a.asks a.one a.other (Operand.Local a.need) s.branch))

    pub past_allocator : HasSides f a.asks a.allocates a.after a.begins
    past_allocator = record {
      to_first = to_allocator;
      to_last = inr (jump_leads a.allocates a.after s.jumps);
      to_target = jump_leads a.after a.begins s.joins;
      only_last = inr (only_jump f a.allocates a.after s.jumps);
      only_target = only_jump f a.after a.begins s.joins;
      into_first = λ from edge. let x = edge_to f from a.allocates edge in s.into_allocates from x.label x.edge x.leads;
      into_last = inr (λ from edge. let x = edge_to f from a.after edge in s.into_after from x.label x.edge x.leads);
      apart_first = branch_jump f a.asks a.allocates a.one a.other (Operand.Local a.need) a.after s.branch s.jumps;
      apart_last = branch_jump f a.asks a.after a.one a.other (Operand.Local a.need) a.begins s.branch s.joins;
      inner_first = entered_inner a.asks a.allocates to_allocator;
      inner_last = entered_inner a.allocates a.after (jump_leads a.allocates a.after s.jumps);
    }

    pub past_beside : HasSides f a.asks a.beside a.beside a.begins
    past_beside = record {
      to_first = to_beside;
      to_last = inl refl;
      to_target = jump_leads a.beside a.begins s.meets;
      only_last = inl refl;
      only_target = only_jump f a.beside a.begins s.meets;
      into_first = λ from edge. let x = edge_to f from a.beside edge in s.into_beside from x.label x.edge x.leads;
      into_last = inl refl;
      apart_first = branch_jump f a.asks a.beside a.one a.other (Operand.Local a.need) a.begins s.branch s.meets;
      apart_last = branch_jump f a.asks a.beside a.one a.other (Operand.Local a.need) a.begins s.branch s.meets;
      inner_first = entered_inner a.asks a.beside to_beside;
      inner_last = entered_inner a.asks a.beside to_beside;
    }

  -- ---- where what was tested is freed

  module _ (q : Freeing) (s : FreesSo f q) where
    pub to_free : Leads f q.tests q.frees
    to_free =
        subst (Leads f q.tests) s.to_free (leads_to f q.tests (if q.is_eq then q.other else q.one)
        (chosen_edge f q.tests q.one q.other (Operand.Local q.tested) q.is_eq s.branch))

    pub to_pass : Leads f q.tests q.beside
    to_pass =
        subst (Leads f q.tests) s.to_beside (leads_to f q.tests (if q.is_eq then q.one else q.other)
        (other_edge f q.tests q.one q.other (Operand.Local q.tested) q.is_eq s.branch))

    into_frees : (from : ℕ) → Leads f from q.frees → from ≡ q.tests
    into_frees from edge = let x = edge_to f from q.frees edge in s.into_frees from x.label x.edge x.leads

    tests_frees : q.tests ≢ q.frees
    tests_frees = branch_jump f q.tests q.frees q.one q.other (Operand.Local q.tested) q.after s.branch s.jumps

    -- right to the block beside
    pub past_free : HasSides f q.tests q.frees q.frees q.after
    past_free = record {
      to_first = to_free;
      to_last = inl refl;
      to_target = jump_leads q.frees q.after s.jumps;
      only_last = inl refl;
      only_target = only_jump f q.frees q.after s.jumps;
      into_first = into_frees;
      into_last = inl refl;
      apart_first = tests_frees;
      apart_last = tests_frees;
      inner_first = entered_inner q.tests q.frees to_free;
      inner_last = entered_inner q.tests q.frees to_free;
    }

    -- over blocks on edges
    module _ (w : MeetsSo f q) where
      pub past_frees : HasSides f q.tests q.frees q.after w.ends
      past_frees = record {
        to_first = to_free;
        to_last = inr (jump_leads q.frees q.after s.jumps);
        to_target = jump_leads q.after w.ends w.joins;
        only_last = inr (only_jump f q.frees q.after s.jumps);
        only_target = only_jump f q.after w.ends w.joins;
        into_first = into_frees;
        into_last = inr (λ from edge. let x = edge_to f from q.after edge in w.into_freed from x.label x.edge x.leads);
        apart_first = tests_frees;
        apart_last = branch_jump f q.tests q.after q.one q.other (Operand.Local q.tested) w.ends s.branch w.joins;
        inner_first = entered_inner q.tests q.frees to_free;
        inner_last = entered_inner q.frees q.after (jump_leads q.frees q.after s.jumps);
      }

      pub past_passes : HasSides f q.tests q.beside q.beside w.ends
      past_passes = record {
        to_first = to_pass;
        to_last = inl refl;
        to_target = jump_leads q.beside w.ends w.meets;
        only_last = inl refl;
        only_target = only_jump f q.beside w.ends w.meets;
        into_first = λ from edge. let x = edge_to f from q.beside edge in w.into_tested from x.label x.edge x.leads;
        into_last = inl refl;
        apart_first = branch_jump f q.tests q.beside q.one q.other (Operand.Local q.tested) w.ends s.branch w.meets;
        apart_last = branch_jump f q.tests q.beside q.one q.other (Operand.Local q.tested) w.ends s.branch w.meets;
        inner_first = entered_inner q.tests q.beside to_pass;
        inner_last = entered_inner q.tests q.beside to_pass;
      }
