-- The state behind a step to a label, in both runs.
use Rattle.std.proofs.Common.{◌≡◌, ◌+◌, ℕ, zero, suc, Bool, true, false, List, [], ◌∷◌, length, map, refl, sym, ap, ◌∙◌, subst, ◌==◌}
use Rattle.std.specs.Prelude.{Option, Some, None, slice_get, unwrap_or}
use Rattle.pass_elide.specs.Elided.{block_frames, elided_blocks, elided_function, with_front}
use Rattle.pass_elide_proof.proofs.GivingNone.{same_function}
use Rattle.pass_elide_proof.proofs.Modules.{addresses, finds_alike}
use Rattle.pass_elide_proof.proofs.Sized.{stepped}
use Rattle.pass_elide_proof.proofs.Standing.{has_code}
use Rattle.pass_elide_proof.specs.Edges.{GivesNone, IsEntering, label_from, phis_at}
use Rattle.pass_elide_proof.specs.Elision.{Elision, elided, elided_code, function_in, function_in_elided, rooms}
use Rattle.pass_elide_proof.specs.Places.{HasCode, Rooms, allocas_ahead, instrs_in, instrs_of}
use Rattle.pass_proofs.proofs.ir_laws.facts.Truth.{equal_numbers}
use Rattle.pass_proofs.specs.ir_model.Names.{no_function, position_of}
use Rattle.pass_proofs.specs.ir_model.Ty.{Ty}
use Rattle.pass_proofs.specs.ir_model.declared.instr.Instr.{Instr}
use Rattle.pass_proofs.specs.ir_model.declared.instr.Phi.{Phi}
use Rattle.pass_proofs.specs.ir_model.declared.instr.Terminator.{Terminator}
use Rattle.pass_proofs.specs.ir_model.declared.module.Block.{Block}
use Rattle.pass_proofs.specs.ir_model.declared.module.Function.{Function}
use Rattle.pass_proofs.specs.ir_model.declared.operand.Operand.{Operand}
use Rattle.pass_proofs.specs.ir_paths.Windows.{windows_of}
use Rattle.pass_proofs.specs.run_framed.Framed.{FramedGiven, framed_act, framed_facts, framed_step}
use Rattle.pass_proofs.specs.run_source.Source.{branch_leaving, enter_block}
use Rattle.pass_proofs.specs.run_source.declared.state.State.{State}
use Rattle.pass_proofs.specs.run_source_tables.Given.{facts_at}
use Rattle.pass_proofs.specs.run_step.Step.{AtTerm, GoTo, fetch, fetch_in, fetch_or, incoming_from, label_of, phi_values, with_all}
use Rattle.pass_proofs.specs.run_step.Values.{Env, operand_value}

-- ---- the step

-- it enters the label's block
pub entered : (g : FramedGiven) (s : State) (label : ℕ) → IsEntering g s label
    → framed_step g s ≡ enter_block g.given s label
entered g s label h =
    stepped g s (enter_block g.given s label) (AtTerm h.term) h.runs h.there
    (ap (framed_act g s) h.goes ∙ ap (branch_leaving g.given s label) h.stays)

-- where a terminator stands its block's instructions end
pub record IsEnd (f : Function) (block at : ℕ) (term : Terminator) : Type 0 where
  pub own : Block
  pub there : slice_get f.blocks block ≡ Some own
  pub at_end : at ≡ length own.instrs
  pub is : own.term ≡ term

pub same_term : (a b : Terminator) → AtTerm a ≡ AtTerm b → a ≡ b
same_term a b e = cc

pub same_label : (a b : ℕ) → GoTo a ≡ GoTo b → a ≡ b
same_label a b e = cc

pub term_end : (f : Function) (block at : ℕ) (term : Terminator) → fetch f block at ≡ AtTerm term
    → IsEnd f block at term
term_end f block at term e = on (slice_get f.blocks block) refl e
  where
    instr : (b : Block) → slice_get f.blocks block ≡ Some b → (o : Option Instr) (q : Bool)
        → (at == length b.instrs) ≡ q → fetch_or o q b.term ≡ AtTerm term → IsEnd f block at term
    instr b is (Some i) q last h = absurd (cc)
    instr b is None true last h = record {
      own = b;
      there = is;
      at_end = equal_numbers at (length b.instrs) last;
      is = same_term b.term term h;
    }
    instr b is None false last h = absurd (cc)

    on : (o : Option Block) → slice_get f.blocks block ≡ o → fetch_in o at ≡ AtTerm term → IsEnd f block at term
    on None is h = absurd (cc)
    on (Some b) is h = instr b is (slice_get b.instrs at) (at == length b.instrs) refl h

pub end_at : (f : Function) (block at : ℕ) (term : Terminator) → fetch f block at ≡ AtTerm term
    → at ≡ length (instrs_of f block)
end_at f block at term e =
    let h = term_end f block at term e in
    h.at_end ∙ ap (λ (o : Option Block). length (instrs_in o)) (sym h.there)

-- ---- labels of blocks

blocks_label : (room : Rooms) (s n : ℕ) (bs : List Block) (k : ℕ)
    → label_of (slice_get (elided_blocks room s n bs) k) ≡ label_of (slice_get bs k)
blocks_label room s n [] k = refl
blocks_label room s n (b ∷ bs) zero = refl
blocks_label room s n (b ∷ bs) (suc k) = blocks_label room (s + 1) (length (block_frames room s b) + n) bs k

front_label : (front : List Instr) (bs : List Block) (k : ℕ)
    → label_of (slice_get (with_front front bs) k) ≡ label_of (slice_get bs k)
front_label front [] k = refl
front_label front (b ∷ bs) zero = refl
front_label front (b ∷ bs) (suc k) = refl

elided_label : (room : Rooms) (f : Function) (block : ℕ)
    → label_from (elided_function room f) block ≡ label_from f block
elided_label room f block =
    front_label (allocas_ahead room f) (elided_blocks room 0 (length f.names) f.blocks) block
    ∙ blocks_label room 0 (length f.names) f.blocks block

-- ---- windows

pub facts_windows : (fs : List Function) (func : ℕ)
    → (facts_at (map framed_facts fs) func).windows ≡ windows_of (unwrap_or (slice_get fs func) no_function)
facts_windows [] func = refl
facts_windows (f ∷ fs) zero = refl
facts_windows (f ∷ fs) (suc func) = facts_windows fs func

-- ---- what the elided run has

module _ (e : Elision) where
  pub code_of : (func : ℕ) → HasCode (rooms e func) (function_in e func) (function_in_elided e func)
  code_of func =
      subst (λ (h : Function). HasCode (rooms e func) (function_in e func) h) (sym ((finds_alike e).functions func))
      (has_code (rooms e func) (function_in e func))

  pub label_same : (func block : ℕ)
      → label_from (function_in_elided e func) block ≡ label_from (function_in e func) block
  label_same func block =
      ap (λ (h : Function). label_from h block) ((finds_alike e).functions func)
      ∙ elided_label (rooms e func) (function_in e func) block

  -- where no call gives a frame the function is the same
  pub function_same : (func : ℕ) → GivesNone e func → function_in_elided e func ≡ function_in e func
  function_same func none =
      (finds_alike e).functions func ∙ same_function (rooms e func) (function_in e func) none

  pub same_operand : (env : Env) (ty : Ty) (x : Operand)
      → operand_value (elided_code e) env ty x ≡ operand_value e.code env ty x
  same_operand env ty (Operand.Global n) = addresses e n
  same_operand env ty (Operand.Local v) = refl
  same_operand env ty (Operand.Number z) = refl
  same_operand env ty Operand.True = refl
  same_operand env ty Operand.False = refl
  same_operand env ty Operand.Null = refl
  same_operand env ty Operand.None = refl
  same_operand env ty Operand.Poison = refl

  same_phis : (env : Env) (from : ℕ) (ps : List Phi)
      → phi_values (elided_code e) env from ps ≡ phi_values e.code env from ps
  same_phis env from [] = refl
  same_phis env from (p ∷ ps) =
      λ i. (p.result, same_operand env p.ty (incoming_from p.incoming from) i) ∷ same_phis env from ps i

  -- at the front of a block of a function of the framed form, with the values of its phis
  abbrev pub entered_at : ℕ → State → ℕ → State
  entered_at func t label =
      record t {
        top = record t.top {
          block = position_of (function_in e func) label;
          at = 0;
          values = with_all t.top.values (phi_values e.code t.top.values
              (label_from (function_in e func) t.top.block)
              (phis_at (function_in e func) (position_of (function_in e func) label)));
        };
      }

  module _ (t : State) (label : ℕ) where
    abbrev h : Function
    h = function_in_elided e t.top.func

    abbrev f : Function
    f = function_in e t.top.func

    place : position_of h label ≡ position_of f label
    place = (code_of t.top.func).labels label

    taken : phi_values (elided_code e) t.top.values (label_from h t.top.block) (phis_at h (position_of h label))
        ≡ phi_values e.code t.top.values (label_from f t.top.block) (phis_at f (position_of f label))
    taken =
        (λ i. phi_values (elided_code e) t.top.values (label_same t.top.func t.top.block i) (phis_at h (place i)))
        ∙ (ap (phi_values (elided_code e) t.top.values (label_from f t.top.block))
        ((code_of t.top.func).phis (position_of f label))
        ∙ same_phis t.top.values (label_from f t.top.block) (phis_at f (position_of f label)))

    enters_own : enter_block (elided e).given t label ≡ entered_at t.top.func t label
    enters_own =
        λ i. record t { top = record t.top { block = place i; at = 0; values = with_all t.top.values (taken i) } }

  pub enters : (t : State) (label func : ℕ) → t.top.func ≡ func
      → enter_block (elided e).given t label ≡ entered_at func t label
  enters t label func q = enters_own t label ∙ ap (λ (n : ℕ). entered_at n t label) q

  pub elided_windows : (func : ℕ)
      → (facts_at (elided e).given.facts func).windows ≡ windows_of (function_in_elided e func)
  elided_windows func = facts_windows (elided_code e).functions func

  pub framed_windows : (func : ℕ)
      → (facts_at (map framed_facts e.code.functions) func).windows ≡ windows_of (function_in e func)
  framed_windows func = facts_windows e.code.functions func
