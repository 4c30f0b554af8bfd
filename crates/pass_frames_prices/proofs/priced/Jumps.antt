-- Where a terminator leads, and blocks on resume and destroy edges.
use Rattle.std.proofs.Common.{◌≡◌, inl, inr, ℕ, Bool, true, false, List, [], ◌∷◌, Some, None, refl, sym, ap, ◌∙◌}
use Rattle.std.proofs.Common.{subst}
use Rattle.std.specs.Prelude.{map, slice_get, if◌then◌else◌, ◌==◌}
use Rattle.pass_frames_proof.specs.flow_solver.Paths.{IsListed}
use Rattle.pass_frames_proof.specs.ir_base.declared.outcome.Word.{Word}
use Rattle.pass_frames_proof.specs.ir_laws.paths.rows.Returns.{IsOwnBlock}
use Rattle.pass_frames_proof.specs.ir_model.Names.{position_of}
use Rattle.pass_frames_proof.specs.ir_model.Ty.{int}
use Rattle.pass_frames_proof.specs.ir_model.declared.instr.Case.{Case}
use Rattle.pass_frames_proof.specs.ir_model.declared.instr.Terminator.{Terminator}
use Rattle.pass_frames_proof.specs.ir_model.declared.module.Block.{Block}
use Rattle.pass_frames_proof.specs.ir_model.declared.module.Module.{Module}
use Rattle.pass_frames_proof.specs.ir_paths.Paths.{targets}
use Rattle.pass_frames_prices.specs.FramePrices.{returns_by}
use Rattle.pass_frames_proof.specs.Framings.{IsFraming}
use Rattle.pass_frames_proof.specs.Passes.{block_at}
use Rattle.pass_frames_proof.specs.Places.{Framing, edged, instrs_at, is_return}
use Rattle.pass_frames_proof.proofs.pass_proofs.copies.shape.Returned.{resumed_listed}
use Rattle.pass_frames_proof.proofs.rule_laws.rules.source_rules.Locals.{own_label}
use Rattle.pass_frames_proof.specs.rule_laws.frames.rows.Returns.{HaveOwnReturns}
use Rattle.pass_frames_proof.specs.run_memory.declared.pointer.Value.{Value}
use Rattle.pass_frames_proof.specs.run_step.Step.{Action, Context, Coro, Enter, GoTo, Return, Work, branch, is_word, switch, target_of}
use Rattle.pass_frames_proof.specs.run_step.Step.{term_action, value_at}
use Rattle.pass_frames_proof.specs.run_step.Values.{arg_value}

-- ---- what comes of a terminator

-- it goes to one of its labels, and as a return alone it returns
abbrev pub Leads : Terminator → Action → Type 0
Leads t (GoTo label) = IsListed label (targets t)
Leads t (Return v) = returns_by t ≡ true
Leads t (Enter func args result must_tail) = ⊥
Leads t (Coro i args result) = ⊥
Leads t _ = Unit {0}

target_listed : (m : Module) (x : Word) (default : ℕ) (cases : List Case)
    → IsListed (target_of m x default cases) (default ∷ map (λ (k : Case). k.target) cases)
target_listed m x default [] = inl refl
target_listed m x default (k ∷ cases) =
    on (is_word x (arg_value m [] k.arg)) (target_listed m x default cases)
  where
    on : (t : Bool) → IsListed (target_of m x default cases) (default ∷ map (λ (c : Case). c.target) cases)
        → IsListed (if t then k.target else target_of m x default cases)
        (default ∷ k.target ∷ map (λ (c : Case). c.target) cases)
    on true l = inr (inl refl)
    on false (inl e) = inl e
    on false (inr l) = inr (inr l)

module _ (c : Context) (w : Work) where
  term_leads : (t : Terminator) → Leads t (term_action c w t)
  term_leads (Terminator.Jump label) = inl refl
  term_leads (Terminator.Branch x a b) = on (value_at c w (int 1) x)
    where
      by : (t : Bool) → IsListed (if t then a else b) (a ∷ b ∷ [])
      by true = inl refl
      by false = inr (inl refl)

      on : (v : Value) → Leads (Terminator.Branch x a b) (branch v a b)
      on (Value.Int y) = by (y.bits == 1)
      on Value.Poison = tt
      on (Value.Ptr p) = tt
  term_leads (Terminator.Switch arg default cases) = on (arg_value c.code w.values arg)
    where
      on : (v : Value) → Leads (Terminator.Switch arg default cases) (switch c.code v default cases)
      on (Value.Int y) = target_listed c.code y default cases
      on Value.Poison = tt
      on (Value.Ptr p) = tt
  term_leads (Terminator.Ret None) = refl
  term_leads (Terminator.Ret (Some arg)) = refl
  term_leads Terminator.Unreachable = tt

  pub leads : (t : Terminator) (a : Action) → term_action c w t ≡ a → Leads t a
  leads t a e = subst (Leads t) e (term_leads t)

-- ---- blocks on resume and destroy edges

-- a jump alone
pub record IsBare (x : Framing) (k : ℕ) : Type 0 where
  pub no_instrs : instrs_at x k ≡ []
  pub no_phis : (block_at (edged x) k).phis ≡ []
  pub next : ℕ
  pub jump : (block_at (edged x) k).term ≡ Terminator.Jump next

same_block : (a b : Block) → Some a ≡ Some b → a ≡ b
same_block a b e = cc

pub bare : (x : Framing) → IsFraming x → HaveOwnReturns (edged x) → (k : ℕ)
    → slice_get (edged x).blocks k ≡ Some (block_at (edged x) k) → is_return x k ≡ true → IsBare x k
bare x is own k there e =
    let b : Block = block_at (edged x) k in
    let block : IsOwnBlock (edged x) b.label = own.own b.label (resumed_listed (edged x) b.label e) in
    let at : position_of (edged x) b.label ≡ k =
    own_label is.position (edged x) is.frameable.rules.definitions k b there
    in
    let same : block.block ≡ b = same_block block.block b (sym block.got ∙ ap (slice_get (edged x).blocks) at ∙ there)
    in
    record {
      no_instrs = ap (λ (c : Block). c.instrs) (sym same) ∙ block.no_instrs;
      no_phis = ap (λ (c : Block). c.phis) (sym same) ∙ block.no_phis;
      next = block.next;
      jump = ap (λ (c : Block). c.term) (sym same) ∙ block.jump;
    }
