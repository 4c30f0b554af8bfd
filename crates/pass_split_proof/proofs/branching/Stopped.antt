-- The switch of a suspend, which takes the stop edge on -1: the part jumps there.
use Rattle.std.proofs.Common.{◌≡◌, ℕ, ◌%◌, ◌≤◌, ◌^◌, inl, Bool, true, false, List, [], ◌∷◌, Option, Some, None, refl, sym, ap, ◌∙◌, subst, arith}
use Rattle.std.proofs.Math.Nat.{mod-le}
use Rattle.std.specs.Prelude.{pos, negsuc, slice_get, if◌then◌else◌, ◌==◌, ◌||◌, ◌&&◌}
use Rattle.pass_proofs.specs.ir_base.declared.outcome.Outcome.{Outcome}
use Rattle.pass_proofs.specs.ir_base.declared.outcome.Word.{Word}
use Rattle.pass_proofs.proofs.ir_laws.facts.Truth.{equal_numbers}
use Rattle.pass_proofs.specs.ir_model.Names.{declaration_named, function_at, function_named, global_named, position_of}
use Rattle.pass_proofs.specs.ir_model.Ty.{Ty, array, int, named, ptr, structure, token}
use Rattle.pass_proofs.specs.ir_model.declared.instr.Case.{Case}
use Rattle.pass_proofs.specs.ir_model.declared.instr.Terminator.{Terminator}
use Rattle.pass_proofs.specs.ir_model.declared.module.Module.{Module}
use Rattle.pass_proofs.specs.ir_model.declared.operand.Arg.{Arg}
use Rattle.pass_proofs.specs.ir_model.declared.operand.Operand.{Operand}
use Rattle.pass_proofs.specs.ir_paths.Windows.{is_number}
use Rattle.pass_split_proof.proofs.branching.Targets.{end_begins}
use Rattle.pass_split_proof.proofs.steps.Followed.{straight_followed}
use Rattle.pass_split_proof.proofs.steps.Settled.{plain_does}
use Rattle.pass_split_proof.specs.branching.Terminators.{ArePhisReadable}
use Rattle.pass_split_proof.specs.places.Places.{Enters}
use Rattle.pass_split_proof.specs.simulation.Followed.{IsFollowed}
use Rattle.pass_split_proof.specs.states.Activations.{is_entering}
use Rattle.pass_split_proof.specs.states.Related.{AreRelated}
use Rattle.pass_split_proof.specs.steps.Branches.{AreReadablePhis}
use Rattle.pass_proofs.specs.rule_shape.Switches.{are_both}
use Rattle.pass_proofs.specs.run_agreement.Machines.{IsFine}
use Rattle.pass_proofs.specs.run_framed.Framed.{FramedGiven, framed_context, framed_step}
use Rattle.pass_proofs.specs.run_ints.Numbers.{word_of}
use Rattle.pass_proofs.specs.run_memory.declared.pointer.Value.{Value}
use Rattle.run_access_worked.specs.run_plain.Plain.{PlainGiven}
use Rattle.run_access_worked.specs.run_plain.declared.state.PlainState.{PlainState}
use Rattle.pass_proofs.specs.run_source.State.{function_of, work_of}
use Rattle.pass_proofs.specs.run_source.declared.state.State.{State}
use Rattle.pass_proofs.specs.run_step.Step.{AtTerm, GoTo, action_of, fetch, is_word, label_of, phis_of, switch, target_of}
use Rattle.pass_proofs.specs.run_step.Values.{Env, address_from, arg_value, integer, operand_value}

-- ---- the values of a switch's operand and of its cases

no_number : (m : Module) (f g d : Option ℕ) (w : Word) → address_from m f g d ≡ Value.Int w → ⊥
no_number m (Some f) g d w e = absurd (cc)
no_number m None (Some g) d w e = absurd (cc)
no_number m None None (Some d) w e = absurd (cc)
no_number m None None None w e = absurd (cc)

-- a word is the same in any module
pub same_number : (m n : Module) (env : Env) (ty : Ty) (x : Operand) (w : Word)
    → operand_value m env ty x ≡ Value.Int w → operand_value n env ty x ≡ Value.Int w
same_number m n env ty (Operand.Global name) w e
    = absurd (no_number m (function_named m name) (global_named m name) (declaration_named m name) w e)
same_number m n env ty (Operand.Local v) w e = e
same_number m n env ty (Operand.Number z) w e = e
same_number m n env ty Operand.True w e = e
same_number m n env ty Operand.False w e = e
same_number m n env ty Operand.Null w e = e
same_number m n env ty Operand.None w e = e
same_number m n env ty Operand.Poison w e = e

both_low : (p q u v : Bool) → ((p && q) || (u && v)) ≡ true → ((p || u) ≡ true) × ((v || q) ≡ true)
both_low true true u true e = (refl, refl)
both_low true true u false e = (refl, refl)
both_low true false true true e = (refl, refl)
both_low true false true false e = absurd (cc)
both_low true false false v e = absurd (cc)
both_low false q true true e = (refl, refl)
both_low false q true false e = absurd (cc)
both_low false q false v e = absurd (cc)

-- 0 and 1 have other bits than -1
low_bits : (k w : ℕ) → ((0 == k) || (1 == k)) ≡ true → (255 == k % 2 ^ w) ≡ false
low_bits k w e = on (255 == k % 2 ^ w) refl
  where
    low : k ≤ 1
    low = by (0 == k) refl (1 == k) refl e
      where
        by : (b : Bool) → (0 == k) ≡ b → (c : Bool) → (1 == k) ≡ c → (b || c) ≡ true → k ≤ 1
        by true h c i j = let is : 0 ≡ k = equal_numbers 0 k h in omega (arith, is)
        by false h true i j = let is : 1 ≡ k = equal_numbers 1 k i in omega (arith, is)
        by false h false i j = absurd (cc)

    on : (b : Bool) → (255 == k % 2 ^ w) ≡ b → b ≡ false
    on true h = let is : 255 ≡ k % 2 ^ w = equal_numbers 255 (k % 2 ^ w) h in
        let less : k % 2 ^ w ≤ k = mod-le k (2 ^ w) in absurd (omega (arith, is, less, low))
    on false h = refl

other_word : (m : Module) (ty : Ty) (x : Operand) → (is_number 0 x || is_number 1 x) ≡ true
    → is_word (word_of 8 (negsuc 0)) (operand_value m [] ty x) ≡ false
other_word m (int w) (Operand.Number (pos k)) e = low_bits k w e
other_word m ptr (Operand.Number (pos k)) e = refl
other_word m token (Operand.Number (pos k)) e = refl
other_word m (array n ty) (Operand.Number (pos k)) e = refl
other_word m (structure tys) (Operand.Number (pos k)) e = refl
other_word m (named name) (Operand.Number (pos k)) e = refl
other_word m ty (Operand.Number (negsuc k)) e = absurd (cc)
other_word m ty (Operand.Local v) e = absurd (cc)
other_word m ty (Operand.Global name) e = absurd (cc)
other_word m ty Operand.True e = absurd (cc)
other_word m ty Operand.False e = absurd (cc)
other_word m ty Operand.Null e = absurd (cc)
other_word m ty Operand.None e = absurd (cc)
other_word m ty Operand.Poison e = absurd (cc)

-- so a switch of a suspend goes to its default
pub stop_default : (m : Module) (default : ℕ) (cases : List Case) → are_both cases ≡ true
    → target_of m (word_of 8 (negsuc 0)) default cases ≡ default
stop_default m default [] e = refl
stop_default m default (a ∷ []) e = absurd (cc)
stop_default m default (a ∷ b ∷ c ∷ cases) e = absurd (cc)
stop_default m default (a ∷ b ∷ []) e =
    let low = both_low (is_number 0 a.arg.value) (is_number 1 b.arg.value) (is_number 1 a.arg.value)
    (is_number 0 b.arg.value) e in
    ap (λ (t : Bool). if t then a.target else target_of m (word_of 8 (negsuc 0)) default (b ∷ []))
    (other_word m a.arg.ty a.arg.value low.0)
    ∙ ap (λ (t : Bool). if t then b.target else default) (other_word m b.arg.ty b.arg.value low.1)

-- ---- both runs

module _ (g : FramedGiven) (h : PlainGiven) (s : State) (t : PlainState) (r : AreRelated g h s t) where
  -- a block without phis has none that can't be read
  pub bare_readable : (begin label : ℕ)
      → phis_of (slice_get (function_at g.given.code s.top.func).blocks
      (position_of (function_at g.given.code s.top.func) label)) ≡ []
      → ArePhisReadable g h s begin label
  bare_readable begin label bare
      = subst (AreReadablePhis g.given.code h.code (function_at g.given.code s.top.func)
      (label_of (slice_get (function_at g.given.code s.top.func).blocks s.top.block)) begin) (sym bare)
      (record { taken = tt; others = tt })

  module _ (m : Module) (arg : Arg) (cases : List Case)
      (there : fetch (function_of g.given s) s.top.block s.top.at ≡ AtTerm (Terminator.Switch arg r.top.shape.end
      cases))
      (both : are_both cases ≡ true) (is : arg_value m s.top.values arg ≡ integer 8 (negsuc 0)) where
    abbrev term : Terminator
    term = Terminator.Switch arg r.top.shape.end cases

    -- the framed run goes to the end
    pub stops : action_of (framed_context g s) (work_of s) (AtTerm term) ≡ GoTo r.top.shape.end
    stops = ap (λ (v : Value). switch g.given.code v r.top.shape.end cases)
        (same_number m g.given.code s.top.values arg.ty arg.value (word_of 8 (negsuc 0)) is)
        ∙ ap (λ (l : ℕ). GoTo l) (stop_default g.given.code r.top.shape.end cases both)

    pub stop_followed : s.outcome ≡ Outcome.Running → IsFine (framed_step g s).outcome
        → is_entering s.top.mode ≡ false
        → fetch (function_at h.code t.top.func) t.top.block t.top.at ≡ AtTerm (Terminator.Jump r.top.shape.end)
        → Enters r.top.shape r.top.part (function_of g.given s) (function_at h.code t.top.func) s.top.block t.top.block
        r.top.shape.end → IsFollowed g h s t
    stop_followed runs fine settled jump enters = straight_followed g h s t r runs term r.top.shape.end there stops fine
        settled (bare_readable r.top.shape.begin r.top.shape.end bare) enters
        (plain_does h t (AtTerm (Terminator.Jump r.top.shape.end)) (GoTo r.top.shape.end) (r.outcome ∙ runs) jump refl)
      where
        bare : phis_of (slice_get (function_of g.given s).blocks (position_of (function_of g.given s) r.top.shape.end))
            ≡ []
        bare = (end_begins (function_of g.given s) (function_at h.code t.top.func) r.top.shape r.top.part s.top.block
            s.top.at term r.top.shape.end r.top.coded there (inl refl) refl).bare
