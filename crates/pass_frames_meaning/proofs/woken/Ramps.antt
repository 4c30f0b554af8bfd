-- Calls of ramps are followed.
use Rattle.std.proofs.Common.{◌≡◌, ℕ, suc, ◌<◌, Bool, true, false, List, [], ◌∷◌, length, map, replicate, Option, Some, None, refl, sym, ap, ◌∙◌, subst}
use Rattle.std.proofs.lemmas.Bool.{and_parts, false≢true}
use Rattle.std.proofs.lemmas.List.{length-map, length-replicate}
use Rattle.std.specs.Prelude.{slice_get, unwrap_or}
use Rattle.pass_frames_proof.specs.ir_base.declared.name.Name.{Name}
use Rattle.pass_frames_proof.specs.ir_base.declared.outcome.Outcome.{Outcome}
use Rattle.pass_frames_proof.proofs.ir_laws.facts.Members.{each_turns}
use Rattle.pass_frames_proof.specs.ir_model.Layout.{same_type}
use Rattle.pass_frames_proof.specs.ir_model.Names.{declaration_named, function_at, function_named, no_function}
use Rattle.pass_frames_proof.specs.ir_model.Ty.{Ty}
use Rattle.pass_frames_proof.specs.ir_model.declared.instr.Instr.{Instr}
use Rattle.pass_frames_proof.specs.ir_model.declared.module.Function.{Function}
use Rattle.pass_frames_proof.specs.ir_model.declared.module.Param.{Param}
use Rattle.pass_frames_proof.specs.ir_model.declared.operand.Arg.{Arg}
use Rattle.pass_frames_proof.specs.ir_model.declared.operand.Callee.{Callee}
use Rattle.pass_frames_proof.specs.ir_model.declared.operand.Intrinsic.{Intrinsic}
use Rattle.pass_frames_proof.specs.pass_cells.declared.plan.KeptValue.{KeptValue}
use Rattle.pass_frames_meaning.proofs.called.Comes.{Comes, comes}
use Rattle.pass_frames_meaning.proofs.coroutines.Calls.{has_blocks}
use Rattle.pass_frames_meaning.proofs.coroutines.Steps.{may_stand}
use Rattle.pass_frames_meaning.proofs.ordinary.Standing.{fetch_ready}
use Rattle.pass_frames_meaning.proofs.others.AtPlace.{called_by_name, function_there}
use Rattle.pass_frames_meaning.proofs.others.Names.{result_low}
use Rattle.pass_frames_meaning.proofs.others.Others.{IsQuietAction, mode as plain_mode, quiet_observed}
use Rattle.pass_frames_meaning.proofs.others.Unlocated.{unaccessed}
use Rattle.pass_frames_meaning.proofs.woken.Sleeping.{is, same, w}
use Rattle.pass_frames_meaning.proofs.woken.Wakes.{no_call_entering}
use Rattle.pass_frames_meaning.specs.Called.{IsCalling}
use Rattle.pass_frames_meaning.specs.Coroutines.{HasStorables, MayFollow}
use Rattle.pass_frames_meaning.specs.Setting.{AreOfRuns, KeepsAll, Setting}
use Rattle.pass_frames_meaning.specs.Standing.{MayStand}
use Rattle.pass_frames_meaning.specs.Woken.{KeepsWaking, MayWake}
use Rattle.pass_frames_proof.proofs.ramps.Called.{other_ramps_followed, ramps_followed}
use Rattle.pass_frames_proof.proofs.ramps.Params.{params_low, params_once}
use Rattle.pass_frames_proof.proofs.ramps.Values.{params_given}
use Rattle.pass_frames_proof.proofs.stepping.Stands.{renewed_does}
use Rattle.pass_frames_proof.specs.Followed.{IsFollowed}
use Rattle.pass_frames_proof.specs.Framings.{IsFraming}
use Rattle.pass_frames_proof.specs.Lines.{IsStorable}
use Rattle.pass_frames_proof.specs.Places.{Framing, edged}
use Rattle.pass_frames_proof.specs.Ramps.{FitsParam, IsRamp}
use Rattle.pass_frames_proof.specs.Related.{AreBuiltOf, IsKeptValue, is_coroutine}
use Rattle.pass_frames_proof.specs.Stepping.{IsNotEntering, state_in}
use Rattle.pass_frames_proof.specs.Stores.{given_params}
use Rattle.pass_frames_proof.specs.pass_renewed_proof.Renewed.{renewed_step}
use Rattle.pass_frames_proof.specs.rule_types.Signatures.{fits_function, fits_position, same_list, same_result}
use Rattle.pass_frames_proof.specs.run_agreement.Machines.{IsFine}
use Rattle.pass_frames_proof.specs.run_laws.changed.Changed.{Each}
use Rattle.pass_frames_proof.specs.run_memory.declared.pointer.Value.{Value}
use Rattle.pass_frames_proof.specs.run_source.Source.{context_of, enter}
use Rattle.pass_frames_proof.specs.run_source.State.{function_of, work_of}
use Rattle.pass_frames_proof.specs.run_source.declared.state.State.{State}
use Rattle.pass_frames_proof.specs.run_step.Step.{Action, AtInstr, Enter, entry_values, fetch, instr_action, named_call, with_params, words_of}
use Rattle.pass_frames_proof.specs.run_step.Values.{arg_value, arg_values, value_in}

-- ---- as many arguments as parameters

same_long : (ts us : List Ty) → same_list ts us ≡ true → length ts ≡ length us
same_long [] [] e = refl
same_long [] (u ∷ us) e = absurd (false≢true e)
same_long (t ∷ ts) [] e = absurd (false≢true e)
same_long (t ∷ ts) (u ∷ us) e = ap suc (same_long ts us (and_parts (same_type t u) (same_list ts us) e).1)

fits_long : (ty : Option Ty) (ts : List Ty) (o : Option Function) → fits_function ty ts o ≡ true
    → length ts ≡ length (unwrap_or o no_function).params
fits_long ty ts None e = absurd (false≢true e)
fits_long ty ts (Some f) e =
    same_long ts (map (λ (p : Param). p.ty) f.params)
    (and_parts (same_result ty f.result) (same_list ts (map (λ (p : Param). p.ty) f.params)) e).1
    ∙ length-map f.params (λ (p : Param). p.ty)

entered_args : (f g : ℕ) (xs ys : List Value) (o p : Option ℕ) (a b : Bool) → Enter f xs o a ≡ Enter g ys p b
    → (f ≡ g) × (xs ≡ ys)
entered_args f g xs ys o p a b e = (cc, cc)

no_enter : (a : Action) → IsQuietAction a → (func : ℕ) (args : List Value) (result : Option ℕ) (must_tail : Bool)
    → a ≡ Enter func args result must_tail → ⊥
no_enter a h func args result must_tail e = subst IsQuietAction e h

module _ (c : Setting) (all : KeepsAll c) (waking : KeepsWaking c) (s t : State) (r : AreBuiltOf c.b s t)
    (k : AreOfRuns c s t r) (runs : s.outcome ≡ Outcome.Running) (fine : IsFine (renewed_step c.g s).outcome)
    (may : MayWake c s)
    (follow : is_coroutine c.b s.top.func ≡ true → IsNotEntering s.top.mode → MayFollow c s)
    (storables : HasStorables c (renewed_step c.g s)) where
  abbrev Follows : Type 0
  Follows = IsFollowed c.b c.g s t

  -- ---- a call of a function by its name

  module _ (result : Option ℕ) (must_tail : Bool) (ty : Option Ty) (n : Name) (args : List Arg)
      (there : fetch (function_of c.g.given s) s.top.block s.top.at
      ≡ AtInstr (Instr.Call result must_tail ty (Callee.Named n) args)) where
    abbrev i : Instr
    i = Instr.Call result must_tail ty (Callee.Named n) args

    module _ (func : ℕ) (vs : List Value) (to : Option ℕ) (tail : Bool)
        (does : instr_action (context_of c.g.given s) (work_of s) i ≡ Enter func vs to tail)
        (coroutine : is_coroutine c.b func ≡ true) where
      abbrev x : Framing
      x = c.b.framing func

      abbrev framing : IsFraming x
      framing = is c all waking func coroutine

      code : function_at c.g.given.code func ≡ edged x
      code = same c all waking func coroutine

      source_is : renewed_step c.g s ≡ enter c.g.given s func vs to
      source_is = renewed_does c.g s (AtInstr i) (Enter func vs to tail) runs there refl does

      -- what the entry's names have may be stored
      may_store : (q : ℕ) (kv : KeptValue) → IsKeptValue x q kv
          → IsStorable kv.ty (value_in (entry_values (edged x) vs) q)
      may_store q kv told =
          subst (λ (f : Function). IsStorable kv.ty (value_in (entry_values f vs) q)) code
          (subst (HasStorables c) source_is storables coroutine q kv told)

      abbrev params : List Param
      params = (edged x).params

      given : Each (λ (q : ℕ × Value).
          value_in (with_params (replicate (length (edged x).names) None) params vs) q.0 ≡ q.1)
          (given_params params vs)
      given =
          params_given params vs (replicate (length (edged x).names) None)
          (params_once framing.position (edged x) framing.frameable.rules.definitions)
          (subst (λ (m : ℕ). Each (λ (p : Param). p.name < m) params)
          (sym (length-replicate (length (edged x).names) None))
          (params_low framing.position (edged x) framing.frameable.rules.tabled))

      long : length vs ≡ length params
      long = on (function_named c.g.given.code n) refl
        where
          named : (o : Option ℕ) → function_named c.g.given.code n ≡ o
              → fits_position c.g.given.code ty (map (λ (a : Arg). a.ty) args) n o ≡ true
          named o e = ap (fits_position c.g.given.code ty (map (λ (a : Arg). a.ty) args) n) (sym e)
              ∙ (all.types s.top.func).calls s.top.block s.top.at result must_tail ty (Callee.Named n) args there

          acts : (o : Option ℕ) → function_named c.g.given.code n ≡ o
              → named_call (context_of c.g.given s) (work_of s) o (declaration_named c.g.given.code n) ty result
              must_tail (arg_values c.g.given.code s.top.values args) ≡ Enter func vs to tail
          acts o e = ap (λ (q : Option ℕ). named_call (context_of c.g.given s) (work_of s) q
              (declaration_named c.g.given.code n) ty result must_tail
              (arg_values c.g.given.code s.top.values args)) (sym e) ∙ does

          observes : (d : Option ℕ)
              → IsQuietAction (named_call (context_of c.g.given s) (work_of s) None d ty result must_tail
              (arg_values c.g.given.code s.top.values args))
          observes None = tt
          observes (Some d) = quiet_observed (context_of c.g.given s) (work_of s) d ty result
              (words_of (arg_values c.g.given.code s.top.values args))

          on : (o : Option ℕ) → function_named c.g.given.code n ≡ o → length vs ≡ length params
          on None e = absurd (no_enter _ (observes (declaration_named c.g.given.code n)) func vs to tail (acts None e))
          on (Some f) e =
              let both = entered_args f func (arg_values c.g.given.code s.top.values args) vs result to must_tail tail
              (acts (Some f) e) in
              ap length (sym both.1)
              ∙ length-map args (arg_value c.g.given.code s.top.values)
              ∙ sym (length-map args (λ (a : Arg). a.ty))
              ∙ fits_long ty (map (λ (a : Arg). a.ty) args) (slice_get c.g.given.code.functions f) (named (Some f) e)
              ∙ ap (λ (g : ℕ). length (function_at c.g.given.code g).params) both.0
              ∙ ap (λ (g : Function). length g.params) code

      ramp : IsRamp c.b.framed_code func x vs
      ramp = record {
        entry = (w c all waking func coroutine).entry;
        allocas = (w c all waking func coroutine).rules;
        params = record {
          long = long;
          fit = each_turns (λ (q : ℕ × Value).
              value_in (with_params (replicate (length (edged x).names) None) params vs) q.0 ≡ q.1) (FitsParam x)
              (λ q e. record { storable = λ kv told. subst (IsStorable kv.ty) e (may_store q.0 kv told) })
              (given_params params vs) given;
        };
      }

      mode_now : IsNotEntering s.top.mode
      mode_now =
          no_call_entering c all waking s t r k runs fine may follow result must_tail ty (Callee.Named n) args there

      named_ramp : Follows
      named_ramp = on (is_coroutine c.b s.top.func) refl
        where
          on : (b : Bool) → is_coroutine c.b s.top.func ≡ b → Follows
          on false e = other_ramps_followed c.b c.g all.given s t r i func vs to tail (record {
            runs = runs;
            plain = e;
            mode = plain_mode c all s t r k runs fine e;
            there = there;
            does = does;
            call = tt;
            pointed = λ u. tt;
            gives = all.ungiven s.top.func s.top.block s.top.at i there;
          }) coroutine ramp (has_blocks t k.other_slots)
          on true e =
              let stand : MayStand c s i = may_stand c all s t r k runs fine e mode_now
              (follow e mode_now) i there refl tt
              (unaccessed (c.b.framing s.top.func) (state_in (c.b.framing s.top.func) s.top.block s.top.at) i refl) in
              ramps_followed c.b c.g all.given s t r i func vs to tail (record {
                runs = runs;
                at = fetch_ready c all s k.sound e mode_now i there tt stand;
                does = does;
                call = tt;
                unlocated = stand.unlocated;
                pointed = λ u. tt;
                gives = all.ungiven s.top.func s.top.block s.top.at i there;
                allocas = λ at u align of d.
                    result_low (c.b.framing s.top.func) (all.given.framings s.top.func e) 0 at u
                    (Instr.Alloca u of align) d refl;
              }) coroutine ramp (has_blocks t k.other_slots)

  -- ---- nothing else enters one

  pub ramps_all : (i : Instr) (func : ℕ) (args : List Value) (result : Option ℕ) (must_tail : Bool)
      → fetch (function_of c.g.given s) s.top.block s.top.at ≡ AtInstr i
      → instr_action (context_of c.g.given s) (work_of s) i ≡ Enter func args result must_tail
      → is_coroutine c.b func ≡ true → Follows
  ramps_all i func args result must_tail there does coroutine =
      by i there does (subst (Comes i) does (comes (context_of c.g.given s) (work_of s) i)).0
    where
      by : (i : Instr) → fetch (function_of c.g.given s) s.top.block s.top.at ≡ AtInstr i
          → instr_action (context_of c.g.given s) (work_of s) i ≡ Enter func args result must_tail → IsCalling i
          → Follows
      by (Instr.Call to tail ty (Callee.Named n) xs) e d h = named_ramp to tail ty n xs e func args result must_tail d
          coroutine
      by (Instr.Call to tail ty (Callee.Local v) xs) e d h =
          absurd (called_by_name c.g.given.code s.top.func (function_at c.g.given.code s.top.func)
          (all.rules s.top.func (function_at c.g.given.code s.top.func)
          (function_there c.g.given.code s.top.func s.top.block s.top.at
          (Instr.Call to tail ty (Callee.Local v) xs) e)) s.top.block s.top.at to tail ty xs v e)
      by (Instr.Call to tail ty (Callee.Allocator a) xs) e d h = absurd h
      by (Instr.Call to tail ty (Callee.Intrinsic Intrinsic.CoroResume) xs) e d h = absurd (cc)
      by (Instr.Call to tail ty (Callee.Intrinsic Intrinsic.CoroDestroy) xs) e d h = absurd (cc)
      by (Instr.Call to tail ty (Callee.Intrinsic _) xs) e d h = absurd h
      by _ e d h = absurd h
