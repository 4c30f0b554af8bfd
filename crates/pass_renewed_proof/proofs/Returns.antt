-- A return leads back to the caller in both runs, or ends both.
use Rattle.std.proofs.Common.{◌≡◌, ◌≢◌, ℕ, Bool, true, false, List, [], ◌∷◌, length, map, Option, Some}
use Rattle.std.proofs.Common.{None, Result, Ok, Err, refl, sym, ap, ◌∙◌, subst, ⊎_elim, ◌==◌}
use Rattle.std.proofs.lemmas.Bool.{false≢true}
use Rattle.std.specs.Prelude.{IsTrue, option_map, slice_get, ℤ}
use Rattle.pass_kept_proof.specs.ir_base.declared.cause.Cause.{Cause}
use Rattle.pass_kept_proof.specs.ir_base.declared.outcome.Event.{Event}
use Rattle.pass_kept_proof.specs.ir_base.declared.outcome.Outcome.{Outcome}
use Rattle.pass_kept_proof.specs.ir_model.Names.{function_at}
use Rattle.pass_kept_proof.specs.ir_model.declared.instr.Instr.{Instr}
use Rattle.pass_kept_proof.specs.ir_model.declared.instr.Terminator.{Terminator}
use Rattle.pass_kept_proof.specs.ir_model.declared.module.Block.{Block}
use Rattle.pass_kept_proof.specs.ir_model.declared.module.Function.{Function}
use Rattle.pass_kept_proof.specs.ir_model.declared.module.Module.{Module}
use Rattle.pass_kept_proof.specs.ir_model.declared.operand.Arg.{Arg}
use Rattle.pass_kept_proof.specs.ir_model.declared.operand.Intrinsic.{Intrinsic}
use Rattle.pass_kept_proof.specs.ir_paths.Slots.{has_name, is_escaped, occurs_in_term}
use Rattle.pass_kept_proof.specs.ir_paths.Paths.{targets}
use Rattle.pass_kept_proof.specs.ir_paths.Windows.{resume_label}
use Rattle.pass_kept_proof.specs.ir_paths.declared.point.Point.{Point}
use Rattle.frame_classes.specs.frame_slots.Spots.{At}
use Rattle.pass_kept_proof.specs.Needed.{reads_at}
use Rattle.run_laws.specs.embedded.Related.{HasNoSlot, moved_event}
use Rattle.pass_kept_proof.specs.run_memory.Memory.{owner_rights}
use Rattle.pass_kept_proof.specs.run_memory.declared.pointer.Value.{Value}
use Rattle.pass_kept_proof.specs.run_source.Source.{given_back, pop, return, returned}
use Rattle.pass_kept_proof.specs.run_source.State.{work_of}
use Rattle.pass_kept_proof.specs.run_source.declared.state.Activation.{Activation}
use Rattle.pass_kept_proof.specs.run_source.declared.state.State.{State}
use Rattle.pass_kept_proof.specs.run_step.Results.{and_then}
use Rattle.pass_kept_proof.specs.run_step.Runs.{seen_event, seen_of}
use Rattle.pass_kept_proof.specs.run_step.Step.{AtTerm, Fetched, Return, action_of, fetch, fetch_in, fetch_or}
use Rattle.pass_kept_proof.specs.run_step.Step.{outcome_of, without_slots}
use Rattle.pass_kept_proof.specs.run_step.Values.{Env, arg_value}
use Rattle.pass_renewed_proof.proofs.Phis.{no_call_term}
use Rattle.pass_renewed_proof.proofs.Departing.{AreLeft}
use Rattle.pass_renewed_proof.proofs.Exposing.{term_escapes}
use Rattle.pass_renewed_proof.proofs.Reading.{read_used}
use Rattle.pass_renewed_proof.proofs.Returning.{AreReturned, died, goes_back}
use Rattle.pass_renewed_proof.proofs.Stands.{at_place}
use Rattle.pass_renewed_proof.proofs.Touching.{IsTouching, operand_stands}
use Rattle.pass_renewed_proof.specs.Ahead.{IsBehindSuspendCall}
use Rattle.pass_renewed_proof.specs.Beside.{AreBelow, AreOutdone, HasLeftSuspended, IsBeside, IsOverOf, place_in}
use Rattle.pass_renewed_proof.specs.Chosen.{places_at}
use Rattle.pass_renewed_proof.specs.Ledger.{Ledger, used_ledger}
use Rattle.pass_renewed_proof.specs.Ordinary.{IsOrdinary}
use Rattle.pass_renewed_proof.specs.Renewed.{Flags, Roots}
use Rattle.pass_renewed_proof.specs.SlotRules.{KeepsSlots}

-- ---- a terminator

term_is : (b : Block) (o : Option Instr) (z : Bool) (t : Terminator) → fetch_or o z b.term ≡ AtTerm t → b.term ≡ t
term_is b (Some i) z t e = absurd (cc)
term_is b None true t e = cc
term_is b None false t e = absurd (cc)

module _ (m : Module) (flags : Flags) (roots : Roots) (keeps : (func : ℕ)
    → KeepsSlots m (function_at m func) (flags func) (roots func)) (s t : State) (beside : IsBeside m flags roots s t)
    (arg : Option Arg) (here : fetch (function_at m s.top.func) s.top.block s.top.at ≡ AtTerm (Terminator.Ret arg))
  where
    abbrev f : Function
    f = function_at m s.top.func

    abbrev p : Point
    p = place_in s.top

    abbrev reading : Fetched
    reading = AtTerm (Terminator.Ret arg)

    no_switch : IsBehindSuspendCall (function_at m s.top.func) s.top.block s.top.at → ⊥
    no_switch behind =
        let w = (keeps s.top.func).suspends.switched (record { block = s.top.block; at = behind.before })
        behind.is_suspend in
        let same : AtTerm w.term ≡ AtTerm (Terminator.Ret arg) = sym w.stands ∙ ap (fetch f s.top.block) (sym
        behind.next) ∙ here in
        false≢true (ap (λ (x : Terminator). has_name (targets x) (resume_label f (record {
          block = s.top.block;
          at = behind.before;
        }))) (sym (same_term w.term (Terminator.Ret arg) same)) ∙ w.to_resume)
      where
        same_term : (x y : Terminator) → AtTerm x ≡ AtTerm y → x ≡ y
        same_term x y e = cc

    ordinary : IsOrdinary (function_at m s.top.func) (place_in s.top)
    ordinary = record {
      no_suspend = no_call_term f p (Terminator.Ret arg) Intrinsic.CoroSuspend here;
      no_switch = no_switch;
      no_end = λ is first. (keeps s.top.func).names.end_is_there (Terminator.Ret arg) (sym (λ i. fetch f (is i) (first
          i)) ∙ here);
      no_close = no_call_term f p (Terminator.Ret arg) Intrinsic.CoroEnd here;
    }

    escaping : (v al : ℕ) → roots s.top.func v ≡ Some al → IsTrue (reads_at v reading) → IsTrue (is_escaped f al)
    escaping v al root reads = on (slice_get f.blocks s.top.block) refl here
      where
        on : (o : Option Block) → slice_get f.blocks s.top.block ≡ o
            → fetch_in o s.top.at ≡ AtTerm (Terminator.Ret arg) → is_escaped f al ≡ true
        on None e k = absurd (cc)
        on (Some b) e k = term_escapes f al v ((keeps s.top.func).rooted v al root).1 s.top.block b e (ap
            (occurs_in_term v) (term_is b (slice_get b.instrs s.top.at) (s.top.at == length b.instrs) (Terminator.Ret
            arg) k) ∙ reads)

    touching : IsTouching m roots s.top reading (At (place_in s.top))
    touching = record {
      uses = λ v al root reads. read_used f p v al ((keeps s.top.func).rooted v al root).1 (subst HasNoSlot (sym here)
          tt) (subst (λ z. IsTrue (reads_at v z)) (sym here) reads);
      escapes = escaping;
      is_spot = λ al u. at_place m flags roots beside.ledger s.instances s.world.memory t.world.memory (length s.below)
          s.top t.top beside.top ordinary;
    }

    -- behind begin a return comes behind the end
    over : s.top.instance ≢ None → s.top.has_left ≡ false → IsOverOf s.instances s.top
    over some stays = ⊎_elim
        (λ runs. absurd ((keeps s.top.func).returns p arg here runs))
        (λ o. o.1 stays)
        (beside.top.begun some)

    abbrev k : Ledger
    k = used_ledger m beside.ledger (places_at (roots s.top.func) s.top.values beside.top.values reading)

    -- ---- the values

    abbrev gives : Env → Option Value
    gives env = option_map (λ a. arg_value m env a) arg

    returns_it : (env : Env) → (o : Option Arg) → (answers : List ℤ)
        → action_of (record { code = m; answers = answers; rights = owner_rights; function = function_at m s.top.func })
        (record { world = t.world; values = env }) (AtTerm (Terminator.Ret o)) ≡ Return (option_map (λ a. arg_value m
        env a) o)
    returns_it env None answers = refl
    returns_it env (Some a) answers = refl

    returns_first : (o : Option Arg) → (answers : List ℤ)
        → action_of (record { code = m; answers = answers; rights = owner_rights; function = function_at m s.top.func })
        (work_of s) (AtTerm (Terminator.Ret o)) ≡ Return (option_map (λ a. arg_value m s.top.values a) o)
    returns_first None answers = refl
    returns_first (Some a) answers = refl

    values_stand : AreReturned k (gives s.top.values) (gives beside.top.values)
    values_stand = on arg refl
      where
        on : (o : Option Arg) → arg ≡ o → AreReturned k (option_map (λ a. arg_value m s.top.values a) o) (option_map
            (λ a. arg_value m beside.top.values a) o)
        on None e = refl
        on (Some a) e = (
          arg_value m beside.top.values a,
          refl,
          operand_stands m flags roots keeps s t beside reading (At p) touching a.ty a.value (λ v is. subst (λ o. IsTrue
              (reads_at v (AtTerm (Terminator.Ret o)))) (sym e) is),
        )

    same_value : (v : Option Value) (answers : List ℤ) → action_of (record {
      code = m;
      answers = answers;
      rights = owner_rights;
      function = function_at m s.top.func;
    }) (work_of s) (AtTerm (Terminator.Ret arg)) ≡ Return v → v ≡ gives s.top.values
    same_value v answers e = same (sym e ∙ returns_first arg answers)
      where
        same : {x y : Option Value} → Return x ≡ Return y → x ≡ y
        same q = cc

    -- ---- the caller goes on

    module _ (outdone : AreOutdone s.instances s.top s.below) (asleep : HasLeftSuspended s.instances s.top) where
      abbrev Left : List Activation → List Activation → Type 0
      Left as' bs = (hs : ℕ → Bool) × AreLeft m flags roots (record k { hides = hs }) s.instances t.instances
          (without_slots s.world.memory s.top.slots) (without_slots t.world.memory beside.top.slots) s.top.result as' bs

      left : Left s.below t.below
      left = died m flags roots keeps s t beside reading (At p) touching over outdone asleep

      abbrev Back : State → Activation → List Activation → Type 0
      Back after a below = (other : State) × (return t (gives t.top.values) ≡ Ok other) × IsBeside m flags roots after
          other

      back_by : (a : Activation) (below : List Activation) (bs : List Activation) → t.below ≡ bs → Left (a ∷ below) bs
          → Back (record (returned s) { top = given_back a s.top.result (gives s.top.values); below = below }) a below
      back_by a below [] e (hs, r) = absurd r.below
      back_by a below (b ∷ bs) e (hs, r) = (
        record (returned t) { top = given_back b t.top.result (gives t.top.values); below = bs },
        ap (pop (returned t) (gives t.top.values)) e,
        subst (λ (z : Activation). IsBeside m flags roots (record (returned s) {
          top = given_back a s.top.result (gives s.top.values);
          below = below;
        }) (record t {
          world = record t.world { memory = without_slots t.world.memory z.slots };
          top = given_back b z.result (gives z.values);
          below = bs;
        })) (sym beside.top.is) (goes_back m flags roots keeps s t beside reading (At p) touching over outdone asleep
            (gives s.top.values) (gives beside.top.values) values_stand a b below bs hs r),
      )

      pub back_to_caller : (a : Activation) (below : List Activation) → s.below ≡ a ∷ below → (answers : List ℤ) (v :
          Option Value) → action_of (record {
            code = m;
            answers = answers;
            rights = owner_rights;
            function = function_at m s.top.func;
          }) (work_of s) (AtTerm (Terminator.Ret arg)) ≡ Return v → (after : State) → return s v ≡ Ok after
          → (u : Option Value) × (other : State) × (action_of (record {
            code = m;
            answers = answers;
            rights = owner_rights;
            function = function_at m s.top.func;
          }) (work_of t) (AtTerm (Terminator.Ret arg)) ≡ Return u) × (return t u ≡ Ok other)
          × IsBeside m flags roots after other
      back_to_caller a below is answers v e after done =
          let r = back_by a below t.below refl (subst (λ zs. Left zs t.below) is left) in
          let same : record (returned s) {
            top = given_back a s.top.result (gives s.top.values);
            below = below;
          } ≡ after = same_ok (sym (ap (pop (returned s) (gives s.top.values)) is) ∙ ap (return s) (sym (same_value v
          answers e)) ∙ done) in (
            gives t.top.values,
            r.0,
            returns_it t.top.values arg answers,
            r.1,
            subst (λ (z : State). IsBeside m flags roots z r.0) same r.2,
          )
        where
          same_ok : {x y : State} → ◌≡◌ {A = Result State Cause} (Ok x) (Ok y) → x ≡ y
          same_ok q = cc

    -- ---- the run has returned

    ends_alike : (v u : Option Value) (o : Outcome) → AreReturned k v u → outcome_of v ≡ Ok o → outcome_of u ≡ Ok o
    ends_alike None u o h e = ap outcome_of h ∙ e
    ends_alike (Some (Value.Int x)) u o h e = ap outcome_of (h.1 ∙ ap (λ (z : Value). Some z) h.2) ∙ e
    ends_alike (Some Value.Poison) u o h e = absurd (cc)
    ends_alike (Some (Value.Ptr q)) u o h e = absurd (cc)

    same_events : (es : List Event) → map (seen_event m) (map (moved_event (λ d. d)) es) ≡ map (seen_event m) es
    same_events [] = refl
    same_events (e ∷ es) = ap (λ xs. seen_event m e ∷ xs) (same_events es)

    none_below : s.below ≡ [] → t.below ≡ []
    none_below none = on t.below (subst (λ zs. AreBelow m flags roots beside.ledger s.instances s.world.memory
        t.world.memory s.top.result zs t.below) none beside.below)
      where
        on : (bs : List Activation) → AreBelow m flags roots beside.ledger s.instances s.world.memory t.world.memory
            s.top.result [] bs → bs ≡ []
        on [] h = refl
        on (b ∷ bs) h = absurd h

    pub run_ends : s.below ≡ [] → (answers : List ℤ) (v : Option Value) → action_of (record {
      code = m;
      answers = answers;
      rights = owner_rights;
      function = function_at m s.top.func;
    }) (work_of s) (AtTerm (Terminator.Ret arg)) ≡ Return v → (after : State) → return s v ≡ Ok after
        → (u : Option Value) × (other : State) × (action_of (record {
          code = m;
          answers = answers;
          rights = owner_rights;
          function = function_at m s.top.func;
        }) (work_of t) (AtTerm (Terminator.Ret arg)) ≡ Return u) × (return t u ≡ Ok other)
        × (seen_of m other.world other.outcome ≡ seen_of m after.world after.outcome)
    run_ends none answers v e after done = on (outcome_of (gives s.top.values)) refl (sym (ap (pop (returned s) (gives
        s.top.values)) none) ∙ ap (return s) (sym (same_value v answers e)) ∙ done)
      where
        same_ok : {x y : State} → ◌≡◌ {A = Result State Cause} (Ok x) (Ok y) → x ≡ y
        same_ok q = cc

        alike : (o : Outcome) → seen_of m t.world o ≡ seen_of m s.world o
        alike o = λ i. record {
          events = (ap (map (seen_event m)) beside.world.events ∙ same_events s.world.events) i;
          outcome = o;
          allocs = beside.world.allocs i;
        }

        on : (r : Result Outcome Cause) → outcome_of (gives s.top.values) ≡ r
            → and_then r (λ (o : Outcome). Ok (record (returned s) { outcome = o })) ≡ Ok after
            → (u : Option Value) × (other : State) × (action_of (record {
              code = m;
              answers = answers;
              rights = owner_rights;
              function = function_at m s.top.func;
            }) (work_of t) (AtTerm (Terminator.Ret arg)) ≡ Return u) × (return t u ≡ Ok other)
            × (seen_of m other.world other.outcome ≡ seen_of m after.world after.outcome)
        on (Err c) q k = absurd (cc)
        on (Ok o) q k =
            let same : record (returned s) { outcome = o } ≡ after = same_ok k in (
              gives t.top.values,
              record (returned t) { outcome = o },
              returns_it t.top.values arg answers,
              ap (pop (returned t) (gives t.top.values)) (none_below none) ∙ ap (λ (r : Result Outcome Cause). and_then
                  r (λ (o : Outcome). Ok (record (returned t) { outcome = o }))) (subst (λ (z : Activation). outcome_of
                  (gives z.values) ≡ Ok o) (sym beside.top.is) (ends_alike (gives s.top.values) (gives
                  beside.top.values) o values_stand q)),
              alike o ∙ ap (λ (z : State). seen_of m z.world z.outcome) same,
            )
