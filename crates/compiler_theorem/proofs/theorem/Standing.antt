-- Activations of runs in which a resume hands on values: the entry's is the last one, and those below stand behind calls.
-- Where a step leads that neither jumps nor resumes, nothing is left of what was paid before.
use Rattle.std.proofs.Common.{◌≡◌, ◌⊎◌, inl, inr, ℕ, ◌+◌, Bool, true, false, List, [], ◌∷◌, length, Option, Some, None, Result, Ok, Err, refl, sym, ap, ◌∙◌, subst, arith, if◌then◌else◌}
use Rattle.std.specs.Prelude.{is_none, not, ◌==◌, ◌&&◌}
use Rattle.compiler.specs.ir_base.declared.cause.Cause.{Cause}
use Rattle.compiler.specs.ir_base.declared.outcome.Outcome.{Outcome}
use Rattle.compiler.specs.ir_model.declared.instr.Terminator.{Terminator}
use Rattle.compiler.specs.ir_model.declared.operand.Arg.{Arg}
use Rattle.compiler.specs.ir_model.declared.operand.Intrinsic.{Intrinsic}
use Rattle.compiler.specs.ir_model.declared.operand.Operand.{Operand}
use Rattle.compiler.specs.ir_paths.Windows.{operand_at, suspend_of}
use Rattle.compiler.specs.ir_paths.declared.point.Point.{Point}
use Rattle.pass_frames_prices.specs.FramePrices.{credit, left_at}
use Rattle.pass_frames_meaning.specs.pass_frames_proof.Places.{is_return}
use Rattle.pass_frames_meaning.specs.pass_frames_proof.Related.{Building, is_coroutine}
use Rattle.compiler.specs.run_memory.Memory.{killed, own}
use Rattle.compiler.specs.run_memory.declared.block.Kind.{Kind}
use Rattle.compiler.specs.run_memory.declared.block.MemoryBlock.{MemoryBlock}
use Rattle.compiler.specs.run_memory.declared.pointer.Value.{Value}
use Rattle.compiler.specs.run_source.Source.{Continues, Sleeper, after_end, begin, begin_at, begun, change_own, coro, deallocate, end_of, finish, given_back, if_let_go, is_among, is_over, kill_late, let_go, may_be_freed, new_slot, pop, promise, release, return, returned, save_for, sleeper_at, suspend, with_new_slots}
use Rattle.compiler.specs.run_source.State.{function_of, gives, instance_at, next, own_facts, own_frame, own_instance, point_of, settled, with_instance, with_left, with_memory}
use Rattle.compiler.specs.run_source.declared.state.Activation.{Activation}
use Rattle.compiler.specs.run_source.declared.state.Instance.{Instance}
use Rattle.compiler.specs.run_source.declared.state.Mode.{Mode}
use Rattle.compiler.specs.run_source.declared.state.State.{State}
use Rattle.compiler.specs.run_source.declared.state.Status.{Status}
use Rattle.compiler.specs.run_source_tables.Given.{Given}
use Rattle.compiler.specs.run_step.Results.{and_then, found, ok_if}
use Rattle.compiler.specs.run_step.Step.{AtTerm, Work, block_of, deallocated, fetch, outcome_of}
use Rattle.compiler.specs.run_step.Values.{nth}
use Rattle.compiler.specs.run_step.declared.world.Slot.{Slot}

-- ---- what holds in each state

-- each stands behind an instruction of its block
abbrev pub AreBehind : List Activation → Type 0
AreBehind [] = Unit {0}
AreBehind (a ∷ more) = ((a.at == 0) ≡ false) × AreBehind more

-- the last of them is the entry's
abbrev pub IsBottom : ℕ → Activation → List Activation → Type 0
IsBottom entry a [] = (a.func ≡ entry) × (a.mode ≡ Mode.Plain)
IsBottom entry a (c ∷ more) = IsBottom entry c more

-- a run that is over has returned from its entry
pub record IsDone (k : Given) (s : State) : Type 0 where
  pub term : Terminator
  pub there : fetch (function_of k s) s.top.block s.top.at ≡ AtTerm term
  pub alone : s.below ≡ []

pub record IsStanding (k : Given) (entry : ℕ) (s : State) : Type 0 where
  pub behind : AreBehind s.below
  pub bottom : IsBottom entry s.top s.below
  pub over : (s.outcome ≡ Outcome.Running) ⊎ IsDone k s

-- what is said of activations is the same, but for values and slots
pub record IsLike (s t : State) : Type 0 where
  pub func : t.top.func ≡ s.top.func
  pub mode : t.top.mode ≡ s.top.mode
  pub at : t.top.at ≡ s.top.at
  pub below : t.below ≡ s.below
  pub outcome : t.outcome ≡ s.outcome

pub itself : (s : State) → IsLike s s
itself s = record { func = refl; mode = refl; at = refl; below = refl; outcome = refl }

pub not_first : (n : ℕ) → (n + 1 == 0) ≡ false
not_first n = grind arith

pub bottom_same : (entry : ℕ) (a c : Activation) (below : List Activation) → c.func ≡ a.func → c.mode ≡ a.mode
    → IsBottom entry a below → IsBottom entry c below
bottom_same entry a c [] e d h = (e ∙ h.0, d ∙ h.1)
bottom_same entry a c (x ∷ more) e d h = h

nothing_left : (c r first : Bool) (left : ℕ) → (c ≡ false) ⊎ (first ≡ false)
    → (if c && (r && first) then left else 0) ≡ 0
nothing_left false r first left e = refl
nothing_left true false first left e = refl
nothing_left true true false left e = refl
nothing_left true true true left (inl e) = absurd (cc)
nothing_left true true true left (inr e) = absurd (cc)

-- ---- parts of a step after which the activations are alike

pub own_like : (s : State) (f : Instance → Instance) (o : Option (ℕ × Instance)) → IsLike s (change_own s f o)
own_like s f None = itself s
own_like s f (Some p) = record { func = refl; mode = refl; at = refl; below = refl; outcome = refl }

finish_like : (s : State) → IsLike s (finish s)
finish_like s =
    let e = own_like s (λ x. record x { status = Status.Finished }) (own_instance s) in
    record { func = e.func; mode = e.mode; at = e.at; below = e.below; outcome = e.outcome }

late_like : (ramp_slots : List ℕ) (o : Option (ℕ × Instance)) (s : State) (slot : Slot)
    → IsLike s (with_new_slots ramp_slots o (kill_late ramp_slots o s slot) (slot ∷ []))
late_like ramp_slots None s slot = record { func = refl; mode = refl; at = refl; below = refl; outcome = refl }
late_like ramp_slots (Some p) s slot = on (is_over p.1 && not (is_among ramp_slots slot))
  where
    on : (c : Bool)
        → IsLike s (with_new_slots ramp_slots (Some p) (if c then with_memory s (killed s.world.memory slot.block) else s) (slot ∷ []))
    on true = record { func = refl; mode = refl; at = refl; below = refl; outcome = refl }
    on false = record { func = refl; mode = refl; at = refl; below = refl; outcome = refl }

let_go_like : (s : State) (o : Option (ℕ × Instance)) → IsLike s (if_let_go s o)
let_go_like s None = itself s
let_go_like s (Some q) = on (may_be_freed q.1)
  where
    on : (c : Bool) → IsLike s (if c then let_go s q.0 q.1 else s)
    on true = record { func = refl; mode = refl; at = refl; below = refl; outcome = refl }
    on false = itself s

got : (a c : State) → ◌≡◌ {A = Result State Cause} (Ok a) (Ok c) → a ≡ c
got a c e = cc

module _ (s : State) (p u : Point) (t : State) where
  abbrev saved_by : ℕ × Instance → State
  saved_by q = with_left (with_instance s q.0 (record q.1 {
    status = Status.Suspended u s.top.values;
    last_save = Some (record { depth = length s.below; save = p });
  })) true

  saved_if : (q : ℕ × Instance) (c : Bool) → ok_if c Cause.State (saved_by q) ≡ Ok t → IsLike s t
  saved_if q false e = absurd (cc)
  saved_if q true e =
      subst (IsLike s) (got (saved_by q) t e)
      (record { func = refl; mode = refl; at = refl; below = refl; outcome = refl })

  pub saved_like : save_for s p u ≡ Ok t → IsLike s t
  saved_like e = on (own_instance s) e
    where
      on : (o : Option (ℕ × Instance))
          → and_then (found Cause.State o) (λ (i, x). ok_if (not x.freed) Cause.State (saved_by (i, x))) ≡ Ok t
          → IsLike s t
      on None d = absurd (cc)
      on (Some q) d = saved_if q (not q.1.freed) d

-- ---- what is left behind a step

abbrev pub IsNoWake : Intrinsic → Type 0
IsNoWake Intrinsic.CoroResume = ⊥
IsNoWake Intrinsic.CoroDestroy = ⊥
IsNoWake _ = Unit {0}

module _ (b : Building) (names entry : ℕ) (plain : is_coroutine b entry ≡ false) (k : Given) where
  -- nothing is left where the topmost activation isn't at the start of a block
  pub none_left : (t : State) → (is_coroutine b t.top.func ≡ false) ⊎ ((t.top.at == 0) ≡ false)
      → left_at b names t ≡ 0
  none_left t e =
      nothing_left (is_coroutine b t.top.func) (is_return (b.framing t.top.func) t.top.block) (t.top.at == 0)
      (credit names) e

  pub record IsQuiet (t : State) : Type 0 where
    pub stands : IsStanding k entry t
    pub none : left_at b names t ≡ 0

  abbrev pub QuietResult : Result State Cause → Type 0
  QuietResult (Err cause) = Unit {0}
  QuietResult (Ok t) = IsQuiet t

  pub quiet_then : {A : Type 0} (r : Result A Cause) (f : A → Result State Cause)
      → ((a : A) → r ≡ Ok a → QuietResult (f a)) → QuietResult (and_then r f)
  quiet_then (Err cause) f h = tt
  quiet_then (Ok a) f h = h a refl

  quiet_if : (c : Bool) (cause : Cause) (s : State) → IsQuiet s → QuietResult (ok_if c cause s)
  quiet_if true cause s h = h
  quiet_if false cause s h = tt

  module _ (s : State) (running : s.outcome ≡ Outcome.Running) (z : IsStanding k entry s) where
    pub next_quiet : (t : State) → IsLike (next s) t → IsQuiet t
    next_quiet t e = record {
      stands = record {
        behind = subst AreBehind (sym e.below) z.behind;
        bottom = subst (λ (bs : List Activation). IsBottom entry t.top bs) (sym e.below)
            (bottom_same entry s.top t.top s.below e.func e.mode z.bottom);
        over = inl (e.outcome ∙ running);
      };
      none = none_left t (inr (ap (λ (n : ℕ). n == 0) e.at ∙ not_first s.top.at));
    }

    gives_like : (t : State) (result : Option ℕ) (v : Value) → IsLike s t → IsLike (next s) (gives t result v)
    gives_like t result v e = record {
      func = e.func;
      mode = e.mode;
      at = ap (λ (n : ℕ). n + 1) e.at;
      below = e.below;
      outcome = e.outcome;
    }

    pub gives_quiet : (t : State) (result : Option ℕ) (v : Value) → IsLike s t → IsQuiet (gives t result v)
    gives_quiet t result v e = next_quiet (gives t result v) (gives_like t result v e)

    own_quiet : (result : Option ℕ) (v : Value) → IsQuiet (gives s result v)
    own_quiet result v = gives_quiet s result v (itself s)

    -- a return to the activation below, or of the entry at a terminator
    pub return_quiet : (t : State) → IsLike s t → (v : Option Value) → (t.below ≡ [] → IsDone k (returned t))
        → QuietResult (return t v)
    return_quiet t like v last =
        by t.below (subst AreBehind (sym like.below) z.behind)
        (subst (λ (bs : List Activation). IsBottom entry t.top bs) (sym like.below)
        (bottom_same entry s.top t.top s.below like.func like.mode z.bottom)) refl
      where
        by : (below : List Activation) → AreBehind below → IsBottom entry t.top below → t.below ≡ below
            → QuietResult (pop (returned t) v below)
        by [] h q d =
            quiet_then (outcome_of v) (λ outcome. Ok (record (returned t) { outcome = outcome })) (λ outcome c.
            let is = last d in
            record {
              stands = record {
                behind = subst AreBehind (sym d) tt;
                bottom = subst (λ (bs : List Activation). IsBottom entry (returned t).top bs) (sym d) q;
                over = inr (record { term = is.term; there = is.there; alone = is.alone });
              };
              none = none_left (record (returned t) { outcome = outcome })
                  (inl (ap (is_coroutine b) q.0 ∙ plain));
            })
        by (a ∷ more) h q d = record {
          stands = record {
            behind = h.1;
            bottom = bottom_same entry a (given_back a t.top.result v) more refl refl q;
            over = inl (like.outcome ∙ running);
          };
          none = none_left (record (returned t) { top = given_back a t.top.result v; below = more }) (inr h.0);
        }

    after_quiet : (t : State) (result : Option ℕ) (mode : Mode) → IsLike s t → s.top.mode ≡ mode
        → QuietResult (after_end t result mode)
    after_quiet t result Mode.Resumed like e = return_quiet t like None (λ d. absurd (lost d))
      where
        no_plain : (a : Activation) (below : List Activation) → below ≡ [] → IsBottom entry a below
            → a.mode ≡ Mode.Plain
        no_plain a [] d q = q.1
        no_plain a (c ∷ more) d q = absurd (cc)

        lost : t.below ≡ [] → ⊥
        lost d = let m = no_plain s.top s.below (sym like.below ∙ d) z.bottom in absurd (cc)
    after_quiet t result _ like e = gives_quiet t result _ like

    end_quiet : (result : Option ℕ) → QuietResult (end_of s finish result)
    end_quiet result = on s.top.has_left
      where
        on : (c : Bool) → QuietResult (after_end (if c then s else finish s) result s.top.mode)
        on true = after_quiet s result s.top.mode (itself s) refl
        on false = after_quiet (finish s) result s.top.mode (finish_like s) refl

    suspend_quiet : (result : Option ℕ) (of_save : Operand) → QuietResult (suspend s result of_save)
    suspend_quiet result Operand.None =
        quiet_then (save_for s (point_of s) (point_of s)) _ (λ t e.
        gives_quiet t result _ (saved_like s (point_of s) (point_of s) t e))
    suspend_quiet result _ = own_quiet result _

    begin_quiet : (result : Option ℕ) (mem : Value) → QuietResult (begin k s result mem)
    begin_quiet result mem = on (is_none s.top.instance)
      where
        by : (r : Result (List MemoryBlock) Cause) (o : Option ℕ)
            → QuietResult (and_then (and_then r (λ memory. and_then (found Cause.Begin o) (λ (n : ℕ).
            Ok (begun k (with_memory s memory) n 0)))) (λ t. Ok (gives t result mem)))
        by (Err cause) o = tt
        by (Ok memory) None = tt
        by (Ok memory) (Some n) =
            gives_quiet (begun k (with_memory s memory) n 0) result mem
            (record { func = refl; mode = refl; at = refl; below = refl; outcome = refl })

        on : (c : Bool) → QuietResult (and_then (ok_if c Cause.Begin s) (λ t.
            and_then (begin_at k t mem Kind.Allocator) (λ t. Ok (gives t result mem))))
        on false = tt
        on true = by (own s.world.memory mem (own_frame k s).size Kind.Allocator) (block_of mem)

    sleeper_quiet : (p : Value) (go : Sleeper → Result State Cause) → ((y : Sleeper) → QuietResult (go y))
        → QuietResult (and_then (sleeper_at s p) go)
    sleeper_quiet p go h = quiet_then (sleeper_at s p) go (λ y e. h y)

    pub freed_quiet : (p : Value) → QuietResult (deallocate s p)
    freed_quiet p =
        let t = if_let_go s (instance_at s.instances p) in
        let e = let_go_like s (instance_at s.instances p) in
        quiet_then (deallocated t.world.memory p) (λ memory. Ok (next (with_memory t memory))) (λ memory d.
        next_quiet (next (with_memory t memory)) (record {
          func = e.func;
          mode = e.mode;
          at = ap (λ (n : ℕ). n + 1) e.at;
          below = e.below;
          outcome = e.outcome;
        }))

    pub slot_quiet : (w : Work) (slot : Slot) → IsQuiet (new_slot k (settled s w) slot)
    slot_quiet w slot =
        let u = settled s w in
        let e = late_like (own_facts k u).ramp_slots (own_instance u) u slot in
        next_quiet (new_slot k u slot)
        (record { func = e.func; mode = e.mode; at = e.at; below = e.below; outcome = e.outcome })

    module _ (go : Continues) (args : List Arg) (vs : List Value) (result : Option ℕ) where
      pub coro_quiet : (i : Intrinsic) → IsNoWake i → QuietResult (coro k go s i args vs result)
      coro_quiet Intrinsic.CoroId q = own_quiet None Value.Poison
      coro_quiet Intrinsic.CoroSizeI32 q = own_quiet result _
      coro_quiet Intrinsic.CoroSizeI64 q = own_quiet result _
      coro_quiet Intrinsic.CoroAlignI32 q = own_quiet result _
      coro_quiet Intrinsic.CoroAlignI64 q = own_quiet result _
      coro_quiet Intrinsic.CoroAlloc q = own_quiet result _
      coro_quiet Intrinsic.CoroBegin q = begin_quiet result (nth vs 1)
      coro_quiet Intrinsic.CoroFree q =
          gives_quiet (release s) result _ (own_like s (λ x. record x { released = true }) (own_instance s))
      coro_quiet Intrinsic.CoroFrame q = own_quiet result _
      coro_quiet Intrinsic.CoroSave q =
          quiet_then (found Cause.State (suspend_of (function_of k s) (point_of s))) _ (λ u e.
          quiet_then (save_for s (point_of s) u) _ (λ t d.
          gives_quiet t None Value.Poison (saved_like s (point_of s) u t d)))
      coro_quiet Intrinsic.CoroSuspend q = suspend_quiet result (operand_at args 0)
      coro_quiet Intrinsic.CoroEnd q = end_quiet result
      coro_quiet Intrinsic.CoroResume q = absurd q
      coro_quiet Intrinsic.CoroDestroy q = absurd q
      coro_quiet Intrinsic.CoroDone q = sleeper_quiet (nth vs 0) _ (λ y. quiet_if _ Cause.State _ (own_quiet result _))
      coro_quiet Intrinsic.CoroPromise q =
          quiet_then (promise k s (nth vs 0) (operand_at args 2)) _ (λ v e. own_quiet result v)
      coro_quiet Intrinsic.LifetimeStart q = own_quiet None Value.Poison
      coro_quiet Intrinsic.LifetimeEnd q = own_quiet None Value.Poison
      coro_quiet Intrinsic.MemcpyI64 q = own_quiet None Value.Poison
      coro_quiet Intrinsic.MemcpyI32 q = own_quiet None Value.Poison
