-- What parts of a step leave of states in which frames begin blocks of allocators.
use Rattle.std.proofs.Common.{◌≡◌, ℕ, ◌+◌, ◌<◌, Bool, true, false, List, [], ◌∷◌, length, Option, Some, None, Result, Ok, Err, refl, sym, ap, ◌∙◌, subst, arith, if◌then◌else◌}
use Rattle.std.specs.Prelude.{is_none, slice_get}
use Rattle.pass_proofs.specs.ir_base.declared.cause.Cause.{Cause}
use Rattle.pass_proofs.specs.ir_model.Names.{function_at, position_of}
use Rattle.pass_proofs.specs.ir_model.declared.instr.Instr.{Instr}
use Rattle.pass_proofs.specs.ir_model.declared.instr.Terminator.{Terminator}
use Rattle.pass_proofs.specs.ir_model.declared.module.Function.{Function}
use Rattle.pass_proofs.specs.ir_model.declared.module.Module.{Module}
use Rattle.pass_proofs.specs.ir_paths.declared.point.Point.{Point}
use Rattle.pass_split_proof.proofs.own_blocks.Heaps.{SameHeaps, activation_later, below_later, dead_heaps, made_later, own_later, same_heaps}
use Rattle.pass_split_proof.proofs.own_blocks.Made.{all_made, entered_length, entered_other, last_alloca, next_alloca, next_made, result_elsewhere, same_made}
use Rattle.pass_split_proof.proofs.steps.Branches.{left_by, own_there}
use Rattle.pass_split_proof.specs.own_blocks.Own.{AreOwn, AreOwnBelow, BeginsWell, FitsMode, GivesFrames, HasOwnBlocks, IsMade, IsOwnActivation, IsOwnInstance, IsOwnState, SetsNoAlloca}
use Rattle.pass_split_proof.specs.simulation.Premises.{AreAllocasAlone, IsEntryAlloca}
use Rattle.pass_split_proof.specs.steps.Branches.{Entered, Left, Stayed, WasLeft}
use Rattle.pass_proofs.specs.run_framed.Framed.{FramedGiven, alloca_from, continue_framed, enter_after, reentry_values}
use Rattle.pass_proofs.specs.run_memory.declared.block.MemoryBlock.{MemoryBlock}
use Rattle.pass_proofs.specs.run_memory.declared.pointer.Value.{Value}
use Rattle.pass_proofs.specs.run_source.Source.{called, change_own, go_to, left_windows, mode_of, pop, push, resumed, return, returned}
use Rattle.pass_proofs.specs.run_source.State.{frame_address_of, function_of, gives, own_instance, settled, with_instance, with_left, with_memory, with_slots, with_status, work_of}
use Rattle.pass_proofs.specs.run_source.declared.state.Activation.{Activation}
use Rattle.pass_proofs.specs.run_source.declared.state.Instance.{Instance}
use Rattle.pass_proofs.specs.run_source.declared.state.Mode.{Mode}
use Rattle.pass_proofs.specs.run_source.declared.state.State.{State}
use Rattle.pass_proofs.specs.run_source.declared.state.Status.{Status}
use Rattle.pass_proofs.proofs.run_states.moved_states.Frames.{reentry_length}
use Rattle.pass_proofs.proofs.run_states.sound_states.Acts.{entry_length}
use Rattle.pass_proofs.proofs.run_states.sound_states.Fits.{result_length}
use Rattle.pass_proofs.proofs.run_states.sound_states.Kept.{each_set}
use Rattle.pass_proofs.specs.run_step.Effects.{is_alloca}
use Rattle.pass_proofs.specs.run_step.Results.{and_then, ok_if}
use Rattle.pass_proofs.specs.run_step.Step.{AtInstr, AtTerm, Work, fetch, label_of, outcome_of, set_result, values_in, without_slots}
use Rattle.pass_proofs.specs.run_step.Values.{Env, value_in}
use Rattle.pass_proofs.specs.run_step.declared.world.Slot.{Slot}

-- what a part of a step gives, if it gives a state
abbrev pub StaysOwn : Module → Result State Cause → Type 0
StaysOwn c (Err cause) = Unit {0}
StaysOwn c (Ok s) = IsOwnState c s

module _ (c : Module) where
  pub then_own : {A : Type 0} (r : Result A Cause) (f : A → Result State Cause)
      → ((a : A) → r ≡ Ok a → StaysOwn c (f a)) → StaysOwn c (and_then r f)
  then_own (Err cause) f h = tt
  then_own (Ok a) f h = h a refl

  pub if_own : (b : Bool) (cause : Cause) (s : State) → (b ≡ true → IsOwnState c s) → StaysOwn c (ok_if b cause s)
  if_own true cause s h = h refl
  if_own false cause s h = tt

  -- ---- memory and instances

  pub memory_own : (s : State) (k : List MemoryBlock) → SameHeaps s.world.memory k → IsOwnState c s
      → IsOwnState c (with_memory s k)
  memory_own s k same x = record {
    instances = own_later c s.world.memory k s.instances same x.instances;
    top = activation_later c s.world.memory k s.top same x.top;
    below = below_later c s.world.memory k s.top.result s.below same x.below;
  }

  same_instance : (m : List MemoryBlock) (x now : Instance) → now.block ≡ x.block → now.start ≡ x.start
      → now.coroutine ≡ x.coroutine → IsOwnInstance c m x → IsOwnInstance c m now
  same_instance m x now block start coroutine o = record {
    known = subst (λ (b : ℕ). b < length m) (sym block) o.known;
    begins = subst (λ (p : ℕ × ℕ). BeginsWell c m p.0 p.1) (λ i. (sym block i, sym start i)) o.begins;
    coroutine = ap (λ (f : ℕ). (function_at c f).coroutine) coroutine ∙ o.coroutine;
  }

  pub instance_own : (s : State) (i : ℕ) (x now : Instance) → slice_get s.instances i ≡ Some x → now.block ≡ x.block
      → now.start ≡ x.start → now.coroutine ≡ x.coroutine → IsOwnState c s → IsOwnState c (with_instance s i now)
  instance_own s i x now e block start coroutine o = record {
    instances = each_set (IsOwnInstance c s.world.memory) s.instances i now
        (same_instance s.world.memory x now block start coroutine (o.instances i x e)) o.instances;
    top = o.top;
    below = o.below;
  }

  pub own_changed : (s : State) (f : Instance → Instance)
      → ((x : Instance) → ((f x).block ≡ x.block) × ((f x).start ≡ x.start) × ((f x).coroutine ≡ x.coroutine))
      → IsOwnState c s → IsOwnState c (change_own s f (own_instance s))
  own_changed s f same o = on (own_instance s) refl
    where
      on : (q : Option (ℕ × Instance)) → own_instance s ≡ q → IsOwnState c (change_own s f q)
      on None e = o
      on (Some (i, x)) e = let p = same x in instance_own s i x (f x) (own_there s i x e) p.0 p.1 p.2 o

  pub left_own : (s : State) (left : Bool) → IsOwnState c s → IsOwnState c (with_left s left)
  left_own s left o = record {
    instances = o.instances;
    top = record { mode = o.top.mode; whole = o.top.whole; made = o.top.made };
    below = o.below;
  }

  pub slots_own : (s : State) (slots : List Slot) → IsOwnState c s → IsOwnState c (with_slots s slots)
  slots_own s slots o = record {
    instances = o.instances;
    top = record { mode = o.top.mode; whole = o.top.whole; made = o.top.made };
    below = o.below;
  }

-- ---- what goes on

module _ (g : FramedGiven) (asks : HasOwnBlocks g.given.code) where
  abbrev c : Module
  c = g.given.code

  module _ (s : State) (o : IsOwnState c s) where
    abbrev f : Function
    f = function_of g.given s

    alone : AreAllocasAlone f
    alone = asks.allocas s.top.func

    -- behind an instruction that is no alloca
    pub settled_own : (w : Work) (i : Instr) → fetch f s.top.block s.top.at ≡ AtInstr i → is_alloca i ≡ false
        → SameHeaps s.world.memory w.world.memory → length w.values ≡ length s.top.values
        → ((k name : ℕ) → IsEntryAlloca f k name → value_in w.values name ≡ value_in s.top.values name)
        → IsOwnState c (settled s w)
    settled_own w i there plain heaps long same = record {
      instances = own_later c s.world.memory w.world.memory s.instances heaps o.instances;
      top = record {
        mode = o.top.mode;
        whole = long ∙ o.top.whole;
        made = λ k name a lt. made_later s.world.memory w.world.memory w.values name heaps
            (next_made f alone s.world.memory s.top.values w.values s.top.block s.top.at i there plain same o.top.made k
            name a lt);
      };
      below = below_later c s.world.memory w.world.memory s.top.result s.below heaps o.below;
    }

    pub gives_own : (result : Option ℕ) (v : Value) (i : Instr) → fetch f s.top.block s.top.at ≡ AtInstr i
        → is_alloca i ≡ false → SetsNoAlloca f result → IsOwnState c (gives s result v)
    gives_own result v i there plain none = settled_own (set_result (work_of s) result v) i there plain
        (same_heaps s.world.memory) (result_length s.top.values result v)
        (λ k name a. result_elsewhere s.top.values result name v (none k name a))

    -- ---- calls

    waits : (i : Instr) → fetch f s.top.block s.top.at ≡ AtInstr i → is_alloca i ≡ false
        → IsOwnActivation c s.world.memory (record s.top { at = s.top.at + 1 })
    waits i there plain = record {
      mode = o.top.mode;
      whole = o.top.whole;
      made = next_made f alone s.world.memory s.top.values s.top.values s.top.block s.top.at i there plain
          (λ k name a. refl) o.top.made;
    }

    pub pushed_own : (a : Activation) (i : Instr) → fetch f s.top.block s.top.at ≡ AtInstr i → is_alloca i ≡ false
        → SetsNoAlloca f a.result → IsOwnActivation c s.world.memory a → IsOwnState c (push s a)
    pushed_own a i there plain none new = record {
      instances = o.instances;
      top = new;
      below = (waits i there plain, none, o.below);
    }

    pub called_own : (func : ℕ) (args : List Value) (result : Option ℕ)
        → IsOwnActivation c s.world.memory (called c func args result (mode_of (function_at c func)))
    called_own func args result = record {
      mode = on (function_at c func).coroutine refl;
      whole = entry_length (function_at c func) args;
      made = λ k name a lt. absurd (none k (lt refl));
    }
      where
        none : (k : ℕ) → k < 0 → ⊥
        none k lt = omega arith

        on : (t : Bool) → (function_at c func).coroutine ≡ t
            → FitsMode c (function_at c func).coroutine None (if t then Mode.Ramp else Mode.Plain)
        on true e = e
        on false e = e

    -- a ramp that is given its frame
    pub given_own : (func : ℕ) (args : List Value) (result : Option ℕ) (frame : Value)
        → (function_at c func).coroutine ≡ true → GivesFrames c
        → IsOwnActivation c s.world.memory (called c func args result (Mode.GivenRamp frame))
    given_own func args result frame coroutine gives = record {
      mode = (coroutine, gives);
      whole = entry_length (function_at c func) args;
      made = λ k name a lt. absurd (none k (lt refl));
    }
      where
        none : (k : ℕ) → k < 0 → ⊥
        none k lt = omega arith

    -- ---- edges

    pub edge_own : (label : ℕ) (t : Terminator) → fetch f s.top.block s.top.at ≡ AtTerm t
        → (u : State) → go_to g.given s label ≡ Ok u → IsOwnState c u
    edge_own label t there u e = on (left_by g.given s u label (left_windows g.given s label) e)
      where
        by : (ys : List Instance) → WasLeft s.instances ys → AreOwn c s.world.memory ys
        by _ Stayed = o.instances
        by _ (Left i x e h) =
            (instance_own c s i x (record x { status = Status.Running }) e refl refl refl o).instances

        on : Entered g.given s label u → IsOwnState c u
        on y = subst (IsOwnState c) (sym y.is) (record {
          instances = by y.instances y.was;
          top = record {
            mode = o.top.mode;
            whole = entered_length c (slice_get f.blocks (position_of f label))
                (label_of (slice_get f.blocks s.top.block)) s.top.values ∙ o.top.whole;
            made = λ k name a lt. same_made s.world.memory s.top.values (values_in c (slice_get f.blocks
                (position_of f label)) (label_of (slice_get f.blocks s.top.block)) s.top.values) name
                (entered_other f alone c (position_of f label) (label_of (slice_get f.blocks s.top.block)) s.top.values
                k name a)
                (all_made f alone s.world.memory s.top.values s.top.block s.top.at t there o.top.made k name a);
          };
          below = o.below;
        })

    -- ---- returns

    returned_own : IsOwnState c (returned s)
    returned_own = slots_own c (with_memory s (without_slots s.world.memory s.top.slots)) []
        (memory_own c s (without_slots s.world.memory s.top.slots) (dead_heaps s.world.memory s.top.slots) o)

    pub return_own : (v : Option Value) → StaysOwn c (return s v)
    return_own v = by s.below refl
      where
        by : (below : List Activation) → s.below ≡ below → StaysOwn c (pop (returned s) v below)
        by [] e = then_own c (outcome_of v) (λ outcome. Ok (record (returned s) { outcome = outcome })) (λ outcome h.
            let y = returned_own in record { instances = y.instances; top = y.top; below = y.below })
        by (a ∷ below) e =
            let y = returned_own in
            let all = subst (AreOwnBelow c (returned s).world.memory s.top.result) e y.below in
            record {
              instances = y.instances;
              top = record {
                mode = all.0.mode;
                whole = result_length a.values s.top.result _ ∙ all.0.whole;
                made = λ k name e lt. same_made (returned s).world.memory a.values _ name
                    (result_elsewhere a.values s.top.result name _ (all.1 k name e)) (all.0.made k name e lt);
              };
              below = all.2;
            }

  -- ---- allocas that are made again

  -- an activation that goes on enters a label, or comes to the next of its allocas
  pub enters_own : (s : State) (from label at : ℕ) → AreOwn c s.world.memory s.instances
      → AreOwnBelow c s.world.memory s.top.result s.below
      → length s.top.values ≡ length (function_at c s.top.func).names
      → (function_at c s.top.func).coroutine ≡ true → is_none s.top.instance ≡ false
      → ((k name : ℕ) → IsEntryAlloca (function_at c s.top.func) k name → k < at
      → IsMade s.world.memory s.top.values name)
      → IsOwnState c (enter_after g s from label (alloca_from (function_at c s.top.func) at))
  enters_own s from label at instances below whole coroutine own made =
      on (alloca_from (function_at c s.top.func) at) refl
    where
      on : (q : Option Point) → alloca_from (function_at c s.top.func) at ≡ q
          → IsOwnState c (enter_after g s from label q)
      on (Some p) e = let y = next_alloca (function_at c s.top.func) at p e in record {
        instances = instances;
        top = record {
          mode = (coroutine, own);
          whole = whole;
          made = λ k name a lt. made k name a (y.1 k name a (lt y.0));
        };
        below = below;
      }
      on None e = record {
        instances = instances;
        top = record {
          mode = (coroutine, own);
          whole = entered_length c (slice_get (function_at c s.top.func).blocks
              (position_of (function_at c s.top.func) label))
              (label_of (slice_get (function_at c s.top.func).blocks from)) s.top.values ∙ whole;
          made = λ k name a lt. same_made s.world.memory s.top.values _ name
              (entered_other (function_at c s.top.func) (asks.allocas s.top.func) c
              (position_of (function_at c s.top.func) label)
              (label_of (slice_get (function_at c s.top.func).blocks from)) s.top.values k name a)
              (made k name a (last_alloca (function_at c s.top.func) at e k name a));
        };
        below = below;
      }

  pub goes_on_own : (s : State) (o : IsOwnState c s) (i : ℕ) (x : Instance) (suspend : Point) (values : Env)
      (label : ℕ) (call : Instr) → fetch (function_of g.given s) s.top.block s.top.at ≡ AtInstr call
      → is_alloca call ≡ false → slice_get s.instances i ≡ Some x
      → IsOwnState c (continue_framed g s i x suspend values label)
  goes_on_own s o i x suspend values label call there plain e =
      enters_own (push (with_status s i x Status.Running) (resumed i x suspend
      (reentry_values (function_at c x.coroutine) (frame_address_of x)))) suspend.block label 0
      (instance_own c s i x (record x { status = Status.Running }) e refl refl refl o).instances
      (waits s o call there plain, (λ k name a h. other name h), o.below)
      (reentry_length (function_at c x.coroutine) (frame_address_of x)) (o.instances i x e).coroutine refl
      (λ k name a lt. absurd (none k lt))
    where
      none : (k : ℕ) → k < 0 → ⊥
      none k lt = omega arith

      other : (name : ℕ) → None ≡ Some name → ⊥
      other name h = absurd (cc)
