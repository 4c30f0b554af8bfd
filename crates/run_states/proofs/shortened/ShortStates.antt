-- A state of a run with its values cut to the names of their functions: instances, and the entering and leaving of blocks.
use Rattle.std.proofs.Common.{◌≡◌, ℕ, suc, Bool, true, false, List, [], ◌∷◌, length, refl, ap, ◌∙◌}
use Rattle.std.proofs.lemmas.List.{length-map}
use Rattle.std.proofs.lemmas.Option.{slice_get-map}
use Rattle.std.specs.List.{list_all}
use Rattle.std.specs.Prelude.{Some, None, Ok, Option, map, option_and_then, option_map, slice_get, ◌&&◌, if◌then◌else◌}
use Rattle.ir_laws.specs.run_memory.declared.pointer.Pointer.{Pointer}
use Rattle.ir_laws.specs.run_memory.declared.pointer.Value.{Value}
use Rattle.ir_laws.specs.ir_base.declared.cause.Cause.{Cause}
use Rattle.ir_laws.specs.run_source.Indexes.{last_from, or_else}
use Rattle.ir_laws.specs.run_source.Source.{branch_leaving, enter_block, go_to, is_save, left_windows, may_leave}
use Rattle.ir_laws.specs.run_source.State.{began_at, gives, instance_at, is_suspended, numbered, own_instance, with_instance, with_left, with_status}
use Rattle.ir_laws.specs.run_source.declared.state.Instance.{Instance}
use Rattle.ir_laws.specs.run_source.declared.state.State.{State}
use Rattle.ir_laws.specs.run_source.declared.state.Status.{Status}
use Rattle.run_states.proofs.shortened.Short.{result_short, values_in_short}
use Rattle.ir_laws.specs.facts.sound_states.Named.{AreUsesNamed}
use Rattle.run_states.specs.shortened.Shortened.{short_activation, short_instance, short_numbered, short_result, short_state, short_status}
use Rattle.ir_laws.proofs.facts.Members.{at_each as each_at}
use Rattle.ir_laws.specs.ir_model.Names.{function_at, position_of}
use Rattle.ir_laws.specs.ir_model.declared.instr.Incoming.{Incoming}
use Rattle.ir_laws.specs.ir_model.declared.instr.Phi.{Phi}
use Rattle.ir_laws.specs.ir_model.declared.module.Block.{Block}
use Rattle.ir_laws.specs.ir_model.declared.module.Function.{Function}
use Rattle.ir_laws.specs.ir_model.declared.module.Module.{Module}
use Rattle.ir_laws.specs.ir_paths.declared.point.Window.{Window}
use Rattle.ir_laws.specs.run_step.Results.{and_then, found, ok_if}
use Rattle.ir_laws.specs.run_step.Step.{label_of, phis_of}
use Rattle.ir_laws.specs.run_step.Values.{Env}
use Rattle.ir_laws.specs.run_laws.changed.Changed.{Each}
use Rattle.ir_laws.specs.facts.expanded.Tokens.{IsNamed}
use Rattle.ir_laws.specs.run_source_tables.Given.{Given}
use Rattle.ir_laws.proofs.facts.Lists.{map_set}

-- ---- what is asked of the module, at a place

phis_named : (n : ℕ) (bs : List Block) (block : ℕ) → Each (λ (b : Block). Each (λ (p : Phi). Each (λ (i : Incoming). IsNamed n i.value) p.incoming) b.phis) bs → Each (λ (p : Phi). Each (λ (i : Incoming). IsNamed n i.value) p.incoming) (phis_of (slice_get bs block))
phis_named n bs block h = on (slice_get bs block) refl
  where
    on : (o : Option Block) → slice_get bs block ≡ o → Each (λ (p : Phi). Each (λ (i : Incoming). IsNamed n i.value) p.incoming) (phis_of o)
    on None e = tt
    on (Some b) e = each_at (λ (b : Block). Each (λ (p : Phi). Each (λ (i : Incoming). IsNamed n i.value) p.incoming) b.phis) bs block b h e

-- ---- the state

module _ (m : Module) where
  -- ---- instances

  numbered_short : (xs : List Instance) (i : ℕ) → numbered (map (short_instance m) xs) i ≡ short_numbered m (numbered xs i)
  numbered_short xs i = ap (option_map (λ (x : Instance). (i, x))) (slice_get-map (short_instance m) xs i) ∙ on (slice_get xs i)
    where
      on : (o : Option Instance) → option_map (λ (x : Instance). (i, x)) (option_map (short_instance m) o) ≡ short_numbered m (option_map (λ (x : Instance). (i, x)) o)
      on None = refl
      on (Some x) = refl

  pub own_short : (s : State) → own_instance (short_state m s) ≡ short_numbered m (own_instance s)
  own_short s = on s.top.instance
    where
      on : (o : Option ℕ) → option_and_then (numbered (map (short_instance m) s.instances)) o ≡ short_numbered m (option_and_then (numbered s.instances) o)
      on None = refl
      on (Some i) = numbered_short s.instances i

  last_short : (test : Instance → Bool) → ((x : Instance) → test (short_instance m x) ≡ test x) → (i : ℕ) (xs : List Instance) → last_from test i (map (short_instance m) xs) ≡ last_from test i xs
  last_short test h i [] = refl
  last_short test h i (x ∷ xs) =
      let rest = last_short test h (suc i) xs in
      λ j. or_else (rest j) (if h x j then Some i else None)

  pub found_short : (xs : List Instance) (v : Value) → instance_at (map (short_instance m) xs) v ≡ short_numbered m (instance_at xs v)
  found_short xs (Value.Ptr (Pointer.At block offset)) =
      ap (option_and_then (numbered (map (short_instance m) xs))) (last_short (began_at block offset.bits) (λ x. refl) 0 xs) ∙ on (last_from (began_at block offset.bits) 0 xs)
    where
      on : (o : Option ℕ) → option_and_then (numbered (map (short_instance m) xs)) o ≡ short_numbered m (option_and_then (numbered xs) o)
      on None = refl
      on (Some i) = numbered_short xs i
  found_short xs (Value.Ptr Pointer.Null) = refl
  found_short xs (Value.Ptr (Pointer.Func f)) = refl
  found_short xs Value.Poison = refl
  found_short xs (Value.Int x) = refl

  pub with_instance_short : (s : State) (i : ℕ) (x : Instance) → with_instance (short_state m s) i (short_instance m x) ≡ short_state m (with_instance s i x)
  with_instance_short s i x = ap (λ (xs : List Instance). record (short_state m s) { instances = xs }) (map_set (short_instance m) s.instances i x)

  -- ---- results

  pub gives_short : (s : State) (result : Option ℕ) (v : Value) → gives (short_state m s) result v ≡ short_state m (gives s result v)
  gives_short s result v =
      ap (λ (e : Env). record (short_state m (gives s result v)) { top = record (short_activation m (gives s result v).top) { values = e } })
      (result_short (length (function_at m s.top.func).names) s.top.values result v)

  -- ---- windows that are left

  pub suspended_short : (func : ℕ) (status : Status) → is_suspended (short_status m func status) ≡ is_suspended status
  suspended_short func Status.Running = refl
  suspended_short func (Status.Suspended p values) = refl
  suspended_short func Status.Finished = refl

  may_leave_short : (depth : ℕ) (x : Instance) (ws : List Window) → list_all (may_leave depth (short_instance m x)) ws ≡ list_all (may_leave depth x) ws
  may_leave_short depth x ws = λ j. list_all (λ (w : Window). suspended_short x.coroutine x.status j && is_save depth w.save x.last_save) ws

module _ (g : Given) (named : AreUsesNamed g.code) where
  -- ---- entering a block

  pub enter_short : (s : State) (label : ℕ) → enter_block g (short_state g.code s) label ≡ short_state g.code (enter_block g s label)
  enter_short s label =
      ap (λ (e : Env). record (short_state g.code s) { top = record (short_activation g.code s.top) { block = b; at = 0; values = e } })
      (values_in_short g.code (length f.names) s.top.values (label_of (slice_get f.blocks s.top.block)) (slice_get f.blocks b) (phis_named (length f.names) f.blocks b (named s.top.func).incoming))
    where
      f : Function
      f = function_at g.code s.top.func

      b : ℕ
      b = position_of f label

  -- ---- branches

  leave_short : (s : State) (label : ℕ) (ws : List Window) (o : Option (ℕ × Instance)) → and_then (found Cause.State (short_numbered g.code o)) (λ (y : ℕ × Instance). ok_if (list_all (may_leave (length (map (short_activation g.code) s.below)) y.1) ws) Cause.State (enter_block g (with_left (with_status (short_state g.code s) y.0 y.1 Status.Running) false) label)) ≡ short_result g.code (and_then (found Cause.State o) (λ (y : ℕ × Instance). ok_if (list_all (may_leave (length s.below) y.1) ws) Cause.State (enter_block g (with_left (with_status s y.0 y.1 Status.Running) false) label)))
  leave_short s label ws None = refl
  leave_short s label ws (Some y) =
      ap (λ (n : ℕ). ok_if (list_all (may_leave n (short_instance g.code y.1)) ws) Cause.State (enter_block g (with_left (with_status (short_state g.code s) y.0 (short_instance g.code y.1) Status.Running) false) label)) (length-map s.below (short_activation g.code))
      ∙ ap (λ (b : Bool). ok_if b Cause.State (enter_block g (with_left (with_status (short_state g.code s) y.0 (short_instance g.code y.1) Status.Running) false) label)) (may_leave_short g.code (length s.below) y.1 ws)
      ∙ ap (λ (x : State). ok_if may Cause.State (enter_block g (with_left x false) label)) (with_instance_short g.code s y.0 (record y.1 { status = Status.Running }))
      ∙ ap (λ (x : State). ok_if may Cause.State x) (enter_short (with_left (with_status s y.0 y.1 Status.Running) false) label)
      ∙ on may (enter_block g (with_left (with_status s y.0 y.1 Status.Running) false) label)
    where
      may : Bool
      may = list_all (may_leave (length s.below) y.1) ws

      on : (b : Bool) (x : State) → ok_if b Cause.State (short_state g.code x) ≡ short_result g.code (ok_if b Cause.State x)
      on true x = refl
      on false x = refl

  branch_short : (s : State) (label : ℕ) (ws : List Window) → branch_leaving g (short_state g.code s) label ws ≡ short_result g.code (branch_leaving g s label ws)
  branch_short s label [] = ap Ok (enter_short s label)
  branch_short s label (w ∷ ws) =
      ap (λ (o : Option (ℕ × Instance)). and_then (found Cause.State o) (λ (y : ℕ × Instance). ok_if (list_all (may_leave (length (map (short_activation g.code) s.below)) y.1) (w ∷ ws)) Cause.State (enter_block g (with_left (with_status (short_state g.code s) y.0 y.1 Status.Running) false) label))) (own_short g.code s)
      ∙ leave_short s label (w ∷ ws) (own_instance s)

  pub go_to_short : (s : State) (label : ℕ) → go_to g (short_state g.code s) label ≡ short_result g.code (go_to g s label)
  go_to_short s label = branch_short s label (left_windows g s label)
