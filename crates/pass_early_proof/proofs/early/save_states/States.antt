-- A state of a source run, and that of the module whose saves are written out: instances, and the entering and leaving of blocks.
use Rattle.std.proofs.Common.{◌≡◌, ℕ, suc, ◌+◌, ◌<◌, Bool, true, false, List, [], ◌∷◌, length, refl, sym, ap, ◌∙◌, subst}
use Rattle.std.proofs.lemmas.List.{length-map}
use Rattle.std.proofs.lemmas.Option.{slice_get-map}
use Rattle.std.specs.List.{list_all}
use Rattle.std.specs.Prelude.{ℤ, Some, None, Ok, Option, filter, map, option_and_then, option_map, slice_get, ◌&&◌, ◌==◌, if◌then◌else◌}
use Rattle.rule_laws.specs.run_memory.declared.pointer.Pointer.{Pointer}
use Rattle.rule_laws.specs.run_memory.declared.pointer.Value.{Value}
use Rattle.rule_laws.specs.ir_base.declared.cause.Cause.{Cause}
use Rattle.rule_laws.specs.run_source.Indexes.{last_from, or_else}
use Rattle.rule_laws.specs.run_source.Source.{branch_leaving, enter_block, given, go_to, is_save, left_windows, may_leave}
use Rattle.rule_laws.specs.run_source.State.{began_at, instance_at, is_suspended, numbered, own_instance, point_of, with_instance, with_left, with_status}
use Rattle.rule_laws.specs.run_source.declared.state.Instance.{Instance}
use Rattle.rule_laws.specs.run_source.declared.state.Saved.{Saved}
use Rattle.rule_laws.specs.run_source.declared.state.State.{State}
use Rattle.rule_laws.specs.run_source.declared.state.Status.{Status}
use Rattle.ir_model.specs.Names.{declaration_named, function_at, function_named, global_named, position_of}
use Rattle.ir_model.specs.Ty.{Ty}
use Rattle.ir_model.specs.declared.instr.Phi.{Phi}
use Rattle.ir_model.specs.declared.module.Block.{Block}
use Rattle.ir_model.specs.declared.module.Frame.{Frame}
use Rattle.ir_model.specs.declared.module.Function.{Function}
use Rattle.ir_model.specs.declared.module.Module.{Module}
use Rattle.ir_model.specs.declared.operand.Operand.{Operand}
use Rattle.rule_laws.specs.ir_paths.Facts.{all_facts, facts_of}
use Rattle.rule_laws.specs.ir_paths.Paths.{entry_point, same_point}
use Rattle.rule_laws.specs.ir_paths.Windows.{leaves, windows_of}
use Rattle.rule_laws.specs.ir_paths.declared.point.Facts.{Facts}
use Rattle.rule_laws.specs.ir_paths.declared.point.Point.{Point}
use Rattle.rule_laws.specs.ir_paths.declared.point.Window.{Window}
use Rattle.rule_laws.specs.run_step.Results.{and_then, found, ok_if}
use Rattle.rule_laws.specs.run_step.Step.{incoming_from, label_of, phi_values, phis_of, values_in, with_all}
use Rattle.rule_laws.specs.run_step.Values.{Env, address_from, operand_value}
use Rattle.rule_laws.specs.run_source_tables.Given.{Given, facts_at}
use Rattle.pass_early_proof.proofs.early.saves.Apart.{same_fronts}
use Rattle.pass_early_proof.proofs.early.saves.Behind.{entry_saved}
use Rattle.pass_early_proof.proofs.early.saves.Blocks.{get_block, position_saved}
use Rattle.run_states.proofs.expanded.Environments.{all_grown, grown, value_grown}
use Rattle.pass_early_proof.proofs.early.saves.Laws.{left_kept}
use Rattle.pass_early_proof.proofs.early.saves.Parts.{function_saved, named_saved}
use Rattle.rule_laws.proofs.ir_laws.facts.Members.{at_each as each_at}
use Rattle.pass_early_proof.specs.early.saves.Moved.{AreAllMoved}
use Rattle.pass_early_proof.specs.early.save_states.SavedState.{HasRoom, IsOwnedBy, saved_activation, saved_instance, saved_result, saved_save, saved_state, saved_status}
use Rattle.rule_laws.specs.ir_laws.facts.sound_states.Named.{HasNamedPhis}
use Rattle.pass_early_proof.specs.early.saves.SavesWritten.{save_count, saved_block, saved_function, saves_written}
use Rattle.pass_early_proof.specs.early.saves.Spots.{front_of, number_of_block}
use Rattle.rule_laws.specs.run_laws.changed.Changed.{Each}
use Rattle.rule_laws.specs.ir_laws.paths.expanded.Tokens.{HasNamedTokens}
use Rattle.rule_laws.proofs.ir_laws.facts.Lists.{map_set}
use Rattle.run_states.proofs.saved.States.{facts_are}

pub facts_saved : (m : Module) (func : ℕ) → facts_at (all_facts (saves_written m)) func ≡ facts_of (saved_function (function_at m func))
facts_saved m func = facts_are (saves_written m) func ∙ ap facts_of (function_saved m func)

-- ---- operands

pub operand_saved : (m : Module) (k : ℕ) (env : Env) (ty : Ty) (x : Operand) → operand_value (saves_written m) (grown k env) ty x ≡ operand_value m env ty x
operand_saved m k env ty (Operand.Local name) = value_grown k env name
operand_saved m k env ty (Operand.Global n) =
    ap (λ (o : Option ℕ). address_from (saves_written m) o (global_named m n) (declaration_named m n)) (named_saved m n)
    ∙ on (function_named m n) (global_named m n) (declaration_named m n)
  where
    on : (f b d : Option ℕ) → address_from (saves_written m) f b d ≡ address_from m f b d
    on (Some f) b d = refl
    on None (Some b) d = refl
    on None None (Some d) = ap (λ (n : ℕ). Value.Ptr (Pointer.Func (n + d))) (length-map m.functions saved_function)
    on None None None = refl
operand_saved m k env ty (Operand.Number z) = refl
operand_saved m k env ty Operand.True = refl
operand_saved m k env ty Operand.False = refl
operand_saved m k env ty Operand.Null = refl
operand_saved m k env ty Operand.None = refl
operand_saved m k env ty Operand.Poison = refl

module _ (m : Module) where
  abbrev moved_instance : Instance → Instance
  moved_instance x = saved_instance m x

  abbrev pub with_number : Option (ℕ × Instance) → Option (ℕ × Instance)
  with_number o = option_map (λ (y : ℕ × Instance). (y.0, saved_instance m y.1)) o

  -- ---- instances

  numbered_saved : (xs : List Instance) (i : ℕ) → numbered (map moved_instance xs) i ≡ with_number (numbered xs i)
  numbered_saved xs i = ap (option_map (λ (x : Instance). (i, x))) (slice_get-map moved_instance xs i) ∙ on (slice_get xs i)
    where
      on : (o : Option Instance) → option_map (λ (x : Instance). (i, x)) (option_map (saved_instance m) o) ≡ with_number (option_map (λ (x : Instance). (i, x)) o)
      on None = refl
      on (Some x) = refl

  pub own_saved : (s : State) → own_instance (saved_state m s) ≡ with_number (own_instance s)
  own_saved s = on s.top.instance
    where
      on : (o : Option ℕ) → option_and_then (numbered (map (saved_instance m) s.instances)) o ≡ with_number (option_and_then (numbered s.instances) o)
      on None = refl
      on (Some i) = numbered_saved s.instances i

  last_saved : (test : Instance → Bool) → ((x : Instance) → test (saved_instance m x) ≡ test x) → (i : ℕ) (xs : List Instance) → last_from test i (map moved_instance xs) ≡ last_from test i xs
  last_saved test h i [] = refl
  last_saved test h i (x ∷ xs) =
      let rest = last_saved test h (suc i) xs in
      λ j. or_else (rest j) (if h x j then Some i else None)

  pub found_saved : (xs : List Instance) (v : Value) → instance_at (map moved_instance xs) v ≡ with_number (instance_at xs v)
  found_saved xs (Value.Ptr (Pointer.At block offset)) =
      ap (option_and_then (numbered (map moved_instance xs))) (last_saved (began_at block offset.bits) (λ x. refl) 0 xs) ∙ on (last_from (began_at block offset.bits) 0 xs)
    where
      on : (o : Option ℕ) → option_and_then (numbered (map moved_instance xs)) o ≡ with_number (option_and_then (numbered xs) o)
      on None = refl
      on (Some i) = numbered_saved xs i
  found_saved xs (Value.Ptr Pointer.Null) = refl
  found_saved xs (Value.Ptr (Pointer.Func f)) = refl
  found_saved xs Value.Poison = refl
  found_saved xs (Value.Int x) = refl

  pub with_instance_saved : (s : State) (i : ℕ) (x : Instance) → with_instance (saved_state m s) i (saved_instance m x) ≡ saved_state m (with_instance s i x)
  with_instance_saved s i x = ap (λ (xs : List Instance). record (saved_state m s) { instances = xs }) (map_set moved_instance s.instances i x)

  -- ---- windows that are left

  suspended_saved : (f : Function) (status : Status) → is_suspended (saved_status f status) ≡ is_suspended status
  suspended_saved f Status.Running = refl
  suspended_saved f (Status.Suspended p values) = refl
  suspended_saved f Status.Finished = refl

  save_saved : (f : Function) (depth : ℕ) (w v : Window) → v.save ≡ front_of f w.save → (o : Option Saved) → is_save depth v.save (option_map (saved_save f) o) ≡ is_save depth w.save o
  save_saved f depth w v e None = refl
  save_saved f depth w v e (Some x) = ap (λ (b : Bool). (x.depth == depth) && b) (ap (same_point (front_of f x.save)) e ∙ same_fronts f x.save w.save)

  pub may_leave_saved : (f : Function) (depth : ℕ) (x : Instance) → function_at m x.coroutine ≡ f → (ws vs : List Window) → AreAllMoved f ws vs → list_all (may_leave depth (saved_instance m x)) vs ≡ list_all (may_leave depth x) ws
  may_leave_saved f depth x e [] [] h = refl
  may_leave_saved f depth x e [] (v ∷ vs) h = absurd h
  may_leave_saved f depth x e (w ∷ ws) [] h = absurd h
  may_leave_saved f depth x e (w ∷ ws) (v ∷ vs) h =
      let rest = may_leave_saved f depth x e ws vs h.1 in
      let status = suspended_saved (function_at m x.coroutine) x.status in
      let last = ap (λ (k : Function). is_save depth v.save (option_map (saved_save k) x.last_save)) e ∙ save_saved f depth w v h.0.save x.last_save in
      λ i. (status i && last i) && rest i

module _ (m : Module) (sizes : List Frame) (answers : List ℤ) where
  abbrev g : Given
  g = given m sizes answers

  abbrev k : Given
  k = given (saves_written m) sizes answers

  -- ---- entering a block

  phis_saved : (n : ℕ) (env : Env) (label : ℕ) (phis : List Phi) → phi_values (saves_written m) (grown n env) label phis ≡ phi_values m env label phis
  phis_saved n env label [] = refl
  phis_saved n env label (p ∷ phis) =
      let first = operand_saved m n env p.ty (incoming_from p.incoming label) in
      let rest = phis_saved n env label phis in
      λ i. (p.result, first i) ∷ rest i

  phis_named : (n : ℕ) (env : Env) (label : ℕ) (phis : List Phi) → Each (λ (p : Phi). p.result < n) phis → Each (λ (p : ℕ × Value). p.0 < n) (phi_values m env label phis)
  phis_named n env label [] h = tt
  phis_named n env label (p ∷ phis) h = (h.0, phis_named n env label phis h.1)

  label_saved : (c : Bool) (n : ℕ) (o : Option Block) → label_of (option_map (saved_block c n) o) ≡ label_of o
  label_saved c n None = refl
  label_saved c n (Some b) = refl

  values_saved : (n number : ℕ) (c : Bool) (o : Option Block) (label : ℕ) (env : Env) → Each (λ (p : Phi). p.result < length env) (phis_of o) → values_in (saves_written m) (option_map (saved_block c number) o) label (grown n env) ≡ grown n (values_in m o label env)
  values_saved n number c None label env h = refl
  values_saved n number c (Some b) label env h =
      ap (with_all (grown n env)) (phis_saved n env label b.phis)
      ∙ all_grown n env (phi_values m env label b.phis) (phis_named (length env) env label b.phis h)

  phis_at : (f : Function) → HasNamedPhis f → (block : ℕ) → Each (λ (p : Phi). p.result < length f.names) (phis_of (slice_get f.blocks block))
  phis_at f h block = on (slice_get f.blocks block) refl
    where
      on : (o : Option Block) → slice_get f.blocks block ≡ o → Each (λ (p : Phi). p.result < length f.names) (phis_of o)
      on None e = tt
      on (Some b) e = each_at (λ (b : Block). Each (λ (p : Phi). p.result < length f.names) b.phis) f.blocks block b h e

  -- the state that enters a block
  abbrev entered : State → ℕ → Env → State
  entered s b values = record (saved_state m s) { top = record (saved_state m s).top { block = b; at = 0; values = values } }

  pub enter_saved : (s : State) (label : ℕ) → HasNamedPhis (function_at m s.top.func) → length s.top.values ≡ length (function_at m s.top.func).names → enter_block k (saved_state m s) label ≡ saved_state m (enter_block g s label)
  enter_saved s label phis room =
      ap (λ (h : Function). entered s (position_of h label) (values_in (saves_written m) (slice_get h.blocks (position_of h label)) (label_of (slice_get h.blocks s.top.block)) (grown count s.top.values))) (function_saved m s.top.func)
      ∙ ap (λ (b : ℕ). entered s b (values_in (saves_written m) (slice_get (saved_function f).blocks b) (label_of (slice_get (saved_function f).blocks s.top.block)) (grown count s.top.values))) (position_saved f label)
      ∙ ap (λ (o : Option Block). entered s to (values_in (saves_written m) o (label_of (slice_get (saved_function f).blocks s.top.block)) (grown count s.top.values))) (get_block f.coroutine to (length f.names) f.blocks)
      ∙ ap (λ (l : ℕ). entered s to (values_in (saves_written m) (option_map (saved_block f.coroutine (number_of_block f.coroutine to (length f.names) f.blocks)) (slice_get f.blocks to)) l (grown count s.top.values)))
      (ap label_of (get_block f.coroutine s.top.block (length f.names) f.blocks) ∙ label_saved f.coroutine (number_of_block f.coroutine s.top.block (length f.names) f.blocks) (slice_get f.blocks s.top.block))
      ∙ ap (entered s to) (values_saved count (number_of_block f.coroutine to (length f.names) f.blocks) f.coroutine (slice_get f.blocks to) (label_of (slice_get f.blocks s.top.block)) s.top.values
      (subst (λ (n : ℕ). Each (λ (p : Phi). p.result < n) (phis_of (slice_get f.blocks to))) (sym room) (phis_at f phis to)))
    where
      f : Function
      f = function_at m s.top.func

      count : ℕ
      count = save_count f

      to : ℕ
      to = position_of f label

  -- ---- branches

  windows_left : (s : State) (label : ℕ) → HasNamedTokens (function_at m s.top.func) → AreAllMoved (function_at m s.top.func) (left_windows g s label) (left_windows k (saved_state m s) label)
  windows_left s label named =
      subst (λ (ws : List Window). AreAllMoved f ws (left_windows k (saved_state m s) label)) (sym before)
      (subst (λ (vs : List Window). AreAllMoved f (filter (leaves (point_of s) (entry_point f label)) (windows_of f)) vs) (sym after)
      (left_kept f (point_of s) (entry_point f label) named))
    where
      f : Function
      f = function_at m s.top.func

      before : left_windows g s label ≡ filter (leaves (point_of s) (entry_point f label)) (windows_of f)
      before = ap (λ (x : Facts). filter (leaves (point_of s) (entry_point f label)) x.windows) (facts_are m s.top.func)

      after : left_windows k (saved_state m s) label ≡ filter (leaves (front_of f (point_of s)) (front_of f (entry_point f label))) (windows_of (saved_function f))
      after =
          ap (λ (x : Facts). filter (leaves (front_of f (point_of s)) (entry_point (function_at (saves_written m) s.top.func) label)) x.windows) (facts_saved m s.top.func)
          ∙ ap (λ (q : Point). filter (leaves (front_of f (point_of s)) q) (windows_of (saved_function f)))
          (ap (λ (h : Function). entry_point h label) (function_saved m s.top.func) ∙ entry_saved f label label refl)

  module _ (s : State) (label : ℕ) (phis : HasNamedPhis (function_at m s.top.func)) (room : length s.top.values ≡ length (function_at m s.top.func).names) (own : IsOwnedBy s (own_instance s)) where
    leave_saved : (o : Option (ℕ × Instance)) → IsOwnedBy s o → (ws vs : List Window) → AreAllMoved (function_at m s.top.func) ws vs →
        and_then (found Cause.State (with_number m o)) (λ (y : ℕ × Instance). ok_if (list_all (may_leave (length (map (saved_activation m) s.below)) y.1) vs) Cause.State (enter_block k (with_left (with_status (saved_state m s) y.0 y.1 Status.Running) false) label))
        ≡ saved_result m (and_then (found Cause.State o) (λ (y : ℕ × Instance). ok_if (list_all (may_leave (length s.below) y.1) ws) Cause.State (enter_block g (with_left (with_status s y.0 y.1 Status.Running) false) label)))
    leave_saved None h ws vs all = refl
    leave_saved (Some y) h ws vs all =
        ap (λ (b : Bool). ok_if b Cause.State (enter_block k (with_left (with_status (saved_state m s) y.0 (saved_instance m y.1) Status.Running) false) label))
        (ap (λ (n : ℕ). list_all (may_leave n (saved_instance m y.1)) vs) (length-map s.below (saved_activation m)) ∙ may_leave_saved m (function_at m s.top.func) (length s.below) y.1 (ap (function_at m) h) ws vs all)
        ∙ ap (λ (x : State). ok_if may Cause.State (enter_block k (with_left x false) label)) (with_instance_saved m s y.0 (record y.1 { status = Status.Running }))
        ∙ ap (λ (x : State). ok_if may Cause.State x) (enter_saved (with_left (with_status s y.0 y.1 Status.Running) false) label phis room)
        ∙ on may (enter_block g (with_left (with_status s y.0 y.1 Status.Running) false) label)
      where
        may : Bool
        may = list_all (may_leave (length s.below) y.1) ws

        on : (b : Bool) (x : State) → ok_if b Cause.State (saved_state m x) ≡ saved_result m (ok_if b Cause.State x)
        on true x = refl
        on false x = refl

    branch_saved : (ws vs : List Window) → AreAllMoved (function_at m s.top.func) ws vs → branch_leaving k (saved_state m s) label vs ≡ saved_result m (branch_leaving g s label ws)
    branch_saved [] [] h = ap Ok (enter_saved s label phis room)
    branch_saved [] (v ∷ vs) h = absurd h
    branch_saved (w ∷ ws) [] h = absurd h
    branch_saved (w ∷ ws) (v ∷ vs) h =
        ap (λ (o : Option (ℕ × Instance)). and_then (found Cause.State o) (λ (y : ℕ × Instance). ok_if (list_all (may_leave (length (map (saved_activation m) s.below)) y.1) (v ∷ vs)) Cause.State (enter_block k (with_left (with_status (saved_state m s) y.0 y.1 Status.Running) false) label))) (own_saved m s)
        ∙ leave_saved (own_instance s) own (w ∷ ws) (v ∷ vs) h

    -- a branch in the module whose saves are written out does the same
    pub go_to_saved : HasNamedTokens (function_at m s.top.func) → go_to k (saved_state m s) label ≡ saved_result m (go_to g s label)
    go_to_saved named = branch_saved (left_windows g s label) (left_windows k (saved_state m s) label) (windows_left s label named)

pub branches_same : (m : Module) (sizes : List Frame) (answers : List ℤ) (s : State) (label : ℕ) → HasNamedPhis (function_at m s.top.func) → HasNamedTokens (function_at m s.top.func) → HasRoom m s → IsOwnedBy s (own_instance s) → go_to (given (saves_written m) sizes answers) (saved_state m s) label ≡ saved_result m (go_to (given m sizes answers) s label)
branches_same m sizes answers s label phis named room own = go_to_saved m sizes answers s label phis room own named
